use Rattle.std.proofs.Common.{◌≡◌, ◌∙◌, ap, sym, ℕ, List, [], ◌∷◌, ◌++◌, append-nil, false, true, map, string_bytes, rules, tests}
use Rattle.std.specs.BTreeSet.{keys}
use Rattle.std.specs.Map.Iter.{deref}
use Rattle.std.proofs.lemmas.List.{map-append}
use Rattle.repl_sessions.specs.Ids.{id_text}
use Rattle.repl_sessions.specs.Inside.Leaving.{is_leaving, without_leaving}
use Rattle.repl_sessions.proofs.Leavers.{contains-leaving, one-listed}
use Rattle.repl_sessions.proofs.leaving.strings.Goals as goal

pub loop-number-preserved-in_ok-push : goal.loop-number-preserved-in_ok-push
loop-number-preserved-in_ok-push c =
    let ids = c.args.ids.now in
    let leaving = keys c.args.leaving.now in
    let n = c.in-Some.number.now in
    let no : c.contains.result ≡ false = search (rules, tests) in
    let stays : is_leaving leaving n ≡ false = sym (contains-leaving leaving n) ∙ sym c.contains.ensures ∙ no in
    let items : c.push.new.self.items ≡ c.loop-number.texts.items ++ c.in_ok-string.field-0 ∷ [] = search rules in
    ap (map string_bytes) items ∙ map-append string_bytes c.loop-number.texts.items (c.in_ok-string.field-0 ∷ [])
    ∙ ap (λ (l : List (List ℕ)). l ++ string_bytes c.in_ok-string.field-0 ∷ []) c.loop-number.invariant
    ∙ ap (λ (t : List ℕ). map (id_text ids) (without_leaving leaving (map deref c.loop-number.yielded)) ++ t ∷ []) c.in_ok-string.ensures
    ∙ sym (ap (λ (ns : List ℕ). map (id_text ids) (without_leaving leaving ns)) (map-append deref c.loop-number.yielded (c.in-Some.number ∷ []))
    ∙ one-listed ids leaving (map deref c.loop-number.yielded) n false stays)

pub loop-number-preserved : goal.loop-number-preserved
loop-number-preserved c =
    let ids = c.args.ids.now in
    let leaving = keys c.args.leaving.now in
    let n = c.in-Some.number.now in
    let yes : c.contains.result ≡ true = search (rules, tests) in
    let leaves : is_leaving leaving n ≡ true = sym (contains-leaving leaving n) ∙ sym c.contains.ensures ∙ yes in
    c.loop-number.invariant ∙ sym (append-nil _)
    ∙ sym (ap (λ (ns : List ℕ). map (id_text ids) (without_leaving leaving ns)) (map-append deref c.loop-number.yielded (c.in-Some.number ∷ []))
    ∙ one-listed ids leaving (map deref c.loop-number.yielded) n true leaves)
