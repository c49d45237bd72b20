-- The history of a shared ref has the bounds with which the text made it.
use Rattle.std.proofs.Common.{◌≡◌, ◌∙◌, ℕ, zero, suc, List, [], ◌∷◌, ◌++◌, Option, None, Some}
use Rattle.std.proofs.Common.{Result, Ok, Err, slice_get, refl, sym, ap, subst, arith}
use Rattle.std.specs.Prelude.{option_map}
use Rattle.std.specs.List.{AllByRecursion}
use Rattle.value_data.specs.Datum.{Datum, Items, no_items, item}
use Rattle.repl_values.specs.Failure.{Failure, ◌>>=◌}
use Rattle.repl_reader.specs.Fault.{FaultData}
use Rattle.repl_asks.specs.Exchange as exchange
use Rattle.repl_asks.specs.Exchange.{AskData, AnswerData}
use Rattle.repl_asks.specs.Job.{JobData}
use Rattle.repl_asks.specs.InteractionTree.{InteractionTree, finished, asks}
use Rattle.server_rules.specs.Readings.{Readings}
use Rattle.ref_history.specs.Versioned.{Ref}
use Rattle.server_rules.specs.Shared.{SharedData, nothing_shared, told_in_text, shared_after}
use Rattle.server_rules.specs.Shared.{left_by_form, when_told_in_text, shared_by, text_job}
use Rattle.server_rules.specs.Shared.{shared_by_forms, unless_unread, shared_by_text}
use Rattle.server_rules.specs.Machine.World.{opened_world, run}
use Rattle.repl_core.specs.Configured.{shared_text}
use Rattle.repl_core.specs.SharedBounds.{SharedBoundsAreFixed}
use Rattle.repl_core.proofs.SharedRefs.{shown_at, run-shows}

abbrev IsFixed : Ref → Type 0
IsFixed r = (r.least ≡ 0) × (r.most ≡ 10)

abbrev AreFixed : List Ref → Type 0
AreFixed rs = AllByRecursion IsFixed rs

fixed-more : (rs : List Ref) (r : Ref) → AreFixed rs → IsFixed r → AreFixed (rs ++ r ∷ [])
fixed-more [] r all it = (it, tt)
fixed-more (x ∷ xs) r all it = (all.0, fixed-more xs r all.1 it)

fixed-at : (rs : List Ref) (n : ℕ) (r : Ref) → AreFixed rs → slice_get rs n ≡ Some r → IsFixed r
fixed-at [] n r all is = absurd (cc)
fixed-at (x ∷ xs) zero r all is = let same : x ≡ r = cc in subst IsFixed same all.0
fixed-at (x ∷ xs) (suc n) r all is = fixed-at xs n r all.1 is

-- What a text makes

-- it comes to something of which all shared refs have these bounds
abbrev Fixes : Result SharedData Failure → Type 0
Fixes made = (out : SharedData) → made ≡ Ok out → AreFixed out.refs

stays-fixed : (s : SharedData) → AreFixed s.refs → Fixes (Ok s)
stays-fixed s all out e = let same : s ≡ out = cc in subst (λ it. AreFixed it.refs) same all

fails-fixed : (f : Failure) → Fixes (Err f)
fails-fixed f out e = absurd (cc)

then-fixed : (made : Result SharedData Failure) (next : SharedData → Result SharedData Failure)
    → Fixes made → ((s : SharedData) → AreFixed s.refs → Fixes (next s)) → Fixes (made >>= next)
then-fixed (Ok s) next fixes more = more s (fixes s refl)
then-fixed (Err f) next fixes more = fails-fixed f

after-fixed : (ask : AskData) (s : SharedData) → AreFixed s.refs
    → AreFixed (shared_after ask s).refs
after-fixed (exchange.define namespace name binding) s all = all
after-fixed (exchange.new_ref d least most) s all = fixed-more s.refs _ all (refl, refl)
after-fixed ask s all = all

told-fixed : (o : Option AnswerData) (behind : AnswerData → Result SharedData Failure)
    → ((answer : AnswerData) → Fixes (behind answer)) → Fixes (when_told_in_text o behind)
told-fixed None behind more = fails-fixed _
told-fixed (Some answer) behind more = more answer

left-fixed : (end : Result Datum Failure) (s : SharedData) → AreFixed s.refs
    → Fixes (left_by_form end s)
left-fixed (Ok d) s all = stays-fixed s all
left-fixed (Err f) s all = fails-fixed f

form-fixed : (tree : InteractionTree) (s : SharedData) → AreFixed s.refs → Fixes (shared_by tree s)
form-fixed (finished end) s all = left-fixed end.result s all
form-fixed (asks ask behind) s all =
    told-fixed (told_in_text ask s) (λ answer. shared_by (behind answer) (shared_after ask s))
    (λ answer. form-fixed (behind answer) (shared_after ask s) (after-fixed ask s all))

forms-fixed : (evaluation : JobData → InteractionTree) (ds : Items) (s : SharedData)
    → AreFixed s.refs → Fixes (shared_by_forms evaluation ds s)
forms-fixed evaluation no_items s all = stays-fixed s all
forms-fixed evaluation (item d ds) s all =
    then-fixed (shared_by (evaluation (text_job d)) s) (shared_by_forms evaluation ds)
    (form-fixed (evaluation (text_job d)) s all)
    (λ next fixed. forms-fixed evaluation ds next fixed)

read-fixed : (o : Option FaultData) (s : SharedData) → AreFixed s.refs → Fixes (unless_unread o s)
read-fixed None s all = stays-fixed s all
read-fixed (Some f) s all = fails-fixed _

text-fixed : (readings : Readings) (evaluation : JobData → InteractionTree) (text : List ℕ)
    → Fixes (shared_by_text readings evaluation text)
unfolding shared_by_text
text-fixed readings evaluation text =
    let program = readings.program text in
    then-fixed (shared_by_forms evaluation program.forms nothing_shared)
    (unless_unread program.fault) (forms-fixed evaluation program.forms nothing_shared tt)
    (λ s fixed. read-fixed program.fault s fixed)

-- No step changes them

pub bounds-fixed : SharedBoundsAreFixed
bounds-fixed g config steps n r configured is = from (slice_get g.shared.refs n) refl (sym (ap
    (option_map (shown_at 0)) is) ∙ (run-shows 0 g steps (opened_world g) (omega arith)).1 n)
  where
    from : (o : Option Ref) → slice_get g.shared.refs n ≡ o
        → Some (shown_at 0 r) ≡ option_map (shown_at 0) o → IsFixed r
    from None at e = absurd (cc)
    from (Some first) at e =
        let made = fixed-at g.shared.refs n first
        (text-fixed g.readings g.evaluation (shared_text config.shared) g.shared configured.shared)
        at in
        let shown : shown_at 0 r ≡ shown_at 0 first = cc in
        (ap (λ it. it.least) shown ∙ made.0, ap (λ it. it.most) shown ∙ made.1)
