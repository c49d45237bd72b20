-- What a journal says that a tenant was given.
use Rattle.std.proofs.Common.{◌≡◌, ◌∙◌, ◌==◌, ℕ, List, [], ◌∷◌, ◌++◌, map, Bool, true, false, refl, sym}
use Rattle.std.proofs.Common.{ap, ap₂, subst, MatchBool, if◌then◌else◌}
use Rattle.std.specs.Prelude.{⊤}
use Rattle.server_rules.specs.Ground.{Ground}
use Rattle.server_rules.specs.Isolation.Privacy.{IsPrivateFor, Private, IsAccepted, FirstOpen, FirstOpenAt}
use Rattle.server_rules.specs.Machine.Turns.{Turn, given, goes, whose, whose_step, step_of, turn_step}
use Rattle.server_rules.specs.Machine.Turns.{world_after, bytes_given, serve, turns_of_tenant}
use Rattle.server_rules.specs.Machine.World.{World, Step, opens, does, closes, accepted, step, world_or}
use Rattle.server_rules.specs.Machine.World.{opened_world}
use Rattle.server_rules.specs.Plan.{hears, starts, asks_for, ends, drains, StepAnswer}
use Rattle.server_rules.proofs.Alone.{before-alone}
use Rattle.journal_book.specs.Journal.{EntryData, IsJournal}
use Rattle.journal_book.specs.Alone.{bytes_to, NamesNoSharedIn, own_steps, turn_for, own_turns, IsHonest}

-- Turns that make the steps of these entries, one after another.
abbrev Follows : Ground → World → List Turn → List EntryData → Type 0
Follows g w [] [] = ⊤
Follows g w [] (e ∷ es) = ⊥
Follows g w (turn ∷ turns) [] = ⊥
Follows g w (turn ∷ turns) (e ∷ es) =
    (step_of g w turn ≡ e.step) × (whose turn ≡ whose_step e.step)
    × Follows g (world_or w (step g w e.step)) turns es

made : (g : Ground) (w after : World) (turn : Turn) (e : EntryData)
    → step_of g w turn ≡ e.step → step g w e.step ≡ accepted after e.answer
    → turn_step g w turn ≡ accepted after e.answer
made g w after turn e is makes = ap (step g w) is ∙ makes

serve-follows : (g : Ground) (t : ℕ) (w now : World) (turns : List Turn) (es : List EntryData)
    → IsJournal g w es now → Follows g w turns es → serve g w turns t ≡ bytes_to t es
serve-follows g t w now [] [] leads follows = refl
serve-follows g t w now [] (e ∷ es) leads follows = absurd follows
serve-follows g t w now (turn ∷ turns) [] leads follows = absurd follows
serve-follows g t w now (turn ∷ turns) (e ∷ es) leads follows =
    let after = leads.0 in
    let is = made g w after turn e follows.0 leads.1 in
    ap₂ ◌++◌
    (ap₂ (λ (n : ℕ) (b : List ℕ). if t == n then b else []) follows.1 (ap bytes_given is))
    (ap (λ v. serve g v turns t) (ap (world_or w) is)
    ∙ serve-follows g t after now turns es leads.2
    (subst (λ v. Follows g v turns es) (ap (world_or w) leads.1) follows.2))

either : {A B : Type 0} (b : Bool) → A → B → MatchBool b A B
either true x y = x
either false x y = y

first-at : (g : Ground) (w after : World) (t : ℕ) (Later : Type 0) (turn : Turn) (answer : StepAnswer)
    → turn_step g w turn ≡ accepted after answer → Later → FirstOpenAt g w t Later turn
first-at g w after t Later (given (opens u)) answer is later =
    either (t == u) (subst IsAccepted (sym is) tt) later
first-at g w after t Later (given (does u d)) answer is later = later
first-at g w after t Later (given (closes u)) answer is later = later
first-at g w after t Later (goes u a) answer is later = later

first-follows : (g : Ground) (t : ℕ) (w now : World) (turns : List Turn) (es : List EntryData)
    → IsJournal g w es now → Follows g w turns es → FirstOpen g w turns t
first-follows g t w now [] es leads follows = tt
first-follows g t w now (turn ∷ turns) [] leads follows = absurd follows
first-follows g t w now (turn ∷ turns) (e ∷ es) leads follows =
    let after = leads.0 in
    let is = made g w after turn e follows.0 leads.1 in
    first-at g w after t (FirstOpen g (world_after g w turn) turns t) turn e.answer is
    (subst (λ v. FirstOpen g v turns t) (sym (ap (world_or w) is))
    (first-follows g t after now turns es leads.2
    (subst (λ v. Follows g v turns es) (ap (world_or w) leads.1) follows.2)))

private-follows : (g : Ground) (t : ℕ) (w now : World) (turns : List Turn) (es : List EntryData)
    → IsJournal g w es now → Follows g w turns es → NamesNoSharedIn t es → Private g w turns t
private-follows g t w now [] es leads follows private = tt
private-follows g t w now (turn ∷ turns) [] leads follows private = absurd follows
private-follows g t w now (turn ∷ turns) (e ∷ es) leads follows private =
    let after = leads.0 in
    let is = made g w after turn e follows.0 leads.1 in (
      subst (IsPrivateFor t) (sym follows.0) private.0,
      subst (λ v. Private g v turns t) (sym (ap (world_or w) is))
          (private-follows g t after now turns es leads.2
          (subst (λ v. Follows g v turns es) (ap (world_or w) leads.1) follows.2) private.1),
    )

follows-alone : (g : Ground) (t : ℕ) (now : World) (turns : List Turn) (es : List EntryData)
    → IsJournal g (opened_world g) es now → Follows g (opened_world g) turns es → NamesNoSharedIn t es
    → bytes_to t es ≡ serve g (opened_world g) (turns_of_tenant t turns) t
follows-alone g t now turns es leads follows private =
    let w = opened_world g in
    sym (serve-follows g t w now turns es leads follows)
    ∙ before-alone g t turns w w (λ n. tt) (λ n. tt) refl refl
    (first-follows g t w now turns es leads follows)
    (private-follows g t w now turns es leads follows private)

-- The steps as they are

abbrev given-by : EntryData → Turn
given-by e = given e.step

given-follows : (g : Ground) (w : World) (es : List EntryData) → Follows g w (map given-by es) es
given-follows g w [] = tt
given-follows g w (e ∷ es) = (refl, refl, given-follows g (world_or w (step g w e.step)) es)

given-own : (t : ℕ) (es : List EntryData) → turns_of_tenant t (map given-by es) ≡ own_steps t es
given-own t [] = refl
given-own t (e ∷ es) =
    ap (λ ts. if t == whose_step e.step then given e.step ∷ ts else ts) (given-own t es)

pub steps-alone : (g : Ground) (t : ℕ) (now : World) (es : List EntryData)
    → IsJournal g (opened_world g) es now → NamesNoSharedIn t es
    → bytes_to t es ≡ serve g (opened_world g) (own_steps t es) t
steps-alone g t now es leads private =
    follows-alone g t now (map given-by es) es leads (given-follows g (opened_world g) es) private
    ∙ ap (λ ts. serve g (opened_world g) ts t) (given-own t es)

-- The turns of a tenant that is honest

abbrev honest-or-given : Bool → Step → Turn
honest-or-given b s = if b then turn_for s else given s

abbrev honest-by : ℕ → EntryData → Turn
honest-by t e = honest-or-given (t == whose_step e.step) e.step

whose-turn_by : (s : Step) → whose (turn_for s) ≡ whose_step s
whose-turn_by (opens t) = refl
whose-turn_by (closes t) = refl
whose-turn_by (does t (hears piece)) = refl
whose-turn_by (does t (starts a)) = refl
whose-turn_by (does t (asks_for a ask)) = refl
whose-turn_by (does t (ends a e)) = refl
whose-turn_by (does t drains) = refl

whose-honest : (b : Bool) (s : Step) → whose (honest-or-given b s) ≡ whose_step s
whose-honest true s = whose-turn_by s
whose-honest false s = refl

step-honest : (g : Ground) (w : World) (b : Bool) (s : Step)
    → MatchBool b (step_of g w (turn_for s) ≡ s) ⊤ → step_of g w (honest-or-given b s) ≡ s
step-honest g w true s is = is
step-honest g w false s is = refl

honest-follows : (g : Ground) (t : ℕ) (w : World) (es : List EntryData) → IsHonest g w t es
    → Follows g w (map (honest-by t) es) es
honest-follows g t w [] honest = tt
honest-follows g t w (e ∷ es) honest = (
  step-honest g w (t == whose_step e.step) e.step honest.0,
  whose-honest (t == whose_step e.step) e.step,
  honest-follows g t (world_or w (step g w e.step)) es honest.1,
)

own-honest : (b : Bool) (s : Step) (ts : List Turn)
    → (if b then honest-or-given b s ∷ ts else ts) ≡ (if b then turn_for s ∷ ts else ts)
own-honest true s ts = refl
own-honest false s ts = refl

honest-own : (t : ℕ) (es : List EntryData) → turns_of_tenant t (map (honest-by t) es) ≡ own_turns t es
honest-own t [] = refl
honest-own t (e ∷ es) =
    let b : Bool = t == whose_step e.step in
    let ts = turns_of_tenant t (map (honest-by t) es) in
    ap (λ n. if t == n then honest-by t e ∷ ts else ts) (whose-honest b e.step)
    ∙ own-honest b e.step ts
    ∙ ap (λ ts. if b then turn_for e.step ∷ ts else ts) (honest-own t es)

pub turns-alone : (g : Ground) (t : ℕ) (now : World) (es : List EntryData)
    → IsJournal g (opened_world g) es now → NamesNoSharedIn t es → IsHonest g (opened_world g) t es
    → bytes_to t es ≡ serve g (opened_world g) (own_turns t es) t
turns-alone g t now es leads private honest =
    follows-alone g t now (map (honest-by t) es) es leads (honest-follows g t (opened_world g) es honest)
    private
    ∙ ap (λ ts. serve g (opened_world g) ts t) (honest-own t es)
