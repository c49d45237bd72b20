use Rattle.std.proofs.Common.{◌∙◌, ap, ℕ, List}
use Rattle.std.specs.List.{each_same}
use Rattle.std.proofs.lemmas.List.Elements.{same_from_all_zip}
use Rattle.repl_sessions.specs.Sessions.{SessionData}
use Rattle.repl_sessions.proofs.Numbers.{clone-view, clone-numbers}
use Rattle.repl_sessions.proofs.Keeping.{copied-keeps}
use Rattle.repl_sessions.proofs.sessions.Sessions.copy.Goals as goal

pub invariant_of-result : goal.invariant_of-result
invariant_of-result c =
    copied-keeps c.self.inside.ids c.self.inside.opened c.self.inside.live c.in_ok-clone.field-0 c.self.inside.index c.in_ok-clone-2.field-0 c.self.invariant
    (clone-numbers c.self.inside.live.entries c.in_ok-clone.field-0.entries c.in_ok-clone.ensures.cases)
    (same_from_all_zip _ c.self.inside.index.keys c.in_ok-clone-2.field-0.keys c.in_ok-clone-2.ensures.cases
    (λ x y h. ap (λ (t : List ℕ). (t, y.1)) (each_same x.0 y.0 h.0.whole) ∙ ap (λ (n : ℕ). (x.0, n)) h.1))

pub returns : goal.returns
returns c =
    ap (λ (l : List SessionData). record { ids = c.self.inside.ids; sessions = record { opened = c.self.inside.opened; live = l } })
    (clone-view c.self.inside.live.entries c.in_ok-clone.field-0.entries c.in_ok-clone.ensures.cases)
    ∙ c.self.view_is
