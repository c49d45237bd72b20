use Rattle.std.proofs.Common.{◌≡◌, ◌∙◌, ap, sym, subst, refl, ℕ, Option, Some, None, option_map}
use Rattle.std.proofs.Common.{unwrap_or, is_some, IsSome, IsTrue, IfOk}
use Rattle.std.specs.BTreeMap.{BTreeMap}
use Rattle.std.specs.Map.{lookup}
use Rattle.repl_sessions.specs.Ids.{IdsData}
use Rattle.repl_sessions.specs.State.{StateData, fresh}
use Rattle.repl_sessions.specs.Inside.StateView.{state_view}
use Rattle.repl_sessions.specs.Sessions.{state_of, cloned_state}
use Rattle.repl_sessions.specs.Named.{NamedSessions}
use Rattle.repl_sessions.specs.declared.state.SessionState.{SessionState}
use Rattle.repl_sessions.proofs.Numbers.{at, state-found}
use Rattle.repl_sessions.proofs.SeenSessions.{seen}
use Rattle.repl_sessions.proofs.sessions.Sessions.cloned_state.Goals as goal

state_is : (live : BTreeMap ℕ SessionState) (n opened : ℕ) (ids : IdsData) (s : NamedSessions) → seen ids opened live.entries ≡ s
    → option_map state_view (lookup (at n) live.entries) ≡ state_of s.sessions n
state_is live n opened ids s is = sym (state-found live.entries n) ∙ ap (λ (x : NamedSessions). state_of x.sessions n) is

some-found : (o : Option SessionState) → IsTrue (is_some (option_map state_view o)) → IsSome o
some-found (Some x) h = refl
some-found None h = h

pub returns-in-Some : goal.returns-in-Some
returns-in-Some c =
    let was = c.self.inside in
    let found = ap (option_map state_view) (sym c.index.ensures) ∙ state_is was.live c.in-Some.number was.opened was.ids c.args.self.now c.self.view_is in
    let given = ap (cloned_state c.args.self.now.sessions) c.in-Some.is in
    let P = λ (d : StateData). IfOk c.copy.result (λ s. state_view s ≡ d) in
    subst P (ap (λ (o : Option StateData). unwrap_or o fresh) found ∙ sym given) c.copy.ensures

pub index-requires : goal.index-requires
index-requires c =
    let was = c.self.inside in
    let found = state_is was.live c.in-Some.number was.opened was.ids c.args.self.now c.self.view_is in
    some-found _ (subst (λ (o : Option StateData). IsTrue (is_some o)) (sym found) (c.requires c.in-Some.number c.in-Some.is))
