use Rattle.std.proofs.Common.{◌≡◌, ◌∙◌, ap, subst, ℕ, List, IfOk, map, string_bytes}
use Rattle.std.specs.BTreeSet.{keys}
use Rattle.repl_sessions.specs.Named.{NamedSessions, ids_of}
use Rattle.repl_sessions.specs.Inside.Leaving.{remaining_named}
use Rattle.repl_sessions.proofs.Leavers.{texts-remaining}
use Rattle.repl_sessions.proofs.sessions.Sessions.list_but.Goals as goal

pub returns : goal.returns
returns c =
    let leaving = keys c.args.leaving.now in
    let P = λ (l : List (List ℕ)). IfOk c.strings.result (λ v. map string_bytes v.items ≡ l) in
    subst P (texts-remaining c.self.inside.ids leaving c.self.inside.live.entries
    ∙ ap (λ (s : NamedSessions). ids_of (remaining_named leaving s)) c.self.view_is) c.strings.ensures
