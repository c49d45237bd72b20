use Rattle.std.proofs.Common.{◌≡◌, ◌∙◌, ap, subst, ℕ, List, IfOk}
use Rattle.repl_sessions.specs.Named.{ids_of}
use Rattle.repl_sessions.proofs.Naming.{texts-listed}
use Rattle.repl_sessions.proofs.sessions.Sessions.list.Goals as goal

pub returns : goal.returns
returns c =
    let P = λ (l : List (List ℕ)). IfOk c.texts.result (λ v. v.items ≡ l) in
    subst P (texts-listed c.self.inside.ids c.self.inside.live.entries ∙ ap ids_of c.self.view_is) c.texts.ensures
