use Rattle.std.proofs.Common.{◌∙◌, sym, ap, ℕ, List, true≢false}
use Rattle.std.specs.BTreeSet.{keys}
use Rattle.repl_sessions.specs.Inside.Leaving.{remaining_named}
use Rattle.repl_sessions.specs.Named.{NamedSessions}
use Rattle.repl_sessions.specs.Sessions.{SessionsData}
use Rattle.ref_table.specs.Numbered.{Entry}
use Rattle.server_rules.specs.Tenant.{ActorData}
use Rattle.tenant_parts.specs.View.{actors_view}
use Rattle.tenant_moves.specs.Scene.{all_vacated}
use Rattle.tenant_moves.proofs.Remaining.{remaining_sessions-first, remaining-all}
use Rattle.tenant_moves.proofs.handling.close_all.Goals as goal

pub loop-number-preserved : goal.loop-number-preserved
loop-number-preserved c =
    let was = c.loop-number in
    let left = keys c.pop_first.new.self in
    record {
      sessions = ap (λ (s : NamedSessions). remaining_named left s) c.close.ensures
          ∙ sym (ap (λ (x : SessionsData). record was.sessions { sessions = x }) (remaining_sessions-first c.in-Some.number left was.sessions.sessions))
          ∙ sym (ap (λ (l : List ℕ). remaining_named l was.sessions) c.in-Some.ensures.removal)
          ∙ was.invariant.sessions;
      actors = ap (λ (es : List (Entry ActorData)). all_vacated left es) c.vacate.ensures
          ∙ sym (ap (λ (l : List ℕ). all_vacated l (actors_view was.actors)) c.in-Some.ensures.removal)
          ∙ was.invariant.actors;
    }

pub returns-clause-sessions : goal.returns-clause-sessions
returns-clause-sessions c =
    remaining-all c.loop-number.sessions (keys c.loop-number.leaving) (λ some. true≢false (sym (c.in_default.ensures.variant.1 some)))
    ∙ c.loop-number.invariant.sessions
