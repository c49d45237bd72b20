-- Deeds that ask nothing of the refs leave them as they are.
use Rattle.std.proofs.Common.{◌≡◌, ◌==◌, ℕ, List, Bool, true, false, Option, None, Some, refl, sym}
use Rattle.std.proofs.Common.{ap, subst, ◌∙◌}
use Rattle.server_rules.specs.Ground.{Ground}
use Rattle.ref_table.specs.Numbered.{part_under}
use Rattle.server_rules.specs.Request.{WorkInHand, Run}
use Rattle.ref_table.specs.Store.{Store}
use Rattle.server_rules.specs.Tenant.{ActorData, TenantState, seat_of, is_held}
use Rattle.server_rules.specs.Plan as deeds
use Rattle.server_rules.specs.Plan.{Plan, Outcome, quietly}
use Rattle.repl_asks.specs.Job.{EndingData}
use Rattle.server_rules.specs.Deeds.{for_actor, start_of}
use Rattle.server_rules.specs.Ending.{end_of, end_running, end_compared, with_left_attempt}
use Rattle.server_rules.specs.Starting.{interrupted_in}
use Rattle.server_rules.specs.declared.actor.Actor.{Actor}
use Rattle.ref_table.specs.Refs.{TableRefs, store_of, refs_after}
use Rattle.tenant_parts.specs.Serving.{RingRefTable, TableServes}
use Rattle.tenant_parts.proofs.Serving.{refs_after-seen}
use Rattle.server_rules.specs.DeedResult.{carried_out, deed_result}
use Rattle.tenant_world.proofs.Standing.{worn_by, starts-by, ends-by}
use Rattle.tenant_world.proofs.Ends.{held_by, closed_by}

-- the refs that a tenant reaches are the same
pub record Reached (old new : Store) : Type 0 where
  pub around : new.around ≡ old.around
  pub tenant : new.tenant ≡ old.tenant
  pub refs : new.mine.refs ≡ old.mine.refs

reached-all : (s : Store) → Reached s s
reached-all s = record { around = refl; tenant = refl; refs = refl }

-- the table serves it as before
pub serves-still : (table : RingRefTable) (old new : Store) (r : TableRefs) → TableServes table old r
    → Reached old new → TableServes table new r
serves-still table old new r serves same =
    let with_points : Store → Store = λ s. record {
      around = s.around;
      tenant = s.tenant;
      mine = record { refs = s.mine.refs; points = new.mine.points };
    } in
    record {
      stands = serves.stands;
      sound = serves.sound;
      reached =
          ap (λ x. record new { around = x }) same.around
          ∙ ap (λ x. record {
            around = old.around;
            tenant = x;
            mine = new.mine;
          }) same.tenant
          ∙ ap (λ x. record {
            around = old.around;
            tenant = old.tenant;
            mine = record { refs = x; points = new.mine.points };
          }) same.refs
          ∙ ap with_points serves.reached
          ∙ ap (λ t. store_of t new.mine.points r) (sym same.tenant);
    }

-- and all refs are as they were
pub refs-still : (old new : Store) (r : TableRefs) → old ≡ store_of old.tenant old.mine.points r
    → Reached old new → refs_after new r ≡ r
refs-still old new r seen same =
    ap (λ x. refs_after (record new { around = x }) r) same.around
    ∙ ap (λ x. refs_after (record { around = old.around; tenant = x; mine = new.mine }) r) same.tenant
    ∙ ap (λ x. refs_after (record {
      around = old.around;
      tenant = old.tenant;
      mine = record { refs = x; points = old.mine.points };
    }) r) same.refs
    ∙ refs_after-seen old r seen

-- the table serves it as before, and stands for the same refs
pub serves-all-still : (table : RingRefTable) (old new : Store) (r : TableRefs) → TableServes table old r
    → Reached old new → TableServes table new (refs_after new r)
serves-all-still table old new r serves same =
    subst (TableServes table new) (sym (refs-still old new r serves.reached same))
    (serves-still table old new r serves same)

pub hears-reached : (g : Ground) (q : TenantState) (s : Store) (piece : List ℕ)
    → Reached s (deed_result g s q (deeds.hears piece)).store
unfolding deed_result
hears-reached g q s piece = reached-all s

pub drains-reached : (g : Ground) (q : TenantState) (s : Store)
    → Reached s (deed_result g s q deeds.drains).store
unfolding deed_result
drains-reached g q s = reached-all s

-- the plans of an actor's deeds, where those of the actor leave them
by-reached : (q : TenantState) (s : Store) (a : Actor) (p : ActorData → Plan)
    → ((actor : ActorData) → Reached s (carried_out s (p actor)).store) → (b : Bool)
    → Reached s (carried_out s (worn_by q a p b)).store
by-reached q s a p leaves_refs true = reached-all s
by-reached q s a p leaves_refs false = there (part_under (seat_of a) q.actors) where
  there : (o : Option ActorData) → Reached s (carried_out s (for_actor o p)).store
  there None = reached-all s
  there (Some actor) = leaves_refs actor

pub starts-reached : (g : Ground) (q : TenantState) (s : Store) (a : Actor)
    → Reached s (deed_result g s q (deeds.starts a)).store
starts-reached g q s a =
    let p : ActorData → Plan = λ actor. quietly (start_of g a actor q actor.hand) in
    subst (λ d. Reached s d.store) (sym (starts-by g q s a))
    (by-reached q s a p (λ actor. reached-all s) (q.steps == 0))

left-reached : (s : Store) (a : Actor) (outcome : Outcome)
    → Reached s (carried_out s (with_left_attempt a outcome)).store
left-reached s a outcome = record { around = refl; tenant = refl; refs = refl }

end-reached : (g : Ground) (q : TenantState) (s : Store) (a : Actor) (actor : ActorData) (e : EndingData)
    (h : Option WorkInHand) → Reached s (carried_out s (end_of g a actor e q h)).store
end-reached g q s a actor e None = reached-all s
end-reached g q s a actor e (Some h) = runs h.running where
  compared : (run : Run) (b : Bool) (place : Option ℕ)
      → Reached s (carried_out s (end_compared a actor h run e q b place)).store
  compared run false place = reached-all s
  compared run true (Some place) = reached-all s
  compared run true None = record { around = refl; tenant = refl; refs = refl }

  held : (run : Run) (b : Bool) → Reached s (carried_out s (held_by g a actor h run e q b)).store
  held run true = reached-all s
  held run false = compared run (g.comparisons.is_same_job e.job run.job)
      (g.comparisons.difference e.trace run.trace)

  closed : (run : Run) (b : Bool) → Reached s (carried_out s (closed_by g a actor h run e q b)).store
  closed run true = left-reached s a (interrupted_in a h q)
  closed run false = held run (is_held q)

  runs : (r : Option Run) → Reached s (carried_out s (end_running g a actor h e q r)).store
  runs None = reached-all s
  runs (Some run) = closed run actor.is_closed

pub ends-reached : (g : Ground) (q : TenantState) (s : Store) (a : Actor) (e : EndingData)
    → Reached s (deed_result g s q (deeds.ends a e)).store
ends-reached g q s a e =
    let p : ActorData → Plan = λ actor. end_of g a actor e q actor.hand in
    subst (λ d. Reached s d.store) (sym (ends-by g q s a e))
    (by-reached q s a p (λ actor. end-reached g q s a actor e actor.hand) (q.steps == 0))
