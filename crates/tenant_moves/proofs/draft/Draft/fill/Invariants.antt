use Rattle.std.proofs.Common.{◌≡◌, ℕ, List, map, deque_len}
use Rattle.bencode_wire.specs.Inside.View.{tree_view}
use Rattle.server_rules.specs.Ground.{Ground}
use Rattle.server_rules.specs.Hearing.{with_messages}
use Rattle.server_rules.specs.Tenant.{TenantState}
use Rattle.tenant_moves.specs.Scene.{scene, Drafts, IsKept}
use Rattle.tenant_moves.proofs.draft.Draft.fill.Given as goal

-- what is left makes of what was reached what all make of what was at first
abbrev pub invariant-loop-message : goal.invariant-loop-message
invariant-loop-message l =
    let old = scene l.fn.self l.fn.sessions l.fn.actors in
    let now = scene l.self l.sessions l.actors in
    record {
      kept : IsKept old now;
      heard : (g : Ground) (t : ℕ) (q : TenantState) (waiting : List (List ℕ)) → Drafts g t q waiting old
          → (r : TenantState) × Drafts g t r waiting now
          × (with_messages g t (map tree_view l.messages.items) r ≡ with_messages g t (map tree_view l.fn.messages.items) q);
    }

abbrev pub decreases-loop-message : goal.decreases-loop-message
decreases-loop-message l = deque_len l.messages
