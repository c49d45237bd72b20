use Rattle.std.proofs.Common.{◌≡◌, ◌≢◌, ℕ, ◌<◌, Some, slice_get}
use Rattle.std.specs.Prelude.{◌↔◌}
use Rattle.ref_history.specs.Versioned.{Ref}
use Rattle.ref_history.specs.Changes.{IsAbsent}
use Rattle.ref_history.specs.declared.ref_id.RefId.{RefId}
use Rattle.ref_table.proofs.table.drop_refs.Given as goal

abbrev pub invariant-loop-id : goal.invariant-loop-id
invariant-loop-id g l = record {
  gone : (n : ℕ) (id : RefId) → n < l.id-index → slice_get l.ids n ≡ Some id
      → IsAbsent (g.H.History.stands l.history) id;
  others : (other : RefId) → ((n : ℕ) → slice_get l.ids n ≢ Some other) → (r : Ref)
      → g.H.History.stands l.fn.history other r ↔ g.H.History.stands l.history other r;
}
