-- What is kept under the ids stands for the refs.
use Rattle.std.specs.Prelude.{◌≡◌, Some}
use Rattle.slab.specs.Slab.{get}
use Rattle.ref_history.specs.Versioned.{Ref}
use Rattle.ref_history.specs.Kept.{KeptStands, HasRoom}
use Rattle.ref_history.specs.declared.kept_ref.KeptRef.{KeptRef}
use Rattle.ref_history.specs.declared.ref_id.RefId.{RefId}
use Rattle.ref_history.specs.declared.list_history.ListHistory.{ListHistory}

abbrev pub ListStands : ListHistory → RefId → Ref → Type 0
ListStands h id r = (k : KeptRef) × (get h.refs id.place ≡ Some k) × KeptStands k r

abbrev pub ListHasRoom : ListHistory → RefId → Type 0
ListHasRoom h id = (k : KeptRef) → get h.refs id.place ≡ Some k → HasRoom k
