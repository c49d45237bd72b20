-- What becomes of the refs that a history stands for.
use Rattle.std.specs.Prelude.{◌≢◌, ◌↔◌}
use Rattle.ref_history.specs.Versioned.{Ref}
use Rattle.ref_history.specs.declared.ref_id.RefId.{RefId}

-- which ref an id stands for
abbrev pub RefsById : Type 1
RefsById = RefId → Ref → Type 0

-- no ref has this id
abbrev pub IsAbsent : RefsById → RefId → Type 0
IsAbsent stands id = (r : Ref) → stands id r → ⊥

-- every id stands for what it stood for
abbrev pub SameRefs : RefsById → RefsById → Type 0
SameRefs old new = (id : RefId) (r : Ref) → old id r ↔ new id r

-- every other id stands for what it stood for
abbrev pub SameBut : RefId → RefsById → RefsById → Type 0
SameBut id old new = (other : RefId) → other ≢ id → (r : Ref) → old other r ↔ new other r

-- the ref that has this id became another, if it is there, and no other ref did
pub record Changed (id : RefId) (f : Ref → Ref) (old new : RefsById) : Type 0 where
  pub changed : (r : Ref) → old id r → new id (f r)
  pub absent : IsAbsent old id → IsAbsent new id
  pub others : SameBut id old new
