-- What a table stands for: the refs of all owners, each with all its versions.
use Rattle.std.specs.Prelude.{◌≡◌, ℕ, List, Option, None, Some, ⊤, slice_get}
use Rattle.value_data.specs.Datum.{OwnerData}
use Rattle.ref_history.specs.Versioned.{Ref}
use Rattle.ref_history.specs.Changes.{RefsById}
use Rattle.ref_history.specs.declared.ref_id.RefId.{RefId}
use Rattle.ref_table.specs.Refs.{TableRefs}
use Rattle.ref_table.specs.Directory.{refs_of}
use Rattle.ref_table.specs.Departed.{ids_left}
use Rattle.ref_table.specs.declared.departed.Departed.{Departed}
use Rattle.ref_table.specs.declared.directory.Directory.{Directory}
use Rattle.ref_table.specs.declared.table.RefTable.{RefTable}

-- the id stands for the ref, or neither is there
abbrev pub Matches : RefsById → Option RefId → Option Ref → Type 0
Matches standing None None = ⊤
Matches standing None (Some r) = ⊥
Matches standing (Some id) None = ⊥
Matches standing (Some id) (Some r) = standing id r

-- of each owner the ids stand for the refs, one by one
abbrev pub StandFor : RefsById → (OwnerData → List RefId) → (OwnerData → List Ref) → Type 0
StandFor standing ids refs = (owner : OwnerData) (n : ℕ)
    → Matches standing (slice_get (ids owner) n) (slice_get (refs owner) n)

-- whose an id is: an owner's, or one of a batch that is left of a tenant that is gone
pub data Holder : Type 0 where
  of_owner : OwnerData → Holder
  of_batch : ℕ → Holder

abbrev pub ids_held : Directory → Departed → Holder → List RefId
ids_held d gone (of_owner owner) = refs_of d owner
ids_held d gone (of_batch batch) = ids_left gone batch

-- no two refs have one id
abbrev pub AreApart : {K : Type 0} → (K → List RefId) → Type 0
AreApart {K} ids = (o p : K) (n m : ℕ) (id : RefId)
    → slice_get (ids o) n ≡ Some id → slice_get (ids p) m ≡ Some id → (o ≡ p) × (n ≡ m)

-- what is left of those who are gone is kept
abbrev pub AreKept : RefsById → (ℕ → List RefId) → Type 0
AreKept standing ids = (batch n : ℕ) (id : RefId) → slice_get (ids batch) n ≡ Some id
    → (r : Ref) × standing id r

-- nothing is kept but these
abbrev pub KeepsNoMore : RefsById → (Holder → List RefId) → Type 0
KeepsNoMore standing ids = (id : RefId) (r : Ref) → standing id r
    → (holder : Holder) × (n : ℕ) × (slice_get (ids holder) n ≡ Some id)

abbrev pub counter_of : {H : Type 0} → RefTable H → ℕ
counter_of t = t.counter

pub record TableStands {H : Type 0} (stands : H → RefId → Ref → Type 0) (t : RefTable H) (r : TableRefs)
    : Type 0 where
  pub counter : counter_of t ≡ r.counter
  pub refs : StandFor (stands t.history) (refs_of t.directory) r.owned
  pub apart : AreApart (ids_held t.directory t.departed)
  pub left : AreKept (stands t.history) (ids_left t.departed)
  pub no_more : KeepsNoMore (stands t.history) (ids_held t.directory t.departed)
