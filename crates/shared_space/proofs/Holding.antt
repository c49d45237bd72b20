-- The shared refs, as one more is made and as they are read.
use Rattle.std.proofs.Common.{◌≡◌, ◌<◌, ◌^◌, ◌==◌, ℕ, List, [], ◌∷◌, ◌++◌, Bool, true, false}
use Rattle.std.proofs.Common.{Option, None, Some, refl, sym, ap, ◌∙◌, slice_get, if◌then◌else◌, arith, is_some}
use Rattle.std.specs.Prelude.{option_map}
use Rattle.std.specs.List.{AllByRecursion}
use Rattle.value_data.specs.Datum.{Datum, OwnerData, shared, tenant}
use Rattle.repl_asks.specs.Transactions.{RefNameData}
use Rattle.repl_asks.specs.Exchange.{reading, found}
use Rattle.ref_table.specs.Calls.{performed, reads, read_by}
use Rattle.server_rules.specs.Shared.{value_in_ref}
use Rattle.ref_table.specs.Store.{Store, ref_named, ref_of, newest_in_ref}
use Rattle.ref_history.specs.Versioned.{Ref, new_ref}
use Rattle.ref_history.specs.RingHistories.{RingStands}
use Rattle.ref_table.specs.Refs.{TableRefs, store_of, refs_after, with_ref}
use Rattle.ref_table.specs.Standing.{TableStands}
use Rattle.tenant_parts.specs.Serving.{RingRefTable}
use Rattle.tenant_parts.specs.Sound.{IsSoundRef}
use Rattle.tenant_parts.proofs.Serving.{refs_after-seen}
use Rattle.shared_space.specs.Holding.{HoldsRefs}

abbrev pub first_shared : Datum → Ref
first_shared d = new_ref (record { stamp = 0; content = d }) 0 10

all-added : (rs : List Ref) (r : Ref) → AllByRecursion IsSoundRef rs → IsSoundRef r
    → AllByRecursion IsSoundRef (rs ++ r ∷ [])
all-added [] r all it = (it, tt)
all-added (x ∷ xs) r all it = (all.0, all-added xs r all.1 it)

first-sound : (d : Datum) → IsSoundRef (first_shared d)
first-sound d = record { kept = (omega arith); least = (omega arith); most = (omega arith); value = refl }

pub holds-made : (rs : List Ref) (d : Datum) (table new : RingRefTable) (h : HoldsRefs table rs)
    → TableStands RingStands new (with_ref shared (first_shared d) h.all)
    → HoldsRefs new (rs ++ first_shared d ∷ [])
holds-made rs d table new h stands = record {
  all = with_ref shared (first_shared d) h.all;
  stands = stands;
  counter = h.counter;
  common = ap (λ xs. xs ++ first_shared d ∷ []) h.common;
  none = λ t. h.none t;
  sound = all-added rs (first_shared d) h.sound (first-sound d);
}

-- a table that stands for the same refs holds the same
pub holds-still : (rs : List Ref) (table new : RingRefTable) (h : HoldsRefs table rs)
    → TableStands RingStands new h.all → HoldsRefs new rs
holds-still rs table new h stands = record {
  all = h.all;
  stands = stands;
  counter = h.counter;
  common = h.common;
  none = h.none;
  sound = h.sound;
}

read-stays : (s : Store) (name : RefNameData) (o : Option Ref) → (read_by 0 name s None o).store ≡ s
read-stays s name None = refl
read-stays s name (Some r) = refl

-- a read outside of attempts leaves all as it was
pub read-leaves : (r : TableRefs) (name : RefNameData)
    → refs_after (performed (store_of 0 [] r) (reads 0 name)).store r ≡ r
read-leaves r name =
    let s : Store = store_of 0 [] r in
    ap (λ it. refs_after it r) (read-stays s name (ref_named name s)) ∙ refs_after-seen s r refl

read-tells : (s : Store) (name : RefNameData) (o : Option Ref)
    → (read_by 0 name s None o).told ≡ option_map (λ d. reading (found d)) (newest_in_ref o)
read-tells s name None = refl
read-tells s name (Some r) = refl

shared-value : (table : RingRefTable) (rs : List Ref) (h : HoldsRefs table rs) (o : OwnerData) (n : ℕ)
    → newest_in_ref (ref_of o n (store_of 0 [] h.all)) ≡ value_in_ref o n rs
shared-value table rs h shared n = ap (λ l. newest_in_ref (slice_get l n)) h.common
shared-value table rs h (tenant t) n = by (t == 0) where
  by : (b : Bool) → newest_in_ref (if b then slice_get (h.all.owned (tenant 0)) n else None) ≡ None
  by true = ap (λ l. newest_in_ref (slice_get l n)) (h.none 0)
  by false = refl

-- what is told of a read is the value of a shared ref
pub read-value : (table : RingRefTable) (rs : List Ref) (h : HoldsRefs table rs) (name : RefNameData)
    → (performed (store_of 0 [] h.all) (reads 0 name)).told
    ≡ option_map (λ d. reading (found d)) (value_in_ref name.owner name.number rs)
read-value table rs h name =
    let s : Store = store_of 0 [] h.all in
    read-tells s name (ref_named name s)
    ∙ ap (λ o. option_map (λ d. reading (found d)) o) (shared-value table rs h name.owner name.number)

-- one that is not there has none
pub untold-read : (table : RingRefTable) (rs : List Ref) (h : HoldsRefs table rs) (name : RefNameData)
    → is_some (option_map (λ (r : Ref). r.kept) (ref_named name (store_of 0 [] h.all))) ≡ false
    → option_map (λ d. reading (found d)) (value_in_ref name.owner name.number rs) ≡ None
untold-read table rs h name lost = by (ref_named name (store_of 0 [] h.all)) refl lost where
  by : (o : Option Ref) → ref_named name (store_of 0 [] h.all) ≡ o
      → is_some (option_map (λ (r : Ref). r.kept) o) ≡ false
      → option_map (λ d. reading (found d)) (value_in_ref name.owner name.number rs) ≡ None
  by None is lost = ap (λ o. option_map (λ d. reading (found d)) o)
      (sym (shared-value table rs h name.owner name.number) ∙ ap newest_in_ref is)
  by (Some r) is lost = absurd (cc)
