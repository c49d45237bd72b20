-- What a tenant sees of the refs, and how it changes.
use Rattle.std.proofs.Common.{◌≡◌, ◌≢◌, ℕ, List, Bool, true, false, Option, Some, None, refl, sym}
use Rattle.std.proofs.Common.{ap, ◌∙◌, ◌==◌, inl, inr, slice_get, if◌then◌else◌}
use Rattle.std.proofs.lemmas.Bool.{cases_Bool, eqb-true, ne_eqb}
use Rattle.value_data.specs.Datum.{OwnerData, shared, tenant}
use Rattle.ref_table.specs.Numbered.{changed_at}
use Rattle.ref_history.specs.Versioned.{Ref}
use Rattle.ref_table.specs.Store.{Store, ref_of, changed_of}
use Rattle.ref_history.specs.Changes.{RefsById}
use Rattle.ref_history.specs.declared.ref_id.RefId.{RefId}
use Rattle.ref_table.specs.Refs.{TableRefs, owned_with, refs_after}
use Rattle.ref_table.specs.Directory.{refs_of, id_within}
use Rattle.ref_table.specs.Standing.{Matches, StandFor}
use Rattle.ref_table.specs.declared.directory.Directory.{Directory}
use Rattle.ref_table.proofs.Owners.{found_if, changed_at-absent}

-- what a tenant sees is what there is
pub owned-seen : (caller : ℕ) (owned : OwnerData → List Ref) (o : OwnerData)
    → owned_with (owned shared) caller (owned (tenant caller)) owned o ≡ owned o
owned-seen caller owned shared = refl
owned-seen caller owned (tenant t) = elim (cases_Bool (t == caller)) [
  | inl same ↦ ap (λ b. if b then owned (tenant caller) else owned (tenant t)) same
      ∙ ap (λ v. owned (tenant v)) (sym (eqb-true t caller same))
  | inr apart ↦ ap (λ b. if b then owned (tenant caller) else owned (tenant t)) apart
]

-- the id under which a tenant finds a ref stands for what it sees of it
pub stands-within : (standing : RefsById) (d : Directory) (s : Store) (r : TableRefs) (w : OwnerData)
    (n : ℕ) → StandFor standing (refs_of d) (refs_after s r).owned
    → Matches standing (id_within d s.tenant w n) (ref_of w n s)
stands-within standing d s r shared n h = h shared n
stands-within standing d s r (tenant t) n h =
    by_test (t == s.tenant) (slice_get (refs_of d (tenant t)) n) s.mine.refs (r.owned (tenant t))
    (h (tenant t) n) where
      by_test : (b : Bool) (i : Option RefId) (xs ys : List Ref)
          → Matches standing i (slice_get (if b then xs else ys) n)
          → Matches standing (if b then i else None) (if b then slice_get xs n else None)
      by_test true i xs ys h = h
      by_test false i xs ys h = tt

pub changed_of-counter : (w : OwnerData) (m : ℕ) (f : Ref → Ref) (s : Store)
    → (changed_of w m f s).around.counter ≡ s.around.counter
changed_of-counter shared m f s = refl
changed_of-counter (tenant t) m f s = refl

pub changed_of-tenant : (w : OwnerData) (m : ℕ) (f : Ref → Ref) (s : Store)
    → (changed_of w m f s).tenant ≡ s.tenant
changed_of-tenant shared m f s = refl
changed_of-tenant (tenant t) m f s = refl

pub id-there : (d : Directory) (caller : ℕ) (w : OwnerData) (m : ℕ) (id : RefId)
    → id_within d caller w m ≡ Some id → slice_get (refs_of d w) m ≡ Some id
id-there d caller shared m id e = e
id-there d caller (tenant t) m id e =
    (found_if (t == caller) (slice_get (refs_of d (tenant t)) m) id e).1

-- a ref that the tenant reaches changes among its owner's
pub changed-here : (d : Directory) (s : Store) (r : TableRefs) (w : OwnerData) (m : ℕ) (f : Ref → Ref)
    (id : RefId) → id_within d s.tenant w m ≡ Some id
    → (refs_after (changed_of w m f s) r).owned w ≡ changed_at m f ((refs_after s r).owned w)
changed-here d s r shared m f id e = refl
changed-here d s r (tenant t) m f id e =
    both (t == s.tenant) (found_if (t == s.tenant) (slice_get (refs_of d (tenant t)) m) id e).0 where
      both : (b : Bool) → b ≡ true
          → (if b then (if b then changed_at m f s.mine.refs else s.mine.refs) else r.owned (tenant t))
          ≡ changed_at m f (if b then s.mine.refs else r.owned (tenant t))
      both true is = refl
      both false is = cc

-- and nobody else's
pub changed-elsewhere : (d : Directory) (s : Store) (r : TableRefs) (w : OwnerData) (m : ℕ)
    (f : Ref → Ref) (id : RefId) → id_within d s.tenant w m ≡ Some id
    → (o : OwnerData) → o ≢ w → (refs_after (changed_of w m f s) r).owned o ≡ (refs_after s r).owned o
changed-elsewhere d s r shared m f id e shared differs = absurd (differs refl)
changed-elsewhere d s r shared m f id e (tenant u) differs = refl
changed-elsewhere d s r (tenant t) m f id e shared differs = refl
changed-elsewhere d s r (tenant t) m f id e (tenant u) differs =
    untouched (u == s.tenant) (ne_eqb u s.tenant (λ is. differs (ap tenant (is ∙ sym mine)))) where
      mine : t ≡ s.tenant
      mine = eqb-true t s.tenant
          (found_if (t == s.tenant) (slice_get (refs_of d (tenant t)) m) id e).0

      untouched : (b : Bool) → b ≡ false
          → (if b then (if t == s.tenant then changed_at m f s.mine.refs else s.mine.refs)
          else r.owned (tenant u)) ≡ (if b then s.mine.refs else r.owned (tenant u))
      untouched true is = cc
      untouched false is = refl

-- a change of a ref that is not seen changes nothing
pub changed-nowhere : (s : Store) (r : TableRefs) (w : OwnerData) (m : ℕ) (f : Ref → Ref)
    → ref_of w m s ≡ None
    → (o : OwnerData) → (refs_after (changed_of w m f s) r).owned o ≡ (refs_after s r).owned o
changed-nowhere s r shared m f none shared = changed_at-absent m f s.around.refs none
changed-nowhere s r shared m f none (tenant u) = refl
changed-nowhere s r (tenant t) m f none shared = refl
changed-nowhere s r (tenant t) m f none (tenant u) =
    ap (λ l. if u == s.tenant then l else r.owned (tenant u)) (same (t == s.tenant) none) where
      same : (b : Bool) → (if b then slice_get s.mine.refs m else None) ≡ None
          → (if b then changed_at m f s.mine.refs else s.mine.refs) ≡ s.mine.refs
      same true none = changed_at-absent m f s.mine.refs none
      same false none = refl
