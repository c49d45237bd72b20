-- Calls do what the rules say of them.
use Rattle.std.proofs.Common.{◌≡◌, ℕ, List, Option, Some, None, Result, Ok, Err, OnErr, refl, sym}
use Rattle.std.proofs.Common.{ap, subst, length, [], ◌∷◌, ◌++◌, Bool, true, false, ◌==◌}
use Rattle.std.proofs.Common.{if◌then◌else◌}
use Rattle.std.proofs.lemmas.Bool.{eqb-true}
use Rattle.value_data.specs.Datum as datum
use Rattle.value_data.specs.Datum.{Datum, OwnerData, shared, tenant}
use Rattle.repl_asks.specs.Transactions.{RefNameData}
use Rattle.repl_asks.specs.Exchange.{value, reading, found, retry}
use Rattle.ref_table.specs.Numbered.{Entry}
use Rattle.ref_history.specs.Versioned.{Ref, new_ref, with_failed_read}
use Rattle.ref_table.specs.Store.{ref_named}
use Rattle.ref_table.specs.Calls.{read_at, performed_bound_set, performed_make}
use Rattle.ref_history.specs.Changes.{SameRefs, Changed}
use Rattle.ref_history.specs.declared.ref_id.RefId.{RefId}
use Rattle.ref_table.specs.Refs.{TableRefs, store_of, refs_after, with_ref}
use Rattle.ref_table.specs.Directory.{refs_of, id_named, id_within, own_id, own_id_within}
use Rattle.ref_table.specs.Standing.{TableStands}
use Rattle.ref_table.specs.Told.{Performs}
use Rattle.ref_table.specs.declared.directory.Directory.{Directory}
use Rattle.ref_table.specs.declared.table.RefTable.{RefTable}
use Rattle.ref_table.proofs.Owners.{none-some}
use Rattle.ref_table.proofs.Standing.{stand-equal}
use Rattle.ref_table.proofs.Tables.{seen-stands, same-stands, with_changed_ref-stands, seen-there}

pub on_err : {T E P : Type 0} (r : Result T E) → P → OnErr r P
on_err (Ok x) p = tt
on_err (Err e) p = p

-- what a read finds is told
pub found-performs : {H : Type 0} (stands : H → RefId → Ref → Type 0) (t : RefTable H) (h : H)
    (r : TableRefs) (caller : ℕ) (points : List (Entry ℕ)) (seat : ℕ) (name : RefNameData)
    (o : Option Datum) (d : Datum) → o ≡ Some d → SameRefs (stands t.history) (stands h)
    → TableStands stands t r
    → Performs stands (record t { history = h }) r (Some (reading (found d)))
    (read_at seat name (store_of caller points r) o)
found-performs stands t h r caller points seat name o d is same s =
    subst (λ o. Performs stands (record t { history = h }) r (Some (reading (found d)))
    (read_at seat name (store_of caller points r) o)) (sym is)
    (record {
      told = refl;
      left = seen-stands stands (record t { history = h }) caller points r
          (same-stands stands t h r same s);
    })

-- a read that finds nothing is noted
pub retry-performs : {H : Type 0} (stands : H → RefId → Ref → Type 0) (t : RefTable H) (h : H)
    (r : TableRefs) (caller : ℕ) (points : List (Entry ℕ)) (seat : ℕ) (name : RefNameData) (id : RefId)
    (o : Option Datum) → id_named t.directory caller name ≡ Some id
    → Changed id with_failed_read (stands t.history) (stands h) → o ≡ None → TableStands stands t r
    → Performs stands (record t { history = h }) r (Some (reading retry))
    (read_at seat name (store_of caller points r) o)
retry-performs stands t h r caller points seat name id o e change none s =
    subst (λ o. Performs stands (record t { history = h }) r (Some (reading retry))
    (read_at seat name (store_of caller points r) o)) (sym none)
    (record {
      told = refl;
      left = with_changed_ref-stands stands t h (store_of caller points r) r name id with_failed_read e change
          (seen-stands stands t caller points r s);
    })

owned : (d : Directory) (caller : ℕ) (o : OwnerData) (n : ℕ) (id : RefId)
    → own_id_within d caller o n ≡ Some id
    → (t : ℕ) × (o ≡ tenant t) × (id_within d caller o n ≡ Some id)
owned d caller shared n id e = absurd (none-some e)
owned d caller (tenant t) n id e = (t, refl, e)

-- a bound of one of the tenant's own refs is set
pub bound-performs : {H : Type 0} (stands : H → RefId → Ref → Type 0) (t : RefTable H) (h : H)
    (r : TableRefs) (caller : ℕ) (points : List (Entry ℕ)) (name : RefNameData) (id : RefId)
    (f : Ref → Ref) → own_id t.directory caller name ≡ Some id
    → Changed id f (stands t.history) (stands h) → TableStands stands t r
    → Performs stands (record t { history = h }) r
    (Some (value (datum.ref name.owner name.number)))
    (performed_bound_set name name.owner f (store_of caller points r)
    (ref_named name (store_of caller points r)))
bound-performs stands t h r caller points name id f e change s =
    let own = owned t.directory caller name.owner name.number id e in
    let seen = seen-stands stands t caller points r s in
    let found = seen-there stands t (store_of caller points r) r name id own.2 seen in
    subst (λ x. Performs stands (record t { history = h }) r
    (Some (value (datum.ref name.owner name.number)))
    (performed_bound_set name name.owner f (store_of caller points r) x)) (sym found.1)
    (subst (λ o. Performs stands (record t { history = h }) r
    (Some (value (datum.ref name.owner name.number)))
    (performed_bound_set name o f (store_of caller points r) (Some found.0))) (sym own.1)
    (record {
      told = ap (λ o. Some (value (datum.ref o name.number))) own.1;
      left = with_changed_ref-stands stands t h (store_of caller points r) r name id f own.2 change seen;
    }))

-- a tenant has one ref more
pub performed_make-performs : {H : Type 0} (stands : H → RefId → Ref → Type 0) (t : RefTable H) (r : TableRefs)
    (caller : ℕ) (points : List (Entry ℕ)) (d : Datum) (least most n : ℕ)
    → n ≡ length (r.owned (tenant caller))
    → TableStands stands t (with_ref (tenant caller) (new_ref (record { stamp = 0; content = d }) least most) r)
    → Performs stands t r (Some (value (datum.ref (tenant caller) n)))
    (performed_make (store_of caller points r) d least most)
performed_make-performs stands t r caller points d least most n number s = record {
  told = ap (λ n. Some (value (datum.ref (tenant caller) n))) number;
  left = record {
    counter = s.counter;
    refs = stand-equal (stands t.history) (refs_of t.directory) (with_ref (tenant caller) ref r).owned
        (refs_after (performed_make (store_of caller points r) d least most).store r).owned same s.refs;
    apart = s.apart;
    left = s.left;
    no_more = s.no_more;
  };
} where
  ref : Ref
  ref = new_ref (record { stamp = 0; content = d }) least most

  same : (o : OwnerData) → (refs_after (performed_make (store_of caller points r) d least most).store r).owned o
      ≡ (with_ref (tenant caller) ref r).owned o
  same shared = refl
  same (tenant u) = by (u == caller) (λ e. eqb-true u caller e) where
    by : (b : Bool) → (b ≡ true → u ≡ caller)
        → (if b then r.owned (tenant caller) ++ ref ∷ [] else r.owned (tenant u))
        ≡ (if b then r.owned (tenant u) ++ ref ∷ [] else r.owned (tenant u))
    by true is = ap (λ v. r.owned (tenant v) ++ ref ∷ []) (sym (is refl))
    by false is = refl
