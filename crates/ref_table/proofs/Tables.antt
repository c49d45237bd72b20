-- A table goes on standing for refs.
use Rattle.std.proofs.Common.{◌≡◌, ◌≢◌, ℕ, List, [], ◌∷◌, ◌++◌, true, false, Option, Some, None}
use Rattle.std.proofs.Common.{refl, sym, ap, ap₂, ◌∙◌, subst, ◌&&◌, is_some, slice_get}
use Rattle.std.proofs.Common.{if◌then◌else◌}
use Rattle.std.specs.Prelude.{◌↔◌, Result, Ok, Err, OnErr}
use mathlib.Core.Path.{fun_ext}
use Rattle.std.proofs.lemmas.Bool.{eq-eqb, ne_eqb}
use Rattle.value_data.specs.Datum.{OwnerData, shared, tenant}
use Rattle.repl_asks.specs.Transactions.{RefNameData}
use Rattle.ref_table.specs.Numbered.{Entry}
use Rattle.ref_history.specs.Versioned.{Ref}
use Rattle.ref_table.specs.Store.{Store, ref_named, with_changed_ref}
use Rattle.ref_table.specs.Commit.{all_there}
use Rattle.value_data.specs.Same.{same_owner}
use Rattle.ref_history.specs.Changes.{RefsById, IsAbsent, SameRefs, SameBut, Changed}
use Rattle.ref_history.specs.declared.ref_id.RefId.{RefId}
use Rattle.ref_table.specs.Refs.{TableRefs, store_of, refs_after, with_ref, without_refs}
use Rattle.ref_table.specs.Directory.{refs_of, id_named, all_named}
use Rattle.ref_table.specs.Departed.{ids_left, GetsBatch, LosesId}
use Rattle.ref_table.specs.Standing.{Matches, StandFor, Holder, of_owner, of_batch, ids_held}
use Rattle.ref_table.specs.Standing.{AreApart, AreKept, KeepsNoMore, TableStands}
use Rattle.ref_table.specs.declared.departed.Departed.{Departed}
use Rattle.ref_table.specs.declared.directory.Directory.{Directory}
use Rattle.ref_table.specs.declared.table.RefTable.{RefTable}
use Rattle.ref_table.proofs.Standing.{there, absent, stand-same, stand-equal, stand-changed}
use Rattle.ref_table.proofs.Standing.{stand-made, apart-made, fresh-held, stand-released}
use Rattle.ref_table.proofs.Standing.{apart-released, owned-apart, kept-same, kept-changed}
use Rattle.ref_table.proofs.Standing.{kept-made, kept-released, apart-moved, kept-moved}
use Rattle.ref_table.proofs.Standing.{no_more-moved, Loses, was-held, none-held, stand-dropped}
use Rattle.ref_table.proofs.Standing.{apart-dropped, kept-dropped, no_more-dropped}
use Rattle.ref_table.proofs.Standing.{no_more-same, no_more-changed, no_more-made, no_more-released}
use Rattle.ref_table.proofs.Seen.{owned-seen, stands-within, changed_of-counter, id-there}
use Rattle.ref_table.proofs.Seen.{changed-here, changed-elsewhere, changed-nowhere}

pub on-err : {T E : Type 0} {P : Type 0} (v : Result T E) → P → OnErr v P
on-err (Ok x) p = tt
on-err (Err e) p = p

abbrev pub held : {H : Type 0} → RefTable H → Holder → List RefId
held t = ids_held t.directory t.departed

-- where one owner's ids change all others' stay
pub others_held : {H : Type 0} (t : RefTable H) (d : Directory) (o : OwnerData)
    → ((p : OwnerData) → p ≢ o → refs_of d p ≡ refs_of t.directory p)
    → (k : Holder) → k ≢ of_owner o → ids_held d t.departed k ≡ held t k
others_held t d o rest (of_owner p) differs = rest p (λ e. differs (ap of_owner e))
others_held t d o rest (of_batch b) differs = refl

-- what a tenant sees adds nothing
pub seen-stands : {H : Type 0} (stands : H → RefId → Ref → Type 0) (t : RefTable H) (caller : ℕ)
    (points : List (Entry ℕ)) (r : TableRefs)
    → TableStands stands t r → TableStands stands t (refs_after (store_of caller points r) r)
seen-stands stands t caller points r s = record {
  counter = s.counter;
  refs = stand-equal (stands t.history) (refs_of t.directory) r.owned
      (refs_after (store_of caller points r) r).owned (owned-seen caller r.owned) s.refs;
  apart = s.apart;
  left = s.left;
  no_more = s.no_more;
}

-- the history keeps all that it stood for
pub same-stands : {H : Type 0} (stands : H → RefId → Ref → Type 0) (t : RefTable H) (h : H)
    (r : TableRefs) → SameRefs (stands t.history) (stands h)
    → TableStands stands t r → TableStands stands (record t { history = h }) r
same-stands stands t h r same s = record {
  counter = s.counter;
  refs = stand-same (stands t.history) (stands h) (refs_of t.directory) r.owned same s.refs;
  apart = s.apart;
  left = kept-same (stands t.history) (stands h) (ids_left t.departed) same s.left;
  no_more = no_more-same (stands t.history) (stands h) (held t) same s.no_more;
}

-- a ref that the tenant sees changes
pub with_changed_ref-stands : {H : Type 0} (stands : H → RefId → Ref → Type 0) (t : RefTable H) (h : H)
    (s : Store) (r : TableRefs) (name : RefNameData) (id : RefId) (f : Ref → Ref)
    → id_named t.directory s.tenant name ≡ Some id
    → Changed id f (stands t.history) (stands h)
    → TableStands stands t (refs_after s r)
    → TableStands stands (record t { history = h }) (refs_after (with_changed_ref name f s) r)
with_changed_ref-stands stands t h s r name id f e change now = record {
  counter = now.counter ∙ sym (changed_of-counter name.owner name.number f s);
  refs = stand-changed (stands t.history) (stands h) (refs_of t.directory) (refs_after s r).owned
      (refs_after (with_changed_ref name f s) r).owned name.owner name.number id f
      (id-there t.directory s.tenant name.owner name.number id e)
      (owned-apart t.directory t.departed now.apart) change
      (changed-here t.directory s r name.owner name.number f id e)
      (changed-elsewhere t.directory s r name.owner name.number f id e) now.refs;
  apart = now.apart;
  left = kept-changed (stands t.history) (stands h) (ids_left t.departed) id f change now.left;
  no_more = no_more-changed (stands t.history) (stands h) (held t) (of_owner name.owner)
      name.number id (id-there t.directory s.tenant name.owner name.number id e) change.others
      now.no_more;
}

-- a change of a ref that the tenant does not see
pub unseen-stands : {H : Type 0} (stands : H → RefId → Ref → Type 0) (t : RefTable H)
    (s : Store) (r : TableRefs) (name : RefNameData) (f : Ref → Ref)
    → id_named t.directory s.tenant name ≡ None
    → TableStands stands t (refs_after s r) → TableStands stands t (refs_after (with_changed_ref name f s) r)
unseen-stands stands t s r name f e now = record {
  counter = now.counter ∙ sym (changed_of-counter name.owner name.number f s);
  refs = stand-equal (stands t.history) (refs_of t.directory) (refs_after s r).owned
      (refs_after (with_changed_ref name f s) r).owned
      (changed-nowhere s r name.owner name.number f
      (absent (stands t.history) (id_named t.directory s.tenant name) (ref_named name s)
      (stands-within (stands t.history) t.directory s r name.owner name.number now.refs) e))
      now.refs;
  apart = now.apart;
  left = now.left;
  no_more = now.no_more;
}

-- the ref that an id stands for is the one that is seen
pub seen-there : {H : Type 0} (stands : H → RefId → Ref → Type 0) (t : RefTable H) (s : Store)
    (r : TableRefs) (name : RefNameData) (id : RefId)
    → id_named t.directory s.tenant name ≡ Some id → TableStands stands t (refs_after s r)
    → (ref : Ref) × (ref_named name s ≡ Some ref) × stands t.history id ref
seen-there stands t s r name id e now =
    there (stands t.history) (id_named t.directory s.tenant name) (ref_named name s) id
    (stands-within (stands t.history) t.directory s r name.owner name.number now.refs) e

same_owner-refl : (o : OwnerData) → same_owner o o ≡ true
same_owner-refl shared = refl
same_owner-refl (tenant t) = eq-eqb t t refl

same_owner-apart : (o p : OwnerData) → o ≢ p → same_owner o p ≡ false
same_owner-apart shared shared differs = absurd (differs refl)
same_owner-apart shared (tenant u) differs = refl
same_owner-apart (tenant t) shared differs = refl
same_owner-apart (tenant t) (tenant u) differs = ne_eqb t u (λ e. differs (ap tenant e))

-- an owner has one ref more
pub made-stands : {H : Type 0} (stands : H → RefId → Ref → Type 0) (t : RefTable H)
    (d : Directory) (h : H) (r : TableRefs) (o : OwnerData) (id : RefId) (ref : Ref)
    → refs_of d o ≡ refs_of t.directory o ++ id ∷ []
    → ((p : OwnerData) → p ≢ o → refs_of d p ≡ refs_of t.directory p)
    → IsAbsent (stands t.history) id → stands h id ref
    → SameBut id (stands t.history) (stands h)
    → TableStands stands t r
    → TableStands stands (record t { directory = d; history = h }) (with_ref o ref r)
made-stands stands t d h r o id ref adds rest none here same s = record {
  counter = s.counter;
  refs = stand-made (stands t.history) (stands h) (refs_of t.directory) (refs_of d) r.owned
      (with_ref o ref r).owned o id ref adds rest
      (ap (λ b. if b then r.owned o ++ ref ∷ [] else r.owned o) (same_owner-refl o))
      (λ p differs. ap (λ b. if b then r.owned p ++ ref ∷ [] else r.owned p)
      (same_owner-apart p o differs))
      none here same s.refs;
  apart = apart-made (held t) (ids_held d t.departed) (of_owner o) id adds
      (others_held t d o rest)
      (fresh-held (stands t.history) t.directory t.departed r.owned id none s.refs s.left) s.apart;
  left = kept-made (stands t.history) (stands h) (ids_left t.departed) id none same s.left;
  no_more = no_more-made (stands t.history) (stands h) (held t) (ids_held d t.departed) (of_owner o)
      id adds (others_held t d o rest) same s.no_more;
}

-- a ref was made, and could not be kept
pub undone-stands : {H : Type 0} (stands : H → RefId → Ref → Type 0) (t : RefTable H)
    (d : Directory) (h : H) (r : TableRefs)
    → ((p : OwnerData) → refs_of d p ≡ refs_of t.directory p) → SameRefs (stands t.history) (stands h)
    → TableStands stands t r
    → TableStands stands (record t { directory = d; history = h }) r
undone-stands stands t d h r as_it_was same s =
    let now = same-stands stands t h r same s in
    let ids : refs_of d ≡ refs_of t.directory = fun_ext as_it_was in
    let all : ids_held d t.departed ≡ held t = fun_ext (by_holder as_it_was) in
    record {
      counter = s.counter;
      refs = subst (λ ids. StandFor (stands h) ids r.owned) (sym ids) now.refs;
      apart = subst (λ (ids : Holder → List RefId). AreApart ids) (sym all) now.apart;
      left = now.left;
      no_more = subst (KeepsNoMore (stands h)) (sym all) now.no_more;
    } where
      by_holder : ((p : OwnerData) → refs_of d p ≡ refs_of t.directory p)
          → (k : Holder) → ids_held d t.departed k ≡ held t k
      by_holder same (of_owner p) = same p
      by_holder same (of_batch b) = refl

-- what the refs of owners stand for where those of one are gone
stand-without : {H : Type 0} (stands : H → RefId → Ref → Type 0) (t : RefTable H)
    (d : Directory) (h : H) (r : TableRefs) (o : OwnerData)
    → refs_of d o ≡ []
    → ((p : OwnerData) → p ≢ o → refs_of d p ≡ refs_of t.directory p)
    → ((i : RefId) → ((n : ℕ) → slice_get (refs_of t.directory o) n ≢ Some i)
    → (ref : Ref) → stands t.history i ref → stands h i ref)
    → TableStands stands t r → StandFor (stands h) (refs_of d) (without_refs o r).owned
stand-without stands t d h r o gone rest keeps s =
    stand-released (stands t.history) (stands h) (refs_of t.directory) (refs_of d) r.owned
    (without_refs o r).owned o gone rest
    (ap (λ b. if b then [] else r.owned o) (same_owner-refl o))
    (λ p differs. ap (λ b. if b then [] else r.owned p) (same_owner-apart p o differs))
    keeps (owned-apart t.directory t.departed s.apart) s.refs

-- a tenant has no refs any more
pub released-stands : {H : Type 0} (stands : H → RefId → Ref → Type 0) (t : RefTable H)
    (d : Directory) (h : H) (r : TableRefs) (o : OwnerData)
    → refs_of d o ≡ []
    → ((p : OwnerData) → p ≢ o → refs_of d p ≡ refs_of t.directory p)
    → ((n : ℕ) (i : RefId) → slice_get (refs_of t.directory o) n ≡ Some i → IsAbsent (stands h) i)
    → ((i : RefId) → ((n : ℕ) → slice_get (refs_of t.directory o) n ≢ Some i)
    → (ref : Ref) → stands t.history i ref ↔ stands h i ref)
    → TableStands stands t r
    → TableStands stands (record t { directory = d; history = h }) (without_refs o r)
released-stands stands t d h r o gone rest dropped keeps s = record {
  counter = s.counter;
  refs = stand-without stands t d h r o gone rest (λ i none ref. (keeps i none ref).0) s;
  apart = apart-released (held t) (ids_held d t.departed) (of_owner o) gone
      (others_held t d o rest) s.apart;
  left = kept-released (stands t.history) (stands h) t.directory t.departed o s.apart
      (λ i none ref. (keeps i none ref).0) s.left;
  no_more = no_more-released (stands t.history) (stands h) (held t) (ids_held d t.departed)
      (of_owner o) (others_held t d o rest) dropped keeps s.no_more;
}

-- its refs are left to be dropped
pub departed-stands : {H : Type 0} (stands : H → RefId → Ref → Type 0) (t : RefTable H)
    (d : Directory) (left : Departed) (r : TableRefs) (o : OwnerData)
    → refs_of d o ≡ []
    → ((p : OwnerData) → p ≢ o → refs_of d p ≡ refs_of t.directory p)
    → GetsBatch t.departed (refs_of t.directory o) left
    → TableStands stands t r
    → TableStands stands (record t { directory = d; departed = left }) (without_refs o r)
departed-stands stands t d left r o gone rest gets s = record {
  counter = s.counter;
  refs = stand-without stands t d t.history r o gone rest (λ i none ref it. it) s;
  apart = apart-moved (held t) (ids_held d left) (of_owner o) (of_batch gets.batch) gets.here gone
      others s.apart;
  left = kept-moved (stands t.history) (ids_left t.departed) (ids_left left)
      (refs_of t.directory o) (r.owned o) gets.batch gets.here gets.others (s.refs o) s.left;
  no_more = no_more-moved (stands t.history) (held t) (ids_held d left) (of_owner o)
      (of_batch gets.batch) gets.none gets.here others s.no_more;
} where
  others : (k : Holder) → k ≢ of_owner o → k ≢ of_batch gets.batch → ids_held d left k ≡ held t k
  others (of_owner p) differs other = rest p (λ e. differs (ap of_owner e))
  others (of_batch b) differs other = gets.others b (λ e. other (ap of_batch e))

-- where nothing was left of it
pub empty-stands : {H : Type 0} (stands : H → RefId → Ref → Type 0) (t : RefTable H)
    (left : Departed) (r : TableRefs) → ((b : ℕ) → ids_left left b ≡ ids_left t.departed b)
    → TableStands stands t r → TableStands stands (record t { departed = left }) r
empty-stands stands t left r same s =
    let batches : ids_left left ≡ ids_left t.departed = fun_ext same in
    let all : ids_held t.directory left ≡ held t = fun_ext (by_holder same) in
    record {
      counter = s.counter;
      refs = s.refs;
      apart = subst (λ (ids : Holder → List RefId). AreApart ids) (sym all) s.apart;
      left = subst (AreKept (stands t.history)) (sym batches) s.left;
      no_more = subst (KeepsNoMore (stands t.history)) (sym all) s.no_more;
    } where
      by_holder : ((b : ℕ) → ids_left left b ≡ ids_left t.departed b)
          → (k : Holder) → ids_held t.directory left k ≡ held t k
      by_holder same (of_owner p) = refl
      by_holder same (of_batch b) = same b

-- one of its refs is dropped
pub dropped-stands : {H : Type 0} (stands : H → RefId → Ref → Type 0) (t : RefTable H)
    (left : Departed) (h : H) (r : TableRefs) (id : RefId) → LosesId t.departed id left
    → IsAbsent (stands h) id → SameBut id (stands t.history) (stands h)
    → TableStands stands t r → TableStands stands (record t { departed = left; history = h }) r
dropped-stands stands t left h r id loses gone same s = record {
  counter = s.counter;
  refs = stand-dropped (stands t.history) (stands h) (refs_of t.directory) r.owned id
      (λ o n. none (of_owner o) n) same s.refs;
  apart = apart-dropped (held t) new (of_batch loses.batch) id all s.apart;
  left = kept-dropped (stands t.history) (stands h) (ids_left t.departed) (ids_left left) id
      (λ b n i. was-held (held t) new (of_batch loses.batch) id all (of_batch b) n i)
      (λ b n. none (of_batch b) n) same s.left;
  no_more = no_more-dropped (stands t.history) (stands h) (held t) new (of_batch loses.batch) id all
      gone same s.no_more;
} where
  new : Holder → List RefId
  new = ids_held t.directory left

  others : (k : Holder) → k ≢ of_batch loses.batch → ids_held t.directory left k ≡ held t k
  others (of_owner p) differs = refl
  others (of_batch b) differs = loses.others b (λ e. differs (ap of_batch e))

  all : Loses (held t) (of_batch loses.batch) id new
  all = (loses.here, others)

  none : (k : Holder) (n : ℕ) → slice_get (new k) n ≢ Some id
  none = none-held (held t) new (of_batch loses.batch) id all s.apart

-- all that a tenant names is there
pub all-named : {H : Type 0} (stands : H → RefId → Ref → Type 0) (t : RefTable H) (s : Store)
    (r : TableRefs) (names : List RefNameData) → TableStands stands t (refs_after s r)
    → all_named t.directory s.tenant names ≡ all_there names s
all-named stands t s r [] now = refl
all-named stands t s r (name ∷ names) now =
    ap₂ ◌&&◌ (both (stands t.history) (id_named t.directory s.tenant name) (ref_named name s)
    (stands-within (stands t.history) t.directory s r name.owner name.number now.refs))
    (all-named stands t s r names now) where
      both : (standing : RefsById) (o : Option RefId) (x : Option Ref) → Matches standing o x
          → is_some o ≡ is_some x
      both standing None None h = refl
      both standing None (Some x) h = absurd h
      both standing (Some i) None h = absurd h
      both standing (Some i) (Some x) h = refl
