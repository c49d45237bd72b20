-- What a commit adds, one ref after the other, are the changes that it wants.
use Rattle.std.proofs.Common.{◌≡◌, ℕ, ◌+◌, List, [], ◌∷◌, Option, Some, None, map, refl, sym, ap}
use Rattle.std.proofs.Common.{◌∙◌, subst}
use Rattle.value_data.specs.Datum.{Datum}
use Rattle.repl_asks.specs.Transactions.{ChangeData}
use Rattle.ref_history.specs.Versioned.{Ref, with_version}
use Rattle.ref_table.specs.Store.{Store, with_changed_ref}
use Rattle.ref_table.specs.Commit.{with_changes, with_raised_counter}
use Rattle.ref_history.specs.Changes.{Changed}
use Rattle.ref_history.specs.Effects.{version}
use Rattle.ref_history.specs.declared.ref_id.RefId.{RefId}
use Rattle.ref_table.specs.Refs.{TableRefs, refs_after}
use Rattle.ref_table.specs.Directory.{id_named}
use Rattle.ref_table.specs.Placing.{placed_view, with_place, placed_changes, AddsAll}
use Rattle.ref_table.specs.Standing.{TableStands}
use Rattle.ref_table.specs.declared.placing.Placed.{Placed}
use Rattle.ref_table.specs.declared.table.RefTable.{RefTable}
use Rattle.ref_table.proofs.Seen.{changed_of-tenant}
use Rattle.ref_table.proofs.Tables.{with_changed_ref-stands, unseen-stands}

-- what is added at the places of these changes
abbrev pub Leads : {H : Type 0} → (H → RefId → Ref → Type 0) → ℕ → List ChangeData → Type 0
Leads {H} stands stamp cs = (t : RefTable H) (h : H) (ps : List Placed) (s : Store) (r : TableRefs)
    → map placed_view ps ≡ placed_changes t.directory s.tenant cs
    → AddsAll stands stamp t.history ps h → TableStands stands t (refs_after s r)
    → TableStands stands (record t { history = h }) (refs_after (with_changes stamp cs s) r)

-- the store after one change
abbrev one_set : ℕ → ChangeData → Store → Store
one_set stamp c s = with_changed_ref c.name (with_version (version stamp c.now)) s

tenant-stays : (stamp : ℕ) (c : ChangeData) (s : Store) → (one_set stamp c s).tenant ≡ s.tenant
tenant-stays stamp c s = changed_of-tenant c.name.owner c.name.number
    (with_version (version stamp c.now)) s

pub same_pair : (p q : RefId × Datum) (ps qs : List (RefId × Datum)) → p ∷ ps ≡ q ∷ qs
    → (p.0 ≡ q.0) × (p.1 ≡ q.1) × (ps ≡ qs)
same_pair p q ps qs same =
    let first : p ≡ q = cc in
    (ap (λ x. x.0) first, ap (λ x. x.1) first, cc)

nothing-added : {H : Type 0} (stands : H → RefId → Ref → Type 0) (stamp : ℕ) → Leads stands stamp []
nothing-added stands stamp t h [] s r e adds now =
    subst (λ h. TableStands stands (record t { history = h }) (refs_after s r)) adds now
nothing-added stands stamp t h (p ∷ ps) s r e adds now = cc

one-added : {H : Type 0} (stands : H → RefId → Ref → Type 0) (stamp : ℕ) (c : ChangeData)
    (cs : List ChangeData) → Leads stands stamp cs → (o : Option RefId)
    (t : RefTable H) (h : H) (ps : List Placed) (s : Store) (r : TableRefs)
    → id_named t.directory s.tenant c.name ≡ o
    → map placed_view ps ≡ with_place o c.now (placed_changes t.directory s.tenant cs)
    → AddsAll stands stamp t.history ps h → TableStands stands t (refs_after s r)
    → TableStands stands (record t { history = h }) (refs_after (with_changes stamp (c ∷ cs) s) r)
one-added stands stamp c cs leads None t h ps s r here e adds now =
    leads t h ps (one_set stamp c s) r
    (e ∙ ap (λ v. placed_changes t.directory v cs) (sym (tenant-stays stamp c s))) adds
    (unseen-stands stands t s r c.name (with_version (version stamp c.now)) here now)
one-added stands stamp c cs leads (Some id) t h [] s r here e adds now = cc
one-added stands stamp c cs leads (Some id) t h (p ∷ ps) s r here e adds now =
    let same = same_pair (placed_view p) (id, c.now) (map placed_view ps)
    (placed_changes t.directory s.tenant cs) e in
    leads (record t { history = adds.0 }) h ps (one_set stamp c s) r
    (same.2 ∙ ap (λ v. placed_changes t.directory v cs) (sym (tenant-stays stamp c s))) adds.2
    (with_changed_ref-stands stands t adds.0 s r c.name id (with_version (version stamp c.now)) here
    (subst (λ i. Changed i (with_version (version stamp c.now)) (stands t.history) (stands adds.0))
    same.0
    (subst (λ d. Changed p.id (with_version (version stamp d)) (stands t.history) (stands adds.0))
    same.1 adds.1))
    now)

pub all-added : {H : Type 0} (stands : H → RefId → Ref → Type 0) (stamp : ℕ)
    (cs : List ChangeData) → Leads stands stamp cs
all-added stands stamp [] = nothing-added stands stamp
all-added stands stamp (c ∷ cs) = λ t h ps s r e adds now.
    one-added stands stamp c cs (all-added stands stamp cs) (id_named t.directory s.tenant c.name)
    t h ps s r refl e adds now

-- the counter rises
pub with_raised_counter-stands : {H : Type 0} (stands : H → RefId → Ref → Type 0) (t : RefTable H) (s : Store)
    (r : TableRefs) → TableStands stands t (refs_after s r)
    → TableStands stands (record t { counter = t.counter + 1 }) (refs_after (with_raised_counter s) r)
with_raised_counter-stands stands t s r now = record {
  counter = ap (λ n. n + 1) now.counter;
  refs = now.refs;
  apart = now.apart;
  left = now.left;
  no_more = now.no_more;
}
