-- The refs of all owners, and what a tenant sees of them.
use Rattle.std.specs.Prelude.{ℕ, ◌==◌, List, [], ◌∷◌, ◌++◌, if◌then◌else◌}
use Rattle.value_data.specs.Datum.{OwnerData, shared, tenant}
use Rattle.ref_table.specs.Numbered.{Entry}
use Rattle.ref_history.specs.Versioned.{Ref}
use Rattle.ref_table.specs.Store.{Store}
use Rattle.value_data.specs.Same.{same_owner}

pub record TableRefs : Type 0 where
  -- how many commits there were that changed a ref
  pub counter : ℕ
  -- of each owner its refs, by their numbers
  pub owned : OwnerData → List Ref

abbrev pub no_refs : TableRefs
no_refs = record { counter = 0; owned = λ owner. [] }

-- what a tenant sees of them whose actors have these read points
abbrev pub store_of : ℕ → List (Entry ℕ) → TableRefs → Store
store_of caller points r = record {
  around = record { counter = r.counter; refs = r.owned shared };
  tenant = caller;
  mine = record { refs = r.owned (tenant caller); points = points };
}

-- the refs of each owner, where these are the shared ones and those of one tenant
abbrev pub owned_with : List Ref → ℕ → List Ref → (OwnerData → List Ref) → OwnerData → List Ref
owned_with common caller own owned shared = common
owned_with common caller own owned (tenant t) = if t == caller then own else owned (tenant t)

-- all refs, once a tenant sees this
abbrev pub refs_after : Store → TableRefs → TableRefs
refs_after s r = record {
  counter = s.around.counter;
  owned = owned_with s.around.refs s.tenant s.mine.refs r.owned;
}

-- an owner has one ref more
abbrev pub with_ref : OwnerData → Ref → TableRefs → TableRefs
with_ref owner ref r = record {
  counter = r.counter;
  owned = λ o. if same_owner o owner then r.owned o ++ ref ∷ [] else r.owned o;
}

-- an owner has no refs
abbrev pub without_refs : OwnerData → TableRefs → TableRefs
without_refs owner r = record {
  counter = r.counter;
  owned = λ o. if same_owner o owner then [] else r.owned o;
}
