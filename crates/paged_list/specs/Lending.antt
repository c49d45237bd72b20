-- What a row ends as, where an item of it was lent to be changed in its place.
use Rattle.std.specs.Prelude.{ℕ, Option, slice_set}
use Rattle.std.specs.Borrow.{Lends, LendsIf, Fml, RattleType, MutBor}
use Rattle.paged_list.specs.Listed.{Listed}
use Rattle.paged_list.specs.contracts.paged_row.PagedRow.{the_row}

-- the item at a place is this one, all others stay, and so does the room
abbrev pub with_item : {T : Type 0} → Listed T → ℕ → T → Listed T
with_item l place item = record l { items = slice_set l.items place item }

module _ (T : RattleType) (row : MutBor (Listed T.Denot)) (place : ℕ) where
  -- the item at the place is what is left behind the reference
  abbrev pub lends_item : MutBor T.Denot → Fml
  lends_item r = Lends (the_row T) T row r (with_item row.now place)

  -- the same where there is such an item, and else nothing changes
  abbrev pub lends_get : Option (MutBor T.Denot) → Fml
  lends_get r = LendsIf (the_row T) T row r (with_item row.now place) row.now
