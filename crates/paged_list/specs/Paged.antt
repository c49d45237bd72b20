-- What holds of the pages of a row.
use Rattle.std.specs.Prelude.{◌≡◌, ◌≤◌, ◌+◌, ◌-◌, ◌++◌, ℕ, List, [], ◌∷◌, length}
use Rattle.std.specs.Prelude.{vec_capacity, Vec}
use Rattle.std.specs.declared.alloc.Global.{Global}
use Rattle.paged_list.specs.declared.pages.TheConstants.{PAGE}

-- the items of all pages
abbrev pub all_items : {T : Type 0} → List (Vec T Global) → List T
all_items [] = []
all_items (page ∷ pages) = page.items ++ all_items pages

-- so many items fill the pages from the first on
abbrev pub IsPaged : {T : Type 0} → List (Vec T Global) → ℕ → Type 0
IsPaged [] count = count ≡ 0
IsPaged (page ∷ pages) count =
    (length page.items + (count - PAGE) ≡ count) × IsPaged pages (count - PAGE)

-- there is room for so many items, which would fill the pages from the first on
abbrev pub IsRoomFor : {T : Type 0} → List (Vec T Global) → ℕ → Type 0
IsRoomFor [] fitting = fitting ≡ 0
IsRoomFor (page ∷ pages) fitting =
    (fitting ≤ vec_capacity page + (fitting - PAGE)) × IsRoomFor pages (fitting - PAGE)

pub record IsRow {T : Type 0} (pages : List (Vec T Global)) (count fitting : ℕ) : Type 0 where
  pub paged : IsPaged pages count
  pub room : IsRoomFor pages fitting
  pub fits : count ≤ fitting
