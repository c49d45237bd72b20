-- The pages of a row, and what a write to one page makes of the items.
use Rattle.std.proofs.Common.{◌≡◌, ◌<◌, ◌≤◌, ◌+◌, ◌-◌, ℕ, zero, suc, List, [], ◌∷◌, ◌++◌, length}
use Rattle.std.proofs.Common.{refl, sym, ap, ap₂, subst, ◌∙◌, arith, get_or}
use Rattle.std.specs.Prelude.{slice_set, ◌*◌, ◌/◌, ◌%◌, vec_capacity, Vec}
use Rattle.std.specs.declared.alloc.Global.{Global}
use Rattle.std.proofs.Math.Nat.{div-add-mod}
use Rattle.std.proofs.lemmas.Nat.{mod_below}
use Rattle.std.proofs.lemmas.List.{length-append, get_or_append_left, get_or-append-add, set-append_left}
use Rattle.paged_list.specs.Paged.{all_items, IsPaged, IsRoomFor}

pub split : (n : ℕ) → 1024 * (n / 1024) + n % 1024 ≡ n
split n = div-add-mod n 1024

pub below : (n : ℕ) → n % 1024 < 1024
below n = mod_below n 1024 (omega (arith))

one-more : (n i : ℕ) → suc n + i ≡ suc (n + i)
one-more n i = omega (arith)

set-behind : {X : Type 0} (xs ys : List X) (i : ℕ) (y : X)
    → slice_set (xs ++ ys) (length xs + i) y ≡ xs ++ slice_set ys i y
set-behind [] ys i y = ap (λ (n : ℕ). slice_set ys n y) (omega (arith))
set-behind (x ∷ xs) ys i y =
    ap (λ (n : ℕ). slice_set (x ∷ xs ++ ys) n y) (one-more (length xs) i)
    ∙ ap (λ zs. x ∷ zs) (set-behind xs ys i y)

no-more : {X : Type 0} (xs : List X) → xs ++ [] ≡ xs
no-more [] = refl
no-more (x ∷ xs) = ap (λ zs. x ∷ zs) (no-more xs)

join : {X : Type 0} (xs ys zs : List X) → (xs ++ ys) ++ zs ≡ xs ++ (ys ++ zs)
join [] ys zs = refl
join (x ∷ xs) ys zs = ap (λ ws. x ∷ ws) (join xs ys zs)

-- how many items there are, and that the pages have room for them

pub counted : {T : Type 0} (ps : List (Vec T Global)) (count : ℕ) → IsPaged ps count
    → length (all_items ps) ≡ count
counted [] count paged = sym paged
counted (p ∷ ps) count paged =
    length-append p.items (all_items ps)
    ∙ ap (λ (n : ℕ). length p.items + n) (counted ps (count - 1024) paged.1)
    ∙ paged.0

pub fits : {T : Type 0} (ps : List (Vec T Global)) (count : ℕ) → IsPaged ps count
    → count ≤ 1024 * length ps
fits [] count paged = omega (arith, paged)
fits (p ∷ ps) count paged = let rest = fits ps (count - 1024) paged.1 in omega (arith, rest)

pub room-fits : {T : Type 0} (ps : List (Vec T Global)) (fitting : ℕ) → IsRoomFor ps fitting
    → fitting ≤ 1024 * length ps
room-fits [] fitting room = omega (arith, room)
room-fits (p ∷ ps) fitting room =
    let rest = room-fits ps (fitting - 1024) room.1 in
    omega (arith, rest)

none : {X : Type 0} (xs : List X) → length xs ≡ 0 → xs ≡ []
none [] e = refl
none (x ∷ xs) e = absurd (omega (arith, e))

-- a page that has an item

at-first : (r : ℕ) → r ≡ 1024 * 0 + r
at-first r = omega (arith)

pub has-page : {T : Type 0} (ps : List (Vec T Global)) (count place : ℕ) → IsPaged ps count
    → place < count → place / 1024 < length ps
has-page ps count place paged h =
    let all = fits ps count paged in
    let parts = split place in
    omega (arith, h, all, parts)

pub has-item : {T : Type 0} (ps : List (Vec T Global)) (count q r : ℕ) (page : Vec T Global)
    → IsPaged ps count → 1024 * q + r < count → r < 1024 → page ≡ get_or ps q page
    → r < length page.items
has-item {T} [] count q r page paged h small is = absurd (omega (arith, h, paged))
has-item {T} (p ∷ ps) count zero r page paged h small is =
    let same = ap (λ (x : Vec T Global). length x.items) is in
    let many = paged.0 in
    omega (arith, h, small, same, many)
has-item {T} (p ∷ ps) count (suc q) r page paged h small is =
    has-item ps (count - 1024) q r page paged.1 (omega (arith, h)) small is

pub item-at : {T : Type 0} (ps : List (Vec T Global)) (count q r : ℕ) (page : Vec T Global) (x : T)
    → IsPaged ps count → 1024 * q + r < count → r < 1024 → page ≡ get_or ps q page
    → get_or page.items r x ≡ get_or (all_items ps) (1024 * q + r) x
item-at {T} [] count q r page x paged h small is = absurd (omega (arith, h, paged))
item-at {T} (p ∷ ps) count zero r page x paged h small is =
    let there = has-item (p ∷ ps) count zero r page paged h small is in
    ap (λ (v : Vec T Global). get_or v.items r x) is
    ∙ sym (get_or_append_left p.items (all_items ps) x r
    (subst (λ (v : Vec T Global). r < length v.items) is there))
    ∙ ap (λ (n : ℕ). get_or (p.items ++ all_items ps) n x) (at-first r)
item-at {T} (p ∷ ps) count (suc q) r page x paged h small is =
    let many = paged.0 in
    let full : length p.items + (1024 * q + r) ≡ 1024 * suc q + r = omega (arith, h, many) in
    item-at ps (count - 1024) q r page x paged.1 (omega (arith, h)) small is
    ∙ sym (get_or-append-add p.items (all_items ps) (1024 * q + r) x)
    ∙ ap (λ (n : ℕ). get_or (p.items ++ all_items ps) n x) full

-- an item is replaced

pub get_or_same : {X : Type 0} (xs : List X) (i : ℕ) (y x : X) → y ≡ get_or xs i y → x ≡ y
    → y ≡ get_or xs i x
get_or_same {X} xs i y x is same =
    subst (λ (d : X). y ≡ get_or xs i d) (sym same) is

pub items-set : {T : Type 0} (ps : List (Vec T Global)) (count q r : ℕ) (page new : Vec T Global)
    (x : T) → IsPaged ps count → 1024 * q + r < count → r < 1024 → page ≡ get_or ps q page
    → new.items ≡ slice_set page.items r x
    → all_items (slice_set ps q new) ≡ slice_set (all_items ps) (1024 * q + r) x
items-set {T} [] count q r page new x paged h small is to = absurd (omega (arith, h, paged))
items-set {T} (p ∷ ps) count zero r page new x paged h small is to =
    let there = has-item (p ∷ ps) count zero r page paged h small is in
    ap (λ (xs : List T). xs ++ all_items ps)
    (to ∙ ap (λ (v : Vec T Global). slice_set v.items r x) is)
    ∙ sym (set-append_left p.items (all_items ps) r x
    (subst (λ (v : Vec T Global). r < length v.items) is there))
    ∙ ap (λ (n : ℕ). slice_set (p.items ++ all_items ps) n x) (at-first r)
items-set {T} (p ∷ ps) count (suc q) r page new x paged h small is to =
    let many = paged.0 in
    let full : length p.items + (1024 * q + r) ≡ 1024 * suc q + r = omega (arith, h, many) in
    ap (λ (xs : List T). p.items ++ xs)
    (items-set ps (count - 1024) q r page new x paged.1 (omega (arith, h)) small is to)
    ∙ sym (set-behind p.items (all_items ps) (1024 * q + r) x)
    ∙ ap (λ (n : ℕ). slice_set (p.items ++ all_items ps) n x) full

pub paged-set : {T : Type 0} (ps : List (Vec T Global)) (count q : ℕ) (page new : Vec T Global)
    → IsPaged ps count → page ≡ get_or ps q page → length new.items ≡ length page.items
    → IsPaged (slice_set ps q new) count
paged-set {T} [] count q page new paged is many = paged
paged-set {T} (p ∷ ps) count zero page new paged is many = (
  ap (λ (n : ℕ). n + (count - 1024))
      (many ∙ ap (λ (v : Vec T Global). length v.items) is) ∙ paged.0,
  paged.1,
)
paged-set {T} (p ∷ ps) count (suc q) page new paged is many =
    (paged.0, paged-set ps (count - 1024) q page new paged.1 is many)

pub room-set : {T : Type 0} (ps : List (Vec T Global)) (fitting q : ℕ) (page new : Vec T Global)
    → IsRoomFor ps fitting → page ≡ get_or ps q page → vec_capacity page ≤ vec_capacity new
    → IsRoomFor (slice_set ps q new) fitting
room-set {T} [] fitting q page new room is more = room
room-set {T} (p ∷ ps) fitting zero page new room is more =
    let same = ap (λ (v : Vec T Global). vec_capacity v) is in
    let here = room.0 in
    (omega (arith, same, here, more), room.1)
room-set {T} (p ∷ ps) fitting (suc q) page new room is more =
    (room.0, room-set ps (fitting - 1024) q page new room.1 is more)

-- an item is put behind the others

pub next-page : {T : Type 0} (ps : List (Vec T Global)) (count fitting : ℕ) → count < fitting
    → IsRoomFor ps fitting → count / 1024 < length ps
next-page ps count fitting h room =
    let all = room-fits ps fitting room in
    let parts = split count in
    omega (arith, h, all, parts)

pub next-place : {T : Type 0} (ps : List (Vec T Global)) (count q r : ℕ) (page : Vec T Global)
    → IsPaged ps count → 1024 * q + r ≡ count → r < 1024 → q < length ps
    → page ≡ get_or ps q page → length page.items ≡ r
next-place {T} [] count q r page paged at small h is = absurd (omega (arith, h))
next-place {T} (p ∷ ps) count zero r page paged at small h is =
    let same = ap (λ (x : Vec T Global). length x.items) is in
    let many = paged.0 in
    omega (arith, at, small, same, many)
next-place {T} (p ∷ ps) count (suc q) r page paged at small h is =
    next-place ps (count - 1024) q r page paged.1 (omega (arith, at)) small (omega (arith, h)) is

pub has-room : {T : Type 0} (ps : List (Vec T Global)) (fitting q r : ℕ) (page : Vec T Global)
    → IsRoomFor ps fitting → 1024 * q + r < fitting → r < 1024 → page ≡ get_or ps q page
    → r < vec_capacity page
has-room {T} [] fitting q r page room h small is = absurd (omega (arith, h, room))
has-room {T} (p ∷ ps) fitting zero r page room h small is =
    let same = ap (λ (x : Vec T Global). vec_capacity x) is in
    let here = room.0 in
    omega (arith, h, small, same, here)
has-room {T} (p ∷ ps) fitting (suc q) r page room h small is =
    has-room ps (fitting - 1024) q r page room.1 (omega (arith, h)) small is

pub items-put : {T : Type 0} (ps : List (Vec T Global)) (count q r : ℕ) (page new : Vec T Global)
    (x : T) → IsPaged ps count → 1024 * q + r ≡ count → r < 1024 → q < length ps
    → page ≡ get_or ps q page → new.items ≡ page.items ++ x ∷ []
    → all_items (slice_set ps q new) ≡ all_items ps ++ x ∷ []
items-put {T} [] count q r page new x paged at small h is to = absurd (omega (arith, h))
items-put {T} (p ∷ ps) count zero r page new x paged at small h is to =
    let rest : all_items ps ≡ [] = none (all_items ps)
    (counted ps (count - 1024) paged.1 ∙ omega (arith, at, small)) in
    ap₂ (λ (xs ys : List T). xs ++ ys)
    (to ∙ ap (λ (v : Vec T Global). v.items ++ x ∷ []) is) rest
    ∙ no-more (p.items ++ x ∷ [])
    ∙ sym (ap (λ (ys : List T). (p.items ++ ys) ++ x ∷ []) rest
    ∙ ap (λ (xs : List T). xs ++ x ∷ []) (no-more p.items))
items-put {T} (p ∷ ps) count (suc q) r page new x paged at small h is to =
    ap (λ (xs : List T). p.items ++ xs)
    (items-put ps (count - 1024) q r page new x paged.1 (omega (arith, at)) small
    (omega (arith, h)) is to)
    ∙ sym (join p.items (all_items ps) (x ∷ []))

pub paged-put : {T : Type 0} (ps : List (Vec T Global)) (count q r : ℕ) (page new : Vec T Global)
    → IsPaged ps count → 1024 * q + r ≡ count → r < 1024 → q < length ps
    → page ≡ get_or ps q page → length new.items ≡ length page.items + 1
    → IsPaged (slice_set ps q new) (count + 1)
paged-put {T} [] count q r page new paged at small h is many = absurd (omega (arith, h))
paged-put {T} (p ∷ ps) count zero r page new paged at small h is many =
    let before = paged.0 in
    let same = ap (λ (v : Vec T Global). length v.items) is in
    let behind : count - 1024 ≡ count + 1 - 1024 = omega (arith, at, small) in
    (omega (arith, before, many, same, at, small), subst (IsPaged ps) behind paged.1)
paged-put {T} (p ∷ ps) count (suc q) r page new paged at small h is many =
    let before = paged.0 in
    let behind : count - 1024 + 1 ≡ count + 1 - 1024 = omega (arith, at) in (
      omega (arith, before, at),
      subst (IsPaged (slice_set ps q new)) behind
          (paged-put ps (count - 1024) q r page new paged.1 (omega (arith, at)) small
          (omega (arith, h)) is many),
    )

-- a page is begun

pub items-begun : {T : Type 0} (ps : List (Vec T Global)) (page : Vec T Global)
    → page.items ≡ [] → all_items (ps ++ page ∷ []) ≡ all_items ps
items-begun {T} [] page empty = ap (λ (xs : List T). xs ++ []) empty
items-begun {T} (p ∷ ps) page empty =
    ap (λ (xs : List T). p.items ++ xs) (items-begun ps page empty)

pub paged-begun : {T : Type 0} (ps : List (Vec T Global)) (count : ℕ) (page : Vec T Global)
    → IsPaged ps count → page.items ≡ [] → IsPaged (ps ++ page ∷ []) count
paged-begun {T} [] count page paged empty =
    let many = ap length empty in
    (omega (arith, many, paged), omega (arith, paged))
paged-begun {T} (p ∷ ps) count page paged empty =
    (paged.0, paged-begun ps (count - 1024) page paged.1 empty)

pub room-begun : {T : Type 0} (ps : List (Vec T Global)) (fitting : ℕ) (page : Vec T Global)
    → IsRoomFor ps fitting → IsRoomFor (ps ++ page ∷ []) fitting
room-begun {T} [] fitting page room = (omega (arith, room), omega (arith, room))
room-begun {T} (p ∷ ps) fitting page room =
    (room.0, room-begun ps (fitting - 1024) page room.1)

-- a page gets more room

pub items-kept : {T : Type 0} (ps : List (Vec T Global)) (q : ℕ) (page new : Vec T Global)
    → page ≡ get_or ps q page → new.items ≡ page.items
    → all_items (slice_set ps q new) ≡ all_items ps
items-kept {T} [] q page new is same = refl
items-kept {T} (p ∷ ps) zero page new is same =
    ap (λ (xs : List T). xs ++ all_items ps)
    (same ∙ ap (λ (v : Vec T Global). v.items) is)
items-kept {T} (p ∷ ps) (suc q) page new is same =
    ap (λ (xs : List T). p.items ++ xs) (items-kept ps q page new is same)

no-room : {T : Type 0} (ps : List (Vec T Global)) (n m : ℕ) → IsRoomFor ps n → n ≡ m
    → IsRoomFor ps m
no-room {T} ps n m room same = subst (IsRoomFor ps) same room

-- the pages before it have all the room that there can be
pub room-grown : {T : Type 0} (ps : List (Vec T Global)) (fitting more q size : ℕ)
    (new : Vec T Global)
    → IsRoomFor ps fitting → q < length ps → 1024 * q ≤ fitting → fitting ≤ more
    → more ≤ 1024 * q + size → size ≤ 1024 → size ≤ vec_capacity new
    → IsRoomFor (slice_set ps q new) more
room-grown {T} [] fitting more q size new room there from grows to small fits =
    absurd (omega (arith, there))
room-grown {T} (p ∷ ps) fitting more zero size new room there from grows to small fits = (
  omega (arith, to, fits),
  no-room ps (fitting - 1024) (more - 1024) room.1 (omega (arith, grows, to, small)),
)
room-grown {T} (p ∷ ps) fitting more (suc q) size new room there from grows to small fits =
    let here = room.0 in (
      omega (arith, here, from, grows),
      room-grown ps (fitting - 1024) (more - 1024) q size new room.1 (omega (arith, there))
          (omega (arith, from)) (omega (arith, grows)) (omega (arith, to)) small fits,
    )
