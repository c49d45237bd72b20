-- How many numbers are less than one, and lists from which one is taken out.
use Rattle.std.proofs.Common.{◌≡◌, ⊎_elim, ℕ, zero, suc, ◌+◌, ◌-◌, ◌<◌, ◌≤◌, min, List, [], ◌∷◌, ◌++◌, length, get_or, take, drop, map, refl, sym, ap, ◌∙◌, subst, Some, slice_get, false, ◌==◌, arith}
use Rattle.std.specs.List.{insert, remove}
use Rattle.std.proofs.lemmas.Bool.{cases_lt}
use Rattle.std.proofs.lemmas.List.{length-map, get_or-map, length-append, get_or_append_left, get_or-append-add}
use Rattle.std.proofs.lemmas.List.Edits.{length-insert, length-remove, get_or-remove_below, get_or-remove_above}
use Rattle.std.proofs.lemmas.List.Edits.{get_or-insert_below, get_or-insert_at}
use Rattle.chunked_list.specs.Nodes.{numbers_last}
use Rattle.chunked_list.specs.Places.{lowered, without_place, below, places_of, Rises, KeepsTickets}

pub below-append : (m : ℕ) (xs ys : List ℕ) → below m (xs ++ ys) ≡ below m xs + below m ys
below-append m [] ys = omega arith
below-append m (x ∷ xs) ys = omega (arith, below-append m xs ys)

below-parts : (m : ℕ) (xs : List ℕ) (i : ℕ) → below m (take i xs) + below m (drop i xs) ≡ below m xs
below-parts m xs zero = omega arith
below-parts m [] (suc i) = omega arith
below-parts m (x ∷ xs) (suc i) = omega (arith, below-parts m xs i)

pub below-insert : (m : ℕ) (xs : List ℕ) (i t : ℕ) → below m (insert xs i t) ≡ min 1 (m - t) + below m xs
below-insert m xs i t = omega (arith, below-append m (take i xs) (t ∷ drop i xs), below-parts m xs i)

pub below-remove : (m : ℕ) (xs : List ℕ) (i : ℕ) → i < length xs → below m (remove xs i) + min 1 (m - get_or xs i 0) ≡ below m xs
below-remove m [] i h = absurd (omega (arith, h))
below-remove m (x ∷ xs) zero h = omega arith
below-remove m (x ∷ xs) (suc i) h = omega (arith, below-remove m xs i (omega (arith, h)))

pub below-most : (m : ℕ) (xs : List ℕ) → below m xs ≤ length xs
below-most m [] = omega arith
below-most m (x ∷ xs) = omega (arith, below-most m xs)

pub below-all : (m : ℕ) (xs : List ℕ) → ((k : ℕ) → k < length xs → get_or xs k 0 < m) → below m xs ≡ length xs
below-all m [] h = refl
below-all m (x ∷ xs) h = omega (arith, h 0 (omega arith), below-all m xs (λ k l. h (suc k) (omega (arith, l))))

pub below-full : (m : ℕ) (xs : List ℕ) (k : ℕ) → below m xs ≡ length xs → k < length xs → get_or xs k 0 < m
below-full m [] k e h = absurd (omega (arith, h))
below-full m (x ∷ xs) zero e h = omega (arith, e, below-most m xs)
below-full m (x ∷ xs) (suc k) e h = below-full m xs k (omega (arith, e, below-most m xs)) (omega (arith, h))

pub below-split : (m : ℕ) (xs : List ℕ) (low : ℕ) → low ≤ length xs → ((i : ℕ) → i < low → get_or xs i 0 < m) → ((i : ℕ) → low ≤ i → i < length xs → m ≤ get_or xs i 0)
    → below m xs ≡ low
below-split m [] low h f g = omega (arith, h)
below-split m (x ∷ xs) zero h f g = omega (arith, g 0 (omega arith) (omega arith), below-split m xs zero (omega arith) (λ i l. absurd (omega (arith, l))) (λ i l k. g (suc i) (omega arith) (omega (arith, k))))
below-split m (x ∷ xs) (suc low) h f g =
    omega (arith, f 0 (omega arith), below-split m xs low (omega (arith, h)) (λ i l. f (suc i) (omega (arith, l))) (λ i l k. g (suc i) (omega (arith, l)) (omega (arith, k))))

-- ---- of two lists that rise one behind the other

rises-front : (xs ys : List ℕ) → Rises (xs ++ ys) → Rises xs
rises-front xs ys r i j l m =
    omega (
      arith,
      get_or_append_left xs ys 0 i (omega (arith, l, m)),
      get_or_append_left xs ys 0 j m,
      r i j l (omega (arith, m, length-append xs ys)),
    )

rises-rest : (xs ys : List ℕ) → Rises (xs ++ ys) → Rises ys
rises-rest [] ys r = r
rises-rest (x ∷ xs) ys r = rises-rest xs ys (λ i j l m. r (suc i) (suc j) (omega (arith, l)) (omega (arith, m)))

last-got : (xs : List ℕ) (n : ℕ) → n + 1 ≡ length xs → numbers_last xs ≡ get_or xs n 0
last-got [] n e = absurd (omega (arith, e))
last-got (x ∷ []) zero e = refl
last-got (x ∷ []) (suc n) e = absurd (omega (arith, e))
last-got (x ∷ y ∷ ys) zero e = absurd (omega (arith, e))
last-got (x ∷ y ∷ ys) (suc n) e = last-got (y ∷ ys) n (omega (arith, e))

not-above-last : (xs : List ℕ) → Rises xs → (k : ℕ) → k < length xs → get_or xs k 0 ≤ numbers_last xs
not-above-last xs r k l =
    let end : numbers_last xs ≡ get_or xs (length xs - 1) 0 = last-got xs (length xs - 1) (omega (arith, l)) in
    ⊎_elim
    (λ (a : k < length xs - 1). omega (arith, end, r k (length xs - 1) a (omega (arith, l))))
    (λ (a : length xs - 1 ≤ k).
    let e : k ≡ length xs - 1 = omega (arith, a, l) in
    let at : get_or xs k 0 ≡ get_or xs (length xs - 1) 0 = ap (λ (i : ℕ). get_or xs i 0) e in
    omega (arith, end, at))
    (cases_lt k (length xs - 1))

pub below-both : (m : ℕ) (xs ys zs : List ℕ) → zs ≡ xs ++ ys → Rises zs → numbers_last xs < m → below m zs ≡ length xs + below m ys
below-both m xs ys zs e r h =
    let rising : Rises (xs ++ ys) = subst Rises e r in
    omega (
      arith,
      ap (below m) e,
      below-append m xs ys,
      below-all m xs (λ k l. omega (arith, h, not-above-last xs (rises-front xs ys rising) k l)),
    )

pub below-front : (m : ℕ) (xs ys zs : List ℕ) → zs ≡ xs ++ ys → Rises zs → m ≤ numbers_last xs → below m zs ≡ below m xs
below-front m [] ys zs e r h =
    omega (arith, ap (below m) e, below-split m ys 0 (omega arith) (λ i l. absurd (omega (arith, l))) (λ i l k. omega (arith, h)))
below-front m (x ∷ xs) ys zs e r h =
    let rising : Rises ((x ∷ xs) ++ ys) = subst Rises e r in
    let all = x ∷ xs in
    let end : numbers_last all ≡ get_or all (length xs) 0 = last-got all (length xs) (omega arith) in
    let over : (k : ℕ) → k < length ys → m ≤ get_or ys k 0 =
    λ k l.
    omega (
      arith,
      h,
      end,
      get_or_append_left all ys 0 (length xs) (omega arith),
      get_or-append-add all ys k 0,
      rising (length xs) (length all + k) (omega arith) (omega (arith, l, length-append all ys)),
    ) in
    omega (
      arith,
      ap (below m) e,
      below-append m all ys,
      below-split m ys 0 (omega arith) (λ i l. absurd (omega (arith, l))) (λ i l k. over i k),
    )

pub below-whole : (m : ℕ) (xs : List ℕ) → Rises xs → numbers_last xs < m → below m xs ≡ length xs
below-whole m xs r h = below-all m xs (λ k l. omega (arith, h, not-above-last xs r k l))

pub rises-parts : (xs ys zs : List ℕ) → zs ≡ xs ++ ys → Rises zs → Rises xs × Rises ys
rises-parts xs ys zs e r = let rising : Rises (xs ++ ys) = subst Rises e r in (rises-front xs ys rising, rises-rest xs ys rising)

pub last-some : (xs ys : List ℕ) → 0 < length ys → numbers_last (xs ++ ys) ≡ numbers_last ys
last-some [] ys h = refl
last-some (x ∷ xs) [] h = absurd (omega (arith, h))
last-some (x ∷ []) (y ∷ ys) h = refl
last-some (x ∷ z ∷ zs) (y ∷ ys) h = last-some (z ∷ zs) (y ∷ ys) h

pub last-got-slice : (xs : List ℕ) (v : ℕ) → Some v ≡ slice_get xs (length xs - 1) → v ≡ numbers_last xs
last-got-slice [] v h = absurd (cc)
last-got-slice (x ∷ xs) v h = at (x ∷ xs) (length (x ∷ xs) - 1) (omega arith) h
  where
    at : (ys : List ℕ) (n : ℕ) → n + 1 ≡ length ys → Some v ≡ slice_get ys n → v ≡ numbers_last ys
    at [] n e i = absurd (omega (arith, e))
    at (y ∷ []) zero e i = cc
    at (y ∷ []) (suc n) e i = absurd (omega (arith, e))
    at (y ∷ z ∷ ys) zero e i = absurd (omega (arith, e))
    at (y ∷ z ∷ ys) (suc n) e i = at (z ∷ ys) n (omega (arith, e)) i

pub some-there : (ys : List ℕ) → (length ys == 0) ≡ false → 0 < length ys
some-there [] e = absurd (cc)
some-there (y ∷ ys) e = omega arith

-- ---- one number less

below-more : (m n : ℕ) (xs : List ℕ) → m ≤ n → below m xs ≤ below n xs
below-more m n [] h = omega arith
below-more m n (x ∷ xs) h = omega (arith, h, below-more m n xs h)

occurs : (m t : ℕ) (xs : List ℕ) (k : ℕ) → t < m → k < length xs → get_or xs k 0 ≡ t → below t xs + 1 ≤ below m xs
occurs m t [] k l h e = absurd (omega (arith, h))
occurs m t (x ∷ xs) zero l h e = omega (arith, l, e, below-more t m xs (omega (arith, l)))
occurs m t (x ∷ xs) (suc k) l h e = omega (arith, l, occurs m t xs k l (omega (arith, h)) e)

-- a ticket that is among those by rank stands at the number of lesser ones
pub stands : (tickets ranked : List ℕ) (next rank : ℕ) → KeepsTickets tickets ranked next → rank < length ranked
    → (below (get_or ranked rank 0) tickets < length tickets) × (get_or tickets (below (get_or ranked rank 0) tickets) 0 ≡ get_or ranked rank 0)
stands tickets ranked next rank keeps h = (within, is)
  where
    t : ℕ
    t = get_or ranked rank 0

    more : below t tickets + 1 ≤ below (suc t) tickets
    more = omega (arith, occurs (suc t) t ranked rank (omega arith) h refl, keeps.same t, keeps.same (suc t))

    within : below t tickets < length tickets
    within = omega (arith, more, below-most (suc t) tickets)

    -- those before a place at which one is not less are not less either
    first : (xs : List ℕ) → Rises xs → (i : ℕ) → i < length xs → get_or xs i 0 < t → i < below t xs
    first [] r i l f = absurd (omega (arith, l))
    first (x ∷ xs) r zero l f = omega (arith, f)
    first (x ∷ xs) r (suc i) l f =
        omega (arith, f, r 0 (suc i) (omega arith) l, first xs (λ j k a b. r (suc j) (suc k) (omega (arith, a)) (omega (arith, b))) i (omega (arith, l)) f)

    last : (m : ℕ) (xs : List ℕ) → Rises xs → (i : ℕ) → i < length xs → i < below m xs → get_or xs i 0 < m
    last m [] r i l f = absurd (omega (arith, l))
    last m (x ∷ xs) r zero l f =
        ⊎_elim (λ (a : x < m). a)
        (λ (a : m ≤ x). absurd (omega (arith, a, f, below-split m xs 0 (omega arith) (λ j k. absurd (omega (arith, k))) (λ j k b. omega (arith, a, r 0 (suc j) (omega arith) (omega (arith, b)))))))
        (cases_lt x m)
    last m (x ∷ xs) r (suc i) l f = last m xs (λ j k a b. r (suc j) (suc k) (omega (arith, a)) (omega (arith, b))) i (omega (arith, l)) (omega (arith, f))

    is : get_or tickets (below t tickets) 0 ≡ t
    is =
        ⊎_elim
        (λ (a : get_or tickets (below t tickets) 0 < t). absurd (omega (arith, first tickets keeps.rising (below t tickets) within a)))
        (λ (a : t ≤ get_or tickets (below t tickets) 0). omega (arith, a, last (suc t) tickets keeps.rising (below t tickets) within (omega (arith, more))))
        (cases_lt (get_or tickets (below t tickets) 0) t)

-- where none has gone each ticket is its own place
low : (xs : List ℕ) → Rises xs → (i : ℕ) → i < length xs → i ≤ get_or xs i 0
low xs r zero l = omega arith
low xs r (suc i) l = omega (arith, low xs r i (omega (arith, l)), r i (suc i) (omega arith) l)

high : (xs : List ℕ) (next : ℕ) → Rises xs → ((i : ℕ) → i < length xs → get_or xs i 0 < next) → (k i : ℕ) → i + k + 1 ≡ length xs → get_or xs i 0 + k < next
high xs next r b zero i e = omega (arith, b i (omega (arith, e)))
high xs next r b (suc k) i e = omega (arith, high xs next r b k (suc i) (omega (arith, e)), r i (suc i) (omega arith) (omega (arith, e)))

pub own-place : (tickets ranked : List ℕ) (next rank : ℕ) → KeepsTickets tickets ranked next → length tickets ≡ next → rank < length ranked
    → get_or ranked rank 0 ≡ below (get_or ranked rank 0) tickets
own-place tickets ranked next rank keeps e h =
    let t : ℕ = get_or ranked rank 0 in
    let there : (below t tickets < length tickets) × (get_or tickets (below t tickets) 0 ≡ t) = stands tickets ranked next rank keeps h in
    omega (
      arith,
      e,
      there.0,
      there.1,
      low tickets keeps.rising (below t tickets) there.0,
      high tickets next keeps.rising keeps.bounded (length tickets - 1 - below t tickets) (below t tickets) (omega (arith, there.0)),
    )

-- ---- one more

map-insert : (f : ℕ → ℕ) (xs : List ℕ) (i x : ℕ) → map f (insert xs i x) ≡ insert (map f xs) i (f x)
map-insert f xs zero x = refl
map-insert f [] (suc i) x = refl
map-insert f (y ∷ xs) (suc i) x = ap (λ (zs : List ℕ). f y ∷ zs) (map-insert f xs i x)

map-same : (f g : ℕ → ℕ) (xs : List ℕ) → ((k : ℕ) → k < length xs → f (get_or xs k 0) ≡ g (get_or xs k 0)) → map f xs ≡ map g xs
map-same f g [] h = refl
map-same f g (x ∷ xs) h =
    ap (λ (y : ℕ). y ∷ map f xs) (h 0 (omega arith))
    ∙ ap (λ (ys : List ℕ). g x ∷ ys) (map-same f g xs (λ k l. h (suc k) (omega (arith, l))))

module _ (tickets ranked : List ℕ) (next rank : ℕ) (keeps : KeepsTickets tickets ranked next) (fits : rank ≤ length ranked) where
  all-below : below next tickets ≡ length tickets
  all-below = below-all next tickets keeps.bounded

  lesser : (k : ℕ) → k < length ranked → get_or ranked k 0 < next
  lesser k l = below-full next ranked k (omega (arith, keeps.same next, keeps.counted, all-below)) l

  last-new : get_or (insert tickets (length tickets) next) (length tickets) 0 ≡ next
  last-new = get_or-insert_at tickets (length tickets) next 0 (omega arith)

  old-at : (i : ℕ) → i < length tickets → get_or (insert tickets (length tickets) next) i 0 ≡ get_or tickets i 0
  old-at i l = get_or-insert_below tickets (length tickets) next 0 i l (omega arith)

  long-new : length (insert tickets (length tickets) next) ≡ length tickets + 1
  long-new = length-insert tickets (length tickets) next (omega arith)

  rises-new : Rises (insert tickets (length tickets) next)
  rises-new i j l m =
      ⊎_elim
      (λ (a : j < length tickets). omega (arith, old-at i (omega (arith, l, a)), old-at j a, keeps.rising i j l a))
      (λ (a : length tickets ≤ j).
      let e : j ≡ length tickets = omega (arith, a, m, long-new) in
      let at : get_or (insert tickets (length tickets) next) j 0 ≡ next = ap (λ (k : ℕ). get_or (insert tickets (length tickets) next) k 0) e ∙ last-new in
      omega (arith, at, old-at i (omega (arith, l, e)), keeps.bounded i (omega (arith, l, e))))
      (cases_lt j (length tickets))

  bounded-new : (i : ℕ) → i < length (insert tickets (length tickets) next) → get_or (insert tickets (length tickets) next) i 0 < next + 1
  bounded-new i l =
      ⊎_elim
      (λ (a : i < length tickets). omega (arith, old-at i a, keeps.bounded i a))
      (λ (a : length tickets ≤ i).
      let e : i ≡ length tickets = omega (arith, a, l, long-new) in
      let at : get_or (insert tickets (length tickets) next) i 0 ≡ next = ap (λ (k : ℕ). get_or (insert tickets (length tickets) next) k 0) e ∙ last-new in
      omega (arith, at))
      (cases_lt i (length tickets))

  pub keeps-new : KeepsTickets (insert tickets (length tickets) next) (insert ranked rank next) (next + 1)
  keeps-new = record {
    rising = rises-new;
    bounded = bounded-new;
    counted = omega (arith, long-new, length-insert ranked rank next fits, keeps.counted);
    same = λ t. omega (arith, below-insert t tickets (length tickets) next, below-insert t ranked rank next, keeps.same t);
  }

  pub places-new : places_of (insert tickets (length tickets) next) (insert ranked rank next) ≡ insert (places_of tickets ranked) rank (length (places_of tickets ranked))
  places-new =
      map-insert (λ t. below t (insert tickets (length tickets) next)) ranked rank next
      ∙ ap (λ (ns : List ℕ). insert ns rank (below next (insert tickets (length tickets) next)))
      (map-same (λ t. below t (insert tickets (length tickets) next)) (λ t. below t tickets) ranked
      (λ k l. omega (arith, below-insert (get_or ranked k 0) tickets (length tickets) next, lesser k l)))
      ∙ ap (insert (places_of tickets ranked) rank)
      (omega (arith, below-insert next tickets (length tickets) next, all-below, keeps.counted, length-map ranked (λ t. below t tickets)))

-- ---- one less

pub removed-at : (xs : List ℕ) (i k : ℕ) → i < length xs → get_or (remove xs i) k 0 ≡ get_or xs (k + min 1 (suc k - i)) 0
removed-at xs i k h =
    ⊎_elim
    (λ (a : k < i).
    let e : k ≡ k + min 1 (suc k - i) = omega (arith, a) in
    get_or-remove_below xs i 0 k a h ∙ ap (λ (j : ℕ). get_or xs j 0) e)
    (λ (a : i ≤ k).
    let e : k + 1 ≡ k + min 1 (suc k - i) = omega (arith, a) in
    get_or-remove_above xs i 0 k a h ∙ ap (λ (j : ℕ). get_or xs j 0) e)
    (cases_lt k i)

map-remove : (f g : ℕ → ℕ) (xs : List ℕ) (i : ℕ) → map f (remove (map g xs) i) ≡ map (λ x. f (g x)) (remove xs i)
map-remove f g [] zero = refl
map-remove f g [] (suc i) = refl
map-remove f g (x ∷ xs) zero = twice xs
  where
    twice : (ys : List ℕ) → map f (map g ys) ≡ map (λ y. f (g y)) ys
    twice [] = refl
    twice (y ∷ ys) = ap (λ (zs : List ℕ). f (g y) ∷ zs) (twice ys)
map-remove f g (x ∷ xs) (suc i) = ap (λ (zs : List ℕ). f (g x) ∷ zs) (map-remove f g xs i)

module _ (tickets ranked : List ℕ) (next rank : ℕ) (keeps : KeepsTickets tickets ranked next) (fits : rank < length ranked) where
  abbrev pub ticket : ℕ
  ticket = get_or ranked rank 0

  abbrev pub place : ℕ
  place = below ticket tickets

  there : (place < length tickets) × (get_or tickets place 0 ≡ ticket)
  there = stands tickets ranked next rank keeps fits

  pub place-fits : place < length tickets
  place-fits = there.0

  shorter : length (remove tickets place) + 1 ≡ length tickets
  shorter = length-remove tickets place there.0

  pub keeps-less : KeepsTickets (remove tickets place) (remove ranked rank) next
  keeps-less = record {
    rising =
        λ i j l m.
        omega (
          arith,
          removed-at tickets place i there.0,
          removed-at tickets place j there.0,
          keeps.rising (i + min 1 (suc i - place)) (j + min 1 (suc j - place)) (omega (arith, l)) (omega (arith, m, shorter)),
        );
    bounded = λ i l. omega (arith, removed-at tickets place i there.0, keeps.bounded (i + min 1 (suc i - place)) (omega (arith, l, shorter)));
    counted = omega (arith, shorter, length-remove ranked rank fits, keeps.counted);
    same = λ t. omega (arith, below-remove t tickets place there.0, below-remove t ranked rank fits, keeps.same t, there.1);
  }

  fewer : (x : ℕ) → below x (remove tickets place) ≡ lowered place (below x tickets)
  fewer x =
      ⊎_elim
      (λ (a : ticket < x). omega (arith, a, below-remove x tickets place there.0, there.1, occurs x ticket tickets place a there.0 there.1))
      (λ (a : x ≤ ticket). omega (arith, a, below-remove x tickets place there.0, there.1, below-more x ticket tickets a))
      (cases_lt ticket x)

  pub places-less : places_of (remove tickets place) (remove ranked rank) ≡ without_place rank (places_of tickets ranked)
  places-less =
      map-same (λ t. below t (remove tickets place)) (λ t. lowered place (below t tickets)) (remove ranked rank) (λ k l. fewer (get_or (remove ranked rank) k 0))
      ∙ sym (map-remove (lowered place) (λ t. below t tickets) ranked rank)
      ∙ ap (λ (p : ℕ). map (lowered p) (remove (places_of tickets ranked) rank)) (sym (get_or-map (λ t. below t tickets) ranked rank 0 0 fits))

-- ---- the same of lists that are equal to these

pub grown-keeps : (tickets ranked ts rs : List ℕ) (next later rank count : ℕ) → KeepsTickets tickets ranked next → rank ≤ length ranked → count ≡ length tickets
    → ts ≡ insert tickets count next → rs ≡ insert ranked rank next → later ≡ next + 1 → KeepsTickets ts rs later
grown-keeps tickets ranked ts rs next later rank count keeps fits e f g h =
    rw (f, g, h, e) (keeps-new tickets ranked next rank keeps fits)

pub grown-places : (tickets ranked ts rs places : List ℕ) (next rank count : ℕ) → KeepsTickets tickets ranked next → rank ≤ length ranked → count ≡ length tickets
    → ts ≡ insert tickets count next → rs ≡ insert ranked rank next → places_of tickets ranked ≡ places → places_of ts rs ≡ insert places rank (length places)
grown-places tickets ranked ts rs places next rank count keeps fits e f g is =
    ap (λ (ns : List ℕ). places_of ns rs) (f ∙ ap (λ (n : ℕ). insert tickets n next) e)
    ∙ ap (places_of (insert tickets (length tickets) next)) g
    ∙ places-new tickets ranked next rank keeps fits
    ∙ ap (λ (ns : List ℕ). insert ns rank (length ns)) is

pub less-keeps : (tickets ranked ts rs : List ℕ) (next rank gone : ℕ) → KeepsTickets tickets ranked next → rank < length ranked → gone ≡ below (get_or ranked rank 0) tickets
    → ts ≡ remove tickets gone → rs ≡ remove ranked rank → KeepsTickets ts rs next
less-keeps tickets ranked ts rs next rank gone keeps fits e f g =
    rw (f, g, e) (keeps-less tickets ranked next rank keeps fits)

pub less-places : (tickets ranked ts rs places : List ℕ) (next rank gone : ℕ) → KeepsTickets tickets ranked next → rank < length ranked → gone ≡ below (get_or ranked rank 0) tickets
    → ts ≡ remove tickets gone → rs ≡ remove ranked rank → places_of tickets ranked ≡ places → places_of ts rs ≡ without_place rank places
less-places tickets ranked ts rs places next rank gone keeps fits e f g is =
    ap (λ (ns : List ℕ). places_of ns rs) (f ∙ ap (remove tickets) e)
    ∙ ap (places_of (remove tickets (below (get_or ranked rank 0) tickets))) g
    ∙ places-less tickets ranked next rank keeps fits
    ∙ ap (without_place rank) is

pub ranks-are : (tickets ranked places : List ℕ) → places_of tickets ranked ≡ places → length ranked ≡ length places
ranks-are tickets ranked places is = sym (length-map ranked (λ t. below t tickets)) ∙ ap (λ (ns : List ℕ). length ns) is
