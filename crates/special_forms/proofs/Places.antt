-- Places of locals by their names.
use Rattle.std.proofs.Common.{◌≡◌, ℕ, zero, suc, ◌+◌, ◌<◌, Bool, true, false, List, [], ◌∷◌, length}
use Rattle.std.proofs.Common.{get_or, map as each, Option, Some, None, cond, refl, sym, ap, subst}
use Rattle.std.proofs.Common.{◌∙◌, arith}
use Rattle.std.specs.Prelude.{if◌then◌else◌}
use Rattle.std.specs.Str.{bytes_eq}
use Rattle.std.specs.Arc.{arc_str_bytes}
use Rattle.std.specs.BTreeMap.{BTreeMap, get, Updates}
use Rattle.std.specs.declared.alloc.Global.{Global}
use Rattle.std.specs.declared.sync.ArcStr.{ArcStr}
use Rattle.std.proofs.lemmas.Map.Text.{is_eq-slice_cmp}
use Rattle.std.proofs.lemmas.Slice.Eq.{bytes_eq-Decides}
use Rattle.value_data.specs.Inside.View.{view}
use Rattle.special_forms.specs.Locals.{LocalData, local_value}
use Rattle.special_forms.specs.Inside.Naming.{local_view, newest_place, by_bytes, AreLinked, HasNewest}
use Rattle.special_forms.specs.declared.local.Local.{Local}

pub place-below : (ls : List LocalData) (s : List ℕ) (p : ℕ) → newest_place ls s ≡ Some p → p < length ls
place-below [] s p e = absurd (cc)
place-below (l ∷ ls) s p e = at (bytes_eq l.name s) (place-below ls s p) e
  where
    at : (b : Bool) → (newest_place ls s ≡ Some p → p < length ls) → (if b then Some (length ls) else newest_place ls s) ≡ Some p → p < suc (length ls)
    at true ih h = let is : length ls ≡ p = cc in omega (arith, is)
    at false ih h = omega (arith, ih h)

pub length-views : (xs : List Local) → length (each local_view xs) ≡ length xs
length-views [] = refl
length-views (x ∷ xs) = ap suc (length-views xs)

pub none-bound : (ls : List LocalData) (s : List ℕ) → newest_place ls s ≡ None → local_value ls s ≡ None
none-bound [] s e = refl
none-bound (l ∷ ls) s e = at (bytes_eq l.name s) (none-bound ls s) e
  where
    at : (b : Bool) → (newest_place ls s ≡ None → local_value ls s ≡ None) → (if b then Some (length ls) else newest_place ls s) ≡ None
        → (if b then Some l.bound else local_value ls s) ≡ None
    at true ih h = absurd (cc)
    at false ih h = ih h

pub bound-at : (xs : List Local) (s : List ℕ) (p i : ℕ) (x : Local) → newest_place (each local_view xs) s ≡ Some p → i + p + 1 ≡ length xs → x ≡ get_or xs i x
    → local_value (each local_view xs) s ≡ Some (view x.value)
bound-at [] s p i x e n is = absurd (cc)
bound-at (y ∷ ys) s p i x e n is = at (bytes_eq (arc_str_bytes y.name) s) i n is (λ j. bound-at ys s p j x) e
  where
    at : (b : Bool) (i : ℕ) → i + p + 1 ≡ suc (length ys) → x ≡ get_or (y ∷ ys) i x
        → ((j : ℕ) → newest_place (each local_view ys) s ≡ Some p → j + p + 1 ≡ length ys → x ≡ get_or ys j x → local_value (each local_view ys) s ≡ Some (view x.value))
        → (if b then Some (length (each local_view ys)) else newest_place (each local_view ys) s) ≡ Some p
        → (if b then Some (view y.value) else local_value (each local_view ys) s) ≡ Some (view x.value)
    at true zero n is ih h = ap (λ (z : Local). Some (view z.value)) (sym is)
    at true (suc j) n is ih h = let first : length (each local_view ys) ≡ p = cc in absurd (omega (arith, n, first, length-views ys))
    at false zero n is ih h = absurd (omega (arith, n, place-below (each local_view ys) s p h, length-views ys))
    at false (suc j) n is ih h = ih j h (omega (arith, n)) is

-- the index once a local was bound
pub bound-indexes : (old new : BTreeMap (ArcStr Global) ℕ) (key : ArcStr Global) (ls : List LocalData) (l : LocalData) (n : ℕ) → l.name ≡ arc_str_bytes key → n ≡ length ls
    → HasNewest old ls → Updates by_bytes old new key (Some n) → HasNewest new (l ∷ ls)
bound-indexes old new key ls l n e is was now name =
    now.0 name ∙ ap (λ b. cond b (Some n) (get by_bytes old name)) (is_eq-slice_cmp (arc_str_bytes key) (arc_str_bytes name))
    ∙ ap (λ o. cond (bytes_eq (arc_str_bytes key) (arc_str_bytes name)) (Some n) o) (was name)
    ∙ ap (λ m. cond (bytes_eq (arc_str_bytes key) (arc_str_bytes name)) (Some m) (newest_place ls (arc_str_bytes name))) is
    ∙ ap (λ k. cond (bytes_eq k (arc_str_bytes name)) (Some (length ls)) (newest_place ls (arc_str_bytes name))) (sym e)

-- the index once the newest local was taken out
pub unbound-indexes : (old new : BTreeMap (ArcStr Global) ℕ) (key : ArcStr Global) (ls : List LocalData) (l : LocalData) → l.name ≡ arc_str_bytes key
    → HasNewest old (l ∷ ls) → Updates by_bytes old new key (newest_place ls l.name) → HasNewest new ls
unbound-indexes old new key ls l e was now name =
    now.0 name ∙ ap (λ b. cond b (newest_place ls l.name) (get by_bytes old name)) (is_eq-slice_cmp (arc_str_bytes key) (arc_str_bytes name))
    ∙ ap (λ k. cond (bytes_eq k (arc_str_bytes name)) (newest_place ls l.name) (get by_bytes old name)) (sym e)
    ∙ ap (λ o. cond (bytes_eq l.name (arc_str_bytes name)) (newest_place ls l.name) o) (was name)
    ∙ at (bytes_eq l.name (arc_str_bytes name)) refl
  where
    at : (b : Bool) → bytes_eq l.name (arc_str_bytes name) ≡ b
        → cond b (newest_place ls l.name) (if b then Some (length ls) else newest_place ls (arc_str_bytes name)) ≡ newest_place ls (arc_str_bytes name)
    at true h = let same : l.name ≡ arc_str_bytes name = (bytes_eq-Decides l.name (arc_str_bytes name)).0 h in ap (newest_place ls) same
    at false h = refl

abbrev Keeps : BTreeMap (ArcStr Global) ℕ → List Local → Type 0
Keeps index xs = AreLinked xs × HasNewest index (each local_view xs)

pub bound-keeps : (xs ys : List Local) (l : Local) (old new : BTreeMap (ArcStr Global) ℕ) (key : ArcStr Global) (n : ℕ) → ys ≡ l ∷ xs
    → arc_str_bytes key ≡ arc_str_bytes l.name → n ≡ length xs → l.older ≡ get by_bytes old key → Keeps old xs → Updates by_bytes old new key (Some n) → Keeps new ys
bound-keeps xs ys l old new key n e named is older kept now =
    subst (Keeps new) (sym e) (
      (older ∙ kept.1 key ∙ ap (newest_place (each local_view xs)) named, kept.0),
      bound-indexes old new key (each local_view xs) (local_view l) n (sym named) (is ∙ sym (length-views xs)) kept.1 now,
    )

pub unbound-keeps : (xs ys : List Local) (l : Local) (old new : BTreeMap (ArcStr Global) ℕ) → xs ≡ l ∷ ys → Keeps old xs → Updates by_bytes old new l.name l.older → Keeps new ys
unbound-keeps xs ys l old new e kept now =
    let were : Keeps old (l ∷ ys) = subst (Keeps old) e kept in (
      were.0.1,
      unbound-indexes old new l.name (each local_view ys) (local_view l) refl were.1
          (subst (λ (o : Option ℕ). Updates by_bytes old new l.name o) were.0.0 now),
    )

pub ruleset place_steps = (place-below, none-bound)
