-- What is kept of one ref goes on standing for it.
use Rattle.std.proofs.Common.{◌≡◌, ℕ, zero, suc, ◌+◌, ◌<◌, Bool, true, false, cond, not, ◌&&◌}
use Rattle.std.proofs.Common.{List, [], ◌∷◌, map, take, length, find, Some, option_map}
use Rattle.std.proofs.Common.{refl, sym, ap, ap₂, ◌∙◌, arith, nat_lt, leb, if◌then◌else◌}
use Rattle.std.proofs.lemmas.List.{length-take-le, length-map, take-map, take_all}
use Rattle.std.proofs.Common.{Option, None, IsSome, is_some, ltb, slice_get}
use Rattle.std.specs.Option.{option_and_then}
use Rattle.std.specs.List.{position_or_len}
use Rattle.std.proofs.lemmas.Bool.{lt-leb, ltb-true, ltb-false}
use Rattle.std.proofs.lemmas.List.Folds.{find_at}
use Rattle.std.proofs.lemmas.Option.{slice_get_past, slice_get-get_or}
use Rattle.value_data.specs.Inside.View.{view}
use Rattle.value_data.specs.Datum.{Datum}
use Rattle.ref_history.specs.Versioned.{Ref, at_point, readable, grows, with_version}
use Rattle.ref_history.specs.Kept.{KeptStands, version_of, content_in}
use Rattle.ref_history.specs.declared.kept_ref.KeptVersion.{KeptVersion}
use Rattle.ref_history.specs.declared.kept_ref.KeptRef.{KeptRef}

-- A ref for which it stands: one that never had more versions

pub plain-faults : (b : Bool) → b ≡ nat_lt 0 (cond b 1 0)
plain-faults true = refl
plain-faults false = refl

pub some-ref : (k : KeptRef) → (r : Ref) × KeptStands k r
some-ref k = (
  record {
    versions = version_of k.newest ∷ map version_of k.older.items;
    kept = length k.older.items;
    faults = if k.is_faulted then 1 else 0;
    least = k.bounds.least;
    most = k.bounds.most;
  },
  record {
    versions = sym (take_all _ _ (omega (arith, length-map k.older.items version_of)));
    many = refl;
    faults = plain-faults k.is_faulted;
    bounds = refl;
  },
)

pub one-more : (n : ℕ) → n + 1 ≡ suc n
one-more n = omega arith

-- Reading

abbrev pub is_old : ℕ → KeptVersion → Bool
is_old point v = leb v.stamp point

abbrev pub content_of : KeptVersion → Datum
content_of v = view v.content

pub found-old : (point : ℕ) (vs : List KeptVersion)
    → option_map content_of (find (is_old point) vs) ≡ at_point point (map version_of vs)
found-old point [] = refl
found-old point (v ∷ vs) = first (leb v.stamp point) (found-old point vs)
  where
    first : (b : Bool)
        → option_map content_of (find (is_old point) vs) ≡ at_point point (map version_of vs)
        → option_map content_of (cond b (Some v) (find (is_old point) vs))
        ≡ cond b (Some (content_of v)) (at_point point (map version_of vs))
    first true behind = refl
    first false behind = behind

-- where the first that is old enough stands
abbrev pub old_place : ℕ → List KeptVersion → Option ℕ
old_place point vs =
    let i = position_or_len (is_old point) vs in
    cond (ltb i (length vs)) (Some i) None

abbrev content_there : List KeptVersion → ℕ → Option Datum
content_there vs i = option_map content_of (slice_get vs i)

there-or-past : (vs : List KeptVersion) (i : ℕ) (b : Bool) → b ≡ ltb i (length vs)
    → option_and_then (content_there vs) (cond b (Some i) None) ≡ content_there vs i
there-or-past vs i true e = refl
there-or-past vs i false e =
    sym (ap (option_map content_of) (slice_get_past vs i (ltb-false i (length vs) (sym e))))

old-there : (point : ℕ) (vs : List KeptVersion)
    → option_and_then (content_there vs) (old_place point vs) ≡ at_point point (map version_of vs)
old-there point vs =
    let i = position_or_len (is_old point) vs in
    there-or-past vs i (ltb i (length vs)) refl
    ∙ ap (option_map content_of) (sym (find_at (is_old point) vs))
    ∙ found-old point vs

-- where the newest is too young, the read is among those behind it
among-older : (k : KeptRef) (r : Ref) (point : ℕ) → point < k.newest.stamp → KeptStands k r
    → at_point point (map version_of k.older.items) ≡ readable point r
among-older k r point young s =
    let behind = at_point point (map version_of k.older.items) in
    sym (ap (λ b. cond b (Some (content_of k.newest)) behind) (lt-leb k.newest.stamp point young))
    ∙ ap (at_point point) s.versions

pub read-none : (k : KeptRef) (r : Ref) (point : ℕ) → point < k.newest.stamp → KeptStands k r
    → None ≡ old_place point k.older.items → None ≡ readable point r
read-none k r point young s none =
    ap (option_and_then (content_there k.older.items)) none ∙ old-there point k.older.items
    ∙ among-older k r point young s

pub read-some : (k : KeptRef) (r : Ref) (point i : ℕ) → point < k.newest.stamp → KeptStands k r
    → Some i ≡ old_place point k.older.items → content_in k (i + 1) ≡ readable point r
read-some k r point i young s some =
    ap (content_in k) (one-more i) ∙ ap (option_and_then (content_there k.older.items)) some
    ∙ old-there point k.older.items ∙ among-older k r point young s

pub some-same : {A : Type 0} (x y : A) → ◌≡◌ {A = Option A} (Some x) (Some y) → x ≡ y
some-same x y e = cc

within : (i j n : ℕ) (b : Bool) → b ≡ ltb j n → Some i ≡ cond b (Some j) None → i < n
within i j n true e some = omega (arith, some-same i j some, ltb-true j n (sym e))
within i j n false e some = absurd cc

pub some-there : (k : KeptRef) (point i : ℕ) → Some i ≡ old_place point k.older.items
    → IsSome (content_in k (i + 1))
some-there k point i some =
    let vs = k.older.items in
    let j = position_or_len (is_old point) vs in
    let inside = within i j (length vs) (ltb j (length vs)) refl some in
    ap (λ (content : Option Datum). is_some content)
    (ap (content_in k) (one-more i)
    ∙ ap (option_map content_of) (slice_get-get_or vs i k.newest inside))

-- Adding

pub take-fewer : {A : Type 0} (n : ℕ) (vs : List A) → take n (take (suc n) vs) ≡ take n vs
take-fewer zero vs = refl
take-fewer (suc n) [] = refl
take-fewer (suc n) (v ∷ vs) = ap (λ rest. v ∷ rest) (take-fewer n vs)

and-not : (b : Bool) → (b && not true) ≡ false
and-not true = refl
and-not false = refl

and-yes : (b : Bool) → (b && not false) ≡ b
and-yes true = refl
and-yes false = refl

pub added-stands : (k new : KeptRef) (r : Ref) (g : Bool) → g ≡ grows r → KeptStands k r
    → new.older.items ≡ (if g then k.newest ∷ k.older.items
    else take (length k.older.items) (k.newest ∷ k.older.items))
    → new.is_faulted ≡ (k.is_faulted && not g) → new.bounds ≡ k.bounds
    → KeptStands new (with_version (version_of new.newest) r)
added-stands k new r true g s older faulted bounds =
    let v = version_of new.newest in
    record {
      versions =
          ap (λ vs. v ∷ map version_of vs) older
          ∙ ap (λ vs. v ∷ vs) s.versions
          ∙ sym (ap (λ n. take n (v ∷ r.versions)) (one-more (r.kept + 1)))
          ∙ ap (λ b. take (cond b (r.kept + 1) r.kept + 1) (v ∷ r.versions)) g;
      many =
          ap length older ∙ ap suc s.many ∙ sym (one-more r.kept)
          ∙ ap (λ b. cond b (r.kept + 1) r.kept) g;
      faults =
          faulted ∙ and-not k.is_faulted ∙ ap (λ b. nat_lt 0 (cond b 0 r.faults)) g;
      bounds = bounds ∙ s.bounds;
    }
added-stands k new r false g s older faulted bounds =
    let v = version_of new.newest in
    let m = length k.older.items in
    record {
      versions =
          ap (λ vs. v ∷ map version_of vs) older
          ∙ ap (λ vs. v ∷ vs)
          (sym (take-map version_of m (k.newest ∷ k.older.items)) ∙ ap₂ take s.many s.versions
          ∙ ap (λ n. take r.kept (take n r.versions)) (one-more r.kept)
          ∙ take-fewer r.kept r.versions)
          ∙ sym (ap (λ n. take n (v ∷ r.versions)) (one-more r.kept))
          ∙ ap (λ b. take (cond b (r.kept + 1) r.kept + 1) (v ∷ r.versions)) g;
      many =
          ap length older ∙ length-take-le m (k.newest ∷ k.older.items) (omega arith) ∙ s.many
          ∙ ap (λ b. cond b (r.kept + 1) r.kept) g;
      faults =
          faulted ∙ and-yes k.is_faulted ∙ s.faults
          ∙ ap (λ b. nat_lt 0 (cond b 0 r.faults)) g;
      bounds = bounds ∙ s.bounds;
    }
