-- Places that are apart have room, one after the other.
use Rattle.std.proofs.Common.{◌≡◌, ◌≢◌, suc, List, [], ◌∷◌, All}
use Rattle.std.proofs.Common.{Bool, true, false, not, ◌||◌, ◌&&◌, map, refl, sym, ap, ◌∙◌, arith}
use Rattle.std.specs.List.{list_any}
use Rattle.std.specs.Ordering.{eq_by_cmp, is_eq}
use Rattle.std.specs.Cmp.{nat_cmp_is}
use Rattle.std.specs.declared.cmp.Ordering.TheVariants.{Equal}
use Rattle.std.proofs.lemmas.List.Elements.{All-cons, All-nil}
use Rattle.ref_history.specs.declared.ref_id.RefId.{RefId}
use Rattle.ref_history.specs.contracts.ref_id.RefIdOrd.TheImpl as order
use Rattle.ref_table.specs.Placing.{all_distinct, HaveRoom}
use Rattle.ref_table.specs.declared.placing.Placed.{Placed}

all-first : (P : Placed → Type 0) (p : Placed) (ps : List Placed) → All P (p ∷ ps) → P p
all-first P p ps all = all 0 p (omega arith)

all-rest : (P : Placed → Type 0) (p : Placed) (ps : List Placed) → All P (p ∷ ps) → All P ps
all-rest P p ps all = λ k d below. all (suc k) d (omega arith)

-- other places keep their room
pub rooms-kept : {H : Type 0} (has_room : H → RefId → Type 0) (old new : H) (id : RefId)
    (ps : List Placed)
    → ((other : RefId) → other ≢ id → has_room old other → has_room new other)
    → All (λ q. q.id ≢ id) ps → HaveRoom has_room old ps → HaveRoom has_room new ps
rooms-kept has_room old new id [] keeps elsewhere rooms = tt
rooms-kept has_room old new id (p ∷ ps) keeps elsewhere rooms = (
  keeps p.id (all-first (λ q. q.id ≢ id) p ps elsewhere) rooms.0,
  rooms.1,
  rooms-kept has_room old new id ps keeps (all-rest (λ q. q.id ≢ id) p ps elsewhere) rooms.2,
)

-- the derived equality of ids
abbrev pub same_id : RefId → RefId → Bool
same_id = eq_by_cmp (order.ghosts).cmp

same_id-refl : (id : RefId) → same_id id id ≡ true
same_id-refl id = ap is_eq (sym (nat_cmp_is id.place id.place Equal refl))

neither : (a b : Bool) → (a || b) ≡ false → (a ≡ false) × (b ≡ false)
neither true b e = cc
neither false b e = (refl, e)

elsewhere : (id : RefId) (ps : List Placed)
    → list_any (same_id id) (map (λ p. p.id) ps) ≡ false → All (λ q. q.id ≢ id) ps
elsewhere id [] e = All-nil (λ q. q.id ≢ id)
elsewhere id (p ∷ ps) e =
    let both = neither (same_id id p.id) (list_any (same_id id) (map (λ p. p.id) ps)) e in
    All-cons (λ q. q.id ≢ id) p ps
    (λ is. differ (same_id id p.id) both.0 (ap (same_id id) is ∙ same_id-refl id))
    (elsewhere id ps both.1) where
      differ : (b : Bool) → b ≡ false → b ≡ true → ⊥
      differ b e f = cc

both_hold : (a b : Bool) → (not a && b) ≡ true → (a ≡ false) × (b ≡ true)
both_hold true b e = cc
both_hold false b e = (refl, e)

-- room at each of them is room for all
pub have-room : {H : Type 0} (has_room : H → RefId → Type 0) (h : H) (ps : List Placed)
    → All (λ p. has_room h p.id) ps → all_distinct same_id (map (λ p. p.id) ps) ≡ true
    → HaveRoom has_room h ps
have-room has_room h [] rooms distinct = tt
have-room has_room h (p ∷ ps) rooms distinct =
    let both = both_hold (list_any (same_id p.id) (map (λ p. p.id) ps))
    (all_distinct same_id (map (λ p. p.id) ps)) distinct in (
      all-first (λ p. has_room h p.id) p ps rooms,
      elsewhere p.id ps both.0,
      have-room has_room h ps (all-rest (λ p. has_room h p.id) p ps rooms) both.1,
    )
