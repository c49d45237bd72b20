-- A list of turns, one after another.
use Rattle.std.proofs.Common.{◌≡◌, ℕ, suc, ◌+◌, ◌==◌, List, [], ◌∷◌, ◌++◌, length, refl, sym, ap}
use Rattle.std.proofs.Common.{◌∙◌, if◌then◌else◌, append_assoc, append-nil, arith}
use Rattle.server_rules.specs.Ground.{Ground}
use Rattle.server_rules.specs.Machine.Turns.{Turn, whose, turn_step, world_after, serve, bytes_given}
use Rattle.server_rules.specs.Machine.World.{World, Stepped, accepted, refused}
use Rattle.repl_core.specs.Driving.{world_after_all, RefusedData, with_refusal, refusals}

pub world_after_all-more : (g : Ground) (w : World) (xs ys : List Turn)
    → world_after_all g w (xs ++ ys) ≡ world_after_all g (world_after_all g w xs) ys
world_after_all-more g w [] ys = refl
world_after_all-more g w (x ∷ xs) ys = world_after_all-more g (world_after g w x) xs ys

pub serve-more : (g : Ground) (w : World) (xs ys : List Turn) (t : ℕ)
    → serve g w (xs ++ ys) t ≡ serve g w xs t ++ serve g (world_after_all g w xs) ys t
serve-more g w [] ys t = refl
serve-more g w (x ∷ xs) ys t =
    let first : List ℕ = if t == whose x then bytes_given (turn_step g w x) else [] in
    ap (λ (more : List ℕ). first ++ more) (serve-more g (world_after g w x) xs ys t)
    ∙ sym (append_assoc first (serve g (world_after g w x) xs t)
    (serve g (world_after_all g (world_after g w x) xs) ys t))

with-refusal-more : (n : ℕ) (s : Stepped) (xs ys : List RefusedData)
    → with_refusal n s (xs ++ ys) ≡ with_refusal n s xs ++ ys
with-refusal-more n (accepted w answer) xs ys = refl
with-refusal-more n (refused why) xs ys = refl

pub refusals-more : (g : Ground) (w : World) (n : ℕ) (xs ys : List Turn)
    → refusals g w n (xs ++ ys)
    ≡ refusals g w n xs ++ refusals g (world_after_all g w xs) (n + length xs) ys
refusals-more g w n [] ys = ap (λ k. refusals g w k ys) (same n)
  where
    same : (k : ℕ) → k ≡ k + 0
    same k = omega arith
refusals-more g w n (x ∷ xs) ys =
    ap (with_refusal n (turn_step g w x)) (refusals-more g (world_after g w x) (n + 1) xs ys
    ∙ ap (λ k. refusals g (world_after g w x) (n + 1) xs
    ++ refusals g (world_after_all g (world_after g w x) xs) k ys) (places n (length xs)))
    ∙ with-refusal-more n (turn_step g w x) (refusals g (world_after g w x) (n + 1) xs)
    (refusals g (world_after_all g (world_after g w x) xs) (n + length (x ∷ xs)) ys)
  where
    places : (m k : ℕ) → m + 1 + k ≡ m + suc k
    places m k = omega arith

-- one turn more

pub serve-one : (g : Ground) (w : World) (turns : List Turn) (x : Turn) (t : ℕ)
    → serve g w (turns ++ x ∷ []) t ≡ serve g w turns t
    ++ (if t == whose x then bytes_given (turn_step g (world_after_all g w turns) x) else [])
serve-one g w turns x t =
    serve-more g w turns (x ∷ []) t
    ∙ ap (λ (more : List ℕ). serve g w turns t ++ more) (append-nil _)

pub refusals-one : (g : Ground) (w : World) (n : ℕ) (turns : List Turn) (x : Turn)
    → refusals g w n (turns ++ x ∷ []) ≡ refusals g w n turns
    ++ with_refusal (n + length turns) (turn_step g (world_after_all g w turns) x) []
refusals-one g w n turns x = refusals-more g w n turns (x ∷ [])
