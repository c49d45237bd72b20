use Rattle.std.proofs.Common.{◌≡◌, ◌∙◌, ap, refl, ℕ, List, [], ◌∷◌, map}
use denote.Ref.{Bor}
use Rattle.std.specs.Map.Iter.{deref}
use Rattle.std.proofs.lemmas.Map.Iter.{iter_end}
use Rattle.repl_sessions.specs.Ids.{id_text}
use Rattle.repl_sessions.proofs.lookup.texts.Goals as goal

behind : (f : ℕ → List ℕ) (xs : List (Bor ℕ)) → map (λ x. f x.now) xs ≡ map f (map deref xs)
behind f [] = refl
behind f (x ∷ xs) = ap (λ (l : List (List ℕ)). f x.now ∷ l) (behind f xs)

pub returns : goal.returns
returns c =
    let f = id_text c.args.ids.now in
    c.loop-number.invariant ∙ behind f c.loop-number.yielded
    ∙ ap (map f)
    (iter_end deref _ _ _ _ _ _ (c.into_iter-number-iterator.ensures.into_iter_gives ∙ c.keys-number-items.ensures.rest) c.loop-number.yielded_by c.in-None.is c.next.ensures.steps).0
