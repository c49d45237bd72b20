-- What the nodes hold, and what they keep of it.
use Rattle.std.specs.Prelude.{◌≡◌, ℕ, ◌+◌, List, [], ◌∷◌, ◌++◌, length, Option, None, Some}
use Rattle.chunked_list.specs.Held.{NumbersTreeData}
use Rattle.chunked_list.specs.declared.tree.NumbersShape.{NumbersShape}
use Rattle.chunked_list.specs.declared.tree.NumbersShape.TheVariants.{Leaf, Fork}
use Rattle.chunked_list.specs.declared.tree.NumbersNode.{NumbersNode}

-- how many forks
abbrev pub numbers_held : NumbersShape → ℕ
numbers_held (Leaf v) = 0
numbers_held (Fork l r) = 1 + l.held + r.held

-- the numbers from left to right
abbrev pub numbers_shown : NumbersShape → List ℕ
numbers_shown (Leaf v) = v.items
numbers_shown (Fork l r) = l.items ++ r.items

abbrev pub numbers_seen : NumbersNode → NumbersTreeData
numbers_seen n = record { items = numbers_shown n.shape; held = numbers_held n.shape }

-- the last number, or 0 where there is none
abbrev pub numbers_last : List ℕ → ℕ
numbers_last [] = 0
numbers_last (n ∷ []) = n
numbers_last (n ∷ m ∷ ms) = numbers_last (m ∷ ms)

-- the length and the last number are those of the numbers
pub record KeepsNumbers (n : NumbersNode) : Type 0 where
  pub counted : n.len ≡ length (numbers_shown n.shape)
  pub lasted : n.last ≡ numbers_last (numbers_shown n.shape)

-- the numbers of a tree, if there is one
abbrev pub numbers_listed : Option NumbersTreeData → List ℕ
numbers_listed None = []
numbers_listed (Some t) = t.items
