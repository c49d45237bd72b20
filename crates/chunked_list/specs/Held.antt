-- What a tree is seen as: its numbers, and how many forks stand in it.
use Rattle.std.specs.Prelude.{ℕ, List}

pub record NumbersTreeData : Type 0 where
  pub items : List ℕ
  pub held : ℕ
