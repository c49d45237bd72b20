-- What has come of a message is held with the pairs sorted.
use Rattle.std.specs.Prelude.{◌≡◌, ℕ, List, length}
use Rattle.bencode_wire.specs.Inside.Cut.{Cut, IsCut, cut_text, sorted_cut}

-- these bytes, as many as are counted, are held as this cut
pub record HasCome (held : Cut) (come : ℕ) (m : List ℕ) : Type 0 where
  pub cut : Cut
  pub is_cut : IsCut cut
  pub text : cut_text cut ≡ m
  pub sorted : held ≡ sorted_cut cut
  pub long : come ≡ length m
