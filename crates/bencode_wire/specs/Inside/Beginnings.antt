-- What a byte does that begins a value, or ends the innermost frame. `add` puts a pair into a
-- dictionary: behind the others, as they are read, or by its key.
use Rattle.std.specs.Prelude.{ℕ, List, [], ◌∷◌}
use Rattle.bencode_wire.specs.Tree.{Tree, integer, string, list, dictionary, no_trees, TreePairs}
use Rattle.bencode_wire.specs.Tree.{no_pairs, add_tree}
use Rattle.bencode_wire.specs.Inside.Cut.{OpenContainer, in_list, at_key, at_value, Token, between}
use Rattle.bencode_wire.specs.Inside.Cut.{after_i}
use Rattle.bencode_wire.specs.Inside.Cut.{count}
use Rattle.bencode_wire.specs.declared.sign.Sign.{Sign}
use Rattle.bencode_wire.specs.declared.cut.Expected.{Expected}

pub data ByteEffect : Type 0 where
  goes : List OpenContainer → Token → ByteEffect
  -- a list or a dictionary has just been opened
  opens : OpenContainer → List OpenContainer → ByteEffect
  -- a key is whole
  names : TreePairs → List ℕ → List OpenContainer → ByteEffect
  ends : Tree → ByteEffect
  stuck : ByteEffect

abbrev pub Adding : Type 0
Adding = TreePairs → List ℕ → Tree → TreePairs

abbrev pub put_key : TreePairs → List OpenContainer → Tree → ByteEffect
put_key ps fs (integer n) = stuck
put_key ps fs (string key) = names ps key fs
put_key ps fs (list ts) = stuck
put_key ps fs (dictionary qs) = stuck

-- a value that is whole goes into the innermost frame, or is the message
abbrev pub put : Adding → List OpenContainer → Tree → ByteEffect
put add [] t = ends t
put add (in_list ts ∷ fs) t = goes (in_list (add_tree ts t) ∷ fs) between
put add (at_key ps ∷ fs) t = put_key ps fs t
put add (at_value ps key ∷ fs) t = goes (at_key (add ps key t) ∷ fs) between

-- what may come between two tokens
abbrev pub expected_in : List OpenContainer → Expected
expected_in [] = Expected.Message
expected_in (in_list ts ∷ fs) = Expected.ItemOrEnd
expected_in (at_key ps ∷ fs) = Expected.KeyOrEnd
expected_in (at_value ps key ∷ fs) = Expected.Value

-- the end of the innermost frame
abbrev pub close : Adding → List OpenContainer → ByteEffect
close add [] = stuck
close add (in_list ts ∷ fs) = put add fs (list ts)
close add (at_key ps ∷ fs) = put add fs (dictionary ps)
close add (at_value ps key ∷ fs) = stuck

abbrev pub begin_message : List OpenContainer → Sign → ByteEffect
begin_message fs Sign.Dictionary = opens (at_key no_pairs) fs
begin_message fs Sign.Integer = stuck
begin_message fs Sign.List = stuck
begin_message fs Sign.End = stuck
begin_message fs Sign.Minus = stuck
begin_message fs Sign.Colon = stuck
begin_message fs (Sign.Digit d) = stuck
begin_message fs Sign.Other = stuck

abbrev pub begin_value : List OpenContainer → Sign → ByteEffect
begin_value fs Sign.Integer = goes fs after_i
begin_value fs Sign.List = opens (in_list no_trees) fs
begin_value fs Sign.Dictionary = opens (at_key no_pairs) fs
begin_value fs (Sign.Digit d) = goes fs (count d)
begin_value fs Sign.End = stuck
begin_value fs Sign.Minus = stuck
begin_value fs Sign.Colon = stuck
begin_value fs Sign.Other = stuck

abbrev pub begin_item : Adding → List OpenContainer → Sign → ByteEffect
begin_item add fs Sign.End = close add fs
begin_item add fs Sign.Integer = goes fs after_i
begin_item add fs Sign.List = opens (in_list no_trees) fs
begin_item add fs Sign.Dictionary = opens (at_key no_pairs) fs
begin_item add fs (Sign.Digit d) = goes fs (count d)
begin_item add fs Sign.Minus = stuck
begin_item add fs Sign.Colon = stuck
begin_item add fs Sign.Other = stuck

abbrev pub begin_key : Adding → List OpenContainer → Sign → ByteEffect
begin_key add fs Sign.End = close add fs
begin_key add fs (Sign.Digit d) = goes fs (count d)
begin_key add fs Sign.Integer = stuck
begin_key add fs Sign.List = stuck
begin_key add fs Sign.Dictionary = stuck
begin_key add fs Sign.Minus = stuck
begin_key add fs Sign.Colon = stuck
begin_key add fs Sign.Other = stuck

abbrev pub begin_as : Adding → Expected → List OpenContainer → Sign → ByteEffect
begin_as add Expected.Message fs sign = begin_message fs sign
begin_as add Expected.Value fs sign = begin_value fs sign
begin_as add Expected.ItemOrEnd fs sign = begin_item add fs sign
begin_as add Expected.KeyOrEnd fs sign = begin_key add fs sign

abbrev pub begin : Adding → List OpenContainer → Sign → ByteEffect
begin add fs sign = begin_as add (expected_in fs) fs sign
