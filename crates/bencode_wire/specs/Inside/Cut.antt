-- What the reader holds, a text that breaks off at some byte: the lists and dictionaries that are
-- open, the innermost first, and the part of a token that has come.
use Rattle.std.specs.Prelude.{ℕ, ◌+◌, ◌<◌, ◌≤◌, ◌⊎◌, Bool, true, false, List, [], ◌∷◌, ◌++◌, length}
use Rattle.std.specs.Prelude.{codes, decimal}
use Rattle.bencode_wire.specs.Tree.{Trees, TreePairs, no_pairs}
use Rattle.bencode_wire.specs.Spelling.{trees_text, pairs_text, string_text, AreSpellable, ArePairs}
use Rattle.bencode_wire.specs.Spelling.{IsLength, IsString, sorted_trees, put_tree_pairs}

pub data OpenContainer : Type 0 where
  -- a list, with the values that it holds
  in_list : Trees → OpenContainer
  -- a dictionary in which a key may come
  at_key : TreePairs → OpenContainer
  -- a dictionary in which the value of a key has to come
  at_value : TreePairs → List ℕ → OpenContainer

-- one that its end may follow
abbrev pub CanEnd : OpenContainer → Type 0
CanEnd (in_list ts) = Unit {0}
CanEnd (at_key ps) = Unit {0}
CanEnd (at_value ps key) = ⊥

abbrev pub InnermostCanEnd : List OpenContainer → Type 0
InnermostCanEnd [] = ⊥
InnermostCanEnd (f ∷ fs) = CanEnd f

pub data Token : Type 0 where
  between : Token
  after_i : Token
  after_minus : Token
  -- digits of an integer, behind a minus or not
  digits : Bool → ℕ → Token
  -- digits of a string's length
  count : ℕ → Token
  -- bytes of a string, and how many are still to come
  part : List ℕ → ℕ → Token

pub data Cut : Type 0 where
  cut : List OpenContainer → Token → Cut

abbrev pub frame_text : OpenContainer → List ℕ
frame_text (in_list ts) = codes "l" ++ trees_text ts
frame_text (at_key ps) = codes "d" ++ pairs_text ps
frame_text (at_value ps key) = codes "d" ++ pairs_text ps ++ string_text key

abbrev pub frames_text : List OpenContainer → List ℕ
frames_text [] = []
frames_text (f ∷ fs) = frames_text fs ++ frame_text f

abbrev pub token_text : Token → List ℕ
token_text between = []
token_text after_i = codes "i"
token_text after_minus = codes "i-"
token_text (digits false n) = codes "i" ++ decimal n
token_text (digits true n) = codes "i-" ++ decimal n
token_text (count n) = decimal n
token_text (part bytes left) = decimal (length bytes + left) ++ codes ":" ++ bytes

-- what has come
abbrev pub cut_text : Cut → List ℕ
cut_text (cut fs token) = frames_text fs ++ token_text token

-- the bound where there are frames
abbrev pub IfAny : List OpenContainer → Type 0 → Type 0
IfAny [] p = Unit {0}
IfAny (f ∷ fs) p = p

-- frames in which a value may come, the outermost being a dictionary
abbrev pub TakesValue : List OpenContainer → Type 0
TakesValue [] = ⊥
TakesValue (in_list ts ∷ fs) = AreSpellable ts × TakesValue fs
TakesValue (at_key ps ∷ fs) = ⊥
TakesValue (at_value ps key ∷ fs) = ArePairs ps × IsString key × IfAny fs (TakesValue fs)

-- frames in which a key may come
abbrev pub TakesKey : List OpenContainer → Type 0
TakesKey [] = ⊥
TakesKey (in_list ts ∷ fs) = ⊥
TakesKey (at_key ps ∷ fs) = ArePairs ps × IfAny fs (TakesValue fs)
TakesKey (at_value ps key ∷ fs) = ⊥

-- the greatest number behind no minus, and behind one
abbrev pub greatest : Bool → ℕ
greatest false = 9223372036854775807
greatest true = 9223372036854775808

-- a cut of the grammar
abbrev pub IsCut : Cut → Type 0
IsCut (cut fs between) = IfAny fs (TakesValue fs ⊎ TakesKey fs)
IsCut (cut fs after_i) = TakesValue fs
IsCut (cut fs after_minus) = TakesValue fs
IsCut (cut fs (digits false n)) = TakesValue fs × (n ≤ greatest false)
IsCut (cut fs (digits true n)) = TakesValue fs × (0 < n) × (n ≤ greatest true)
IsCut (cut fs (count n)) = (TakesValue fs ⊎ TakesKey fs) × IsLength n
IsCut (cut fs (part bytes left)) = (TakesValue fs ⊎ TakesKey fs) × (0 < left)
    × IsLength (length bytes + left)

-- a cut with the pairs that it holds put in by their keys
abbrev pub sorted_frame : OpenContainer → OpenContainer
sorted_frame (in_list ts) = in_list (sorted_trees ts)
sorted_frame (at_key ps) = at_key (put_tree_pairs no_pairs ps)
sorted_frame (at_value ps key) = at_value (put_tree_pairs no_pairs ps) key

abbrev pub sorted_frames : List OpenContainer → List OpenContainer
sorted_frames [] = []
sorted_frames (f ∷ fs) = sorted_frame f ∷ sorted_frames fs

abbrev pub sorted_cut : Cut → Cut
sorted_cut (cut fs token) = cut (sorted_frames fs) token
