-- What is awaited behind some bytes is what the frames say that they are the text of.
use Rattle.std.proofs.Common.{◌≡◌, ℕ, suc, ◌<◌, ◌≤◌, ◌⊎◌, inl, inr, List, [], ◌∷◌, ◌++◌, length, decimal, codes, refl, sym, ap, ◌∙◌, subst, append_assoc, append-nil, arith}
use Rattle.bencode_wire.specs.Tree.{Trees, no_trees, TreePairs, no_pairs, HasKey}
use Rattle.bencode_wire.specs.Spelling.{trees_text, pairs_text, string_text, IsLength, ArePairs}
use Rattle.bencode_wire.specs.Inside.Cut.{OpenContainer, in_list, at_key, at_value, between, count, cut, frames_text, cut_text, IfAny, TakesValue, TakesKey, IsCut}
use Rattle.bencode_wire.specs.Stream.{AwaitsValue, behind_items, behind_key, AwaitsKey, of_message, of_value, AwaitsString, RepeatsKey, IsLarge, IsDeep}

-- where the frames around a dictionary say what is awaited, so does the dictionary
key_by : (ps : TreePairs) (fs : List OpenContainer) → ArePairs ps → IfAny fs (TakesValue fs) → (TakesValue fs → AwaitsValue (length fs) (frames_text fs))
    → AwaitsKey (suc (length fs)) ps (frames_text fs ++ (100 ∷ pairs_text ps))
key_by ps [] g h outer = of_message ps g
key_by ps (f ∷ fs) g h outer = of_value (length (f ∷ fs)) (frames_text (f ∷ fs)) ps (outer h) g

value_awaited : (fs : List OpenContainer) → TakesValue fs → AwaitsValue (length fs) (frames_text fs)
value_awaited [] h = absurd h
value_awaited (in_list ts ∷ fs) h = behind_items (length fs) (frames_text fs) ts (value_awaited fs h.1) h.0
value_awaited (at_key ps ∷ fs) h = absurd h
value_awaited (at_value ps key ∷ fs) h =
    subst (λ m. AwaitsValue (suc (length fs)) m) (append_assoc (frames_text fs) (100 ∷ pairs_text ps) (string_text key))
    (behind_key (suc (length fs)) ps (frames_text fs ++ (100 ∷ pairs_text ps)) key (key_by ps fs h.0 h.2 (λ g. value_awaited fs g)) h.1)

key_awaited : (ps : TreePairs) (fs : List OpenContainer) → ArePairs ps → IfAny fs (TakesValue fs) → AwaitsKey (suc (length fs)) ps (frames_text fs ++ (100 ∷ pairs_text ps))
key_awaited ps fs g h = key_by ps fs g h (value_awaited fs)

record ValueFrames (n : ℕ) (m : List ℕ) : Type 0 where
  pub frames : List OpenContainer
  pub takes : TakesValue frames
  pub depth : length frames ≡ n
  pub text : frames_text frames ≡ m

record KeyFrames (n : ℕ) (ps : TreePairs) (m : List ℕ) : Type 0 where
  pub frames : List OpenContainer
  pub takes : IfAny frames (TakesValue frames)
  pub pairs : ArePairs ps
  pub depth : suc (length frames) ≡ n
  pub text : frames_text frames ++ (100 ∷ pairs_text ps) ≡ m

if_any : (fs : List OpenContainer) → TakesValue fs → IfAny fs (TakesValue fs)
if_any [] h = absurd h
if_any (f ∷ fs) h = h

mutual
  frames_of_value : (n : ℕ) (m : List ℕ) → AwaitsValue n m → ValueFrames n m
  frames_of_value n m (behind_items k front ts a g) =
      let r = frames_of_value k front a in
      record { frames = in_list ts ∷ r.frames; takes = (g, r.takes); depth = ap suc r.depth; text = ap (λ x. x ++ (108 ∷ trees_text ts)) r.text }
  frames_of_value n m (behind_key k ps front key a g) =
      let r = frames_of_key k ps front a in
      record {
        frames = at_value ps key ∷ r.frames;
        takes = (r.pairs, g, r.takes);
        depth = r.depth;
        text = sym (append_assoc (frames_text r.frames) (100 ∷ pairs_text ps) (string_text key)) ∙ ap (λ x. x ++ string_text key) r.text;
      }

  frames_of_key : (n : ℕ) (ps : TreePairs) (m : List ℕ) → AwaitsKey n ps m → KeyFrames n ps m
  frames_of_key n ps m (of_message qs g) = record { frames = []; takes = tt; pairs = g; depth = refl; text = refl }
  frames_of_key n ps m (of_value k front qs a g) =
      let r = frames_of_value k front a in
      record { frames = r.frames; takes = if_any r.frames r.takes; pairs = g; depth = ap suc r.depth; text = ap (λ x. x ++ (100 ∷ pairs_text qs)) r.text }

-- frames in which a string may come
pub record FramesBehind (m : List ℕ) : Type 0 where
  pub frames : List OpenContainer
  pub takes : TakesValue frames ⊎ TakesKey frames
  pub text : frames_text frames ≡ m

pub frames_behind : (m : List ℕ) → AwaitsString m → FramesBehind m
frames_behind m (inl a) = let r = frames_of_value a.0 m a.1 in record { frames = r.frames; takes = inl r.takes; text = r.text }
frames_behind m (inr a) = let r = frames_of_key a.0 a.1 m a.2 in record { frames = at_key a.1 ∷ r.frames; takes = inr (r.pairs, r.takes); text = r.text }

-- A key that is repeated

pub record RepeatsAt (m : List ℕ) : Type 0 where
  pub pairs : TreePairs
  pub key : List ℕ
  pub frames : List OpenContainer
  pub is : IsCut (cut (at_value pairs key ∷ frames) between)
  pub text : cut_text (cut (at_value pairs key ∷ frames) between) ≡ m
  pub has : HasKey key pairs

pub repeats_at : (m : List ℕ) → RepeatsKey m → RepeatsAt m
repeats_at m h =
    let r = frames_of_key h.0 h.1 h.2 h.4 in
    record {
      pairs = h.1;
      key = h.3;
      frames = r.frames;
      is = inl (r.pairs, h.5, r.takes);
      text =
          append-nil (frames_text (at_value h.1 h.3 ∷ r.frames)) ∙ sym (append_assoc (frames_text r.frames) (100 ∷ pairs_text h.1) (string_text h.3))
          ∙ ap (λ x. x ++ string_text h.3) r.text ∙ sym h.7;
      has = h.6;
    }

pub repeats_key : (m : List ℕ) (ps : TreePairs) (key : List ℕ) (fs : List OpenContainer) → IsCut (cut (at_value ps key ∷ fs) between)
    → cut_text (cut (at_value ps key ∷ fs) between) ≡ m → HasKey key ps → RepeatsKey m
repeats_key m ps key fs (inl h) e has = (
  suc (length fs),
  ps,
  frames_text fs ++ (100 ∷ pairs_text ps),
  key,
  key_awaited ps fs h.0 h.2,
  h.1,
  has,
  sym e ∙ append-nil (frames_text (at_value ps key ∷ fs)) ∙ sym (append_assoc (frames_text fs) (100 ∷ pairs_text ps) (string_text key)),
)
repeats_key m ps key fs (inr h) e has = absurd h

-- A length above the limit

pub record LargeAt (limit : ℕ) (m : List ℕ) : Type 0 where
  pub frames : List OpenContainer
  pub len : ℕ
  pub is : IsCut (cut frames (count len))
  pub text : cut_text (cut frames (count len)) ≡ m
  pub large : limit < len

string_at : (limit : ℕ) (m front : List ℕ) (len : ℕ) → AwaitsString front → IsLength len → limit < len → m ≡ front ++ decimal len → LargeAt limit m
string_at limit m front len (inl a) fits large e =
    let r = frames_of_value a.0 front a.1 in
    record { frames = r.frames; len = len; is = (inl r.takes, fits); text = ap (λ x. x ++ decimal len) r.text ∙ sym e; large = large }
string_at limit m front len (inr a) fits large e =
    let r = frames_of_key a.0 a.1 front a.2 in
    record { frames = at_key a.1 ∷ r.frames; len = len; is = (inr (r.pairs, r.takes), fits); text = ap (λ x. x ++ decimal len) r.text ∙ sym e; large = large }

pub large_at : (limit : ℕ) (m : List ℕ) → IsLarge limit m → LargeAt limit m
large_at limit m h = string_at limit m h.0 h.1 h.2 h.3 h.4 h.5

pub string_awaited : (fs : List OpenContainer) → TakesValue fs ⊎ TakesKey fs → AwaitsString (frames_text fs)
string_awaited fs (inl h) = inl (length fs, value_awaited fs h)
string_awaited [] (inr h) = absurd h
string_awaited (in_list ts ∷ fs) (inr h) = absurd h
string_awaited (at_key ps ∷ fs) (inr h) = inr (suc (length fs), ps, key_awaited ps fs h.0 h.1)
string_awaited (at_value ps key ∷ fs) (inr h) = absurd h

pub is_large : (limit : ℕ) (m : List ℕ) (fs : List OpenContainer) (len : ℕ) → IsCut (cut fs (count len)) → cut_text (cut fs (count len)) ≡ m → limit < len → IsLarge limit m
is_large limit m fs len h e large = (frames_text fs, len, string_awaited fs h.0, h.1, large, sym e)

-- A nesting that is too deep

abbrev pub IsEmpty : OpenContainer → Type 0
IsEmpty f = (f ≡ in_list no_trees) ⊎ (f ≡ at_key no_pairs)

pub record DeepAt (m : List ℕ) : Type 0 where
  pub frame : OpenContainer
  pub frames : List OpenContainer
  pub is : IsCut (cut (frame ∷ frames) between)
  pub text : cut_text (cut (frame ∷ frames) between) ≡ m
  pub empty : IsEmpty frame
  pub deep : 64 ≤ length frames

opened_at : (m front : List ℕ) (n : ℕ) → AwaitsValue n front → 64 ≤ n → (m ≡ front ++ codes "l") ⊎ (m ≡ front ++ codes "d") → DeepAt m
opened_at m front n a deep (inl e) =
    let r = frames_of_value n front a in
    record {
      frame = in_list no_trees;
      frames = r.frames;
      is = inl (tt, r.takes);
      text = append-nil (frames_text r.frames ++ (108 ∷ [])) ∙ ap (λ x. x ++ (108 ∷ [])) r.text ∙ sym e;
      empty = inl refl;
      deep = let depth = r.depth in omega arith;
    }
opened_at m front n a deep (inr e) =
    let r = frames_of_value n front a in
    record {
      frame = at_key no_pairs;
      frames = r.frames;
      is = inr (tt, if_any r.frames r.takes);
      text = append-nil (frames_text r.frames ++ (100 ∷ [])) ∙ ap (λ x. x ++ (100 ∷ [])) r.text ∙ sym e;
      empty = inr refl;
      deep = let depth = r.depth in omega arith;
    }

pub deep_at : (m : List ℕ) → IsDeep m → DeepAt m
deep_at m h = opened_at m h.0 h.1 h.2 h.3 h.4

deep_list : (m : List ℕ) (ts : Trees) (fs : List OpenContainer) → ts ≡ no_trees → IsCut (cut (in_list ts ∷ fs) between) → cut_text (cut (in_list ts ∷ fs) between) ≡ m → 64 ≤ length fs → IsDeep m
deep_list m ts fs none (inl h) e deep =
    (frames_text fs, length fs, value_awaited fs h.1, deep, inl (sym e ∙ append-nil (frames_text (in_list ts ∷ fs)) ∙ ap (λ x. frames_text fs ++ (108 ∷ trees_text x)) none))
deep_list m ts fs none (inr h) e deep = absurd h

inside : (fs : List OpenContainer) → 64 ≤ length fs → IfAny fs (TakesValue fs) → TakesValue fs
inside [] deep h = absurd (omega arith)
inside (f ∷ fs) deep h = h

deep_dictionary : (m : List ℕ) (ps : TreePairs) (fs : List OpenContainer) → ps ≡ no_pairs → IsCut (cut (at_key ps ∷ fs) between) → cut_text (cut (at_key ps ∷ fs) between) ≡ m → 64 ≤ length fs → IsDeep m
deep_dictionary m ps fs none (inl h) e deep = absurd h
deep_dictionary m ps fs none (inr h) e deep =
    (frames_text fs, length fs, value_awaited fs (inside fs deep h.1), deep, inr (sym e ∙ append-nil (frames_text (at_key ps ∷ fs)) ∙ ap (λ x. frames_text fs ++ (100 ∷ pairs_text x)) none))

pub is_deep : (m : List ℕ) (f : OpenContainer) (fs : List OpenContainer) → IsCut (cut (f ∷ fs) between) → cut_text (cut (f ∷ fs) between) ≡ m → IsEmpty f → 64 ≤ length fs → IsDeep m
is_deep m f fs is e (inl empty) deep =
    deep_list m no_trees fs refl (subst (λ g. IsCut (cut (g ∷ fs) between)) empty is) (ap (λ g. cut_text (cut (g ∷ fs) between)) (sym empty) ∙ e) deep
is_deep m f fs is e (inr empty) deep =
    deep_dictionary m no_pairs fs refl (subst (λ g. IsCut (cut (g ∷ fs) between)) empty is) (ap (λ g. cut_text (cut (g ∷ fs) between)) (sym empty) ∙ e) deep
