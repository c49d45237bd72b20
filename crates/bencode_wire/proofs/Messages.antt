-- A message is the text of a dictionary of the grammar that is clean, and is handed out sorted.
use Rattle.std.proofs.Common.{◌≡◌, ℕ, ◌+◌, ◌≤◌, List, ◌∷◌, ◌++◌, length, refl, sym, ap, ◌∙◌, subst}
use Rattle.std.proofs.Common.{arith}
use Rattle.bencode_wire.specs.Tree.{Tree, integer, string, list, dictionary, TreePairs, no_pairs}
use Rattle.bencode_wire.specs.Spelling.{text, canonical, ArePairs, IsSpellable, IsDistinct}
use Rattle.bencode_wire.specs.Spelling.{PairsDistinct, Spells, sorted, put_tree_pairs}
use Rattle.bencode_wire.specs.Inside.Nesting.{tree_nesting}
use Rattle.bencode_wire.specs.Stream.{IsClean, IsMessage, StreamEnding, Streams}
use Rattle.bencode_wire.proofs.Canonical.{distinct_sorted, spellable_sorted, nesting_sorted}
use Rattle.bencode_wire.proofs.Depths.{nesting_kept}
use Rattle.bencode_wire.proofs.Limits.{within}
use Rattle.bencode_wire.proofs.Repeats.{distinct_in_clean}
use Rattle.bencode_wire.proofs.Within.{text_clean}
use Rattle.bencode_wire.proofs.Written.{sorted_twice}

message_of : (limit : ℕ) (ps : TreePairs) → ArePairs ps → PairsDistinct ps → IsClean limit (text (dictionary ps)) → IsMessage limit (sorted (dictionary ps)) (text (dictionary ps))
message_of limit ps g d clean =
    let twice = sorted_twice (dictionary ps) in
    (put_tree_pairs no_pairs ps, refl, twice, (dictionary ps, g, (distinct_sorted (dictionary ps), d, twice), refl), clean)

pub clean_message : (limit : ℕ) (ps : TreePairs) (m : List ℕ) → ArePairs ps → text (dictionary ps) ≡ m → IsClean limit m → IsMessage limit (sorted (dictionary ps)) m
clean_message limit ps m g e clean =
    let now : IsClean limit (text (dictionary ps)) = subst (λ x. IsClean limit x) (sym e) clean in
    subst (λ x. IsMessage limit (sorted (dictionary ps)) x) e (message_of limit ps g (distinct_in_clean limit ps g now) now)

-- what a message is the text of
pub record TextOf (t : Tree) (m : List ℕ) : Type 0 where
  pub pairs : TreePairs
  pub spellable : ArePairs pairs
  pub text : m ≡ text (dictionary pairs)
  pub sorted : t ≡ sorted (dictionary pairs)

text_by : (t u : Tree) (m : List ℕ) (ps : TreePairs) → t ≡ dictionary ps → t ≡ sorted u → IsSpellable u → m ≡ text u → TextOf t m
text_by t (integer n) m ps is e g by = let other : dictionary ps ≡ integer n = sym is ∙ e in absurd (cc)
text_by t (string bytes) m ps is e g by = let other : dictionary ps ≡ string bytes = sym is ∙ e in absurd (cc)
text_by t (list ts) m ps is e g by = let other : dictionary ps ≡ sorted (list ts) = sym is ∙ e in absurd (cc)
text_by t (dictionary qs) m ps is e g by = record { pairs = qs; spellable = g; text = by; sorted = e }

pub message_text : (limit : ℕ) (t : Tree) (m : List ℕ) → IsMessage limit t m → TextOf t m
message_text limit t m h = let u = h.3 in text_by t u.0 m h.0 h.1 (sym h.2 ∙ u.2.2) u.1 u.3

-- a dictionary's text within the limits is read, whatever follows
text_read : (limit place : ℕ) (ps : TreePairs) (more : List ℕ) (ts : List Tree) (end : StreamEnding) → ArePairs ps → PairsDistinct ps → tree_nesting (dictionary ps) ≤ 64
    → length (text (dictionary ps)) ≤ limit → Streams limit (place + length (text (dictionary ps))) more ts end
    → Streams limit place (text (dictionary ps) ++ more) (sorted (dictionary ps) ∷ ts) end
text_read limit place ps more ts end g d deep fits later =
    (text (dictionary ps), more, message_of limit ps g d (text_clean limit ps g (within limit 64 (dictionary ps) d deep fits) fits), refl, later)

-- a dictionary's spelling within the limits is the text of one that nests no deeper
spelled_read : (limit place : ℕ) (ps : TreePairs) (u : Tree) (bytes more : List ℕ) (ts : List Tree) (end : StreamEnding) → IsSpellable u → IsDistinct u → sorted (dictionary ps) ≡ sorted u
    → bytes ≡ text u → tree_nesting (dictionary ps) ≤ 64 → length bytes ≤ limit → Streams limit (place + length bytes) more ts end
    → Streams limit place (bytes ++ more) (sorted (dictionary ps) ∷ ts) end
spelled_read limit place ps (integer n) bytes more ts end g d e by deep fits later = absurd (cc)
spelled_read limit place ps (string s) bytes more ts end g d e by deep fits later = absurd (cc)
spelled_read limit place ps (list us) bytes more ts end g d e by deep fits later = absurd (cc)
spelled_read limit place ps (dictionary qs) bytes more ts end g d e by deep fits later =
    let down : tree_nesting (sorted (dictionary ps)) ≤ tree_nesting (dictionary ps) = nesting_sorted (dictionary ps) in
    let up : tree_nesting (dictionary qs) ≤ tree_nesting (sorted (dictionary qs)) = nesting_kept (dictionary qs) d in
    let same : tree_nesting (sorted (dictionary ps)) ≡ tree_nesting (sorted (dictionary qs)) = ap tree_nesting e in
    let size : length bytes ≡ length (text (dictionary qs)) = ap length by in
    let read = text_read limit place qs more ts end g d (omega arith) (omega arith) (subst (λ b. Streams limit (place + length b) more ts end) by later) in
    subst (λ b. Streams limit place (b ++ more) (sorted (dictionary ps) ∷ ts) end) (sym by)
    (subst (λ v. Streams limit place (text (dictionary qs) ++ more) (v ∷ ts) end) (sym e) read)

pub spelling_read : (limit place : ℕ) (ps : TreePairs) (bytes more : List ℕ) (ts : List Tree) (end : StreamEnding) → Spells (dictionary ps) bytes → tree_nesting (dictionary ps) ≤ 64
    → length bytes ≤ limit → Streams limit (place + length bytes) more ts end → Streams limit place (bytes ++ more) (sorted (dictionary ps) ∷ ts) end
spelling_read limit place ps bytes more ts end h deep fits later = spelled_read limit place ps h.0 bytes more ts end h.1 h.2.1 h.2.2 h.3 deep fits later

-- the canonical spelling is read as what was written
pub written_read : (limit place : ℕ) (ps : TreePairs) (more : List ℕ) (ts : List Tree) (end : StreamEnding)
    → IsSpellable (dictionary ps) → tree_nesting (dictionary ps) ≤ 64 → length (canonical (dictionary ps)) ≤ limit
    → Streams limit (place + length (canonical (dictionary ps))) more ts end → Streams limit place (canonical (dictionary ps) ++ more) (sorted (dictionary ps) ∷ ts) end
written_read limit place ps more ts end g deep fits later =
    let flat = nesting_sorted (dictionary ps) in
    subst (λ x. Streams limit place (canonical (dictionary ps) ++ more) (x ∷ ts) end) (sorted_twice (dictionary ps))
    (text_read limit place (put_tree_pairs no_pairs ps) more ts end (spellable_sorted (dictionary ps) g) (distinct_sorted (dictionary ps)) (omega arith) fits later)
