-- Two spellings at the front of the same bytes are one, and so are their values but for the order of pairs.
use Rattle.std.proofs.Common.{◌≡◌, List, ℕ, [], ◌++◌, sym, ap, ◌∙◌}
use Rattle.bencode_wire.specs.Tree.{Tree}
use Rattle.bencode_wire.specs.Spelling.{text, sorted, Spells}
use Rattle.bencode_wire.proofs.Prefix.{text_same}

pub spellings_same : (v w : Tree) (a b x y : List ℕ) → Spells v a → Spells w b → a ++ x ≡ b ++ y → (a ≡ b) × (x ≡ y)
spellings_same v w a b x y p q e =
    let same = text_same p.0 q.0 x y p.1 q.1 (ap (λ s. s ++ x) (sym p.3) ∙ e ∙ ap (λ s. s ++ y) q.3) in
    (p.3 ∙ ap text same.0 ∙ sym q.3, same.1)

pub values_same : (v w : Tree) (a : List ℕ) → Spells v a → Spells w a → sorted v ≡ sorted w
values_same v w a p q =
    let same = text_same p.0 q.0 [] [] p.1 q.1 (ap (λ s. s ++ []) (sym p.3 ∙ q.3)) in
    p.2.2 ∙ ap sorted same.0 ∙ sym q.2.2
