use Rattle.std.proofs.Common.{◌≡◌, ◌∙◌, sym, ap, max, ℕ, arith}
use Rattle.value_data.specs.Inside.View.{view}
use Rattle.value_data.specs.Inside.Placed.{without_at}
use Rattle.value_data.specs.Inside.Hash.{hash, mixed, peak, salted, pair_hash}
use Rattle.value_data.proofs.Replacing.{peak-without}
use Rattle.value_data.proofs.node_measures.Peaks.without_pair.Goals as goal

pub returns : goal.returns
returns c =
    λ ps n fits stands.
    let key = view c.args.key.now in
    let value = view c.args.value.now in
    let word : c.mix-word.result ≡ pair_hash (hash key) (hash value) =
    c.mix-word.ensures ∙ ap (λ (h : ℕ). mixed h c.hash_of-2.result) (c.mix.ensures ∙ ap (mixed 9) c.hash_of.ensures) ∙ ap (mixed (mixed 9 (hash key))) c.hash_of-2.ensures in
    let lowered : (salt top gone found : ℕ) → top ≡ peak salt ps → gone ≡ salted salt c.mix-word.result → ((m : ℕ) → top ≡ max m gone → found ≡ max m 0) → found ≡ peak salt (without_at n ps) =
    λ salt top gone found e g f.
    let high = peak-without salt ps n key value stands in
    f high.0 (e ∙ high.1 ∙ ap (λ (w : ℕ). max high.0 (salted salt w)) (sym word) ∙ ap (max high.0) (sym g)) ∙ omega (arith, high.2) in
    record {
      first = lowered 0xD6E8FEB86659FD93 c.args.self.first c.salt.result c.in_ok-greatest.field-0 fits.first c.salt.ensures (λ m e. c.in_ok-greatest.ensures m e);
      second = lowered 0x2917014799A6026D c.args.self.second c.salt-2.result c.in_ok-greatest-2.field-0 fits.second c.salt-2.ensures (λ m e. c.in_ok-greatest-2.ensures m e);
      third = lowered 0xBF58476D1CE4E5B9 c.args.self.third c.salt-3.result c.in_ok-greatest-3.field-0 fits.third c.salt-3.ensures (λ m e. c.in_ok-greatest-3.ensures m e);
      fourth = lowered 0x40A7B892E31B1A47 c.args.self.fourth c.salt-4.result c.in_ok-greatest-4.field-0 fits.fourth c.salt-4.ensures (λ m e. c.in_ok-greatest-4.ensures m e);
    }
