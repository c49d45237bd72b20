use Rattle.std.proofs.Common.{◌≡◌, ◌∙◌, sym, ap, max, ℕ}
use Rattle.value_data.specs.Inside.View.{view}
use Rattle.value_data.specs.Inside.Placed.{with_value}
use Rattle.value_data.specs.Inside.Hash.{hash, mixed, peak, salted, pair_hash}
use Rattle.value_data.proofs.Replacing.{peak-with}
use Rattle.value_data.proofs.node_measures.Peaks.with_value.Goals as goal

pub returns : goal.returns
returns c =
    λ ps n fits stands.
    let key = view c.args.key.now in
    let old = view c.args.old.now in
    let new = view c.args.new.now in
    let hashed : c.mix-hashed.result ≡ mixed 9 (hash key) = c.mix-hashed.ensures ∙ ap (mixed 9) c.hash_of.ensures in
    let before : c.mix-before.result ≡ pair_hash (hash key) (hash old) =
    c.mix-before.ensures ∙ ap (λ (h : ℕ). mixed h c.hash_of-2.result) hashed ∙ ap (mixed (mixed 9 (hash key))) c.hash_of-2.ensures in
    let now : c.mix-now.result ≡ pair_hash (hash key) (hash new) =
    c.mix-now.ensures ∙ ap (λ (h : ℕ). mixed h c.hash_of-3.result) hashed ∙ ap (mixed (mixed 9 (hash key))) c.hash_of-3.ensures in
    let peaked : (salt top found : ℕ) → top ≡ peak salt ps → ((m : ℕ) → top ≡ max m (salted salt c.mix-before.result) → found ≡ max m (salted salt c.mix-now.result)) → found ≡ peak salt (with_value n new ps) =
    λ salt top found e f.
    let high = peak-with salt ps n key old new stands in
    f high.0 (e ∙ high.1 ∙ ap (λ (w : ℕ). max high.0 (salted salt w)) (sym before)) ∙ ap (λ (w : ℕ). max high.0 (salted salt w)) now ∙ sym high.2 in
    record {
      first = peaked 0xD6E8FEB86659FD93 c.args.self.first c.in_ok-peak.field-0 fits.first (λ m e. c.in_ok-peak.ensures m e);
      second = peaked 0x2917014799A6026D c.args.self.second c.in_ok-peak-2.field-0 fits.second (λ m e. c.in_ok-peak-2.ensures m e);
      third = peaked 0xBF58476D1CE4E5B9 c.args.self.third c.in_ok-peak-3.field-0 fits.third (λ m e. c.in_ok-peak-3.ensures m e);
      fourth = peaked 0x40A7B892E31B1A47 c.args.self.fourth c.in_ok-peak-4.field-0 fits.fourth (λ m e. c.in_ok-peak-4.ensures m e);
    }
