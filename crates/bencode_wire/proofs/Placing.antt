-- Where a value was put.
use Rattle.std.proofs.Common.{◌≡◌, ℕ, Bool, true, false, cond, List, ◌∷◌, refl, sym, ap, ◌∙◌}
use Rattle.bencode_wire.specs.Tree.{Tree, integer, string, list, dictionary, TreePairs, holds_key, add_tree}
use Rattle.bencode_wire.specs.Spelling.{put_sorted}
use Rattle.bencode_wire.specs.Fault.{malformed}
use Rattle.bencode_wire.specs.Inside.Cut.{OpenContainer, in_list, at_key, at_value, between, cut}
use Rattle.bencode_wire.specs.Inside.Beginnings.{put, put_key}
use Rattle.bencode_wire.specs.Inside.ByteSteps.{reads, refuses, judged}
use Rattle.bencode_wire.specs.Inside.Places.{FitsPlace, WasPut}
use Rattle.bencode_wire.specs.declared.cut.Place.{Place}

same_frames : (fs gs : List OpenContainer) → reads (cut fs between) ≡ reads (cut gs between) → fs ≡ gs
same_frames fs gs e = cc

named : (b : Bool) (ps : TreePairs) (key : List ℕ) (outer after : List OpenContainer)
    → cond b (refuses malformed) (reads (cut (at_value ps key ∷ outer) between)) ≡ reads (cut after between) → after ≡ at_value ps key ∷ outer
named true ps key outer after e = absurd (cc)
named false ps key outer after e = sym (same_frames (at_value ps key ∷ outer) after e)

keyed : (ps : TreePairs) (outer after : List OpenContainer) (t : Tree) → judged (put_key ps outer t) ≡ reads (cut after between)
    → WasPut Place.Key t (at_key ps ∷ outer) after
keyed ps outer after (integer n) e = absurd (cc)
keyed ps outer after (string key) e = (ps, key, outer, refl, named (holds_key key ps) ps key outer after e, refl)
keyed ps outer after (list ts) e = absurd (cc)
keyed ps outer after (dictionary qs) e = absurd (cc)

pub was_put : (place : Place) (f : OpenContainer) (outer after : List OpenContainer) (t : Tree) → FitsPlace place f
    → judged (put put_sorted (f ∷ outer) t) ≡ reads (cut after between) → WasPut place t (f ∷ outer) after
was_put Place.Item (in_list ts) outer after t fits e = (ts, outer, refl, sym (same_frames (in_list (add_tree ts t) ∷ outer) after e))
was_put Place.Item (at_key ps) outer after t fits e = absurd fits
was_put Place.Item (at_value ps k) outer after t fits e = absurd fits
was_put Place.Key (in_list ts) outer after t fits e = absurd fits
was_put Place.Key (at_key ps) outer after t fits e = keyed ps outer after t e
was_put Place.Key (at_value ps k) outer after t fits e = absurd fits
was_put (Place.Value key) (in_list ts) outer after t fits e = absurd fits
was_put (Place.Value key) (at_key ps) outer after t fits e = absurd fits
was_put (Place.Value key) (at_value ps k) outer after t fits e = (
  ps,
  outer,
  ap (λ x. at_value ps x ∷ outer) (sym fits.0),
  sym (same_frames (at_key (put_sorted ps k t) ∷ outer) after e) ∙ ap (λ x. at_key (put_sorted ps x t) ∷ outer) (sym fits.0),
  ap (λ x. holds_key x ps) fits.0 ∙ fits.1,
)
