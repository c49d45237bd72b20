-- A table of rings, and what a write to one number makes of it.
use Rattle.std.proofs.Common.{◌≡◌, ◌≢◌, ◌<◌, ℕ, List, length, Option, None, Some, map}
use Rattle.std.proofs.Common.{sym, ap, ◌∙◌, arith, get_or}
use Rattle.std.specs.Prelude.{slice_set}
use Rattle.std.proofs.lemmas.List.{get_or-set_same, get_or-set_other, length-map, map-set}
use Rattle.version_rings.specs.Inside.Table.{ring_in}
use Rattle.version_rings.specs.declared.node.Ring.{Ring}
use Rattle.version_rings.specs.declared.ring_table.Slot.{Slot}
use Rattle.version_rings.proofs.Calls.{in-list}

pub slots-set : (slots after : List Slot) (n : ℕ) (to : Slot) → after ≡ slice_set slots n to
    → map ring_in after ≡ slice_set (map ring_in slots) n (ring_in to)
slots-set slots after n to put = ap (map ring_in) put ∙ map-set ring_in slots n to

pub slot-here : (slots after : List Slot) (n : ℕ) (to : Slot) → after ≡ slice_set slots n to
    → n < length slots → get_or (map ring_in after) n None ≡ ring_in to
slot-here slots after n to put h =
    let many = length-map slots ring_in in
    ap (λ (rs : List (Option Ring)). get_or rs n None) (slots-set slots after n to put)
    ∙ get_or-set_same (map ring_in slots) n (ring_in to) None (omega (arith, h, many))

pub slot-others : (slots after : List Slot) (n : ℕ) (to : Slot) → after ≡ slice_set slots n to
    → (m : ℕ) → m ≢ n → get_or (map ring_in after) m None ≡ get_or (map ring_in slots) m None
slot-others slots after n to put m differ =
    ap (λ (rs : List (Option Ring)). get_or rs m None) (slots-set slots after n to put)
    ∙ get_or-set_other (map ring_in slots) n m (ring_in to) None differ

pub in-slots : (slots : List Slot) (n : ℕ) (ring : Ring)
    → Some ring ≡ get_or (map ring_in slots) n None → n < length slots
in-slots slots n ring there =
    let many = length-map slots ring_in in
    let within = in-list (map ring_in slots) n ring (sym there) in
    omega (arith, within, many)
