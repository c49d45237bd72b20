use Rattle.std.proofs.Common.{◌≡◌, List, ◌∷◌, ap, subst, not, rules}
use Rattle.bencode_wire.specs.Tree.{Tree}
use Rattle.bencode_wire.specs.Inside.Cut as cuts
use Rattle.bencode_wire.specs.Inside.Places.{WasPut}
use Rattle.bencode_wire.specs.Inside.Reader.{frame_view}
use Rattle.bencode_wire.specs.declared.cut.OpenContainer.{OpenContainer}
use Rattle.bencode_wire.specs.declared.cut.Place.{Place}
use Rattle.bencode_wire.proofs.Removals.{item_out, no_item, value_out_of, some_value, no_value}
use Rattle.bencode_wire.proofs.taking_back.take_from.Goals as goal

put_there : (p q : Place) (f g : OpenContainer) (before outer : List cuts.OpenContainer) (t : Tree) → p ≡ q → f ≡ g → WasPut p t before (frame_view f ∷ outer) → WasPut q t before (frame_view g ∷ outer)
put_there p q f g before outer t e same w = subst (λ x. WasPut x t before (frame_view g ∷ outer)) e (subst (λ x. WasPut p t before (frame_view x ∷ outer)) same w)

pub unreachable-requires : goal.unreachable-requires
unreachable-requires c =
    let r = c.requires in
    let w = put_there _ _ _ _ r.1 r.0 r.2 c.in-Item.is c.in-List.is r.3 in
    let long = c.in-None.ensures.variant.1 in
    no_item c.in-List.items.items r.1 r.0 r.2 (search rules) w

pub invariant_of-dictionary-in-Some-remove : goal.invariant_of-dictionary-in-Some-remove
invariant_of-dictionary-in-Some-remove c =
    let r = c.requires in
    let d = c.in-Dictionary.dictionary in
    let w = put_there _ _ _ _ r.1 r.0 r.2 c.in-Value-place.is c.in-Dictionary.is r.3 in
    let out = value_out_of d.key c.in-Value-place.key d.pairs.entries c.remove.new.self.entries c.remove.result r.1 r.0 r.2 c.remove.ensures.entries c.remove.ensures.value w in
    record { key_is_new = ap not out.2 }

pub unreachable-requires-in-None-remove : goal.unreachable-requires-in-None-remove
unreachable-requires-in-None-remove c =
    let r = c.requires in
    let d = c.in-Dictionary.dictionary in
    let w = put_there _ _ _ _ r.1 r.0 r.2 c.in-Value-place.is c.in-Dictionary.is r.3 in
    let out = value_out_of d.key c.in-Value-place.key d.pairs.entries c.remove.new.self.entries c.remove.result r.1 r.0 r.2 c.remove.ensures.entries c.remove.ensures.value w in
    no_value c.remove.result r.2 c.in-None-remove.is out.1

pub returns-in-Some : goal.returns-in-Some
returns-in-Some c = λ outer before t put.
    let w = put_there _ _ _ _ before outer t c.in-Item.is c.in-List.is put in
    item_out c.in-List.items.items c.pop.new.self.items c.in-Some.item before outer t c.in-Some.ensures.items w

pub returns-in-Some-remove : goal.returns-in-Some-remove
returns-in-Some-remove c = λ outer before t put.
    let d = c.in-Dictionary.dictionary in
    let w = put_there _ _ _ _ before outer t c.in-Value-place.is c.in-Dictionary.is put in
    let out = value_out_of d.key c.in-Value-place.key d.pairs.entries c.remove.new.self.entries c.remove.result before outer t c.remove.ensures.entries c.remove.ensures.value w in
    (out.0, some_value c.in-Some-remove.value c.remove.result t c.in-Some-remove.is out.1)
