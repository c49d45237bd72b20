use Rattle.std.proofs.Common.{option_map, refl, sym, ap, subst, ◌∙◌}
use Rattle.bencode_wire.specs.Inside.Course.{ready_view}
use Rattle.bencode_wire.specs.Inside.Decoding.{shown_state, earlier_in}
use Rattle.bencode_wire.specs.Inside.Reader.{cut_view}
use Rattle.bencode_wire.specs.Inside.Return.{CanReturn}
use Rattle.bencode_wire.specs.declared.decoder.Decoder.{Decoder}
use Rattle.bencode_wire.proofs.BeforePieces.{StoodBefore, stood_some, not_noted, holds_back, returned}
use Rattle.bencode_wire.proofs.decoder.Decoder.take_back.Goals as goal

pub invariant_of-self-2 : goal.invariant_of-self-2
invariant_of-self-2 c =
    let a = c.self.inside in
    let stood = stood_some a.before c.in-Some.field-0 (StoodBefore a.limit a.message.reader) (sym c.take.ensures.value ∙ c.in-Some.is) c.self.invariant.before in
    record { rests = λ e. holds_back a.limit a.message.reader c.in-Some.field-0 (cut_view c.take_back.new.self) stood c.take_back.ensures; before = not_noted _ _ c.take.ensures.after }

pub returns-clause-stands : goal.returns-clause-stands
returns-clause-stands c = λ limit all taken can.
    let d : Decoder = shown_state c.self.inside in
    let could : CanReturn limit d all taken = subst (λ (x : Decoder). CanReturn limit x all taken) (sym c.self.view_is) can in
    returned limit all taken d _ (earlier_in c.in-Some.field-0) (ap (option_map earlier_in) (sym c.take.ensures.value ∙ c.in-Some.is))
    (record { limit = refl; ready = ap ready_view c.clear.ensures.items; fault = refl; held = c.take_back.ensures; come = refl; read = refl }) could
