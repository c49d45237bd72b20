use Rattle.std.proofs.Common.{◌≡◌, ℕ, [], ◌++◌, length, take, None, Some, Err, refl, sym, ap, subst, ◌∙◌, arith}
use Rattle.std.proofs.lemmas.Grind.{common_steps}
use Rattle.bencode_wire.specs.Inside.Course.{Advances, ahead, Stops, ready_view}
use Rattle.bencode_wire.specs.Inside.Decoder.{fault_of, ready_of, DecoderStands}
use Rattle.bencode_wire.specs.Inside.Decoding.{shown_state}
use Rattle.bencode_wire.specs.Inside.Reader.{open_view, token_view, cut_view}
use Rattle.bencode_wire.specs.declared.cut.Unfinished.{Unfinished}
use Rattle.bencode_wire.specs.declared.decoder.Decoder.{Decoder}
use Rattle.bencode_wire.proofs.Decoders.{holds_same, holds_inside, standing_of, standing_at, decoder_stands}
use Rattle.bencode_wire.proofs.Decoders.{resting_of, stands_same, unchanged_from, none_some}
use Rattle.bencode_wire.proofs.Feeds.{ReadsFrom, holds_fed, rests_fed, fed_broken}
use Rattle.bencode_wire.proofs.BeforePieces.{can_return, ok_then, none_ready, noted, noted_before}
use Rattle.bencode_wire.proofs.decoder.Decoder.feed_bytes.Goals as goal

pub invariant_of-self-in-Ok : goal.invariant_of-self-in-Ok
invariant_of-self-in-Ok c =
    let d : Decoder = shown_state c.self.inside in
    let none : d.fault ≡ None = ap fault_of c.self.view_is ∙ c.requires in
    let held = c.self.invariant.rests none in
    let fs = open_view d.reader.frames in
    let token = token_view d.reader.string.items d.reader.token in
    let begun = ok_then c.begin_piece.result _ c.if-is_err.ensures.value c.begin_piece.ensures.back (holds_inside d.limit fs token d.come held) in
    let was = c.in-Ok.ensures.back fs token begun in
    let from : Unfinished = record { reader = c.begin_piece.new.self; come = c.self.inside.message.come } in
    let is : ReadsFrom (cut_view d.reader) d.come from = record { cut = c.begin_piece.ensures.held; long = refl } in
    record {
      rests = λ e. holds_fed d.limit (cut_view d.reader) d.come c.args.piece.now from c.read.new.message d.ready c.read.new.ready.items held is c.in-Ok.ensures.reads;
      before = noted_before _ _ (record { come = d.come; read = d.read }) _ c.then_some-self-inside.ensures (fs, token, was, held);
    }

pub take_back-requires : goal.take_back-requires
take_back-requires c =
    let d : Decoder = shown_state c.self.inside in
    let none : d.fault ≡ None = ap fault_of c.self.view_is ∙ c.requires in
    let held = c.self.invariant.rests none in
    let fs = open_view d.reader.frames in
    let token = token_view d.reader.string.items d.reader.token in
    let begun = ok_then c.begin_piece.result _ c.if-is_err.ensures.value c.begin_piece.ensures.back (holds_inside d.limit fs token d.come held) in
    let was = c.in-Err-NoMemory.ensures.back fs token begun in
    (fs, token, was)

pub invariant_of-self-in-Err-NoMemory : goal.invariant_of-self-in-Err-NoMemory
invariant_of-self-in-Err-NoMemory c =
    let d : Decoder = shown_state c.self.inside in
    let none : d.fault ≡ None = ap fault_of c.self.view_is ∙ c.requires in
    let held = c.self.invariant.rests none in
    let fs = open_view d.reader.frames in
    let token = token_view d.reader.string.items d.reader.token in
    let begun = ok_then c.begin_piece.result _ c.if-is_err.ensures.value c.begin_piece.ensures.back (holds_inside d.limit fs token d.come held) in
    let was = c.in-Err-NoMemory.ensures.back fs token begun in
    record { rests = λ e. holds_same d.limit (cut_view d.reader) (cut_view c.take_back.new.self) d.come d.come (c.take_back.ensures fs token was) refl held; before = tt }

pub invariant_of-self-in-Err : goal.invariant_of-self-in-Err
invariant_of-self-in-Err c =
    let d : Decoder = shown_state c.self.inside in
    let none : d.fault ≡ None = ap fault_of c.self.view_is ∙ c.requires in
    let held = c.self.invariant.rests none in
    let fs = open_view d.reader.frames in
    let token = token_view d.reader.string.items d.reader.token in
    let begun = ok_then c.begin_piece.result _ c.if-is_err.ensures.value c.begin_piece.ensures.back (holds_inside d.limit fs token d.come held) in
    let was = c.in-Err.ensures.back fs token begun in
    record {
      rests = λ e. absurd (none_some c.in-Err.fault (Some c.in-Err.fault) e refl);
      before = noted_before _ _ (record { come = d.come; read = d.read }) _ c.then_some-self-inside-in-Err.ensures (fs, token, was, held);
    }

pub returns-in-Ok-clause-stands : goal.returns-in-Ok-clause-stands
returns-in-Ok-clause-stands c = λ limit all taken s other.
    let d : Decoder = shown_state c.self.inside in
    let none : d.fault ≡ None = ap fault_of c.self.view_is ∙ c.requires in
    let held = c.self.invariant.rests none in
    let from : Unfinished = record { reader = c.begin_piece.new.self; come = c.self.inside.message.come } in
    let is : ReadsFrom (cut_view d.reader) d.come from = record { cut = c.begin_piece.ensures.held; long = refl } in
    let stood : DecoderStands limit d all taken = subst (λ (x : Decoder). DecoderStands limit x all taken) (sym c.self.view_is) s in
    let r = resting_of limit (cut_view d.reader) d.come d.read d.fault all (taken ++ ready_of d) none (standing_of limit d all taken stood) in
    let next = c.read.new.message in
    let piece = c.args.piece.now in
    let adv : Advances (ahead limit piece from 0) (ahead limit piece next (length piece)) d.ready c.read.new.ready.items =
    subst (λ (l : ℕ). Advances (ahead l piece from 0) (ahead l piece next (length piece)) d.ready c.read.new.ready.items) stood.within c.in-Ok.ensures.reads in
    decoder_stands limit _ (all ++ piece) taken stood.within
    (standing_at limit (cut_view next.reader) next.come c.saturating_add-self-inside.result d.fault (all ++ piece) (taken ++ ready_view c.read.new.ready.items) none
    (rests_fed limit (cut_view d.reader) d.come d.read c.saturating_add-self-inside.result all piece taken from next d.ready c.read.new.ready.items r is adv c.saturating_add-self-inside.ensures))

pub returns-in-Ok-clause-returns : goal.returns-in-Ok-clause-returns
returns-in-Ok-clause-returns c = λ limit all taken s nothing other.
    let d : Decoder = shown_state c.self.inside in
    let none : d.fault ≡ None = ap fault_of c.self.view_is ∙ c.requires in
    let held = c.self.invariant.rests none in
    let fs = open_view d.reader.frames in
    let token = token_view d.reader.string.items d.reader.token in
    let begun = ok_then c.begin_piece.result _ c.if-is_err.ensures.value c.begin_piece.ensures.back (holds_inside d.limit fs token d.come held) in
    let was = c.in-Ok.ensures.back fs token begun in
    let stood : DecoderStands limit d all taken = subst (λ (x : Decoder). DecoderStands limit x all taken) (sym c.self.view_is) s in
    let empty : ready_of d ≡ [] = ap ready_of c.self.view_is ∙ nothing in
    let nothing_ready = none_ready d.ready empty in
    let count : c.len-ready.result ≡ 0 = grind (arith, common_steps, c.len-ready.ensures, nothing_ready) in
    can_return limit all taken d _ (record { come = d.come; read = d.read }) fs token stood
    (record { ready = empty; fault = none; held = refl; come = refl; read = refl }) refl
    (noted c.then_some-self-inside.result c.len-ready.result (record { come = d.come; read = d.read }) count c.then_some-self-inside.ensures) was

pub returns-in-Err-NoMemory-clause-keeps : goal.returns-in-Err-NoMemory-clause-keeps
returns-in-Err-NoMemory-clause-keeps c = λ limit all taken s memory.
    let d : Decoder = shown_state c.self.inside in
    let none : d.fault ≡ None = ap fault_of c.self.view_is ∙ c.requires in
    let held = c.self.invariant.rests none in
    let fs = open_view d.reader.frames in
    let token = token_view d.reader.string.items d.reader.token in
    let begun = ok_then c.begin_piece.result _ c.if-is_err.ensures.value c.begin_piece.ensures.back (holds_inside d.limit fs token d.come held) in
    let was = c.in-Err-NoMemory.ensures.back fs token begun in
    let count : c.len-ready.result ≡ length d.ready = grind (arith, common_steps, c.len-ready.ensures) in
    let left : c.truncate.new.self.items ≡ d.ready = c.truncate.ensures.items ∙ ap (λ (n : ℕ). take n c.read.new.ready.items) count ∙ c.in-Err-NoMemory.ensures.front in
    let back = c.take_back.ensures fs token was in
    let stood : DecoderStands limit d all taken = subst (λ (x : Decoder). DecoderStands limit x all taken) (sym c.self.view_is) s in
    stands_same limit d _ all taken (record { limit = refl; ready = ap ready_view left; held = back; come = refl; read = refl; fault = refl }) stood

pub returns-in-Err-NoMemory-clause-memory : goal.returns-in-Err-NoMemory-clause-memory
returns-in-Err-NoMemory-clause-memory c = λ memory.
    let d : Decoder = shown_state c.self.inside in
    let none : d.fault ≡ None = ap fault_of c.self.view_is ∙ c.requires in
    let held = c.self.invariant.rests none in
    let fs = open_view d.reader.frames in
    let token = token_view d.reader.string.items d.reader.token in
    let begun = ok_then c.begin_piece.result _ c.if-is_err.ensures.value c.begin_piece.ensures.back (holds_inside d.limit fs token d.come held) in
    let was = c.in-Err-NoMemory.ensures.back fs token begun in
    let count : c.len-ready.result ≡ length d.ready = grind (arith, common_steps, c.len-ready.ensures) in
    let left : c.truncate.new.self.items ≡ d.ready = c.truncate.ensures.items ∙ ap (λ (n : ℕ). take n c.read.new.ready.items) count ∙ c.in-Err-NoMemory.ensures.front in
    let back = c.take_back.ensures fs token was in
    unchanged_from c.args.self.now d _ c.self.view_is
    (record { limit = refl; ready = ap ready_view left; held = back; come = refl; read = refl; fault = refl })

pub returns-in-Err-clause-stands : goal.returns-in-Err-clause-stands
returns-in-Err-clause-stands c = λ limit all taken s other.
    let d : Decoder = shown_state c.self.inside in
    let none : d.fault ≡ None = ap fault_of c.self.view_is ∙ c.requires in
    let held = c.self.invariant.rests none in
    let from : Unfinished = record { reader = c.begin_piece.new.self; come = c.self.inside.message.come } in
    let is : ReadsFrom (cut_view d.reader) d.come from = record { cut = c.begin_piece.ensures.held; long = refl } in
    let stood : DecoderStands limit d all taken = subst (λ (x : Decoder). DecoderStands limit x all taken) (sym c.self.view_is) s in
    let r = resting_of limit (cut_view d.reader) d.come d.read d.fault all (taken ++ ready_of d) none (standing_of limit d all taken stood) in
    let piece = c.args.piece.now in
    let met : Stops limit d.read piece from 0 d.ready c.read.new.ready.items c.in-Err.fault =
    subst (λ (l : ℕ). Stops l d.read piece from 0 d.ready c.read.new.ready.items c.in-Err.fault) stood.within c.in-Err.ensures.reads in
    decoder_stands limit _ (all ++ piece) taken stood.within
    (fed_broken limit (cut_view d.reader) d.come d.read all piece taken from d.ready c.read.new.ready.items c.in-Err.fault r is met (λ e. other (ap Err e)) (cut_view c.read.new.message.reader) c.read.new.message.come d.read)

pub returns-in-Err-clause-returns : goal.returns-in-Err-clause-returns
returns-in-Err-clause-returns c = λ limit all taken s nothing other.
    let d : Decoder = shown_state c.self.inside in
    let none : d.fault ≡ None = ap fault_of c.self.view_is ∙ c.requires in
    let held = c.self.invariant.rests none in
    let fs = open_view d.reader.frames in
    let token = token_view d.reader.string.items d.reader.token in
    let begun = ok_then c.begin_piece.result _ c.if-is_err.ensures.value c.begin_piece.ensures.back (holds_inside d.limit fs token d.come held) in
    let was = c.in-Err.ensures.back fs token begun in
    let stood : DecoderStands limit d all taken = subst (λ (x : Decoder). DecoderStands limit x all taken) (sym c.self.view_is) s in
    let empty : ready_of d ≡ [] = ap ready_of c.self.view_is ∙ nothing in
    let nothing_ready = none_ready d.ready empty in
    let count : c.len-ready.result ≡ 0 = grind (arith, common_steps, c.len-ready.ensures, nothing_ready) in
    can_return limit all taken d _ (record { come = d.come; read = d.read }) fs token stood
    (record { ready = empty; fault = none; held = refl; come = refl; read = refl }) refl
    (noted c.then_some-self-inside-in-Err.result c.len-ready.result (record { come = d.come; read = d.read }) count c.then_some-self-inside-in-Err.ensures) was
