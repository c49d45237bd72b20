use Rattle.std.proofs.Common.{sym, ap, ◌∙◌, subst}
use Rattle.bencode_wire.specs.Spelling.{put_sorted}
use Rattle.bencode_wire.specs.Inside.Beginnings.{begin}
use Rattle.bencode_wire.specs.Inside.ByteEffects as effects
use Rattle.bencode_wire.specs.Inside.GoingBack.{IsStringToken}
use Rattle.bencode_wire.specs.Inside.Reader.{open_view}
use Rattle.bencode_wire.specs.Inside.Undoing.{Undoable}
use Rattle.bencode_wire.specs.declared.cut.Frames.{Frames}
use Rattle.bencode_wire.proofs.Tokens.{first, step_by, yields_by}
use Rattle.bencode_wire.proofs.Undos.{read_back}
use Rattle.bencode_wire.proofs.cut.Reader.step.Goals as goal

pub returns-in-Between-clause-reads : goal.returns-in-Between-clause-reads
returns-in-Between-clause-reads c =
    let fs = open_view c.args.self.now.frames in
    let f = first c.args.run.now c.requires.some in
    let same = step_by fs c.args.self.now.string.items c.args.self.now.token _ c.args.run.now _ f.0 c.in-Between.is f.1 in
    c.keep.ensures.reads _ (yields_by _ _ _ _ (same ∙ ap (begin put_sorted fs) (sym c.of-sign.ensures)) c.begin-progress.ensures.yields)

pub returns-in-Between-clause-back : goal.returns-in-Between-clause-back
returns-in-Between-clause-back c =
    let undoable : Undoable c.args.self.now.frames c.keep.new.self.frames = subst (λ (f : Frames). Undoable c.args.self.now.frames f) (sym c.keep.ensures.frames) c.begin-progress.ensures.undoable in
    read_back c.args.self.now c.keep.new.self undoable c.keep.ensures.mark (λ h. subst IsStringToken c.in-Between.is h)

pub returns-in-IntegerOpen-clause-reads : goal.returns-in-IntegerOpen-clause-reads
returns-in-IntegerOpen-clause-reads c =
    let fs = open_view c.args.self.now.frames in
    let f = first c.args.run.now c.requires.some in
    let same = step_by fs c.args.self.now.string.items c.args.self.now.token _ c.args.run.now _ f.0 c.in-IntegerOpen.is f.1 in
    c.keep-in-IntegerOpen.ensures.reads _ (yields_by _ _ _ _ (same ∙ ap (effects.integer_open fs) (sym c.of-sign.ensures)) (c.integer_open.ensures fs))

pub returns-in-IntegerMinus-clause-reads : goal.returns-in-IntegerMinus-clause-reads
returns-in-IntegerMinus-clause-reads c =
    let fs = open_view c.args.self.now.frames in
    let f = first c.args.run.now c.requires.some in
    let same = step_by fs c.args.self.now.string.items c.args.self.now.token _ c.args.run.now _ f.0 c.in-IntegerMinus.is f.1 in
    c.keep-in-IntegerMinus.ensures.reads _ (yields_by _ _ _ _ (same ∙ ap (effects.integer_minus fs) (sym c.of-sign.ensures)) (c.integer_minus.ensures fs))

pub returns-in-IntegerDigits-clause-reads : goal.returns-in-IntegerDigits-clause-reads
returns-in-IntegerDigits-clause-reads c =
    let fs = open_view c.args.self.now.frames in
    let f = first c.args.run.now c.requires.some in
    let same = step_by fs c.args.self.now.string.items c.args.self.now.token _ c.args.run.now _ f.0 c.in-IntegerDigits.is f.1 in
    c.keep-in-IntegerDigits.ensures.reads _ (yields_by _ _ _ _ (same ∙ ap (effects.integer_digits put_sorted fs c.in-IntegerDigits.part.is_negative c.in-IntegerDigits.part.value) (sym c.of-sign.ensures)) c.integer_digits-progress.ensures.yields)

pub returns-in-IntegerDigits-clause-back : goal.returns-in-IntegerDigits-clause-back
returns-in-IntegerDigits-clause-back c =
    let undoable : Undoable c.args.self.now.frames c.keep-in-IntegerDigits.new.self.frames = subst (λ (f : Frames). Undoable c.args.self.now.frames f) (sym c.keep-in-IntegerDigits.ensures.frames) c.integer_digits-progress.ensures.undoable in
    read_back c.args.self.now c.keep-in-IntegerDigits.new.self undoable c.keep-in-IntegerDigits.ensures.mark (λ h. subst IsStringToken c.in-IntegerDigits.is h)

pub returns-in-Length-clause-reads : goal.returns-in-Length-clause-reads
returns-in-Length-clause-reads c =
    let fs = open_view c.args.self.now.frames in
    let f = first c.args.run.now c.requires.some in
    let same = step_by fs c.args.self.now.string.items c.args.self.now.token _ c.args.run.now _ f.0 c.in-Length.is f.1 in
    c.keep-in-Length.ensures.reads _ (yields_by _ _ _ _ (same ∙ ap (effects.length_digits put_sorted fs c.in-Length.len) (sym c.of-sign.ensures)) c.length_digits-progress.ensures.yields)

pub returns-in-Length-clause-back : goal.returns-in-Length-clause-back
returns-in-Length-clause-back c =
    let undoable : Undoable c.args.self.now.frames c.keep-in-Length.new.self.frames = subst (λ (f : Frames). Undoable c.args.self.now.frames f) (sym c.keep-in-Length.ensures.frames) c.length_digits-progress.ensures.undoable in
    read_back c.args.self.now c.keep-in-Length.new.self undoable c.keep-in-Length.ensures.mark (λ h. subst IsStringToken c.in-Length.is h)
