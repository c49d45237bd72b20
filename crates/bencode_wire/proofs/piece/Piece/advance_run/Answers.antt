use Rattle.std.proofs.Common.{refl, arith}
use Rattle.bencode_wire.specs.Inside.Reader.{open_view, token_view, cut_view}
use Rattle.bencode_wire.proofs.Courses.{Runs, advances_in, advances_past, faults_in, step_none, step_some}
use Rattle.bencode_wire.proofs.piece.Piece.advance_run.Goals as goal

pub returns-in-Ok-None-clause-reads : goal.returns-in-Ok-None-clause-reads
returns-in-Ok-None-clause-reads c =
    let u = c.args.message.now in
    let piece = c.args.self in
    let n = c.run_len-run.result in
    let fs = open_view u.reader.frames in
    let token = token_view u.reader.string.items u.reader.token in
    let runs : Runs piece.limit u.come token c.args.at n piece.bytes.now =
    record { some = c.run_len-run.ensures.some; within = omega (arith, c.run_len-run.ensures.within, c.requires.within); takes = c.run_len-run.ensures.run u.reader.string.items; room = omega (arith, c.run_len-run.ensures.within, c.requires.room) } in
    advances_in piece.limit u.come fs token c.args.at n piece.bytes.now (cut_view c.step.new.self) c.args.ready.now.items runs
    (step_none _ c.step.new.self c.in-Ok-None.field-0 c.in-Ok-None.field-0-is c.in-Ok-None.ensures.reads)

pub returns-else-is_err-clause-reads : goal.returns-else-is_err-clause-reads
returns-else-is_err-clause-reads c =
    let u = c.args.message.now in
    let piece = c.args.self in
    let n = c.run_len-run.result in
    let fs = open_view u.reader.frames in
    let token = token_view u.reader.string.items u.reader.token in
    let runs : Runs piece.limit u.come token c.args.at n piece.bytes.now =
    record { some = c.run_len-run.ensures.some; within = omega (arith, c.run_len-run.ensures.within, c.requires.within); takes = c.run_len-run.ensures.run u.reader.string.items; room = omega (arith, c.run_len-run.ensures.within, c.requires.room) } in
    let now = step_some _ c.step.new.self c.in-Ok-Some.field-0 c.in-Ok-Some.whole c.in-Ok-Some.field-0-is c.in-Ok-Some.ensures.reads in
    advances_past piece.limit u.come fs token c.args.at n piece.bytes.now (cut_view c.step.new.self) c.in-Ok-Some.whole c.args.ready.now.items c.push_back.new.self.items runs
    now.0 now.1 (grind (arith, c.push_back.ensures.items, c.if-is_err.ensures.negation))

pub returns-in-Err-clause-reads : goal.returns-in-Err-clause-reads
returns-in-Err-clause-reads c =
    let u = c.args.message.now in
    let piece = c.args.self in
    let n = c.run_len-run.result in
    let fs = open_view u.reader.frames in
    let token = token_view u.reader.string.items u.reader.token in
    let runs : Runs piece.limit u.come token c.args.at n piece.bytes.now =
    record { some = c.run_len-run.ensures.some; within = omega (arith, c.run_len-run.ensures.within, c.requires.within); takes = c.run_len-run.ensures.run u.reader.string.items; room = omega (arith, c.run_len-run.ensures.within, c.requires.room) } in
    faults_in piece.limit piece.start u fs token c.args.at n piece.bytes.now c.args.ready.now.items c.in-Err.refusal c.place_before.result c.at.result (omega arith) refl runs
    c.in-Err.ensures.reads c.place_before.ensures c.at.ensures
