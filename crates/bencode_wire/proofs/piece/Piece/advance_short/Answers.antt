use Rattle.std.proofs.Common.{◌+◌, ◌-◌, ap, ◌∙◌, arith}
use Rattle.bencode_wire.specs.Inside.ByteSteps.{within_limit}
use Rattle.bencode_wire.specs.Inside.Reader.{open_view, token_view, cut_view}
use Rattle.bencode_wire.proofs.Courses.{reads_short, short_in, small_put, faults_short}
use Rattle.bencode_wire.proofs.piece.Piece.advance_short.Goals as goal

pub returns-in-Ok-clause-reads : goal.returns-in-Ok-clause-reads
returns-in-Ok-clause-reads c = λ ready.
    let u = c.args.message.now in
    let piece = c.args.self in
    let bytes = piece.bytes.now in
    let n = c.args.len in
    let at = c.args.at in
    let b = c.requires.begins in
    let fs = open_view u.reader.frames in
    let token = token_view u.reader.string.items u.reader.token in
    let short = reads_short piece.limit u.come at n fs token bytes (ap (token_view u.reader.string.items) b.between) b.inside b.some c.requires.within c.requires.room b.digit b.colon in
    short_in piece.limit u.come at n fs token bytes (cut_view c.read_short.new.self) ready short
    (ap (within_limit piece.limit) c.in-Ok.ensures.ok ∙ small_put piece.limit fs _ (cut_view c.read_short.new.self) c.in-Ok.ensures.ok)

pub returns-in-Err-clause-reads : goal.returns-in-Err-clause-reads
returns-in-Err-clause-reads c = λ ready.
    let u = c.args.message.now in
    let piece = c.args.self in
    let bytes = piece.bytes.now in
    let n = c.args.len in
    let at = c.args.at in
    let b = c.requires.begins in
    let fs = open_view u.reader.frames in
    let token = token_view u.reader.string.items u.reader.token in
    let short = reads_short piece.limit u.come at n fs token bytes (ap (token_view u.reader.string.items) b.between) b.inside b.some c.requires.within c.requires.room b.digit b.colon in
    faults_short piece.limit piece.start u at ready bytes _ _ _ c.in-Err.refusal (at + 2 + n - 1) c.place_before.result c.at.result (omega arith) short c.in-Err.ensures.err c.place_before.ensures c.at.ensures
