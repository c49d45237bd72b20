use Rattle.bencode_wire.proofs.Courses.{faults_over}
use Rattle.bencode_wire.proofs.piece.Piece.advance.Goals as goal

pub returns-then-self-come-clause-reads : goal.returns-then-self-come-clause-reads
returns-then-self-come-clause-reads c =
    faults_over c.args.self.limit c.args.self.start c.args.message.now c.args.at c.args.self.bytes.now c.args.ready.now.items c.saturating_add.result c.requires.within c.if-self-come.true c.saturating_add.ensures

pub returns-in-Some-clause-reads : goal.returns-in-Some-clause-reads
returns-in-Some-clause-reads c = c.advance_short.ensures.reads c.args.ready.now.items
