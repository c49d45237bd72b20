use Rattle.std.proofs.Common.{refl}
use Rattle.ref_table.proofs.Tables.{dropped-stands, empty-stands}
use Rattle.ref_table.proofs.table.RefTable.drop_next.Goals as goal

pub returns-in-Some : goal.returns-in-Some
returns-in-Some g c = λ r s.
    dropped-stands g.H.History.stands c.args.self.now c.take.new.self c.take_ref.new.self r
    c.in-Some.id c.in-Some.ensures.taken c.take_ref.ensures.gone c.take_ref.ensures.others s

pub returns-in_default : goal.returns-in_default
returns-in_default g c = λ r s.
    empty-stands g.H.History.stands c.args.self.now c.take.new.self r (c.in_default.ensures.none refl) s
