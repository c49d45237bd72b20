use Rattle.std.proofs.Common.{ℕ, Option, Vec, subst}
use Rattle.std.specs.declared.alloc.Global.{Global}
use Rattle.machine_runs.specs.Driver.{AcceptsTurn}
use Rattle.machine_runs.specs.Turns.{turn_view, piece_given}
use Rattle.machine_runs.proofs.Turning.{takes-added, takes-nothing}
use Rattle.machine_runs.proofs.lists.make_turn.Goals as goal

pub returns-in-Ok-Some : goal.returns-in-Ok-Some
returns-in-Ok-Some c = λ g w s.
    let T : Option (Vec ℕ Global) → Type 0 = λ o.
    AcceptsTurn g w (turn_view c.args.turn.now) c.turn.new.self (piece_given o) in
    takes-added g w c.args.place c.whose.result (turn_view c.args.turn.now) c.turn.new.self
    c.args.outputs.now c.add.new.self c.in-Ok-Some.bytes.items c.add.result
    (subst T c.in-Ok-Some.field-0-is (c.in-Ok-Some.ensures.done g w s)) c.whose.ensures c.add.ensures.added c.add.ensures.others
    c.add.ensures.refused

pub returns-in-Ok-None : goal.returns-in-Ok-None
returns-in-Ok-None c = λ g w s.
    let T : Option (Vec ℕ Global) → Type 0 = λ o.
    AcceptsTurn g w (turn_view c.args.turn.now) c.turn.new.self (piece_given o) in
    let did = subst T c.in-Ok-None.field-0-is (c.in-Ok-None.ensures.done g w s) in
    takes-nothing g w did.after c.args.place (turn_view c.args.turn.now) c.turn.new.self
    c.args.outputs.now did.answer did.accepted did.gives did.stands
