use Rattle.knowing_book.proofs.Telling.{noted, gone}
use Rattle.knowing_book.specs.Keys.{entry_key}
use Rattle.knowing_book.proofs.book.follow_key.Goals as goal

pub returns-then-is_end : goal.returns-then-is_end
returns-then-is_end c = λ before e are its long.
    gone entry_key before e c.args.lasts.now c.forget.new.self c.args.key are its c.forget.ensures

pub returns-then-place : goal.returns-then-place
returns-then-place c = λ before e are its long.
    gone entry_key before e c.args.lasts.now c.forget-then-place.new.self c.args.key are its
    c.forget-then-place.ensures

pub returns : goal.returns
returns c = λ before e are its long.
    noted entry_key before e c.args.lasts.now c.note.new.self c.args.key c.args.place are its long
    c.note.ensures
