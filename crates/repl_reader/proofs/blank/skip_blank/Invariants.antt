use Rattle.std.proofs.Common.{◌≡◌, drop, false}
use Rattle.std.specs.Prelude.{if◌then◌else◌, IsCharBoundary}
use Rattle.repl_reader.specs.Text.{bare, after_comment}
use Rattle.repl_reader.proofs.blank.skip_blank.Given as goal

-- what is left, and that it may be cut there outside of a comment
abbrev pub invariant-loop-i : goal.invariant-loop-i
invariant-loop-i l = record {
  left : (if l.comment then after_comment (drop l.i l.text) else bare (drop l.i l.text)) ≡ bare l.text;
  cut : l.comment ≡ false → IsCharBoundary l.text l.i;
}
