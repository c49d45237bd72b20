use Rattle.std.proofs.Common.{◌<◌, ◌∙◌, sym, length, refl}
use Rattle.std.proofs.lemmas.Str.{IsCharBoundary-start}
use Rattle.repl_reader.proofs.Bytes.{white_ascii}
use Rattle.repl_reader.proofs.Skipping.{in_comment, at_comment, at_white, cut_behind, newline}
use Rattle.repl_reader.proofs.blank.skip_blank.Goals as goal
use Rattle.repl_reader.proofs.blank.skip_blank.Goals.{then-comment, else-comment+then-byte-eq59, else-comment+else-byte-eq59+else-not-is_white}

pub loop-i-init : goal.loop-i-init
loop-i-init c = record { left = refl; cut = λ _. IsCharBoundary-start c.args.text.now c.utf8.text }

pub loop-i-preserved : goal.loop-i-preserved
loop-i-preserved c =
    let same = c.as_bytes-byte-items.ensures.value in
    let inside : c.loop-i.i < length c.args.text.now = rw same at c.loop-i-test.true in
    record {
      left = elim c.if-comment.branch [
        | then-comment w ↦ rw (w.comment-is, same) (in_comment c.args.text.now c.loop-i.i inside ∙ rw w.if-comment.true at c.loop-i.invariant.left)
        | else-comment+then-byte-eq59 w ↦ rw w.comment-is (at_comment c.args.text.now c.loop-i.i inside (rw same at w.if-byte-eq59.true) ∙ rw w.if-comment.false at c.loop-i.invariant.left)
        | else-comment+else-byte-eq59+else-not-is_white w ↦ rw (w.comment-is, w.if-comment.false)
            (at_white c.args.text.now c.loop-i.i inside (rw same at (sym w.is_white.ensures ∙ w.if-not-is_white.false)) (rw same at w.if-byte-eq59.false)
            ∙ rw w.if-comment.false at c.loop-i.invariant.left)
      ];
      cut = λ off. elim c.if-comment.branch [
        | then-comment w ↦ cut_behind c.args.text.now c.loop-i.i inside c.utf8.text (newline _ (rw same at (sym w.comment-is ∙ off)))
        | else-comment+then-byte-eq59 w ↦ absurd (cc)
        | else-comment+else-byte-eq59+else-not-is_white w ↦ cut_behind c.args.text.now c.loop-i.i inside c.utf8.text (white_ascii _ (rw same at (sym w.is_white.ensures ∙ w.if-not-is_white.false)))
      ];
    }
