use Rattle.std.proofs.Common.{◌∙◌, ap, arith, ℕ, List, length}
use Rattle.std.proofs.lemmas.List.{length_push}
use Rattle.version_rings.specs.Inside.Parts.{upper_at}
use Rattle.version_rings.proofs.Parts.{pushed-zero}
use Rattle.version_rings.proofs.halves.put_upper.Goals as goal

pub loop-uppers-preserved : goal.loop-uppers-preserved
loop-uppers-preserved c =
    let e = c.put.ensures.items in
    let was = c.loop-uppers.uppers.items in
    record {
      same = λ n. ap (λ (xs : List ℕ). upper_at xs n) e ∙ pushed-zero was n
          ∙ c.loop-uppers.invariant.same n;
      few = λ most above fits. omega (
        arith,
        ap length e,
        length_push was 0,
        above,
        c.loop-uppers-test.true,
        c.len-in-loop-uppers.ensures,
      );
      fitting = omega (
        arith,
        ap length e,
        length_push was 0,
        c.put.ensures.room,
        c.loop-uppers.invariant.fitting,
      );
    }
