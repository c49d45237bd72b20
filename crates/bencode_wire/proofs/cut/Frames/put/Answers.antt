use Rattle.std.proofs.Common.{◌≡◌, ◌∷◌, refl, sym, ap, ◌∙◌, rules, Err}
use Rattle.bencode_wire.proofs.Stacks.{innermost_fresh}
use Rattle.bencode_wire.proofs.cut.Frames.put.Goals as goal

pub returns-in_err-put_into-clause-yields : goal.returns-in_err-put_into-clause-yields
returns-in_err-put_into-clause-yields c =
    let found = innermost_fresh c.args.self.now c.in-Some.innermost.now (c.in-Some.ensures.variant.0 refl) c.in-Some.ensures.value in
    let err : c.from_residual.result ≡ Err c.in_err-put_into.field-0.0 = search rules in
    rw found.1 (rw err (c.in_err-put_into.ensures.puts found.0))

pub returns-in_err-put_into-clause-same : goal.returns-in_err-put_into-clause-same
returns-in_err-put_into-clause-same c =
    let found = innermost_fresh c.args.self.now c.in-Some.innermost.now (c.in-Some.ensures.variant.0 refl) c.in-Some.ensures.value in
    let err : c.from_residual.result ≡ Err c.in_err-put_into.field-0.0 = search rules in
    rw err record {
      kept = search rules;
      ended = search rules;
      fresh = search rules;
      shown = found.2 c.put_into.new.innermost ∙ ap (λ x. x ∷ found.0) c.in_err-put_into.ensures.same ∙ sym found.1;
    }

pub returns-in-Some-clause-yields : goal.returns-in-Some-clause-yields
returns-in-Some-clause-yields c =
    let found = innermost_fresh c.args.self.now c.in-Some.innermost.now (c.in-Some.ensures.variant.0 refl) c.in-Some.ensures.value in
    λ string. rw found.1 (rw (found.2 c.put_into.new.innermost) (c.in_ok-put_into.ensures.puts found.0))
