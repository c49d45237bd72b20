use Rattle.std.proofs.Common.{◌≡◌, ℕ, [], ◌++◌, length, take, drop, refl, subst, rules}
use Rattle.std.specs.Io.KnownBytes.{Appends}
use Rattle.std.proofs.KnownBytes.{Appends-nil, Appends-trans, Appends-kept}
use Rattle.nrepl_pipe.proofs.Growing.{front-grows, front-grows_slice, front-whole}
use Rattle.nrepl_pipe.proofs.Marking.{marks-none}
use Rattle.nrepl_pipe.proofs.replies.write_reply.Goals as goal

pub loop-rest-init : goal.loop-rest-init
loop-rest-init g c = record { written = ([], refl, Appends-nil _); writes = marks-none _ }

pub returns-in-Ok-eq0-clause-err : goal.returns-in-Ok-eq0-clause-err
returns-in-Ok-eq0-clause-err g c =
    let now = c.loop-rest.invariant.written in
    let rest = c.loop-rest.rest.now in
    let none = subst (λ (n : ℕ). Appends (g.W.Sink.contents c.loop-rest.writer)
    (g.W.Sink.contents c.write_bytes.new.self) (take n rest)) c.in-Ok-eq0.field-0-test
    c.in-Ok-eq0.ensures.bytes in (
      now.0 ++ take 0 rest,
      drop 0 rest,
      front-grows _ now.0 rest 0 now.1,
      Appends-trans _ _ _ _ _ now.2 none,
    )

pub loop-rest-preserved : goal.loop-rest-preserved
loop-rest-preserved g c =
    let now = c.loop-rest.invariant.written in
    let rest = c.loop-rest.rest.now in
    record {
      written = (
        now.0 ++ take c.in-Ok.n rest,
        front-grows_slice _ now.0 rest c.in-Ok.n now.1,
        Appends-trans _ _ _ _ _ now.2 c.in-Ok.ensures.bytes,
      );
      writes = search rules;
    }

pub returns-in-Err-clause-err : goal.returns-in-Err-clause-err
returns-in-Err-clause-err g c =
    let now = c.loop-rest.invariant.written in
    (now.0, c.loop-rest.rest.now, now.1, Appends-kept _ _ _ _ now.2 c.in-Err.ensures.bytes)

pub returns-clause-ok : goal.returns-clause-ok
returns-clause-ok g c =
    let now = c.loop-rest.invariant.written in
    let none : length c.loop-rest.rest.now ≡ 0 = search rules in
    let whole = front-whole _ now.0 c.loop-rest.rest.now now.1 none in
    Appends-kept _ _ _ _ (subst (Appends _ _) whole now.2) c.pass_on.ensures.bytes
