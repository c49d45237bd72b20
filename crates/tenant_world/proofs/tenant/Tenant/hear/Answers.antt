use Rattle.std.proofs.Common.{◌∙◌, length, refl, sym, ap}
use Rattle.std.proofs.lemmas.Bool.{eq-eqb}
use Rattle.bencode_wire.specs.Inside.Decoder.{ready_of}
use Rattle.server_rules.specs.Hearing.{stream_fault, hears_more}
use Rattle.tenant_moves.specs.Holds.{PartsStandFor}
use Rattle.tenant_moves.specs.HasReadAll.{HasReadAll}
use Rattle.tenant_world.proofs.Remembering.{held-so}
use Rattle.tenant_world.proofs.Standing.{not-zero, stands-same}
use Rattle.tenant_world.proofs.Seating.{seated-below, below-seated}
use Rattle.tenant_world.proofs.Wires.{read-fault}
use Rattle.tenant_asks.specs.Acting.{is_accepted}
use Rattle.tenant_world.proofs.Heard.{heard_by, hears-by, hears-so, none-long, does-hear, held-back}
use Rattle.tenant_world.proofs.tenant.Tenant.hear.Goals as goal

pub returns-then-self-eq0-clause-refused : goal.returns-then-self-eq0-clause-refused
returns-then-self-eq0-clause-refused c = λ g q s right st.
    let piece = c.args.piece.now in
    record {
      refused = λ ne. hears-by g q s piece
          ∙ ap (λ b. heard_by g s.tenant piece q b (stream_fault g.readings q.heard))
          (eq-eqb q.steps 0 (sym st.steps ∙ c.if-self-eq0.true));
      stands = st;
    }

pub returns-in-Some-clause-refused : goal.returns-in-Some-clause-refused
returns-in-Some-clause-refused c = λ g q s right st.
    let piece = c.args.piece.now in
    let fault = sym (read-fault c.a_stream_has_one_reading.ensures g.readings
    c.args.self.now.decoder q.heard _ right.readings st.stream)
    ∙ sym c.fault.ensures ∙ c.in-Some.is in
    record {
      refused = λ ne. hears-by g q s piece
          ∙ ap (λ b. heard_by g s.tenant piece q b (stream_fault g.readings q.heard))
          (not-zero q.steps (λ none. c.if-self-eq0.false (st.steps ∙ none)))
          ∙ ap (hears_more g s.tenant piece q) fault;
      stands = stands-same g q s c.args.self.now _ refl refl refl refl refl refl st;
    }

pub returns-then-is_held-clause-refused : goal.returns-then-is_held-clause-refused
returns-then-is_held-clause-refused c = λ g q s right st.
    let piece = c.args.piece.now in
    let sound = sym c.in_default.is ∙ c.fault.ensures
    ∙ read-fault c.a_stream_has_one_reading.ensures g.readings c.args.self.now.decoder q.heard _
    right.readings st.stream in
    record {
      refused = λ ne. hears-by g q s piece
          ∙ ap (λ b. heard_by g s.tenant piece q b (stream_fault g.readings q.heard))
          (not-zero q.steps (λ none. c.if-self-eq0.false (st.steps ∙ none)))
          ∙ ap (hears_more g s.tenant piece q) (sym sound)
          ∙ held-back g s.tenant piece q (held-so g s.tenant c.args.self.now.memory q c.is_held.result
          st.remembers c.is_held.ensures ∙ c.if-is_held.true);
      stands = stands-same g q s c.args.self.now _ refl refl refl refl refl refl st;
    }

pub hear-requires : goal.hear-requires
hear-requires c = record {
  ready = none-long (ready_of c.args.self.now.decoder) c.args.self.now.taken;
  sound = sym (sym c.in_default.is ∙ c.fault.ensures);
  seated = seated-below _ _ c.args.self.now.seated;
}

pub invariant_of-self-2 : goal.invariant_of-self-2
invariant_of-self-2 c = record {
  taken = ap length c.in_ok-count.ensures.ready;
  seated = below-seated _ _ c.in_ok-count.ensures.seated;
}

pub returns-clause-done : goal.returns-clause-done
returns-clause-done c = λ g q s right st.
    let d = c.args.self.now.decoder in
    let read = read-fault c.a_stream_has_one_reading.ensures g.readings d q.heard _
    right.readings st.stream in
    let sound = sym c.in_default.is ∙ c.fault.ensures ∙ read in
    let free = held-so g s.tenant c.args.self.now.memory q c.is_held.result st.remembers c.is_held.ensures
    ∙ c.if-is_held.false in
    let reads : HasReadAll g q.heard d = record {
      stands = st.stream;
      ready = none-long (ready_of d) c.args.self.now.taken;
      fault = read;
    } in
    let held : PartsStandFor g s.tenant q c.args.self.now.memory.sessions _ _ = record {
      sessions = st.remembers.sessions;
      actors = st.actors;
      replies = st.remembers.replies;
    } in
    does-hear g q s c.args.self.now _ c.args.piece.now c.in_ok-count.count st
    (not-zero q.steps (λ none. c.if-self-eq0.false (st.steps ∙ none))) sound free
    refl refl refl refl refl refl
    (c.in_ok-count.ensures.heard g s.tenant q right.readings reads held)

pub returns-in_err-count-clause-no_memory : goal.returns-in_err-count-clause-no_memory
returns-in_err-count-clause-no_memory c = λ g q s right st none.
    let sound = sym c.in_default.is ∙ c.fault.ensures
    ∙ read-fault c.a_stream_has_one_reading.ensures g.readings c.args.self.now.decoder q.heard _
    right.readings st.stream in
    let free = held-so g s.tenant c.args.self.now.memory q c.is_held.result st.remembers c.is_held.ensures
    ∙ c.if-is_held.false in
    ap is_accepted (hears-so g q s c.args.piece.now
    (not-zero q.steps (λ zero. c.if-self-eq0.false (st.steps ∙ zero))) sound free)
