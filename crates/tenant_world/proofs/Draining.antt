-- The oldest reply is taken out.
use Rattle.std.proofs.Common.{◌≡◌, ℕ, List, [], ◌∷◌, Option, None, Some, MatchOption, refl, sym, ap}
use Rattle.std.proofs.Common.{subst, ◌∙◌, ◌≢◌, map, true}
use Rattle.bencode_wire.specs.Inside.Decoder as decoder
use Rattle.bencode_wire.specs.declared.decoder.Decoder.{Decoder}
use Rattle.name_spaces.specs.Inside.Seen.{namespaces_of, shared_in}
use Rattle.tenant_asks.specs.Cells.{cells_data}
use Rattle.repl_sessions.specs.Inside.StateView.{state_view}
use Rattle.server_rules.specs.Readings.{message_limit}
use Rattle.tenant_parts.specs.View.{actors_view}
use Rattle.repl_replies.specs.Replies.{ReplyData, bytes_of}
use Rattle.server_rules.specs.Ground.{Ground}
use Rattle.ref_table.specs.Store.{Store}
use Rattle.server_rules.specs.Tenant.{TenantState}
use Rattle.server_rules.specs.Plan as deeds
use Rattle.server_rules.specs.Plan.{leaves, reply_given}
use Rattle.server_rules.specs.Deeds.{drain_outcome}
use Rattle.server_rules.specs.declared.refusal.Refusal.{Refusal}
use Rattle.tenant_parts.specs.Replies.{waiting_bytes}
use Rattle.server_rules.specs.DeedResult.{deed_result}
use Rattle.tenant_world.specs.declared.tenant.Tenant.{Tenant}
use Rattle.tenant_parts.specs.declared.attempts.Attempts.{Attempts}
use Rattle.tenant_parts.specs.Attempts.{Reaches}
use Rattle.tenant_asks.specs.Acting.{is_accepted}
use Rattle.tenant_world.specs.Standing.{StandsForState, AcceptsDeed, RefusesDeed}

drains-by : (g : Ground) (q : TenantState) (s : Store)
    → (deed_result g s q deeds.drains).outcome ≡ drain_outcome q q.replies
unfolding deed_result
drains-by g q s = refl

drains-none : (g : Ground) (q : TenantState) (s : Store) → (deed_result g s q deeds.drains).store ≡ s
unfolding deed_result
drains-none g q s = refl

-- only the replies that wait are others
pub record OnlyDrains (code new : Tenant) : Type 0 where
  pub retries : new.retries ≡ code.retries
  pub steps : new.steps ≡ code.steps
  pub decoder : new.decoder ≡ code.decoder
  pub actors : new.actors ≡ code.actors
  pub sessions : new.memory.sessions ≡ code.memory.sessions
  pub bare : new.memory.bare ≡ code.memory.bare
  pub spaces : new.memory.spaces ≡ code.memory.spaces
  pub cells : new.memory.cells ≡ code.memory.cells
  pub attempts : new.attempts ≡ code.attempts

stands-with : (g : Ground) (q : TenantState) (s : Store) (code new : Tenant) (replies : List ReplyData)
    → OnlyDrains code new → StandsForState g code q s
    → waiting_bytes new.memory.outbox ≡ map bytes_of replies
    → StandsForState g new (record q { replies = replies }) s
stands-with g q s code new replies same st waits =
    let E : Decoder → Type 0 = λ d.
    decoder.DecoderStands message_limit d q.heard (g.readings.stream q.heard).messages in
    let A : Attempts → Type 0 = λ x. Reaches x s in
    record {
      retries = same.retries ∙ st.retries;
      steps = same.steps ∙ st.steps;
      stream = subst E (sym same.decoder) st.stream;
      actors = ap actors_view same.actors ∙ st.actors;
      remembers = record {
        sessions = same.sessions ∙ st.remembers.sessions;
        bare = ap state_view same.bare ∙ st.remembers.bare;
        spaces = ap namespaces_of same.spaces ∙ st.remembers.spaces;
        names = st.remembers.names ∙ ap shared_in (sym same.spaces);
        cells = ap cells_data same.cells ∙ st.remembers.cells;
        replies = waits;
      };
      attempts = subst A (sym same.attempts) st.attempts;
    }

pub drains : {X : Type 0} (items : X → List ℕ) (g : Ground) (q : TenantState) (s : Store) (code new : Tenant)
    (r : Option X) → OnlyDrains code new → StandsForState g code q s
    → MatchOption r ((waiting_bytes code.memory.outbox ≡ []) × (waiting_bytes new.memory.outbox ≡ []))
    (λ v. waiting_bytes code.memory.outbox ≡ items v ∷ waiting_bytes new.memory.outbox)
    → MatchOption r
    (RefusesDeed g q s (deed_result g s q deeds.drains) new Refusal.Idle)
    (λ v. AcceptsDeed g (deed_result g s q deeds.drains) new (reply_given (items v)))
drains {X = X} items g q s code new r same st told = by q.replies refl r st.remembers.replies told
  where
    by : (replies : List ReplyData) → q.replies ≡ replies → (r : Option X)
        → waiting_bytes code.memory.outbox ≡ map bytes_of q.replies
        → MatchOption r ((waiting_bytes code.memory.outbox ≡ []) × (waiting_bytes new.memory.outbox ≡ []))
        (λ v. waiting_bytes code.memory.outbox ≡ items v ∷ waiting_bytes new.memory.outbox)
        → MatchOption r
        (RefusesDeed g q s (deed_result g s q deeds.drains) new Refusal.Idle)
        (λ v. AcceptsDeed g (deed_result g s q deeds.drains) new
        (reply_given (items v)))
    by [] is None waits none = record {
      refused = λ ne. drains-by g q s ∙ ap (drain_outcome q) is;
      stands = subst (λ rs. StandsForState g new (record q { replies = rs }) s) (sym is)
          (stands-with g q s code new [] same st none.1);
    }
    by [] is (Some v) waits some =
        let never : [] ≡ items v ∷ waiting_bytes new.memory.outbox =
        sym (waits ∙ ap (map bytes_of) is) ∙ some in
        absurd (cc)
    by (oldest ∷ more) is None waits none =
        let never : bytes_of oldest ∷ map bytes_of more ≡ [] =
        sym (waits ∙ ap (map bytes_of) is) ∙ none.0 in
        absurd (cc)
    by (oldest ∷ more) is (Some v) waits some =
        let equal : bytes_of oldest ∷ map bytes_of more ≡ items v ∷ waiting_bytes new.memory.outbox =
        sym (waits ∙ ap (map bytes_of) is) ∙ some in
        let first : bytes_of oldest ≡ items v = cc in
        let rest : map bytes_of more ≡ waiting_bytes new.memory.outbox = cc in
        record {
          after = record q { replies = more };
          accepted = drains-by g q s ∙ ap (drain_outcome q) is
              ∙ ap (λ bytes. leaves (record q { replies = more }) (reply_given bytes)) first;
          stands = subst (StandsForState g new (record q { replies = more })) (sym (drains-none g q s))
              (stands-with g q s code new more same st (sym rest));
        }

-- where a reply waits, one is taken out
pub drains-accepted : (g : Ground) (q : TenantState) (s : Store) (code : Tenant) → StandsForState g code q s
    → waiting_bytes code.memory.outbox ≢ []
    → is_accepted (deed_result g s q deeds.drains).outcome ≡ true
drains-accepted g q s code st some = by q.replies refl
  where
    by : (replies : List ReplyData) → q.replies ≡ replies
        → is_accepted (deed_result g s q deeds.drains).outcome ≡ true
    by [] is = absurd (some (st.remembers.replies ∙ ap (map bytes_of) is))
    by (oldest ∷ more) is = ap is_accepted (drains-by g q s ∙ ap (drain_outcome q) is)
