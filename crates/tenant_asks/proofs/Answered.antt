-- What an ask is answered, from what the refs tell.
use Rattle.std.proofs.Common.{◌≡◌, ℕ, true, false, Option, None, Some, MatchOption, Result, Ok, Err}
use Rattle.std.proofs.Common.{IfOk, refl, sym, ap, subst, ◌∙◌, Bool, is_some, true≢false}
use Rattle.repl_asks.specs.Exchange.{AskData, AnswerData, done}
use Rattle.ref_table.specs.Calls.{StoreCall, performed}
use Rattle.server_rules.specs.Cells.{CellsData, SenderData, with_sends_if}
use Rattle.ref_table.specs.Performed.{Performed, tells}
use Rattle.server_rules.specs.Ground.{Ground}
use Rattle.ref_table.specs.Store.{Store}
use Rattle.server_rules.specs.Tenant.{TenantState, seat_of}
use Rattle.server_rules.specs.Asking.{answer_to, state_after, call_of, is_allowed}
use Rattle.server_rules.specs.declared.actor.Actor.{Actor}
use Rattle.ref_history.specs.RingHistories.{RingStands}
use Rattle.ref_table.specs.Refs.{TableRefs, refs_after}
use Rattle.ref_table.specs.Standing as refs
use Rattle.tenant_parts.specs.Attempts.{Reaches}
use Rattle.tenant_asks.specs.Asking.{is_of_names, is_of_cells, Answers}
use Rattle.tenant_asks.specs.Memories.{Remembers}
use Rattle.tenant_asks.specs.Sends.{committed_sends, is_told_yes}
use Rattle.repl_sessions.specs.Inside.StateView.{state_view}
use Rattle.name_spaces.specs.Inside.Seen.{namespaces_of, shared_in}
use Rattle.tenant_parts.specs.Replies.{waiting_bytes}
use Rattle.tenant_asks.specs.Cells.{cells_data}
use Rattle.tenant_parts.specs.Serving.{RingRefTable, ServesWithAttempts, PerformsCall}
use Rattle.tenant_parts.specs.AnswerCopies.{copies_view, told_answer}
use Rattle.tenant_parts.specs.declared.attempts.Attempts.{Attempts}
use Rattle.tenant_asks.specs.declared.memory.Remembered.{Remembered}
use Rattle.tenant_parts.specs.declared.copies.AnswerCopies.{AnswerCopies}
use Rattle.tenant_asks.proofs.Answering.{refs-told, allowed-may}
use Rattle.tenant_parts.proofs.Calls.{untold-stays}
use Rattle.tenant_parts.proofs.Serving.{refs_after-seen, holds-refs_after}

-- an ask of names, of atoms or of agents changes none of them
pub alone-answered : (g : Ground) (t : ℕ) (a : Actor) (sender : SenderData) (q : TenantState) (ask : AskData)
    (s : Store) (r : TableRefs) (m : Remembered) (table : RingRefTable) (attempts : Attempts)
    (answer : AnswerData) → ServesWithAttempts table attempts s r
    → performed s (call_of (seat_of a) ask) ≡ tells done s
    → answer ≡ answer_to g a q ask done → Remembers g t m (state_after sender ask answer q)
    → Answers g t a sender q ask (performed s (call_of (seat_of a) ask)) m table attempts r answer
alone-answered g t a sender q ask s r m table attempts answer holds alone is remembers =
    let P : Performed Store → Type 0 = λ p. Answers g t a sender q ask p m table attempts r answer in
    subst P (sym alone) (record {
      told = done;
      is_told = refl;
      is = is;
      remembers = remembers;
      holds = subst (ServesWithAttempts table attempts s) (sym (refs_after-seen s r holds.serves.reached)) holds;
    })

-- nothing was told
holds-untold : (new old : RingRefTable) (attempts later : Attempts) (s : Store) (r : TableRefs) (call : StoreCall)
    → ServesWithAttempts old attempts s r → PerformsCall new later r None (performed s call) → ServesWithAttempts new later s r
holds-untold new old attempts later s r call holds comes =
    let same = untold-stays s call comes.called.told in
    record {
      serves = record {
        stands = subst (refs.TableStands RingStands new)
            (ap (λ x. refs_after x r) same ∙ refs_after-seen s r holds.serves.reached) comes.called.left;
        sound = holds.serves.sound;
        reached = holds.serves.reached;
      };
      reaches = subst (Reaches later) same comes.reaches;
    }

-- what a memory has of the tenant, once it has these atoms and agents
abbrev pub with_cells : CellsData → TenantState → TenantState
with_cells c q = record q { cells = c }

pub refs-answered : {E : Type 0} (g : Ground) (t : ℕ) (a : Actor) (sender : SenderData) (q : TenantState)
    (ask : AskData) (s : Store) (r : TableRefs) (m : Remembered) (new old : RingRefTable)
    (attempts later : Attempts) (result : Result (Option AnswerCopies) E)
    → ServesWithAttempts old attempts s r → is_of_names ask ≡ false → is_of_cells ask ≡ false
    → is_allowed ask q.cells ≡ true
    → IfOk result (λ it. Remembers g t m
    (with_cells (with_sends_if (is_told_yes (told_answer it)) sender (committed_sends ask) q.cells) q))
    → IfOk result (λ it. PerformsCall new later r (told_answer it) (performed s (call_of (seat_of a) ask)))
    → IfOk result (λ it. MatchOption it
    (((performed s (call_of (seat_of a) ask)).told ≡ None) × Remembers g t m q × ServesWithAttempts new later s r)
    (λ answer. Answers g t a sender q ask (performed s (call_of (seat_of a) ask)) m new later r
    (copies_view answer)))
refs-answered g t a sender q ask s r m new old attempts later (Err e) holds names cells allowed remembers comes = tt
refs-answered g t a sender q ask s r m new old attempts later (Ok None) holds names cells allowed remembers comes = (
  sym comes.called.told,
  remembers,
  holds-untold new old attempts later s r (call_of (seat_of a) ask) holds comes,
)
refs-answered g t a sender q ask s r m new old attempts later (Ok (Some it)) holds names cells allowed remembers comes =
    let still = refs-told g a sender q ask (copies_view it) names cells in
    record {
      told = copies_view it;
      is_told = sym comes.called.told;
      is = still.is;
      remembers = record {
        sessions = remembers.sessions;
        bare = remembers.bare;
        spaces = remembers.spaces ∙ still.spaces;
        names = remembers.names;
        cells = remembers.cells ∙ still.cells;
        replies = remembers.replies;
      };
      holds = holds-refs_after new old attempts later s r (Some (copies_view it))
          (call_of (seat_of a) ask) holds (allowed-may (seat_of a) ask q allowed) comes;
    }

-- a memory that has other atoms and agents alone
pub remembers-cells : {E A : Type 0} (g : Ground) (t : ℕ) (m n : Remembered) (q : TenantState) (result : Result A E)
    (f : A → CellsData → CellsData) → Remembers g t m q
    → (n.sessions ≡ m.sessions) × (n.bare ≡ m.bare) × (n.spaces ≡ m.spaces) × (n.outbox ≡ m.outbox)
    → IfOk result (λ it. cells_data n.cells ≡ f it (cells_data m.cells))
    → IfOk result (λ it. Remembers g t n (with_cells (f it q.cells) q))
remembers-cells g t m n q (Err e) f remembers same changed = tt
remembers-cells g t m n q (Ok it) f remembers same changed = record {
  sessions = same.0 ∙ remembers.sessions;
  bare = ap state_view same.1 ∙ remembers.bare;
  spaces = ap namespaces_of same.2 ∙ remembers.spaces;
  names = remembers.names ∙ ap shared_in (sym same.2);
  cells = changed ∙ ap (f it) remembers.cells;
  replies = ap waiting_bytes same.3 ∙ remembers.replies;
}

pub none-told : {A : Type 0} (found : Option A) (b : Bool) → b ≡ is_some found → b ≡ false → found ≡ None
none-told None b is untold = refl
none-told (Some a) b is untold = absurd (true≢false (sym is ∙ untold))
