-- A change of the map of states, and what the sessions are seen as after it.
use Rattle.std.proofs.Common.{◌≡◌, ℕ, ◌+◌, ◌<◌, true, suc, List, Some, None, sym, ap, ◌∙◌, arith}
use Rattle.std.specs.Ordering.{nat_cmp}
use Rattle.std.specs.BTreeMap.{BTreeMap, IsOrdered, WritesThrough, insert_entry}
use Rattle.std.specs.Map.{lookup, remove_entry}
use Rattle.repl_sessions.specs.Ids.{IdsData}
use Rattle.repl_sessions.specs.State.{StateData}
use Rattle.repl_sessions.specs.Inside.StateView.{state_view}
use Rattle.repl_sessions.specs.Sessions.{SessionData, with_change, without_session, opened_with}
use Rattle.repl_sessions.specs.Sessions.{SessionsData}
use Rattle.repl_sessions.specs.Inside.Retracted.{without_newest_session}
use Rattle.repl_sessions.specs.Named.{NamedSessions}
use Rattle.repl_sessions.specs.Inside.View.{live_view}
use Rattle.repl_sessions.specs.declared.state.SessionState.{SessionState}
use Rattle.repl_sessions.proofs.Numbers.{Entries, at, among, rise, all-below, opened-view}
use Rattle.repl_sessions.proofs.Numbers.{opened-out, closed-view, with_changed_state-view}
use Rattle.repl_sessions.proofs.Numbers.{unchanged-view}

-- the sessions that a map of states is seen as
abbrev pub seen : IdsData → ℕ → Entries → NamedSessions
seen ids opened es = record { ids = ids; sessions = record { opened = opened; live = live_view es } }

abbrev with_live : NamedSessions → List SessionData → NamedSessions
with_live s l = record s { sessions = record s.sessions { live = l } }

pub changed-seen : (f : StateData → StateData) (n opened : ℕ) (ids : IdsData) (m m' : BTreeMap ℕ SessionState) (v w : SessionState) (s : NamedSessions)
    → seen ids opened m.entries ≡ s → IsOrdered nat_cmp m → WritesThrough nat_cmp (nat_cmp n) m w m' → Some v ≡ lookup (at n) m.entries
    → state_view w ≡ f (state_view v) → seen ids opened m'.entries ≡ record s { sessions = with_change s.sessions n f }
changed-seen f n opened ids m m' v w s is ordered written was step =
    ap (seen ids opened) written.0
    ∙ ap (with_live (seen ids opened m.entries)) (with_changed_state-view f m.entries n v w (rise m.entries ordered) (sym was) step)
    ∙ ap (λ (x : NamedSessions). record x { sessions = with_change x.sessions n f }) is

pub unchanged-seen : (f : StateData → StateData) (n opened : ℕ) (ids : IdsData) (m m' : BTreeMap ℕ SessionState) (s : NamedSessions)
    → seen ids opened m.entries ≡ s → m' ≡ m → None ≡ lookup (at n) m.entries
    → seen ids opened m'.entries ≡ record s { sessions = with_change s.sessions n f }
unchanged-seen f n opened ids m m' s is same was =
    ap (λ (x : BTreeMap ℕ SessionState). seen ids opened x.entries) same
    ∙ sym (ap (with_live (seen ids opened m.entries)) (unchanged-view f m.entries n (sym was)))
    ∙ ap (λ (x : NamedSessions). record x { sessions = with_change x.sessions n f }) is

pub without_session-seen : (n opened : ℕ) (ids : IdsData) (m m' : BTreeMap ℕ SessionState) (s : NamedSessions)
    → seen ids opened m.entries ≡ s → IsOrdered nat_cmp m → m'.entries ≡ remove_entry (at n) m.entries
    → seen ids opened m'.entries ≡ record s { sessions = without_session s.sessions n }
without_session-seen n opened ids m m' s is ordered out =
    ap (seen ids opened) out ∙ ap (with_live (seen ids opened m.entries)) (closed-view m.entries n (rise m.entries ordered))
    ∙ ap (λ (x : NamedSessions). record x { sessions = without_session x.sessions n }) is

pub opened-seen : (n n' : ℕ) (ids : IdsData) (m m' : BTreeMap ℕ SessionState) (v : SessionState) (s : NamedSessions)
    → seen ids n m.entries ≡ s → ((k : ℕ) → among m.entries k ≡ true → k < n) → n' ≡ n + 1 → m'.entries ≡ insert_entry nat_cmp m.entries n v
    → seen ids n' m'.entries ≡ record s { sessions = opened_with s.sessions (state_view v) }
opened-seen n n' ids m m' v s is below next put =
    ap (λ (k : ℕ). seen ids k m'.entries) next ∙ ap (seen ids (n + 1)) put
    ∙ ap (with_live (seen ids (n + 1) m.entries)) (opened-view m.entries n v (all-below m.entries n below))
    ∙ ap (λ (x : NamedSessions). record x { sessions = opened_with x.sessions (state_view v) }) is

-- a session that was made and taken back leaves the sessions as they were
pub undone-seen : (n n' : ℕ) (ids : IdsData) (m m' : BTreeMap ℕ SessionState) (v : SessionState) (s : NamedSessions)
    → seen ids n m.entries ≡ s → ((k : ℕ) → among m.entries k ≡ true → k < n) → n' ≡ n + 1 → m'.entries ≡ insert_entry nat_cmp m.entries n v
    → without_newest_session (record { opened = n'; live = live_view m'.entries }) ≡ s.sessions
undone-seen n n' ids m m' v s is below next put =
    let up : n' ≡ suc n = omega (arith, next) in
    ap (λ (k : ℕ). without_newest_session (record { opened = k; live = live_view m'.entries })) up
    ∙ ap (λ (es : Entries). without_newest_session (record { opened = suc n; live = live_view es })) put
    ∙ ap (λ (l : List SessionData). sessions_of n l) (opened-out m.entries n v (all-below m.entries n below))
    ∙ ap (λ (x : NamedSessions). x.sessions) is
  where
    sessions_of : ℕ → List SessionData → SessionsData
    sessions_of k l = record { opened = k; live = l }

pub without_newest_session-seen : (n opened : ℕ) (ids : IdsData) (m m' : BTreeMap ℕ SessionState) (s : NamedSessions)
    → seen ids opened m.entries ≡ s → opened ≡ n + 1 → IsOrdered nat_cmp m → m'.entries ≡ remove_entry (at n) m.entries
    → seen ids n m'.entries ≡ record s { sessions = without_newest_session s.sessions }
without_newest_session-seen n opened ids m m' s is next ordered out =
    let up : opened ≡ suc n = omega (arith, next) in
    ap (seen ids n) out ∙ ap (with_live (seen ids n m.entries)) (closed-view m.entries n (rise m.entries ordered))
    ∙ sym (ap (λ (k : ℕ). record (seen ids k m.entries) { sessions = without_newest_session (record { opened = k; live = live_view m.entries }) }) up)
    ∙ ap (λ (x : NamedSessions). record x { sessions = without_newest_session x.sessions }) is
