-- What an operation makes of a scene is what the rules make of the tenant.
use Rattle.std.proofs.Common.{◌≡◌, ℕ, suc, ◌+◌, ◌<◌, ◌==◌, Bool, true, false, ◌||◌, List, [], ◌∷◌}
use Rattle.std.proofs.Common.{◌++◌, map, Option, Some, None, Result, refl, sym, ap, ap₂, ◌∙◌, subst}
use Rattle.std.proofs.Common.{append_assoc, append-nil, true≢false, arith}
use Rattle.std.specs.Ordering.{nat_cmp}
use Rattle.std.specs.BTreeSet.{insert_key}
use Rattle.std.proofs.lemmas.Bool.{eqb-true, false_from_ne_true}
use Rattle.std.proofs.lemmas.List.{map-append}
use Rattle.bencode_wire.specs.Tree.{Tree, TreePairs, integer, string, list, dictionary}
use Rattle.repl_sessions.specs.Ids.{id_text}
use Rattle.repl_sessions.specs.Sessions.{SessionsData, cloned_state, opened_with, with_clone_of}
use Rattle.repl_sessions.specs.Sessions.{without_session}
use Rattle.repl_sessions.specs.Named.{NamedSessions, number_named, ids_of}
use Rattle.repl_sessions.specs.Inside.Leaving.{is_leaving, remaining_sessions, remaining_named}
use Rattle.repl_replies.specs.Operations as operations
use Rattle.repl_replies.specs.Operations.{AskedData}
use Rattle.repl_replies.specs.Replies as replies
use Rattle.repl_replies.specs.Replies.{OriginData, ReplyData, bytes_of}
use Rattle.server_rules.specs.Ground.{Ground}
use Rattle.ref_table.specs.Numbered.{Entry, entry, part_under}
use Rattle.server_rules.specs.Operating.{ids_for, with_vacated_seat, named_sessions, with_clone}
use Rattle.server_rules.specs.Operating.{closed_by, with_close, interruption, asker, queued_for}
use Rattle.server_rules.specs.Operating.{with_asked, with_message}
use Rattle.server_rules.specs.Replying.{reply}
use Rattle.server_rules.specs.Request.{Waiting}
use Rattle.server_rules.specs.Tenant.{ActorData, unoccupied, seat_of, TenantState, with_replies}
use Rattle.server_rules.specs.declared.actor.Actor.{Actor}
use Rattle.tenant_parts.specs.Queues.{changed_found, with_changed_actor, with_request, vacated_found}
use Rattle.tenant_parts.specs.Queues.{vacated_at}
use Rattle.tenant_parts.specs.View.{AreBelow}
use Rattle.tenant_moves.specs.Holds.{PartsStandFor, AreSeated}
use Rattle.tenant_moves.specs.Requested.{with_queued_request}
use Rattle.tenant_moves.specs.Scene.{Scene, all_vacated, Drafts, FollowsRules}
use Rattle.tenant_moves.specs.Served.{IsServed}
use Rattle.tenant_moves.proofs.Apart.{part_under-below}
use Rattle.tenant_moves.proofs.Vacating.{IsApart, bare-apart, staying-apart, all-part_under}
use Rattle.tenant_moves.proofs.Vacating.{all-changed, all-added, all-inserted, below-all}
use Rattle.tenant_moves.proofs.Remaining.{leaving-inserted, remaining_sessions-none}
use Rattle.tenant_moves.proofs.Remaining.{remaining_sessions-inserted, remaining_sessions-opened}
use Rattle.tenant_moves.proofs.Remaining.{first-remaining_sessions, open-remaining_sessions}

pub named-same : (g : Ground) (t : ℕ) (q : TenantState) (waiting : List (List ℕ)) (x : Scene) → Drafts g t q waiting x
    → named_sessions g t q ≡ remaining_named x.leaving x.sessions
named-same g t q waiting x d =
    ap₂ (λ i s. record { ids = i; sessions = s }) (sym d.ids) d.sessions

-- replies are made
pub replies-made : (q : TenantState) (waiting made now : List (List ℕ)) (more : List ReplyData) → map bytes_of q.replies ≡ waiting ++ made
    → now ≡ made ++ map bytes_of more → map bytes_of (q.replies ++ more) ≡ waiting ++ now
replies-made q waiting made now more was is =
    map-append bytes_of q.replies more ∙ ap (λ (l : List (List ℕ)). l ++ map bytes_of more) was
    ∙ append_assoc waiting made (map bytes_of more) ∙ ap (λ (l : List (List ℕ)). waiting ++ l) (sym is)

pub comes-replied : (more : List ReplyData) (x : Scene) (now : List (List ℕ)) → now ≡ x.made ++ map bytes_of more
    → FollowsRules (λ g t. with_replies more) x (record x { made = now })
comes-replied more x now is = λ g t q waiting d. record {
  ids = d.ids;
  sessions = d.sessions;
  actors = d.actors;
  replies = replies-made q waiting x.made now more d.replies is;
  given = d.given;
}

pub comes-listed : (o : OriginData) (x : Scene) (now : List (List ℕ))
    → now ≡ x.made ++ map bytes_of (reply o (replies.sessions (ids_of (remaining_named x.leaving x.sessions))) ∷ [])
    → FollowsRules (λ g t q. with_replies (reply o (replies.sessions (ids_of (named_sessions g t q))) ∷ []) q) x (record x { made = now })
comes-listed o x now is = λ g t q waiting d.
    let same = sym (named-same g t q waiting x d) in
    comes-replied (reply o (replies.sessions (ids_of (named_sessions g t q))) ∷ []) x now
    (is ∙ ap (λ (s : NamedSessions). x.made ++ map bytes_of (reply o (replies.sessions (ids_of s)) ∷ [])) same) g t q waiting d

-- a session is made
first-same : (ks : List ℕ) (s : SessionsData) (original : Option ℕ) → IsServed original ks s
    → cloned_state (remaining_sessions ks s) original ≡ cloned_state s original
first-same ks s None served = refl
first-same ks s (Some n) served = first-remaining_sessions ks s n (open-remaining_sessions ks n s (served n refl))

next-stays : (g : Ground) (t : ℕ) (q : TenantState) (waiting : List (List ℕ)) (x : Scene) → Drafts g t q waiting x
    → is_leaving x.leaving x.sessions.sessions.opened ≡ false
next-stays g t q waiting x d = false_from_ne_true _ (λ is. let low = d.given x.sessions.sessions.opened is in omega (arith, low))

pub comes-with_clone_of : (o : OriginData) (original : Option ℕ) (x y : Scene) (number : ℕ) → IsServed original x.leaving x.sessions.sessions
    → number ≡ x.sessions.sessions.opened
    → y.sessions ≡ record x.sessions { sessions = with_clone_of x.sessions.sessions original }
    → y.actors ≡ x.actors ++ entry (suc (suc number)) unoccupied ∷ []
    → y.leaving ≡ x.leaving
    → y.made ≡ x.made ++ map bytes_of (reply o (replies.new_session (id_text y.sessions.ids number)) ∷ [])
    → FollowsRules (λ g t. with_clone g t o original) x y
comes-with_clone_of o original x y number served is made seat stay told = λ g t q waiting d.
    let ks = x.leaving in
    let s = x.sessions.sessions in
    let free = next-stays g t q waiting x d in
    let opened : q.sessions.opened ≡ number = ap (λ (s : SessionsData). s.opened) d.sessions ∙ sym is in
    let now : with_clone_of q.sessions original ≡ remaining_sessions ks (with_clone_of s original) =
    ap (λ (s : SessionsData). with_clone_of s original) d.sessions
    ∙ ap (opened_with (remaining_sessions ks s)) (first-same ks s original served)
    ∙ sym (remaining_sessions-opened ks s (cloned_state s original) free) in
    let ids : y.sessions.ids ≡ ids_for g t = ap (λ (s : NamedSessions). s.ids) made ∙ d.ids in
    let apart : IsApart (suc (suc number)) ks = staying-apart number ks (ap (is_leaving ks) is ∙ free) in
    record {
      ids = ids;
      sessions = now ∙ sym (ap₂ (λ l (s : NamedSessions). remaining_sessions l s.sessions) stay made);
      actors = ap₂ (λ es n. es ++ entry (suc (suc n)) unoccupied ∷ []) d.actors opened
          ∙ sym (all-added (suc (suc number)) unoccupied ks x.actors apart)
          ∙ sym (ap₂ all_vacated stay seat);
      replies = replies-made q waiting x.made y.made (reply o (replies.new_session (id_text (ids_for g t) q.sessions.opened)) ∷ []) d.replies
          (told ∙ ap₂ (λ i n. x.made ++ map bytes_of (reply o (replies.new_session (id_text i n)) ∷ [])) ids (sym opened));
      given = λ n leaves.
          let low : n < s.opened = d.given n (ap (λ l. is_leaving l n) (sym stay) ∙ leaves) in
          let up : y.sessions.sessions.opened ≡ s.opened + 1 = ap (λ (s : NamedSessions). s.sessions.opened) made in
          omega (arith, low, up);
    }

-- a session is closed
vacant-as : (n : ℕ) (actor : ActorData) (es : List (Entry ActorData)) → part_under (suc (suc n)) es ≡ Some actor
    → vacated_at (suc (suc n)) es ≡ with_vacated_seat (suc (suc n)) actor.hand es
vacant-as n actor es here = ap (vacated_found (suc (suc n)) es) here

given-more : (m n : ℕ) (b : Bool) (opened now : ℕ) → ((m == n) || b) ≡ true → (b ≡ true → m < opened) → n < opened → now ≡ opened → m < now
given-more m n b opened now or was low up = by (m == n) (λ i. eqb-true m n i) or
  where
    by : (c : Bool) → (c ≡ true → m ≡ n) → (c || b) ≡ true → m < now
    by true same h = omega (arith, same refl, low, up)
    by false same h = omega (arith, was h, up)

pub comes-absent : (o : OriginData) (n : ℕ) (x : Scene) → IsServed (Some n) x.leaving x.sessions.sessions
    → part_under (suc (suc n)) x.actors ≡ None → FollowsRules (λ g t. with_close o n) x x
comes-absent o n x served none = λ g t q waiting d.
    let apart = staying-apart n x.leaving (open-remaining_sessions x.leaving n x.sessions.sessions (served n refl)) in
    let absent : part_under (suc (suc n)) q.actors ≡ None = ap (part_under (suc (suc n))) d.actors ∙ all-part_under (suc (suc n)) x.leaving x.actors apart ∙ none in
    subst (λ (o' : Option ActorData). Drafts g t (closed_by o n q o') waiting x) (sym absent) d

pub comes-closed : (o : OriginData) (n : ℕ) (x y : Scene) (actor : ActorData) → AreSeated x.sessions x.actors → IsServed (Some n) x.leaving x.sessions.sessions
    → part_under (suc (suc n)) x.actors ≡ Some actor
    → y.sessions ≡ x.sessions → y.actors ≡ x.actors → y.leaving ≡ insert_key nat_cmp x.leaving n
    → y.made ≡ x.made ++ map bytes_of (map interruption actor.waiting ++ reply o replies.closed ∷ [])
    → FollowsRules (λ g t. with_close o n) x y
comes-closed o n x y actor seated served is same others leaves told = λ g t q waiting d.
    let ks = x.leaving in
    let s = x.sessions.sessions in
    let apart = staying-apart n ks (open-remaining_sessions ks n s (served n refl)) in
    let here : part_under (suc (suc n)) q.actors ≡ Some actor = ap (part_under (suc (suc n))) d.actors ∙ all-part_under (suc (suc n)) ks x.actors apart ∙ is in
    let low : suc (suc n) < suc (suc s.opened) = part_under-below (suc (suc n)) (suc (suc s.opened)) actor x.actors seated is in
    let vacant : vacated_at (suc (suc n)) (all_vacated ks x.actors) ≡ all_vacated y.leaving y.actors =
    sym (all-inserted n ks x.actors apart) ∙ sym (ap₂ all_vacated leaves others) in
    let after : Drafts g t (closed_by o n q (Some actor)) waiting y = record {
      ids = ap (λ (s : NamedSessions). s.ids) same ∙ d.ids;
      sessions = ap (λ (s : SessionsData). without_session s n) d.sessions ∙ sym (remaining_sessions-inserted n ks s)
          ∙ sym (ap₂ (λ l (s : NamedSessions). remaining_sessions l s.sessions) leaves same);
      actors = sym (vacant-as n actor q.actors here) ∙ ap (vacated_at (suc (suc n))) d.actors ∙ vacant;
      replies = replies-made q waiting x.made y.made (map interruption actor.waiting ++ reply o replies.closed ∷ []) d.replies told;
      given = λ m leaving.
          let or : ((m == n) || is_leaving ks m) ≡ true = sym (leaving-inserted n ks m) ∙ ap (λ l. is_leaving l m) (sym leaves) ∙ leaving in
          let up : y.sessions.sessions.opened ≡ s.opened = ap (λ (s : NamedSessions). s.sessions.opened) same in
          given-more m n (is_leaving ks m) s.opened y.sessions.sessions.opened or (λ i. d.given m i) (omega (arith, low)) up;
    } in
    subst (λ (o' : Option ActorData). Drafts g t (closed_by o n q o') waiting y) (sym here) after

-- a request waits
requested-found : (a : Actor) (w : Waiting) (q : TenantState) (o : Option ActorData)
    → queued_for a w q o ≡ record q { actors = changed_found (seat_of a) (with_request w) q.actors o }
requested-found a w q None = refl
requested-found a w q (Some actor) = refl

asker-apart : (session : Option ℕ) (ks : List ℕ) (s : SessionsData) → IsServed session ks s → IsApart (seat_of (asker session)) ks
asker-apart None ks s served = bare-apart ks
asker-apart (Some n) ks s served = staying-apart n ks (open-remaining_sessions ks n s (served n refl))

pub comes-with_queued_request : (session : Option ℕ) (w : Waiting) (x y : Scene) → IsServed session x.leaving x.sessions.sessions
    → y.sessions ≡ x.sessions → y.actors ≡ with_changed_actor (seat_of (asker session)) (with_request w) x.actors
    → y.leaving ≡ x.leaving → y.made ≡ x.made
    → FollowsRules (λ g t. with_queued_request (asker session) w) x y
comes-with_queued_request session w x y served same queued stay told = λ g t q waiting d.
    let a = asker session in
    let ks = x.leaving in
    let after : Drafts g t (record q { actors = with_changed_actor (seat_of a) (with_request w) q.actors }) waiting y = record {
      ids = ap (λ (s : NamedSessions). s.ids) same ∙ d.ids;
      sessions = d.sessions ∙ sym (ap₂ (λ l (s : NamedSessions). remaining_sessions l s.sessions) stay same);
      actors = ap (with_changed_actor (seat_of a) (with_request w)) d.actors
          ∙ all-changed (seat_of a) (with_request w) ks x.actors (asker-apart session ks x.sessions.sessions served)
          ∙ sym (ap₂ all_vacated stay queued);
      replies = d.replies ∙ ap (λ (l : List (List ℕ)). waiting ++ l) (sym told);
      given = λ n leaves. subst (λ (s : NamedSessions). n < s.sessions.opened) (sym same) (d.given n (ap (λ l. is_leaving l n) (sym stay) ∙ leaves));
    } in
    subst (λ (q' : TenantState). Drafts g t q' waiting y) (sym (requested-found a w q (part_under (seat_of a) q.actors))) after

-- a message
pub comes-asked : (fields : TreePairs) (r : Result AskedData ReplyData) (x y : Scene)
    → r ≡ operations.operation_or_reply (number_named (remaining_named x.leaving x.sessions)) fields
    → FollowsRules (λ g t. with_asked g t r) x y → FollowsRules (λ g t. with_message g t (dictionary fields)) x y
unfolding with_message
comes-asked fields r x y is comes = λ g t q waiting d.
    let same : r ≡ operations.operation_or_reply (number_named (named_sessions g t q)) fields =
    is ∙ ap (λ (s : NamedSessions). operations.operation_or_reply (number_named s) fields) (sym (named-same g t q waiting x d)) in
    subst (λ (r' : Result AskedData ReplyData). Drafts g t (with_asked g t r' q) waiting y) same (comes g t q waiting d)

-- what is no dictionary asks for nothing
pub data IsOther : Tree → Type 0 where
  is_integer : (n : _) → IsOther (integer n)
  is_string : (bytes : List ℕ) → IsOther (string bytes)
  is_list : (ts : _) → IsOther (list ts)

comes-none : (m : Tree) (x : Scene) → IsOther m → FollowsRules (λ g t. with_message g t m) x x
unfolding with_message
comes-none m x (is_integer n) = λ g t q waiting d. d
comes-none m x (is_string bytes) = λ g t q waiting d. d
comes-none m x (is_list ts) = λ g t q waiting d. d

pub comes-other : (m o : Tree) (x : Scene) → m ≡ o → IsOther o → FollowsRules (λ g t. with_message g t m) x x
comes-other m o x is other = subst (λ (it : Tree). FollowsRules (λ g t. with_message g t it) x x) (sym is) (comes-none o x other)

pub drafts-as : (g : Ground) (t : ℕ) (q r : TenantState) (waiting : List (List ℕ)) (x : Scene) → q ≡ r → Drafts g t q waiting x → Drafts g t r waiting x
drafts-as g t q r waiting x same d = subst (λ (it : TenantState). Drafts g t it waiting x) same d

-- before the first message, and once those that leave have left
pub drafts-first : (g : Ground) (t : ℕ) (q : TenantState) (waiting : List (List ℕ)) (x : Scene) → PartsStandFor g t q x.sessions x.actors waiting
    → x.leaving ≡ [] → x.made ≡ [] → Drafts g t q waiting x
drafts-first g t q waiting x h none nothing = record {
  ids = ap (λ (s : NamedSessions). s.ids) h.sessions;
  sessions = sym (ap (λ (s : NamedSessions). s.sessions) h.sessions) ∙ sym (remaining_sessions-none x.sessions.sessions)
      ∙ sym (ap (λ l. remaining_sessions l x.sessions.sessions) none);
  actors = sym h.actors ∙ sym (ap (λ l. all_vacated l x.actors) none);
  replies = sym h.replies ∙ sym (append-nil waiting) ∙ sym (ap (λ (l : List (List ℕ)). waiting ++ l) nothing);
  given = λ n leaves. absurd (true≢false (sym leaves ∙ ap (λ l. is_leaving l n) none));
}

pub drafts-last : (g : Ground) (t : ℕ) (q : TenantState) (waiting now : List (List ℕ)) (x : Scene) (s : NamedSessions) (es : List (Entry ActorData))
    → Drafts g t q waiting x → s ≡ remaining_named x.leaving x.sessions → es ≡ all_vacated x.leaving x.actors → now ≡ waiting ++ x.made
    → PartsStandFor g t q s es now
drafts-last g t q waiting now x s es d rest left posted = record {
  sessions = rest ∙ sym (named-same g t q waiting x d);
  actors = left ∙ sym d.actors;
  replies = posted ∙ sym d.replies;
}

pub seated-last : (ks : List ℕ) (was s : NamedSessions) (here es : List (Entry ActorData)) → AreSeated was here
    → s ≡ remaining_named ks was → es ≡ all_vacated ks here → AreSeated s es
seated-last ks was s here es seated rest left =
    subst (λ (n : NamedSessions). AreSeated n es) (sym rest)
    (subst (λ (a : List (Entry ActorData)). AreBelow (suc (suc was.sessions.opened)) a) (sym left) (below-all (suc (suc was.sessions.opened)) ks here seated))
