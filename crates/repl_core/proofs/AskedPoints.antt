-- The read points of actors, through what one of them asks.
use Rattle.std.proofs.Common.{◌≡◌, ◌≢◌, ◌∙◌, ◌⊎◌, inl, inr, ℕ, ◌==◌, List, [], ◌∷◌, Bool, true}
use Rattle.std.proofs.Common.{false, ◌+◌, Option, Some, None, slice_get, refl, sym, ap}
use Rattle.std.proofs.Common.{if◌then◌else◌, is_some, true≢false}
use Rattle.std.specs.Prelude.{option_map}
use Rattle.std.proofs.lemmas.Bool.{eq-eqb, ne_eqb}
use Rattle.value_data.specs.Datum.{Datum, OwnerData, shared, tenant}
use Rattle.repl_asks.specs.Transactions.{RefNameData}
use Rattle.repl_asks.specs.Exchange as exchange
use Rattle.repl_asks.specs.Exchange.{AskData, AnswerData, begin, read, reading, found}
use Rattle.evaluation_rules.specs.Arguments.{is_shared}
use Rattle.repl_walker.specs.Agreeing.{IsToldBy, names_shared}
use Rattle.ref_table.specs.Numbered.{Entry, part_under, without}
use Rattle.ref_history.specs.Versioned.{Ref, readable, with_failed_read, with_least, with_most}
use Rattle.ref_table.specs.Store.{Store, ref_of, ref_named, with_changed_ref}
use Rattle.ref_table.specs.Calls.{performed, performed_begin, read_at, read_by, performed_bound_set}
use Rattle.ref_table.specs.Calls.{number_told, count_told}
use Rattle.server_rules.specs.Asking.{call_of, answer_to}
use Rattle.server_rules.specs.Machine.World.{TenantData, World}
use Rattle.server_rules.specs.Ground.{Ground}
use Rattle.server_rules.specs.declared.actor.Actor.{Actor}
use Rattle.server_rules.proofs.Numbered.{some-same}
use Rattle.tenant_parts.proofs.EntryLaws.{found_first, without_first}
use Rattle.tenant_parts.proofs.Calls.{with_changed_ref-same, commit-told, bound-points}
use Rattle.tenant_parts.proofs.Points.{part_under-without}
use Rattle.tenant_asks.specs.Asking.{exchange_from}
use Rattle.repl_core.specs.Standing.{open_in, store_in}
use Rattle.repl_core.specs.Commits.{refs_in, ref_in_world}
use Rattle.repl_core.specs.Points.{held_at, reading_of, bound_told, told_at}
use Rattle.repl_core.specs.AttemptsUnderWay.{is_within}
use Rattle.repl_core.proofs.CommitCalls.{send-stays}
use Rattle.repl_core.proofs.Commits.{ref-near}
use Rattle.repl_core.proofs.Points.{none-some, kept-held}

pub gone : {A : Type 0} (n : ℕ) (es : List (Entry A)) → part_under n (without n es) ≡ None
gone n [] = refl
gone {A} n (e ∷ es) = by (gone n es) (n == e.number) refl
  where
    by : part_under n (without n es) ≡ None → (b : Bool) → (n == e.number) ≡ b
        → part_under n (without_first b e (without n es)) ≡ None
    by behind true same = behind
    by behind false apart =
        ap (λ (b : Bool). found_first b e.part (part_under n (without n es))) apart ∙ behind

-- Of others

module _ (m n : ℕ) (s : Store) (apart : m ≢ n) where
  left-others : (points : List (Entry ℕ)) → points ≡ s.mine.points
      → part_under m (without n points) ≡ part_under m s.mine.points
  left-others points same =
      part_under-without m n points apart ∙ ap (λ es. part_under m es) same

  begin-others : (o : Option ℕ)
      → part_under m (performed_begin n s o).store.mine.points ≡ part_under m s.mine.points
  begin-others (Some point) = refl
  begin-others None = ap (λ (b : Bool). if b then Some s.around.counter
      else part_under m s.mine.points) (ne_eqb m n apart)

  read-others : (name : RefNameData) (o : Option ℕ) (r : Option Ref)
      → part_under m (read_by n name s o r).store.mine.points ≡ part_under m s.mine.points
  read-others name o None = refl
  read-others name None (Some r) = refl
  read-others name (Some point) (Some r) = by (readable point r)
    where
      by : (d : Option Datum)
          → part_under m (read_at n name s d).store.mine.points ≡ part_under m s.mine.points
      by (Some d) = refl
      by None = left-others (with_changed_ref name with_failed_read s).mine.points
          (with_changed_ref-same name with_failed_read s).points

-- what one actor asks leaves the read point of another
pub asked-others : (m n : ℕ) (ask : AskData) (v : AnswerData) (s : Store) → m ≢ n
    → (performed s (call_of n ask)).told ≡ Some v
    → part_under m (performed s (call_of n ask)).store.mine.points ≡ part_under m s.mine.points
asked-others m n (exchange.new_ref d least most) v s apart told = refl
asked-others m n begin v s apart told = begin-others m n s apart (part_under n s.mine.points)
asked-others m n (read name) v s apart told =
    read-others m n s apart name (part_under n s.mine.points) (ref_named name s)
asked-others m n (exchange.history name) v s apart told = refl
asked-others m n (exchange.min_history name None) v s apart told = refl
asked-others m n (exchange.min_history name (Some k)) v s apart told =
    ap (λ es. part_under m es) (bound-points name name.owner (with_least k) s (ref_named name s))
asked-others m n (exchange.max_history name None) v s apart told = refl
asked-others m n (exchange.max_history name (Some k)) v s apart told =
    ap (λ es. part_under m es) (bound-points name name.owner (with_most k) s (ref_named name s))
asked-others m n (exchange.commit intent) v s apart told =
    ap (λ es. part_under m es) (commit-told s n intent v (sym told))
    ∙ left-others m n s apart s.mine.points refl
asked-others m n (exchange.may_send x) v s apart told =
    ap (λ (kept : Store). part_under m kept.mine.points) (send-stays n s)
asked-others m n _ v s apart told = refl

-- Of the actor itself

-- the attempt goes on, and what a shared ref told is of its point
pub record GoesOn (w : World) (ask : AskData) (v : AnswerData) (o p : Option ℕ) : Type 0 where
  pub point : ℕ
  pub began : o ≡ Some point
  pub stays : p ≡ Some point
  pub within : is_within ask ≡ true
  pub told : IsToldBy (told_at point w) (exchange_from ask v)

-- No attempt is left, or one begins, or that which runs goes on.
abbrev pub PointAfter : World → AskData → AnswerData → Option ℕ → Option ℕ → Type 0
PointAfter w ask v o p =
    (p ≡ None) ⊎ (((ask ≡ begin) × (v ≡ exchange.done) × (p ≡ Some w.around.counter))
    ⊎ GoesOn w ask v o p)

pub is-shared : (o : OwnerData) → is_shared o ≡ true → o ≡ shared
is-shared shared e = refl
is-shared (tenant t) e = absurd (true≢false (sym e))

bound-is : (bound : Ref → ℕ) (o : Option Ref) (told : AnswerData)
    → option_map (λ r. number_told (bound r)) o ≡ Some told → told ≡ bound_told bound o
bound-is bound None told e = absurd (none-some told e)
bound-is bound (Some r) told e = sym (some-same (number_told (bound r)) told e)

never-set : (name : RefNameData) (f : Ref → Ref) (s : Store) (r : Option Ref) (told : AnswerData)
    → (performed_bound_set name shared f s r).told ≡ Some told → ⊥
never-set name f s None told e = none-some told e
never-set name f s (Some r) told e = none-some told e

module _ (w : World) (t seat : ℕ) (kept : TenantData) (there : open_in t w ≡ Some kept) where
  abbrev s : Store
  s = store_in w.around t kept.mine

  abbrev After : AskData → AnswerData → List (Entry ℕ) → Type 0
  After ask v points =
      PointAfter w ask v (part_under seat kept.mine.points) (part_under seat points)

  left-point : (ask : AskData) (v : AnswerData) (points : List (Entry ℕ))
      → points ≡ without seat kept.mine.points → After ask v points
  left-point ask v points is =
      inl (ap (λ es. part_under seat es) is ∙ gone seat kept.mine.points)

  -- the points are as they were
  still : (ask : AskData) (v : AnswerData) (points : List (Entry ℕ)) → points ≡ kept.mine.points
      → is_within ask ≡ true
      → ((point : ℕ) → part_under seat kept.mine.points ≡ Some point
      → IsToldBy (told_at point w) (exchange_from ask v)) → After ask v points
  still ask v points same within tells = by (part_under seat kept.mine.points) refl
    where
      as_was : part_under seat points ≡ part_under seat kept.mine.points
      as_was = ap (λ es. part_under seat es) same

      by : (o : Option ℕ) → part_under seat kept.mine.points ≡ o → After ask v points
      by None is = inl (as_was ∙ is)
      by (Some point) is = inr (inr (record {
        point = point;
        began = is;
        stays = as_was ∙ is;
        within = within;
        told = tells point is;
      }))

  -- an ask that names no shared ref
  own : (ask : AskData) (v : AnswerData) (points : List (Entry ℕ)) → points ≡ kept.mine.points
      → is_within ask ≡ true → names_shared ask ≡ false → After ask v points
  own ask v points same within names_none = still ask v points same within
      (λ point is names. absurd (true≢false (sym names ∙ names_none)))

  begin-point : (told : AnswerData) (o : Option ℕ)
      → (performed_begin seat s o).told ≡ Some told
      → After begin told (performed_begin seat s o).store.mine.points
  begin-point told (Some point) e = absurd (none-some told e)
  begin-point told None e = inr (inl (
    refl,
    sym (some-same exchange.done told e),
    ap (λ (b : Bool). if b then Some w.around.counter else part_under seat kept.mine.points)
        (eq-eqb seat seat refl),
  ))

  read-point : (name : RefNameData) (told : AnswerData) (o : Option ℕ)
      → part_under seat kept.mine.points ≡ o → (r : Option Ref) → ref_named name s ≡ r
      → (read_by seat name s o r).told ≡ Some told
      → After (read name) told (read_by seat name s o r).store.mine.points
  read-point name told o is None none e = absurd (none-some told e)
  read-point name told None is (Some r) r_is e = inl is
  read-point name told (Some point) is (Some r) r_is e = by (readable point r) refl e
    where
      by : (d : Option Datum) → readable point r ≡ d → (read_at seat name s d).told ≡ Some told
          → After (read name) told (read_at seat name s d).store.mine.points
      by None lost e = left-point (read name) told _
          (ap (without seat) (with_changed_ref-same name with_failed_read s).points)
      by (Some d) is_kept e =
          let near : ref_in_world name w ≡ Some r =
          ref-near name w t kept there (ap is_some r_is) ∙ r_is in
          let held : held_at point (ref_in_world name w) ≡ Some d =
          ap (held_at point) near ∙ kept-held point (r.kept + 1) r.versions d is_kept in
          inr (inr (record {
            point = point;
            began = is;
            stays = is;
            within = refl;
            told = λ names. inl (sym (some-same (reading (found d)) told e)
                ∙ sym (ap (λ x. reading (reading_of x)) held));
          }))

  -- in an attempt a shared ref's history is not told
  count-point : (name : RefNameData) (told : AnswerData)
      → count_told name.owner (part_under seat kept.mine.points) (ref_named name s) ≡ Some told
      → After (exchange.history name) told kept.mine.points
  count-point name told e = still (exchange.history name) told kept.mine.points refl refl
      (λ point is names. absurd (none-some told
      (ap (λ p. count_told shared p (ref_named name s)) (sym is)
      ∙ ap (λ o. count_told o (part_under seat kept.mine.points) (ref_named name s))
      (sym (is-shared name.owner names)) ∙ e)))

  -- nobody changes its bounds, and they are told
  bound-told : (bound : Ref → ℕ) (name : RefNameData) (told : AnswerData)
      → option_map (λ r. number_told (bound r)) (ref_named name s) ≡ Some told
      → is_shared name.owner ≡ true → told ≡ bound_told bound (ref_in_world name w)
  bound-told bound name told e names =
      let same = is-shared name.owner names in
      bound-is bound (ref_named name s) told e
      ∙ ap (λ o. bound_told bound (ref_of o name.number s)) same
      ∙ sym (ap (λ o. bound_told bound (slice_get (refs_in o w) name.number)) same)

  bound-unset : (f : Ref → Ref) (name : RefNameData) (told : AnswerData)
      → (performed_bound_set name name.owner f s (ref_named name s)).told ≡ Some told
      → is_shared name.owner ≡ true → ⊥
  bound-unset f name told e names = never-set name f s (ref_named name s) told
      (ap (λ o. (performed_bound_set name o f s (ref_named name s)).told)
      (sym (is-shared name.owner names)) ∙ e)

  pub asked-point : (g : Ground) (a : Actor) (ask : AskData) (told : AnswerData)
      → (performed s (call_of seat ask)).told ≡ Some told
      → PointAfter w ask (answer_to g a kept.state ask told) (part_under seat kept.mine.points)
      (part_under seat (performed s (call_of seat ask)).store.mine.points)
  asked-point g a begin told e = begin-point told (part_under seat kept.mine.points) e
  asked-point g a (read name) told e =
      read-point name told (part_under seat kept.mine.points) refl (ref_named name s) refl e
  asked-point g a (exchange.commit intent) told e =
      left-point (exchange.commit intent) told _ (commit-told s seat intent told (sym e))
  asked-point g a (exchange.history name) told e = count-point name told e
  asked-point g a (exchange.min_history name None) told e =
      still (exchange.min_history name None) told kept.mine.points refl refl
      (λ point is names. inl (bound-told (λ r. r.least) name told e names))
  asked-point g a (exchange.max_history name None) told e =
      still (exchange.max_history name None) told kept.mine.points refl refl
      (λ point is names. inl (bound-told (λ r. r.most) name told e names))
  asked-point g a (exchange.min_history name (Some k)) told e =
      still (exchange.min_history name (Some k)) told _
      (bound-points name name.owner (with_least k) s (ref_named name s)) refl
      (λ point is names. absurd (bound-unset (with_least k) name told e names))
  asked-point g a (exchange.max_history name (Some k)) told e =
      still (exchange.max_history name (Some k)) told _
      (bound-points name name.owner (with_most k) s (ref_named name s)) refl
      (λ point is names. absurd (bound-unset (with_most k) name told e names))
  asked-point g a (exchange.may_send x) told e = own (exchange.may_send x) _ _
      (ap (λ (kept : Store). kept.mine.points) (send-stays seat s)) refl refl
  asked-point g a ask told e = own ask _ kept.mine.points refl refl refl
