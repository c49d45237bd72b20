-- The table of refs goes on serving a tenant.
use Rattle.std.proofs.Common.{◌≡◌, ℕ, List, Bool, if◌then◌else◌, Option, None, refl, sym, ap, ◌∙◌}
use Rattle.std.proofs.Common.{subst}
use mathlib.Core.Path.{fun_ext}
use Rattle.std.proofs.lemmas.Bool.{eq-eqb}
use Rattle.value_data.specs.Datum.{OwnerData, tenant}
use Rattle.repl_asks.specs.Exchange.{AnswerData}
use Rattle.ref_table.specs.Numbered.{Entry, without}
use Rattle.ref_history.specs.Versioned.{Ref}
use Rattle.ref_table.specs.Store.{Store, left_attempt}
use Rattle.ref_table.specs.Performed.{Performed, as_was}
use Rattle.ref_table.specs.Calls.{StoreCall, performed}
use Rattle.ref_history.specs.RingHistories.{RingStands}
use Rattle.ref_table.specs.Refs.{TableRefs, store_of, refs_after}
use Rattle.ref_table.specs.Standing as refs
use Rattle.ref_table.specs.Told.{Performs}
use Rattle.ref_table.proofs.Seen.{owned-seen}
use Rattle.tenant_parts.specs.Attempts.{ArePoints, Reaches}
use Rattle.tenant_parts.specs.Serving.{RingRefTable, ServesWithAttempts, PerformsCall}
use Rattle.tenant_parts.specs.declared.attempts.Attempts.{Attempts}
use Rattle.tenant_parts.proofs.Calls.{performed-tenant, untold-stays}
use Rattle.tenant_parts.proofs.Soundness.{MayBe, performed-sound, reaches-sound, refs_after-sound}

-- what a tenant sees of the refs, once it sees this
pub sees-refs_after : (s : Store) (r : TableRefs) → s ≡ store_of s.tenant s.mine.points (refs_after s r)
sees-refs_after s r =
    let seen : Bool → Store = λ b. record {
      around = s.around;
      tenant = s.tenant;
      mine = record {
        refs = if b then s.mine.refs else r.owned (tenant s.tenant);
        points = s.mine.points;
      };
    } in
    ap seen (sym (eq-eqb s.tenant s.tenant refl))

-- it adds nothing
refs_after-store : (caller : ℕ) (points : List (Entry ℕ)) (r : TableRefs) → refs_after (store_of caller points r) r ≡ r
refs_after-store caller points r =
    let with_owned : (OwnerData → List Ref) → TableRefs = λ owned.
    record { counter = r.counter; owned = owned } in
    ap with_owned (fun_ext (owned-seen caller r.owned))

pub refs_after-seen : (s : Store) (r : TableRefs) → s ≡ store_of s.tenant s.mine.points r → refs_after s r ≡ r
refs_after-seen s r is =
    ap (λ x. refs_after x r) is ∙ refs_after-store s.tenant s.mine.points r

pub seen-so : (table : RingRefTable) (attempts : Attempts) (s : Store) (r : TableRefs)
    → ServesWithAttempts table attempts s r → store_of attempts.tenant s.mine.points r ≡ s
seen-so table attempts s r holds =
    ap (λ t. store_of t s.mine.points r) holds.reaches.tenant ∙ sym holds.serves.reached

-- What a call comes to

-- the table did what the rules say for what it sees of this tenant
pub performs-so : (new : RingRefTable) (old : RingRefTable) (attempts : Attempts) (s : Store) (r : TableRefs)
    (answer : Option AnswerData) (call : StoreCall) → ServesWithAttempts old attempts s r
    → Performs RingStands new r answer
    (performed (store_of attempts.tenant s.mine.points r) call)
    → Performs RingStands new r answer (performed s call)
performs-so new old attempts s r answer call holds told =
    subst (λ x. Performs RingStands new r answer (performed x call))
    (seen-so old attempts s r holds) told

pub comes-with : (new old : RingRefTable) (attempts later : Attempts) (s : Store) (r : TableRefs)
    (answer : Option AnswerData) (call : StoreCall) → ServesWithAttempts old attempts s r
    → Performs RingStands new r answer
    (performed (store_of attempts.tenant s.mine.points r) call)
    → later.tenant ≡ attempts.tenant → ArePoints later (performed s call).store.mine.points
    → PerformsCall new later r answer (performed s call)
comes-with new old attempts later s r answer call holds told same points = record {
  called = performs-so new old attempts s r answer call holds told;
  reaches = record {
    tenant = same ∙ holds.reaches.tenant ∙ sym (performed-tenant s call);
    points = points;
  };
}

-- the attempts stay
pub comes-still : (new old : RingRefTable) (attempts : Attempts) (s : Store) (r : TableRefs)
    (answer : Option AnswerData) (call : StoreCall) → ServesWithAttempts old attempts s r
    → Performs RingStands new r answer
    (performed (store_of attempts.tenant s.mine.points r) call)
    → (performed s call).store.mine.points ≡ s.mine.points
    → PerformsCall new attempts r answer (performed s call)
comes-still new old attempts s r answer call holds told same =
    comes-with new old attempts attempts s r answer call holds told refl
    (subst (ArePoints attempts) (sym same) holds.reaches.points)

-- the attempt is over
pub comes-left : (new old : RingRefTable) (attempts later : Attempts) (seat : ℕ) (s : Store) (r : TableRefs)
    (answer : Option AnswerData) (call : StoreCall) → ServesWithAttempts old attempts s r
    → Performs RingStands new r answer
    (performed (store_of attempts.tenant s.mine.points r) call)
    → (performed s call).store.mine.points ≡ without seat s.mine.points
    → later.tenant ≡ attempts.tenant
    → ((points : List (Entry ℕ)) → ArePoints attempts points → ArePoints later (without seat points))
    → PerformsCall new later r answer (performed s call)
comes-left new old attempts later seat s r answer call holds told is same left =
    comes-with new old attempts later s r answer call holds told same
    (subst (ArePoints later) (sym is) (left s.mine.points holds.reaches.points))

-- nothing is told, and all stays
pub comes-untold : (new old : RingRefTable) (attempts : Attempts) (s : Store) (r : TableRefs) (call : StoreCall)
    → ServesWithAttempts old attempts s r
    → Performs RingStands new r None
    (performed (store_of attempts.tenant s.mine.points r) call)
    → PerformsCall new attempts r None (performed s call)
comes-untold new old attempts s r call holds told =
    let none = (performs-so new old attempts s r None call holds told).told in
    comes-still new old attempts s r None call holds told
    (ap (λ x. x.mine.points) (untold-stays s call none))

-- all stays, and this is told
pub comes-told : (table : RingRefTable) (attempts : Attempts) (s : Store) (r : TableRefs)
    (answer : Option AnswerData) (p : Performed Store) → ServesWithAttempts table attempts s r
    → p ≡ as_was s answer → PerformsCall table attempts r answer p
comes-told table attempts s r answer p holds is =
    subst (PerformsCall table attempts r answer) (sym is) (record {
      called = record {
        told = refl;
        left = subst (refs.TableStands RingStands table)
            (sym (refs_after-seen s r holds.serves.reached)) holds.serves.stands;
      };
      reaches = holds.reaches;
    })

-- nothing became of it
pub holds-still : (new old : RingRefTable) (attempts later : Attempts) (s : Store) (r : TableRefs)
    (answer : Option AnswerData) (p : Performed Store) → ServesWithAttempts old attempts s r
    → Performs RingStands new r answer p → p.store ≡ s → later ≡ attempts
    → ServesWithAttempts new later s r
holds-still new old attempts later s r answer p holds told same is = record {
  serves = record {
    stands = subst (refs.TableStands RingStands new)
        (ap (λ x. refs_after x r) same ∙ refs_after-seen s r holds.serves.reached) told.left;
    sound = holds.serves.sound;
    reached = holds.serves.reached;
  };
  reaches = subst (λ x. Reaches x s) (sym is) holds.reaches;
}

-- an attempt that would be over goes on
pub holds-unended : (new old : RingRefTable) (attempts : Attempts) (seat : ℕ) (s : Store) (r : TableRefs)
    (answer : Option AnswerData) (p : Performed Store) → ServesWithAttempts old attempts s r
    → Performs RingStands new r answer p → p.store ≡ left_attempt seat s
    → ServesWithAttempts new attempts s r
holds-unended new old attempts seat s r answer p holds told left = record {
  serves = record {
    stands = subst (refs.TableStands RingStands new)
        (ap (λ x. refs_after x r) left ∙ refs_after-seen s r holds.serves.reached) told.left;
    sound = holds.serves.sound;
    reached = holds.serves.reached;
  };
  reaches = holds.reaches;
}

pub holds-new : (new old : RingRefTable) (attempts : Attempts) (s : Store) (r : TableRefs)
    → ServesWithAttempts old attempts s r → refs.TableStands RingStands new r → ServesWithAttempts new attempts s r
holds-new new old attempts s r holds stands = record {
  serves = record {
    stands = stands;
    sound = holds.serves.sound;
    reached = holds.serves.reached;
  };
  reaches = holds.reaches;
}

-- what a call leaves
pub holds-refs_after : (new old : RingRefTable) (attempts later : Attempts) (s : Store) (r : TableRefs)
    (answer : Option AnswerData) (call : StoreCall) → ServesWithAttempts old attempts s r → MayBe call
    → PerformsCall new later r answer (performed s call)
    → ServesWithAttempts new later (performed s call).store (refs_after (performed s call).store r)
holds-refs_after new old attempts later s r answer call holds may comes =
    let behind = (performed s call).store in
    let sound = performed-sound s call may
    (reaches-sound s.tenant s r holds.serves.reached holds.serves.sound) in
    record {
      serves = record {
        stands = comes.called.left;
        sound = refs_after-sound behind r sound holds.serves.sound;
        reached = sees-refs_after behind r;
      };
      reaches = comes.reaches;
    }

-- an attempt is over
pub holds-left : (table : RingRefTable) (attempts later : Attempts) (seat : ℕ) (s : Store) (r : TableRefs)
    → ServesWithAttempts table attempts s r → later.tenant ≡ attempts.tenant
    → ArePoints later (left_attempt seat s).mine.points
    → ServesWithAttempts table later (left_attempt seat s) (refs_after (left_attempt seat s) r)
holds-left table attempts later seat s r holds same points = record {
  serves = record {
    stands = subst (refs.TableStands RingStands table)
        (sym (refs_after-seen s r holds.serves.reached)) holds.serves.stands;
    sound = refs_after-sound (left_attempt seat s) r
        (reaches-sound s.tenant s r holds.serves.reached holds.serves.sound) holds.serves.sound;
    reached = sees-refs_after (left_attempt seat s) r;
  };
  reaches = record { tenant = same ∙ holds.reaches.tenant; points = points };
}
