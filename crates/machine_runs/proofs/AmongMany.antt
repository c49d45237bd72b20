-- A tenant that is served alone is the first of a server.
use Rattle.std.proofs.Common.{◌≡◌, ℕ, ◌==◌, ◌≤◌, List, [], ◌∷◌, ◌++◌, map, Bool, true, false, nat_le}
use Rattle.std.proofs.Common.{Some, refl, sym, ap, ap₂, ◌∙◌, subst, arith, if◌then◌else◌}
use Rattle.std.proofs.lemmas.Bool.Decides.{nat_tests}
use Rattle.server_rules.specs.Ground.{Ground}
use Rattle.ref_table.specs.Numbered.{entry}
use Rattle.server_rules.specs.Plan.{Deed, Outcome, refuses, leaves, tenant_opened, bytes_in}
use Rattle.server_rules.specs.Machine.Turns.{turn_step, world_after, given, serve, bytes_given, whose}
use Rattle.server_rules.specs.Machine.World.{TenantData, World, Stepped, accepted, refused, step}
use Rattle.server_rules.specs.Machine.World.{opens, does, opened_world, opened_tenant, world_or}
use Rattle.server_rules.specs.Machine.World.{with_tenant, ended_as}
use Rattle.server_rules.specs.DeedResult.{DeedResult}
use Rattle.server_rules.specs.LoneTurns as lone
use Rattle.server_rules.specs.LoneTurns.{LoneTurn, LoneTenant, hears, goes, drains, deed_of, lone_step}
use Rattle.server_rules.specs.LoneTurns.{lone_ended, lone_or, lone_after, lone_served, reply_taken}
use Rattle.server_rules.specs.LoneTurns.{opened_lone}
use Rattle.repl_core.specs.Standing.{open_in, store_in}
use Rattle.repl_core.proofs.Worlds.{step-deed}
use Rattle.repl_core.proofs.Places.{open-mine}
use Rattle.repl_core.proofs.Behind.{deed_result-tenant}
use Rattle.repl_core.proofs.Comings.{open-tested}
use Rattle.repl_core.proofs.Honest.{honest_deed-turn}
use Rattle.machine_runs.specs.AmongMany.{turn_of}
use Rattle.machine_runs.specs.Inside.Standing.{tenant_data_of}
use Rattle.machine_runs.proofs.Behind.{deeded_in, turn-so, seen-behind}

record IsFirst (w : World) (l : LoneTenant) : Type 0 where
  pub there : open_in 0 w ≡ Some (tenant_data_of l)
  pub store : l.store ≡ store_in w.around 0 l.store.mine

-- A turn

turn-deed : (g : Ground) (w : World) (l : LoneTenant) (turn : LoneTurn) → IsFirst w l
    → turn_step g w (turn_of turn) ≡ step g w (does 0 (deed_of g l turn))
turn-deed g w l (hears piece) is = refl
turn-deed g w l (goes a) is = honest_deed-turn g w 0 a (tenant_data_of l) is.there
turn-deed g w l drains is = refl

record TurnsAlike (g : Ground) (w : World) (l : LoneTenant) (turn : LoneTurn) : Type 0 where
  pub gives : bytes_given (turn_step g w (turn_of turn)) ≡ reply_taken (lone_step g l turn)
  pub first : IsFirst (world_after g w (turn_of turn)) (lone_after g l turn)

alike-so : (g : Ground) (w after : World) (l it : LoneTenant) (turn : LoneTurn)
    → bytes_given (turn_step g w (turn_of turn)) ≡ reply_taken (lone_step g l turn)
    → world_after g w (turn_of turn) ≡ after → lone_after g l turn ≡ it → IsFirst after it
    → TurnsAlike g w l turn
alike-so g w after l it turn gives world tenant is = record {
  gives = gives;
  first = subst (λ (v : World). IsFirst v (lone_after g l turn)) (sym world)
      (subst (IsFirst after) (sym tenant) is);
}

alike-turn : (g : Ground) (w : World) (l : LoneTenant) (turn : LoneTurn) → IsFirst w l
    → TurnsAlike g w l turn
alike-turn g w l turn is = by e.outcome refl
  where
    d : Deed
    d = deed_of g l turn

    e : DeedResult
    e = deeded_in g w l d

    many : turn_step g w (turn_of turn) ≡ ended_as w 0 e.store e.outcome
    many = turn-deed g w l turn is ∙ step-deed g w 0 d (tenant_data_of l) is.there

    one : lone_step g l turn ≡ lone_ended e.store e.outcome
    one = turn-so g w l turn d is.store refl

    by : (o : Outcome) → e.outcome ≡ o → TurnsAlike g w l turn
    by (refuses why) out =
        let all : turn_step g w (turn_of turn) ≡ refused why = many ∙ ap (ended_as w 0 e.store) out in
        let it : lone_step g l turn ≡ lone.refused why = one ∙ ap (lone_ended e.store) out in
        alike-so g w w l l turn (ap bytes_given all ∙ sym (ap reply_taken it))
        (ap (world_or w) all) (ap (lone_or l) it) is
    by (leaves q x) out =
        let part : TenantData = record { state = q; mine = e.store.mine } in
        let after : World = with_tenant 0 (Some part) e.store.around w in
        let behind : LoneTenant = record { state = q; store = e.store } in
        let all : turn_step g w (turn_of turn) ≡ accepted after x =
        many ∙ ap (ended_as w 0 e.store) out in
        let it : lone_step g l turn ≡ lone.accepted behind (bytes_in x) =
        one ∙ ap (lone_ended e.store) out in
        alike-so g w after l behind turn (ap bytes_given all ∙ sym (ap reply_taken it))
        (ap (world_or w) all) (ap (lone_or l) it) (record {
          there = open-mine w e.store.around 0 (Some part) (tenant_data_of l) is.there;
          store = seen-behind after.around e.store refl
              (deed_result-tenant g (store_in w.around 0 l.store.mine) l.state d);
        })

-- All turns

whose-first : (turn : LoneTurn) → (0 == whose (turn_of turn)) ≡ true
whose-first (hears piece) = refl
whose-first (goes a) = refl
whose-first drains = refl

served-alike : (g : Ground) (w : World) (l : LoneTenant) (turns : List LoneTurn) → IsFirst w l
    → serve g w (map turn_of turns) 0 ≡ lone_served g l turns
served-alike g w l [] is = refl
served-alike g w l (turn ∷ turns) is =
    let alike = alike-turn g w l turn is in
    let given_now = bytes_given (turn_step g w (turn_of turn)) in
    let behind = serve g (world_after g w (turn_of turn)) (map turn_of turns) 0 in
    ap (λ (b : Bool). (if b then given_now else []) ++ behind) (whose-first turn)
    ∙ ap₂ (λ (a b : List ℕ). a ++ b) alike.gives
    (served-alike g (world_after g w (turn_of turn)) (lone_after g l turn) turns alike.first)

none-below : (n : ℕ) → 1 ≤ n → nat_le n 0 ≡ false
none-below n some = grind (arith, nat_tests)

pub served-first : (g : Ground) (turns : List LoneTurn) → 1 ≤ g.places
    → serve g (opened_world g) (given (opens 0) ∷ map turn_of turns) 0
    ≡ lone_served g (opened_lone g) turns
served-first g turns some =
    let first : World = record {
      around = (opened_world g).around;
      tenants = entry 0 (Some (opened_tenant g)) ∷ [];
    } in
    let opened : step g (opened_world g) (opens 0) ≡ accepted first tenant_opened =
    open-tested g (opened_world g) 0 false false refl (none-below g.places some) in
    ap (λ (s : Stepped). bytes_given s ++ serve g (world_or (opened_world g) s) (map turn_of turns) 0)
    opened
    ∙ served-alike g first (opened_lone g) turns (record { there = refl; store = refl })
