-- When two attempts at one `dosync`, in whatever runs of a server, see the same.
use Rattle.std.specs.Prelude.{◌≡◌, ℕ, List, Bool, true, false}
use Rattle.std.specs.List.{list_any}
use Rattle.repl_asks.specs.Transactions.{RefNameData, same_name}
use Rattle.repl_asks.specs.Exchange.{AskData, Exchanged, read, history, min_history, max_history}
use Rattle.repl_walker.specs.Agreeing.{own_answers, OneBegins}
use Rattle.repl_walker.specs.Attempts.{answers_in}
use Rattle.repl_walker.specs.Values.{values_after}
use Rattle.server_rules.specs.Ground.{Ground}
use Rattle.server_rules.specs.Machine.World.{World, Step, opened_world, run}
use Rattle.server_rules.specs.declared.actor.Actor.{Actor}
use Rattle.repl_core.specs.Commits.{ref_in_world}
use Rattle.repl_core.specs.Points.{held_at, shared_ref}
use Rattle.repl_core.specs.AttemptsUnderWay.{UnderWay}
use Rattle.repl_core.specs.DosyncSettings.{DosyncSetting, body_in, IsAttemptAt}
use Rattle.repl_core.specs.HonestRuns.{AreHonest}

-- whether an ask names the ref: in a body none commits
abbrev pub names_ref : RefNameData → AskData → Bool
names_ref name (read other) = same_name name other
names_ref name (history other) = same_name name other
names_ref name (min_history other set) = same_name name other
names_ref name (max_history other set) = same_name name other
names_ref name ask = false

abbrev pub is_named_in : List Exchanged → RefNameData → Bool
is_named_in xs name = list_any (λ x. names_ref name x.ask) xs

-- each shared ref that both traces name held the same at both points
abbrev pub HeldTheSame : World → ℕ → List Exchanged → World → ℕ → List Exchanged → Type 0
HeldTheSame w point xs v other ys =
    (number : ℕ) → is_named_in xs (shared_ref number) ≡ true
    → is_named_in ys (shared_ref number) ≡ true
    → held_at point (ref_in_world (shared_ref number) w)
    ≡ held_at other (ref_in_world (shared_ref number) v)

-- An attempt under way in each of two servers, both at one `dosync` with the same setting, whatever
-- was printed before. Where their own answers are equal one by one as far as both have one, and
-- each shared ref that both name held the same at the two read points, the values that one saw
-- begin those that the other saw.
abbrev pub AttemptsAgree : Ground → World → ℕ → Actor → World → ℕ → Actor → Type 0
AttemptsAgree g w t a v u b =
    (d : DosyncSetting) (printed other : List ℕ) (x : UnderWay w t a) (y : UnderWay v u b)
    → IsAttemptAt g x.form x.before d printed → IsAttemptAt g y.form y.before d other
    → OneBegins (own_answers x.since) (own_answers y.since)
    → HeldTheSame w x.point x.since v y.point y.since
    → OneBegins (values_after printed (body_in d) (answers_in x.since))
    (values_after other (body_in d) (answers_in y.since))

-- so it is in any two runs of one server, by whatever steps of whatever tenants, of actors that
-- were honest
abbrev pub AttemptsInRunsAgree : Type 0
AttemptsInRunsAgree =
    (g : Ground) (steps other_steps : List Step) (t u : ℕ) (a b : Actor)
    → let start = opened_world g in
    AreHonest g start t a steps → AreHonest g start u b other_steps
    → AttemptsAgree g (run g start steps) t a (run g start other_steps) u b
