-- What was written of rounds where an error ends them.
use Rattle.std.proofs.Common.{◌≡◌, ℕ, List, [], ◌++◌, Bool, false, refl, sym, ap, ◌∙◌, append_assoc}
use Rattle.std.proofs.Common.{Option}
use Rattle.std.proofs.KnownBytes.{Appends-nil, Appends-trans}
use Rattle.server_rules.specs.Ground.{Ground}
use Rattle.server_rules.specs.LoneTurns.{LoneTenant, lone_run, lone_served}
use Rattle.nrepl_pipe.specs.Schedule.{drain_all, round}
use Rattle.nrepl_pipe.specs.Inside.Parts.{Begins, BeginsRounds}
use Rattle.nrepl_pipe.proofs.Turns.{lone_served-append}
use Rattle.nrepl_pipe.proofs.EachRound.{gone, lone_served-round}
use Rattle.nrepl_pipe.proofs.Lasting.{rounds-exist, rounds-front}
use Rattle.nrepl_pipe.proofs.Rounding.{RoundsOn}

-- nothing was written
pub round-stopped : (g : Ground) (q : LoneTenant) (held : Option (List ℕ))
    → Begins g q (round g q) held held
round-stopped g q held = record {
  written = [];
  more = lone_served g q (round g q);
  appends = Appends-nil held;
  begins = refl;
}

-- a part of the replies was written
pub round-broken : (g : Ground) (q : LoneTenant) (held holds : Option (List ℕ))
    → Begins g (gone g q) (drain_all (gone g q).state.replies) held holds
    → Begins g q (round g q) held holds
round-broken g q held holds drained = record {
  written = drained.written;
  more = drained.more;
  appends = drained.appends;
  begins = lone_served-round g q ∙ drained.begins;
}

-- a part of the first round was written
pub rounds-begun : (g : Ground) (q : LoneTenant) (held holds : Option (List ℕ))
    → Begins g q (round g q) held holds → BeginsRounds g q held holds
rounds-begun g q held holds begun =
    let all = rounds-exist g q in
    let front = rounds-front g q all.0 all.1 in
    let later = lone_served g (lone_run g q (round g q)) front.0 in (
      all.0,
      all.1,
      record {
        written = begun.written;
        more = begun.more ++ later;
        appends = begun.appends;
        begins =
            ap (lone_served g q) front.1 ∙ lone_served-append g q (round g q) front.0
            ∙ ap (λ (bytes : List ℕ). bytes ++ later) begun.begins
            ∙ append_assoc begun.written begun.more later;
      },
    )

-- a part of the next round was written
pub rounds-broken : (g : Ground) (Old : LoneTenant → Type 0) (q : LoneTenant) (is_last is_worn : Bool)
    (held holds grown : Option (List ℕ)) (on : RoundsOn g Old q is_last is_worn held holds)
    → is_last ≡ false → Begins g (lone_run g q on.turns) (round g (lone_run g q on.turns)) holds grown
    → BeginsRounds g q held grown
rounds-broken g Old q is_last is_worn held holds grown on follows begun =
    let now = lone_run g q on.turns in
    let behind = rounds-begun g now holds grown begun in (
      on.turns ++ behind.0,
      on.closes follows behind.0 behind.1,
      record {
        written = lone_served g q on.turns ++ behind.2.written;
        more = behind.2.more;
        appends = Appends-trans held holds grown (lone_served g q on.turns) behind.2.written
            on.makes.appends behind.2.appends;
        begins =
            lone_served-append g q on.turns behind.0
            ∙ ap (λ (bytes : List ℕ). lone_served g q on.turns ++ bytes) behind.2.begins
            ∙ sym (append_assoc (lone_served g q on.turns) behind.2.written behind.2.more);
      },
    )
