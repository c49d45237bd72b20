-- The pieces served so far, and the schedule that they begin.
use Rattle.std.proofs.Common.{◌≡◌, ◌≢◌, ℕ, inl, inr, List, [], ◌∷◌, ◌++◌, refl, sym, ap, ◌∙◌, subst}
use Rattle.std.proofs.Common.{append_assoc, append-nil, Option, None}
use Rattle.std.specs.Io.KnownBytes.{Consumes, Appends}
use Rattle.std.proofs.KnownBytes.{Appends-nil, Appends-trans, Consumes-nil, Consumes-trans}
use Rattle.bencode_wire.specs.Spelling.{spellings_joined}
use Rattle.server_rules.specs.Ground.{Ground}
use Rattle.server_rules.specs.Hearing.{stream_fault}
use Rattle.server_rules.specs.declared.refusal.Refusal.{Refusal}
use Rattle.server_rules.specs.Grounds.{IsRight}
use Rattle.server_rules.specs.LoneTurns.{LoneTenant, LoneTurn, hears, refused, lone_step, reply_taken}
use Rattle.server_rules.specs.LoneTurns.{lone_after, lone_run, lone_served}
use Rattle.nrepl_pipe.specs.Schedule.{ArePieces, AreRounds, MeetsWorn, IsSchedule}
use Rattle.nrepl_pipe.specs.Inside.Fresh.{IsFresh}
use Rattle.nrepl_pipe.specs.Inside.Parts.{IsPiece, MakesRounds}
use Rattle.nrepl_pipe.specs.declared.rounds.Rounds.{Rounds}
use Rattle.nrepl_pipe.proofs.Turns.{lone_run-append, lone_served-append, meets-neither}
use Rattle.nrepl_pipe.proofs.Hearing.{TakesIn}
use Rattle.nrepl_pipe.proofs.Messages.{fresh-clean}
use Rattle.nrepl_pipe.proofs.Lasting.{rounds-empty, rounds-heard}

-- Pieces and schedules

pub pieces-append : (pieces : List (List ℕ)) (piece : List ℕ) → ArePieces pieces → IsPiece piece
    → ArePieces (pieces ++ piece ∷ [])
pieces-append [] piece are is = (is.0, is.1, tt)
pieces-append (p ∷ pieces) piece are is = (are.0, are.1, pieces-append pieces piece are.2 is)

pub spellings_joined-append : (pieces : List (List ℕ)) (piece : List ℕ)
    → spellings_joined (pieces ++ piece ∷ []) ≡ spellings_joined pieces ++ piece
spellings_joined-append [] piece = append-nil piece
spellings_joined-append (p ∷ pieces) piece =
    ap (λ (bytes : List ℕ). p ++ bytes) (spellings_joined-append pieces piece)
    ∙ sym (append_assoc p (spellings_joined pieces) piece)

pub schedule-last : (g : Ground) (now : LoneTenant) (piece : List ℕ) (rounds : List LoneTurn)
    → AreRounds g (lone_after g now (hears piece)) rounds
    → IsSchedule g now (piece ∷ []) (hears piece ∷ rounds)
schedule-last g now piece rounds are = (
  rounds,
  [],
  are,
  λ (some : [] ≢ []). absurd (some refl),
  refl,
  sym (append-nil (hears piece ∷ rounds)),
)

-- So far

pub record Serving (g : Ground) (Stands : LoneTenant → Type 0) (q : LoneTenant)
    (unread left held holds : Option (List ℕ)) : Type 0 where
  pub pieces : List (List ℕ)
  pub turns : List LoneTurn
  pub are_pieces : ArePieces pieces
  pub consumes : Consumes unread left (spellings_joined pieces)
  pub appends : Appends held holds (lone_served g q turns)
  pub stands : Stands (lone_run g q turns)
  pub never_worn : MeetsWorn g q turns → ⊥
  pub no_fault : stream_fault g.readings (lone_run g q turns).state.heard ≡ None
  pub heard : (lone_run g q turns).state.heard ≡ spellings_joined pieces
  pub empty : (lone_run g q turns).state.replies ≡ []
  -- where the rest comes to from here, all comes to from the start
  pub closes : (more : List (List ℕ)) (behind : List LoneTurn)
      → IsSchedule g (lone_run g q turns) more behind
      → IsSchedule g q (pieces ++ more) (turns ++ behind)

pub serving-none : (g : Ground) (Stands : LoneTenant → Type 0) (q : LoneTenant)
    (unread held : Option (List ℕ)) → IsRight g → Stands q → IsFresh q
    → Serving g Stands q unread unread held held
serving-none g Stands q unread held right stands fresh = record {
  pieces = [];
  turns = [];
  are_pieces = tt;
  consumes = Consumes-nil unread;
  appends = Appends-nil held;
  stands = stands;
  never_worn = λ never. never;
  no_fault = fresh-clean g.readings q.state.heard right.readings fresh.0;
  heard = fresh.0;
  empty = fresh.1;
  closes = λ more behind schedule. schedule;
}

-- One more piece

pub consumes-more : (unread left less : Option (List ℕ)) (pieces : List (List ℕ)) (piece : List ℕ)
    → Consumes unread left (spellings_joined pieces) → Consumes left less piece
    → Consumes unread less (spellings_joined (pieces ++ piece ∷ []))
consumes-more unread left less pieces piece first second =
    subst (Consumes unread less) (sym (spellings_joined-append pieces piece))
    (Consumes-trans unread left less (spellings_joined pieces) piece first second)

pub lone_served-heard : (g : Ground) (now : LoneTenant) (piece : List ℕ) (rounds : List LoneTurn)
    → reply_taken (lone_step g now (hears piece)) ≡ []
    → lone_served g now (hears piece ∷ rounds) ≡ lone_served g (lone_after g now (hears piece)) rounds
lone_served-heard g now piece rounds gives =
    ap (λ (bytes : List ℕ). bytes ++ lone_served g (lone_after g now (hears piece)) rounds) gives

pub heard-never_worn : (g : Ground) (now : LoneTenant) (piece : List ℕ) (rounds : List LoneTurn)
    → lone_step g now (hears piece) ≢ refused Refusal.Worn
    → (MeetsWorn g (lone_after g now (hears piece)) rounds → ⊥)
    → MeetsWorn g now (hears piece ∷ rounds) → ⊥
heard-never_worn g now piece rounds not_worn never (inl here) = not_worn here
heard-never_worn g now piece rounds not_worn never (inr later) = never later

pub serving-more : (g : Ground) (Old Mid New : LoneTenant → Type 0) (q : LoneTenant)
    (unread left less held holds grown : Option (List ℕ)) (piece : List ℕ)
    (on : Serving g Old q unread left held holds) → IsPiece piece → Consumes left less piece
    → TakesIn g Mid (lone_run g q on.turns) piece
    → (made : MakesRounds g New (lone_after g (lone_run g q on.turns) (hears piece)) holds grown Rounds.Idle)
    → stream_fault g.readings (lone_run g (lone_after g (lone_run g q on.turns) (hears piece)) made.0).state.heard ≡ None
    → Serving g New q unread less held grown
serving-more g Old Mid New q unread left less held holds grown piece on is consumes taken made
    clean =
    let now = lone_run g q on.turns in
    let then_on = lone_after g now (hears piece) in
    let rounds = made.0 in
    let turns : List LoneTurn = hears piece ∷ rounds in
    let gone : lone_run g q (on.turns ++ turns) ≡ lone_run g then_on rounds = lone_run-append g q on.turns turns in
    let gives : lone_served g q (on.turns ++ turns) ≡ lone_served g q on.turns ++ lone_served g then_on rounds =
    lone_served-append g q on.turns turns
    ∙ ap (λ (bytes : List ℕ). lone_served g q on.turns ++ bytes)
    (lone_served-heard g now piece rounds taken.gives) in
    let never : MeetsWorn g now turns → ⊥ =
    heard-never_worn g now piece rounds taken.not_worn made.3 in
    record {
      pieces = on.pieces ++ piece ∷ [];
      turns = on.turns ++ turns;
      are_pieces = pieces-append on.pieces piece on.are_pieces is;
      consumes = consumes-more unread left less on.pieces piece on.consumes consumes;
      appends = subst (Appends held grown) (sym gives)
          (Appends-trans held holds grown (lone_served g q on.turns) (lone_served g then_on rounds)
          on.appends made.2.appends);
      stands = subst New (sym gone) made.2.stands;
      never_worn = meets-neither g q on.turns turns on.never_worn never;
      no_fault = ap (λ (v : LoneTenant). stream_fault g.readings v.state.heard) gone ∙ clean;
      heard =
          ap (λ (v : LoneTenant). v.state.heard) gone ∙ rounds-heard g then_on rounds made.1 ∙ taken.heard
          ∙ ap (λ (bytes : List ℕ). bytes ++ piece) on.heard ∙ sym (spellings_joined-append on.pieces piece);
      empty = ap (λ (v : LoneTenant). v.state.replies) gone ∙ rounds-empty g then_on rounds made.1;
      closes = λ (more : List (List ℕ)) (behind : List LoneTurn)
          (schedule : IsSchedule g (lone_run g q (on.turns ++ turns)) more behind).
          let later : IsSchedule g (lone_run g then_on rounds) more behind =
          subst (λ (v : LoneTenant). IsSchedule g v more behind) gone schedule in
          let all : IsSchedule g now (piece ∷ more) (turns ++ behind) =
          (rounds, behind, made.1, λ (some : more ≢ []). (never, clean), later, refl) in
          let whole : IsSchedule g q (on.pieces ++ piece ∷ more) (on.turns ++ (turns ++ behind)) =
          on.closes (piece ∷ more) (turns ++ behind) all in
          subst (λ (ps : List (List ℕ)). IsSchedule g q ps ((on.turns ++ turns) ++ behind))
          (sym (append_assoc on.pieces (piece ∷ []) more))
          (subst (IsSchedule g q (on.pieces ++ piece ∷ more))
          (sym (append_assoc on.turns turns behind)) whole);
    }
