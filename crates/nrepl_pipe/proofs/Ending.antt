-- How the serving of a stream ends.
use Rattle.std.proofs.Common.{◌≡◌, ℕ, ◌⊎◌, inl, inr, ◌==◌, List, [], ◌∷◌, ◌++◌, refl, sym, ap, ◌∙◌}
use Rattle.std.proofs.Common.{subst, append-nil, Option}
use Rattle.std.specs.Io.KnownBytes.{Consumes, Appends}
use Rattle.std.proofs.KnownBytes.{Appends-nil, Appends-trans, Consumes-trans}
use Rattle.bencode_wire.specs.Spelling.{spellings_joined}
use Rattle.server_rules.specs.Ground.{Ground}
use Rattle.server_rules.specs.declared.refusal.Refusal.{Refusal}
use Rattle.server_rules.specs.LoneTurns.{LoneTenant, LoneTurn, hears, refused, lone_step, lone_or}
use Rattle.server_rules.specs.LoneTurns.{reply_taken, lone_after, lone_run, lone_served}
use Rattle.nrepl_pipe.specs.Schedule.{round, AreRounds, last, MeetsWorn, IsSchedule, stream_end}
use Rattle.nrepl_pipe.specs.Schedule.{IsEnd}
use Rattle.nrepl_pipe.specs.Served.{Moves, ServesSoFar, Serves}
use Rattle.nrepl_pipe.specs.Inside.Parts.{IsPiece, MakesRounds}
use Rattle.nrepl_pipe.specs.declared.rounds.Rounds.{Rounds}
use Rattle.nrepl_pipe.specs.declared.ends.PipeEnd.{PipeEnd}
use Rattle.nrepl_pipe.proofs.Turns.{lone_served-append, meets-behind, meets-neither}
use Rattle.nrepl_pipe.proofs.Hearing.{refused-worn, TakesIn}
use Rattle.nrepl_pipe.proofs.Lasting.{worn-round}
use Rattle.nrepl_pipe.proofs.Serving.{Serving, pieces-append, spellings_joined-append, schedule-last}
use Rattle.nrepl_pipe.proofs.Serving.{consumes-more, lone_served-heard}

-- the schedule of the pieces so far
pub schedule-all : (g : Ground) (Old : LoneTenant → Type 0) (q : LoneTenant)
    (unread left held holds : Option (List ℕ)) (on : Serving g Old q unread left held holds)
    → IsSchedule g q on.pieces on.turns
schedule-all g Old q unread left held holds on =
    subst (λ (ps : List (List ℕ)). IsSchedule g q ps on.turns) (append-nil on.pieces)
    (subst (IsSchedule g q (on.pieces ++ [])) (append-nil on.turns) (on.closes [] [] refl))

-- all is written that the pieces so far serve
pub serves-so_far : (g : Ground) (Old : LoneTenant → Type 0) (q : LoneTenant)
    (unread left held holds : Option (List ℕ)) (on : Serving g Old q unread left held holds)
    → ServesSoFar g q (spellings_joined on.pieces) (lone_served g q on.turns)
serves-so_far g Old q unread left held holds on = record {
  pieces = on.pieces;
  turns = on.turns;
  are_pieces = on.are_pieces;
  cutting = refl;
  schedule = schedule-all g Old q unread left held holds on;
  written_is = refl;
}

-- nothing more was read
pub consumes-all : (unread left less : Option (List ℕ)) (read : List ℕ) → Consumes unread left read
    → Consumes left less [] → Consumes unread less read
consumes-all unread left less read first none =
    subst (Consumes unread less) (append-nil read)
    (Consumes-trans unread left less read [] first none)

-- at the end of the input
pub serves-all : (g : Ground) (Old : LoneTenant → Type 0) (q : LoneTenant)
    (unread left less held holds : Option (List ℕ)) (end : PipeEnd)
    (on : Serving g Old q unread left held holds) → Consumes left less []
    → end ≡ stream_end (g.readings.stream (lone_run g q on.turns).state.heard).ending
    → Moves unread less held holds (λ read written. Serves g q read written end)
unfolding serves-so_far
serves-all g Old q unread left less held holds end on consumes is = (
  spellings_joined on.pieces,
  lone_served g q on.turns,
  consumes-all unread left less (spellings_joined on.pieces) on.consumes consumes,
  on.appends,
  record {
    all = serves-so_far g Old q unread left held holds on;
    is_end = inr (
      on.never_worn,
      is ∙ ap (λ (bytes : List ℕ). stream_end (g.readings.stream bytes).ending) on.heard,
    );
  },
)

-- how a last piece with its rounds ends it
abbrev pub EndsWith : Ground → LoneTenant → List ℕ → List LoneTurn → PipeEnd → Type 0
EndsWith g now piece turns end =
    (MeetsWorn g now turns × (end ≡ PipeEnd.Worn))
    ⊎ ((MeetsWorn g now turns → ⊥)
    × (end ≡ stream_end (g.readings.stream (now.state.heard ++ piece)).ending))

ends-with : (g : Ground) (q : LoneTenant) (turns more : List LoneTurn) (read piece all : List ℕ)
    (end : PipeEnd) → (MeetsWorn g q turns → ⊥) → all ≡ read ++ piece
    → (lone_run g q turns).state.heard ≡ read → EndsWith g (lone_run g q turns) piece more end
    → IsEnd g q (turns ++ more) all end
ends-with g q turns more read piece all end never same heard (inl worn) =
    inl (meets-behind g q turns more worn.0, worn.1)
ends-with g q turns more read piece all end never same heard (inr ended) =
    inr (
      meets-neither g q turns more never ended.0,
      ended.1
          ∙ ap (λ (bytes : List ℕ). stream_end (g.readings.stream bytes).ending)
          (ap (λ (bytes : List ℕ). bytes ++ piece) heard ∙ sym same),
    )

-- behind a last piece
serves-last : (g : Ground) (Old : LoneTenant → Type 0) (q : LoneTenant)
    (unread left less held holds grown : Option (List ℕ)) (piece : List ℕ) (rounds : List LoneTurn)
    (end : PipeEnd) (on : Serving g Old q unread left held holds) → IsPiece piece
    → Consumes left less piece → AreRounds g (lone_after g (lone_run g q on.turns) (hears piece)) rounds
    → Appends holds grown (lone_served g (lone_run g q on.turns) (hears piece ∷ rounds))
    → EndsWith g (lone_run g q on.turns) piece (hears piece ∷ rounds) end
    → Moves unread less held grown (λ read written. Serves g q read written end)
serves-last g Old q unread left less held holds grown piece rounds end on is consumes are appends
    ends =
    let now = lone_run g q on.turns in
    let turns : List LoneTurn = hears piece ∷ rounds in (
      spellings_joined (on.pieces ++ piece ∷ []),
      lone_served g q on.turns ++ lone_served g now turns,
      consumes-more unread left less on.pieces piece on.consumes consumes,
      Appends-trans held holds grown (lone_served g q on.turns) (lone_served g now turns) on.appends appends,
      record {
        all = record {
          pieces = on.pieces ++ piece ∷ [];
          turns = on.turns ++ turns;
          are_pieces = pieces-append on.pieces piece on.are_pieces is;
          cutting = refl;
          schedule = on.closes (piece ∷ []) turns (schedule-last g now piece rounds are);
          written_is = sym (lone_served-append g q on.turns turns);
        };
        is_end = ends-with g q on.turns turns (spellings_joined on.pieces) piece
            (spellings_joined (on.pieces ++ piece ∷ [])) end on.never_worn (spellings_joined-append on.pieces piece)
            on.heard ends;
      },
    )

-- the piece, or its rounds, met the end of the steps or of the stream
pub serves-rounds : (g : Ground) (Old Mid New : LoneTenant → Type 0) (q : LoneTenant)
    (unread left less held holds grown : Option (List ℕ)) (piece : List ℕ) (end : Rounds)
    (told : PipeEnd) (on : Serving g Old q unread left held holds) → IsPiece piece
    → Consumes left less piece → TakesIn g Mid (lone_run g q on.turns) piece
    → (made : MakesRounds g New (lone_after g (lone_run g q on.turns) (hears piece)) holds grown end)
    → EndsWith g (lone_run g q on.turns) piece (hears piece ∷ made.0) told
    → Moves unread less held grown (λ read written. Serves g q read written told)
serves-rounds g Old Mid New q unread left less held holds grown piece end told on is consumes taken
    made ends =
    serves-last g Old q unread left less held holds grown piece made.0 told on is consumes made.1
    (subst (Appends holds grown) (sym (lone_served-heard g (lone_run g q on.turns) piece made.0 taken.gives))
    made.2.appends) ends

-- a piece was refused at the end of the steps
pub serves-worn : (g : Ground) (Old : LoneTenant → Type 0) (q : LoneTenant)
    (unread left less held holds : Option (List ℕ)) (piece : List ℕ)
    (on : Serving g Old q unread left held holds) → IsPiece piece → Consumes left less piece
    → lone_step g (lone_run g q on.turns) (hears piece) ≡ refused Refusal.Worn
    → Moves unread less held holds (λ read written. Serves g q read written PipeEnd.Worn)
serves-worn g Old q unread left less held holds piece on is consumes worn =
    let now = lone_run g q on.turns in
    let v = lone_after g now (hears piece) in
    let same : v ≡ now = ap (lone_or now) worn in
    let used = (refused-worn g now piece Refusal.Worn (on.no_fault, on.empty) worn).1 in
    let none : v.state.replies ≡ [] = ap (λ (u : LoneTenant). u.state.replies) same ∙ on.empty in
    let stops = worn-round g v (ap (λ (u : LoneTenant). u.state.steps == 0) same ∙ used) none in
    let nothing : lone_served g now (hears piece ∷ round g v) ≡ [] =
    lone_served-heard g now piece (round g v) (ap reply_taken worn) ∙ stops.1 in
    serves-last g Old q unread left less held holds holds piece (round g v) PipeEnd.Worn on is
    consumes (last v stops.0) (subst (Appends holds holds) (sym nothing) (Appends-nil holds))
    (inl (inl worn, refl))
