-- What was served where an error ends it.
use Rattle.std.proofs.Common.{◌≡◌, ℕ, ◌⊎◌, inl, inr, List, [], ◌∷◌, ◌++◌, refl, sym, ap, ◌∙◌, subst}
use Rattle.std.proofs.Common.{append_assoc, append-nil, Option}
use Rattle.std.specs.Io.KnownBytes.{Consumes}
use Rattle.std.proofs.KnownBytes.{Appends-nil, Appends-trans}
use Rattle.bencode_wire.specs.Spelling.{spellings_joined}
use Rattle.server_rules.specs.Ground.{Ground}
use Rattle.server_rules.specs.LoneTurns.{LoneTenant, LoneTurn, hears, lone_after, lone_run, lone_served}
use Rattle.nrepl_pipe.specs.Schedule.{AreRounds}
use Rattle.nrepl_pipe.specs.Served.{Moves, BeginsToServe}
use Rattle.nrepl_pipe.specs.Inside.Parts.{IsPiece, LosesPiece, Begins, BeginsRounds}
use Rattle.nrepl_pipe.proofs.Turns.{lone_served-append}
use Rattle.nrepl_pipe.proofs.Hearing.{TakesIn}
use Rattle.nrepl_pipe.proofs.Lasting.{rounds-exist}
use Rattle.nrepl_pipe.proofs.Serving.{Serving, pieces-append, schedule-last, consumes-more}
use Rattle.nrepl_pipe.proofs.Serving.{lone_served-heard}
use Rattle.nrepl_pipe.proofs.Ending.{schedule-all, consumes-all}

-- nothing more was read
begins-all : (g : Ground) (Old : LoneTenant → Type 0) (q : LoneTenant)
    (unread left less held holds : Option (List ℕ)) (on : Serving g Old q unread left held holds)
    → Consumes left less []
    → Moves unread less held holds (λ read written. BeginsToServe g q read written)
begins-all g Old q unread left less held holds on consumes = (
  spellings_joined on.pieces,
  lone_served g q on.turns,
  consumes-all unread left less (spellings_joined on.pieces) on.consumes consumes,
  on.appends,
  record {
    pieces = on.pieces;
    turns = on.turns;
    are_pieces = on.are_pieces;
    cutting = refl;
    schedule = schedule-all g Old q unread left held holds on;
    more = [];
    begins = sym (append-nil (lone_served g q on.turns));
  },
)

begins-last : (g : Ground) (Old : LoneTenant → Type 0) (q : LoneTenant)
    (unread left less held holds grown : Option (List ℕ)) (piece : List ℕ) (rounds : List LoneTurn)
    (on : Serving g Old q unread left held holds) → IsPiece piece → Consumes left less piece
    → AreRounds g (lone_after g (lone_run g q on.turns) (hears piece)) rounds
    → Begins g (lone_run g q on.turns) (hears piece ∷ rounds) holds grown
    → Moves unread less held grown (λ read written. BeginsToServe g q read written)
begins-last g Old q unread left less held holds grown piece rounds on is consumes are begun =
    let now = lone_run g q on.turns in
    let turns : List LoneTurn = hears piece ∷ rounds in (
      spellings_joined (on.pieces ++ piece ∷ []),
      lone_served g q on.turns ++ begun.written,
      consumes-more unread left less on.pieces piece on.consumes consumes,
      Appends-trans held holds grown (lone_served g q on.turns) begun.written on.appends begun.appends,
      record {
        pieces = on.pieces ++ piece ∷ [];
        turns = on.turns ++ turns;
        are_pieces = pieces-append on.pieces piece on.are_pieces is;
        cutting = refl;
        schedule = on.closes (piece ∷ []) turns (schedule-last g now piece rounds are);
        more = begun.more;
        begins =
            lone_served-append g q on.turns turns
            ∙ ap (λ (bytes : List ℕ). lone_served g q on.turns ++ bytes) begun.begins
            ∙ sym (append_assoc (lone_served g q on.turns) begun.written begun.more);
      },
    )

-- a piece was read, and nothing was written behind it
pub begins-unheard : (g : Ground) (Old : LoneTenant → Type 0) (q : LoneTenant)
    (unread left less held holds : Option (List ℕ)) (piece : List ℕ)
    (on : Serving g Old q unread left held holds) → IsPiece piece → Consumes left less piece
    → Moves unread less held holds (λ read written. BeginsToServe g q read written)
begins-unheard g Old q unread left less held holds piece on is consumes =
    let now = lone_run g q on.turns in
    let rounds = rounds-exist g (lone_after g now (hears piece)) in
    begins-last g Old q unread left less held holds holds piece rounds.0 on is consumes rounds.1
    (record {
      written = [];
      more = lone_served g now (hears piece ∷ rounds.0);
      appends = Appends-nil holds;
      begins = refl;
    })

-- a part of what the rounds behind a piece serve was written
pub begins-rounds : (g : Ground) (Old Mid : LoneTenant → Type 0) (q : LoneTenant)
    (unread left less held holds grown : Option (List ℕ)) (piece : List ℕ)
    (on : Serving g Old q unread left held holds) → IsPiece piece → Consumes left less piece
    → TakesIn g Mid (lone_run g q on.turns) piece
    → BeginsRounds g (lone_after g (lone_run g q on.turns) (hears piece)) holds grown
    → Moves unread less held grown (λ read written. BeginsToServe g q read written)
begins-rounds g Old Mid q unread left less held holds grown piece on is consumes taken begun =
    begins-last g Old q unread left less held holds grown piece begun.0 on is consumes begun.1
    (record {
      written = begun.2.written;
      more = begun.2.more;
      appends = begun.2.appends;
      begins = lone_served-heard g (lone_run g q on.turns) piece begun.0 taken.gives ∙ begun.2.begins;
    })

-- a read that failed
loses-by : (g : Ground) (Old : LoneTenant → Type 0) (q : LoneTenant)
    (unread left less held holds : Option (List ℕ)) (bytes : List ℕ)
    (on : Serving g Old q unread left held holds) → (bytes ≡ []) ⊎ IsPiece bytes
    → Consumes left less bytes
    → Moves unread less held holds (λ read written. BeginsToServe g q read written)
loses-by g Old q unread left less held holds bytes on (inl none) consumes =
    begins-all g Old q unread left less held holds on (subst (Consumes left less) none consumes)
loses-by g Old q unread left less held holds bytes on (inr is) consumes =
    begins-unheard g Old q unread left less held holds bytes on is consumes

pub begins-lost : (g : Ground) (Old : LoneTenant → Type 0) (q : LoneTenant)
    (unread left less held holds : Option (List ℕ)) (on : Serving g Old q unread left held holds)
    → LosesPiece left less
    → Moves unread less held holds (λ read written. BeginsToServe g q read written)
begins-lost g Old q unread left less held holds on lost =
    loses-by g Old q unread left less held holds lost.0 on lost.1 lost.2
