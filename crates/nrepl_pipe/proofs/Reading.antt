-- Each read is made once all is written that the pieces before serve.
use Rattle.std.proofs.Common.{ℕ, List, [], ◌∷◌, ◌++◌, refl, sym, ap, ◌∙◌, append_assoc}
use Rattle.std.proofs.Common.{append-nil, Option, None, Some}
use Rattle.bencode_wire.specs.Spelling.{spellings_joined}
use Rattle.server_rules.specs.Ground.{Ground}
use Rattle.server_rules.specs.LoneTurns.{LoneTenant, lone_served}
use Rattle.nrepl_pipe.specs.Reads.{ReadAt, ReadsSince, IsPrompt, ArePrompt, ReadsPromptly}
use Rattle.nrepl_pipe.specs.Reads.{IsPassedOn, ArePassedOn, ReadsPassedOn}
use Rattle.nrepl_pipe.specs.declared.stream.TheConstants.{PIECE}
use Rattle.nrepl_pipe.proofs.Serving.{Serving}
use Rattle.nrepl_pipe.proofs.Ending.{serves-so_far}

pub since-none : (reads : Option (List ReadAt)) → ReadsSince reads reads []
since-none None = tt
since-none (Some rs) = sym (append-nil rs)

since-more : (before between now : Option (List ReadAt)) (first second : List ReadAt)
    → ReadsSince before between first → ReadsSince between now second
    → ReadsSince before now (first ++ second)
since-more None between now first second p q = tt
since-more (Some b) None now first second p q = absurd p
since-more (Some b) (Some m) None first second p q = absurd q
since-more (Some b) (Some m) (Some n) first second p q =
    q ∙ ap (λ (rs : List ReadAt). rs ++ second) p ∙ append_assoc b first second

prompt-more : (g : Ground) (l : LoneTenant) (unread held : Option (List ℕ)) (rs : List ReadAt)
    (r : ReadAt) → ArePrompt g l unread held rs → IsPrompt g l unread held r
    → ArePrompt g l unread held (rs ++ r ∷ [])
prompt-more g l unread held [] r are is = (is, tt)
prompt-more g l unread held (first ∷ rs) r are is =
    (are.0, prompt-more g l unread held rs r are.1 is)

pub reads-none : (g : Ground) (l : LoneTenant) (unread held : Option (List ℕ))
    (reads : Option (List ReadAt)) → ReadsPromptly g l unread held reads reads
reads-none g l unread held reads = ([], since-none reads, tt)

-- one more read
pub reads-more : (g : Ground) (Old : LoneTenant → Type 0) (q : LoneTenant)
    (unread left held holds passes : Option (List ℕ))
    (before between now : Option (List ReadAt))
    → Serving g Old q unread left held holds → ReadsPromptly g q unread held before between
    → ReadsSince between now
    (record { room = PIECE; unread = left; written = holds; passed = passes } ∷ [])
    → ReadsPromptly g q unread held before now
reads-more g Old q unread left held holds passes before between now on prompt read =
    let r : ReadAt =
    record { room = PIECE; unread = left; written = holds; passed = passes } in (
      prompt.0 ++ r ∷ [],
      since-more before between now prompt.0 (r ∷ []) prompt.1 read,
      prompt-more g q unread held prompt.0 r prompt.2 (
        refl,
        (
          spellings_joined on.pieces,
          lone_served g q on.turns,
          on.consumes,
          on.appends,
          serves-so_far g Old q unread left held holds on,
        ),
      ),
    )

-- Nothing is held back

passed-more : (rs : List ReadAt) (r : ReadAt) → ArePassedOn rs → IsPassedOn r.written r.passed
    → ArePassedOn (rs ++ r ∷ [])
passed-more [] r are is = (is, tt)
passed-more (first ∷ rs) r are is = (are.0, passed-more rs r are.1 is)

pub passed-none : (reads : Option (List ReadAt)) → ReadsPassedOn reads reads
passed-none reads = ([], since-none reads, tt)

pub passed-once : (before between now : Option (List ReadAt)) (r : ReadAt)
    → ReadsPassedOn before between → IsPassedOn r.written r.passed
    → ReadsSince between now (r ∷ []) → ReadsPassedOn before now
passed-once before between now r so is read = (
  so.0 ++ r ∷ [],
  since-more before between now so.0 (r ∷ []) so.1 read,
  passed-more so.0 r so.2 is,
)
