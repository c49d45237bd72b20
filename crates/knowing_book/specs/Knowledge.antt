-- What is known of a form for good.
use Rattle.std.specs.Prelude.{◌≡◌, ℕ, List, Option, Some, IfSome}
use mathlib.Core.List.{IsPrefix}
use Rattle.server_rules.specs.Request.{Run}
use Rattle.server_rules.specs.declared.actor.Actor.{Actor}
use Rattle.journal_book.specs.Forms.{form_told}
use Rattle.journal_book.specs.Journal.{EntryData}
use Rattle.journal_book.specs.View.{entries}
use Rattle.journal_book.specs.declared.entry.JournalEntry.{JournalEntry}
use Rattle.knowing_book.specs.Keys.{last_by}

-- a journal tells that the actor's form is this one, and its last entry of the actor is this one
abbrev pub Tells : List EntryData → ℕ → Actor → ℕ → Run → Type 0
Tells journal t a last form = (form_told t a journal ≡ Some form) × (last_by t a journal ≡ last)

-- the same of the beginning of the journal that is known, if one is
abbrev pub Knows : Option (List JournalEntry) → ℕ → Actor → ℕ → Run → Type 0
Knows known t a last form = IfSome known (λ es. Tells (entries es) t a last form)

-- both are beginnings of one history, and the number that is kept is the one that is known
abbrev pub Shares : Option (List JournalEntry) → Option (List JournalEntry) → Option ℕ → ℕ → Type 0
Shares whole known kept last =
    (all : List JournalEntry) × (mine : List JournalEntry) × (both : List JournalEntry)
    × (whole ≡ Some all) × (known ≡ Some mine) × IsPrefix all both × IsPrefix mine both
    × (kept ≡ Some last)
