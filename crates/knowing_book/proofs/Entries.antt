-- What entries say, behind one another.
use Rattle.std.proofs.Common.{◌≡◌, ◌∙◌, ℕ, List, [], ◌∷◌, ◌++◌, length, refl, sym, ap}
use Rattle.std.proofs.Common.{Option, None, Some, IfSome}
use mathlib.Core.List.{IsPrefix}
use Rattle.knowing_book.proofs.Seeing.{prefix-seen, length-seen, adds-seen}
use Rattle.journal_book.specs.Journal.{EntryData}
use Rattle.journal_book.specs.View.{entries, entry_in}
use Rattle.journal_book.specs.declared.entry.JournalEntry.{JournalEntry}
use Rattle.journal_book.proofs.Written.{one-more}

said-more : (es : List JournalEntry) (e : JournalEntry)
    → entries (es ++ e ∷ []) ≡ entries es ++ entry_in (entries es) e ∷ []
said-more = one-more []

pub prefix-entries : (xs ys : List JournalEntry) → IsPrefix xs ys → IsPrefix (entries xs) (entries ys)
prefix-entries = prefix-seen entries entry_in refl said-more

pub length-entries : (es : List JournalEntry) → length (entries es) ≡ length es
length-entries = length-seen entries entry_in refl said-more

-- where the last entry said this behind what is known, it says so behind that
pub adds-entries : (known whole before : List JournalEntry) (e : JournalEntry) (d : EntryData)
    → entries whole ≡ entries known ++ d ∷ [] → whole ≡ before ++ e ∷ []
    → entries (known ++ e ∷ []) ≡ entries whole
adds-entries = adds-seen entries entry_in refl said-more

-- what is known of a whole journal is as long as it
pub length-known : (known : Option (List JournalEntry)) (journal : List JournalEntry) (place : ℕ)
    → IfSome known (λ es. entries es ≡ entries journal) → place ≡ length journal
    → IfSome known (λ es. place ≡ length es)
length-known None journal place is at = tt
length-known (Some es) journal place is at =
    at ∙ sym (length-entries journal) ∙ ap length (sym is) ∙ length-entries es
