-- What is counted of a tenant, one entry at a time.
use Rattle.std.proofs.Common.{◌≡◌, ◌==◌, ◌≤◌, ◌+◌, ℕ, List, [], ◌∷◌, ◌++◌, Bool, true, false, refl, sym}
use Rattle.std.proofs.Common.{ap, ◌∙◌, arith, add-zero, add_assoc, zero-add}
use Rattle.std.specs.Prelude.{if◌then◌else◌, sum_by, flat_map}
use Rattle.std.proofs.lemmas.List.Sums.{sum_by-append, sum_by-cons}
use Rattle.server_rules.specs.Machine.Turns.{whose_step}
use Rattle.journal_book.specs.Journal.{EntryData}
use Rattle.journal_book.specs.View.{entry_in, entries, entries_behind, SeatData}
use Rattle.journal_book.specs.Tenants.{whose_entry}
use Rattle.journal_book.specs.Rows.{made_row, entries_of, entries_by, counted_of, all_counted}
use Rattle.journal_book.specs.declared.entry.JournalEntry.{JournalEntry}
use Rattle.journal_book.specs.declared.report.Row.{Row}

-- an entry is its tenant's, whatever stands before it
whose-entry : (said : List EntryData) (e : JournalEntry) → whose_step (entry_in said e).step ≡ whose_entry e
whose-entry said (JournalEntry.Started t a answer) = refl
whose-entry said (JournalEntry.Resolved t a it) = refl
whose-entry said (JournalEntry.Asked t a asked) = refl
whose-entry said (JournalEntry.Ended t a finished) = refl
whose-entry said (JournalEntry.Interrupted t a ending) = refl
whose-entry said (JournalEntry.Drained t reply) = refl
whose-entry said (JournalEntry.Heard t it) = refl
whose-entry said (JournalEntry.Other it) = refl

behind : (t : ℕ) (said : List EntryData) (es : List JournalEntry)
    → entries_of t (entries_behind said es) ≡ entries_of t said + entries_by t es
behind t said [] = sym (add-zero (entries_of t said))
behind t said (e ∷ es) =
    let count : ℕ → ℕ = λ n. if n == t then 1 else 0 in
    let counts : EntryData → ℕ = λ x. count (whose_step x.step) in
    let d = entry_in said e in
    let one : entries_of t (d ∷ []) ≡ count (whose_entry e) =
    sum_by-cons counts d [] ∙ add-zero (counts d) ∙ ap count (whose-entry said e) in
    behind t (said ++ d ∷ []) es
    ∙ ap (λ n. n + entries_by t es)
    (sum_by-append counts said (d ∷ []) ∙ ap (λ n. entries_of t said + n) one)
    ∙ add_assoc (entries_of t said) (count (whose_entry e)) (entries_by t es)
    ∙ ap (λ n. entries_of t said + n) (sym (sum_by-cons (λ (x : JournalEntry). count (whose_entry x)) e es))

pages : {V : Type 0} (f : V → List JournalEntry) (t : ℕ) (vs : List V)
    → sum_by (λ v. entries_by t (f v)) vs ≡ entries_by t (flat_map f vs)
pages f t [] = refl
pages f t (v ∷ vs) =
    sum_by-cons (λ x. entries_by t (f x)) v vs
    ∙ ap (λ n. entries_by t (f v) + n) (pages f t vs)
    ∙ sym (sum_by-append (λ e. if whose_entry e == t then 1 else 0) (f v) (flat_map f vs))

-- page by page they are counted as one behind another
counted-pages : {V : Type 0} (f : V → List JournalEntry) (t : ℕ) (vs : List V) (last : List JournalEntry)
    → sum_by (λ v. entries_by t (f v)) vs + entries_by t last
    ≡ entries_of t (entries (flat_map f vs ++ last))
counted-pages f t vs last =
    let all = flat_map f vs ++ last in
    ap (λ n. n + entries_by t last) (pages f t vs)
    ∙ sym (sum_by-append (λ (e : JournalEntry). if whose_entry e == t then 1 else 0) (flat_map f vs) last)
    ∙ sym (behind t [] all ∙ zero-add (entries_by t all))

-- a row to which the pages were added, and then the last
pub rows-so : {V : Type 0} (f : V → List JournalEntry) (t : ℕ) (old mid new : Row) (vs : List V)
    (last : List JournalEntry) → old ≡ made_row 0 0
    → mid ≡ made_row (old.journalled + sum_by (λ v. entries_by t (f v)) vs) old.made
    → new ≡ made_row (mid.journalled + entries_by t last) mid.made
    → new ≡ made_row (entries_of t (entries (flat_map f vs ++ last))) 0
rows-so f t old mid new vs last none full more =
    let all = sum_by (λ v. entries_by t (f v)) vs in
    more
    ∙ ap (λ r. made_row (r.journalled + entries_by t last) r.made)
    (full ∙ ap (λ r. made_row (r.journalled + all) r.made) none)
    ∙ ap (λ n. made_row n 0)
    (ap (λ n. n + entries_by t last) (zero-add all) ∙ counted-pages f t vs last)

part : (b : Bool) (n : ℕ) → (if b then n else 0) ≤ n
part true n = omega arith
part false n = omega arith

-- on the seats of one tenant no more is counted than on all
pub counted-le : (t : ℕ) (seats : List SeatData) → counted_of t seats ≤ all_counted seats
counted-le t [] = omega arith
counted-le t (s ∷ ss) =
    let counts : SeatData → ℕ = λ x. if x.tenant == t then x.made else 0 in
    let rest = counted-le t ss in
    let first = part (s.tenant == t) s.made in
    let mine = sum_by-cons counts s ss in
    let all = sum_by-cons (λ x. x.made) s ss in
    omega arith
