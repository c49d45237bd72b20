-- What is known of a form, behind the entries of its actor and at its end.
use Rattle.std.proofs.Common.{◌≡◌, ◌∙◌, ◌+◌, ◌%◌, ◌^◌, ◌==◌, ℕ, zero, suc, Bool, true, false, List, [], ◌∷◌, ◌++◌}
use Rattle.std.proofs.Common.{length, map, Option, Some, None, IfSome, slice_get, refl, sym, ap, subst, arith}
use Rattle.std.proofs.Common.{if◌then◌else◌, ◌&&◌, true≢false}
use Rattle.std.proofs.lemmas.Bool.Decides.{nat_tests}
use mathlib.Core.List.{IsPrefix}
use Rattle.knowing_book.specs.Lasts.{is_key, last_of, last_at, AreLasts}
use Rattle.knowing_book.specs.declared.lasts.Lasts.{Lasts}
use Rattle.knowing_book.proofs.Telling.{told_from, told-snoc, same-told, told-on}
use Rattle.repl_asks.specs.Exchange.{AskData, AnswerData}
use Rattle.repl_asks.specs.Job.{JobData}
use Rattle.repl_core.specs.Forms.{form_by_step}
use Rattle.tenant_asks.specs.Asking.{exchange_from, run_with}
use Rattle.server_rules.specs.Machine.World.{Step, opens, does, closes}
use Rattle.server_rules.specs.Plan.{hears, starts, asks_for, ends, drains, form_begun, ask_answered}
use Rattle.server_rules.specs.Request.{Run}
use Rattle.server_rules.specs.Tenant.{seat_of}
use Rattle.server_rules.specs.declared.actor.Actor.{Actor}
use Rattle.journal_book.specs.Forms.{form_told_from, form_told}
use Rattle.journal_book.specs.Journal.{EntryData}
use Rattle.journal_book.specs.Standing.{entry_of}
use Rattle.journal_book.specs.View.{entries}
use Rattle.journal_book.specs.declared.entry.JournalEntry.{JournalEntry}
use Rattle.knowing_book.specs.Keys.{actor_number, actor_key, deed_key, step_key, entry_key, is_under}
use Rattle.knowing_book.specs.Keys.{last_by}
use Rattle.knowing_book.specs.Knowledge.{Tells, Knows, Shares}
use Rattle.knowing_book.proofs.Entries.{prefix-entries}

-- what an entry tells of an actor's form
abbrev pub tell : ℕ → Actor → Option Run → EntryData → Option Run
tell t a form e = form_by_step t a e.step e.answer form

pub told-same : (t : ℕ) (a : Actor) (form : Option Run) (es : List EntryData)
    → form_told_from t a form es ≡ told_from (tell t a) form es
told-same t a form [] = refl
told-same t a form (e ∷ es) = told-same t a (tell t a form e) es

-- Entries of other keys tell nothing of it

pub seat-one : (a b : Actor) → (seat_of a == seat_of b) ≡ true → a ≡ b
seat-one Actor.Agents Actor.Agents is = refl
seat-one Actor.Agents Actor.Bare is = absurd (cc (is))
seat-one Actor.Agents (Actor.Session n) is = absurd (grind (arith, nat_tests))
seat-one Actor.Bare Actor.Agents is = absurd (cc (is))
seat-one Actor.Bare Actor.Bare is = refl
seat-one Actor.Bare (Actor.Session n) is = absurd (grind (arith, nat_tests))
seat-one (Actor.Session m) Actor.Agents is = absurd (grind (arith, nat_tests))
seat-one (Actor.Session m) Actor.Bare is = absurd (grind (arith, nat_tests))
seat-one (Actor.Session m) (Actor.Session n) is =
    let same : m ≡ n = grind (arith, nat_tests) in ap Actor.Session same

tests-one : (m n : ℕ) → (m == n) ≡ true → m ≡ n
tests-one m n is = grind (arith, nat_tests)

self-test : (n : ℕ) → (n == n) ≡ true
self-test n = grind (arith, nat_tests)

module _ (t : ℕ) (a : Actor) where
  abbrev Same : Bool → Option Run → Option Run → Option Run → Type 0
  Same b told form now = (if b then told else form) ≡ now

  by-tests : (u : ℕ) (b : Actor) (told form : Option Run) (c d : Bool) → (t == u) ≡ c
      → (seat_of a == seat_of b) ≡ d → (actor_key u b == actor_key t a) ≡ false
      → (if c && d then told else form) ≡ form
  by-tests u b told form true true same one apart =
      absurd (true≢false (sym (self-test (actor_key t a))
      ∙ ap (λ k. k == actor_key t a)
      (ap (λ v. actor_key v a) (tests-one t u same) ∙ ap (actor_key u) (seat-one a b one))
      ∙ apart))
  by-tests u b told form true false same one apart = refl
  by-tests u b told form false d same one apart = refl

  pub quiet : (form : Option Run) (e : EntryData) → is_under (actor_key t a) e ≡ false
      → tell t a form e ≡ form
  quiet form e apart = by e.step apart
    where
      by : (s : Step) → is_key (actor_key t a) (step_key s) ≡ false
          → form_by_step t a s e.answer form ≡ form
      by (opens u) apart = refl
      by (closes u) apart = refl
      by (does u (starts b)) apart = by-tests u b _ form (t == u) (seat_of a == seat_of b) refl refl apart
      by (does u (asks_for b ask)) apart =
          by-tests u b _ form (t == u) (seat_of a == seat_of b) refl refl apart
      by (does u (ends b x)) apart = by-tests u b _ form (t == u) (seat_of a == seat_of b) refl refl apart
      by (does u (hears piece)) apart = not-its (t == u)
        where
          not-its : (c : Bool) → (if c && false then form else form) ≡ form
          not-its true = refl
          not-its false = refl
      by (does u drains) apart = not-its (t == u)
        where
          not-its : (c : Bool) → (if c && false then form else form) ≡ form
          not-its true = refl
          not-its false = refl

  -- What is known

  some-in : {A : Type 0} (P : A → Type 0) (o : Option A) (x : A) → o ≡ Some x → IfSome o P → P x
  some-in P o x is holds = subst (λ q. IfSome q P) is holds

  pub kept-last : (journal : List EntryData) (lasts : Lasts) (kept : Option ℕ) → AreLasts entry_key journal lasts
      → kept ≡ last_at lasts (actor_key t a) → IfSome kept (λ n. n ≡ last_by t a journal)
  kept-last journal lasts None are is = tt
  kept-last journal lasts (Some n) are is = are (actor_key t a) n (sym is)

  -- the number that is kept is the journal's, so the form that is known is the one of which it tells
  pub end-told : (journal : List EntryData) (whole known : Option (List JournalEntry)) (kept : Option ℕ)
      (last : ℕ) (form : Run) → IfSome whole (λ es. entries es ≡ journal)
      → Knows known t a last form → IfSome kept (λ n. n ≡ last_by t a journal)
      → Shares whole known kept last → form_told t a journal ≡ Some form
  end-told journal whole known kept last form all knows true-last shares =
      let F = shares.0 in
      let f = shares.1 in
      let both = shares.2 in
      let is : entries F ≡ journal = some-in (λ es. entries es ≡ journal) whole F shares.3 all in
      let tells : Tells (entries f) t a last form =
      some-in (λ es. Tells (entries es) t a last form) known f shares.4 knows in
      let n : last ≡ last_by t a journal =
      some-in (λ x. x ≡ last_by t a journal) kept last shares.7 true-last in
      let p : IsPrefix (entries F) (entries both) = prefix-entries F both shares.5 in
      let q : IsPrefix (entries f) (entries both) = prefix-entries f both shares.6 in
      let same : last_by t a (entries F) ≡ last_by t a (entries f) =
      ap (last_by t a) is ∙ sym n ∙ sym tells.1 in
      ap (form_told t a) (sym is)
      ∙ told-same t a None (entries F)
      ∙ same-told (tell t a) (is_under (actor_key t a)) quiet None (entries F) (entries f) (entries both) p q same
      ∙ sym (told-same t a None (entries f))
      ∙ tells.0

  pub later-told : (journal before : List EntryData) (e : EntryData)
      (whole known : Option (List JournalEntry)) (kept : Option ℕ) (last : ℕ) (form now : Run)
      → journal ≡ before ++ e ∷ [] → IfSome kept (λ n. n ≡ last_by t a before)
      → Knows known t a last form → form_by_step t a e.step e.answer (Some form) ≡ Some now
      → IfSome whole (λ es. entries es ≡ journal) → Shares whole known kept last
      → form_told t a journal ≡ Some now
  later-told journal before e whole known kept last form now is true-last knows made all shares =
      let F = shares.0 in
      let f = shares.1 in
      let both = shares.2 in
      let same : entries F ≡ before ++ e ∷ [] =
      some-in (λ es. entries es ≡ journal) whole F shares.3 all ∙ is in
      let tells : Tells (entries f) t a last form =
      some-in (λ es. Tells (entries es) t a last form) known f shares.4 knows in
      let n : last ≡ last_by t a before =
      some-in (λ x. x ≡ last_by t a before) kept last shares.7 true-last in
      let p : IsPrefix (before ++ e ∷ []) (entries both) =
      subst (λ es. IsPrefix es (entries both)) same (prefix-entries F both shares.5) in
      let q : IsPrefix (entries f) (entries both) = prefix-entries f both shares.6 in
      ap (form_told t a) is
      ∙ told-same t a None (before ++ e ∷ [])
      ∙ told-on (tell t a) (is_under (actor_key t a)) quiet None (entries f) before (entries both) e q p
      (tells.1 ∙ n)
      ∙ ap (λ x. tell t a x e) (sym (told-same t a None (entries f)) ∙ tells.0)
      ∙ made

  pub fact-known : (journal : List EntryData) (whole : Option (List JournalEntry)) (last : ℕ) (form : Run)
      → IfSome whole (λ es. entries es ≡ journal) → form_told t a journal ≡ Some form
      → last ≡ last_by t a journal → Knows whole t a last form
  fact-known journal None last form is told n = tt
  fact-known journal (Some es) last form is told n =
      (ap (form_told t a) is ∙ told, ap (last_by t a) is ∙ sym n)

  own-tests : {A : Type 0} (x y : A) → (if (t == t) && (seat_of a == seat_of a) then x else y) ≡ x
  own-tests x y =
      ap (λ b. if b && (seat_of a == seat_of a) then x else y) (self-test t)
      ∙ ap (λ b. if true && b then x else y) (self-test (seat_of a))

  pub begun-told : (before : List EntryData) (job : JobData)
      → form_told t a (before ++ entry_of (does t (starts a)) (form_begun job) ∷ [])
      ≡ Some (record { job = job; trace = [] })
  begun-told before job =
      told-same t a None (before ++ entry_of (does t (starts a)) (form_begun job) ∷ [])
      ∙ told-snoc (tell t a) None before (entry_of (does t (starts a)) (form_begun job))
      ∙ own-tests _ _

  pub asked-told : (ask : AskData) (told : AnswerData) (form : Run)
      → form_by_step t a (does t (asks_for a ask)) (ask_answered told) (Some form)
      ≡ Some (run_with (exchange_from ask told) form)
  asked-told ask told form = own-tests _ _

-- what is known of a journal, as the journal with its new entry has it
pub known-before : (known : Option (List JournalEntry)) (before after : List EntryData) (e : EntryData)
    → IfSome known (λ es. entries es ≡ before) → after ≡ before ++ e ∷ []
    → IfSome known (λ es. after ≡ entries es ++ e ∷ [])
known-before None before after e is now = tt
known-before (Some es) before after e is now = now ∙ ap (λ js. js ++ e ∷ []) (sym is)

abbrev pub one-more : List EntryData → EntryData → List EntryData
one-more before e = before ++ e ∷ []
