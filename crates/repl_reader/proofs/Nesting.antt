-- The grammar's rules, as the code's steps use them.
use Rattle.std.proofs.Common.{◌≡◌, ℕ, suc, ◌+◌, ◌-◌, ◌++◌, ◌∷◌, [], List, map, refl, sym, arith}
use Rattle.std.proofs.Common.{subst, inl, inr, add-one, Result, Ok, Err, IfOk}
use Rattle.value_data.specs.Datum.{Datum, Items, no_items, item}
use Rattle.value_data.specs.Inside.View.{view, items_view}
use Rattle.value_data.specs.declared.value.Value.{Value}
use Rattle.repl_reader.specs.Reading.{Bracket, FormReading, begins, next_in, settled, opens, marks}
use Rattle.repl_reader.specs.Reading.{drops}
use Rattle.repl_reader.specs.Grammar.{Reads, plain, marked, marked_deep, opened, opened_deep, ReadsRow}
use Rattle.repl_reader.specs.Grammar.{last, more, form_or_fault, IsForm}
use Rattle.repl_reader.specs.Inside.View.{IsMarked, wraps, wraps_deep, IsOpened, encloses, encloses_deep}
use Rattle.repl_reader.proofs.Owed.{Owed, owed_drops}
use Rattle.repl_reader.proofs.Rows.{onto, onto_push, onto_none, map-push}

pub piece_settled : (depth : ℕ) (text : List ℕ) (r : FormReading) → settled r ≡ next_in text → Reads depth text r
piece_settled depth text r e = plain depth text r (sym e)

pub piece_marked : (depth : ℕ) (text name rest : List ℕ) (r : FormReading) → marks name rest ≡ next_in text → IsMarked depth name rest r → Reads depth text r
piece_marked depth text name rest _ e (wraps r h i) = marked depth text name rest r (sym e) h i
piece_marked depth text name rest _ e (wraps_deep h) = marked_deep depth text name rest (sym e) h

pub piece_opened : (depth : ℕ) (text rest : List ℕ) (b : Bracket) (r : FormReading) → opens b rest ≡ next_in text → IsOpened depth b rest r → Reads depth text r
piece_opened depth text rest b _ e (encloses ds r h i) = opened depth text rest b ds r (sym e) h i
piece_opened depth text rest b _ e (encloses_deep h) = opened_deep depth text rest b (sym e) h

-- one form more in a row
module _ (depth : ℕ) (start text rest : List ℕ) (forms : List Value) (form : Value)
    (rows : (ds : Items) (r : FormReading) → ReadsRow depth text ds r → ReadsRow depth start (onto (map view forms) ds) r) where
  pub row_push : Reads depth text (begins (view form) rest) → (ds : Items) (r : FormReading) → ReadsRow depth rest ds r → ReadsRow depth start (onto (map view (forms ++ form ∷ [])) ds) r
  row_push i ds r j =
      let whole = rows (item (view form) ds) r (more depth text rest (view form) ds r i j) in
      rw (map-push view forms form, onto_push (map view forms) (view form) ds) whole

pub row_last : (depth : ℕ) (start text : List ℕ) (forms : List Value) (r : FormReading)
    → ((ds : Items) (r : FormReading) → ReadsRow depth text ds r → ReadsRow depth start (onto (map view forms) ds) r)
    → Reads depth text r → (IsForm r → ⊥) → ReadsRow depth start (items_view forms) r
row_last depth start text forms r rows i h = rw (← onto_none (map view forms)) (rows no_items r (last depth text r i h))

-- forms that are to be dropped
module _ (depth n : ℕ) (start text : List ℕ) (owed : (r : FormReading) → Owed depth n text r → Reads depth start r) where
  pub owed_more : (rest : List ℕ) → next_in text ≡ drops rest → (r : FormReading) → Owed depth (n + 1) rest r → Reads depth start r
  owed_more rest e r o = owed r (owed_drops depth n text rest r e (subst (λ k. Owed depth k rest r) (add-one n) o))

  pub owed_none : n ≡ 0 → (r : FormReading) → Reads depth text r → Reads depth start r
  owed_none e r i = owed r (subst (λ k. Owed depth k text r) (sym e) i)

  pub owed_one : (n ≡ 0 → ⊥) → (d : Datum) (rest : List ℕ) → Reads depth text (begins d rest) → (r : FormReading) → Owed depth (n - 1) rest r → Reads depth start r
  owed_one some d rest i r o = owed r (subst (λ k. Owed depth k text r) (less_and_more n some) (inl (d, rest, i, o)))
    where
      less_and_more : (m : ℕ) → (m ≡ 0 → ⊥) → suc (m - 1) ≡ m
      less_and_more m h = omega arith

  pub owed_short : (n ≡ 0 → ⊥) → (s : FormReading) → Reads depth text s → (IsForm s → ⊥) → Reads depth start (form_or_fault s)
  owed_short some s i h = owed (form_or_fault s) (subst (λ k. Owed depth k text (form_or_fault s)) (less_and_more n some) (inr (s, i, h, refl)))
    where
      less_and_more : (m : ℕ) → (m ≡ 0 → ⊥) → suc (m - 1) ≡ m
      less_and_more m h = omega arith

pub on_ok : {T E : Type 0} {P Q : T → Type 0} (r : Result T E) → ((x : T) → P x → Q x) → IfOk r P → IfOk r Q
on_ok (Ok x) f h = f x h
on_ok (Err e) f h = h
