-- What follows a form is shorter than the text that begins with it.
use Rattle.std.proofs.Common.{◌≡◌, ℕ, suc, ◌<◌, ◌≤◌, Bool, true, false, ◌||◌, cond, eqb, List, []}
use Rattle.std.proofs.Common.{◌∷◌, length, Option, Some, None, refl, sym, arith, subst, one-add}
use Rattle.std.proofs.Common.{length-drop}
use Rattle.std.specs.List.{position_or_len}
use Rattle.value_data.specs.Keyed.{keys_of}
use Rattle.value_data.specs.Datum.{Datum, Items, Pairs}
use Rattle.value_data.specs.Repeats.{first_repeat}
use Rattle.repl_reader.specs.declared.fault.FaultKind.{FaultKind}
use Rattle.repl_reader.specs.declared.fault.FaultKind.TheVariants.{BadNumber, BadToken}
use Rattle.repl_reader.specs.Text.{is_white, is_delimiter, ends_token, bare, after_comment, token}
use Rattle.repl_reader.specs.Text.{after_token}
use Rattle.repl_reader.specs.Token.{begins_number}
use Rattle.repl_reader.specs.Reading.{Bracket, round, square, curly, FormReading, begins, closes}
use Rattle.repl_reader.specs.Reading.{ends, breaks, Next, settled, opens, marks, drops, Contents}
use Rattle.repl_reader.specs.Reading.{closed, refused, with_leading_byte, contents, escape_contents}
use Rattle.repl_reader.specs.Reading.{string_of, is_escape, escape, token_or_fault, token_at}
use Rattle.repl_reader.specs.Reading.{dispatch_at, is_unsupported, next_by, next_in_bare, next_in}
use Rattle.repl_reader.specs.Grammar.{Reads, plain, marked, marked_deep, opened, opened_deep}
use Rattle.repl_reader.specs.Grammar.{dropped, undropped, ReadsRow, last, more, form_or_fault}
use Rattle.repl_reader.specs.Grammar.{wrapped_reading, enclosed_reading, collection_reading}
use Rattle.repl_reader.specs.Grammar.{unmatched, same_bracket}
use Rattle.repl_reader.specs.Maps.{map_or_fault, map_of, paired}

abbrev pub Shorter : ℕ → FormReading → Type 0
Shorter n (begins d rest) = length rest < n
Shorter n (closes b rest) = length rest < n
Shorter n ends = Unit {0}
Shorter n (breaks f) = Unit {0}

abbrev pub NextShorter : ℕ → Next → Type 0
NextShorter n (settled r) = Shorter n r
NextShorter n (opens b rest) = length rest < n
NextShorter n (marks name rest) = length rest < n
NextShorter n (drops rest) = length rest < n

pub shorter_le : (m n : ℕ) (r : FormReading) → m ≤ n → Shorter m r → Shorter n r
shorter_le m n (begins d rest) h s = omega arith
shorter_le m n (closes b rest) h s = omega arith
shorter_le m n ends h s = tt
shorter_le m n (breaks f) h s = tt

next_shorter_le : (m n : ℕ) (x : Next) → m ≤ n → NextShorter m x → NextShorter n x
next_shorter_le m n (settled r) h s = shorter_le m n r h s
next_shorter_le m n (opens b rest) h s = omega arith
next_shorter_le m n (marks name rest) h s = omega arith
next_shorter_le m n (drops rest) h s = omega arith

either : (n : ℕ) (t : Bool) (x y : FormReading) → Shorter n x → Shorter n y → Shorter n (cond t x y)
either n true x y h k = h
either n false x y h k = k

-- strings
abbrev ContentsShorter : ℕ → Contents → Type 0
ContentsShorter n (closed s rest) = length rest < n
ContentsShorter n (refused f) = Unit {0}

contents_le : (m n : ℕ) (c : Contents) → m ≤ n → ContentsShorter m c → ContentsShorter n c
contents_le m n (closed s rest) h k = omega arith
contents_le m n (refused f) h k = tt

behind_shorter : (n b : ℕ) (c : Contents) → ContentsShorter n c → ContentsShorter n (with_leading_byte b c)
behind_shorter n b (closed s rest) k = k
behind_shorter n b (refused f) k = tt

either_contents : (n : ℕ) (t : Bool) (c d : Contents) → ContentsShorter n c → ContentsShorter n d → ContentsShorter n (cond t c d)
either_contents n true c d h k = h
either_contents n false c d h k = k

mutual
  contents_shorter : (text : List ℕ) → ContentsShorter (length text) (contents text)
  contents_shorter [] = tt
  contents_shorter (b ∷ bs) = either_contents _ (eqb b 34) _ _ (omega arith) (either_contents _ (eqb b 92) _ _
      (contents_le _ _ (escape_contents bs) (omega arith) (escaped_shorter bs))
      (behind_shorter _ b (contents bs) (contents_le _ _ (contents bs) (omega arith) (contents_shorter bs))))

  escaped_shorter : (text : List ℕ) → ContentsShorter (length text) (escape_contents text)
  escaped_shorter [] = tt
  escaped_shorter (b ∷ bs) = either_contents _ (is_escape b) _ _
      (behind_shorter _ (escape b) (contents bs) (contents_le _ _ (contents bs) (omega arith) (contents_shorter bs)))
      tt

string_shorter : (n : ℕ) (c : Contents) → ContentsShorter n c → Shorter n (string_of c)
string_shorter n (closed s rest) h = h
string_shorter n (refused f) h = tt

-- tokens
after_token_shorter : (b : ℕ) (bs : List ℕ) → ends_token b ≡ false → length (after_token (b ∷ bs)) < length (b ∷ bs)
after_token_shorter b bs e = rw (e, one-add) (omega (arith, length-drop (position_or_len ends_token bs) bs))

found_shorter : (b : ℕ) (bs : List ℕ) (kind : FaultKind) (o : Option Datum) → ends_token b ≡ false → Shorter (length (b ∷ bs)) (token_or_fault kind (b ∷ bs) o)
found_shorter b bs kind None e = tt
found_shorter b bs kind (Some d) e = after_token_shorter b bs e

token_shorter : (b : ℕ) (bs : List ℕ) → ends_token b ≡ false → Shorter (length (b ∷ bs)) (token_at (b ∷ bs))
unfolding token_at
token_shorter b bs e = either _ (begins_number (token (b ∷ bs))) _ _ (found_shorter b bs BadNumber _ e) (found_shorter b bs BadToken _ e)

next_either : (n : ℕ) (t : Bool) (x y : Next) → NextShorter n x → NextShorter n y → NextShorter n (cond t x y)
next_either n true x y h k = h
next_either n false x y h k = k

-- what comes next
dispatch_shorter : (text : List ℕ) → NextShorter (suc (length text)) (dispatch_at text)
unfolding dispatch_at
dispatch_shorter [] = tt
dispatch_shorter (b ∷ bs) = next_either _ (eqb b 95) _ _ (omega arith) tt

choose : (n : ℕ) (t : Bool) (x y : Next) → NextShorter n x → (t ≡ false → NextShorter n y) → NextShorter n (cond t x y)
choose n true x y h k = h
choose n false x y h k = k refl

unsupported : (t u v w : Bool) → (t || u || v || w) ≡ false → (false || t || u || v || w) ≡ false
unsupported t u v w h = h

no_end : (b : ℕ) → is_white b ≡ false → eqb b 59 ≡ false → eqb b 40 ≡ false → eqb b 91 ≡ false → eqb b 123 ≡ false → eqb b 41 ≡ false → eqb b 93 ≡ false
    → eqb b 125 ≡ false → eqb b 64 ≡ false → eqb b 34 ≡ false → is_unsupported b ≡ false → ends_token b ≡ false
unfolding ends_token is_delimiter
no_end b white h1 h2 h3 h4 h5 h6 h7 h8 h9 h10 = rw (white, h2, h3, h4, h5, h6, h7, h8, h9, h1) (unsupported (eqb b 94) (eqb b 126) (eqb b 92) (eqb b 96) h10)

next_by_shorter : (b : ℕ) (bs : List ℕ) → is_white b ≡ false → eqb b 59 ≡ false → NextShorter (length (b ∷ bs)) (next_by b bs)
unfolding next_by
next_by_shorter b bs dark code =
    let with_leading_byte : length bs < length (b ∷ bs) = omega arith in
    choose _ (eqb b 40) _ _ with_leading_byte (λ e1.
    choose _ (eqb b 91) _ _ with_leading_byte (λ e2.
    choose _ (eqb b 123) _ _ with_leading_byte (λ e3.
    choose _ (eqb b 41) _ _ with_leading_byte (λ e4.
    choose _ (eqb b 93) _ _ with_leading_byte (λ e5.
    choose _ (eqb b 125) _ _ with_leading_byte (λ e6.
    choose _ (eqb b 39) _ _ with_leading_byte (λ e7.
    choose _ (eqb b 64) _ _ with_leading_byte (λ e8.
    choose _ (eqb b 35) _ _ (dispatch_shorter bs) (λ e9.
    choose _ (eqb b 34) _ _ (string_shorter _ (contents bs) (contents_le _ _ (contents bs) (omega arith) (contents_shorter bs))) (λ e10.
    choose _ (is_unsupported b) _ _ tt (λ e11.
    token_shorter b bs (no_end b dark code e1 e2 e3 e4 e5 e6 e8 e10 e11))))))))))))

-- neither white space nor the beginning of a comment
IsDark : List ℕ → Type 0
IsDark [] = Unit {0}
IsDark (b ∷ bs) = (is_white b ≡ false) × (eqb b 59 ≡ false)

record IsBared (n : ℕ) (text : List ℕ) : Type 0 where
  dark : IsDark text
  bound : length text ≤ n

bared_more : (n : ℕ) (text : List ℕ) → IsBared n text → IsBared (suc n) text
bared_more n text h = record { dark = h.dark; bound = omega (arith, h.bound) }

bared_by : (b : ℕ) (bs : List ℕ) (t : Bool) → t ≡ eqb b 59 → (u : Bool) → u ≡ is_white b → IsBared (length bs) (bare bs) → IsBared (length bs) (after_comment bs)
    → IsBared (length (b ∷ bs)) (cond t (after_comment bs) (cond u (bare bs) (b ∷ bs)))
unfolding IsDark
bared_by b bs true e u f x y = bared_more _ _ y
bared_by b bs false e true f x y = bared_more _ _ x
bared_by b bs false e false f x y = record { dark = (sym f, sym e); bound = omega arith }

commented_by : (b : ℕ) (bs : List ℕ) (t : Bool) → IsBared (length bs) (bare bs) → IsBared (length bs) (after_comment bs) → IsBared (length (b ∷ bs)) (cond t (bare bs) (after_comment bs))
commented_by b bs true x y = bared_more _ _ x
commented_by b bs false x y = bared_more _ _ y

mutual
  unfolding IsDark

  bared : (text : List ℕ) → IsBared (length text) (bare text)
  bared [] = record { dark = tt; bound = omega arith }
  bared (b ∷ bs) = bared_by b bs (eqb b 59) refl (is_white b) refl (bared bs) (commented bs)

  commented : (text : List ℕ) → IsBared (length text) (after_comment text)
  commented [] = record { dark = tt; bound = omega arith }
  commented (b ∷ bs) = commented_by b bs (eqb b 10) (bared bs) (commented bs)

of_bared : (n : ℕ) (text : List ℕ) → IsBared n text → NextShorter n (next_in_bare text)
unfolding IsDark
of_bared n [] h = tt
of_bared n (b ∷ bs) h = next_shorter_le _ n (next_by b bs) h.bound (next_by_shorter b bs h.dark.0 h.dark.1)

pub next_shorter : (text : List ℕ) → NextShorter (length text) (next_in text)
next_shorter text = of_bared _ (bare text) (bared text)

pub next_shorter_is : (text : List ℕ) (x : Next) → next_in text ≡ x → NextShorter (length text) x
next_shorter_is text x e = subst (λ (y : Next). NextShorter (length text) y) e (next_shorter text)

-- forms
wrapped_shorter : (n : ℕ) (name : List ℕ) (r : FormReading) → Shorter n r → Shorter n (wrapped_reading name r)
wrapped_shorter n name (begins d rest) h = h
wrapped_shorter n name (closes b rest) h = tt
wrapped_shorter n name ends h = tt
wrapped_shorter n name (breaks f) h = tt

wanted_shorter : (n : ℕ) (r : FormReading) → Shorter n r → Shorter n (form_or_fault r)
wanted_shorter n (begins d rest) h = h
wanted_shorter n (closes b rest) h = tt
wanted_shorter n ends h = tt
wanted_shorter n (breaks f) h = tt

keyed_shorter : (n : ℕ) (place : Option ℕ) (ps : Pairs) (rest : List ℕ) → length rest < n → Shorter n (map_or_fault place ps rest)
keyed_shorter n None ps rest h = h
keyed_shorter n (Some place) ps rest h = tt

map_shorter : (n : ℕ) (ps : Option Pairs) (rest : List ℕ) → length rest < n → Shorter n (map_of ps rest)
unfolding map_of
map_shorter n None rest h = tt
map_shorter n (Some ps) rest h = keyed_shorter n (first_repeat (keys_of ps)) ps rest h

collected_shorter : (n : ℕ) (b : Bracket) (ds : Items) (rest : List ℕ) → length rest < n → Shorter n (collection_reading b ds rest)
collected_shorter n round ds rest h = h
collected_shorter n square ds rest h = h
collected_shorter n curly ds rest h = map_shorter n (paired ds) rest h

enclosed_shorter : (n : ℕ) (b : Bracket) (ds : Items) (r : FormReading) → Shorter n r → Shorter n (enclosed_reading b ds r)
enclosed_shorter n b ds (begins d rest) h = h
enclosed_shorter n b ds (closes c rest) h = either n (same_bracket c b) _ (unmatched c rest) (collected_shorter n b ds rest h) tt
enclosed_shorter n b ds ends h = tt
enclosed_shorter n b ds (breaks f) h = tt

le_of : (m n : ℕ) → m < n → m ≤ n
le_of m n h = omega arith

mutual
  pub reads_shorter : (depth : ℕ) (text : List ℕ) (r : FormReading) → Reads depth text r → Shorter (length text) r
  reads_shorter _ _ _ (plain depth text r e) = next_shorter_is text _ e
  reads_shorter _ _ _ (marked depth text name rest r e h i) =
      shorter_le _ _ (wrapped_reading name r) (le_of _ _ (next_shorter_is text _ e)) (wrapped_shorter _ name r (reads_shorter _ _ _ i))
  reads_shorter _ _ _ (marked_deep depth text name rest e h) = tt
  reads_shorter _ _ _ (opened depth text rest b ds r e h i) =
      shorter_le _ _ (enclosed_reading b ds r) (le_of _ _ (next_shorter_is text _ e)) (enclosed_shorter _ b ds r (row_shorter _ _ _ _ i))
  reads_shorter _ _ _ (opened_deep depth text rest b e h) = tt
  reads_shorter _ _ _ (dropped depth text after rest d r e i j) =
      shorter_le (length rest) _ r (omega (arith, next_shorter_is text _ e, reads_shorter _ _ _ i)) (reads_shorter _ _ _ j)
  reads_shorter _ _ _ (undropped depth text after r e i h) =
      shorter_le _ _ (form_or_fault r) (le_of _ _ (next_shorter_is text _ e)) (wanted_shorter _ r (reads_shorter _ _ _ i))

  pub row_shorter : (depth : ℕ) (text : List ℕ) (ds : Items) (r : FormReading) → ReadsRow depth text ds r → Shorter (length text) r
  row_shorter _ _ _ _ (last depth text r i h) = reads_shorter _ _ _ i
  row_shorter _ _ _ _ (more depth text rest d ds r i j) = shorter_le _ _ r (le_of _ _ (reads_shorter _ _ _ i)) (row_shorter _ _ _ _ j)
