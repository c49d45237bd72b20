-- What the struct of the sessions keeps: numbers that are not used again, and an index by ids.
use Rattle.std.specs.Prelude.{◌≡◌, ℕ, ◌<◌, List, Bool, true, ◌&&◌, is_some}
use Rattle.std.specs.Str.{bytes_eq}
use Rattle.std.specs.BTreeMap.{BTreeMap, get, IsOrdered}
use Rattle.std.specs.BTreeSet.{BTreeSet, contains}
use Rattle.std.specs.Cmp.Lexicographic.{slice_cmp}
use Rattle.std.specs.Ordering.{nat_cmp, ordering_then}
use Rattle.std.specs.declared.cmp.Ordering.{Ordering}
use Rattle.repl_sessions.specs.Ids.{IdsData, id_text}
use Rattle.repl_sessions.specs.declared.state.SessionState.{SessionState}

abbrev pub Live : Type 0
Live = BTreeMap ℕ SessionState

-- the texts of ids, with numbers
abbrev pub Index : Type 0
Index = BTreeSet (List ℕ × ℕ)

-- whether a session of this number is open
abbrev pub has : Live → ℕ → Bool
has live number = is_some (get nat_cmp live number)

-- the order of the index: by the text, and then by the number
abbrev pub by_text : List ℕ × ℕ → List ℕ × ℕ → Ordering
by_text x y = ordering_then (slice_cmp nat_cmp x.0 y.0) (nat_cmp x.1 y.1)

pub record Keeps (ids : IdsData) (opened : ℕ) (live : Live) (index : Index) : Type 0 where
  pub ordered : IsOrdered nat_cmp live
  -- the number of the next session is none that was given
  pub below : (number : ℕ) → has live number ≡ true → number < opened
  -- the index has the id of each open session with its number, and nothing else
  pub indexed : (q : List ℕ × ℕ)
      → contains by_text index q ≡ (has live q.1 && bytes_eq (id_text ids q.1) q.0)
