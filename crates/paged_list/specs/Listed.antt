-- What is seen of a list in pages.
use Rattle.std.specs.Prelude.{ℕ, List, refl}
use Rattle.std.specs.Coded.{Coded, code_by, coded×, coded_ℕ, coded_list}

-- its items, and for how many more there is room in its pages
pub record Listed (T : Type 0) : Type 0 where
  pub items : List T
  pub room : ℕ

abbrev pub listed_code : {T : Type 0} → Coded T → Coded (Listed T)
listed_code {T} code =
    code_by (List T × ℕ) (coded× (coded_list code) coded_ℕ) (λ l. (l.items, l.room))
    (λ p. record { items = p.0; room = p.1 }) (λ _. refl)
