-- Journals that go on, and that lead to one server.
use Rattle.std.proofs.Common.{◌≡◌, ◌∙◌, List, [], ◌∷◌, ◌++◌, sym, ap, subst}
use Rattle.server_rules.specs.Ground.{Ground}
use Rattle.server_rules.specs.Machine.World.{World, world_or}
use Rattle.journal_book.specs.Journal.{LeadsBy, EntryData, MakesEntry, IsJournal}

joined : {S E : Type 0} (leads : S → E → S → Type 0) (first then : List E) (s between now : S)
    → LeadsBy leads s first between → LeadsBy leads between then now → LeadsBy leads s (first ++ then) now
joined leads [] then s between now h k = subst (λ x. LeadsBy leads x then now) (sym h) k
joined leads (e ∷ es) then s between now h k =
    (h.0, h.1, joined leads es then h.0 between now h.2 k)

one : {S E : Type 0} (leads : S → E → S → Type 0)
    → ((s a b : S) (e : E) → leads s e a → leads s e b → a ≡ b)
    → (es : List E) (s now other : S) → LeadsBy leads s es now → LeadsBy leads s es other → now ≡ other
one leads single [] s now other h k = sym h ∙ k
one leads single (e ∷ es) s now other h k =
    one leads single es h.0 now other h.2
    (subst (λ x. LeadsBy leads x es other) (single s k.0 h.0 e k.1 h.1) k.2)

makes-one : (g : Ground) (w a b : World) (e : EntryData) → MakesEntry g w e a → MakesEntry g w e b → a ≡ b
makes-one g w a b e h k = ap (world_or w) (sym h ∙ k)

pub join : (g : Ground) (w between now : World) (first then : List EntryData)
    → IsJournal g w first between → IsJournal g between then now → IsJournal g w (first ++ then) now
join g w between now first then h k = joined (MakesEntry g) first then w between now h k

pub leads-to-one : (g : Ground) (w now other : World) (journal : List EntryData)
    → IsJournal g w journal now → IsJournal g w journal other → now ≡ other
leads-to-one g w now other journal h k = one (MakesEntry g) (makes-one g) journal w now other h k
