-- What the struct of the locals is seen as, and what it keeps: where the newest local of each name
-- stands.
use Rattle.std.specs.Prelude.{◌≡◌, ℕ, List, [], ◌∷◌, length, map, Option, Some, None, if◌then◌else◌}
use Rattle.std.specs.Prelude.{⊤, refl}
use Rattle.std.specs.Str.{bytes_eq}
use Rattle.std.specs.Coded.{Coded, code_by, coded×, coded_list, coded_ℕ}
use Rattle.std.specs.Arc.{arc_str_bytes}
use Rattle.std.specs.BTreeMap.{BTreeMap, get}
use Rattle.std.specs.Cmp.Lexicographic.{slice_cmp}
use Rattle.std.specs.Ordering.{nat_cmp}
use Rattle.std.specs.declared.alloc.Global.{Global}
use Rattle.std.specs.declared.cmp.Ordering.{Ordering}
use Rattle.std.specs.declared.sync.ArcStr.{ArcStr}
use Rattle.value_data.specs.Datum.{Datum}
use Rattle.value_data.specs.Inside.Code.{datum_code}
use Rattle.value_data.specs.Inside.View.{view}
use Rattle.special_forms.specs.Locals.{LocalData}
use Rattle.special_forms.specs.declared.local.Local.{Local}

abbrev pub locals_code : Coded (List LocalData)
locals_code =
    coded_list (code_by (List ℕ × Datum) (coded× (coded_list coded_ℕ) datum_code)
    (λ l. (l.name, l.bound)) (λ p. record { name = p.0; bound = p.1 })
    (λ _. refl))

abbrev pub local_view : Local → LocalData
local_view l = record { name = arc_str_bytes l.name; bound = view l.value }

-- the place of the newest local of this name, from 0 for the oldest of all
abbrev pub newest_place : List LocalData → List ℕ → Option ℕ
newest_place [] s = None
newest_place (l ∷ ls) s = if bytes_eq l.name s then Some (length ls) else newest_place ls s

-- each local knows the place of the next older one of its name
abbrev pub AreLinked : List Local → Type 0
AreLinked [] = ⊤
AreLinked (l ∷ ls) = (l.older ≡ newest_place (map local_view ls) (arc_str_bytes l.name))
    × AreLinked ls

abbrev pub by_bytes : ArcStr Global → ArcStr Global → Ordering
by_bytes x y = slice_cmp nat_cmp (arc_str_bytes x) (arc_str_bytes y)

-- the index has the place of the newest local of each name
abbrev pub HasNewest : BTreeMap (ArcStr Global) ℕ → List LocalData → Type 0
HasNewest index ls = (name : ArcStr Global)
    → get by_bytes index name ≡ newest_place ls (arc_str_bytes name)
