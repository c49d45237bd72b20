-- Refs of which all can be told: what their histories count are numbers of the language, and they
-- have a value.
use Rattle.std.specs.Prelude.{◌≡◌, ◌<◌, ◌^◌, true, is_some}
use Rattle.std.specs.List.{AllByRecursion}
use Rattle.value_data.specs.Datum.{OwnerData}
use Rattle.ref_table.specs.Store.{Store}
use Rattle.ref_history.specs.Versioned.{Ref, newest}
use Rattle.ref_table.specs.Refs.{TableRefs}

pub record IsSoundRef (r : Ref) : Type 0 where
  pub kept : r.kept < 2 ^ 63
  pub least : r.least < 2 ^ 63
  pub most : r.most < 2 ^ 63
  pub value : is_some (newest r.versions) ≡ true

abbrev pub AreSound : TableRefs → Type 0
AreSound r = (owner : OwnerData) → AllByRecursion IsSoundRef (r.owned owner)

-- those that a tenant reaches
abbrev pub ReachesSound : Store → Type 0
ReachesSound s = AllByRecursion IsSoundRef s.around.refs × AllByRecursion IsSoundRef s.mine.refs
