-- What each kind of value is seen as.
use Rattle.std.proofs.Common.{◌≡◌, Bool, ℤ, ℕ, refl}
use Rattle.value_data.specs.Datum as datum
use Rattle.value_data.specs.Inside.Held.{SequenceData, TableData}
use Rattle.value_data.specs.Inside.View.{view, owner_view}
use Rattle.value_data.specs.declared.value.RefName.{RefName}
use Rattle.value_data.specs.declared.value.Value.TheVariants as is

pub view-Nil : view is.Nil ≡ datum.nil
view-Nil = refl

pub view-Bool : (b : Bool) → view (is.Bool b) ≡ datum.boolean b
view-Bool b = refl

pub view-Int : (n : ℤ) → view (is.Int n) ≡ datum.integer n
view-Int n = refl

pub view-List : (s : SequenceData) → view (is.List s) ≡ datum.list s.items
view-List s = refl

pub view-Vector : (s : SequenceData) → view (is.Vector s) ≡ datum.vector s.items
view-Vector s = refl

pub view-Map : (t : TableData) → view (is.Map t) ≡ datum.map t.pairs
view-Map t = refl

pub view-Ref : (r : RefName) → view (is.Ref r) ≡ datum.ref (owner_view r.owner) r.number
view-Ref r = refl

pub view-Atom : (n : ℕ) → view (is.Atom n) ≡ datum.atom n
view-Atom n = refl

pub view-Agent : (n : ℕ) → view (is.Agent n) ≡ datum.agent n
view-Agent n = refl

-- all of them
pub ruleset value_views = (view-Nil, view-Bool, view-Int, view-List, view-Vector, view-Map, view-Ref, view-Atom, view-Agent)
