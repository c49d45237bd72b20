-- Parts of special forms that are taken one by one.
use denote.Ref.{Bor}
use Rattle.std.specs.declared.alloc.Global.{Global}
use Rattle.std.specs.declared.sync.ArcStr.{ArcStr}
use Rattle.std.specs.Option.{is_some}
use Rattle.std.proofs.Common.{◌≡◌, ℕ, ◌<◌, ◌≤◌, ◌+◌, ◌-◌, zero, suc, nat_eq, subst, Bool, true}
use Rattle.std.proofs.Common.{false, if◌then◌else◌, List, [], ◌∷◌, ◌++◌, Option, Some, None, get_or}
use Rattle.std.proofs.Common.{drop, length, refl, sym, ap, ◌∙◌, append_assoc, append-nil}
use Rattle.std.proofs.Common.{option_map, arith}
use Rattle.std.proofs.Math.Dec.{eqb-suc-suc}
use Rattle.std.specs.Arc.{arc_str_bytes}
use Rattle.std.specs.List.{list_any}
use Rattle.value_data.specs.Datum as datum
use Rattle.value_data.specs.Datum.{Datum, Items, nil, boolean, integer, string, keyword, symbol}
use Rattle.value_data.specs.Datum.{list, vector, ref, atom, agent, var, fault}
use Rattle.value_data.specs.Listed.{listed}
use Rattle.value_data.specs.Inside.View.{items_view, views}
use Rattle.value_data.specs.declared.value.Value.{Value}
use Rattle.value_data.proofs.Views.{value_views}
use Rattle.value_data.proofs.Lists.{listed-of, lists}
use Rattle.special_forms.specs.Rows.{BoundForm}
use Rattle.special_forms.specs.Inside.Bindings.{bindings_in, bound_name}
use Rattle.special_forms.specs.Kinds.{symbol_name, simple_name}
use Rattle.repl_values.specs.Slash.{is_slash}
use Rattle.special_forms.specs.Parameters.{parameter_name, parameter_names}
use Rattle.special_forms.specs.Shapes.{bound_forms}

pub ruleset seen = (value_views, lists)

-- what was taken before, and what is still taken
abbrev pub with_front : {A : Type 0} → List A → Option (List A) → Option (List A)
with_front front (Some xs) = Some (front ++ xs)
with_front front None = None

pub with_front-whole : {A : Type 0} (front : List A) → with_front front (Some []) ≡ Some front
with_front-whole front = ap Some (append-nil front)

with_front-more : {A : Type 0} (front : List A) (x : A) (rest : Option (List A)) → with_front front (option_map (λ xs. x ∷ xs) rest) ≡ with_front (front ++ x ∷ []) rest
with_front-more front x None = refl
with_front-more front x (Some xs) = ap Some (sym (append_assoc front (x ∷ []) xs))

-- one more parameter
pub parameter_step : (front : List (List ℕ)) (d : Datum) (ds : List Datum) (s : List ℕ) → parameter_name d ≡ Some s
    → with_front front (parameter_names (d ∷ ds)) ≡ with_front (front ++ s ∷ []) (parameter_names ds)
parameter_step front d ds s named = rw named (with_front-more front s (parameter_names ds))

pub parameter_fails : (d : Datum) (ds : List Datum) → parameter_name d ≡ None → parameter_names (d ∷ ds) ≡ None
parameter_fails d ds named = rw named refl

-- whether all names are simple
abbrev pub bound_if : Bool → List Datum → Option (List BoundForm)
bound_if t ds = if t then Some (bindings_in ds) else None

chosen_name : (t : Bool) (s r : List ℕ) → (if t then None else Some s) ≡ Some r → s ≡ r
chosen_name true s r h = cc
chosen_name false s r h = cc

-- what has a simple name is a symbol of that name
pub simple_name-bound_name : (d : Datum) (s : List ℕ) → simple_name d ≡ Some s → bound_name d ≡ s
unfolding simple_name symbol_name
simple_name-bound_name nil s h = cc
simple_name-bound_name (boolean b) s h = cc
simple_name-bound_name (integer n) s h = cc
simple_name-bound_name (string t) s h = cc
simple_name-bound_name (keyword t) s h = cc
simple_name-bound_name (symbol t) s h = chosen_name (list_any is_slash t) t s h
simple_name-bound_name (list ds) s h = cc
simple_name-bound_name (vector ds) s h = cc
simple_name-bound_name (datum.map ps) s h = cc
simple_name-bound_name (ref owner n) s h = cc
simple_name-bound_name (atom n) s h = cc
simple_name-bound_name (agent n) s h = cc
simple_name-bound_name (var space name) s h = cc
simple_name-bound_name (fault class text) s h = cc

-- a name and a form more
pub bound-step : (t : Bool) (d e : Datum) (ds : List Datum) (s : List ℕ) → simple_name d ≡ Some s → bound_forms ds ≡ bound_if t ds
    → bound_forms (d ∷ e ∷ ds) ≡ bound_if t (d ∷ e ∷ ds)
bound-step true d e ds s named rest = rw (named, rest, simple_name-bound_name d s named) refl
bound-step false d e ds s named rest = rw (named, rest) refl

pub bound-fails : (d e : Datum) (ds : List Datum) → simple_name d ≡ None → bound_forms (d ∷ e ∷ ds) ≡ None
bound-fails d e ds named = rw named refl

-- by their places
bound_behind : (ds : List Datum) (d : Datum) (t : Bool) (s : List ℕ) → 2 ≤ suc (length ds) → simple_name d ≡ Some s
    → bound_forms (drop 1 ds) ≡ bound_if t (drop 1 ds) → bound_forms (d ∷ ds) ≡ bound_if t (d ∷ ds)
bound_behind [] d t s h named rest = absurd (omega (arith, h))
bound_behind (e ∷ ds) d t s h named rest = bound-step t d e ds s named rest

bound_from : (ds : List Datum) (n : ℕ) (d : Datum) (t : Bool) (s : List ℕ) → suc (suc n) ≤ length ds → d ≡ get_or ds n d → simple_name d ≡ Some s
    → bound_forms (drop (suc (suc n)) ds) ≡ bound_if t (drop (suc (suc n)) ds) → bound_forms (drop n ds) ≡ bound_if t (drop n ds)
bound_from [] n d t s h is named rest = absurd (omega (arith, h))
bound_from (c ∷ ds) zero d t s h is named rest = bound_behind ds c t s h (ap simple_name (sym is) ∙ named) rest
bound_from (c ∷ ds) (suc n) d t s h is named rest = bound_from ds n d t s (omega (arith, h)) is named rest

pub bound-at : (ds : List Datum) (n : ℕ) (d : Datum) (t : Bool) (s : List ℕ) → n + 2 ≤ length ds → d ≡ get_or ds n d → simple_name d ≡ Some s
    → bound_forms (drop (n + 2) ds) ≡ bound_if t (drop (n + 2) ds) → bound_forms (drop n ds) ≡ bound_if t (drop n ds)
bound-at ds n d t s h is named rest =
    let two : n + 2 ≡ suc (suc n) = omega arith in
    bound_from ds n d t s (omega (arith, h)) is named (subst (λ (m : ℕ). bound_forms (drop m ds) ≡ bound_if t (drop m ds)) two rest)

none_behind : (ds : List Datum) (d : Datum) → 2 ≤ suc (length ds) → simple_name d ≡ None → bound_forms (d ∷ ds) ≡ None
none_behind [] d h named = absurd (omega (arith, h))
none_behind (e ∷ ds) d h named = bound-fails d e ds named

pub none-at : (ds : List Datum) (n : ℕ) (d : Datum) → n + 2 ≤ length ds → d ≡ get_or ds n d → simple_name d ≡ None → bound_forms (drop n ds) ≡ None
none-at [] n d h is named = absurd (omega (arith, h))
none-at (c ∷ ds) zero d h is named = none_behind ds c h (ap simple_name (sym is) ∙ named)
none-at (c ∷ ds) (suc n) d h is named = none-at ds n d (omega (arith, h)) is named

pub bound-end : (ds : List Datum) (n : ℕ) → n ≤ length ds → length ds - n < 2 → bound_forms (drop n ds) ≡ bound_if (nat_eq n (length ds)) (drop n ds)
bound-end [] zero h few = refl
bound-end [] (suc n) h few = absurd (omega (arith, h))
bound-end (d ∷ []) zero h few = refl
bound-end (d ∷ e ∷ ds) zero h few = absurd (omega (arith, few))
bound-end (d ∷ ds) (suc n) h few = rw eqb-suc-suc (bound-end ds n (omega (arith, h)) (omega (arith, few)))

-- the items that a slice stands for
pub views-listed : (vs : List Value) (xs : Items) → items_view vs ≡ xs → views vs ≡ listed xs
views-listed vs xs is = sym (listed-of (views vs)) ∙ ap listed is

-- whether a symbol was found
pub named-none : (o : Option (Bor (ArcStr Global))) (d : Datum) → option_map (λ name. arc_str_bytes name.now) o ≡ simple_name d → is_some o ≡ false → simple_name d ≡ None
named-none None d is h = sym is
named-none (Some name) d is h = cc

pub named-some : (o : Option (Bor (ArcStr Global))) (d : Datum) → option_map (λ name. arc_str_bytes name.now) o ≡ simple_name d → is_some o ≡ true → (s : List ℕ) × (simple_name d ≡ Some s)
named-some None d is h = cc
named-some (Some name) d is h = (arc_str_bytes name.now, sym is)
