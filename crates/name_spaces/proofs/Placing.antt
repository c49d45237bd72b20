-- A namespace that is put among the others.
use Rattle.std.proofs.Common.{◌≡◌, ℕ, Bool, true, false, if◌then◌else◌, List, Option, Some}
use Rattle.std.proofs.Common.{Result, Ok, Err, OnOk, OnErr, is_some, option_map, refl, sym, ap, ◌∙◌}
use Rattle.std.specs.Str.{bytes_eq}
use Rattle.std.proofs.lemmas.Slice.Eq.{bytes_eq-Decides}
use mathlib.Core.Path.{fun_ext}
use Rattle.repl_asks.specs.Namespaces.{is_fixed}
use Rattle.name_spaces.specs.Bindings.{Bindings}
use Rattle.name_spaces.specs.Namespaces.{Namespaces, with_namespace}

-- one map after the other has this at the name, and all else as before
abbrev pub Updates : {X : Type 0} → (List ℕ → Option X) → (List ℕ → Option X) → List ℕ → X → Type 0
Updates old new name x = (q : List ℕ) → new q ≡ (if bytes_eq q name then Some x else old q)

-- nothing is there at a fixed name
abbrev pub HasNoFixed : {X : Type 0} → (List ℕ → Option X) → Type 0
HasNoFixed map = (q : List ℕ) → is_fixed q ≡ true → is_some (map q) ≡ false

shown : {X : Type 0} (see : X → Bindings) (fixed same : Bool) (x : X) (o : Option X) → fixed ≡ false
    → option_map see (if same then Some x else o)
    ≡ (if fixed then option_map see o else (if same then Some (see x) else option_map see o))
shown see true same x o e = cc
shown see false true x o e = refl
shown see false false x o e = refl

-- a map that has one more entry, or another one at its key, as it is seen
pub placed : {X : Type 0} (see : X → Bindings) (old new : List ℕ → Option X) (name : List ℕ) (x : X)
    → is_fixed name ≡ false → Updates old new name x
    → (λ q. option_map see (new q)) ≡ with_namespace (λ q. option_map see (old q)) name (see x)
placed see old new name x own updates = fun_ext (λ q.
    ap (option_map see) (updates q) ∙ shown see (is_fixed name) (bytes_eq q name) x (old q) own)

chosen : (fixed same : Bool) (x o : Option Bindings) → (same ≡ true → o ≡ x)
    → (if fixed then o else (if same then x else o)) ≡ o
chosen true same x o e = refl
chosen false true x o e = sym (e refl)
chosen false false x o e = refl

-- what a namespace binds already changes nothing
pub put_back : (namespaces : Namespaces) (name : List ℕ) (bindings : Bindings)
    → namespaces name ≡ Some bindings → with_namespace namespaces name bindings ≡ namespaces
put_back namespaces name bindings there = fun_ext (λ q. chosen (is_fixed name) (bytes_eq q name) _ _
    (λ same. ap namespaces ((bytes_eq-Decides q name).0 same) ∙ there))

no_fixed : {X : Type 0} (fixed same : Bool) (x : X) (o : Option X) → (same ≡ true → fixed ≡ false)
    → (fixed ≡ true → is_some o ≡ false) → fixed ≡ true
    → is_some (if same then Some x else o) ≡ false
no_fixed fixed true x o other before e = let f = other refl in cc
no_fixed fixed false x o other before e = before e

-- an entry at a name that is not fixed leaves none at a fixed one
pub own-placed : {X : Type 0} (old new : List ℕ → Option X) (name : List ℕ) (x : X)
    → is_fixed name ≡ false → Updates old new name x → HasNoFixed old → HasNoFixed new
own-placed old new name x own updates before q e = ap is_some (updates q)
    ∙ no_fixed (is_fixed q) (bytes_eq q name) x (old q)
    (λ same. ap is_fixed ((bytes_eq-Decides q name).0 same) ∙ own) (before q) e

-- what holds after either outcome
pub whichever : {X E P Q C : Type 0} (r : Result X E) → OnOk r P → OnErr r Q
    → (P → C) → (Q → C) → C
whichever (Ok x) p q f g = f p
whichever (Err e) p q f g = g q
