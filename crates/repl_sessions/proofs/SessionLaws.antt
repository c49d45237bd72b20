-- Sessions by their numbers, through each change of the list.
use Rattle.std.proofs.Common.{◌≡◌, ◌≢◌, ℕ, Bool, true, false, cond, not, eqb, List, [], ◌∷◌, ◌++◌}
use Rattle.std.proofs.Common.{map, filter, find, Option, Some, None, option_map, is_some, refl, sym}
use Rattle.std.proofs.Common.{ap, ◌∙◌}
use Rattle.std.proofs.lemmas.Bool.{eqb-true, ne_eqb}
use Rattle.repl_sessions.specs.State.{StateData}
use Rattle.repl_sessions.specs.Sessions.{SessionData, is_numbered, with_changed_state}

-- the state of the session of this number in a list
abbrev pub state_in : List SessionData → ℕ → Option StateData
state_in xs n = option_map (λ x. x.state) (find (is_numbered n) xs)

-- what is found behind one session more, by whether that one has the number
abbrev behind : Bool → StateData → Option StateData → Option StateData
behind b here there = cond b (Some here) there

state-behind : (x : SessionData) (xs : List SessionData) (m : ℕ) → state_in (x ∷ xs) m ≡ behind (eqb m x.number) x.state (state_in xs m)
state-behind x xs m = by (eqb m x.number)
  where
    by : (b : Bool) → option_map (λ y. y.state) (cond b (Some x) (find (is_numbered m) xs)) ≡ behind b x.state (state_in xs m)
    by true = refl
    by false = refl

pub change-kept : (f : StateData → StateData) (xs : List SessionData) (n : ℕ) → state_in (map (with_changed_state f n) xs) n ≡ option_map f (state_in xs n)
change-kept f [] n = refl
change-kept f (x ∷ xs) n = by (eqb n x.number) refl (change-kept f xs n)
  where
    by : (b : Bool) → eqb n x.number ≡ b → state_in (map (with_changed_state f n) xs) n ≡ option_map f (state_in xs n)
        → state_in (cond b (record x { state = f x.state }) x ∷ map (with_changed_state f n) xs) n ≡ option_map f (option_map (λ y. y.state) (cond b (Some x) (find (is_numbered n) xs)))
    by true e ih =
        state-behind (record x { state = f x.state }) (map (with_changed_state f n) xs) n
        ∙ ap (λ (b : Bool). behind b (f x.state) (state_in (map (with_changed_state f n) xs) n)) e
    by false e ih =
        state-behind x (map (with_changed_state f n) xs) n ∙ ap (λ (b : Bool). behind b x.state (state_in (map (with_changed_state f n) xs) n)) e ∙ ih

pub change-elsewhere : (f : StateData → StateData) (xs : List SessionData) (n m : ℕ) → n ≢ m → state_in (map (with_changed_state f n) xs) m ≡ state_in xs m
change-elsewhere f [] n m ne = refl
change-elsewhere f (x ∷ xs) n m ne =
    by (eqb n x.number) refl (change-elsewhere f xs n m ne) ∙ sym (state-behind x xs m)
  where
    by : (b : Bool) → eqb n x.number ≡ b → state_in (map (with_changed_state f n) xs) m ≡ state_in xs m
        → state_in (cond b (record x { state = f x.state }) x ∷ map (with_changed_state f n) xs) m ≡ behind (eqb m x.number) x.state (state_in xs m)
    by true e ih =
        let here : n ≡ x.number = eqb-true n x.number e in
        let apart : eqb m x.number ≡ false = ne_eqb m x.number (λ same. ne (here ∙ sym same)) in
        state-behind (record x { state = f x.state }) (map (with_changed_state f n) xs) m
        ∙ ap (λ (b : Bool). behind b (f x.state) (state_in (map (with_changed_state f n) xs) m)) apart ∙ ih
        ∙ sym (ap (λ (b : Bool). behind b x.state (state_in xs m)) apart)
    by false e ih =
        state-behind x (map (with_changed_state f n) xs) m ∙ ap (λ (o : Option StateData). behind (eqb m x.number) x.state o) ih

pub closed-gone : (xs : List SessionData) (n : ℕ) → is_some (state_in (filter (λ x. not (is_numbered n x)) xs) n) ≡ false
closed-gone [] n = refl
closed-gone (x ∷ xs) n = by (eqb n x.number) refl (closed-gone xs n)
  where
    by : (b : Bool) → eqb n x.number ≡ b → is_some (state_in (filter (λ y. not (is_numbered n y)) xs) n) ≡ false
        → is_some (state_in (cond (not b) (x ∷ filter (λ y. not (is_numbered n y)) xs) (filter (λ y. not (is_numbered n y)) xs)) n) ≡ false
    by true e ih = ih
    by false e ih =
        ap is_some (state-behind x (filter (λ y. not (is_numbered n y)) xs) n
        ∙ ap (λ (b : Bool). behind b x.state (state_in (filter (λ y. not (is_numbered n y)) xs) n)) e) ∙ ih

pub close-elsewhere : (xs : List SessionData) (n m : ℕ) → n ≢ m → state_in (filter (λ x. not (is_numbered n x)) xs) m ≡ state_in xs m
close-elsewhere [] n m ne = refl
close-elsewhere (x ∷ xs) n m ne = by (eqb n x.number) refl (close-elsewhere xs n m ne) ∙ sym (state-behind x xs m)
  where
    by : (b : Bool) → eqb n x.number ≡ b → state_in (filter (λ y. not (is_numbered n y)) xs) m ≡ state_in xs m
        → state_in (cond (not b) (x ∷ filter (λ y. not (is_numbered n y)) xs) (filter (λ y. not (is_numbered n y)) xs)) m
        ≡ behind (eqb m x.number) x.state (state_in xs m)
    by true e ih =
        let here : n ≡ x.number = eqb-true n x.number e in
        let apart : eqb m x.number ≡ false = ne_eqb m x.number (λ same. ne (here ∙ sym same)) in
        ih ∙ sym (ap (λ (b : Bool). behind b x.state (state_in xs m)) apart)
    by false e ih =
        state-behind x (filter (λ y. not (is_numbered n y)) xs) m ∙ ap (λ (o : Option StateData). behind (eqb m x.number) x.state o) ih

pub clone-elsewhere : (xs : List SessionData) (new : SessionData) (m : ℕ) → m ≢ new.number → state_in (xs ++ new ∷ []) m ≡ state_in xs m
clone-elsewhere [] new m ne =
    state-behind new [] m ∙ ap (λ (b : Bool). behind b new.state None) (ne_eqb m new.number ne)
clone-elsewhere (x ∷ xs) new m ne =
    state-behind x (xs ++ new ∷ []) m ∙ ap (λ (o : Option StateData). behind (eqb m x.number) x.state o) (clone-elsewhere xs new m ne)
    ∙ sym (state-behind x xs m)
