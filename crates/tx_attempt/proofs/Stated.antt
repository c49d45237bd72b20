-- What is kept of refs, once something was done to one of them.
use Rattle.std.proofs.Common.{◌≡◌, List, [], ◌∷◌, ◌++◌, Bool, true, false, not, map}
use Rattle.std.proofs.Common.{Option, Some, None, is_some, cond, refl, sym, ap, ap₂, ◌∙◌, subst}
use mathlib.Core.Path.{fun_ext}
use Rattle.std.specs.declared.alloc.Global.{Global}
use Rattle.std.specs.Option.{option_map_or}
use Rattle.std.specs.Ordering.{is_eq}
use Rattle.std.specs.BTreeMap.{BTreeMap, get, Updates}
use Rattle.value_data.specs.Datum.{Datum}
use Rattle.value_data.specs.declared.value.RefName.{RefName}
use Rattle.repl_asks.specs.Transactions.{RefNameData, CommuteData, same_name}
use Rattle.repl_asks.specs.Sends.{SendingData}
use Rattle.repl_asks.specs.Inside.View.{name_view}
use Rattle.tx_attempt.specs.contracts.key.KeyOrd.TheImpl as order
use Rattle.tx_attempt.specs.declared.key.Key.{Key}
use Rattle.tx_attempt.specs.declared.state.RefState.{RefState}
use Rattle.tx_attempt.specs.declared.states.RefStates.{RefStates}
use Rattle.tx_attempt.specs.Inside.Keys.{key_of}
use Rattle.tx_attempt.specs.Inside.States.{RefStateData, States, states_of, ref_state_view, unnamed}
use Rattle.tx_attempt.specs.Inside.States.{with_ref_state}
use Rattle.tx_attempt.specs.Inside.Marks.{KeepsMark, NamesOnce, each_once}
use Rattle.repl_asks.specs.Accesses.{AttemptData, is_among}
use Rattle.tx_attempt.proofs.Names.{keys-tied, same_name-true}
use Rattle.tx_attempt.proofs.Listed.{among-with, once-with, listed}

-- a ref that was not kept is, or is kept otherwise
pub updated : (old new : RefStates) (k : Key) (name : RefNameData) (o : Option RefState) (n : RefNameData)
    → k ≡ key_of name → Updates (order.ghosts).cmp old.by_key new.by_key k o
    → states_of (order.ghosts).cmp new n
    ≡ with_ref_state name (option_map_or ref_state_view o unnamed) (states_of (order.ghosts).cmp old) n
unfolding states_of
updated old new k name o n key now =
    ap (λ found. option_map_or ref_state_view found unnamed)
    (now.0 (key_of n)
    ∙ ap (λ b. cond b o (get (order.ghosts).cmp old.by_key (key_of n)))
    (ap (λ (q : Key). is_eq ((order.ghosts).cmp q (key_of n))) key ∙ keys-tied name n))
    ∙ at (same_name name n) (get (order.ghosts).cmp old.by_key (key_of n))
  where
    at : (b : Bool) (found : Option RefState) → option_map_or ref_state_view (cond b o found) unnamed
        ≡ cond b (option_map_or ref_state_view o unnamed) (option_map_or ref_state_view found unnamed)
    at true found = refl
    at false found = refl

-- of a ref that is not found nothing is kept
pub unknown : (s : RefStates) (k : Key) (name : RefNameData) → k ≡ key_of name
    → get (order.ghosts).cmp s.by_key k ≡ None → states_of (order.ghosts).cmp s name ≡ unnamed
unfolding states_of
unknown s k name key none =
    ap (λ found. option_map_or ref_state_view found unnamed)
    (ap (get (order.ghosts).cmp s.by_key) (sym key) ∙ none)

-- a ref that was not kept is kept now, as if this was done to it
pub inserted : (alloc : Global) (s : RefStates) (between new : BTreeMap Key RefState) (k : Key)
    (name : RefNameData) (made : RefState) (change : RefStateData → RefStateData) (n : RefNameData)
    → k ≡ key_of name → None ≡ get (order.ghosts).cmp s.by_key k → between ≡ s.by_key
    → Updates (order.ghosts).cmp between new k (Some made) → ref_state_view made ≡ change unnamed
    → states_of (order.ghosts).cmp (record { alloc = alloc; by_key = new }) n
    ≡ with_ref_state name (change (states_of (order.ghosts).cmp s name)) (states_of (order.ghosts).cmp s) n
inserted alloc s between new k name made change n key none same now is =
    updated s (record { alloc = alloc; by_key = new }) k name (Some made) n key
    (subst (λ (m : BTreeMap Key RefState). Updates (order.ghosts).cmp m new k (Some made)) same now)
    ∙ ap (λ x. with_ref_state name x (states_of (order.ghosts).cmp s) n)
    (is ∙ ap change (sym (unknown s k name key (sym none))))

-- a ref that was commuted is kept
pub commuted-known : (s : RefStates) (name : RefNameData)
    → (states_of (order.ghosts).cmp s name).is_commuted ≡ true
    → is_some (states_of (order.ghosts).cmp s name).value ≡ true
unfolding states_of
commuted-known s name e = at (get (order.ghosts).cmp s.by_key (key_of name)) e
  where
    at : (o : Option RefState) → (option_map_or ref_state_view o unnamed).is_commuted ≡ true
        → is_some (option_map_or ref_state_view o unnamed).value ≡ true
    at None e = absurd (cc)
    at (Some state) e = refl

-- what an attempt has, by what is kept

abbrev pub data_of : List SendingData → States → List RefName → List RefName → List RefName → AttemptData
data_of sends all sets ensured commuted = record {
  value = λ n. (all n).value;
  commutes = λ n. (all n).commutes;
  sets = map name_view sets;
  ensured = map name_view ensured;
  commuted = map name_view commuted;
  sends = sends;
}

pub same-data : (sends : List SendingData) (f g : States) (s t e d c b : List RefName)
    → ((n : RefNameData) → g n ≡ f n) → t ≡ s → d ≡ e → b ≡ c
    → data_of sends g t d b ≡ data_of sends f s e c
same-data sends f g s t e d c b alike sets ensured commuted =
    ap₂ (λ (all : States) (names : List RefName). data_of sends all names d b) (fun_ext alike) sets
    ∙ ap₂ (λ (xs ys : List RefName). data_of sends f s xs ys) ensured commuted

-- A ref has a new state.
pub record Restated (f g : States) (name : RefNameData) (new : RefStateData) : Type 0 where
  pub at : (n : RefNameData) → g n ≡ with_ref_state name new f n

pub values-now : (f g : States) (name : RefNameData) (new : RefStateData) (d : Datum)
    → Restated f g name new → new.value ≡ Some d
    → ◌≡◌ {A = RefNameData → Option Datum} (λ n. (g n).value)
    (λ n. cond (same_name name n) (Some d) (f n).value)
values-now f g name new d now is =
    fun_ext (λ n. ap (λ (s : RefStateData). s.value) (now.at n) ∙ at n (same_name name n))
  where
    at : (n : RefNameData) (b : Bool) → (cond b new (f n)).value ≡ cond b (Some d) (f n).value
    at n true = is
    at n false = refl

pub commutes-stay : (f g : States) (name : RefNameData) (new : RefStateData)
    → Restated f g name new → new.commutes ≡ (f name).commutes
    → ◌≡◌ {A = RefNameData → List CommuteData} (λ n. (g n).commutes) (λ n. (f n).commutes)
commutes-stay f g name new now is =
    fun_ext (λ n. ap (λ (s : RefStateData). s.commutes) (now.at n) ∙ at n (same_name name n) refl)
  where
    at : (n : RefNameData) (b : Bool) → same_name name n ≡ b → (cond b new (f n)).commutes ≡ (f n).commutes
    at n true same = is ∙ ap (λ m. (f m).commutes) (same_name-true name n same)
    at n false same = refl

pub commutes-more : (f g : States) (name : RefNameData) (new : RefStateData) (c : CommuteData)
    → Restated f g name new → new.commutes ≡ (f name).commutes ++ c ∷ []
    → ◌≡◌ {A = RefNameData → List CommuteData} (λ n. (g n).commutes)
    (λ n. cond (same_name name n) ((f n).commutes ++ c ∷ []) (f n).commutes)
commutes-more f g name new c now is =
    fun_ext (λ n. ap (λ (s : RefStateData). s.commutes) (now.at n) ∙ at n (same_name name n) refl)
  where
    at : (n : RefNameData) (b : Bool) → same_name name n ≡ b
        → (cond b new (f n)).commutes ≡ cond b ((f n).commutes ++ c ∷ []) (f n).commutes
    at n true same = is ∙ ap (λ m. (f m).commutes ++ c ∷ []) (same_name-true name n same)
    at n false same = refl

-- the marks of a list that stays
pub marks-stay : (mark : RefStateData → Bool) (f g : States) (name : RefNameData) (new : RefStateData)
    (names : List RefName) → Restated f g name new → mark new ≡ mark (f name)
    → KeepsMark mark f names → KeepsMark mark g names
marks-stay mark f g name new names now same kept n =
    ap mark (now.at n) ∙ at (same_name name n) refl ∙ kept n
  where
    at : (b : Bool) → same_name name n ≡ b → mark (cond b new (f n)) ≡ mark (f n)
    at true e = same ∙ ap (λ m. mark (f m)) (same_name-true name n e)
    at false e = refl

-- and of one to which the ref is added
pub marks-more : (mark : RefStateData → Bool) (f g : States) (name : RefName) (new : RefStateData)
    (first : Bool) (before after : List RefName) → Restated f g (name_view name) new → mark new ≡ true
    → first ≡ not (mark (f (name_view name))) → after ≡ cond first (before ++ name ∷ []) before
    → KeepsMark mark f before → KeepsMark mark g after
marks-more mark f g name new first before after now marked is e kept n =
    ap mark (now.at n) ∙ at (same_name (name_view name) n)
    ∙ ap (cond (same_name (name_view name) n) true) (kept n)
    ∙ sym (among-with n (name_view name) (map name_view before))
    ∙ sym (ap (is_among n) (listed first (mark (f (name_view name))) name before after is (kept (name_view name)) e))
  where
    at : (b : Bool) → mark (cond b new (f n)) ≡ cond b true (mark (f n))
    at true = marked
    at false = refl

pub once-more : (mark : RefStateData → Bool) (f : States) (name : RefName) (first : Bool)
    (before after : List RefName) → first ≡ not (mark (f (name_view name)))
    → after ≡ cond first (before ++ name ∷ []) before → KeepsMark mark f before
    → NamesOnce before → NamesOnce after
once-more mark f name first before after is e kept once =
    ap each_once (listed first (mark (f (name_view name))) name before after is (kept (name_view name)) e)
    ∙ once-with (name_view name) (map name_view before) once
