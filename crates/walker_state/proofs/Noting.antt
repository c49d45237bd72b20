-- Reads and sets of refs, where a transaction runs and where none does.
use Rattle.std.specs.Global.{Global}
use Rattle.std.specs.Prelude.{Box, string_bytes}
use Rattle.std.proofs.Common.{◌≡◌, ◌∙◌, ap, Bool, true, false, Some, None, Err, refl}
use Rattle.std.proofs.Common.{sym}
use Rattle.value_data.specs.Datum.{Datum}
use Rattle.repl_values.specs.Failure.{Failure, broken_rule}
use Rattle.repl_values.specs.declared.rule.Rule.{Rule}
use Rattle.repl_asks.specs.Transactions.{RefNameData}
use Rattle.repl_asks.specs.Exchange.{read}
use Rattle.repl_asks.specs.Inside.View.{name_view}
use Rattle.repl_asks.specs.InteractionTree.{asks}
use Rattle.value_data.specs.declared.value.RefName.{RefName}
use Rattle.repl_asks.specs.Accesses.{AccessData, put, noted, attempt_value, is_commuted}
use Rattle.tx_attempt.specs.Inside.Seen.{attempt_view}
use Rattle.tx_attempt.specs.declared.attempt.Attempt.{Attempt}
use Rattle.evaluation_rules.specs.Doing.{Doing, noting, pure_part}
use Rattle.evaluation_rules.specs.Tree.{ends}
use Rattle.evaluation_rules.specs.Refs.{ref_value, put_by, put_value}
use Rattle.walker_state.specs.Pending.{tree_with_answer, from_state, kept_of, next_of, whole}
use Rattle.walker_state.specs.UnderWay.{again, inside_attempt, so_far}
use Rattle.walker_state.proofs.Stepping.{fails-at, inside_attempt-looking}
use Rattle.walker_state.specs.declared.frames.State.{State}
use Rattle.walker_state.specs.declared.frames.Transaction.{Transaction}
use Rattle.walker_state.specs.declared.frames.Wanted.{Wanted}

pub asked-outside : (s : State) (name : RefName) → s.transaction ≡ None
    → asks (read (name_view name)) (λ answer. tree_with_answer (Wanted.Reading name) answer s) ≡ from_state (ref_value (name_view name)) s
unfolding inside_attempt attempt_value
asked-outside s name none = rw none refl

pub noted-outside : (s : State) (op : AccessData) (d : Doing) → s.transaction ≡ None
    → whole (record s { transaction = None }) d ≡ whole s (noting op d)
unfolding inside_attempt
noted-outside s op d none = rw none refl

pub noted-inside : (s : State) (t u : Box Transaction Global) (a : Attempt) (op : AccessData) (d : Doing) → s.transaction ≡ Some t
    → u.value ≡ record (t.value) { attempt = a } → attempt_view a ≡ noted op (attempt_view t.value.attempt)
    → whole (record s { transaction = Some u }) d ≡ whole s (noting op d)
unfolding inside_attempt again
noted-inside s t u a op d runs is now = rw (runs, is, now) refl

-- A ref is set

pub put-outside : (s : State) (name : RefNameData) (v : Datum) → s.transaction ≡ None
    → from_state (pure_part v) (record s { transaction = None }) ≡ from_state (put_value name v) s
unfolding put_value inside_attempt is_commuted
put-outside s name v none = rw none refl

put-at : (s : State) (name : RefNameData) (v : Datum) (b : Bool) → is_commuted name (so_far s.transaction) ≡ b
    → from_state (put_value name v) s ≡ from_state (put_by name v b) s
unfolding put_value
put-at s name v b is =
    inside_attempt-looking s.setting s.transaction _ _ (string_bytes s.text)
    ∙ ap (λ c. whole s (put_by name v c (next_of s) (kept_of s))) is

kept-inside : (s : State) (t u : Box Transaction Global) → s.transaction ≡ Some t
    → kept_of (record s { transaction = Some u }) ≡ kept_of s
kept-inside s t u runs = rw runs refl

pub put-inside : (s : State) (t u : Box Transaction Global) (a : Attempt) (name : RefNameData) (v : Datum) → s.transaction ≡ Some t
    → u.value ≡ record (t.value) { attempt = a } → attempt_view a ≡ noted (put name v) (attempt_view t.value.attempt)
    → is_commuted name (attempt_view t.value.attempt) ≡ false
    → from_state (pure_part v) (record s { transaction = Some u }) ≡ from_state (put_value name v) s
put-inside s t u a name v runs is now free =
    ap (λ k. whole (record s { transaction = Some u }) (next_of s v k)) (kept-inside s t u runs)
    ∙ noted-inside s t u a (put name v) (next_of s v (kept_of s)) runs is now
    ∙ sym (put-at s name v false (ap (λ t. is_commuted name (so_far t)) runs ∙ free))

-- one that was commuted is not
pub put-refused : (s : State) (t u : Box Transaction Global) (name : RefNameData) (v : Datum) (told : Failure) → s.transaction ≡ Some t
    → is_commuted name (attempt_view t.value.attempt) ≡ true → told ≡ broken_rule Rule.NoSetAfterCommute
    → ends (Err told) (string_bytes s.text) (kept_of (record s { transaction = Some u })) ≡ from_state (put_value name v) s
put-refused s t u name v told runs blocked is =
    ap (λ f. ends (Err f) (string_bytes s.text) (kept_of (record s { transaction = Some u }))) is
    ∙ ap (ends (Err (broken_rule Rule.NoSetAfterCommute)) (string_bytes s.text)) (kept-inside s t u runs)
    ∙ sym (fails-at (broken_rule Rule.NoSetAfterCommute) s)
    ∙ sym (put-at s name v true (ap (λ t. is_commuted name (so_far t)) runs ∙ blocked))
