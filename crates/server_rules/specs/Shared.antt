-- The shared namespace: what its text defines when the server is made (the Clojure reference,
-- Namespaces). The forms of the text are evaluated in order, up to the first fault.
use Rattle.std.specs.Prelude.{ℕ, List, [], ◌∷◌, ◌++◌, Option, None, Some, option_map, slice_get}
use Rattle.std.specs.Prelude.{Result, Ok, Err, length, codes}
use Rattle.value_data.specs.Datum as datum
use Rattle.value_data.specs.Datum.{Datum, Items, no_items, item, OwnerData, shared, tenant}
use Rattle.repl_values.specs.Failure.{Failure, ◌>>=◌, broken_rule}
use Rattle.repl_values.specs.declared.rule.Rule.{Rule}
use Rattle.repl_reader.specs.Fault.{FaultData}
use Rattle.repl_asks.specs.Exchange as exchange
use Rattle.repl_asks.specs.Exchange.{AskData, AnswerData, ResolutionData, names_value, found}
use Rattle.repl_asks.specs.Job as jobs
use Rattle.repl_asks.specs.Job.{JobData}
use Rattle.repl_asks.specs.InteractionTree.{InteractionTree, finished, asks}
use Rattle.name_spaces.specs.Bindings.{Bindings, nothing_bound, rebound}
use Rattle.name_spaces.specs.Namespaces.{no_namespaces}
use Rattle.name_spaces.specs.Resolving as names
use Rattle.name_spaces.specs.Resolving.{FoundData, found_resolution, found_latest}
use Rattle.server_rules.specs.Readings.{Readings, text_failure}
use Rattle.ref_history.specs.Versioned.{Ref, new_ref}
use Rattle.ref_table.specs.Store.{newest_in_ref}

-- what the names of the shared namespace are bound to, and its refs, by their numbers
pub record SharedData : Type 0 where
  pub names : Bindings
  pub refs : List Ref

-- it is there without a text, and empty
abbrev pub nothing_shared : SharedData
nothing_shared = record { names = nothing_bound; refs = [] }

-- the text knows no results of a session
abbrev pub named_in_text : FoundData → ResolutionData
named_in_text (found_resolution r) = r
named_in_text (found_latest latest) = names_value datum.nil

-- the value of a ref of this owner and number, where it is a shared one
abbrev pub value_in_ref : OwnerData → ℕ → List Ref → Option Datum
value_in_ref shared n refs = newest_in_ref (slice_get refs n)
value_in_ref (tenant t) n refs = None

-- The text asks what symbols name, defines names, makes refs and reads them. It sees no tenant's
-- namespace. Nothing else is answered.
abbrev pub told_in_text : AskData → SharedData → Option AnswerData
told_in_text (exchange.resolve namespace symbol) s = Some (exchange.resolution
    (named_in_text (names.resolved s.names no_namespaces namespace symbol)))
told_in_text (exchange.define namespace name binding) s = Some exchange.done
told_in_text (exchange.new_ref d least most) s =
    Some (exchange.value (datum.ref shared (length s.refs)))
told_in_text (exchange.read name) s =
    option_map (λ d. exchange.reading (found d)) (value_in_ref name.owner name.number s.refs)
told_in_text ask s = None

-- the history of a shared ref has the bounds of a ref that is made without options
abbrev pub shared_after : AskData → SharedData → SharedData
shared_after (exchange.define namespace name binding) s =
    record s { names = rebound s.names name binding }
shared_after (exchange.new_ref d least most) s = record s {
  refs = s.refs ++ new_ref (record { stamp = 0; content = d }) 0 10 ∷ [];
}
shared_after ask s = s

-- a form that came to a value leaves what it defined; a fault ends the whole
abbrev pub left_by_form : Result Datum Failure → SharedData → Result SharedData Failure
left_by_form (Ok d) s = Ok s
left_by_form (Err f) s = Err f

abbrev pub when_told_in_text : Option AnswerData → (AnswerData → Result SharedData Failure)
    → Result SharedData Failure
when_told_in_text (Some answer) behind = behind answer
when_told_in_text None behind = Err (broken_rule Rule.SharedTextDefinesAlone)

-- what an evaluation makes of the shared namespace
abbrev pub shared_by : InteractionTree → SharedData → Result SharedData Failure
shared_by (finished e) s = left_by_form e.result s
shared_by (asks ask behind) s = when_told_in_text (told_in_text ask s)
    (λ answer. shared_by (behind answer) (shared_after ask s))

abbrev pub text_job : Datum → JobData
text_job d = record { work = jobs.shared_form d; namespace = codes "shared"; retries = 0 }

abbrev pub shared_by_forms : (JobData → InteractionTree) → Items → SharedData
    → Result SharedData Failure
shared_by_forms evaluation no_items s = Ok s
shared_by_forms evaluation (item d ds) s =
    shared_by (evaluation (text_job d)) s >>= shared_by_forms evaluation ds

-- a text that is not read to its end faults behind the last form before that
abbrev pub unless_unread : Option FaultData → SharedData → Result SharedData Failure
unless_unread None s = Ok s
unless_unread (Some f) s = Err (text_failure f)

-- what the text of the shared namespace comes to, as texts are read and forms evaluated
unfoldable pub shared_by_text
    : Readings → (JobData → InteractionTree) → List ℕ → Result SharedData Failure
shared_by_text readings evaluation text =
    let program = readings.program text in
    shared_by_forms evaluation program.forms nothing_shared >>= unless_unread program.fault
