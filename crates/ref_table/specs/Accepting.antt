-- Which intents are committed or meet a conflict or a fault, as the directory says it.
use Rattle.std.specs.Prelude.{ℕ, Bool, ◌&&◌}
use Rattle.std.specs.Ordering.{eq_by_cmp}
use Rattle.repl_asks.specs.Transactions.{IntentData}
use Rattle.ref_table.specs.Commit.{touched_refs, changing_refs, all_fit, all_take}
use Rattle.ref_history.specs.contracts.ref_id.RefIdOrd.TheImpl as order
use Rattle.ref_table.specs.Directory.{all_named, ids_named}
use Rattle.ref_table.specs.Placing.{all_distinct}
use Rattle.ref_table.specs.declared.directory.Directory.{Directory}

-- all refs are there, each may hold what it is set to, and what is commuted takes its arguments
abbrev pub may_commit : Directory → ℕ → IntentData → Bool
may_commit d caller intent =
    all_named d caller (touched_refs intent) && all_fit intent.sets && all_take intent.commuted

-- and none changes twice
abbrev pub is_acceptable : Directory → ℕ → IntentData → Bool
is_acceptable d caller intent =
    may_commit d caller intent
    && all_distinct (eq_by_cmp (order.ghosts).cmp) (ids_named d caller (changing_refs intent))
