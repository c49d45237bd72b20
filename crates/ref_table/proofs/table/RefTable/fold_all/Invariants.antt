use Rattle.std.proofs.Common.{◌≡◌, ◌++◌, ℕ, List, true, map, drop}
use Rattle.std.specs.Prelude.{Ok}
use Rattle.repl_values.specs.Failure.{◌>>=◌}
use Rattle.repl_asks.specs.Inside.View.{name_view, change_view, commuted_view}
use Rattle.ref_table.specs.Numbered.{Entry}
use Rattle.ref_table.specs.Store.{newest_value}
use Rattle.ref_table.specs.Commit.{all_take, all_folded}
use Rattle.ref_table.specs.Refs.{TableRefs, store_of}
use Rattle.ref_table.specs.Standing.{TableStands}
use Rattle.ref_table.proofs.table.RefTable.fold_all.Given as goal

-- what is folded and what is left to be folded
abbrev pub invariant-loop-one : goal.invariant-loop-one
invariant-loop-one g l = record {
  takes : all_take (map commuted_view (drop l.one-index l.commuted)) ≡ true;
  folded : (r : TableRefs) (points : List (Entry ℕ)) → TableStands g.H.History.stands l.self r
      → all_folded (λ name. newest_value name (store_of l.caller points r))
      (map commuted_view l.commuted)
      ≡ (all_folded (λ name. newest_value name (store_of l.caller points r))
      (map commuted_view (drop l.one-index l.commuted))
      >>= λ rest. Ok (map change_view l.changes.items ++ rest));
  names : map (λ c. name_view c.name) l.changes.items
      ++ map (λ c. name_view c.name) (drop l.one-index l.commuted)
      ≡ map (λ c. name_view c.name) l.commuted;
}
