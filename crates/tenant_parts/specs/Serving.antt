-- The table of refs serves a tenant.
use Rattle.std.specs.Prelude.{◌≡◌, Option}
use Rattle.repl_asks.specs.Exchange.{AnswerData}
use Rattle.ref_table.specs.Performed.{Performed}
use Rattle.ref_table.specs.Store.{Store}
use Rattle.ref_history.specs.RingHistories.{RingStands}
use Rattle.ref_history.specs.declared.ring_history.RingHistory.{RingHistory}
use Rattle.ref_table.specs.Refs.{TableRefs, store_of}
use Rattle.ref_table.specs.Standing as refs
use Rattle.ref_table.specs.Told as refs_told
use Rattle.ref_table.specs.declared.table.RefTable.{RefTable}
use Rattle.tenant_parts.specs.Attempts.{Reaches}
use Rattle.tenant_parts.specs.Sound.{AreSound}
use Rattle.tenant_parts.specs.declared.attempts.Attempts.{Attempts}

abbrev pub RingRefTable : Type 0
RingRefTable = RefTable RingHistory

-- the table stands for the refs of all, of which the tenant reaches this
pub record TableServes (table : RingRefTable) (s : Store) (r : TableRefs) : Type 0 where
  pub stands : refs.TableStands RingStands table r
  pub sound : AreSound r
  pub reached : s ≡ store_of s.tenant s.mine.points r

-- and the attempts are those of the tenant
pub record ServesWithAttempts (table : RingRefTable) (attempts : Attempts) (s : Store)
    (r : TableRefs) : Type 0 where
  pub serves : TableServes table s r
  pub reaches : Reaches attempts s

-- a call came to what the rules tell, and all is as they leave it
pub record PerformsCall (table : RingRefTable) (attempts : Attempts) (r : TableRefs)
    (answer : Option AnswerData)
    (p : Performed Store) : Type 0 where
  pub called : refs_told.Performs RingStands table r answer p
  pub reaches : Reaches attempts p.store
