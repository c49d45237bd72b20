-- Where a `dosync` stands, and which attempts are attempts at it.
use Rattle.std.specs.Prelude.{◌≡◌, ℕ, suc, List, false, codes}
use Rattle.value_data.specs.Datum.{Datum, symbol, list, Items, item}
use Rattle.value_data.specs.Listed.{listed}
use Rattle.repl_asks.specs.Exchange.{Exchanged}
use Rattle.repl_asks.specs.Leading.{tree_after}
use Rattle.evaluation_rules.specs.Doing.{Kept, Doing}
use Rattle.evaluation_rules.specs.Places.{PlaceData}
use Rattle.evaluation_rules.specs.Transactions.{attempts}
use Rattle.evaluation_rules.specs.Tree.{written_tree}
use Rattle.evaluation_rules.specs.Evaluation.{value_at}
use Rattle.evaluation_rules.specs.declared.occasion.Occasion.{Occasion}
use Rattle.repl_walker.specs.Agreeing.{dosync_body}
use Rattle.server_rules.specs.Ground.{Ground}
use Rattle.server_rules.specs.Request.{Run}

-- its forms, their place, the room for them, and what was kept where it began
pub record DosyncSetting : Type 0 where
  pub forms : List Datum
  pub place : PlaceData
  pub room : ℕ
  pub kept : Kept

abbrev pub body_in : DosyncSetting → Doing
body_in d = dosync_body d.room d.place d.forms d.kept

-- What a `dosync` of a form does, that stands in no other: up to so many attempts at its body.
abbrev pub DosyncsAreAttempts : Type 0
DosyncsAreAttempts =
    (d : DosyncSetting) (ds : Items) (next : Datum → Kept → Doing)
    → d.kept.occasion ≡ Occasion.Form → d.kept.running ≡ false → d.forms ≡ listed ds
    → value_at (suc d.room) d.place (list (item (symbol (codes "dosync")) ds)) next d.kept
    ≡ attempts d.kept.retries (body_in d) next d.kept

-- An attempt began behind this trace of its form, and this text was printed by then. It is one at
-- this `dosync`: what the form's evaluation had still to do is what so many attempts at that body
-- do.
pub record IsAttemptAt (g : Ground) (form : Run) (before : List Exchanged) (d : DosyncSetting)
    (printed : List ℕ) : Type 0 where
  pub more : ℕ
  pub next : Datum → Kept → Doing
  pub last : Kept
  pub stood : tree_after (g.evaluation form.job) before
      ≡ written_tree printed (attempts (suc more) (body_in d) next last)
