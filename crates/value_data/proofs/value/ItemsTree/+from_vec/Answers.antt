use Rattle.std.proofs.lemmas.Result.{IfOk-weaker}
use Rattle.value_data.proofs.Rows.{split-views}
use Rattle.value_data.proofs.value.ItemsTree.+from_vec.Goals as goal

pub returns : goal.returns
returns t c =
    IfOk-weaker c.fork.result _ _
    (λ made joined. split-views _ _ _ _ _ _ _ c.in_ok-behind.ensures.items c.in_ok-behind.ensures.tail c.in_ok-from_vec.ensures c.in_ok-from_vec-2.ensures joined)
    c.fork.ensures
