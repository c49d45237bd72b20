use Rattle.value_data.specs.Inside.Order.{sort_key}
use Rattle.value_data.proofs.Ordered.{order-Less}
use Rattle.repl_values.proofs.laws.order_is_transitive.Goals as goal

pub returns : goal.returns
returns c = λ d e f. order-Less (sort_key d) (sort_key e) (sort_key f)
