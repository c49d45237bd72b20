use Rattle.value_data.specs.Inside.Order.{sort_key}
use Rattle.value_data.proofs.Ordered.{order-reverse}
use Rattle.repl_values.proofs.laws.order_is_antisymmetric.Goals as goal

pub returns : goal.returns
returns c = λ d e. order-reverse (sort_key d) (sort_key e)
