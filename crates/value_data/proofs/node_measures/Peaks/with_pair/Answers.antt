use Rattle.value_data.specs.Inside.View.{view}
use Rattle.value_data.proofs.Growing.{peak-behind}
use Rattle.value_data.proofs.node_measures.Peaks.with_pair.Goals as goal

pub returns : goal.returns
returns c = λ ps fits. record {
  first = cc (peak-behind 0xD6E8FEB86659FD93 ps (view c.args.key.now) (view c.args.value.now));
  second = cc (peak-behind 0x2917014799A6026D ps (view c.args.key.now) (view c.args.value.now));
  third = cc (peak-behind 0xBF58476D1CE4E5B9 ps (view c.args.key.now) (view c.args.value.now));
  fourth = cc (peak-behind 0x40A7B892E31B1A47 ps (view c.args.key.now) (view c.args.value.now));
}
