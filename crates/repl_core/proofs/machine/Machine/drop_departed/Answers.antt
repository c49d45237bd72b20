use Rattle.repl_core.proofs.machine.Machine.drop_departed.Goals as goal

pub returns : goal.returns
returns c = λ g w s. record {
  names = s.names;
  seed = s.seed;
  steps = s.steps;
  retries = s.retries;
  places = s.places;
  refs = s.refs;
  table = c.drop_departed.ensures s.refs s.table;
  sound = s.sound;
  around = s.around;
  tenants = s.tenants;
  newest = s.newest;
  places_taken = s.places_taken;
}
