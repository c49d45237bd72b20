use Rattle.repl_core.proofs.machine.Machine.make_known.Goals as goal

-- a step that ends no form
pub returns-in_default : goal.returns-in_default
returns-in_default c = record {
  done = λ g w right s known. c.make.ensures.done g w right s;
  refused = λ g w right s known. c.make.ensures.refused g w right s;
  no_memory = λ g w right s known. c.make.ensures.no_memory g w right s;
  same = c.make.ensures.same;
}
