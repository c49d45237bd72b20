use Rattle.std.proofs.Common.{◌≡◌, ap, ◌∙◌, rules}
use Rattle.bencode_wire.specs.Tree.{string}
use Rattle.bencode_wire.specs.Inside.View.{tree_view}
use Rattle.bencode_wire.specs.declared.ben.Ben.{the_lemmas}
use Rattle.bencode_wire.proofs.containers.put_key.Goals as goal

pub returns-in-String-clause-puts : goal.returns-in-String-clause-puts
returns-in-String-clause-puts c = λ fs.
    let seen : tree_view c.args.key ≡ string c.in-String.key.items = ap tree_view c.in-String.is ∙ search (rules, the_lemmas) in
    rw seen (c.put_name.ensures.puts fs)
