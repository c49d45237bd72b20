use Rattle.bencode_wire.proofs.containers.put_into.Goals as goal

pub returns-in-List-clause-puts : goal.returns-in-List-clause-puts
returns-in-List-clause-puts c = λ fs. rw c.in-List.is (c.put_item.ensures.puts fs)

pub returns-in-Dictionary-clause-puts : goal.returns-in-Dictionary-clause-puts
returns-in-Dictionary-clause-puts c = λ fs. rw c.in-Dictionary.is (c.put_pair.ensures.puts fs)
