-- What `describe` tells (the nREPL manual, "Supported nREPL operations").
use Rattle.std.specs.Prelude.{List, [], ◌∷◌, pos, codes}
use Rattle.bencode_wire.specs.Tree.{Tree, integer, dictionary, TreePairs, no_pairs, pair}
use Rattle.repl_replies.specs.OperationNames.{operation_name, operations}
use Rattle.repl_replies.specs.declared.names.OperationName.{OperationName}

-- each operation under its name, with nothing further said of it
abbrev pub ops : List OperationName → TreePairs
ops [] = no_pairs
ops (operation ∷ more) = pair (operation_name operation) (dictionary no_pairs) (ops more)

-- the server is of version 1.0
abbrev pub server_version : Tree
server_version =
    dictionary
    (pair (codes "major") (integer (pos 1))
    (pair (codes "minor") (integer (pos 0)) no_pairs))

abbrev pub server_versions : Tree
server_versions = dictionary (pair (codes "server") server_version no_pairs)

abbrev pub description : TreePairs
description =
    pair (codes "aux") (dictionary no_pairs)
    (pair (codes "ops") (dictionary (ops operations))
    (pair (codes "versions") server_versions no_pairs))
