use Rattle.std.proofs.Common.{◌≡◌, ◌++◌, string_bytes}
use Rattle.std.specs.Str.Iter.{chars_rest}
use Rattle.repl_values.specs.Print.{escaped}
use Rattle.repl_values.proofs.print.push_escaped.Given as goal

abbrev pub invariant-loop-c : goal.invariant-loop-c
invariant-loop-c l =
    string_bytes l.out ++ escaped (chars_rest l.c-iterator) ≡ string_bytes l.initial.out ++ escaped l.text
