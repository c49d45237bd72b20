use Rattle.std.proofs.Common.{◌≡◌, length, string_bytes}
use Rattle.std.specs.Str.{IsUtf8}
use Rattle.repl_reader.specs.Reading.{contents, string_of}
use Rattle.repl_reader.specs.Inside.Quoted.{string_from}
use Rattle.repl_reader.proofs.strings.read_string.Given as goal

abbrev pub invariant-loop-contents : goal.invariant-loop-contents
invariant-loop-contents l = record {
  utf8 : IsUtf8 l.text;
  left : string_from (string_bytes l.contents) l.text ≡ string_of (contents l.fn.text);
}

abbrev pub decreases-loop-contents : goal.decreases-loop-contents
decreases-loop-contents l = length l.text
