use Rattle.std.proofs.Common.{ap, ◌∙◌, string_bytes}
use Rattle.std.specs.Prelude.{option_map}
use Rattle.repl_replies.proofs.Requests.{text_read}
use Rattle.repl_replies.proofs.fields.text_in.Goals as goal

pub returns : goal.returns
returns c =
    ap (option_map string_bytes) c.ok.ensures.value ∙ text_read c.args.bytes c.from_utf8.result c.from_utf8.ensures.ok c.from_utf8.ensures.succeeds
