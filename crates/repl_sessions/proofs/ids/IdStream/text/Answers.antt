use Rattle.std.proofs.Common.{◌∙◌, sym, ap, length, rules}
use Rattle.uuid.proofs.TextLemmas.{by_index_length}
use Rattle.repl_sessions.specs.Ids.{id_text}
use Rattle.repl_sessions.proofs.ids.IdStream.text.Goals as goal

pub copy_from_slice-requires : goal.copy_from_slice-requires
copy_from_slice-requires c =
    sym (c.as_bytes.ensures.len ∙ ap length c.encode_lower-written.ensures.text ∙ by_index_length 36 _)

pub returns : goal.returns
unfolding id_text
returns c = search rules
