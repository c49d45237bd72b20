use Rattle.std.proofs.Common.{sym, ap, ◌∙◌, subst}
use Rattle.std.specs.Prelude.{option_map}
use Rattle.bencode_wire.specs.Inside.View.{tree_view}
use Rattle.bencode_wire.specs.Inside.GoingBack.{TokenWas}
use Rattle.bencode_wire.specs.declared.cut.Token.{Token}
use Rattle.bencode_wire.proofs.Strings.{string_had}
use Rattle.bencode_wire.proofs.cut.Reader.take_back.Goals as goal

pub bytes_of-requires : goal.bytes_of-requires
bytes_of-requires c =
    let r = c.requires in
    let w = r.2 in
    let had = subst (λ (t : Token). TokenWas t c.args.self.now w.0 r.1) c.in-String.is w.2 in
    let back = c.take_back-first.ensures r.0 w.0 w.1 in
    string_had c.args.self.now (tree_view c.in-Some.value) w.0 had.0 (sym back.1 ∙ ap (option_map tree_view) c.in-Some.is) had.1
