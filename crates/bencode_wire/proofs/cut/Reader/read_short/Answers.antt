use Rattle.std.proofs.Common.{◌≡◌, ◌∙◌, ap, sym, refl, subst, rules}
use Rattle.bencode_wire.specs.Tree.{string}
use Rattle.bencode_wire.specs.Inside.ByteSteps.{reads}
use Rattle.bencode_wire.specs.Inside.Cut as cuts
use Rattle.bencode_wire.specs.Inside.GoingBack.{IsStringToken}
use Rattle.bencode_wire.specs.Inside.Reader.{open_view, token_view}
use Rattle.bencode_wire.specs.Inside.View.{tree_view}
use Rattle.bencode_wire.specs.declared.ben.Ben.{Ben, the_lemmas}
use Rattle.bencode_wire.proofs.Tokens.{put_inside}
use Rattle.bencode_wire.proofs.Undos.{put_undoable, read_back}
use Rattle.bencode_wire.proofs.cut.Reader.read_short.Goals as goal

pub returns-in-Ok-clause-ok : goal.returns-in-Ok-clause-ok
returns-in-Ok-clause-ok c =
    let fs = open_view c.args.self.now.frames in
    let bytes = c.in_ok-string.string in
    let seen : tree_view (Ben.String bytes) ≡ string bytes.items = search (rules, the_lemmas) in
    let same : string c.args.string.now ≡ tree_view (Ben.String bytes) = sym (seen ∙ ap string c.in_ok-string.ensures.items) in
    rw same (put_inside fs (open_view c.put.new.self) (tree_view (Ben.String bytes)) c.in-Ok.field-0 c.requires.inside c.in-Ok.ensures.yields
    ∙ ap (λ t. reads (cuts.cut (open_view c.put.new.self) (token_view c.args.self.now.string.items t))) (sym c.requires.between))

pub returns-in-Ok-clause-back : goal.returns-in-Ok-clause-back
returns-in-Ok-clause-back c =
    read_back c.args.self.now _ (put_undoable _ c.args.self.now.frames c.put.new.self c.in-Ok.ensures.put) refl (λ h. subst IsStringToken c.requires.between h)
