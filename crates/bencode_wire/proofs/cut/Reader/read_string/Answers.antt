use Rattle.std.proofs.Common.{◌≡◌, ℕ, Vec, Global, ◌++◌, sym, ap, ◌∙◌, subst, take, length, refl, arith, rules}
use Rattle.std.proofs.lemmas.List.{take_at}
use Rattle.bencode_wire.specs.Tree.{string, Tree}
use Rattle.bencode_wire.specs.Spelling.{put_sorted}
use Rattle.bencode_wire.specs.Inside.Beginnings.{put}
use Rattle.bencode_wire.specs.Inside.Reader.{open_view}
use Rattle.bencode_wire.specs.Inside.Undoing.{PutBy}
use Rattle.bencode_wire.specs.Inside.View.{tree_view}
use Rattle.bencode_wire.specs.declared.ben.Ben.{Ben, the_lemmas}
use Rattle.bencode_wire.specs.declared.cut.Frames.{Frames}
use Rattle.bencode_wire.proofs.Tokens.{text_whole, comes_by, refuses_by, refuses_within}
use Rattle.bencode_wire.proofs.Undos.{put_back, same_back}
use Rattle.bencode_wire.proofs.cut.Reader.read_string.Goals as goal

pub returns-in-Ok-clause-reads : goal.returns-in-Ok-clause-reads
returns-in-Ok-clause-reads c =
    let fs = open_view c.args.self.now.frames in
    let all = c.replace-string.result in
    let items : all.items ≡ c.args.self.now.string.items ++ c.args.run.now = search rules in
    let seen : tree_view (Ben.String all) ≡ string all.items = search (rules, the_lemmas) in
    let over = c.if-run-part.false in
    c.keep.ensures.reads _ (comes_by _ _ _ _ (text_whole fs c.args.self.now.string.items c.args.part.left c.args.run.now (omega (arith, over)) ∙ ap (put put_sorted fs) (sym (seen ∙ ap string items))) c.in-Ok.ensures.yields)

pub returns-in-Ok-clause-back : goal.returns-in-Ok-clause-back
returns-in-Ok-clause-back c =
    let all = c.replace-string.result in
    let seen : tree_view (Ben.String all) ≡ string all.items = search (rules, the_lemmas) in
    let by : PutBy (string all.items) c.args.self.now.frames c.keep.new.self.frames =
    subst (λ (f : Frames). PutBy (string all.items) c.args.self.now.frames f) (sym c.keep.ensures.frames)
    (subst (λ (t : Tree). PutBy t c.args.self.now.frames c.put.new.self) seen c.in-Ok.ensures.put) in
    let items : all.items ≡ c.args.self.now.string.items ++ c.args.run.now = search rules in
    put_back c.args.self.now c.keep.new.self c.args.run.now all.items by c.keep.ensures.mark items

pub returns-in-Err-clause-reads : goal.returns-in-Err-clause-reads
returns-in-Err-clause-reads c =
    let fs = open_view c.args.self.now.frames in
    let all = c.replace-string.result in
    let items : all.items ≡ c.args.self.now.string.items ++ c.args.run.now = search rules in
    let seen : tree_view (Ben.String all) ≡ string all.items = search (rules, the_lemmas) in
    let over = c.if-run-part.false in
    refuses_within c.args.limit _ c.in-Err.field-0.kind
    (refuses_by _ _ _ (text_whole fs c.args.self.now.string.items c.args.part.left c.args.run.now (omega (arith, over)) ∙ ap (put put_sorted fs) (sym (seen ∙ ap string items))) c.in-Err.ensures.yields)

pub returns-in-Err-clause-back : goal.returns-in-Err-clause-back
returns-in-Err-clause-back c =
    let all = c.replace-string.result in
    let items : all.items ≡ c.args.self.now.string.items ++ c.args.run.now = search rules in
    let given : Ben.String all ≡ Ben.String c.bytes_of.result = sym c.in-Err.ensures.refused ∙ c.bytes_of.ensures in
    let same : all ≡ c.bytes_of.result = cc in
    let come : c.len-come.result ≡ length c.args.self.now.string.items = search rules in
    let cut : c.truncate.new.self.items ≡ c.args.self.now.string.items =
    c.truncate.ensures.items ∙ ap (λ (v : Vec ℕ Global). take c.len-come.result v.items) (sym same) ∙ ap (take c.len-come.result) items
    ∙ take_at c.args.self.now.string.items c.args.run.now c.len-come.result (sym come) in
    same_back c.args.self.now _ c.in-Err.ensures.same refl refl cut
