use Rattle.std.proofs.Common.{◌≡◌, ◌+◌, IfOk, drop, subst, sym, ap, ◌∙◌, arith}
use Rattle.value_data.specs.Datum.{Pairs}
use Rattle.value_data.specs.Inside.View.{view, items_view}
use Rattle.value_data.specs.Inside.Nodes.{entry_pairs}
use Rattle.value_data.specs.Put.{without_keys}
use Rattle.value_data.proofs.Removing.{without-more, without-none, keys-behind, keys-past}
use Rattle.value_data.proofs.value.Table.without_keys.Goals as goal

pub loop-key-preserved : goal.loop-key-preserved
loop-key-preserved c =
    let before = entry_pairs c.loop-key.edited.entries in
    let behind = items_view (drop (c.loop-key.key-index + 1) c.args.keys.now) in
    record {
      so_far =
          ap (λ (ps : Pairs). without_keys ps behind) c.in_ok-edited.ensures.left
          ∙ sym (without-more before (view c.key-item.result) behind)
          ∙ sym (ap (without_keys before) (keys-behind c.args.keys.now c.loop-key.key-index c.key-item.result c.key-item.is c.loop-key-test.true))
          ∙ c.loop-key.invariant.so_far;
      keeps = c.in_ok-edited.ensures.keeps;
    }

pub returns : goal.returns
returns c =
    let before = entry_pairs c.loop-key.edited.entries in
    let all : before ≡ without_keys c.args.self.now.pairs (items_view c.args.keys.now) =
    sym (without-none before)
    ∙ sym (ap (without_keys before) (keys-past c.args.keys.now c.loop-key.key-index (omega (arith, c.loop-key-test.false))))
    ∙ c.loop-key.invariant.so_far in
    subst (λ (ps : Pairs). IfOk c.sealed.result (λ made. made.pairs ≡ ps)) all c.sealed.ensures
