use Rattle.std.proofs.Common.{◌≡◌, ⊎_elim, ℕ, ◌+◌, ◌-◌, ◌<◌, ◌≤◌, get_or, subst, ap, sym, ◌∙◌, arith}
use Rattle.std.specs.declared.cmp.Ordering.TheVariants.{Less}
use Rattle.std.proofs.lemmas.Bool.{cases_lt}
use Rattle.value_data.specs.Inside.Order.{SortKey, order, sort_key}
use Rattle.value_data.specs.Inside.View.{view, pairs_view}
use Rattle.value_data.specs.Inside.Index.{key_at}
use Rattle.value_data.proofs.Ascending.{row-got, less-than}
use Rattle.value_data.proofs.building.are_ascending.Goals as goal

pub loop-rank-preserved : goal.loop-rank-preserved
loop-rank-preserved c =
    let ns = c.args.order.now in
    let ps = pairs_view c.args.pairs.now in
    let n = c.loop-rank.rank in
    let p = c.index-pairs-order.result in
    let q = c.index-pairs-order-in-loop-rank.result in
    let step : order (key_at ps (get_or ns (n - 1) 0)) (key_at ps (get_or ns n 0)) ≡ Less =
    ap (λ (x : SortKey). order x (key_at ps (get_or ns n 0)))
    (sym (row-got c.args.pairs.now (get_or ns (n - 1) 0) p c.index-pairs-order.is (c.requires.within (n - 1) 0 (omega (arith, c.loop-rank-test.true)))))
    ∙ ap (order (sort_key (view p.0)))
    (sym (row-got c.args.pairs.now (get_or ns n 0) q c.index-pairs-order-in-loop-rank.is (c.requires.within n 0 (omega (arith, c.loop-rank-test.true)))))
    ∙ sym c.compare.ensures
    ∙ less-than c.compare.result (sym c.is_lt.ensures ∙ c.if-not-is_lt.false) in
    record {
      some = omega arith;
      so_far =
          λ i l.
          ⊎_elim
          (λ (a : i + 1 < n). c.loop-rank.invariant.so_far i a)
          (λ (a : n ≤ i + 1).
          let before : n - 1 ≡ i = omega (arith, a, l, c.loop-rank.invariant.some) in
          let here : n ≡ i + 1 = omega (arith, a, l) in
          subst (λ (m : ℕ). order (key_at ps (get_or ns m 0)) (key_at ps (get_or ns (i + 1) 0)) ≡ Less) before
          (subst (λ (m : ℕ). order (key_at ps (get_or ns (n - 1) 0)) (key_at ps (get_or ns m 0)) ≡ Less) here step))
          (cases_lt (i + 1) n);
    }
