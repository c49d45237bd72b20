use Rattle.std.proofs.Common.{◌≡◌, ◌≤◌, ◌+◌, ◌-◌, ◌<◌, false, nat_eq, length, sym, subst, ℕ, arith}
use Rattle.value_data.specs.Listed.{listed}
use Rattle.special_forms.specs.Shapes.{bound_forms}
use Rattle.special_forms.proofs.Shaping.{bound_if, named-some, named-none, bound-at, none-at, bound-end}
use Rattle.special_forms.proofs.shapes.are_bindings.Goals as goal

pub returns-then-is_none : goal.returns-then-is_none
returns-then-is_none c =
    let room : c.loop-place.place + 2 ≤ length (listed c.args.items.now.items) =
    omega (arith, c.loop-place-test.true, c.loop-place.invariant.within, c.len-count.ensures.count) in
    c.loop-place.invariant.left false (none-at _ _ _ room c.at.ensures (named-none _ _ c.simple_symbol.ensures c.if-is_none.ensures))

pub loop-place-preserved : goal.loop-place-preserved
loop-place-preserved c =
    let room : c.loop-place.place + 2 ≤ length (listed c.args.items.now.items) =
    omega (arith, c.loop-place-test.true, c.loop-place.invariant.within, c.len-count.ensures.count) in
    let named = named-some _ _ c.simple_symbol.ensures c.if-is_none.ensures in
    record {
      within = room;
      left = λ t rest. c.loop-place.invariant.left t (bound-at _ _ _ t named.0 room c.at.ensures named.1 rest);
    }

pub returns : goal.returns
returns c =
    let few : length (listed c.args.items.now.items) - c.loop-place.place < 2 = omega (arith, c.loop-place-test.false, c.len-count.ensures.count) in
    let P : ℕ → Type 0 = λ n. bound_forms (listed c.args.items.now.items) ≡ bound_if (nat_eq c.loop-place.place n) (listed c.args.items.now.items) in
    subst P (sym c.len-count.ensures.count)
    (c.loop-place.invariant.left (nat_eq c.loop-place.place (length (listed c.args.items.now.items))) (bound-end _ _ c.loop-place.invariant.within few))
