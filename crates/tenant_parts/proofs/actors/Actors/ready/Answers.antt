use Rattle.std.proofs.Common.{◌∙◌, ap, sym, option_map, rules, tests}
use Rattle.std.specs.Map.Iter.{deref}
use Rattle.std.proofs.lemmas.Iterator.Consumers.{YieldsList-from_rest}
use Rattle.std.proofs.lemmas.Iterator.Search.{find_from_yields_List}
use Rattle.server_rules.specs.Machine.Ready.{may_begin}
use Rattle.tenant_parts.proofs.Seats.{seen}
use Rattle.tenant_parts.proofs.Finding.{passing, first-listed, names-ascend, covers-from, begins-busy}
use Rattle.tenant_parts.proofs.actors.Actors.ready.Goals as goal

pub returns-in_err-first : goal.returns-in_err-first
returns-in_err-first c =
    let self = c.args.self.now in
    let es = seen self.live.entries in
    let in_order = YieldsList-from_rest self.busy.keys c.iter.ensures.rest in
    c.from_residual.ensures
    ∙ ap (option_map deref) (sym c.in_err-first.was)
    ∙ find_from_yields_List (passing (λ it. may_begin it.waiting it.hand) es) _ _ c.find.result c.find.ensures.ran in_order
    (λ x b q h. search (rules, tests))
    ∙ first-listed (λ it. may_begin it.waiting it.hand) self.busy.keys es
    (names-ascend self.busy.keys c.iter.ensures.ordered) c.ascend.ensures
    (covers-from (λ it. may_begin it.waiting it.hand) self.busy es begins-busy self.listed)

pub returns : goal.returns
returns c =
    let self = c.args.self.now in
    let es = seen self.live.entries in
    let in_order = YieldsList-from_rest self.busy.keys c.iter.ensures.rest in
    ap (option_map deref) (sym c.in_ok-first.was)
    ∙ find_from_yields_List (passing (λ it. may_begin it.waiting it.hand) es) _ _ c.find.result c.find.ensures.ran in_order
    (λ x b q h. search (rules, tests))
    ∙ first-listed (λ it. may_begin it.waiting it.hand) self.busy.keys es
    (names-ascend self.busy.keys c.iter.ensures.ordered) c.ascend.ensures
    (covers-from (λ it. may_begin it.waiting it.hand) self.busy es begins-busy self.listed)
