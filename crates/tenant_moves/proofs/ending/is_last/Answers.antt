use Rattle.std.proofs.Common.{◌≡◌, ◌∙◌, ap, length, ◌==◌}
use Rattle.tenant_moves.proofs.Behind.{none-counted}
use Rattle.tenant_moves.proofs.ending.is_last.Goals as goal

pub returns : goal.returns
returns c =
    let forms = c.args.hand.now.forms in
    let counted : forms.len ≡ length forms.items = forms.ok.0 in
    c.is_empty.ensures ∙ ap (λ n. n == 0) counted ∙ none-counted forms.items
