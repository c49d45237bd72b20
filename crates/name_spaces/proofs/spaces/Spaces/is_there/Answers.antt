use Rattle.std.proofs.Common.{rules, sym, ap, ◌∙◌, is_some, option_map}
use Rattle.std.specs.BTreeMap.{get_by_text}
use Rattle.name_spaces.specs.Namespaces.{is_there}
use Rattle.name_spaces.specs.Inside.Seen.{bound_in, namespaces_of}
use Rattle.name_spaces.proofs.Texts.{none-not_text}
use Rattle.name_spaces.proofs.spaces.Spaces.is_there.Goals as goal

pub returns-in-Ok-clause-found : goal.returns-in-Ok-clause-found
unfolding namespaces_of is_there
returns-in-Ok-clause-found c = search rules

pub returns-in-Ok-clause-fixed : goal.returns-in-Ok-clause-fixed
returns-in-Ok-clause-fixed c = λ fixed.
    let namespaces = c.args.self.now.namespaces in
    let same = ap (λ q. is_some (get_by_text namespaces q)) c.in-Ok.ensures.cases.0 in
    c.contains_key.ensures ∙ same ∙ c.args.self.now.own _ fixed

pub returns-in-Err-clause-found : goal.returns-in-Err-clause-found
unfolding namespaces_of is_there
returns-in-Err-clause-found c =
    let namespaces = c.args.self.now.namespaces in
    let none = none-not_text namespaces c.args.name.now c.in-Err.ensures.cases.0 in
    sym (ap (λ o. is_some (option_map bound_in o)) none)
