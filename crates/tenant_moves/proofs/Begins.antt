-- Starts: the next form, and a request that is taken up.
use Rattle.std.proofs.Common.{◌≡◌, ℕ, List, Option, None, Some, refl, ap}
use Rattle.value_data.specs.Datum.{Datum, Items, no_items, item}
use Rattle.repl_replies.specs.Replies.{OriginData}
use Rattle.repl_sessions.specs.State.{StateData}
use Rattle.name_spaces.specs.Namespaces.{Namespaces}
use Rattle.server_rules.specs.Ground.{Ground}
use Rattle.server_rules.specs.Request.{WorkInHand, ProgramText, code, file}
use Rattle.server_rules.specs.Starting.{Started, next_begun, text_begun, elsewhere_begun}
use Rattle.tenant_moves.specs.Opening.{opened_hand, named_namespace, opened_elsewhere}
use Rattle.tenant_moves.specs.Starts.{first_item, form_begun_with, request_over, not_found}

-- what an opened request begins with
abbrev pub start_opened : Ground → OriginData → StateData → Option WorkInHand → Started
start_opened g origin state None = not_found origin state
start_opened g origin state (Some h) = next_begun g h state h.forms

elsewhere-so : (g : Ground) (origin : OriginData) (text : List ℕ) (state : StateData)
    (name : Option (List ℕ))
    → start_opened g origin state (opened_elsewhere g.readings origin text name)
    ≡ elsewhere_begun g origin text state name
elsewhere-so g origin text state None = refl
elsewhere-so g origin text state (Some name) = refl

pub opened_hand-begins : (g : Ground) (spaces : Namespaces) (origin : OriginData) (state : StateData)
    (text : ProgramText)
    → start_opened g origin state (opened_hand g.readings spaces origin state text)
    ≡ text_begun g spaces origin state text
opened_hand-begins g spaces origin state (code text None) = refl
opened_hand-begins g spaces origin state (code text (Some ns)) =
    elsewhere-so g origin text state (named_namespace spaces ns)
opened_hand-begins g spaces origin state (file text) = refl

-- the first of the forms begins
pub first-begins : (g : Ground) (h : WorkInHand) (state : StateData) (forms : Items) (d : Datum)
    → first_item forms ≡ Some d
    → form_begun_with g (record h { forms = forms }) state d
    ≡ next_begun g (record h { forms = forms }) state forms
first-begins g h state no_items d first = absurd (cc)
first-begins g h state (item e es) d first =
    ap (λ it. form_begun_with g (record h { forms = item e es }) state it) (cc)

-- there is none
pub none-begins : (g : Ground) (h : WorkInHand) (state : StateData) (forms : Items)
    → first_item forms ≡ None
    → request_over h state ≡ next_begun g (record h { forms = forms }) state forms
none-begins g h state no_items first = refl
none-begins g h state (item e es) first = absurd (cc)
