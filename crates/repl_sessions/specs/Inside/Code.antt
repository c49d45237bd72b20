-- Codes by which a model holds sessions.
use Rattle.std.specs.Prelude.{ℕ, List, refl}
use Rattle.std.specs.Coded.{Coded, code_by, coded×, coded_list, coded_ℕ}
use Rattle.value_data.specs.Datum.{Datum}
use Rattle.value_data.specs.Inside.Code.{datum_code}
use Rattle.repl_sessions.specs.Ids.{IdsData}
use Rattle.repl_sessions.specs.State.{StateData}
use Rattle.repl_sessions.specs.Sessions.{SessionData, SessionsData}
use Rattle.repl_sessions.specs.Named.{NamedSessions}

-- a state, as its namespace and its four values
abbrev Fields : Type 0
Fields = List ℕ × (Datum × (Datum × (Datum × Datum)))

abbrev fields_code : Coded Fields
fields_code =
    let values = coded× datum_code (coded× datum_code (coded× datum_code datum_code)) in
    coded× (coded_list coded_ℕ) values

abbrev state_of_fields : Fields → StateData
state_of_fields p = record {
  namespace = p.0;
  one = p.1.0;
  two = p.1.1.0;
  three = p.1.1.1.0;
  fault = p.1.1.1.1;
}

abbrev pub state_code : Coded StateData
state_code =
    code_by Fields fields_code (λ s. (s.namespace, (s.one, (s.two, (s.three, s.fault)))))
    state_of_fields (λ _. refl)

abbrev pub session_code : Coded SessionData
session_code =
    code_by (ℕ × StateData) (coded× coded_ℕ state_code)
    (λ s. (s.number, s.state)) (λ p. record { number = p.0; state = p.1 }) (λ _. refl)

abbrev pub sessions_code : Coded SessionsData
sessions_code =
    code_by (ℕ × List SessionData) (coded× coded_ℕ (coded_list session_code))
    (λ s. (s.opened, s.live)) (λ p. record { opened = p.0; live = p.1 }) (λ _. refl)

abbrev pub ids_code : Coded IdsData
ids_code =
    code_by (List ℕ × ℕ) (coded× (coded_list coded_ℕ) coded_ℕ)
    (λ s. (s.seed, s.tenant)) (λ p. record { seed = p.0; tenant = p.1 }) (λ _. refl)

abbrev pub named_code : Coded NamedSessions
named_code =
    code_by (IdsData × SessionsData) (coded× ids_code sessions_code)
    (λ s. (s.ids, s.sessions)) (λ p. record { ids = p.0; sessions = p.1 }) (λ _. refl)
