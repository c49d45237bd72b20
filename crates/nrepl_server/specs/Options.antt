-- What the options of the program say.
use Rattle.std.specs.Prelude.{◌≡◌, ℕ, ◌≤◌, List, replicate, Option, None, Some, Ok}
use Rattle.std.specs.Str.Parse.{IsNumeral, digits_value, without_leading_plus}
use Rattle.hex.specs.Hex.{decode_sized}
use Rattle.repl_core.specs.declared.machine.Config.{Config}
use Rattle.repl_core.specs.declared.machine.TheConstants.{STEPS, RETRIES}
use Rattle.nrepl_server.specs.declared.options.Service.{Service}
use Rattle.nrepl_server.specs.declared.options.TheConstants.{MOST_RETRIES, MOST_CONNECTIONS}
use Rattle.nrepl_server.specs.declared.options.TheConstants.{MOST_CREWS, CREWS}

-- a seed is 64 hexadecimal digits, in either case; it is all zeros where none is given
abbrev pub IsSeed : Option (List ℕ) → List ℕ → Type 0
IsSeed None seed = seed ≡ replicate 32 0
IsSeed (Some text) seed = decode_sized text 32 ≡ Ok seed

-- a decimal number from least to most, that is given
abbrev pub IsNumber : ℕ → ℕ → Option (List ℕ) → ℕ → Type 0
IsNumber least most None n = ⊥
IsNumber least most (Some text) n =
    IsNumeral 10 (without_leading_plus text)
    × (digits_value 10 (without_leading_plus text) ≡ n)
    × (least ≤ n) × (n ≤ most)

-- one from 1 to most, or what stands where none is given
abbrev pub IsNumberOr : ℕ → ℕ → Option (List ℕ) → ℕ → Type 0
IsNumberOr most otherwise None n = n ≡ otherwise
IsNumberOr most otherwise (Some text) n = IsNumber 1 most (Some text) n

-- the options say so of a server; 4,194,304 steps is what each tenant has
pub record Says (seed retries : Option (List ℕ)) (config : Config) : Type 0 where
  pub seed_is : IsSeed seed config.seed
  pub retries_are : IsNumberOr MOST_RETRIES RETRIES retries config.retries
  pub steps_are : config.steps ≡ STEPS

-- the options ask so for a server of connections
pub record Asks (port connections crews : Option (List ℕ)) (service : Service) : Type 0 where
  pub port_is : IsNumber 0 65535 port service.port
  pub connections_are : IsNumber 1 MOST_CONNECTIONS connections service.connections
  pub crews_are : IsNumberOr MOST_CREWS CREWS crews service.crews
