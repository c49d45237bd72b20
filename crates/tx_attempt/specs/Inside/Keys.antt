-- The keys by which the code finds refs.
use Rattle.std.specs.Prelude.{ℕ, Option, None, Some}
use Rattle.value_data.specs.Datum.{OwnerData, shared, tenant}
use Rattle.repl_asks.specs.Transactions.{RefNameData}
use Rattle.tx_attempt.specs.declared.key.Key.{Key}

abbrev pub tenant_of : OwnerData → Option ℕ
tenant_of shared = None
tenant_of (tenant t) = Some t

abbrev pub key_of : RefNameData → Key
key_of name = record { tenant = tenant_of name.owner; number = name.number }
