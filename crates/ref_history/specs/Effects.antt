-- Refs and versions as the calls name them.
use Rattle.std.specs.Prelude.{ℕ}
use Rattle.value_data.specs.Datum.{Datum}
use Rattle.ref_history.specs.Versioned.{Version, Ref, new_ref}
use Rattle.ref_history.specs.declared.ref_id.Bounds.{Bounds}

abbrev pub version : ℕ → Datum → Version
version stamp d = record { stamp = stamp; content = d }

-- a ref that was just made: its version is older than all commits
abbrev pub first_ref : Datum → Bounds → Ref
first_ref d bounds = new_ref (version 0 d) bounds.least bounds.most

abbrev pub bounds_of : Ref → Bounds
bounds_of r = record { least = r.least; most = r.most }
