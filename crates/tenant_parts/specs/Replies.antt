-- What replies of the code are seen as: each is its bytes.
use Rattle.std.specs.Prelude.{ℕ, List, map, vec_items}
use Rattle.tenant_parts.specs.declared.batch.Batch.{Batch}
use Rattle.tenant_parts.specs.declared.outbox.Outbox.{Outbox}

abbrev pub made_bytes : Batch → List (List ℕ)
made_bytes b = map vec_items b.replies.items

abbrev pub waiting_bytes : Outbox → List (List ℕ)
waiting_bytes o = map vec_items o.replies.items
