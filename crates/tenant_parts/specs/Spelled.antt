-- Replies that tell how a form ended, made beforehand.
use Rattle.std.specs.Prelude.{◌≡◌, ℕ, List, [], ◌∷◌, map, Option, IfSome, Result, Ok, Err}
use Rattle.std.specs.Arc.{arc_value, arc_str_bytes}
use Rattle.value_data.specs.Datum.{Datum}
use Rattle.repl_values.specs.Failure.{Failure}
use Rattle.repl_asks.specs.Job.{EndData}
use Rattle.repl_replies.specs.Replies.{OriginData, ReplyData, bytes_of}
use Rattle.repl_replies.specs.Inside.View.{origin_view}
use Rattle.server_rules.specs.Replying.{output_replies, fault_replies, value_reply}
use Rattle.tenant_parts.specs.Replies.{made_bytes}
use Rattle.tenant_parts.specs.declared.batch.Batch.{Batch}
use Rattle.tenant_parts.specs.declared.spelled.EndReplies.{EndReplies}
use Rattle.tenant_parts.specs.declared.spelled.SpelledEnd.{SpelledEnd}
use Rattle.tenant_parts.specs.declared.spelled.ToldResult.{ToldResult}

-- a result is told so, a value in this namespace
abbrev pub told_result : OriginData → List ℕ → Result Datum Failure → List ReplyData
told_result origin namespace (Ok d) = value_reply origin namespace d ∷ []
told_result origin namespace (Err f) = fault_replies origin f

abbrev pub TellsResult : OriginData → Result Datum Failure → ToldResult → Type 0
TellsResult origin result it = made_bytes it.replies
    ≡ map bytes_of (told_result origin (arc_str_bytes it.namespace) result)

abbrev pub TellsOutput : OriginData → List ℕ → Batch → Type 0
TellsOutput origin text it = made_bytes it ≡ map bytes_of (output_replies origin text)

-- the replies that were made tell this request how the form ended
abbrev pub TellsEnd : OriginData → EndData → EndReplies → Type 0
TellsEnd origin e it = IfSome it.output (TellsOutput origin e.text)
    × IfSome it.result (TellsResult origin e.result)

-- they tell the request that they are for
abbrev pub SpellsEnd : Option SpelledEnd → EndData → Type 0
SpellsEnd spelled e =
    IfSome spelled (λ it. TellsEnd (origin_view (arc_value it.origin)) e it.replies)
