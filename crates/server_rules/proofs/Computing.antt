-- The runs, computed.
use Rattle.std.proofs.Common.{refl}
use Rattle.std.specs.Char.{encode_utf8}
use Rattle.std.specs.Str.{is_utf8, chars}
use Rattle.rand_core.specs.Steps.{u32_at}
use Rattle.rand_chacha.specs.Block.{quarter_round, column_round, diagonal_round, double_rounds}
use Rattle.rand_chacha.specs.Block.{block_word}
use Rattle.uuid.specs.Text.{by_index}
use Rattle.repl_sessions.specs.Ids.{session_id, id_text}
use Rattle.core_scalars.specs.Arithmetic.{or_overflow, arithmetic}
use Rattle.core_scalars.specs.IntegerMeaning.{integer_meaning}
use Rattle.core_functions.specs.ApplyOutcome.{limited_outcome, apply_outcome}
use Rattle.name_spaces.specs.Namespaces.{is_there, at_start, with_entered_namespace}
use Rattle.name_spaces.specs.Namespaces.{with_definition}
use Rattle.name_spaces.specs.Resolving.{resolved}
use Rattle.repl_asks.specs.Namespaces.{is_fixed}
use Rattle.repl_replies.specs.Operations.{operation_or_reply}
use Rattle.server_rules.specs.Operating.{with_message}
use Rattle.server_rules.specs.Shared.{shared_by_text}
use Rattle.server_rules.specs.Hearing.{taken_in}
use Rattle.server_rules.specs.Moves.{form_ended}
use Rattle.server_rules.specs.Machine.World.{step}
use Rattle.server_rules.specs.Examples.Results.{ReadIsRetried, TwoAreApart, CloseInterrupts}
use Rattle.server_rules.specs.Examples.Results.{OtherTraceIsRefused, PlaceIsFreed, NothingIsLeft}
use Rattle.server_rules.specs.Examples.Results.{IdleCostsNothing, BothCommute, TryIsMadeAgain}
use Rattle.server_rules.specs.Examples.Results.{SharedRefIsRead}

pub read-is-retried : ReadIsRetried
unfolding step form_ended taken_in with_message operation_or_reply is_fixed is_there at_start with_entered_namespace with_definition resolved is_utf8 chars encode_utf8 id_text session_id by_index u32_at quarter_round column_round diagonal_round double_rounds block_word
read-is-retried = refl

pub two-are-apart : TwoAreApart
unfolding step form_ended taken_in with_message operation_or_reply is_fixed is_there at_start with_entered_namespace with_definition resolved is_utf8 chars encode_utf8 id_text session_id by_index u32_at quarter_round column_round diagonal_round double_rounds block_word
two-are-apart = (refl, refl)

pub both-commute : BothCommute
unfolding step form_ended taken_in with_message operation_or_reply is_fixed is_there at_start with_entered_namespace with_definition resolved is_utf8 chars encode_utf8 id_text session_id by_index u32_at quarter_round column_round diagonal_round double_rounds block_word apply_outcome limited_outcome integer_meaning arithmetic or_overflow
both-commute = refl

pub try-is-made-again : TryIsMadeAgain
unfolding step form_ended taken_in with_message operation_or_reply is_fixed is_there at_start with_entered_namespace with_definition resolved is_utf8 chars encode_utf8 id_text session_id by_index u32_at quarter_round column_round diagonal_round double_rounds block_word
try-is-made-again = refl

pub shared-ref-is-read : SharedRefIsRead
unfolding step form_ended taken_in with_message operation_or_reply is_fixed is_there at_start with_entered_namespace with_definition resolved is_utf8 chars encode_utf8 id_text session_id by_index u32_at quarter_round column_round diagonal_round double_rounds block_word shared_by_text
shared-ref-is-read = refl

pub close-interrupts : CloseInterrupts
unfolding step form_ended taken_in with_message operation_or_reply is_fixed is_there at_start with_entered_namespace with_definition resolved is_utf8 chars encode_utf8 id_text session_id by_index u32_at quarter_round column_round diagonal_round double_rounds block_word
close-interrupts = refl

pub other-trace-is-refused : OtherTraceIsRefused
unfolding step form_ended taken_in with_message operation_or_reply is_fixed is_there at_start with_entered_namespace with_definition resolved is_utf8 chars encode_utf8 id_text session_id by_index u32_at quarter_round column_round diagonal_round double_rounds block_word
other-trace-is-refused = refl

pub place-is-freed : PlaceIsFreed
unfolding step form_ended taken_in with_message operation_or_reply is_fixed is_there at_start with_entered_namespace with_definition resolved is_utf8 chars encode_utf8 id_text session_id by_index u32_at quarter_round column_round diagonal_round double_rounds block_word
place-is-freed = (refl, refl)

pub nothing-is-left : NothingIsLeft
unfolding step form_ended taken_in with_message operation_or_reply is_fixed is_there at_start with_entered_namespace with_definition resolved is_utf8 chars encode_utf8 id_text session_id by_index u32_at quarter_round column_round diagonal_round double_rounds block_word
nothing-is-left = (refl, refl)

pub idle-costs-nothing : IdleCostsNothing
unfolding step form_ended taken_in with_message operation_or_reply is_fixed is_there at_start with_entered_namespace with_definition resolved is_utf8 chars encode_utf8 id_text session_id by_index u32_at quarter_round column_round diagonal_round double_rounds block_word
idle-costs-nothing = refl
