-- What a reader answers a host. "A state that is no reader's is refused (13) and comes back as it was."
-- Assumes nothing.
use Rattle.refusals.specs.declared.types.Refusal.{Refusal}
use Rattle.std.specs.Prelude.{ℕ, List}
use Rattle.refusals.specs.Answer.{Cause, answer}
use Rattle.hearing.specs.declared.types.Heard.TheVariants.{Refused}
use Rattle.reader.specs.Steps.{reader_refusals, stepped_of}
use Rattle.reader.specs.Blocks.{blocked_of}
use Rattle.plain.specs.declared.types.PlainReader.{PlainReader}
use Rattle.plain.specs.declared.types.StepAnswer.{StepAnswer}
use Rattle.plain.specs.declared.types.BlockAnswer.{BlockAnswer}
use Rattle.plain.specs.Given.{reader_given, no_ways}
use Rattle.plain.specs.Answers.{heard_shown, step_with, step_answer, block_with, block_answer}
use Rattle.host.specs.Unnamed.{then_unnamed}

-- a reader that has had no bit; whether its mode is known and its ways are some is asked when it is fed
abbrev pub fresh_for : ℕ → ℕ → PlainReader
fresh_for mode ways = record { info = 0; sync = 0; mode = mode; ways = ways; held = 0 }

-- 2 a mode that is unknown; 13 straight after it; 3 ways that are none
abbrev pub reader_rows : PlainReader → List Cause
reader_rows reader = then_unnamed (reader_refusals (reader_given reader)) (no_ways reader.ways)

-- the reader as it was, and else as the step answers
unfoldable pub step_for : PlainReader → ℕ → StepAnswer
step_for reader element =
    answer (λ (n : Refusal). step_with (heard_shown (Refused n)) reader) (reader_rows reader) (step_answer (stepped_of (reader_given reader) element))

-- the reader as it was, no bit taken, and else as the block answers
unfoldable pub block_for : PlainReader → ℕ → List ℕ → BlockAnswer
block_for reader limit run =
    answer (λ (n : Refusal). block_with (heard_shown (Refused n)) reader 0) (reader_rows reader) (block_answer (blocked_of (reader_given reader) limit run))
