-- `answers::text::Answer::put_bytes` meets its contract.
-- Assumes nothing.
use Rattle.answers.specs.Places.{Extended}
use Rattle.answers.proofs.text.Answer.put_bytes.Given as goal

abbrev pub invariant-loop-byte : goal.invariant-loop-byte
invariant-loop-byte l = Extended l.initial.self l.self
