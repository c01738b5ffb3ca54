-- `answers::text::Answer::put_words` meets its contract.
-- Assumes nothing.
use Rattle.answers.specs.Places.{Extended}
use Rattle.answers.proofs.text.Answer.put_words.Given as goal

abbrev pub invariant-loop-word : goal.invariant-loop-word
invariant-loop-word l = Extended l.initial.self l.self
