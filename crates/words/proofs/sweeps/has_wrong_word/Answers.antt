-- `words::sweeps::has_wrong_word` meets its contract: the closure answers the test of the definition.
-- Assumes nothing.
use Rattle.std.proofs.Common.{rules, tests, ◌∙◌}
use Rattle.words.specs.Words.{wrong_word}
use Rattle.words.proofs.Chains.{any_word}
use Rattle.words.proofs.sweeps.has_wrong_word.Goals as goal

pub returns : goal.returns
returns c = c.has_word_that.ensures wrong_word (λ word met k. search (rules, tests)) ∙ any_word wrong_word _
