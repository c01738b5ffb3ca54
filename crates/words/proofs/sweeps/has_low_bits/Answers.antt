-- `words::sweeps::has_low_bits` meets its contract: the closure answers the test of the definition.
-- Assumes nothing.
use Rattle.std.proofs.Common.{rules, tests, ◌∙◌}
use Rattle.words.specs.Words.{low_set}
use Rattle.words.proofs.Chains.{any_word}
use Rattle.words.proofs.sweeps.has_low_bits.Goals as goal

pub returns : goal.returns
returns c = c.has_word_that.ensures low_set (λ word met k. search (rules, tests)) ∙ any_word low_set _
