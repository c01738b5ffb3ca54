-- `words::sweeps::has_high_word` meets its contract: the closure answers the test of the definition.
-- Assumes nothing.
use Rattle.std.proofs.Common.{rules, tests, ltb, ◌∙◌}
use Rattle.words.proofs.Chains.{any_above}
use Rattle.words.proofs.sweeps.has_high_word.Goals as goal

pub returns : goal.returns
returns c = c.has_word_that.ensures (λ word. ltb 1023 word) (λ word met k. search (rules, tests)) ∙ any_above 1023 _
