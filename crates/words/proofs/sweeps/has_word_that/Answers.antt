-- `words::sweeps::has_word_that` meets its contract. At each turn what is left tells of all words: none before it met the test.
-- Assumes nothing.
use Rattle.std.proofs.Common.{rules, tests, false, ◌||◌}
use Rattle.std.specs.Slice.Iter.{chunks_rest}
use Rattle.std.proofs.lemmas.Iterator.{YieldsList-from_slice}
use Rattle.std.proofs.lemmas.Iterator.Consumers.{fold_from_yields_List}
use Rattle.words.proofs.Chains.{few_tell, few_passed}
use Rattle.words.proofs.sweeps.has_word_that.Goals as goal

pub returns-then-fold : goal.returns-then-fold
returns-then-fold g c = λ meets tells.
    few_tell meets _ _ c.in-Some.few.now (chunks_rest c.next.new.self) _
    (fold_from_yields_List _ (λ met word. met || meets word) false _ c.fold.ensures.ran (YieldsList-from_slice c.in-Some.few.now (cc)) (λ a x b q k. search (rules, tests, tells)))
    c.in-Some.ensures.steps.1.0 (c.loop-few.invariant meets tells) c.if-fold.true

pub loop-few-preserved : goal.loop-few-preserved
loop-few-preserved g c = λ meets tells.
    few_passed meets _ _ c.in-Some.few.now (chunks_rest c.next.new.self) _
    (fold_from_yields_List _ (λ met word. met || meets word) false _ c.fold.ensures.ran (YieldsList-from_slice c.in-Some.few.now (cc)) (λ a x b q k. search (rules, tests, tells)))
    c.in-Some.ensures.steps.1.0 (c.loop-few.invariant meets tells) c.if-fold.false
