-- `interval::form::has_high_element` meets its contract: the fold tells what the definition tells.
-- Assumes nothing.
use Rattle.std.proofs.Common.{rules, tests, ◌∙◌, ◌||◌, false, ltb}
use Rattle.std.proofs.lemmas.Iterator.{YieldsList-from_slice}
use Rattle.std.proofs.lemmas.Iterator.Consumers.{fold_from_yields_List}
use Rattle.interval.proofs.Folds.{high_told}
use Rattle.interval.proofs.form.has_high_element.Goals as goal

pub returns : goal.returns
returns c =
    fold_from_yields_List _ (λ high element. high || ltb 1 element) false _ c.fold.ensures.ran (YieldsList-from_slice c.args.line.now (cc)) (λ a x b q k. search (rules, tests))
    ∙ high_told c.args.line.now
