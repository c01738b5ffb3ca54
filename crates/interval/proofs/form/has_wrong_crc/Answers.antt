-- `interval::form::has_wrong_crc` meets its contract: the fold over the eight counts tells what the definition tells.
-- Assumes nothing.
use Rattle.std.proofs.Common.{rules, tests, ◌∙◌, ◌||◌, false, not, eqb}
use Rattle.std.proofs.lemmas.Iterator.{YieldsList-from_slice}
use Rattle.std.proofs.lemmas.Iterator.Consumers.{fold_from_yields_List}
use Rattle.interval.proofs.Folds.{crc_told}
use Rattle.interval.proofs.Pass.{odds_of}
use Rattle.interval.proofs.form.has_wrong_crc.Goals as goal

pub returns : goal.returns
returns c =
    fold_from_yields_List _ (λ wrong odd. wrong || not (eqb odd 0)) false _ c.fold.ensures.ran (YieldsList-from_slice (odds_of c.args.line.now) (cc)) (λ a x b q k. search (rules, tests))
    ∙ crc_told c.args.line.now
