-- `interval::form::has_wrong_pair` meets its contract. At each turn what was told is whether a pair so far is wrong.
-- Assumes nothing.
use Rattle.std.proofs.Common.{◌∙◌}
use Rattle.interval.proofs.Pairs.{look_begins, look_turns, look_ends}
use Rattle.interval.proofs.form.has_wrong_pair.Goals as goal

pub loop-group-init : goal.loop-group-init
loop-group-init c = (cc, look_begins _ _ (cc))

pub loop-group-preserved : goal.loop-group-preserved
loop-group-preserved c =
    let step = c.in-Some.ensures.steps in (
      step.0 ∙ c.loop-group.invariant.0,
      rw c.starts_with.ensures.value (look_turns _ _ _ c.loop-group.invariant.1 c.requires _ _ step.1.0 (rw c.loop-group.invariant.0 at step.1.1) step.1.2),
    )

pub returns : goal.returns
returns c = look_ends _ _ _ c.loop-group.invariant.1 c.requires c.in-None.ensures.steps.1.0
