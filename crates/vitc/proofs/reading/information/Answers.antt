-- `vitc::reading::information` meets its contract. At each turn the number is that of the bits of the groups that were yielded.
-- Assumes nothing.
use Prim.Native.Nat.{◌+◌, ◌*◌, ◌^◌, ◌<◌}
use lib.Seq.{length-take-le}
use Rattle.std.proofs.Common.{arith, ◌∙◌, sym}
use Rattle.vitc.proofs.InfoTurns.{groups_begin, groups_end, never, room, turned}
use Rattle.vitc.proofs.reading.information.Goals as goal

pub slice_bounds-rchunks-end : goal.slice_bounds-rchunks-end
slice_bounds-rchunks-end c = sym (length-take-le _ c.args.line.now (omega (arith, c.requires.long)))

pub loop-group-init : goal.loop-group-init
loop-group-init c = (cc, groups_begin _ _ (cc))

pub unreachable-requires : goal.unreachable-requires
unreachable-requires c =
    let step = c.in-Some.ensures.steps in
    never _ c.requires _ _ c.loop-group.invariant.1 _ _ step.1.0 (rw c.loop-group.invariant.0 at step.1.1) step.1.2 _ (sym c.gather.ensures ∙ c.in_default.is)

pub overflow_mul-number : goal.overflow_mul-number
overflow_mul-number c =
    let step = c.in-Some.ensures.steps in
    let low : 256 * c.loop-group.number + c.in-Ok.byte < 2 ^ 64 = room _ c.requires _ _ c.loop-group.invariant.1 _ _ step.1.0 (rw c.loop-group.invariant.0 at step.1.1) step.1.2 _ (sym c.gather.ensures ∙ c.in-Ok.is) in
    omega arith

pub overflow_add-number : goal.overflow_add-number
overflow_add-number c =
    let step = c.in-Some.ensures.steps in
    let low : 256 * c.loop-group.number + c.in-Ok.byte < 2 ^ 64 = room _ c.requires _ _ c.loop-group.invariant.1 _ _ step.1.0 (rw c.loop-group.invariant.0 at step.1.1) step.1.2 _ (sym c.gather.ensures ∙ c.in-Ok.is) in
    omega arith

pub loop-group-preserved : goal.loop-group-preserved
loop-group-preserved c =
    let step = c.in-Some.ensures.steps in
    (step.0 ∙ c.loop-group.invariant.0, turned _ c.requires _ _ c.loop-group.invariant.1 _ _ step.1.0 (rw c.loop-group.invariant.0 at step.1.1) step.1.2 _ (sym c.gather.ensures ∙ c.in-Ok.is))

pub returns : goal.returns
returns c = groups_end _ c.requires _ _ c.loop-group.invariant.1 c.in-None.ensures.steps.1.0
