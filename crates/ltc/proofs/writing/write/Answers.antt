-- `ltc::writing::write` meets its contract: a refused write leaves the run as it was, and a write that is done has the word in its middle.
-- Assumes nothing.
use mathlib.Core.List.{[]}
use Prim.Native.Nat.{◌+◌, ◌≤◌}
use lib.ListN.{length}
use native.Mathlib.Omega.{arith}
use borrow.Author.Rules.{rules}
use Rattle.refusals.proofs.Results.{passed_on}
use Rattle.runs.proofs.Outcomes.{room_told}
use Rattle.polarity.specs.declared.types.Found.TheVariants.{Corrected}
use Rattle.ltc.proofs.WriteTests.{no_mode, by_the_record, with_a_mark, free, without_room, done}
use Rattle.ltc.proofs.writing.write.Goals as goal
use Rattle.ltc.proofs.writing.write.Goals.{Else-lacks_room}

-- where room was not lacking, the word's elements are all there
room : (c : Else-lacks_room) → c.args.start + 80 ≤ length c.args.run.now
room c = room_told _ _ _ _ c.lacks_room.ensures (search rules)

pub returns-in_err-rate : goal.returns-in_err-rate
returns-in_err-rate c = let left = no_mode _ _ _ _ _ _ c.rate_of.ensures _ c.in_err-rate.was in (passed_on c.from_residual.ensures.1 left.0, left.1)

pub returns-in_err-clear : goal.returns-in_err-clear
returns-in_err-clear c =
    let left = by_the_record _ _ _ _ _ _ c.rate_of.ensures _ c.in_ok-rate.was _ c.picture_to_bits.ensures _ c.in_err-clear.was in
    (passed_on c.from_residual-in_err-clear.ensures.1 left.0, left.1)

pub returns-then-is_yes : goal.returns-then-is_yes
returns-then-is_yes c =
    with_a_mark _ _ _ _ _ _ c.rate_of.ensures _ c.in_ok-rate.was _ c.picture_to_bits.ensures _ c.in_ok-clear.was _ c.is_yes.ensures (search rules)

pub returns-then-lacks_room : goal.returns-then-lacks_room
returns-then-lacks_room c =
    without_room _ _ _ _ _ _ c.rate_of.ensures _ c.in_ok-rate.was _ c.picture_to_bits.ensures _ c.in_ok-clear.was _ c.is_yes.ensures (search rules) _ c.lacks_room.ensures
    (search rules)

pub made-info-requires : goal.made-info-requires
made-info-requires c =
    free _ 0 _ Corrected [] _ c.rate_of.ensures _ c.in_ok-rate.was _ c.picture_to_bits.ensures _ c.in_ok-clear.was _ c.is_yes.ensures (search rules)

pub overflow_add-end : goal.overflow_add-end
overflow_add-end c = omega (arith, room (goal.at.overflow_add-end c).Else-lacks_room)

pub slice_bounds-store-end : goal.slice_bounds-store-end
slice_bounds-store-end c = omega (arith, room (goal.at.slice_bounds-store-end c).Else-lacks_room)

pub returns : goal.returns
returns c =
    done _ _ _ _ _ _ c.rate_of.ensures _ c.in_ok-rate.was _ c.picture_to_bits.ensures _ c.in_ok-clear.was _ c.is_yes.ensures (search rules) _ c.lacks_room.ensures
    (search rules) _ _ c.made-info.ensures c.store.ensures
