-- `interval::placing::place` meets its contract: without room the run is as it was, and else the line comes back from the part that was lent.
-- Assumes nothing.
use mathlib.Core.Path.{◌≡◌, sym, ◌∙◌}
use mathlib.Core.Bool.{Bool, true, false}
use Prim.Native.Nat.{ℕ, ◌+◌, ◌-◌, ◌≤◌}
use native.Mathlib.Omega.{arith}
use mathlib.Core.List.{List}
use lib.ListN.{length}
use borrow.Author.Rules.{rules}
use borrow.Rule.Slice.PartMut.{put_mid}
use Rattle.std.specs.Prelude.{Err, Ok}
use Rattle.refusals.specs.declared.types.Refusal.TheVariants.{NoRoom}
use Rattle.runs.specs.Run.{lacks_room, room_refusals}
use Rattle.runs.proofs.Outcomes.{Outcome, turned_away, written_there, room_told}
use Rattle.interval.specs.Line.{line_with}
use Rattle.interval.proofs.Shape.{length_line}
use Rattle.interval.proofs.placing.place.Goals as goal
use Rattle.interval.proofs.placing.place.Goals.{Else-lacks_room}

module _ (info start : ℕ) (run : List ℕ) (full : Bool) (measured : full ≡ lacks_room 90 start (length run)) where
  crowded : full ≡ true → Outcome (room_refusals 90 start run) start (line_with info) run (Err NoRoom) run
  crowded t = turned_away (room_refusals 90 start run) start (line_with info) run NoRoom tt (sym measured ∙ t)

  done : full ≡ false → (part : List ℕ) → part ≡ line_with info
      → Outcome (room_refusals 90 start run) start (line_with info) run (Ok tt) (put_mid start ((start + 90) - start) run part)
  done f part made =
      written_there (room_refusals 90 start run) start (line_with info) run (sym measured ∙ f, tt) 90 (length_line info) part made

-- where room was not lacking, the line's elements are all there
room : (c : Else-lacks_room) → c.args.start + 90 ≤ length c.args.run.now
room c = room_told _ _ _ _ c.lacks_room.ensures (search rules)

pub returns-then-lacks_room : goal.returns-then-lacks_room
returns-then-lacks_room c = crowded _ _ _ _ c.lacks_room.ensures (search rules)

pub overflow_add-end : goal.overflow_add-end
overflow_add-end c = omega (arith, room c)

pub slice_bounds-write_line-end : goal.slice_bounds-write_line-end
slice_bounds-write_line-end c = room c

pub returns : goal.returns
returns c =
    let args = c.args in
    done _ args.start args.run.now _ c.lacks_room.ensures (search rules) _ c.write_line.ensures
