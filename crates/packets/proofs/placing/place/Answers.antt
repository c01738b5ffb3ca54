-- `packets::placing::place` meets its contract: without a mode or room the run is as it was, and else the packet comes back from the part that was lent.
-- Assumes nothing.
use mathlib.Core.Path.{◌≡◌, sym, ◌∙◌}
use mathlib.Core.Bool.{Bool, true, false}
use Prim.Native.Nat.{ℕ, ◌+◌, ◌-◌, ◌≤◌}
use native.Mathlib.Omega.{arith}
use mathlib.Core.List.{List}
use lib.ListN.{length}
use borrow.Author.Rules.{rules}
use borrow.Rule.Slice.PartMut.{put_mid}
use Rattle.std.specs.Prelude.{Err, Ok}
use Rattle.refusals.specs.declared.types.Refusal.{Refusal}
use Rattle.refusals.specs.declared.types.Refusal.TheVariants.{NoRoom, UnknownMode}
use Rattle.refusals.specs.Answer.{Cause}
use Rattle.refusals.proofs.Results.{passed_on}
use Rattle.runs.specs.Run.{lacks_room, room_refusals}
use Rattle.runs.proofs.Outcomes.{Outcome, turned_away, written_there, room_told}
use Rattle.modes.specs.Modes.{uncounted}
use Rattle.modes.proofs.InMode.{counted_told, counted_refused}
use Rattle.packets.specs.Packet.{packet_with}
use Rattle.packets.specs.Calls.{place_refusals}
use Rattle.packets.proofs.Pieces.{length_packet}
use Rattle.packets.proofs.placing.place.Goals as goal
use Rattle.packets.proofs.placing.place.Goals.{Else-lacks_room}

module _ (mode info type second start : ℕ) (run : List ℕ) where
  abbrev rows : List Cause
  rows = place_refusals mode start run

  no_mode : (r : Refusal) → (uncounted mode ≡ true) × (r ≡ UnknownMode) → Outcome rows start (packet_with mode info type second) run (Err r) run
  no_mode r is = rw is.1 (turned_away rows start (packet_with mode info type second) run UnknownMode tt is.0)

  -- the mode is counted, so 12 is the first that can apply
  module _ (counted : uncounted mode ≡ false) (full : Bool) (measured : full ≡ lacks_room 23 start (length run)) where
    crowded : full ≡ true → Outcome rows start (packet_with mode info type second) run (Err NoRoom) run
    crowded t = rw counted (turned_away (room_refusals 23 start run) start (packet_with mode info type second) run NoRoom tt (sym measured ∙ t))

    done : full ≡ false → (part : List ℕ) → part ≡ packet_with mode info type second
        → Outcome rows start (packet_with mode info type second) run (Ok tt) (put_mid start ((start + 23) - start) run part)
    done f part made =
        written_there rows start (packet_with mode info type second) run (counted, (sym measured ∙ f, tt)) 23 (length_packet mode info type second) part made

-- where room was not lacking, the packet's elements are all there
room : (c : Else-lacks_room) → c.args.start + 23 ≤ length c.args.run.now
room c = room_told _ _ _ _ c.lacks_room.ensures (search rules)

pub returns-in_err-counting_of : goal.returns-in_err-counting_of
returns-in_err-counting_of c =
    let left = no_mode _ _ _ _ _ _ _ (counted_refused _ _ c.counting_of.ensures _ c.in_err-counting_of.was) in
    (passed_on c.from_residual.ensures.1 left.0, left.1)

pub returns-then-lacks_room : goal.returns-then-lacks_room
returns-then-lacks_room c = crowded _ _ _ _ _ _ (counted_told _ _ c.counting_of.ensures _ c.in_ok-counting_of.was) _ c.lacks_room.ensures (search rules)

pub overflow_add-end : goal.overflow_add-end
overflow_add-end c = omega (arith, room c)

pub offset_bounds-run-start : goal.offset_bounds-run-start
offset_bounds-run-start c = omega (arith, room c)

pub slice_bounds-store-end : goal.slice_bounds-store-end
slice_bounds-store-end c = room c

pub returns : goal.returns
returns c =
    let args = c.args in
    done _ _ _ _ args.start args.run.now (counted_told _ _ c.counting_of.ensures _ c.in_ok-counting_of.was) _ c.lacks_room.ensures (search rules) _ c.store.ensures
