-- `text::laying::append` meets its contract: the text goes in whole, or not at all.
-- Assumes nothing.
use Prim.Native.Nat.{ℕ, ◌+◌, ◌-◌}
use mathlib.Core.Path.{◌≡◌, ap}
use mathlib.Core.Bool.{Bool, true, false}
use mathlib.Core.List.{List, ◌++◌}
use lib.ListN.{length, take}
use lib.Seq.{drop-drop}
use native.Mathlib.Omega.{arith}
use borrow.Author.Rules.{rules}
use borrow.Rule.Slice.PartMut.{put_mid}
use Rattle.runs.specs.Run.{lacks_room, placed}
use Rattle.text.specs.Gathered.{place_after, out_after}
use Rattle.text.proofs.Appends.{Appended}
use Rattle.text.proofs.laying.append.Goals as goal

module _ (text out : List ℕ) (at : ℕ) (full : Bool) (measured : full ≡ lacks_room (length text) at (length out)) where
  without_room : full ≡ true → Appended text at out at out
  unfolding place_after out_after
  without_room none = (rw (← measured, none), rw (← measured, none))

  laid : full ≡ false → {part : List ℕ} → part ≡ text → Appended text at out (at + length text) (put_mid at (at + length text - at) out part)
  unfolding place_after out_after placed
  laid some {part} copied =
      let size : at + length text - at ≡ length text = omega arith in (
        rw (← measured, some),
        rw (← measured, some, copied, size) (ap (λ (rest : List ℕ). take at out ++ (text ++ rest)) (drop-drop (length text) at out)),
      )

pub returns-then-lacks_room : goal.returns-then-lacks_room
returns-then-lacks_room c = without_room _ _ _ _ c.lacks_room.ensures (search rules)

pub returns : goal.returns
returns c = laid _ _ _ _ c.lacks_room.ensures (search rules) c.copy_from_slice.ensures.after
