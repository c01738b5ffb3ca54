-- `lines::telling::lay_numbered` meets its contract: the word, the number and the line feed, one after the other.
-- Assumes nothing.
use Prim.Native.Nat.{ℕ, ◌+◌, ◌≤◌}
use mathlib.Core.Path.{◌≡◌}
use mathlib.Core.List.{List, [], ◌∷◌}
use native.Mathlib.Omega.{arith}
use lib.ListN.{length, length-append}
use Rattle.text.specs.Ascii.{line_feed}
use Rattle.text.specs.Numerals.{decimal}
use Rattle.text.proofs.Appends.{Appended, Stands, three_stand}
use Rattle.lines.specs.Lines.{numbered}
use Rattle.lines.proofs.telling.lay_numbered.Goals as goal

laid :
    (word : List ℕ) (number : ℕ) (text : List ℕ) (at : ℕ) {p q r : ℕ} {one two three : List ℕ}
    → at + length (numbered word number) ≤ length text
    → Appended word at text p one
    → Appended (decimal number) p one q two
    → Appended (line_feed ∷ []) q two r three
    → Stands (numbered word number) at text r three
laid word number text at room =
    let size : length (numbered word number) ≡ length word + (length (decimal number) + 1) = simp length-append in
    three_stand at word (decimal number) (line_feed ∷ []) text (omega arith)

pub returns : goal.returns
returns c = laid _ _ _ _ c.requires c.append-told.ensures c.append_decimal-end.ensures c.append.ensures
