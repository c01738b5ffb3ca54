-- `lines::telling::end_line` meets its contract: the word, the bits so far and the line feed, one after the other.
-- Assumes nothing.
use borrow.Author.Rules.{rules}
use Prim.Native.Nat.{ℕ, ◌+◌, ◌≤◌}
use mathlib.Core.Path.{◌≡◌}
use mathlib.Core.List.{List, [], ◌∷◌, ◌++◌}
use native.Mathlib.Omega.{arith}
use lib.ListN.{length, length-append}
use Rattle.runs.specs.Run.{placed}
use Rattle.text.specs.Ascii.{space}
use Rattle.text.proofs.Appends.{Stands}
use Rattle.text.proofs.Spelled.{at_most}
use Rattle.lines.specs.Lines.{the_word_end, numbered, end_line_of}
use Rattle.lines.proofs.telling.end_line.Goals as goal

short : (bits size : ℕ) → 48 ≤ size → 0 + length (numbered (the_word_end ++ (space ∷ [])) bits) ≤ size
short bits size long = simp length-append (omega (arith, at_most 20 bits))

ended :
    (bits : ℕ) (text : List ℕ) {place : ℕ} {after : List ℕ} → Stands (numbered (the_word_end ++ (space ∷ [])) bits) 0 text place after
    → (place ≡ length (end_line_of bits)) × (after ≡ placed 0 (end_line_of bits) text)
unfolding end_line_of
ended bits text told = (omega (arith, told.0), told.1)

pub lay_numbered-requires : goal.lay_numbered-requires
lay_numbered-requires c = short _ _ (search rules)

pub returns : goal.returns
returns c = ended _ _ c.lay_numbered.ensures
