-- `lines::telling::lay_refused` meets its contract: the number of a refusal has at most three digits, and the word and it are the refused text.
-- Assumes nothing.
use borrow.Author.Rules.{rules}
use Prim.Native.Nat.{ℕ, ◌+◌, ◌≤◌, ◌<◌}
use mathlib.Core.List.{List, [], ◌∷◌, ◌++◌}
use native.Mathlib.Omega.{arith}
use lib.ListN.{length, length-append}
use Rattle.text.specs.Ascii.{space}
use Rattle.text.specs.Numerals.{decimal}
use Rattle.text.proofs.Appends.{Stands}
use Rattle.text.proofs.Spelled.{few_digits}
use Rattle.lines.specs.Lines.{the_word_refused, numbered, refused_text}
use Rattle.lines.proofs.telling.lay_refused.Goals as goal

abbrev the_word : List ℕ
the_word = space ∷ (the_word_refused ++ (space ∷ []))

short : (number at size : ℕ) → number < 256 → at + 13 ≤ size → at + length (numbered the_word number) ≤ size
short number at size low room =
    let few : length (decimal number) ≤ 3 = few_digits 20 2 number (omega arith) in
    simp length-append (omega arith)

refused : (number at : ℕ) (text : List ℕ) {place : ℕ} {after : List ℕ} → Stands (numbered the_word number) at text place after → Stands (refused_text number) at text place after
unfolding refused_text
refused number at text told = told

pub lay_numbered-requires : goal.lay_numbered-requires
lay_numbered-requires c = short _ _ _ (search rules) (search rules)

pub returns : goal.returns
returns c = rw (← c.from.ensures, ← c.from-2.ensures) (refused _ _ _ c.lay_numbered.ensures)
