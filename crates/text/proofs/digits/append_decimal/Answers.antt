-- `text::digits::append_decimal` meets its contract: the fewest digits that hold the number are its decimal.
-- Assumes nothing.
use borrow.Author.Rules.{rules}
use Prim.Native.Nat.{ℕ, ◌^◌, ◌<◌}
use mathlib.Core.Path.{◌≡◌, ◌∙◌}
use mathlib.Core.List.{List}
use lib.ListN.{take}
use Rattle.io.specs.Digits.{last_digits, IsDigitCount}
use Rattle.text.specs.Numerals.{decimal}
use Rattle.text.proofs.Appends.{Appended}
use Rattle.text.proofs.Spelled.{spelled, within_twenty}
use Rattle.text.proofs.digits.append_decimal.Goals as goal

module _ (number count : ℕ) (room : List ℕ) (small : number < 2 ^ 64) (fewest : IsDigitCount 10 1 number count) (made : take count room ≡ last_digits 10 count number) where
  is_decimal : take count room ≡ decimal number
  is_decimal = made ∙ spelled count 20 number (within_twenty count number small fewest) fewest

  appended :
      (at : ℕ) (text : List ℕ) {place : ℕ} {after : List ℕ} → Appended (take count room) at text place after
      → Appended (decimal number) at text place after
  appended at text told = rw is_decimal at told

pub returns : goal.returns
returns c =
    let made = c.decimal-count.ensures in
    appended _ _ _ (search rules) made.len made.digits _ _ c.append.ensures
