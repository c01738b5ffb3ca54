-- "refused by 5 only if its zeros are odd and its polarity bit is 1": there, where no number before 5 applies, and nowhere else.
-- Assumes nothing.
use Prim.Native.Nat.{ℕ}
use mathlib.Core.Path.{◌≡◌, refl, sym}
use mathlib.Core.Bool.{Bool, true, false, ◌&&◌, true≢false}
use mathlib.Core.List.{List}
use mathlib.Core.Logic.{◌↔◌}
use lib.ListN.{length, drop}
use borrow.Author.Tests.{eqb-true, eq-eqb, not-false}
use Rattle.std.specs.Prelude.{Err}
use Rattle.refusals.specs.declared.types.Refusal.TheVariants.{ElementTooHigh, UnknownMode, WrongCheck, WrongLength, WrongSync}
use Rattle.refusals.specs.Answer.{Cause}
use Rattle.refusals.proofs.ByNumber.{rows_before, clear_at}
use Rattle.refusals.proofs.First.{given_exactly}
use Rattle.bits.specs.Bits.{some_above}
use Rattle.runs.specs.Run.{same}
use Rattle.runs.proofs.Same.{same_itself, same_elements}
use Rattle.rates.specs.declared.types.Flag.{Flag}
use Rattle.rates.specs.declared.types.Flag.TheVariants.{No, Yes}
use Rattle.rates.specs.Rates.{is_yes}
use Rattle.modes.specs.Modes.{unknown, rate_at}
use Rattle.polarity.specs.Word.{sync_word, odd_zeros, polarity_bit}
use Rattle.ltc.specs.Calls.{read_refusals, read_of}
use Rattle.ltc.proofs.Rows.{read_rows_in_order}

both : (odd : Bool) (bit : Flag) → (odd && is_yes bit) ≡ true → (odd ≡ true) × (bit ≡ Yes)
both true Yes e = (refl, refl)
both true No e = absurd (true≢false (sym e))
both false bit e = absurd (true≢false (sym e))

-- 80 bits that end in the sync word, in a mode that is known: their zeros odd, and their polarity bit 1
abbrev Miscorrected : ℕ → List ℕ → Type 0
Miscorrected mode word =
    (length word ≡ 80) × (unknown mode ≡ false) × (some_above 1 word ≡ false) × (drop 64 word ≡ sync_word)
    × (odd_zeros word ≡ true) × (polarity_bit (rate_at mode) word ≡ Yes)

module _ (mode : ℕ) (word : List ℕ) where
  abbrev rows : List Cause
  rows = read_refusals mode word

  abbrev before : List Cause
  before = rows_before WrongCheck rows

  there : read_of mode word ≡ Err WrongCheck → Miscorrected mode word
  unfolding read_of
  there e =
      let given = (given_exactly _ WrongCheck rows (read_rows_in_order mode word)).0 e in
      let clear = given.0 in
      let set = both (odd_zeros word) (polarity_bit (rate_at mode) word) given.1 in (
        eqb-true (length word) 80 (not-false _ (clear_at WrongLength before clear)),
        clear_at UnknownMode before clear,
        clear_at ElementTooHigh before clear,
        same_elements (drop 64 word) sync_word (not-false _ (clear_at WrongSync before clear)),
        set.0,
        set.1,
      )

  back : Miscorrected mode word → read_of mode word ≡ Err WrongCheck
  unfolding read_of
  back m =
      let sync : same (drop 64 word) sync_word ≡ true = rw m.3 (same_itself sync_word) in
      rw (eq-eqb (length word) 80 m.0, m.1, m.2, sync, m.4, m.5)

  pub five_exactly : (read_of mode word ≡ Err WrongCheck) ↔ Miscorrected mode word
  five_exactly = (there, back)
