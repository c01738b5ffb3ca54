-- A record and its mark; what setting the polarity bit adds.
-- Assumes nothing.
use Prim.Native.Nat.{ℕ, ◌+◌, ◌^◌, ◌<◌}
use mathlib.Core.Path.{◌≡◌, refl, sym, ap, ◌∙◌}
use mathlib.Core.Bool.{false, true≢false}
use Rattle.rates.specs.declared.types.Flag.{Flag}
use Rattle.rates.specs.declared.types.Flag.TheVariants.{No, Yes}
use Rattle.rates.specs.Rates.{is_yes}
use Rattle.record.specs.declared.types.Record.{Record}
use Rattle.layout.specs.Flags.{places}
use Rattle.record.specs.Record.{marked}
use Rattle.record.proofs.Accepted.{Writable}
use Rattle.record.proofs.Marks.{info_below, mark_adds}
use Rattle.modes.specs.Modes.{rate_at}
use Rattle.modes.specs.Calls.{information_in}

-- a flag that is not yes is no
pub is_no : (flag : Flag) → is_yes flag ≡ false → flag ≡ No
is_no No e = refl
is_no Yes e = absurd (true≢false e)

-- a record whose mark is no, said so anew, is itself
pub marked_same : (r : Record) (mark : Flag) → r.flags.mark ≡ mark → marked mark r ≡ r
marked_same r mark e = λ i. marked (sym e i) r

-- and makes the same bits
pub plain : (mode : ℕ) (r : Record) → r.flags.mark ≡ No → information_in mode (marked No r) ≡ information_in mode r
plain mode r unset = ap (information_in mode) (marked_same r No unset)

module _ (mode : ℕ) (r : Record) (unset : r.flags.mark ≡ No) where
  -- setting the polarity bit adds the value of its place, and leaves 64 bits
  pub set_adds : information_in mode (marked Yes r) ≡ information_in mode r + 2 ^ (places (rate_at mode)).mark
  set_adds = mark_adds (rate_at mode) r ∙ ap (λ (n : ℕ). n + 2 ^ (places (rate_at mode)).mark) (plain mode r unset)

  pub set_below : Writable r.address r.groups → information_in mode r + 2 ^ (places (rate_at mode)).mark < 2 ^ 64
  set_below fits = rw (← set_adds) (info_below (rate_at mode) (marked Yes r) fits)
