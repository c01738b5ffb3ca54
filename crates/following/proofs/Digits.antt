-- The digits of an accepted address are too small for their top two bits to be both set: units up to 9 in four bits, tens up to 5 in three,
-- tens up to 2 in two.
-- Assumes nothing.
use Prim.Native.Nat.{ℕ, ◌+◌, ◌*◌, ◌<◌}
use mathlib.Core.Path.{◌≡◌}
use mathlib.Core.Bool.{false}
use mathlib.Core.List.{List, [], ◌∷◌}
use native.Mathlib.Omega.{arith}
use lib.Dec.{ltb}
use lib.ListN.{drop}
use borrow.Author.Tests.{ltb-false}
use Rattle.refusals.specs.declared.types.Refusal.TheVariants.{OutsideTheClock}
use Rattle.refusals.proofs.Answered.{Clear, neither}
use Rattle.refusals.proofs.ByNumber.{clear_at}
use Rattle.bits.proofs.Neighbours.{Each, Digit, Small}
use Rattle.rates.specs.declared.types.Rate.{Rate}
use Rattle.rates.specs.Rates.{frames_in_second}
use Rattle.rates.specs.Face.{outside}
use Rattle.rates.proofs.Inside.{inside}
use Rattle.rates.proofs.Sizes.{rate_small}
use Rattle.layout.specs.Layout.{bits}
use Rattle.record.specs.Record.{record_of, address_held, digit_above_9}
use Rattle.record.specs.Calls.{bits_refusals}

abbrev digit : ℕ → ℕ → Digit
digit first below = record { first = first; below = below }

-- units and tens of frames, seconds, minutes and hours
abbrev pub digits : List Digit
digits = digit 0 2 ∷ digit 8 0 ∷ digit 16 2 ∷ digit 24 1 ∷ digit 32 2 ∷ digit 40 1 ∷ digit 48 2 ∷ digit 56 0 ∷ []

units : (n : ℕ) → ltb 9 n ≡ false → n < 12
units n e = let low = ltb-false 9 n e in omega arith

tens : (most ones n : ℕ) → ones + 10 * n < 10 * most → n < most
tens most ones n h = omega arith

pub small_digits : (rate : Rate) (info : ℕ) → Clear (bits_refusals rate info) → Each (Small info) digits
unfolding record_of
small_digits rate info clear =
    let eight = neither (digit_above_9 info) (outside (frames_in_second rate) (address_held info)) (clear_at OutsideTheClock (bits_refusals rate info) clear) in
    let within = inside (frames_in_second rate) (address_held info) eight.1 in
    let f = neither (ltb 9 (bits 0 3 info)) _ eight.0 in
    let s = neither (ltb 9 (bits 16 19 info)) _ f.1 in
    let m = neither (ltb 9 (bits 32 35 info)) _ s.1 in
    let frames : bits 0 3 info + 10 * bits 8 9 info < 30 = omega (arith, within.frames, rate_small rate) in
    let hours : bits 48 51 info + 10 * bits 56 57 info < 30 = omega (arith, within.hours) in
    let of_hours : Each (Small info) (drop 6 digits) = (units (bits 48 51 info) m.1, (tens 3 (bits 48 51 info) (bits 56 57 info) hours, tt)) in
    let of_minutes : Each (Small info) (drop 4 digits) =
    (units (bits 32 35 info) m.0, (tens 6 (bits 32 35 info) (bits 40 42 info) within.minutes, of_hours)) in
    let of_seconds : Each (Small info) (drop 2 digits) =
    (units (bits 16 19 info) s.0, (tens 6 (bits 16 19 info) (bits 24 26 info) within.seconds, of_minutes)) in
    (units (bits 0 3 info) f.0, (tens 3 (bits 0 3 info) (bits 8 9 info) frames, of_seconds))
