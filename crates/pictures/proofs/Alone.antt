-- With one picture to an address, a picture is an address: each call answers as the clock's own does, with the first place. So what stood of modes 0 to 2 stands.
-- Assumes nothing.
use Prim.Native.Nat.{ℕ, ◌+◌, ◌*◌}
use mathlib.Core.Path.{◌≡◌, sym, ◌∙◌}
use native.Mathlib.Omega.{arith}
use native.Mathlib.Nat.{div-one, mod-one}
use lib.IntN.{ℤ}
use Rattle.std.specs.Prelude.{Err, Ok}
use Rattle.refusals.proofs.Answered.{carried}
use Rattle.rates.specs.declared.types.Rate.{Rate}
use Rattle.rates.specs.declared.types.Flag.{Flag}
use Rattle.rates.specs.declared.types.Address.{Address}
use Rattle.rates.specs.Rates.{is_yes, frames_in_second, frames_in_day}
use Rattle.rates.specs.Refused.{refusals_of}
use Rattle.round.specs.Round.{sum_of}
use Rattle.clock.specs.declared.types.DayFrame.{DayFrame}
use Rattle.clock.specs.Counting.{count_of, address_at}
use Rattle.clock.specs.Calls as clock
use Rattle.pictures.specs.declared.types.Picture.{Picture}
use Rattle.pictures.specs.Pictures.{picture}
use Rattle.pictures.specs.Calls.{number_of, picture_of, fields_of, span_of, plus_of}
use Rattle.pictures.proofs.Divided.{with_place, by_address}

-- an address by itself
abbrev pub only : Address → Picture
only a = picture a 0

-- one for each, and none besides
one_each : (n : ℕ) → 1 * n + 0 ≡ n
one_each n = omega arith

one_day : (n : ℕ) → 1 * n ≡ n
one_day n = omega arith

module _ (rate : Rate) (drop : Flag) where
  abbrev number : Address → ℕ
  number a = count_of (frames_in_second rate) (is_yes drop) a

  abbrev day : ℕ
  day = frames_in_day rate (is_yes drop)

  pub number_alone : (a : Address) → number_of rate 1 drop (only a) ≡ clock.number_of rate drop a
  unfolding number_of clock.number_of
  number_alone a = rw (one_each (number a))

  pub picture_alone : (n : DayFrame) → picture_of rate 1 drop n ≡ with_place 0 (clock.address_of rate drop n)
  picture_alone n = by_address rate 1 drop n (omega arith) ∙ rw (div-one n.0, mod-one n.0)

  pub fields_alone : (a : Address) → fields_of rate 1 drop (only a) ≡ with_place 0 (clock.fields_of rate drop a)
  unfolding fields_of clock.fields_of
  fields_alone a = sym (carried (with_place 0) Err (Ok a) (refusals_of rate drop a))

  pub span_alone : (a b : Address) → span_of rate 1 drop (only a) (only b) ≡ clock.span_of rate drop a b
  unfolding span_of clock.span_of
  span_alone a b = rw (one_each (number a), one_each (number b), one_day day)

  pub plus_alone : (a : Address) (z : ℤ) → plus_of rate 1 drop (only a) z ≡ with_place 0 (clock.plus_of rate drop a z)
  unfolding plus_of clock.plus_of
  plus_alone a z =
      let sum = sum_of day (number a) z in
      rw (one_each (number a), one_day day, div-one sum, mod-one sum)
      (sym (carried (with_place 0) Err (Ok (address_at (frames_in_second rate) (is_yes drop) sum)) (refusals_of rate drop a)))
