-- The picture of a number is the address of the quotient, at the place that is the remainder: said of the calls, refusals too.
-- Assumes nothing.
use Prim.Native.Nat.{ℕ, ◌*◌, ◌/◌, ◌%◌, ◌<◌}
use mathlib.Core.Path.{◌≡◌, refl, sym}
use mathlib.Core.Bool.{Bool, true, false}
use native.Mathlib.Omega.{arith}
use native.Mathlib.Nat.{div-lt_iff_lt-mul}
use lib.Dec.{leb}
use borrow.Author.Tests.{leb-true, leb-false, lt-leb}
use Rattle.rates.specs.declared.types.Address.{Address}
use Rattle.refusals.specs.declared.types.Refusal.{Refusal}
use Rattle.pictures.specs.declared.types.Picture.{Picture}
use Rattle.std.specs.Prelude.{Err, Ok, Result}
use Rattle.refusals.proofs.Answered.{carried}
use Rattle.rates.specs.declared.types.Rate.{Rate}
use Rattle.rates.specs.declared.types.Flag.{Flag}
use Rattle.rates.specs.Rates.{is_yes, frames_in_second, frames_in_day}
use Rattle.clock.specs.declared.types.DayFrame.{DayFrame}
use Rattle.clock.specs.Counting.{address_at}
use Rattle.clock.specs.Calls.{address_of, number_refusals}
use Rattle.pictures.specs.Pictures.{picture}
use Rattle.pictures.specs.Calls.{picture_of}

-- what the clock's answer comes to at a place
abbrev pub with_place : ℕ → Result Address Refusal → Result Picture Refusal
with_place place (Ok a) = Ok (picture a place)
with_place place (Err n) = Err n

-- a number is past so many pictures of a day exactly where its address is past the day
past_the_day : (pictures day n : ℕ) → 0 < pictures → leb (pictures * day) n ≡ leb day (n / pictures)
past_the_day pictures day n some = go (leb day (n / pictures)) refl
  where
    go : (t : Bool) → leb day (n / pictures) ≡ t → leb (pictures * day) n ≡ t
    go false t = lt-leb (pictures * day) n (omega (arith, (div-lt_iff_lt-mul some).0 (leb-false day (n / pictures) t)))
    go true t = past (leb (pictures * day) n) refl
      where
        past : (s : Bool) → leb (pictures * day) n ≡ s → leb (pictures * day) n ≡ true
        past true s = s
        past false s =
            let high = leb-true day (n / pictures) t in
            let short = leb-false (pictures * day) n s in
            let low : n / pictures < day = (div-lt_iff_lt-mul some).1 (omega arith) in absurd (omega arith)

pub by_address :
    (rate : Rate) (pictures : ℕ) (drop : Flag) (n : DayFrame) → 0 < pictures
    → picture_of rate pictures drop n ≡ with_place (n.0 % pictures) (address_of rate drop (record { 0 = n.0 / pictures }))
unfolding picture_of address_of
by_address rate pictures drop n some =
    rw (past_the_day pictures (frames_in_day rate (is_yes drop)) n.0 some)
    (sym (carried (with_place (n.0 % pictures)) Err (Ok (address_at (frames_in_second rate) (is_yes drop) (n.0 / pictures))) (number_refusals rate drop (n.0 / pictures))))
