-- The number of a picture within its second: below the pictures of a second, and counted as the day's numbers are.
-- Assumes nothing.
use Prim.Native.Nat.{ℕ, ◌+◌, ◌-◌, ◌*◌, ◌/◌, ◌<◌}
use mathlib.Core.Path.{◌≡◌, ap}
use mathlib.Core.Bool.{Bool, true, false, cond}
use mathlib.Core.Logic.{◌↔◌}
use native.Mathlib.Omega.{arith}
use Rattle.refusals.specs.declared.types.Refusal.{Refusal}
use Rattle.std.specs.Prelude.{Err, Ok}
use Rattle.refusals.specs.declared.types.Refusal.TheVariants.{OutsideTheClock}
use Rattle.refusals.proofs.Answered.{Clear}
use Rattle.refusals.proofs.Results.{accepted_so, refused_alike as alike}
use Rattle.refusals.proofs.ByNumber.{clear_at}
use Rattle.rates.specs.declared.types.Rate.{Rate}
use Rattle.rates.specs.declared.types.Rate.TheVariants.{At24, At25, At30}
use Rattle.rates.specs.declared.types.Flag.{Flag}
use Rattle.rates.specs.declared.types.Address.{Address}
use Rattle.rates.specs.Rates.{is_yes, frames_in_second}
use Rattle.rates.specs.Refused.{refusals_of}
use Rattle.rates.proofs.Inside.{inside}
use Rattle.clock.specs.declared.types.DayFrame.{DayFrame}
use Rattle.clock.specs.Counting.{minutes_of, count_of}
use Rattle.pictures.specs.declared.types.Picture.{Picture}
use Rattle.pictures.specs.declared.types.PictureInSecond.{PictureInSecond}
use Rattle.pictures.specs.Pictures.{picture_number, SameSecond, number_in_second}
use Rattle.pictures.specs.Calls.{picture_refusals, number_of, in_second_of}
use Rattle.pictures.proofs.Sizes.{clear_of_picture, place_of_clear, within}
use Rattle.pictures.proofs.Answers.{numbered}

-- the frame number of an address is so much for its second, and its frames
second_and_frames : (rate : Rate) (drop : Bool) (a : Address)
    → count_of (frames_in_second rate) drop a
    ≡ ((60 * minutes_of a + a.seconds) * frames_in_second rate - cond drop (2 * (minutes_of a - minutes_of a / 10)) 0) + a.frames.0
unfolding count_of
second_and_frames At24 true a = omega arith
second_and_frames At24 false a = omega arith
second_and_frames At25 true a = omega arith
second_and_frames At25 false a = omega arith
second_and_frames At30 true a = omega arith
second_and_frames At30 false a = omega arith

module _ (rate : Rate) (pictures : ℕ) (drop : Flag) (some : 0 < pictures) where
  -- what the call says where it accepts
  counted : (p : Picture) (n : PictureInSecond) → in_second_of rate pictures drop p ≡ Ok n
      → Clear (picture_refusals rate pictures drop p) × (number_in_second pictures p ≡ n.0)
  unfolding in_second_of
  counted p n e =
      let taken = accepted_so (picture_refusals rate pictures drop p) e in
      (taken.0, ap (λ (m : PictureInSecond). m.0) taken.1)

  -- it is refused as the number of the day is
  pub refused_alike : (p : Picture) (k : Refusal) → (number_of rate pictures drop p ≡ Err k) ↔ (in_second_of rate pictures drop p ≡ Err k)
  unfolding number_of in_second_of
  refused_alike p k = let rows = picture_refusals rate pictures drop p in (alike _ _ rows k, alike _ _ rows k)

  -- "Highest frame within a second goes from 29 to 59 where pictures are counted": it is below so many for each frame of a second
  pub within_its_second : (p : Picture) (n : PictureInSecond) → in_second_of rate pictures drop p ≡ Ok n → n.0 < pictures * frames_in_second rate
  within_its_second p n e =
      let taken = counted p n e in
      let out = clear_at OutsideTheClock (refusals_of rate drop p.address) (clear_of_picture rate drop pictures p taken.0) in
      rw taken.1 at
      (within pictures p.address.frames.0 p.place (frames_in_second rate)
      (inside (frames_in_second rate) p.address out).frames (place_of_clear rate drop pictures p taken.0 some))

  -- and the last picture of a second has the highest
  pub last_of_its_second :
      (p : Picture) (n : PictureInSecond) → in_second_of rate pictures drop p ≡ Ok n → p.address.frames.0 + 1 ≡ frames_in_second rate → p.place + 1 ≡ pictures
      → n.0 + 1 ≡ pictures * frames_in_second rate
  last_of_its_second p n e frames place = rw (← (counted p n e).1, ← frames, ← place) (omega arith)

  -- it counts as the day's numbers do: of two pictures of one second both numbers are equally far apart
  pub counts_alike :
      (p q : Picture) → SameSecond p.address q.address → (m n : DayFrame) (s t : PictureInSecond)
      → number_of rate pictures drop p ≡ Ok m → number_of rate pictures drop q ≡ Ok n
      → in_second_of rate pictures drop p ≡ Ok s → in_second_of rate pictures drop q ≡ Ok t → m.0 + t.0 ≡ n.0 + s.0
  counts_alike p q same m n s t first second third fourth =
      rw (← (numbered rate pictures drop some p m first).1, ← (numbered rate pictures drop some q n second).1, ← (counted p s third).1, ← (counted q t fourth).1)
      alike
    where
      alike : picture_number (frames_in_second rate) pictures (is_yes drop) p + number_in_second pictures q
          ≡ picture_number (frames_in_second rate) pictures (is_yes drop) q + number_in_second pictures p
      alike =
          rw (second_and_frames rate (is_yes drop) p.address, second_and_frames rate (is_yes drop) q.address, same.hours, same.minutes, same.seconds)
          (omega arith)
