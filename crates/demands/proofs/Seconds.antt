-- Demand 2, and document 02, A4: "Highest frame within a second goes from 29 to 59 where pictures are counted": the number of a picture within its second.
-- Assumes nothing.
use Prim.Native.Nat.{ℕ, ◌+◌, ◌*◌, ◌<◌}
use mathlib.Core.Path.{◌≡◌}
use mathlib.Core.Logic.{◌↔◌}
use Rattle.refusals.proofs.Results.{refused_alike}
use Rattle.std.specs.Prelude.{Err, Ok}
use Rattle.refusals.specs.declared.types.Refusal.{Refusal}
use Rattle.rates.specs.declared.types.Flag.{Flag}
use Rattle.rates.specs.Rates.{frames_in_second}
use Rattle.clock.specs.declared.types.DayFrame.{DayFrame}
use Rattle.pictures.specs.declared.types.Picture.{Picture}
use Rattle.pictures.specs.declared.types.PictureInSecond.{PictureInSecond}
use Rattle.pictures.specs.Pictures.{SameSecond}
use Rattle.pictures.specs.Calls.{picture_refusals, number_of, in_second_of}
use Rattle.pictures.proofs.Seconds as any
use Rattle.modes.specs.Modes.{rate_at, pictures_at, with_counting}
use Rattle.modes.specs.Calls.{number_in, in_second_in}
use Rattle.modes.proofs.InMode.{accepted_in}
use Rattle.modes.proofs.EachMode.{some_picture}

-- Of `modes::number_in_second`, in every mode. It refuses what `modes::number_of` refuses, by the same number; the last picture of a second has the highest number, one less
-- than the pictures of a second; and of two pictures of one second the numbers within it are as far apart as those of the day. So no other numbers are left: each second counts
-- down from its last picture. Shut out: one that ends at 29 at 60, one that counts addresses, one that begins at 0 the seconds that drop-frame begins at 02.
module _ (mode : ℕ) (drop : Flag) where
  by_row_numbered : (p : Picture) (n : DayFrame) → number_in mode drop p ≡ Ok n → number_of (rate_at mode) (pictures_at mode) drop p ≡ Ok n
  unfolding number_in
  by_row_numbered p n e = (accepted_in mode (λ rate pictures. number_of rate pictures drop p) n e).1

  by_row_counted : (p : Picture) (s : PictureInSecond) → in_second_in mode drop p ≡ Ok s → in_second_of (rate_at mode) (pictures_at mode) drop p ≡ Ok s
  unfolding in_second_in
  by_row_counted p s e = (accepted_in mode (λ rate pictures. in_second_of rate pictures drop p) s e).1

  pub both_refused_alike : (p : Picture) (k : Refusal) → (number_in mode drop p ≡ Err k) ↔ (in_second_in mode drop p ≡ Err k)
  unfolding number_in number_of in_second_in in_second_of
  both_refused_alike p k = let rows = with_counting mode (picture_refusals (rate_at mode) (pictures_at mode) drop p) in (refused_alike _ _ rows k, refused_alike _ _ rows k)

  pub within_a_second : (p : Picture) (s : PictureInSecond) → in_second_in mode drop p ≡ Ok s → s.0 < pictures_at mode * frames_in_second (rate_at mode)
  within_a_second p s e = any.within_its_second (rate_at mode) (pictures_at mode) drop (some_picture mode) p s (by_row_counted p s e)

  pub highest_in_a_second :
      (p : Picture) (s : PictureInSecond) → in_second_in mode drop p ≡ Ok s
      → p.address.frames.0 + 1 ≡ frames_in_second (rate_at mode) → p.place + 1 ≡ pictures_at mode → s.0 + 1 ≡ pictures_at mode * frames_in_second (rate_at mode)
  highest_in_a_second p s e = any.last_of_its_second (rate_at mode) (pictures_at mode) drop (some_picture mode) p s (by_row_counted p s e)

  pub both_count_alike :
      (p q : Picture) → SameSecond p.address q.address → (m n : DayFrame) (s t : PictureInSecond)
      → number_in mode drop p ≡ Ok m → number_in mode drop q ≡ Ok n → in_second_in mode drop p ≡ Ok s → in_second_in mode drop q ≡ Ok t
      → m.0 + t.0 ≡ n.0 + s.0
  both_count_alike p q same m n s t first second third fourth =
      any.counts_alike (rate_at mode) (pictures_at mode) drop (some_picture mode) p q same m n s t
      (by_row_numbered p m first) (by_row_numbered q n second) (by_row_counted p s third) (by_row_counted q t fourth)
