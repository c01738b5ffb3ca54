-- Demand 2 of the calls that count, by mode: exactly where 8, 9, 10 and 14 are given; that clock fields, the distance and the sum go by the numbers of pictures. Shut out: a distance or
-- a sum that counts addresses, fields that take a place which no picture has, one number given for another.
-- Assumes nothing.
use Prim.Native.Nat.{ℕ, ◌≤◌}
use mathlib.Core.Path.{◌≡◌, refl, sym, ap, ◌∙◌}
use mathlib.Core.Bool.{true, false}
use mathlib.Core.List.{List}
use mathlib.Core.Logic.{◌↔◌, ◌⊎◌}
use native.Mathlib.Omega.{arith}
use lib.IntN.{ℤ}
use borrow.Author.Tests.{leb-true, le-leb}
use Rattle.refusals.proofs.Results.{accepted_so, refused_alike}
use Rattle.refusals.specs.declared.types.Refusal.TheVariants.{NumberPastTheDay, OutsideTheClock, SkippedAddress, UnusedBitSet}
use Rattle.std.specs.Prelude.{Err, Ok}
use Rattle.refusals.specs.declared.types.Refusal.{Refusal}
use Rattle.refusals.specs.Answer.{Cause, test_of}
use Rattle.refusals.proofs.Answered.{carried, otherwise_accepted, accepted_as}
use Rattle.refusals.proofs.First.{given_exactly}
use Rattle.rates.specs.declared.types.Flag.{Flag}
use Rattle.rates.specs.declared.types.Flag.TheVariants.{Yes}
use Rattle.rates.specs.Rates.{is_yes, frames_in_second}
use Rattle.clock.specs.declared.types.DayFrame.{DayFrame}
use Rattle.round.specs.Round.{distance_of, sum_of}
use Rattle.pictures.specs.declared.types.Picture.{Picture}
use Rattle.pictures.specs.Pictures.{pictures_in_day, picture_number, picture_at}
use Rattle.pictures.specs.Calls.{picture_refusals, two_refusals, number_refusals, number_of}
use Rattle.pictures.proofs.Moves as moves
use Rattle.modes.specs.Modes.{uncounted, rate_at, pictures_at, with_counting}
use Rattle.modes.specs.Calls.{number_in, picture_in, fields_in, span_in, plus_in}
use Rattle.modes.proofs.InMode.{accepted_in}
use Rattle.modes.proofs.EachMode.{some_picture}
use Rattle.modes.proofs.Counted.{picture_by_row, span_by_row, plus_by_row}
use Rattle.modes.proofs.Rows as counts
use Rattle.demands.specs.Refused.{Drops, OutsideClock, NoPlace, Skipped, Nine, DropUnused, PlaceUnused}
use Rattle.demands.proofs.Accepted.{counted_exactly}
use Rattle.demands.proofs.Numbers.{with_front}
use Rattle.demands.proofs.Tests.{either_exactly, both_exactly, yes_exactly, skipped_exactly, drops_exactly, clock_exactly, nine_exactly, outside_exactly, unused_exactly, drop_unused_exactly}
use Rattle.demands.proofs.Refused.{eighth, ninth, tenth}

module _ (mode : ℕ) (drop : Flag) where
  -- the mode is counted: that comes before all
  counted : ((uncounted mode ≡ false) × Unit {0}) ↔ (mode ≤ 10)
  counted = (λ clear. (counted_exactly mode).0 clear.0, λ few. ((counted_exactly mode).1 few, tt))

  module _ (p : Picture) where
    abbrev rows : List Cause
    rows = with_counting mode (picture_refusals (rate_at mode) (pictures_at mode) drop p)

    -- 8 a field outside the clock, or a place that no picture has; 10 drop where there is none, or a place where each address has one picture
    abbrev Eight : Type 0
    Eight = NoPlace mode p.place ⊎ OutsideClock mode p.address

    abbrev Ten : Type 0
    Ten = PlaceUnused mode p.place ⊎ DropUnused mode drop

    eight_is : mode ≤ 10 → (test_of OutsideTheClock rows ≡ true) ↔ Eight
    eight_is few = either_exactly _ _ (outside_exactly mode few p.place) (clock_exactly mode p.address)

    nine_is : mode ≤ 10 → (test_of SkippedAddress rows ≡ true) ↔ Nine mode drop p.address
    nine_is few = nine_exactly mode few drop p.address

    ten_is : mode ≤ 10 → (test_of UnusedBitSet rows ≡ true) ↔ Ten
    ten_is few = either_exactly _ _ (unused_exactly mode few p.place) (drop_unused_exactly mode few drop)

    abbrev number : DayFrame
    number = record { 0 = picture_number (frames_in_second (rate_at mode)) (pictures_at mode) (is_yes drop) p }

    pub number_refused_by_8 : (number_in mode drop p ≡ Err OutsideTheClock) ↔ ((mode ≤ 10) × Eight)
    number_refused_by_8 =
        rw (counts.number_rows mode drop p)
        (eighth (test_of OutsideTheClock rows) (test_of SkippedAddress rows) (test_of UnusedBitSet rows) eight_is nine_is ten_is
        (with_front (given_exactly _ OutsideTheClock rows (counts.picture_rows_in_order mode drop p)) counted))

    pub number_refused_by_9 : (number_in mode drop p ≡ Err SkippedAddress) ↔ ((mode ≤ 10) × (Eight → ⊥) × Nine mode drop p.address)
    number_refused_by_9 =
        rw (counts.number_rows mode drop p)
        (ninth (test_of OutsideTheClock rows) (test_of SkippedAddress rows) (test_of UnusedBitSet rows) eight_is nine_is ten_is
        (with_front (given_exactly _ SkippedAddress rows (counts.picture_rows_in_order mode drop p)) (
          λ clear. ((counted_exactly mode).0 clear.0, clear.1.0),
          λ all. ((counted_exactly mode).1 all.0, (all.1, tt)),
        )))

    pub number_refused_by_10 : (number_in mode drop p ≡ Err UnusedBitSet) ↔ ((mode ≤ 10) × (Eight → ⊥) × (Nine mode drop p.address → ⊥) × Ten)
    number_refused_by_10 =
        rw (counts.number_rows mode drop p)
        (tenth (test_of OutsideTheClock rows) (test_of SkippedAddress rows) (test_of UnusedBitSet rows) eight_is nine_is ten_is
        (with_front (given_exactly _ UnusedBitSet rows (counts.picture_rows_in_order mode drop p)) (
          λ clear. (((counted_exactly mode).0 clear.0, clear.1.0), clear.1.1.0),
          λ all. ((counted_exactly mode).1 all.0.0, (all.0.1, (all.1, tt))),
        )))

    -- clock fields are refused as the picture's number is, and make the picture where it has one
    pub fields_refused_alike : (k : Refusal) → number_in mode drop p ≡ Err k → fields_in mode drop p ≡ Err k
    fields_refused_alike k e =
        counts.fields_rows mode drop p ∙ refused_alike number p rows k (sym (counts.number_rows mode drop p) ∙ e)

    pub fields_as_numbers : (n : DayFrame) → number_in mode drop p ≡ Ok n → fields_in mode drop p ≡ Ok p
    fields_as_numbers n e =
        counts.fields_rows mode drop p
        ∙ otherwise_accepted Err (Ok p) rows (accepted_so rows (sym (counts.number_rows mode drop p) ∙ e)).0

    -- a sum is refused as the picture's number is, and is else the picture of the sum of numbers
    pub sum_refused_alike : (z : ℤ) (k : Refusal) → number_in mode drop p ≡ Err k → plus_in mode drop p z ≡ Err k
    sum_refused_alike z k e =
        let day = pictures_in_day (rate_at mode) (pictures_at mode) (is_yes drop) in
        let sum = picture_at (frames_in_second (rate_at mode)) (pictures_at mode) (is_yes drop) (sum_of day number.0 z) in
        counts.plus_rows mode drop p z ∙ refused_alike number sum rows k (sym (counts.number_rows mode drop p) ∙ e)

    pub sum_by_numbers :
        (n : DayFrame) (z : ℤ) → number_in mode drop p ≡ Ok n
        → plus_in mode drop p z ≡ picture_in mode drop (record { 0 = sum_of (pictures_in_day (rate_at mode) (pictures_at mode) (is_yes drop)) n.0 z })
    unfolding number_in
    sum_by_numbers n z e =
        let at = accepted_in mode (λ rate pictures. number_of rate pictures drop p) n e in
        let sum : DayFrame = record { 0 = sum_of (pictures_in_day (rate_at mode) (pictures_at mode) (is_yes drop)) n.0 z } in
        plus_by_row mode drop p z at.0 ∙ moves.sum_is (rate_at mode) (pictures_at mode) drop (some_picture mode) p n z at.1 ∙ sym (picture_by_row mode drop sum at.0)

  -- the distance is the one between the numbers of two pictures
  pub distance_by_numbers :
      (from to : Picture) (m n : DayFrame) → number_in mode drop from ≡ Ok m → number_in mode drop to ≡ Ok n
      → span_in mode drop from to ≡ Ok (distance_of (pictures_in_day (rate_at mode) (pictures_at mode) (is_yes drop)) m.0 n.0)
  unfolding number_in
  distance_by_numbers from to m n e f =
      let first = accepted_in mode (λ rate pictures. number_of rate pictures drop from) m e in
      let second = accepted_in mode (λ rate pictures. number_of rate pictures drop to) n f in
      span_by_row mode drop from to first.0 ∙ moves.distance_is (rate_at mode) (pictures_at mode) drop (some_picture mode) from to m n first.1 second.1

  -- and it is refused where one of the two is: by 8 where that applies to either, then by 9, then by 10
  module _ (from to : Picture) where
    abbrev two_rows : List Cause
    two_rows = with_counting mode (two_refusals (rate_at mode) (pictures_at mode) drop from to)

    abbrev EightOfTwo : Type 0
    EightOfTwo = (NoPlace mode from.place ⊎ NoPlace mode to.place) ⊎ (OutsideClock mode from.address ⊎ OutsideClock mode to.address)

    abbrev NineOfTwo : Type 0
    NineOfTwo = Drops mode × ((drop ≡ Yes) × (Skipped from.address ⊎ Skipped to.address))

    abbrev TenOfTwo : Type 0
    TenOfTwo = (PlaceUnused mode from.place ⊎ PlaceUnused mode to.place) ⊎ DropUnused mode drop

    eight_two : mode ≤ 10 → (test_of OutsideTheClock two_rows ≡ true) ↔ EightOfTwo
    eight_two few =
        either_exactly _ _ (either_exactly _ _ (outside_exactly mode few from.place) (outside_exactly mode few to.place))
        (either_exactly _ _ (clock_exactly mode from.address) (clock_exactly mode to.address))

    nine_two : mode ≤ 10 → (test_of SkippedAddress two_rows ≡ true) ↔ NineOfTwo
    nine_two few =
        both_exactly _ _ (drops_exactly mode few)
        (both_exactly _ _ (yes_exactly drop) (either_exactly _ _ (skipped_exactly from.address) (skipped_exactly to.address)))

    ten_two : mode ≤ 10 → (test_of UnusedBitSet two_rows ≡ true) ↔ TenOfTwo
    ten_two few =
        either_exactly _ _ (either_exactly _ _ (unused_exactly mode few from.place) (unused_exactly mode few to.place)) (drop_unused_exactly mode few drop)

    abbrev apart : ℤ
    apart =
        let count : Picture → ℕ = λ p. picture_number (frames_in_second (rate_at mode)) (pictures_at mode) (is_yes drop) p in
        distance_of (pictures_in_day (rate_at mode) (pictures_at mode) (is_yes drop)) (count from) (count to)

    pub distance_refused_by_8 : (span_in mode drop from to ≡ Err OutsideTheClock) ↔ ((mode ≤ 10) × EightOfTwo)
    distance_refused_by_8 =
        rw (counts.span_rows mode drop from to)
        (eighth (test_of OutsideTheClock two_rows) (test_of SkippedAddress two_rows) (test_of UnusedBitSet two_rows) eight_two nine_two ten_two
        (with_front (given_exactly _ OutsideTheClock two_rows (counts.two_rows_in_order mode drop from to)) counted))

    pub distance_refused_by_9 : (span_in mode drop from to ≡ Err SkippedAddress) ↔ ((mode ≤ 10) × (EightOfTwo → ⊥) × NineOfTwo)
    distance_refused_by_9 =
        rw (counts.span_rows mode drop from to)
        (ninth (test_of OutsideTheClock two_rows) (test_of SkippedAddress two_rows) (test_of UnusedBitSet two_rows) eight_two nine_two ten_two
        (with_front (given_exactly _ SkippedAddress two_rows (counts.two_rows_in_order mode drop from to)) (
          λ clear. ((counted_exactly mode).0 clear.0, clear.1.0),
          λ all. ((counted_exactly mode).1 all.0, (all.1, tt)),
        )))

    pub distance_refused_by_10 : (span_in mode drop from to ≡ Err UnusedBitSet) ↔ ((mode ≤ 10) × (EightOfTwo → ⊥) × (NineOfTwo → ⊥) × TenOfTwo)
    distance_refused_by_10 =
        rw (counts.span_rows mode drop from to)
        (tenth (test_of OutsideTheClock two_rows) (test_of SkippedAddress two_rows) (test_of UnusedBitSet two_rows) eight_two nine_two ten_two
        (with_front (given_exactly _ UnusedBitSet two_rows (counts.two_rows_in_order mode drop from to)) (
          λ clear. (((counted_exactly mode).0 clear.0, clear.1.0), clear.1.1.0),
          λ all. ((counted_exactly mode).1 all.0.0, (all.0.1, (all.1, tt))),
        )))

  -- a number of the day: 10 drop where there is none; 14 "frame number not below the day's count"
  module _ (n : DayFrame) where
    abbrev number_rows : List Cause
    number_rows = with_counting mode (number_refusals (rate_at mode) (pictures_at mode) drop n.0)

    abbrev numbered : Picture
    numbered = picture_at (frames_in_second (rate_at mode)) (pictures_at mode) (is_yes drop) n.0

    pub picture_refused_by_10 : (picture_in mode drop n ≡ Err UnusedBitSet) ↔ ((mode ≤ 10) × DropUnused mode drop)
    picture_refused_by_10 =
        rw (counts.picture_rows mode drop n)
        (eighth (test_of UnusedBitSet number_rows) false false (λ few. drop_unused_exactly mode few drop) (λ few. (λ e. e, λ e. e)) (λ few. (λ e. e, λ e. e))
        (with_front (given_exactly _ UnusedBitSet number_rows (counts.number_rows_in_order mode drop n.0)) counted))

    pub picture_refused_by_14 :
        (picture_in mode drop n ≡ Err NumberPastTheDay)
        ↔ ((mode ≤ 10) × (DropUnused mode drop → ⊥) × (pictures_in_day (rate_at mode) (pictures_at mode) (is_yes drop) ≤ n.0))
    picture_refused_by_14 =
        let day = pictures_in_day (rate_at mode) (pictures_at mode) (is_yes drop) in
        rw (counts.picture_rows mode drop n)
        (ninth (test_of UnusedBitSet number_rows) (test_of NumberPastTheDay number_rows) false (λ few. drop_unused_exactly mode few drop)
        (λ few. (leb-true day n.0, le-leb day n.0)) (λ few. (λ e. e, λ e. e))
        (with_front (given_exactly _ NumberPastTheDay number_rows (counts.number_rows_in_order mode drop n.0)) (
          λ clear. ((counted_exactly mode).0 clear.0, clear.1.0),
          λ all. ((counted_exactly mode).1 all.0, (all.1, tt)),
        )))
