-- Numbers and pictures match one to one, said of what the calls answer: for every number of pictures to an address above 0 and every rate.
-- Assumes nothing.
use Prim.Native.Nat.{ℕ, ◌*◌, ◌<◌}
use mathlib.Core.Path.{◌≡◌, refl, sym, ap, subst, ◌∙◌}
use mathlib.Core.Bool.{Bool, true, false, not, ◌&&◌, ◌||◌}
use mathlib.Core.Logic.{◌↔◌, ◌⊎◌, inl, inr, ⊎_elim}
use borrow.Author.Tests.{leb-false, lt-leb}
use Rattle.refusals.specs.declared.types.Refusal.{Refusal}
use Rattle.std.specs.Prelude.{Err, Ok}
use Rattle.refusals.specs.declared.types.Refusal.TheVariants.{NumberPastTheDay, OutsideTheClock, SkippedAddress, UnusedBitSet}
use Rattle.refusals.proofs.ByNumber.{clear_at}
use Rattle.refusals.proofs.Answered.{Clear, otherwise_accepted}
use Rattle.refusals.proofs.Results.{not_accepted, accepted_so, refused_alike}
use Rattle.rates.specs.declared.types.Rate.{Rate}
use Rattle.rates.specs.declared.types.Flag.{Flag}
use Rattle.rates.specs.Rates.{is_yes, frames_in_second, may_drop}
use Rattle.rates.specs.Face.{outside, skipped}
use Rattle.rates.specs.Refused.{refusals_of}
use Rattle.clock.specs.declared.types.DayFrame.{DayFrame}
use Rattle.clock.specs.Counting.{day_of}
use Rattle.midnight.proofs.Answers.{Counts, counts, clear_address, address_clear}
use Rattle.midnight.proofs.Shown.{turned_away}
use Rattle.pictures.specs.declared.types.Picture.{Picture}
use Rattle.pictures.specs.Pictures.{place_outside, place_unused, pictures_in_day, picture_number, picture_at}
use Rattle.pictures.specs.Steps.{picture_shown}
use Rattle.pictures.specs.Calls.{picture_refusals, number_refusals, number_of, picture_of, fields_of}
use Rattle.pictures.proofs.Sizes.{place_clear, unused_alone, clear_of_picture, place_of_clear}
use Rattle.pictures.proofs.Shown.{shown_below, number_of_picture, picture_of_number, shown_at_number, shown_only}

-- a picture that is shown
pub record Sound (rate : Rate) (pictures : ℕ) (drop : Flag) (p : Picture) : Type 0 where
  pub counts : Counts rate (is_yes drop)
  pub stands : turned_away (frames_in_second rate) (is_yes drop) p.address ≡ false
  pub place : p.place < pictures

module _ (rate : Rate) (pictures : ℕ) (drop : Flag) (some : 0 < pictures) where
  pub sound : (p : Picture) → Clear (picture_refusals rate pictures drop p) → Sound rate pictures drop p
  sound p clear =
      let shown = clear_address rate drop p.address (clear_of_picture rate drop pictures p clear) in
      record { counts = shown.0; stands = shown.1; place = place_of_clear rate drop pictures p clear some }

  clear_picture :
      (is_yes drop && not (may_drop rate)) ≡ false → (p : Picture) → turned_away (frames_in_second rate) (is_yes drop) p.address ≡ false → p.place < pictures
      → Clear (picture_refusals rate pictures drop p)
  clear_picture allowed p stands low =
      let place = place_clear pictures p.place low in
      let own = refusals_of rate drop p.address in
      let clear = address_clear rate drop p.address allowed stands in
      (rw place.0 (clear_at OutsideTheClock own clear), (clear_at SkippedAddress own clear, (rw place.1 (clear_at UnusedBitSet own clear), tt)))

  -- what each call says where it accepts
  pub numbered : (p : Picture) (n : DayFrame) → number_of rate pictures drop p ≡ Ok n
      → Clear (picture_refusals rate pictures drop p) × (picture_number (frames_in_second rate) pictures (is_yes drop) p ≡ n.0)
  unfolding number_of
  numbered p n e =
      let taken = accepted_so (picture_refusals rate pictures drop p) e in
      (taken.0, ap (λ (m : DayFrame). m.0) taken.1)

  pictured : (p : Picture) (n : DayFrame) → picture_of rate pictures drop n ≡ Ok p
      → Clear (number_refusals rate pictures drop n.0) × (picture_at (frames_in_second rate) pictures (is_yes drop) n.0 ≡ p)
  unfolding picture_of
  pictured p n e = accepted_so (number_refusals rate pictures drop n.0) e

  -- "State once, for any number of pictures to an address, that numbers and addresses match one to one"
  pub one_to_one : (p : Picture) (n : DayFrame) → number_of rate pictures drop p ≡ Ok n ↔ picture_of rate pictures drop n ≡ Ok p
  unfolding number_of picture_of
  one_to_one p n = (there, back)
    where
      there : number_of rate pictures drop p ≡ Ok n → picture_of rate pictures drop n ≡ Ok p
      there e =
          let number = numbered p n e in
          let is = sound p number.0 in
          let found = picture_of_number (frames_in_second rate) pictures (is_yes drop) some is.counts.way p is.stands is.place in
          let low : n.0 < pictures_in_day rate pictures (is_yes drop) = rw (is.counts.day, ← number.1) found.0 in
          let allowed = clear_at UnusedBitSet (refusals_of rate drop p.address) (clear_of_picture rate drop pictures p number.0) in
          otherwise_accepted Err _ (number_refusals rate pictures drop n.0) (allowed, (lt-leb _ _ low, tt))
          ∙ ap Ok (rw (← number.1) found.1)

      back : picture_of rate pictures drop n ≡ Ok p → number_of rate pictures drop p ≡ Ok n
      back e =
          let found = pictured p n e in
          let rows = number_refusals rate pictures drop n.0 in
          let allowed = clear_at UnusedBitSet rows found.0 in
          let kind = counts rate (is_yes drop) allowed in
          let low : n.0 < pictures * day_of (frames_in_second rate) (is_yes drop) =
          rw (← kind.day) (leb-false _ _ (clear_at NumberPastTheDay rows found.0)) in
          let shows : picture_shown (frames_in_second rate) pictures (is_yes drop) n.0 ≡ p = shown_below (frames_in_second rate) pictures (is_yes drop) some kind.way n.0 low ∙ found.1 in
          let is = shown_only (frames_in_second rate) pictures (is_yes drop) some kind.way p n.0 shows in
          let number =
          subst (λ (q : Picture). picture_number (frames_in_second rate) pictures (is_yes drop) q ≡ n.0) found.1
          (number_of_picture (frames_in_second rate) pictures (is_yes drop) some kind.way n.0 low) in
          otherwise_accepted Err _ (picture_refusals rate pictures drop p) (clear_picture allowed p is.0 is.1)
          ∙ ap (λ (k : ℕ). Ok (record { 0 = k })) number

  -- where drop may be asked for, every number below the day's count is answered by what is shown, and that by the number
  module _ (allowed : (is_yes drop && not (may_drop rate)) ≡ false) (n : ℕ) (low : n < pictures_in_day rate pictures (is_yes drop)) where
    pub picture_is_shown : picture_of rate pictures drop (record { 0 = n }) ≡ Ok (picture_shown (frames_in_second rate) pictures (is_yes drop) n)
    unfolding picture_of
    picture_is_shown =
        let kind = counts rate (is_yes drop) allowed in
        otherwise_accepted Err _ (number_refusals rate pictures drop n) (allowed, (lt-leb _ _ low, tt))
        ∙ ap Ok (sym (shown_below (frames_in_second rate) pictures (is_yes drop) some kind.way n (rw kind.day at low)))

    pub number_of_shown : number_of rate pictures drop (picture_shown (frames_in_second rate) pictures (is_yes drop) n) ≡ Ok (record { 0 = n })
    number_of_shown = (one_to_one (picture_shown (frames_in_second rate) pictures (is_yes drop) n) (record { 0 = n })).1 picture_is_shown

  -- clock fields and a place make a picture exactly where it has a number, and are refused as it is
  pub fields_as_number : (p : Picture) (n : Refusal) → number_of rate pictures drop p ≡ Err n ↔ fields_of rate pictures drop p ≡ Err n
  unfolding number_of fields_of
  fields_as_number p n =
      let rows = picture_refusals rate pictures drop p in
      (refused_alike _ _ rows n, refused_alike _ _ rows n)

  -- a picture is turned away exactly where no number of steps, picture by picture, shows it: by 8 or 9, or, where it would have the address to itself and is not the
  -- first, by 10; where drop may be asked for
  abbrev pub TurnedAway : Picture → Type 0
  TurnedAway p =
      (number_of rate pictures drop p ≡ Err OutsideTheClock)
      ⊎ ((number_of rate pictures drop p ≡ Err SkippedAddress) ⊎ ((number_of rate pictures drop p ≡ Err UnusedBitSet) × (pictures ≡ 1) × (0 < p.place)))

  pub refused_exactly :
      (is_yes drop && not (may_drop rate)) ≡ false → (p : Picture)
      → TurnedAway p ↔ ((n : ℕ) → picture_shown (frames_in_second rate) pictures (is_yes drop) n ≡ p → ⊥)
  unfolding number_of
  refused_exactly allowed p = (⊎_elim (away OutsideTheClock) (⊎_elim (away SkippedAddress) (λ ten. away UnusedBitSet ten.0)), by_number _ refl _ refl _ refl)
    where
      away : (k : Refusal) → number_of rate pictures drop p ≡ Err k → (n : ℕ) → picture_shown (frames_in_second rate) pictures (is_yes drop) n ≡ p → ⊥
      away k refused n shows =
          let is = shown_only (frames_in_second rate) pictures (is_yes drop) some (counts rate (is_yes drop) allowed).way p n shows in
          not_accepted k (sym refused ∙ otherwise_accepted Err _ (picture_refusals rate pictures drop p) (clear_picture allowed p is.0 is.1))

      by_number :
          (o : Bool) → (place_outside pictures p.place || outside (frames_in_second rate) p.address) ≡ o
          → (s : Bool) → (may_drop rate && (is_yes drop && skipped p.address)) ≡ s → (u : Bool) → place_unused pictures p.place ≡ u
          → ((n : ℕ) → picture_shown (frames_in_second rate) pictures (is_yes drop) n ≡ p → ⊥) → TurnedAway p
      by_number true o s' s u' u never = inl (rw o)
      by_number false o true s u' u never = inr (inl (rw (o, s)))
      by_number false o false s true u never =
          let alone = unused_alone pictures p.place some u in inr (inr (rw (o, s, u), alone.0, alone.1))
      by_number false o false s false u never =
          let is = sound p (o, (s, (rw u allowed, tt))) in
          absurd (never _ (shown_at_number (frames_in_second rate) pictures (is_yes drop) some is.counts.way p is.stands is.place))
