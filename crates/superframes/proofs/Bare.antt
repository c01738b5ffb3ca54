-- Without drop and sub-frame 2 the bits hold the same record but for these two, and of such a record `record` gives 8 alone; and what the two add to its bits.
-- Assumes nothing.
use Prim.Native.Nat.{ℕ, ◌+◌, ◌-◌, ◌*◌, ◌/◌, ◌%◌, ◌^◌, ◌≤◌}
use mathlib.Core.Path.{◌≡◌, refl, sym, ap, ◌∙◌}
use mathlib.Core.Bool.{Bool, false, ◌||◌, cond}
use native.Mathlib.Omega.{arith}
use lib.Pow.{shr-shr}
use Rattle.refusals.specs.declared.types.Refusal.TheVariants.{OutsideTheClock}
use Rattle.refusals.specs.declared.types.Refusal.{Refusal}
use Rattle.refusals.specs.Answer.{answer}
use Rattle.refusals.proofs.Answered.{Clear}
use Rattle.rates.specs.declared.types.Rate.{Rate}
use Rattle.rates.specs.declared.types.Rate.TheVariants.{At24, At25, At30}
use Rattle.rates.specs.Rates.{frames_in_second}
use Rattle.rates.specs.Face.{outside}
use Rattle.layout.specs.Layout.{bits, join, layout}
use Rattle.layout.specs.Flags.{flag_of, flag_at, bit_of, Places, places}
use Rattle.record.specs.declared.types.Record.{Record}
use Rattle.record.specs.Record.{record_of, fields_of, info_of, digit_above_9, group_above_15}
use Rattle.record.specs.Calls.{record_refusals, write_refusals}
use Rattle.superframes.specs.Bare.{without, bare}

-- of a record without the two, 8 alone can be given
pub eight_alone :
    {A : Type 0} (refused : Refusal → A) (accepted : A) (rate : Rate) (bad : Bool) (r : Record)
    → answer refused (record_refusals rate bad false (bare r)) accepted ≡ cond (bad || outside (frames_in_second rate) r.address) (refused OutsideTheClock) accepted
eight_alone refused accepted At24 bad r = refl
eight_alone refused accepted At25 bad r = refl
eight_alone refused accepted At30 bad r = refl

-- and a record with such an address and such groups is clear of it
pub bare_clear : (rate : Rate) (r : Record) → group_above_15 r.groups ≡ false → outside (frames_in_second rate) r.address ≡ false → Clear (write_refusals rate (bare r))
bare_clear At24 r low inside = (rw low inside, (refl, (refl, tt)))
bare_clear At25 r low inside = (rw low inside, (refl, (refl, tt)))
bare_clear At30 r low inside = (rw low inside, (refl, (refl, tt)))

-- each flag whose place the rate decides stands above the two
record High (table : Places) : Type 0 where
  mark : 12 ≤ table.mark
  bgf0 : 12 ≤ table.bgf0
  bgf2 : 12 ≤ table.bgf2

high_places : (rate : Rate) → High (places rate)
high_places At24 = record { mark = omega arith; bgf0 = omega arith; bgf2 = omega arith }
high_places At25 = record { mark = omega arith; bgf0 = omega arith; bgf2 = omega arith }
high_places At30 = record { mark = omega arith; bgf0 = omega arith; bgf2 = omega arith }

module _ (info : ℕ) where
  abbrev rest : ℕ
  rest = without info

  upper : rest / 2 ^ 12 ≡ info / 2 ^ 12
  upper = omega arith

  -- what stands above the two is as it was
  above : (k w : ℕ) → rest / 2 ^ (12 + k) % w ≡ info / 2 ^ (12 + k) % w
  above k w = ap (λ (n : ℕ). n % w) (sym (shr-shr rest 12 k) ∙ ap (λ (n : ℕ). n / 2 ^ k) upper ∙ shr-shr info 12 k)

  flag_above : (place : ℕ) → 12 ≤ place → flag_at place rest ≡ flag_at place info
  flag_above place high =
      let same : 12 + (place - 12) ≡ place = omega arith in
      ap flag_of (rw same at (above (place - 12) (2 ^ (place + 1 - place))))

  -- and what stands below them
  frame_units : bits 0 3 rest ≡ bits 0 3 info
  frame_units = omega arith

  first_group : bits 4 7 rest ≡ bits 4 7 info
  first_group = omega arith

  frame_tens : bits 8 9 rest ≡ bits 8 9 info
  frame_tens = omega arith

  -- and the two are not set
  no_drop : bits 10 10 rest ≡ 0
  no_drop = omega arith

  no_second : bits 11 11 rest ≡ 0
  no_second =
      let whole : rest ≡ 4096 * (info / 4096) + info % 1024 = omega arith in
      let half : rest / 2048 ≡ 2 * (info / 4096) = omega arith in
      rw half (omega arith)

  pub digits_same : digit_above_9 rest ≡ digit_above_9 info
  digits_same = rw (frame_units, above 4 16, above 20 16, above 36 16)

  pub held_bare : (rate : Rate) → record_of rate rest ≡ bare (record_of rate info)
  unfolding record_of
  held_bare rate =
      let stand = high_places rate in
      λ i. record {
        address =
            record {
              hours = above 36 16 i + 10 * above 44 4 i;
              minutes = above 20 16 i + 10 * above 28 8 i;
              seconds = above 4 16 i + 10 * above 12 8 i;
              frames = record { 0 = frame_units i + 10 * frame_tens i };
            };
        flags =
            record {
              drop = flag_of (no_drop i);
              colour = flag_of (no_second i);
              mark = flag_above (places rate).mark stand.mark i;
              bgf0 = flag_above (places rate).bgf0 stand.bgf0 i;
              bgf1 = flag_above 58 (omega arith) i;
              bgf2 = flag_above (places rate).bgf2 stand.bgf2 i;
            };
        groups =
            record {
              group1 = first_group i;
              group2 = above 0 16 i;
              group3 = above 8 16 i;
              group4 = above 16 16 i;
              group5 = above 24 16 i;
              group6 = above 32 16 i;
              group7 = above 40 16 i;
              group8 = above 48 16 i;
            };
        place = 0;
      }

-- put in again, they add their bits
pub two_add :
    (rate : Rate) (r : Record) → info_of rate (bare r) + 1024 * (bit_of r.flags.drop + 2 * bit_of r.flags.colour) ≡ info_of rate r
unfolding info_of join layout fields_of
two_add rate r = omega arith
