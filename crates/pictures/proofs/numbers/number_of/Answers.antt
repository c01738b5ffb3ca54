-- `pictures::numbers::number_of` meets its contract: 8 for the place, then what the clock answers of the address, then 10 for the place, and else the number.
-- Assumes nothing.
use mathlib.Core.Path.{◌≡◌, refl, sym, ◌∙◌}
use mathlib.Core.Bool.{Bool, true, false, not, ◌&&◌}
use Prim.Native.Nat.{ℕ, ◌+◌, ◌*◌, ◌<◌}
use native.Mathlib.Omega.{arith}
use borrow.Author.Rules.{rules}
use Rattle.refusals.proofs.Results.{not_accepted, passed_on}
use Rattle.refusals.specs.declared.types.Refusal.{Refusal}
use Rattle.std.specs.Prelude.{Err, Ok, Result}
use Rattle.refusals.specs.declared.types.Refusal.TheVariants.{OutsideTheClock, SkippedAddress, UnusedBitSet}
use Rattle.refusals.specs.Answer.{answer}
use Rattle.refusals.proofs.Answered.{Clear, otherwise_accepted}
use Rattle.refusals.proofs.ByNumber.{clear_at}
use Rattle.rates.specs.declared.types.Rate.{Rate}
use Rattle.rates.specs.declared.types.Flag.{Flag}
use Rattle.rates.specs.Rates.{is_yes, frames_in_second, may_drop}
use Rattle.rates.specs.Face.{outside, skipped}
use Rattle.rates.specs.Refused.{address_refusals, refusals_of}
use Rattle.clock.specs.declared.types.DayFrame.{DayFrame}
use Rattle.clock.specs.Counting.{count_of}
use Rattle.clock.specs.Calls as clock
use Rattle.midnight.proofs.Answers as address
use Rattle.pictures.specs.declared.types.Picture.{Picture}
use Rattle.pictures.specs.Pictures.{place_outside, place_unused, picture_number}
use Rattle.pictures.specs.Calls.{picture_refusals, number_of}
use Rattle.pictures.proofs.Sizes.{count_below, count_fits}
use Rattle.pictures.proofs.numbers.number_of.Goals as goal

-- what an address is refused with, it is refused with whatever else makes 10 apply
still_refused :
    (rate : Rate) (drop out skip unused : Bool) (n : DayFrame) (given : Result DayFrame Refusal) (k : Refusal)
    → answer Err (address_refusals rate drop out skip false) (Ok n) ≡ Err k
    → answer Err (address_refusals rate drop out skip unused) given ≡ Err k
still_refused rate drop out skip unused n given k e = go out (may_drop rate && (drop && skip)) refl (drop && not (may_drop rate)) refl unused e
  where
    go :
        (o nine : Bool) → (may_drop rate && (drop && skip)) ≡ nine → (ten : Bool) → (drop && not (may_drop rate)) ≡ ten → (u : Bool)
        → answer Err (address_refusals rate drop o skip false) (Ok n) ≡ Err k
        → answer Err (address_refusals rate drop o skip u) given ≡ Err k
    go true nine s ten d u e = e
    go false true s ten d u e = rw s (rw s at e)
    go false false s true d true e = rw s (rw (s, d) at e)
    go false false s true d false e = rw (s, d) (rw (s, d) at e)
    go false false s false d u e = absurd (not_accepted k (sym (rw (s, d) at e)))

module _ (rate : Rate) (last : ℕ) (drop : Flag) (p : Picture) (out : Bool) (tested : out ≡ place_outside (last + 1) p.place) where
  no_place : out ≡ true → Err OutsideTheClock ≡ number_of rate (last + 1) drop p
  unfolding number_of
  no_place e = rw (← tested, e)

  module _ (inside : out ≡ false) (counted : Result DayFrame Refusal) (asked : counted ≡ clock.number_of rate drop p.address) where
    refused : (k : Refusal) → counted ≡ Err k → Err k ≡ number_of rate (last + 1) drop p
    unfolding number_of clock.number_of
    refused k e =
        let a = p.address in
        let number : DayFrame = record { 0 = count_of (frames_in_second rate) (is_yes drop) a } in
        let own : Result DayFrame Refusal = Ok (record { 0 = picture_number (frames_in_second rate) (last + 1) (is_yes drop) p }) in
        sym (rw (← tested, inside)
        (still_refused rate (is_yes drop) (outside (frames_in_second rate) a) (skipped a) (place_unused (last + 1) p.place) number own k (sym asked ∙ e)))

    module _ (before : DayFrame) (e : counted ≡ Ok before) where
      own : Clear (refusals_of rate drop p.address) × (count_of (frames_in_second rate) (is_yes drop) p.address ≡ before.0)
      own = address.numbered rate drop p.address before (sym asked ∙ e)

      small : last < 256 → (last + 1) * before.0 < 663552000
      small few = count_fits rate (last + 1) before.0 (is_yes drop) (omega arith) (rw own.1 at (count_below rate drop p.address own.0))

      module _ (unused : Bool) (looked : unused ≡ place_unused (last + 1) p.place) where
        not_used : unused ≡ true → Err UnusedBitSet ≡ number_of rate (last + 1) drop p
        unfolding number_of
        not_used t =
            let rows = refusals_of rate drop p.address in
            rw (← tested, inside, clear_at OutsideTheClock rows own.0, clear_at SkippedAddress rows own.0, ← looked, t)

        numbered : unused ≡ false → Ok (record { 0 = (last + 1) * before.0 + p.place }) ≡ number_of rate (last + 1) drop p
        unfolding number_of
        numbered f =
            let rows = refusals_of rate drop p.address in
            let clear : Clear (picture_refusals rate (last + 1) drop p) = (
              rw (← tested, inside) (clear_at OutsideTheClock rows own.0),
              (clear_at SkippedAddress rows own.0, (rw (← looked, f) (clear_at UnusedBitSet rows own.0), tt)),
            ) in
            rw (← own.1) (sym (otherwise_accepted Err _ (picture_refusals rate (last + 1) drop p) clear))

pub returns-then-is_place_outside : goal.returns-then-is_place_outside
returns-then-is_place_outside c = search no_place

pub returns-then-is_place_unused : goal.returns-then-is_place_unused
returns-then-is_place_unused c = search (not_used, c.in_ok-before.was)

pub overflow_mul-number : goal.overflow_mul-number
overflow_mul-number c =
    let few =
    small c.args.counting.rate c.args.counting.last c.args.drop c.args.picture _ c.is_place_outside.ensures (search rules) _ c.number_of.ensures
    c.in_ok-before.before c.in_ok-before.was (search rules) in
    omega (arith, few)

pub overflow_add-number-2 : goal.overflow_add-number-2
overflow_add-number-2 c =
    let few =
    small c.args.counting.rate c.args.counting.last c.args.drop c.args.picture _ c.is_place_outside.ensures (search rules) _ c.number_of.ensures
    c.in_ok-before.before c.in_ok-before.was (search rules) in
    omega (arith, few)

pub returns-in_err-before : goal.returns-in_err-before
returns-in_err-before c = passed_on c.from_residual.ensures.1 (search (refused, c.in_err-before.was))

pub returns : goal.returns
returns c = search (numbered, c.in_ok-before.was)
