-- `superframes::writing::packed` meets its contract: 8 as `record` gives it, then what is judged after it, and else its bits with the two put in.
-- Assumes nothing.
use Prim.Native.Nat.{ℕ, ◌+◌, ◌*◌, ◌/◌, ◌%◌, ◌^◌, ◌<◌}
use mathlib.Core.Path.{◌≡◌, refl, sym, ap, ◌∙◌}
use mathlib.Core.Bool.{Bool, true, false, ◌||◌, cond}
use Rattle.std.specs.Prelude.{Err, Ok, Result}
use Rattle.refusals.specs.declared.types.Refusal.{Refusal}
use Rattle.refusals.specs.declared.types.Refusal.TheVariants.{OutsideTheClock}
use Rattle.refusals.specs.Answer.{verdict_of}
use Rattle.refusals.proofs.Answered.{neither}
use Rattle.refusals.proofs.Results.{not_accepted, passed_on}
use Rattle.refusals.proofs.Verdicts.{refused_by, passed_by}
use Rattle.rates.specs.declared.types.Rate.{Rate}
use Rattle.rates.specs.declared.types.Flag.{Flag}
use Rattle.rates.specs.Rates.{frames_in_second}
use Rattle.rates.specs.Face.{outside}
use Rattle.rates.specs.Refused.{refusals_besides}
use Rattle.layout.specs.Flags.{flag_of, bit_of}
use Rattle.pictures.specs.Pictures.{place_outside}
use Rattle.record.specs.declared.types.Record.{Record}
use Rattle.record.specs.Record.{info_of, group_above_15}
use Rattle.record.specs.Calls as at_rate
use Rattle.record.proofs.Accepted.{writable}
use Rattle.record.proofs.Marks.{info_below}
use Rattle.superframes.specs.SubFrames.{three_for, flag_besides_drop, flagged, spread}
use Rattle.superframes.specs.Bare.{bare}
use Rattle.superframes.specs.Calls.{write_refusals, packed_of}
use Rattle.superframes.proofs.Bare.{eight_alone, bare_clear, two_add}
use Rattle.superframes.proofs.writing.packed.Goals as goal

sooner : (a b c : Bool) → (b || c) ≡ true → ((a || b) || c) ≡ true
sooner true b c e = refl
sooner false b c e = e

alone : (a b : Bool) → b ≡ false → (a || b) ≡ a
alone true b e = refl
alone false b e = e

module _ (rate : Rate) (last : ℕ) (r : Record) (three : ℕ) (spread_so : three ≡ three_for (last + 1) r.place) (told_of : Record)
    (without : told_of ≡ bare (flagged three r)) (made : Result ℕ Refusal) (asked : made ≡ at_rate.packed_of rate told_of) where
  abbrev whole : Record
  whole = spread (last + 1) r

  abbrev bad : Bool
  bad = group_above_15 r.groups || outside (frames_in_second rate) r.address

  as_made : made ≡ cond bad (Err OutsideTheClock) (Ok (info_of rate (bare whole)))
  unfolding at_rate.packed_of
  as_made = asked ∙ rw (without, spread_so) (eight_alone Err (Ok (info_of rate (bare whole))) rate (group_above_15 r.groups) whole)

  refused : (n : Refusal) → made ≡ Err n → Err n ≡ packed_of rate (last + 1) r
  unfolding packed_of
  refused n e = go bad refl
    where
      go : (t : Bool) → bad ≡ t → Err n ≡ packed_of rate (last + 1) r
      go true t =
          let eight : ◌≡◌ {A = Result ℕ Refusal} (Err n) (Err OutsideTheClock) = sym e ∙ as_made ∙ rw t in
          let first = sooner (place_outside (last + 1) r.place) (group_above_15 r.groups) (outside (frames_in_second rate) r.address) t in eight ∙ rw first
      go false t = let other : Err n ≡ Ok (info_of rate (bare whole)) = sym e ∙ as_made ∙ rw t in absurd (not_accepted n other)

  module _ (info : ℕ) (e : made ≡ Ok info) where
    stands : ((group_above_15 r.groups ≡ false) × (outside (frames_in_second rate) r.address ≡ false)) × (info_of rate (bare whole) ≡ info)
    stands = go bad refl
      where
        go : (t : Bool) → bad ≡ t → ((group_above_15 r.groups ≡ false) × (outside (frames_in_second rate) r.address ≡ false)) × (info_of rate (bare whole) ≡ info)
        go true t =
            let other : Err OutsideTheClock ≡ Ok info = sym (sym e ∙ as_made ∙ rw t) in absurd (not_accepted OutsideTheClock other)
        go false t =
            let own : ◌≡◌ {A = Result ℕ Refusal} (Ok info) (Ok (info_of rate (bare whole))) = sym e ∙ as_made ∙ rw t in
            (neither (group_above_15 r.groups) _ t, cc)

    module _ (drop_bit second_bit : ℕ) (second : Flag) (dropped : drop_bit ≡ bit_of r.flags.drop) (next : second ≡ flag_of (three / 2 % 2))
        (seconded : second_bit ≡ bit_of second) where
      whole_bits : info + 1024 * (drop_bit + 2 * second_bit) ≡ info_of rate whole
      whole_bits = rw (← stands.1, dropped, seconded, next, spread_so) (two_add rate whole)

      fits : info + 1024 * (drop_bit + 2 * second_bit) < 2 ^ 64
      fits = rw whole_bits (info_below rate whole (writable rate (bare r) (bare_clear rate r stands.0.0 stands.0.1)))

    module _ (out : Bool) (looked : out ≡ place_outside (last + 1) r.place) (set : Bool) (flagged_so : set ≡ flag_besides_drop r.flags) (found : Result Unit Refusal)
        (judged : found ≡ verdict_of (refusals_besides out set rate r.flags.drop r.address)) where
      judged_so : found ≡ verdict_of (write_refusals rate (last + 1) r)
      judged_so = judged ∙ rw (alone (place_outside (last + 1) r.place) (group_above_15 r.groups) stands.0.0, looked, flagged_so)

      turned_away : (n : Refusal) → found ≡ Err n → Err n ≡ packed_of rate (last + 1) r
      unfolding packed_of
      turned_away n e = refused_by Err _ (write_refusals rate (last + 1) r) found judged_so n e

      taken :
          found ≡ Ok tt → (drop_bit second_bit : ℕ) (second : Flag) → drop_bit ≡ bit_of r.flags.drop → second ≡ flag_of (three / 2 % 2)
          → second_bit ≡ bit_of second → Ok (info + 1024 * (drop_bit + 2 * second_bit)) ≡ packed_of rate (last + 1) r
      unfolding packed_of
      taken sound drop_bit second_bit second dropped next seconded =
          ap Ok (whole_bits drop_bit second_bit second dropped next seconded) ∙ passed_by Err _ (write_refusals rate (last + 1) r) found judged_so sound

pub returns-in_err-info : goal.returns-in_err-info
returns-in_err-info c = passed_on c.from_residual.ensures.1 (search (refused, c.in_err-info.was))

pub overflow_add-result-2 : goal.overflow_add-result-2
overflow_add-result-2 c = search (fits, c.in_ok-info.was)

pub returns-in_err-judge : goal.returns-in_err-judge
returns-in_err-judge c = passed_on c.from_residual-in_err-judge.ensures.1 (search (turned_away, c.in_ok-info.was, c.in_err-judge.was))

pub returns : goal.returns
returns c = search (taken, c.in_ok-info.was, c.in_ok-judge.was)
