-- High frame rates: a record makes 64 bits exactly where those bits hold the record, at every rate and with as many pictures to a super-frame as three sub-frame bits tell apart.
-- Assumes nothing.
use Prim.Native.Nat.{ℕ, ◌+◌, ◌*◌, ◌/◌, ◌%◌, ◌^◌, ◌<◌, ◌≤◌}
use mathlib.Core.Path.{◌≡◌, refl, sym, ap, subst, ◌∙◌}
use mathlib.Core.Bool.{Bool, true, false, ◌&&◌, ◌||◌, cond, true≢false}
use mathlib.Core.List.{List}
use mathlib.Core.Logic.{◌↔◌}
use native.Mathlib.Omega.{arith}
use borrow.Author.Tests.{leb-true, lt-ltb, leb-false}
use Rattle.refusals.proofs.Results.{accepted_so}
use Rattle.std.specs.Prelude.{Err, Ok}
use Rattle.refusals.specs.declared.types.Refusal.TheVariants.{OutsideTheClock, SkippedAddress, UnusedBitSet}
use Rattle.refusals.specs.Answer.{Cause}
use Rattle.refusals.proofs.Answered.{Clear, neither, otherwise_accepted}
use Rattle.refusals.proofs.ByNumber.{clear_at}
use Rattle.rates.specs.declared.types.Rate.{Rate}
use Rattle.rates.specs.declared.types.Flag.{Flag}
use Rattle.rates.specs.declared.types.Flag.TheVariants.{No, Yes}
use Rattle.rates.specs.Rates.{is_yes}
use Rattle.rates.specs.Refused.{refusals_besides}
use Rattle.layout.specs.Flags.{flag_of}
use Rattle.pictures.specs.Pictures.{place_outside}
use Rattle.record.specs.declared.types.Record.{Record}
use Rattle.record.specs.Record.{record_of, info_of, digit_above_9, group_above_15}
use Rattle.record.proofs.Accepted.{writable}
use Rattle.modes.specs.Modes.{high_rate, rate_at, pictures_at}
use Rattle.modes.proofs.EachMode.{few_pictures, several_share, high_exactly}
use Rattle.superframes.specs.SubFrames.{two_bits, three_as, place_in, other_set, flag_besides_drop, gathered, spread}
use Rattle.superframes.specs.Calls.{bits_refusals, write_refusals, unpacked_of, packed_of, unpacked_in, packed_in}
use Rattle.superframes.specs.Bare.{bare}
use Rattle.superframes.proofs.Bare.{bare_clear}
use Rattle.ltc.proofs.Evened.{is_no}
use Rattle.trips.proofs.Records.{bit_of_flag, read_back, no_digit_above_9, info_again, no_group_above_15}

-- a place that is not outside, where several share an address, is one of the pictures'
below : (pictures place : ℕ) → 1 < pictures → place_outside pictures place ≡ false → place < pictures
below pictures place several inside = leb-false pictures place (rw (lt-ltb 1 pictures several) at inside)

-- three bits that are spread over three flags are said again by them
three_again : (three : ℕ) → three < 8 → three_as (flag_of (three / 4 % 2)) (flag_of (three / 2 % 2)) (flag_of (three % 2)) ≡ three
three_again three low =
    let first : three / 4 % 2 ≡ three / 4 = omega arith in
    let second : 2 * (three / 4) + three / 2 % 2 ≡ three / 2 = omega arith in
    rw (bit_of_flag (three / 4), bit_of_flag (three / 2), bit_of_flag three, first) (omega arith)

-- and so is a place, where the super-frame has as many pictures as the bits that are used tell apart
module _ (pictures : ℕ) (few : pictures ≤ 8) where
  pub place_again : (r : Record) → r.place < pictures → place_in pictures (spread pictures r).flags ≡ r.place
  place_again r low = go (two_bits pictures) refl
    where
      go : (t : Bool) → two_bits pictures ≡ t → place_in pictures (spread pictures r).flags ≡ r.place
      go true t =
          let two = leb-true pictures 4 t in
          let half : 2 * r.place / 2 ≡ r.place = omega arith in
          rw (t, three_again (2 * r.place) (omega arith)) half
      go false t = rw (t, three_again r.place (omega arith))

-- no bit but those of the place is set
third_clear : (two : Bool) (place : ℕ) → (two && is_yes (flag_of (cond two (2 * place) place % 2))) ≡ false
third_clear true place = let even : 2 * place % 2 ≡ 0 = omega arith in rw even
third_clear false place = refl

-- and back: three flags are those of the place that they say, where no other is set
flags_again :
    (two : Bool) (a b c : Flag) → (two && is_yes c) ≡ false → let said : ℕ = cond two (three_as a b c / 2) (three_as a b c) in
    let three : ℕ = cond two (2 * said) said in (flag_of (three / 4 % 2) ≡ a) × ((flag_of (three / 2 % 2) ≡ b) × (flag_of (three % 2) ≡ c))
flags_again true a b Yes unset = absurd (true≢false unset)
flags_again true No No No unset = (refl, (refl, refl))
flags_again true No Yes No unset = (refl, (refl, refl))
flags_again true Yes No No unset = (refl, (refl, refl))
flags_again true Yes Yes No unset = (refl, (refl, refl))
flags_again false No No No unset = (refl, (refl, refl))
flags_again false No No Yes unset = (refl, (refl, refl))
flags_again false No Yes No unset = (refl, (refl, refl))
flags_again false No Yes Yes unset = (refl, (refl, refl))
flags_again false Yes No No unset = (refl, (refl, refl))
flags_again false Yes No Yes unset = (refl, (refl, refl))
flags_again false Yes Yes No unset = (refl, (refl, refl))
flags_again false Yes Yes Yes unset = (refl, (refl, refl))

-- a record with no flag but drop, spread and gathered, is itself
gathered_again : (pictures : ℕ) → pictures ≤ 8 → (r : Record) → r.place < pictures → flag_besides_drop r.flags ≡ false → gathered pictures (spread pictures r) ≡ r
gathered_again pictures few r low plain =
    let f = r.flags in
    let colour = neither (is_yes f.colour) _ plain in
    let mark = neither (is_yes f.mark) _ colour.1 in
    let bgf0 = neither (is_yes f.bgf0) _ mark.1 in
    let rest = neither (is_yes f.bgf1) _ bgf0.1 in
    λ i. record {
      address = r.address;
      flags =
          record {
            drop = f.drop;
            colour = sym (is_no f.colour colour.0) i;
            mark = sym (is_no f.mark mark.0) i;
            bgf0 = sym (is_no f.bgf0 bgf0.0) i;
            bgf1 = sym (is_no f.bgf1 rest.0) i;
            bgf2 = sym (is_no f.bgf2 rest.1) i;
          };
      groups = r.groups;
      place = place_again pictures few r low i;
    }

-- and one that was read, gathered and spread
spread_again : (pictures : ℕ) (rate : Rate) (n : ℕ) → other_set pictures (record_of rate n).flags ≡ false → spread pictures (gathered pictures (record_of rate n)) ≡ record_of rate n
unfolding record_of
spread_again pictures rate n unset =
    let held = record_of rate n in
    let f = held.flags in
    let third = neither (two_bits pictures && is_yes f.bgf0) _ unset in
    let rest = neither (is_yes f.bgf1) _ third.1 in
    let again = flags_again (two_bits pictures) f.mark f.colour f.bgf0 third.0 in
    λ i. record {
      address = held.address;
      flags =
          record {
            drop = f.drop;
            colour = again.1.0 i;
            mark = again.0 i;
            bgf0 = again.1.1 i;
            bgf1 = sym (is_no f.bgf1 rest.0) i;
            bgf2 = sym (is_no f.bgf2 rest.1) i;
          };
      groups = held.groups;
      place = 0;
    }

module _ (rate : Rate) (pictures : ℕ) (several : 1 < pictures) (few : pictures ≤ 8) where
  -- what the bits of a held record are refused with
  abbrev held_rows : Bool → Record → List Cause
  held_rows digit held =
      refusals_besides (digit || place_outside pictures (place_in pictures held.flags)) (other_set pictures held.flags) rate held.flags.drop held.address

  unpacked : (r : Record) → Clear (write_refusals rate pictures r) → unpacked_of rate pictures (info_of rate (spread pictures r)) ≡ Ok r
  unfolding unpacked_of
  unpacked r clear =
      let rows = write_refusals rate pictures r in
      let s = spread pictures r in
      let info = info_of rate s in
      let eight = neither (place_outside pictures r.place || group_above_15 r.groups) _ (clear_at OutsideTheClock rows clear) in
      let bad = neither (place_outside pictures r.place) (group_above_15 r.groups) eight.0 in
      let ten = neither (flag_besides_drop r.flags) _ (clear_at UnusedBitSet rows clear) in
      let place = below pictures r.place several bad.0 in
      let fits = writable rate (bare r) (bare_clear rate r bad.1 eight.1) in
      let held : record_of rate info ≡ s = read_back rate s fits in
      let digit = no_digit_above_9 rate s fits in
      let said = place_again pictures few r place in
      let stands : Clear (held_rows (digit_above_9 info) s) = (
        rw (digit, said, bad.0) eight.1,
        (clear_at SkippedAddress rows clear, (rw (third_clear (two_bits pictures) r.place) ten.1, tt)),
      ) in
      otherwise_accepted Err _ (bits_refusals rate pictures info) (subst (λ (h : Record). Clear (held_rows (digit_above_9 info) h)) (sym held) stands)
      ∙ ap (λ (h : Record). Ok (gathered pictures h)) held
      ∙ ap Ok (gathered_again pictures few r place ten.0)

  packed : (n : ℕ) → n < 2 ^ 64 → Clear (bits_refusals rate pictures n) → packed_of rate pictures (gathered pictures (record_of rate n)) ≡ Ok n
  unfolding packed_of
  packed n low clear =
      let rows = bits_refusals rate pictures n in
      let held = record_of rate n in
      let eight = neither (digit_above_9 n || place_outside pictures (place_in pictures held.flags)) _ (clear_at OutsideTheClock rows clear) in
      let bad = neither (digit_above_9 n) _ eight.0 in
      let ten = neither (other_set pictures held.flags) _ (clear_at UnusedBitSet rows clear) in
      let stands : Clear (write_refusals rate pictures (gathered pictures held)) =
      (rw (bad.1, no_group_above_15 rate n) eight.1, (clear_at SkippedAddress rows clear, (ten.1, tt))) in
      otherwise_accepted Err _ (write_refusals rate pictures (gathered pictures held)) stands
      ∙ ap Ok (ap (info_of rate) (spread_again pictures rate n ten.0) ∙ info_again rate n low bad.0)

  pub one_to_one : (n : ℕ) (r : Record) → n < 2 ^ 64 → packed_of rate pictures r ≡ Ok n ↔ unpacked_of rate pictures n ≡ Ok r
  unfolding packed_of unpacked_of
  one_to_one n r low = (there, back)
    where
      there : packed_of rate pictures r ≡ Ok n → unpacked_of rate pictures n ≡ Ok r
      there e =
          let taken = accepted_so (write_refusals rate pictures r) e in
          let same : info_of rate (spread pictures r) ≡ n = taken.1 in
          subst (λ (m : ℕ). unpacked_of rate pictures m ≡ Ok r) same (unpacked r taken.0)

      back : unpacked_of rate pictures n ≡ Ok r → packed_of rate pictures r ≡ Ok n
      back e =
          let taken = accepted_so (bits_refusals rate pictures n) e in
          subst (λ (s : Record). packed_of rate pictures s ≡ Ok n) (taken.1) (packed n low taken.0)

-- and so by mode, in every mode of a high frame rate
pub high_one_to_one : (mode : ℕ) → high_rate mode ≡ true → (n : ℕ) (r : Record) → n < 2 ^ 64 → (packed_in mode r ≡ Ok n) ↔ (unpacked_in mode n ≡ Ok r)
unfolding packed_in unpacked_in packed_of unpacked_of
high_one_to_one mode high n r low =
    let within = (high_exactly mode).0 high in
    let several : 1 < pictures_at mode = several_share mode (omega arith) in
    rw high (one_to_one (rate_at mode) (pictures_at mode) several (few_pictures mode) n r low)
