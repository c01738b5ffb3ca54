-- In a mode that is known a record makes 64 bits exactly where those bits hold the record's first picture and its place is one of the mode's; and, where the record
-- shows its picture, exactly where they are read as the record.
-- Assumes nothing.
use Prim.Native.Nat.{ℕ, ◌^◌, ◌<◌, ◌≤◌}
use mathlib.Core.Path.{◌≡◌, refl, sym, ap, subst, ◌∙◌}
use mathlib.Core.Bool.{Bool, true, false, cond}
use mathlib.Core.Logic.{◌↔◌}
use native.Mathlib.Omega.{arith}
use borrow.Author.Tests.{ltb-true, ltb-false, eqb-true, eq-eqb, not-false}
use Rattle.refusals.proofs.Results.{accepted_so}
use Rattle.std.specs.Prelude.{Err, Ok}
use Rattle.refusals.specs.declared.types.Refusal.TheVariants.{OutsideTheClock, UnknownMode}
use Rattle.refusals.proofs.Answered.{Clear, otherwise_accepted}
use Rattle.refusals.proofs.ByNumber.{clear_at, clear_from}
use Rattle.rates.specs.declared.types.Flag.{Flag}
use Rattle.rates.specs.declared.types.Flag.TheVariants.{No, Yes}
use Rattle.layout.specs.Flags.{bit_of}
use Rattle.pictures.specs.Pictures.{several, place_unused}
use Rattle.pictures.proofs.Sizes.{place_below, place_clear}
use Rattle.record.specs.declared.types.Record.{Record}
use Rattle.record.specs.Record.{record_of, at_place}
use Rattle.record.specs.Calls.{packed_of, unpacked_of}
use Rattle.modes.specs.declared.types.Shows.{Shows}
use Rattle.modes.specs.declared.types.Shows.TheVariants.{First, ByMark}
use Rattle.modes.specs.Modes.{unknown, rate_at, pictures_at, with_mode}
use Rattle.modes.specs.Calls.{record_in, bits_refusals_in, write_refusals_in, packed_in, unpacked_in}
use Rattle.modes.specs.AtRate.{place_left, at_rate}
use Rattle.modes.specs.Shown.{place_shown, shown_record, shown_in, unshown, carried_in}
use Rattle.modes.proofs.EachMode.{some_picture}
use Rattle.modes.proofs.Told.{packed_is, carried_exactly}
use Rattle.modes.proofs.ByRate.{left_unused, packs_at_rate, place_inside, place_used}
use Rattle.modes.proofs.Shown.{shown_as, shown_is}
use Rattle.trips.proofs.Records as rate

-- a place that is used leaves none for the rate
none_left : (pictures place : ℕ) → place_unused pictures place ≡ false → place_left pictures place ≡ 0
none_left pictures place used =
    let low = ltb-false 0 (place_left pictures place) (left_unused pictures place ∙ used) in omega arith

module _ (mode : ℕ) where
  unpacks_at_rate : (n : ℕ) → unknown mode ≡ false → unpacked_in mode n ≡ unpacked_of (rate_at mode) n
  unfolding unpacked_in unpacked_of
  unpacks_at_rate n known = rw known

  -- bits that were unpacked are clear of refusals
  pub unpacked_clear : (n : ℕ) (r : Record) → unpacked_in mode n ≡ Ok r → Clear (with_mode mode (bits_refusals_in mode n))
  unfolding unpacked_in
  unpacked_clear n r e = (accepted_so (with_mode mode (bits_refusals_in mode n)) e).0

  -- a record makes 64 bits exactly where those bits hold its first picture, and its place is one of the mode's
  pub one_to_one :
      (n : ℕ) (r : Record) → n < 2 ^ 64
      → packed_in mode r ≡ Ok n ↔ ((unpacked_in mode n ≡ Ok (at_place 0 r)) × (r.place < pictures_at mode))
  one_to_one n r low = (there, back)
    where
      there : packed_in mode r ≡ Ok n → (unpacked_in mode n ≡ Ok (at_place 0 r)) × (r.place < pictures_at mode)
      there e =
          let rows = with_mode mode (write_refusals_in mode r) in
          let clear = (packed_is mode r n e).0 in
          let known = clear_at UnknownMode rows clear in
          let own = clear_from OutsideTheClock rows clear in
          let inside = place_inside mode r own in
          let used = place_used mode r own in
          let held = (rate.one_to_one (rate_at mode) n (at_rate (pictures_at mode) r) low).0 (sym (packs_at_rate mode r known inside) ∙ e) in (
            unpacks_at_rate n known ∙ held ∙ ap (λ (place : ℕ). Ok (at_place place r)) (none_left (pictures_at mode) r.place used),
            place_below (pictures_at mode) r.place (some_picture mode) inside used,
          )

      back : (unpacked_in mode n ≡ Ok (at_place 0 r)) × (r.place < pictures_at mode) → packed_in mode r ≡ Ok n
      back held =
          let known = clear_at UnknownMode (with_mode mode (bits_refusals_in mode n)) (unpacked_clear n (at_place 0 r) held.0) in
          let place = place_clear (pictures_at mode) r.place held.1 in
          packs_at_rate mode r known place.0
          ∙ ap (λ (left : ℕ). packed_of (rate_at mode) (at_place left r)) (none_left (pictures_at mode) r.place place.1)
          ∙ (rate.one_to_one (rate_at mode) n (at_place 0 r) low).1 (sym (unpacks_at_rate n known) ∙ held.0)

  -- the place that is shown is one of the mode's
  shown_below : (shows : Shows) (mark : Flag) → place_shown mode shows mark < pictures_at mode
  shown_below First mark = some_picture mode
  shown_below ByMark mark = go (several (pictures_at mode)) refl
    where
      bit : (flag : Flag) → bit_of flag ≤ 1
      bit No = omega arith
      bit Yes = omega arith

      go : (t : Bool) → several (pictures_at mode) ≡ t → cond (several (pictures_at mode)) (bit_of mark) 0 < pictures_at mode
      go true t = let two = ltb-true 1 (pictures_at mode) t in rw t (omega (arith, bit mark))
      go false t = rw t (some_picture mode)

  -- bits that are read as a record hold its first picture
  shown_held :
      (shows : Shows) (n : ℕ) (r : Record) → shown_in mode shows n ≡ Ok r
      → (unpacked_in mode n ≡ Ok (at_place 0 (shown_record mode shows n))) × (shown_record mode shows n ≡ r)
  unfolding shown_in unpacked_in record_of
  shown_held shows n r e =
      let rows = with_mode mode (bits_refusals_in mode n) in
      let taken = accepted_so rows e in
      (otherwise_accepted Err (Ok (record_in mode n)) rows taken.0, taken.1)

  -- a record makes 64 bits and shows its picture exactly where those bits, at the place that is shown, are the record
  pub shown_one_to_one :
      (shows : Shows) (n : ℕ) (r : Record) → n < 2 ^ 64
      → ((packed_in mode r ≡ Ok n) × (unshown mode shows r ≡ false)) ↔ (shown_in mode shows n ≡ Ok r)
  shown_one_to_one shows n r low = (there, back)
    where
      there : (packed_in mode r ≡ Ok n) × (unshown mode shows r ≡ false) → shown_in mode shows n ≡ Ok r
      there written =
          let held = ((one_to_one n r low).0 written.0).0 in
          let shown = eqb-true r.place (place_shown mode shows r.flags.mark) (not-false _ written.1) in
          shown_is mode shows n
          ∙ ap (shown_as mode shows) held
          ∙ ap Ok (rate.at_place_same r (place_shown mode shows r.flags.mark) shown)

      back : shown_in mode shows n ≡ Ok r → (packed_in mode r ≡ Ok n) × (unshown mode shows r ≡ false)
      back e =
          let held = shown_held shows n r e in
          let shown = place_shown mode shows (record_in mode n).flags.mark in
          subst (λ (s : Record). (packed_in mode s ≡ Ok n) × (unshown mode shows s ≡ false)) held.1 (
            (one_to_one n (shown_record mode shows n) low).1 (held.0, shown_below shows (record_in mode n).flags.mark),
            rw (eq-eqb shown shown refl),
          )

  -- and so of the two calls by which pictures are carried: a record is carried by 64 bits exactly where those bits are read as the record
  pub carried_one_to_one : (shows : Shows) (n : ℕ) (r : Record) → n < 2 ^ 64 → (carried_in mode shows r ≡ Ok n) ↔ (shown_in mode shows n ≡ Ok r)
  carried_one_to_one shows n r low =
      let carried = carried_exactly mode r shows n in
      let shown = shown_one_to_one shows n r low in
      (λ e. shown.0 (carried.0 e), λ e. carried.1 (shown.1 e))
