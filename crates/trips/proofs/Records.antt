-- Reading what was written gives the record, and writing what was read gives the same bits, at every rate.
-- Assumes nothing.
use Prim.Native.Nat.{ℕ, zero, suc, ◌+◌, ◌*◌, ◌/◌, ◌%◌, ◌^◌, ◌<◌, ◌≤◌}
use mathlib.Core.Path.{◌≡◌, refl, sym, ap, subst, ◌∙◌}
use mathlib.Core.Bool.{Bool, false, ◌||◌}
use mathlib.Core.List.{List, [], ◌∷◌}
use mathlib.Core.Logic.{◌↔◌}
use native.Mathlib.Omega.{arith}
use lib.Dec.{ltb}
use lib.ListN.{get_or, take}
use borrow.Author.Tests.{ltb-false, le-ltb}
use Rattle.refusals.proofs.Results.{accepted_so}
use Rattle.refusals.specs.declared.types.Refusal.TheVariants.{OutsideTheClock, SkippedAddress, UnusedBitSet}
use Rattle.std.specs.Prelude.{Err, Ok}
use Rattle.refusals.specs.Answer.{Cause}
use Rattle.refusals.proofs.Answered.{Clear, neither, otherwise_accepted}
use Rattle.refusals.proofs.ByNumber.{clear_at}
use Rattle.rates.specs.declared.types.Rate.{Rate}
use Rattle.rates.specs.declared.types.Rate.TheVariants.{At24, At25, At30}
use Rattle.rates.specs.declared.types.Flag.{Flag}
use Rattle.rates.specs.declared.types.Flag.TheVariants.{No, Yes}
use Rattle.record.specs.declared.types.Flags.{Flags}
use Rattle.record.specs.declared.types.Record.{Record}
use Rattle.layout.specs.Layout.{bits, join, split, layout}
use Rattle.layout.specs.Flags.{flag_of, bit_of, flag_at, Places, places, unused_colour}
use Rattle.record.specs.Record.{flags_held, record_of, standing_at, fields_of, info_of, digit_above_9, group_above_15, at_place}
use Rattle.record.specs.Calls.{record_refusals, bits_refusals, write_refusals, packed_of, unpacked_of}
use Rattle.record.proofs.Accepted.{Writable, writable}
use Rattle.layout.proofs.Fields.{total, split_join, join_split, field_at}
use Rattle.record.proofs.Marks.{fields_below}

-- a flag is read back from its bit
flag_of_bit : {b : ℕ} (f : Flag) → b ≡ bit_of f → flag_of b ≡ f
flag_of_bit No e = ap flag_of e
flag_of_bit Yes e = ap flag_of e

-- a number by its two digits
decimal : {units tens : ℕ} (n : ℕ) → units ≡ n % 10 → tens ≡ n / 10 → units + 10 * tens ≡ n
decimal n u t = omega arith

-- the three flags whose places the rate decides are read where they stand
record Three (table : Places) (n : ℕ) (f : Flags) : Type 0 where
  mark : flag_at table.mark n ≡ f.mark
  bgf0 : flag_at table.bgf0 n ≡ f.bgf0
  bgf2 : flag_at table.bgf2 n ≡ f.bgf2

three :
    (rate : Rate) (n : ℕ) (f : Flags) → let at : ℕ → Flag = standing_at (places rate) f in
    flag_at 27 n ≡ at 27 → flag_at 43 n ≡ at 43 → flag_at 59 n ≡ at 59 → Three (places rate) n f
three At24 n f a b c = record { mark = a; bgf0 = b; bgf2 = c }
three At25 n f a b c = record { mark = c; bgf0 = a; bgf2 = b }
three At30 n f a b c = record { mark = a; bgf0 = b; bgf2 = c }

-- what is written of a record whose fields fit their bits
module _ (rate : Rate) (r : Record) (fits : Writable r.address r.groups) where
  -- field k of the bits that are written is field k of the record
  written : (k : ℕ) → info_of rate r / 2 ^ total (take k layout) % 2 ^ get_or layout k 0 ≡ get_or (fields_of rate r) k 0
  unfolding info_of layout
  written k =
      sym (field_at layout (info_of rate r) k)
      ∙ ap (λ (values : List ℕ). get_or values k 0) (split_join layout (fields_of rate r) (fields_below rate r fits))

  pub read_back : record_of rate (info_of rate r) ≡ at_place 0 r
  unfolding record_of layout fields_of
  read_back =
      let a = r.address in
      let f = r.flags in
      let by = three rate (info_of rate r) f (flag_of_bit _ (written 9)) (flag_of_bit _ (written 14)) (flag_of_bit _ (written 20)) in
      λ i. record {
        address =
            record {
              hours = decimal a.hours (written 16) (written 18) i;
              minutes = decimal a.minutes (written 11) (written 13) i;
              seconds = decimal a.seconds (written 6) (written 8) i;
              frames = record { 0 = decimal a.frames.0 (written 0) (written 2) i };
            };
        flags =
            record {
              drop = flag_of_bit f.drop (written 3) i;
              colour = flag_of_bit f.colour (written 4) i;
              mark = by.mark i;
              bgf0 = by.bgf0 i;
              bgf1 = flag_of_bit f.bgf1 (written 19) i;
              bgf2 = by.bgf2 i;
            };
        groups =
            record {
              group1 = written 1 i;
              group2 = written 5 i;
              group3 = written 7 i;
              group4 = written 10 i;
              group5 = written 12 i;
              group6 = written 15 i;
              group7 = written 17 i;
              group8 = written 21 i;
            };
        place = 0;
      }

  pub no_digit_above_9 : digit_above_9 (info_of rate r) ≡ false
  unfolding layout fields_of
  no_digit_above_9 =
      let low : (m : ℕ) → ltb 9 (m % 10) ≡ false = λ m. le-ltb 9 (m % 10) (omega arith) in
      rw (written 0, written 6, written 11, written 16) (simp low)

-- and back: two digits by their number, and a bit by its flag
digits : (units tens : ℕ) → units ≤ 9 → ((units + 10 * tens) % 10 ≡ units) × ((units + 10 * tens) / 10 ≡ tens)
digits units tens low = (omega arith, omega arith)

pub bit_of_flag : (n : ℕ) → bit_of (flag_of (n % 2)) ≡ n % 2
bit_of_flag n = go (n % 2) (omega arith)
  where
    go : (b : ℕ) → b ≤ 1 → bit_of (flag_of b) ≡ b
    go zero h = refl
    go (suc zero) h = refl
    go (suc (suc b)) h = absurd (omega arith)

-- flags that were read stand where they were read
standing_again :
    (rate : Rate) (n : ℕ) → let at : ℕ → ℕ = λ place. bit_of (standing_at (places rate) (flags_held (places rate) n) place) in
    (at 27 ≡ bits 27 27 n) × ((at 43 ≡ bits 43 43 n) × (at 59 ≡ bits 59 59 n))
standing_again At24 n = (bit_of_flag (n / 2 ^ 27), (bit_of_flag (n / 2 ^ 43), bit_of_flag (n / 2 ^ 59)))
standing_again At25 n = (bit_of_flag (n / 2 ^ 27), (bit_of_flag (n / 2 ^ 43), bit_of_flag (n / 2 ^ 59)))
standing_again At30 n = (bit_of_flag (n / 2 ^ 27), (bit_of_flag (n / 2 ^ 43), bit_of_flag (n / 2 ^ 59)))

module _ (rate : Rate) (n : ℕ) where
  -- field k of the bits is their k-th part
  part : (k : ℕ) → n / 2 ^ total (take k layout) % 2 ^ get_or layout k 0 ≡ get_or (split layout n) k 0
  unfolding layout
  part k = sym (field_at layout n k)

  -- the fields of a record that was read are the parts of its bits
  fields_again : digit_above_9 n ≡ false → fields_of rate (record_of rate n) ≡ split layout n
  unfolding record_of fields_of layout split
  fields_again good =
      let frames = neither (ltb 9 (bits 0 3 n)) _ good in
      let seconds = neither (ltb 9 (bits 16 19 n)) _ frames.1 in
      let minutes = neither (ltb 9 (bits 32 35 n)) _ seconds.1 in
      let f = digits (bits 0 3 n) (bits 8 9 n) (ltb-false 9 _ frames.0) in
      let s = digits (bits 16 19 n) (bits 24 26 n) (ltb-false 9 _ seconds.0) in
      let m = digits (bits 32 35 n) (bits 40 42 n) (ltb-false 9 _ minutes.0) in
      let h = digits (bits 48 51 n) (bits 56 57 n) (ltb-false 9 _ minutes.1) in
      let held = standing_again rate n in
      λ i.
      (f.0 ∙ part 0) i ∷ part 1 i ∷ (f.1 ∙ part 2) i
      ∷ (bit_of_flag (n / 2 ^ 10) ∙ part 3) i ∷ (bit_of_flag (n / 2 ^ 11) ∙ part 4) i ∷ part 5 i
      ∷ (s.0 ∙ part 6) i ∷ part 7 i ∷ (s.1 ∙ part 8) i ∷ (held.0 ∙ part 9) i ∷ part 10 i
      ∷ (m.0 ∙ part 11) i ∷ part 12 i ∷ (m.1 ∙ part 13) i ∷ (held.1.0 ∙ part 14) i ∷ part 15 i
      ∷ (h.0 ∙ part 16) i ∷ part 17 i ∷ (h.1 ∙ part 18) i
      ∷ (bit_of_flag (n / 2 ^ 58) ∙ part 19) i ∷ (held.1.1 ∙ part 20) i ∷ part 21 i
      ∷ []

  pub info_again : n < 2 ^ 64 → digit_above_9 n ≡ false → info_of rate (record_of rate n) ≡ n
  unfolding info_of layout
  info_again low good = ap (join layout) (fields_again good) ∙ join_split layout n low

  -- a group has four bits
  pub no_group_above_15 : group_above_15 (record_of rate n).groups ≡ false
  unfolding record_of
  no_group_above_15 =
      let low : (m : ℕ) → ltb 15 (m % 16) ≡ false = λ m. le-ltb 15 (m % 16) (omega arith) in
      simp low

-- a list of refusals that is clear stays clear with other tests for 8 and 10 that are not met
clear_with :
    (rate : Rate) (r : Record) (bad unused other another : Bool) → other ≡ false → another ≡ false → Clear (record_refusals rate bad unused r)
    → Clear (record_refusals rate other another r)
clear_with rate r bad unused other another good used clear =
    let rows = record_refusals rate bad unused r in
    let colour = unused_colour rate r.flags.colour in
    let ten = neither (unused || colour) _ (clear_at UnusedBitSet rows clear) in (
      rw good (neither bad _ (clear_at OutsideTheClock rows clear)).1,
      (clear_at SkippedAddress rows clear, (rw (used, (neither unused colour ten.0).1) ten.1, tt)),
    )

-- a record whose place is said as it is, is itself
pub at_place_same : (r : Record) (place : ℕ) → r.place ≡ place → at_place place r ≡ r
at_place_same r place e = λ i. at_place (sym e i) r

module _ (rate : Rate) (r : Record) (clear : Clear (write_refusals rate r)) where
  -- it is of the first picture
  first : r.place ≡ 0
  first =
      let ten = neither (ltb 0 r.place || unused_colour rate r.flags.colour) _ (clear_at UnusedBitSet (write_refusals rate r) clear) in
      let none = ltb-false 0 r.place (neither (ltb 0 r.place) _ ten.0).0 in omega arith

  -- reading what was written gives the record
  pub read_of_written : (record_of rate (info_of rate r) ≡ r) × (digit_above_9 (info_of rate r) ≡ false)
  read_of_written = (read_back rate r (writable rate r clear) ∙ at_place_same r 0 first, no_digit_above_9 rate r (writable rate r clear))

  unpacked : unpacked_of rate (info_of rate r) ≡ Ok r
  unfolding unpacked_of
  unpacked =
      let again = clear_with rate r (group_above_15 r.groups) (ltb 0 r.place) (digit_above_9 (info_of rate r)) false read_of_written.1 refl clear in
      let rows : Record → List Cause = λ s. record_refusals rate (digit_above_9 (info_of rate r)) false s in
      otherwise_accepted Err _ (rows (record_of rate (info_of rate r))) (subst (λ (s : Record). Clear (rows s)) (sym read_of_written.0) again)
      ∙ ap Ok read_of_written.0

module _ (rate : Rate) (n : ℕ) (low : n < 2 ^ 64) (clear : Clear (bits_refusals rate n)) where
  -- writing what was read gives the same bits
  pub written_of_read : (info_of rate (record_of rate n) ≡ n) × (group_above_15 (record_of rate n).groups ≡ false)
  written_of_read = (info_again rate n low (neither (digit_above_9 n) _ (clear_at OutsideTheClock (bits_refusals rate n) clear)).0, no_group_above_15 rate n)

  packed : packed_of rate (record_of rate n) ≡ Ok n
  unfolding packed_of record_of
  packed =
      let again = clear_with rate (record_of rate n) (digit_above_9 n) false (group_above_15 (record_of rate n).groups) false written_of_read.1 refl clear in
      otherwise_accepted Err _ (write_refusals rate (record_of rate n)) again ∙ ap Ok written_of_read.0

-- said of the calls: a record makes 64 bits exactly where those bits hold the record
pub one_to_one : (rate : Rate) (n : ℕ) (r : Record) → n < 2 ^ 64 → packed_of rate r ≡ Ok n ↔ unpacked_of rate n ≡ Ok r
unfolding packed_of unpacked_of
one_to_one rate n r low = (there, back)
  where
    there : packed_of rate r ≡ Ok n → unpacked_of rate n ≡ Ok r
    there e =
        let taken = accepted_so (write_refusals rate r) e in
        let same : info_of rate r ≡ n = taken.1 in
        subst (λ (m : ℕ). unpacked_of rate m ≡ Ok r) same (unpacked rate r taken.0)

    back : unpacked_of rate n ≡ Ok r → packed_of rate r ≡ Ok n
    back e =
        let taken = accepted_so (bits_refusals rate n) e in
        let same : record_of rate n ≡ r = taken.1 in
        subst (λ (s : Record). packed_of rate s ≡ Ok n) same (packed rate n low taken.0)
