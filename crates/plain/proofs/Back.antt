-- There and back: what is shown to a host stands for itself when it is handed back, and none of its bytes stands for nothing; and numbers of which each stands for something come back as they were.
-- Assumes nothing.
use Prim.Native.Nat.{ℕ, zero, suc}
use mathlib.Core.Path.{◌≡◌, refl, sym, ◌∙◌}
use mathlib.Core.Bool.{false, ◌||◌, true≢false}
use lib.Dec.{ltb}
use native.Mathlib.Omega.{arith}
use borrow.Author.Tests.{lt-ltb}
use Rattle.refusals.proofs.Answered.{neither}
use Rattle.rates.specs.declared.types.Flag.{Flag}
use Rattle.rates.specs.declared.types.Flag.TheVariants.{No, Yes}
use Rattle.layout.specs.Flags.{flag_of}
use Rattle.pictures.specs.declared.types.Picture.{Picture}
use Rattle.record.specs.declared.types.Record.{Record}
use Rattle.polarity.specs.declared.types.Found.{Found}
use Rattle.polarity.specs.declared.types.Found.TheVariants.{Corrected, Uncorrected}
use Rattle.register.specs.declared.types.Ways.{Ways}
use Rattle.register.specs.declared.types.Ways.TheVariants.{ForwardOnly, Both}
use Rattle.register.specs.declared.types.Reader.{Reader}
use Rattle.plain.specs.declared.types.PlainPicture.{PlainPicture}
use Rattle.plain.specs.declared.types.PlainRecord.{PlainRecord}
use Rattle.plain.specs.declared.types.PlainReader.{PlainReader}
use Rattle.plain.specs.Given.{picture_given, flags_given, groups_given, record_given, no_flag, flag_above_1, no_make, make_given, ways_given, no_ways, reader_given}
use Rattle.plain.specs.Shown.{flag_shown, found_shown, ways_shown, picture_shown, record_shown, reader_shown}

-- no byte above 1 passes for one of two
above_1 : (n : ℕ) → ltb 1 (suc (suc n)) ≡ false → ⊥
above_1 n e = true≢false (sym (lt-ltb 1 (suc (suc n)) (omega arith)) ∙ e)

-- a flag
pub flag_itself : (f : Flag) → flag_of (flag_shown f) ≡ f
flag_itself No = refl
flag_itself Yes = refl

pub flag_named : (f : Flag) → no_flag (flag_shown f) ≡ false
flag_named No = refl
flag_named Yes = refl

-- a picture, either way
pub picture_itself : (p : Picture) → picture_given (picture_shown p) ≡ p
picture_itself p = refl

pub picture_back : (p : PlainPicture) → picture_shown (picture_given p) ≡ p
picture_back p = refl

-- a record
pub record_itself : (r : Record) → record_given (record_shown r) ≡ r
unfolding record_given record_shown flags_given groups_given
record_itself r =
    λ i. record {
      address = r.address;
      flags = record {
        drop = flag_itself r.flags.drop i;
        colour = flag_itself r.flags.colour i;
        mark = flag_itself r.flags.mark i;
        bgf0 = flag_itself r.flags.bgf0 i;
        bgf1 = flag_itself r.flags.bgf1 i;
        bgf2 = flag_itself r.flags.bgf2 i;
      };
      groups = r.groups;
      place = r.place;
    }

pub record_named : (r : Record) → flag_above_1 (record_shown r) ≡ false
unfolding flag_above_1 record_shown
record_named r =
    rw (flag_named r.flags.drop, flag_named r.flags.colour, flag_named r.flags.mark, flag_named r.flags.bgf0, flag_named r.flags.bgf1, flag_named r.flags.bgf2)

flag_back : (byte : ℕ) → no_flag byte ≡ false → flag_shown (flag_of byte) ≡ byte
flag_back zero e = refl
flag_back (suc zero) e = refl
flag_back (suc (suc n)) e = absurd (above_1 n e)

pub record_back : (r : PlainRecord) → flag_above_1 r ≡ false → record_shown (record_given r) ≡ r
unfolding flag_above_1 record_shown record_given flags_given groups_given
record_back r e =
    let after_bgf0 = no_flag r.bgf1 || no_flag r.bgf2 in
    let after_mark = no_flag r.bgf0 || after_bgf0 in
    let after_colour = no_flag r.mark || after_mark in
    let drop = neither (no_flag r.drop) (no_flag r.colour || after_colour) e in
    let colour = neither (no_flag r.colour) after_colour drop.1 in
    let mark = neither (no_flag r.mark) after_mark colour.1 in
    let bgf0 = neither (no_flag r.bgf0) after_bgf0 mark.1 in
    let bgf1 = neither (no_flag r.bgf1) (no_flag r.bgf2) bgf0.1 in
    λ i. record {
      hours = r.hours;
      minutes = r.minutes;
      seconds = r.seconds;
      frames = r.frames;
      drop = flag_back r.drop drop.0 i;
      colour = flag_back r.colour colour.0 i;
      mark = flag_back r.mark mark.0 i;
      bgf0 = flag_back r.bgf0 bgf0.0 i;
      bgf1 = flag_back r.bgf1 bgf1.0 i;
      bgf2 = flag_back r.bgf2 bgf1.1 i;
      group1 = r.group1;
      group2 = r.group2;
      group3 = r.group3;
      group4 = r.group4;
      group5 = r.group5;
      group6 = r.group6;
      group7 = r.group7;
      group8 = r.group8;
      place = r.place;
    }

-- what was found is what is to be made of it again
pub found_itself : (f : Found) → make_given (found_shown f) ≡ f
found_itself Corrected = refl
found_itself Uncorrected = refl

pub make_named : (f : Found) → no_make (found_shown f) ≡ false
make_named Corrected = refl
make_named Uncorrected = refl

pub make_back : (byte : ℕ) → no_make byte ≡ false → found_shown (make_given byte) ≡ byte
make_back zero e = refl
make_back (suc zero) e = refl
make_back (suc (suc n)) e = absurd (above_1 n e)

-- the ways of a reader, and a reader
ways_itself : (w : Ways) → ways_given (ways_shown w) ≡ w
ways_itself ForwardOnly = refl
ways_itself Both = refl

pub reader_named : (r : Reader) → no_ways (reader_shown r).ways ≡ false
reader_named r = go r.ways
  where
    go : (w : Ways) → no_ways (ways_shown w) ≡ false
    go ForwardOnly = refl
    go Both = refl

pub reader_itself : (r : Reader) → reader_given (reader_shown r) ≡ r
reader_itself r = λ i. record { mode = r.mode; ways = ways_itself r.ways i; held = r.held; info = r.info; sync = r.sync }

ways_back : (byte : ℕ) → no_ways byte ≡ false → ways_shown (ways_given byte) ≡ byte
ways_back zero e = refl
ways_back (suc zero) e = refl
ways_back (suc (suc n)) e = absurd (above_1 n e)

pub reader_back : (r : PlainReader) → no_ways r.ways ≡ false → reader_shown (reader_given r) ≡ r
reader_back r e = λ i. record { info = r.info; sync = r.sync; mode = r.mode; ways = ways_back r.ways e i; held = r.held }
