-- Document 02, A6: "LTC and VITC refuse them by 2, and 2 begins above 10 elsewhere": exactly where a mode is refused by 2. Shut out: another bound, another number than 2, 2 given
-- before 1.
-- Assumes nothing.
use Prim.Native.Nat.{ℕ, suc, ◌≤◌}
use mathlib.Core.Path.{◌≡◌, refl, sym, ap, ◌∙◌}
use mathlib.Core.Bool.{Bool, true, false, not, true≢false}
use mathlib.Core.List.{List}
use mathlib.Core.Logic.{◌↔◌, ◌⊎◌, inl, inr, ⊎_elim}
use native.Mathlib.Omega.{arith}
use lib.Dec.{leb, eqb}
use lib.IntN.{ℤ}
use lib.ListN.{length}
use borrow.Author.Tests.{leb-true, leb-false, le-leb, eqb-true, eq-eqb, not-false}
use Rattle.polarity.specs.Word.{reading}
use Rattle.refusals.specs.declared.types.Refusal.{Refusal}
use Rattle.std.specs.Prelude.{Err, Ok, Result}
use Rattle.pictures.specs.declared.types.PictureInSecond.{PictureInSecond}
use Rattle.polarity.specs.declared.types.Word.{Word}
use Rattle.refusals.specs.declared.types.Refusal.TheVariants.{UnknownMode}
use Rattle.refusals.specs.Table.{the_order}
use Rattle.refusals.specs.Answer.{Cause, answer, in_order}
use Rattle.refusals.proofs.First.{given_exactly}
use Rattle.rates.specs.declared.types.Flag.{Flag}
use Rattle.rates.specs.declared.types.Rate.{Rate}
use Rattle.rates.specs.Rates.{is_yes, frames_in_second}
use Rattle.round.specs.Round.{distance_of, sum_of}
use Rattle.clock.specs.declared.types.DayFrame.{DayFrame}
use Rattle.pictures.specs.declared.types.Picture.{Picture}
use Rattle.pictures.specs.Pictures.{pictures_in_day, picture_number, number_in_second, picture_at}
use Rattle.pictures.specs.Calls.{picture_refusals, two_refusals, number_refusals}
use Rattle.record.specs.declared.types.Record.{Record}
use Rattle.modes.specs.Modes.{unknown, uncounted, high_rate, rate_at, pictures_at, with_counting}
use Rattle.modes.proofs.EachMode.{high_exactly}
use Rattle.superframes.specs.Calls as superframes
use Rattle.superframes.proofs.Rows as high
use Rattle.register.specs.declared.types.Reader.{Reader}
use Rattle.hearing.specs.declared.types.Heard.TheVariants.{Refused as Unheard}
use Rattle.reader.specs.Steps.{after, stepped_of}
use Rattle.reader.specs.Blocks.{stopped, blocked_of}
use Rattle.modes.specs.Calls.{number_in, in_second_in, picture_in, fields_in, span_in, plus_in}
use Rattle.modes.proofs.Rows as counts
use Rattle.ltc.specs.Calls as ltc
use Rattle.ltc.proofs.Rows as linear
use Rattle.vitc.specs.Calls as vitc
use Rattle.vitc.proofs.Rows as interval
use Rattle.atc.specs.declared.types.Interface.{Interface}
use Rattle.atc.specs.Calls as atc
use Rattle.atc.proofs.Answers as ancillary

-- the tests, as numbers
unknown_from : (mode : ℕ) → (unknown mode ≡ true) ↔ (6 ≤ mode)
unfolding unknown
unknown_from mode = (leb-true 6 mode, le-leb 6 mode)

uncounted_from : (mode : ℕ) → (uncounted mode ≡ true) ↔ (11 ≤ mode)
unfolding uncounted
uncounted_from mode = (leb-true 11 mode, le-leb 11 mode)

-- of a list that begins with 2, and of one that begins with the length
first_of : {Given Test Bound : Type 0} → Given ↔ (Unit {0} × Test) → Test ↔ Bound → Given ↔ Bound
first_of exactly bound = (λ e. bound.0 (exactly.0 e).1, λ b. exactly.1 (tt, bound.1 b))

after_length : {Given Test Bound : Type 0} (words : List ℕ) (size : ℕ) → Given ↔ (((not (eqb (length words) size) ≡ false) × Unit {0}) × Test) → Test ↔ Bound
    → Given ↔ ((length words ≡ size) × Bound)
after_length words size exactly bound = (
  λ e. (let is = exactly.0 e in (eqb-true (length words) size (not-false _ is.0.0), bound.0 is.1)),
  λ both. exactly.1 ((rw (eq-eqb (length words) size both.0), tt), bound.1 both.1),
)

-- a list that begins with 2 gives it exactly where nothing is counted
two_first :
    {A : Type 0} (accepted : A) (mode : ℕ) (rows : List Cause)
    → in_order the_order (with_counting mode rows) ≡ true → (answer Err (with_counting mode rows) (Ok accepted) ≡ Err UnknownMode) ↔ (11 ≤ mode)
two_first accepted mode rows follows = first_of (given_exactly accepted UnknownMode (with_counting mode rows) follows) (uncounted_from mode)

-- the six calls that count
module _ (mode : ℕ) (drop : Flag) where
  abbrev rate : Rate
  rate = rate_at mode

  abbrev number : Picture → ℕ
  number p = picture_number (frames_in_second rate) (pictures_at mode) (is_yes drop) p

  abbrev numbered : ℕ → Picture
  numbered n = picture_at (frames_in_second rate) (pictures_at mode) (is_yes drop) n

  abbrev day : ℕ
  day = pictures_in_day rate (pictures_at mode) (is_yes drop)

  abbrev rows : Picture → List Cause
  rows p = picture_refusals rate (pictures_at mode) drop p

  pub number_refused_by_2 : (p : Picture) → (number_in mode drop p ≡ Err UnknownMode) ↔ (11 ≤ mode)
  number_refused_by_2 p =
      rw (counts.number_rows mode drop p)
      (two_first (record { 0 = number p }) mode (rows p) (counts.picture_rows_in_order mode drop p))

  pub in_second_refused_by_2 : (p : Picture) → (in_second_in mode drop p ≡ Err UnknownMode) ↔ (11 ≤ mode)
  in_second_refused_by_2 p =
      rw (counts.in_second_rows mode drop p)
      (two_first (record { 0 = number_in_second (pictures_at mode) p }) mode (rows p)
      (counts.picture_rows_in_order mode drop p))

  pub picture_refused_by_2 : (n : DayFrame) → (picture_in mode drop n ≡ Err UnknownMode) ↔ (11 ≤ mode)
  picture_refused_by_2 n =
      rw (counts.picture_rows mode drop n)
      (two_first (numbered n.0) mode (number_refusals rate (pictures_at mode) drop n.0)
      (counts.number_rows_in_order mode drop n.0))

  pub fields_refused_by_2 : (p : Picture) → (fields_in mode drop p ≡ Err UnknownMode) ↔ (11 ≤ mode)
  fields_refused_by_2 p =
      rw (counts.fields_rows mode drop p) (two_first p mode (rows p) (counts.picture_rows_in_order mode drop p))

  pub span_refused_by_2 : (from to : Picture) → (span_in mode drop from to ≡ Err UnknownMode) ↔ (11 ≤ mode)
  span_refused_by_2 from to =
      rw (counts.span_rows mode drop from to)
      (two_first (distance_of day (number from) (number to)) mode (two_refusals rate (pictures_at mode) drop from to)
      (counts.two_rows_in_order mode drop from to))

  pub plus_refused_by_2 : (p : Picture) (z : ℤ) → (plus_in mode drop p z ≡ Err UnknownMode) ↔ (11 ≤ mode)
  plus_refused_by_2 p z =
      rw (counts.plus_rows mode drop p z)
      (two_first (numbered (sum_of day (number p) z)) mode (rows p) (counts.picture_rows_in_order mode drop p))

-- words, lines and packets, written and read
module _ (mode : ℕ) (r : Record) (start : ℕ) (run : List ℕ) where
  pub linear_written_refused_by_2 : (ltc.written_of mode r start run ≡ Err UnknownMode) ↔ (6 ≤ mode)
  unfolding ltc.written_of ltc.written_rows
  linear_written_refused_by_2 =
      first_of (given_exactly _ UnknownMode (ltc.written_rows mode r start run) (linear.written_rows_in_order mode r start run)) (unknown_from mode)

  pub interval_written_refused_by_2 : (vitc.written_of mode r start run ≡ Err UnknownMode) ↔ (6 ≤ mode)
  unfolding vitc.written_of
  interval_written_refused_by_2 =
      first_of (given_exactly _ UnknownMode (vitc.written_rows mode r start run) (interval.written_rows_in_order mode r start run)) (unknown_from mode)

  pub ancillary_written_refused_by_2 :
      (interface : Interface) (type second : ℕ) → (atc.written_of mode interface r type second start run ≡ Err UnknownMode) ↔ (11 ≤ mode)
  unfolding atc.written_of
  ancillary_written_refused_by_2 interface type second =
      first_of (given_exactly _ UnknownMode (atc.written_rows mode interface r type second start run) (ancillary.written_rows_in_order mode interface r type second start run)) (uncounted_from mode)

module _ (mode : ℕ) (elements : List ℕ) where
  pub linear_refused_by_2 : (ltc.read_of mode elements ≡ Err UnknownMode) ↔ ((length elements ≡ 80) × (6 ≤ mode))
  unfolding ltc.read_of
  linear_refused_by_2 =
      after_length elements 80 (given_exactly _ UnknownMode (ltc.read_refusals mode elements) (linear.read_rows_in_order mode elements)) (unknown_from mode)

  pub interval_refused_by_2 : (vitc.read_of mode elements ≡ Err UnknownMode) ↔ ((length elements ≡ 90) × (6 ≤ mode))
  unfolding vitc.read_of
  interval_refused_by_2 =
      after_length elements 90 (given_exactly _ UnknownMode (vitc.read_refusals mode elements) (interval.read_rows_in_order mode elements)) (unknown_from mode)

  pub ancillary_refused_by_2 : (interface : Interface) → (atc.read_of mode interface elements ≡ Err UnknownMode) ↔ ((length elements ≡ 23) × (11 ≤ mode))
  unfolding atc.read_of
  ancillary_refused_by_2 interface =
      after_length elements 23 (given_exactly _ UnknownMode (atc.read_refusals mode interface elements) (ancillary.read_rows_in_order mode interface elements)) (uncounted_from mode)

-- the calls of the record on the lines, and those of high frame rates, which are of modes 6 to 10 alone
module _ (mode : ℕ) where
  not_high : (not (high_rate mode) ≡ true) ↔ ((mode ≤ 5) ⊎ (11 ≤ mode))
  not_high = (
    λ e. ⊎_elim inl (λ more. ⊎_elim (λ few. absurd (true≢false (sym e ∙ ap not ((high_exactly mode).1 (more, few))))) inr (split mode 10)) (split_5 mode),
    λ out. go (high_rate mode) refl out,
  )
    where
      split : (m k : ℕ) → (m ≤ k) ⊎ (suc k ≤ m)
      split m k = side (leb m k) refl
        where
          side : (t : Bool) → leb m k ≡ t → (m ≤ k) ⊎ (suc k ≤ m)
          side true t = inl (leb-true m k t)
          side false t = let more = leb-false m k t in inr (omega arith)

      split_5 : (m : ℕ) → (m ≤ 5) ⊎ (6 ≤ m)
      split_5 m = split m 5

      go : (t : Bool) → high_rate mode ≡ t → (mode ≤ 5) ⊎ (11 ≤ mode) → not t ≡ true
      go true t (inl low) = let within = (high_exactly mode).0 t in absurd (omega arith)
      go true t (inr high) = let within = (high_exactly mode).0 t in absurd (omega arith)
      go false t out = refl

  pub super_frame_refused_by_2 : (info : ℕ) → (superframes.unpacked_in mode info ≡ Err UnknownMode) ↔ ((mode ≤ 5) ⊎ (11 ≤ mode))
  unfolding superframes.unpacked_in
  super_frame_refused_by_2 info =
      first_of (given_exactly _ UnknownMode
      (superframes.with_high_rate mode (superframes.bits_refusals (rate_at mode) (pictures_at mode) info)) (high.bits_rows_in_order mode info)) not_high

  pub super_frame_made_refused_by_2 : (r : Record) → (superframes.packed_in mode r ≡ Err UnknownMode) ↔ ((mode ≤ 5) ⊎ (11 ≤ mode))
  unfolding superframes.packed_in
  super_frame_made_refused_by_2 r =
      first_of (given_exactly _ UnknownMode
      (superframes.with_high_rate mode (superframes.write_refusals (rate_at mode) (pictures_at mode) r)) (high.write_rows_in_order mode r)) not_high

-- a reader in such a mode answers 2 to every step and block, and stays as it was: "it is LTC"
module _ (reader : Reader) (high : 6 ≤ reader.mode) where
  pub step_refused_by_2 : (element : ℕ) → stepped_of reader element ≡ after reader (Unheard UnknownMode)
  unfolding stepped_of
  step_refused_by_2 element = rw ((unknown_from reader.mode).1 high)

  pub block_refused_by_2 : (limit : ℕ) (run : List ℕ) → blocked_of reader limit run ≡ stopped (Unheard UnknownMode) reader 0
  unfolding blocked_of
  block_refused_by_2 limit run = rw ((unknown_from reader.mode).1 high)
