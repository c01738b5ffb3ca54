-- Demand 1, of packets: exactly where 8, 9 and 10 are given, written and read, in every mode. Shut out: 10 given where 8 applies, drop refused by 8, a skipped address by 10, a flag
-- or a group refused by another number.
-- Assumes nothing.
use Prim.Native.Nat.{ℕ, ◌≤◌}
use mathlib.Core.Path.{◌≡◌, refl, sym}
use mathlib.Core.Bool.{Bool, true, false, true≢false}
use mathlib.Core.List.{List}
use mathlib.Core.Logic.{◌↔◌}
use native.Mathlib.Omega.{arith}
use Rattle.refusals.specs.declared.types.Refusal.TheVariants.{OutsideTheClock, SkippedAddress, UnknownMode, UnknownType, UnusedBitSet}
use Rattle.std.specs.Prelude.{Err, Ok}
use Rattle.refusals.specs.Answer.{Cause, test_of}
use Rattle.refusals.proofs.Answered.{Clear}
use Rattle.refusals.proofs.ByNumber.{rows_before, clear_at, clear_from, clear_before, clear_whole}
use Rattle.refusals.proofs.First.{given_exactly}
use Rattle.layout.specs.Flags.{flag_at}
use Rattle.record.specs.declared.types.Record.{Record}
use Rattle.record.specs.Record.{address_held, record_of}
use Rattle.words.specs.Words.{info_in}
use Rattle.packets.specs.Packet.{data_in, type_in, second_in}
use Rattle.atc.specs.declared.types.Interface.{Interface}
use Rattle.atc.specs.Calls.{read_refusals, read_of, written_rows, written_of}
use Rattle.atc.proofs.Answers.{read_rows_in_order, written_rows_in_order}
use Rattle.demands.specs.Table4.{ClaimsImpossibleLine}
use Rattle.demands.specs.Families.{PayloadType, NamesMode}
use Rattle.demands.specs.Refused.{Eight, EightHeld, Nine, Ten, TenHeld}
use Rattle.demands.proofs.Accepted.{counted_exactly}
use Rattle.demands.proofs.Families.{payload_exactly}
use Rattle.demands.specs.Form.{Form}
use Rattle.demands.proofs.Numbers.{with_front, form_exactly}
use Rattle.demands.proofs.Tests.{eight_exactly, nine_exactly, ten_exactly, eight_held_exactly, ten_held_exactly}

-- three numbers that follow each other in a list, 8, 9 and 10: what is before them, and a test of each
module _ {Before A B C : Type 0} (s t u : Bool) (first : Before → (s ≡ true) ↔ A) (second : Before → (t ≡ true) ↔ B) (third : Before → (u ≡ true) ↔ C) where
  -- a test that does not hold
  without : {So : Type 0} (test : Bool) → (test ≡ true) ↔ So → (test ≡ false) ↔ (So → ⊥)
  without true is = (λ e. absurd (true≢false e), λ none. absurd (none (is.0 refl)))
  without false is = (λ e so. true≢false (sym (is.1 so)), λ none. refl)

  pub eighth : {Given : Type 0} → Given ↔ (Before × (s ≡ true)) → Given ↔ (Before × A)
  eighth exactly = (
    λ e. (let is = exactly.0 e in (is.0, (first is.0).0 is.1)),
    λ all. exactly.1 (all.0, (first all.0).1 all.1),
  )

  pub ninth : {Given : Type 0} → Given ↔ ((Before × (s ≡ false)) × (t ≡ true)) → Given ↔ (Before × (A → ⊥) × B)
  ninth exactly = (
    λ e. (let is = exactly.0 e in (is.0.0, (without s (first is.0.0)).0 is.0.1, (second is.0.0).0 is.1)),
    λ all. exactly.1 ((all.0, (without s (first all.0)).1 all.1), (second all.0).1 all.2),
  )

  pub tenth : {Given : Type 0} → Given ↔ (((Before × (s ≡ false)) × (t ≡ false)) × (u ≡ true)) → Given ↔ (Before × (A → ⊥) × (B → ⊥) × C)
  tenth exactly = (
    λ e.
        (let is = exactly.0 e in
        let before = is.0.0.0 in
        (before, (without s (first before)).0 is.0.0.1, (without t (second before)).0 is.0.1, (third before).0 is.1)),
    λ all. exactly.1 (((all.0, (without s (first all.0)).1 all.1), (without t (second all.0)).1 all.2), (third all.0).1 all.3),
  )

module _ (interface : Interface) (mode : ℕ) where
  -- what comes before 8, 9 and 10: the mode is counted, and type, line and second byte are right
  abbrev Sound : ℕ → ℕ → Type 0
  Sound type second = PayloadType mode type × (ClaimsImpossibleLine interface type second → ⊥) × NamesMode mode second

  module _ (r : Record) (type second start : ℕ) (run : List ℕ) where
    abbrev rows : List Cause
    rows = written_rows mode interface r type second start run

    abbrev Before : Type 0
    Before = (mode ≤ 10) × Sound type second

    front : Clear (rows_before OutsideTheClock rows) ↔ Before
    front = (
      λ clear.
          (let few = (counted_exactly mode).0 (clear_at UnknownMode (rows_before OutsideTheClock rows) clear) in
          (few, (payload_exactly mode few interface type second).0 (clear_from UnknownType (rows_before OutsideTheClock rows) clear))),
      λ ok. ((counted_exactly mode).1 ok.0, (payload_exactly mode ok.0 interface type second).1 ok.1),
    )

    pub ancillary_written_refused_by_8 : (written_of mode interface r type second start run ≡ Err OutsideTheClock) ↔ (Before × Eight mode r)
    unfolding written_of
    ancillary_written_refused_by_8 =
        let exactly =
        given_exactly _ OutsideTheClock rows (written_rows_in_order mode interface r type second start run) in
        eighth (test_of OutsideTheClock rows) (test_of SkippedAddress rows) (test_of UnusedBitSet rows)
        (λ before. eight_exactly mode before.0 r) (λ before. nine_exactly mode before.0 r.flags.drop r.address) (λ before. ten_exactly mode before.0 r)
        (with_front exactly front)

    pub ancillary_written_refused_by_9 :
        (written_of mode interface r type second start run ≡ Err SkippedAddress) ↔ (Before × (Eight mode r → ⊥) × Nine mode r.flags.drop r.address)
    unfolding written_of
    ancillary_written_refused_by_9 =
        let exactly =
        given_exactly _ SkippedAddress rows (written_rows_in_order mode interface r type second start run) in
        let up_to_lem = rows_before SkippedAddress rows in
        ninth (test_of OutsideTheClock rows) (test_of SkippedAddress rows) (test_of UnusedBitSet rows)
        (λ before. eight_exactly mode before.0 r) (λ before. nine_exactly mode before.0 r.flags.drop r.address) (λ before. ten_exactly mode before.0 r)
        (with_front exactly (
          λ clear. (front.0 (clear_before OutsideTheClock up_to_lem clear), clear_at OutsideTheClock up_to_lem clear),
          λ all. clear_whole OutsideTheClock up_to_lem (front.1 all.0) (all.1, tt),
        ))

    pub ancillary_written_refused_by_10 :
        (written_of mode interface r type second start run ≡ Err UnusedBitSet)
        ↔ (Before × (Eight mode r → ⊥) × (Nine mode r.flags.drop r.address → ⊥) × Ten mode r)
    unfolding written_of
    ancillary_written_refused_by_10 =
        let exactly =
        given_exactly _ UnusedBitSet rows (written_rows_in_order mode interface r type second start run) in
        let up_to_lem = rows_before UnusedBitSet rows in
        tenth (test_of OutsideTheClock rows) (test_of SkippedAddress rows) (test_of UnusedBitSet rows)
        (λ before. eight_exactly mode before.0 r) (λ before. nine_exactly mode before.0 r.flags.drop r.address) (λ before. ten_exactly mode before.0 r)
        (with_front exactly (
          λ clear. ((front.0 (clear_before OutsideTheClock up_to_lem clear), clear_at OutsideTheClock up_to_lem clear), clear_at SkippedAddress up_to_lem clear),
          λ all. clear_whole OutsideTheClock up_to_lem (front.1 all.0.0) (all.0.1, (all.1, tt)),
        ))

  module _ (words : List ℕ) where
    abbrev read_rows : List Cause
    read_rows = read_refusals mode interface words

    abbrev info : ℕ
    info = info_in (data_in words)

    abbrev ReadBefore : Type 0
    ReadBefore = Form mode words × Sound (type_in words) (second_in words)

    few_of : ReadBefore → mode ≤ 10
    few_of ok = ok.0.counted

    read_front : Clear (rows_before OutsideTheClock read_rows) ↔ ReadBefore
    read_front =
        let up_to_lem = rows_before OutsideTheClock read_rows in (
          λ clear.
              (let form = clear_before UnknownType up_to_lem clear in
              let few = (counted_exactly mode).0 (clear_at UnknownMode up_to_lem clear) in
              ((form_exactly mode words).0 form, (payload_exactly mode few interface (type_in words) (second_in words)).0 (clear_from UnknownType up_to_lem clear))),
          λ ok. clear_whole UnknownType up_to_lem ((form_exactly mode words).1 ok.0) ((payload_exactly mode (few_of ok) interface (type_in words) (second_in words)).1 ok.1),
        )

    pub ancillary_refused_by_8 : (read_of mode interface words ≡ Err OutsideTheClock) ↔ (ReadBefore × EightHeld mode info)
    unfolding read_of record_of
    ancillary_refused_by_8 =
        let exactly = given_exactly _ OutsideTheClock read_rows (read_rows_in_order mode interface words) in
        eighth (test_of OutsideTheClock read_rows) (test_of SkippedAddress read_rows) (test_of UnusedBitSet read_rows)
        (λ before. eight_held_exactly mode (few_of before) info) (λ before. nine_exactly mode (few_of before) (flag_at 10 info) (address_held info))
        (λ before. ten_held_exactly mode (few_of before) info)
        (with_front exactly read_front)

    pub ancillary_refused_by_9 :
        (read_of mode interface words ≡ Err SkippedAddress) ↔ (ReadBefore × (EightHeld mode info → ⊥) × Nine mode (flag_at 10 info) (address_held info))
    unfolding read_of record_of
    ancillary_refused_by_9 =
        let exactly = given_exactly _ SkippedAddress read_rows (read_rows_in_order mode interface words) in
        let up_to_lem = rows_before SkippedAddress read_rows in
        ninth (test_of OutsideTheClock read_rows) (test_of SkippedAddress read_rows) (test_of UnusedBitSet read_rows)
        (λ before. eight_held_exactly mode (few_of before) info) (λ before. nine_exactly mode (few_of before) (flag_at 10 info) (address_held info))
        (λ before. ten_held_exactly mode (few_of before) info)
        (with_front exactly (
          λ clear. (read_front.0 (clear_before OutsideTheClock up_to_lem clear), clear_at OutsideTheClock up_to_lem clear),
          λ all. clear_whole OutsideTheClock up_to_lem (read_front.1 all.0) (all.1, tt),
        ))

    pub ancillary_refused_by_10 :
        (read_of mode interface words ≡ Err UnusedBitSet)
        ↔ (ReadBefore × (EightHeld mode info → ⊥) × (Nine mode (flag_at 10 info) (address_held info) → ⊥) × TenHeld mode info)
    unfolding read_of record_of
    ancillary_refused_by_10 =
        let exactly = given_exactly _ UnusedBitSet read_rows (read_rows_in_order mode interface words) in
        let up_to_lem = rows_before UnusedBitSet read_rows in
        tenth (test_of OutsideTheClock read_rows) (test_of SkippedAddress read_rows) (test_of UnusedBitSet read_rows)
        (λ before. eight_held_exactly mode (few_of before) info) (λ before. nine_exactly mode (few_of before) (flag_at 10 info) (address_held info))
        (λ before. ten_held_exactly mode (few_of before) info)
        (with_front exactly (
          λ clear. ((read_front.0 (clear_before OutsideTheClock up_to_lem clear), clear_at OutsideTheClock up_to_lem clear), clear_at SkippedAddress up_to_lem clear),
          λ all. clear_whole OutsideTheClock up_to_lem (read_front.1 all.0.0) (all.0.1, (all.1, tt)),
        ))
