-- 19 is given exactly where the second byte claims a line number that can't be, in a mode of no high frame rate, and no number before 19 applies; and 23 exactly where it does not
-- name a mode of a high frame rate: read and written.
-- Assumes nothing.
use Prim.Native.Nat.{ℕ, ◌/◌}
use mathlib.Core.Path.{◌≡◌, refl}
use mathlib.Core.Bool.{Bool, true, false, not, ◌||◌, cond, true≢false}
use mathlib.Core.List.{List}
use mathlib.Core.Logic.{◌↔◌, ◌⊎◌, inl, inr, ⊎_elim}
use native.Mathlib.Omega.{arith}
use lib.Dec.{ltb, eqb}
use borrow.Author.Tests.{eqb-true, not-false}
use Rattle.std.specs.Prelude.{Err}
use Rattle.refusals.specs.declared.types.Refusal.TheVariants.{ImpossibleLine, MisnamedMode, UnknownMode, UnknownType}
use Rattle.refusals.specs.Answer.{Cause}
use Rattle.refusals.proofs.Answered.{Clear}
use Rattle.refusals.proofs.ByNumber.{rows_before, clear_at, clear_before, clear_whole}
use Rattle.refusals.proofs.First.{given_exactly}
use Rattle.runs.proofs.Same.{both_true}
use Rattle.record.specs.declared.types.Record.{Record}
use Rattle.modes.specs.Modes.{uncounted, high_rate, rate_at, pictures_at}
use Rattle.superframes.specs.Named.{name_of, misnamed}
use Rattle.packets.specs.Packet.{type_in, second_in, is_unknown_type}
use Rattle.packets.specs.Calls.{form_refusals}
use Rattle.atc.specs.declared.types.Interface.{Interface}
use Rattle.atc.specs.Lines.{lacks_entry, is_impossible_line}
use Rattle.atc.specs.Calls.{read_refusals, read_of, written_rows, written_of}
use Rattle.atc.proofs.Answers.{read_rows_in_order, written_rows_in_order}

-- "types 1 and 2" claim a line, and no others
pub claims_a_line : (interface : Interface) (type second : ℕ) → is_impossible_line interface type second ≡ true → (type ≡ 1) ⊎ (type ≡ 2)
claims_a_line interface type second e = go (eqb type 1) refl (both_true (eqb type 1 || eqb type 2) (lacks_entry interface second) e).0
  where
    go : (s : Bool) → eqb type 1 ≡ s → (s || eqb type 2) ≡ true → (type ≡ 1) ⊎ (type ≡ 2)
    go true one t = inl (eqb-true type 1 one)
    go false one t = inr (eqb-true type 2 t)

-- and they are of the family of modes 0 to 5 alone
low_type : (mode : ℕ) (interface : Interface) (type second : ℕ) → high_rate mode ≡ false → is_impossible_line interface type second ≡ true → is_unknown_type mode type ≡ false
low_type mode interface type second low e = rw low (⊎_elim (λ one. rw one) (λ two. rw two) (claims_a_line interface type second e))

low_mode : (mode : ℕ) (interface : Interface) (type second : ℕ) → is_unknown_type mode type ≡ false → is_impossible_line interface type second ≡ true → high_rate mode ≡ false
low_mode mode interface type second known e = go (high_rate mode) refl known
  where
    go : (t : Bool) → high_rate mode ≡ t → cond t (not (eqb (type / 16) 8)) (ltb 2 type) ≡ false → high_rate mode ≡ false
    go true t known =
        let high : type / 16 ≡ 8 = eqb-true (type / 16) 8 (not-false _ known) in
        absurd (⊎_elim (λ (one : type ≡ 1). omega arith) (λ (two : type ≡ 2). omega arith) (claims_a_line interface type second e))
    go false t known = t

-- where a mode is to be named, no line is claimed by a type of its family
of_high_rates : (mode second : ℕ) → misnamed mode second ≡ true → high_rate mode ≡ true
unfolding misnamed
of_high_rates mode second e = (both_true (high_rate mode) (not (eqb second (name_of (rate_at mode) (pictures_at mode)))) e).0

no_line : (mode : ℕ) (interface : Interface) (type second : ℕ) → is_unknown_type mode type ≡ false → misnamed mode second ≡ true → is_impossible_line interface type second ≡ false
no_line mode interface type second known e = go (is_impossible_line interface type second) refl
  where
    go : (t : Bool) → is_impossible_line interface type second ≡ t → t ≡ false
    go true t = absurd (true≢false (rw (of_high_rates mode second e) at (low_mode mode interface type second known t)))
    go false t = refl

module _ (mode : ℕ) (interface : Interface) where
  -- what is before the type's own rows: the form of the words, or the mode
  module _ (words : List ℕ) where
    abbrev read_rows : List Cause
    read_rows = read_refusals mode interface words

    abbrev read_type : ℕ
    read_type = type_in words

    pub read_refused_by_19 :
        (read_of mode interface words ≡ Err ImpossibleLine)
        ↔ (Clear (form_refusals mode words) × ((high_rate mode ≡ false) × (is_impossible_line interface read_type (second_in words) ≡ true)))
    unfolding read_of
    read_refused_by_19 =
        let before = rows_before ImpossibleLine read_rows in
        let exactly = given_exactly _ ImpossibleLine read_rows (read_rows_in_order mode interface words) in (
          λ e. (let is = exactly.0 e in
              (clear_before UnknownType before is.0, (low_mode mode interface read_type (second_in words) (clear_at UnknownType before is.0) is.1, is.1))),
          λ both. exactly.1 (
            clear_whole UnknownType before both.0 (low_type mode interface read_type (second_in words) both.1.0 both.1.1, tt),
            both.1.1,
          ),
        )

    pub read_refused_by_23 :
        (read_of mode interface words ≡ Err MisnamedMode)
        ↔ (Clear (form_refusals mode words) × ((is_unknown_type mode read_type ≡ false) × (misnamed mode (second_in words) ≡ true)))
    unfolding read_of
    read_refused_by_23 =
        let before = rows_before MisnamedMode read_rows in
        let exactly = given_exactly _ MisnamedMode read_rows (read_rows_in_order mode interface words) in (
          λ e. (let is = exactly.0 e in (clear_before UnknownType before is.0, (clear_at UnknownType before is.0, is.1))),
          λ both. exactly.1 (
            clear_whole UnknownType before both.0
                (both.1.0, (no_line mode interface read_type (second_in words) both.1.0 both.1.1, tt)),
            both.1.1,
          ),
        )

  module _ (r : Record) (type second start : ℕ) (run : List ℕ) where
    abbrev write_rows : List Cause
    write_rows = written_rows mode interface r type second start run

    pub written_refused_by_19 :
        (written_of mode interface r type second start run ≡ Err ImpossibleLine)
        ↔ ((uncounted mode ≡ false) × ((high_rate mode ≡ false) × (is_impossible_line interface type second ≡ true)))
    unfolding written_of
    written_refused_by_19 =
        let before = rows_before ImpossibleLine write_rows in
        let exactly =
        given_exactly _ ImpossibleLine write_rows
        (written_rows_in_order mode interface r type second start run) in (
          λ e. (let is = exactly.0 e in
              (clear_at UnknownMode before is.0, (low_mode mode interface type second (clear_at UnknownType before is.0) is.1, is.1))),
          λ both. exactly.1 ((both.0, (low_type mode interface type second both.1.0 both.1.1, tt)), both.1.1),
        )

    pub written_refused_by_23 :
        (written_of mode interface r type second start run ≡ Err MisnamedMode)
        ↔ ((uncounted mode ≡ false) × ((is_unknown_type mode type ≡ false) × (misnamed mode second ≡ true)))
    unfolding written_of
    written_refused_by_23 =
        let before = rows_before MisnamedMode write_rows in
        let exactly =
        given_exactly _ MisnamedMode write_rows
        (written_rows_in_order mode interface r type second start run) in (
          λ e. (let is = exactly.0 e in (clear_at UnknownMode before is.0, (clear_at UnknownType before is.0, is.1))),
          λ both. exactly.1 ((both.0, (both.1.0, (no_line mode interface type second both.1.0 both.1.1, tt))), both.1.1),
        )
