-- A carrier that takes its refusals from the record's answer refuses as its own list says: whatever kind its own answer is of.
-- Assumes nothing.
use Prim.Native.Nat.{ℕ}
use mathlib.Core.Path.{◌≡◌, sym, ap, ◌∙◌}
use mathlib.Core.Bool.{false}
use mathlib.Core.List.{List}
use mathlib.Core.Logic.{◌↔◌}
use Rattle.std.specs.Prelude.{Err, Ok, Result}
use Rattle.refusals.specs.declared.types.Refusal.{Refusal}
use Rattle.refusals.specs.declared.types.Refusal.TheVariants.{MarkSet}
use Rattle.refusals.specs.Answer.{Cause, answer}
use Rattle.refusals.proofs.Answered.{Clear, carried, otherwise_accepted}
use Rattle.refusals.proofs.Results.{accepted_so}
use Rattle.refusals.proofs.ByNumber.{clear_at, clear_before, clear_whole}
use Rattle.record.specs.declared.types.Record.{Record}
use Rattle.modes.specs.declared.types.Shows.{Shows}
use Rattle.modes.specs.Modes.{with_mode}
use Rattle.modes.specs.Calls.{information_in, write_refusals_in, packed_in}
use Rattle.modes.specs.Shown.{unshown, carried_refusals_in, carried_in}

-- what a carrier answers on the record's answer
told : {A : Type 0} → (Refusal → A) → A → Result ℕ Refusal → A
told refused accepted (Ok n) = accepted
told refused accepted (Err n) = refused n

-- of bits that a list of refusals comes before
module _ (rows : List Cause) (info : ℕ) where
  pub refused_by_rows :
      {A : Type 0} (refused : Refusal → A) (accepted : A) (n : Refusal) → answer Err rows (Ok info) ≡ Err n → refused n ≡ answer refused rows accepted
  unfolding told
  refused_by_rows refused accepted n e = ap (told refused accepted) (sym e) ∙ carried (told refused accepted) Err (Ok info) rows

  pub made_by_rows : (n : ℕ) → answer Err rows (Ok info) ≡ Ok n → Clear rows × (info ≡ n)
  made_by_rows n e = accepted_so rows e

module _ (mode : ℕ) (r : Record) where
  pub refused_as :
      {A : Type 0} (refused : Refusal → A) (accepted : A) (n : Refusal) → packed_in mode r ≡ Err n
      → refused n ≡ answer refused (with_mode mode (write_refusals_in mode r)) accepted
  unfolding packed_in
  refused_as = refused_by_rows (with_mode mode (write_refusals_in mode r)) (information_in mode r)

  -- bits that were made are those of the record, which is clear of refusals
  pub packed_is : (n : ℕ) → packed_in mode r ≡ Ok n → Clear (with_mode mode (write_refusals_in mode r)) × (information_in mode r ≡ n)
  unfolding packed_in
  packed_is = made_by_rows (with_mode mode (write_refusals_in mode r)) (information_in mode r)

  -- and the same where a picture is shown
  module _ (shows : Shows) where
    abbrev pub carried_rows : List Cause
    carried_rows = with_mode mode (carried_refusals_in mode shows r)

    pub uncarried_as :
        {A : Type 0} (refused : Refusal → A) (accepted : A) (n : Refusal) → carried_in mode shows r ≡ Err n → refused n ≡ answer refused carried_rows accepted
    unfolding carried_in
    uncarried_as = refused_by_rows carried_rows (information_in mode r)

    pub carried_is : (n : ℕ) → carried_in mode shows r ≡ Ok n → Clear carried_rows × (information_in mode r ≡ n)
    unfolding carried_in
    carried_is = made_by_rows carried_rows (information_in mode r)

    -- a record is carried by some bits exactly where it makes them and shows its picture
    pub carried_exactly : (n : ℕ) → (carried_in mode shows r ≡ Ok n) ↔ ((packed_in mode r ≡ Ok n) × (unshown mode shows r ≡ false))
    unfolding carried_in packed_in
    carried_exactly n = (there, back)
      where
        there : carried_in mode shows r ≡ Ok n → (packed_in mode r ≡ Ok n) × (unshown mode shows r ≡ false)
        there e =
            let made = carried_is n e in
            let own = clear_before MarkSet carried_rows made.0 in (
              otherwise_accepted Err (Ok (information_in mode r)) (with_mode mode (write_refusals_in mode r)) own ∙ ap Ok made.1,
              clear_at MarkSet carried_rows made.0,
            )

        back : (packed_in mode r ≡ Ok n) × (unshown mode shows r ≡ false) → carried_in mode shows r ≡ Ok n
        back written =
            let made = packed_is n written.0 in
            let whole = clear_whole MarkSet carried_rows made.0 (written.1, tt) in
            otherwise_accepted Err (Ok (information_in mode r)) carried_rows whole ∙ ap Ok made.1
