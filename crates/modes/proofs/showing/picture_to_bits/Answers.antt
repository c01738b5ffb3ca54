-- `modes::showing::picture_to_bits` meets its contract: what the record answers, and then 11.
-- Assumes nothing.
use mathlib.Core.Path.{◌≡◌, sym, ◌∙◌}
use mathlib.Core.Bool.{Bool, true, false}
use mathlib.Core.List.{[], ◌∷◌}
use Prim.Native.Nat.{ℕ}
use Rattle.refusals.proofs.Results.{passed_on}
use Rattle.std.specs.Prelude.{Err, Ok, Result}
use Rattle.refusals.specs.declared.types.Refusal.{Refusal}
use Rattle.refusals.specs.declared.types.Refusal.TheVariants.{MarkSet}
use Rattle.refusals.specs.Answer.{◌when◌, answer}
use Rattle.refusals.proofs.Answered.{otherwise_accepted}
use Rattle.record.specs.declared.types.Record.{Record}
use Rattle.modes.specs.declared.types.Shows.{Shows}
use Rattle.modes.specs.Modes.{with_mode}
use Rattle.modes.specs.Calls.{information_in, write_refusals_in, packed_in}
use Rattle.modes.specs.Shown.{unshown, carried_in}
use Rattle.modes.proofs.Told.{refused_as, packed_is}
use Rattle.modes.proofs.showing.picture_to_bits.Goals as goal

module _ (mode : ℕ) (shows : Shows) (r : Record) (packed : Result ℕ Refusal) (asked : packed ≡ packed_in mode r) where
  -- what is left once the record's own rows are clear
  abbrev last : Result ℕ Refusal
  last = answer Err ((MarkSet when unshown mode shows r) ∷ []) (Ok (information_in mode r))

  refused : (n : Refusal) → packed ≡ Err n → Err n ≡ carried_in mode shows r
  unfolding carried_in
  refused n e = refused_as mode r Err last n (sym asked ∙ e)

  module _ (info : ℕ) (e : packed ≡ Ok info) (other : Bool) (looked : other ≡ unshown mode shows r) where
    whole : carried_in mode shows r ≡ last
    unfolding carried_in
    whole = otherwise_accepted Err last (with_mode mode (write_refusals_in mode r)) (packed_is mode r info (sym asked ∙ e)).0

    another_picture : other ≡ true → Err MarkSet ≡ carried_in mode shows r
    another_picture t = sym (whole ∙ rw (← looked, t))

    made : other ≡ false → Ok info ≡ carried_in mode shows r
    made f = sym (whole ∙ rw (← looked, f, (packed_is mode r info (sym asked ∙ e)).1))

pub returns-then-is_unshown : goal.returns-then-is_unshown
returns-then-is_unshown c = search (another_picture, c.in_ok-info.was)

pub returns-in_err-info : goal.returns-in_err-info
returns-in_err-info c = passed_on c.from_residual.ensures.1 (search (refused, c.in_err-info.was))

pub returns : goal.returns
returns c = search (made, c.in_ok-info.was)
