-- "a bad reversed word is passed over".
-- Assumes nothing.
use Prim.Native.Nat.{ℕ}
use mathlib.Core.Path.{◌≡◌, refl, ◌∙◌}
use mathlib.Core.Bool.{true}
use mathlib.Core.List.{List}
use Rattle.refusals.specs.declared.types.Refusal.{Refusal}
use Rattle.std.specs.Prelude.{Err, Ok}
use Rattle.refusals.specs.Answer.{test_of}
use Rattle.refusals.proofs.Answered.{kept, carried}
use Rattle.refusals.proofs.ByNumber.{not_clear}
use Rattle.rates.specs.declared.types.Flag.TheVariants.{No}
use Rattle.record.specs.Record.{marked}
use Rattle.modes.specs.Calls.{record_in}
use Rattle.polarity.specs.Word.{reading, info_in, found_in}
use Rattle.ltc.specs.Calls.{read_refusals, read_of}
use Rattle.register.specs.declared.types.Ways.{Ways}
use Rattle.register.specs.declared.types.Ways.TheVariants.{ForwardOnly, Both}
use Rattle.hearing.specs.declared.types.Heard.TheVariants.{Nothing}
use Rattle.hearing.specs.Window.{told_backward}

-- whichever number it would be refused by
pub passed_over : (ways : Ways) (mode : ℕ) (n : Refusal) (word : List ℕ) → test_of n (read_refusals mode word) ≡ true → told_backward ways (read_of mode word) ≡ Nothing
unfolding read_of
passed_over ForwardOnly mode n word refused = refl
passed_over Both mode n word refused =
    let rows = read_refusals mode word in
    let held = Ok (reading (marked No (record_in mode (info_in word))) (found_in word)) in
    carried (told_backward Both) Err held rows ∙ kept Nothing (told_backward Both held) rows (not_clear n rows refused)
