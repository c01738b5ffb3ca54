-- Where the sync word does not stand in a register as it does in a word, nothing is heard.
-- Assumes nothing.
use mathlib.Core.Path.{◌≡◌, refl}
use mathlib.Core.Bool.{false, ◌&&◌}
use mathlib.Core.List.{reverse}
use lib.ListN.{take, drop}
use Rattle.refusals.proofs.Answered.{neither}
use Rattle.runs.specs.Run.{same}
use Rattle.polarity.specs.Word.{sync_word}
use Rattle.register.specs.declared.types.Reader.{Reader}
use Rattle.register.specs.declared.types.Ways.{Ways}
use Rattle.register.specs.declared.types.Ways.TheVariants.{ForwardOnly, Both}
use Rattle.register.specs.Held.{register, held_bits}
use Rattle.hearing.specs.declared.types.Heard.TheVariants.{Nothing}
use Rattle.hearing.specs.Window.{backward_in, heard_in}
use Rattle.hearing.specs.Looks.{reverses, synced}
use Rattle.hearing.proofs.Upper.{other_hears_nothing}
use Rattle.hearing.proofs.Lower.{other_is_passed_over}

module _ (r : Reader) where
  not_backward :
      (ways : Ways) → (reverses ways && same (take 16 (register r)) (reverse sync_word)) ≡ false → backward_in r.mode ways (held_bits r) ≡ Nothing
  unfolding backward_in
  not_backward ForwardOnly none = refl
  not_backward Both none = other_is_passed_over r Both none

  pub unsynced_hears_nothing : synced r ≡ false → heard_in r.mode r.ways (held_bits r) ≡ Nothing
  unfolding synced heard_in
  unsynced_hears_nothing none =
      let parts = neither (same (drop 64 (register r)) sync_word) (reverses r.ways && same (take 16 (register r)) (reverse sync_word)) none in
      rw (other_hears_nothing r parts.0) (not_backward r.ways parts.1)
