-- A code word held whole is heard as itself, the way it runs.
-- Assumes nothing.
use Prim.Native.Nat.{ℕ}
use mathlib.Core.Path.{◌≡◌, sym, ap, ◌∙◌}
use mathlib.Core.Bool.{true}
use mathlib.Core.List.{List, reverse, reverse-reverse}
use lib.ListN.{length, drop}
use borrow.Author.Tests.{eq-eqb}
use Rattle.runs.specs.Run.{same}
use Rattle.runs.proofs.Same.{same_itself}
use Rattle.polarity.specs.Word.{sync_word}
use Rattle.ltc.specs.Calls.{read_of}
use Rattle.register.specs.declared.types.Ways.{Ways}
use Rattle.register.specs.declared.types.Ways.TheVariants.{Both}
use Rattle.hearing.specs.declared.types.Way.{Way}
use Rattle.hearing.specs.declared.types.Way.TheVariants.{Forward, Backward}
use Rattle.hearing.specs.declared.types.Heard.TheVariants.{Accepted}
use Rattle.hearing.specs.Window.{reporting, told_backward, forward_in, backward_in, heard_in}
use Rattle.hearing.specs.Looks.{running}
use Rattle.following.specs.Following.{CodeWord, Settles}
use Rattle.following.specs.Following.Settles.{forward_only, both_forward, both_backward}
use Rattle.following.proofs.CodeWords.{word_long, word_synced}
use Rattle.following.proofs.Synced.{not_both_ways}
use Rattle.following.proofs.Quiet.{forward_silent}

module _ {mode : ℕ} (word : CodeWord mode) where
  pub heard_forward : (ways : Ways) → heard_in mode ways word.bits ≡ Accepted (reporting word.says word.found Forward)
  unfolding heard_in forward_in
  heard_forward ways =
      let synced : same (drop 64 word.bits) sync_word ≡ true = rw (word_synced word) (same_itself sync_word) in
      rw (eq-eqb (length word.bits) 80 (word_long word), synced, word.accepted)

  pub heard_backward : heard_in mode Both (reverse word.bits) ≡ Accepted (reporting word.says word.found Backward)
  unfolding heard_in backward_in
  heard_backward =
      let window = reverse word.bits in
      let once = reverse-reverse word.bits in
      rw (forward_silent mode window (λ ends. not_both_ways window ends word (sym once)))
      (ap (λ (l : List ℕ). told_backward Both (read_of mode l)) once ∙ ap (told_backward Both) word.accepted)

  pub heard_whole :
      {ways : Ways} {way : Way} {from : ℕ} → Settles ways way from
      → heard_in mode ways (running way word.bits) ≡ Accepted (reporting word.says word.found way)
  heard_whole forward_only = heard_forward _
  heard_whole both_forward = heard_forward _
  heard_whole both_backward = heard_backward
