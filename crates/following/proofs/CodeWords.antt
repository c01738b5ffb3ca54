-- What acceptance says of a code word.
-- Assumes nothing.
use Prim.Native.Nat.{ℕ}
use mathlib.Core.Path.{◌≡◌, refl}
use mathlib.Core.List.{List, [], ◌∷◌}
use lib.ListN.{length, drop, length-reverse}
use borrow.Author.Tests.{not-false}
use Rattle.refusals.specs.declared.types.Refusal.TheVariants.{ElementTooHigh, WrongSync}
use Rattle.refusals.proofs.Answered.{Clear}
use Rattle.refusals.proofs.ByNumber.{clear_at}
use Rattle.bits.specs.Bits.{some_above, AllBits}
use Rattle.bits.proofs.Bit.{within_append, within_reverse}
use Rattle.bits.proofs.Neighbours.{Each}
use Rattle.runs.proofs.Same.{same_elements}
use Rattle.polarity.specs.Word.{sync_word}
use Rattle.ltc.specs.Calls.{read_refusals}
use Rattle.trips.proofs.Words.{read_clear, long}
use Rattle.hearing.specs.declared.types.Way.{Way}
use Rattle.hearing.specs.declared.types.Way.TheVariants.{Forward, Backward}
use Rattle.hearing.specs.Looks.{running}
use Rattle.following.specs.Following.{CodeWord, end_to_end}
use Rattle.following.proofs.Apart.{gaps, NotBoth, apart}

module _ {mode : ℕ} where
  module _ (word : CodeWord mode) where
    clear : Clear (read_refusals mode word.bits)
    clear = (read_clear mode word.says word.found word.bits word.accepted).0

    pub word_long : length word.bits ≡ 80
    word_long = long mode word.bits clear

    word_clean : AllBits word.bits
    word_clean = clear_at ElementTooHigh (read_refusals mode word.bits) clear

    pub word_synced : drop 64 word.bits ≡ sync_word
    word_synced = same_elements (drop 64 word.bits) sync_word (not-false _ (clear_at WrongSync (read_refusals mode word.bits) clear))

    pub gaps_of : Each (NotBoth word.bits) gaps
    gaps_of = apart mode word.says word.found word.bits word.accepted

  -- whichever way it runs
  pub running_long : (way : Way) (word : CodeWord mode) → length (running way word.bits) ≡ 80
  running_long Forward word = word_long word
  running_long Backward word = rw (length-reverse word.bits) (word_long word)

  running_clean : (way : Way) (word : CodeWord mode) → AllBits (running way word.bits)
  running_clean Forward word = word_clean word
  running_clean Backward word = within_reverse 1 word.bits (word_clean word)

  pub words_clean : (way : Way) (words : List (CodeWord mode)) → AllBits (end_to_end way words)
  unfolding end_to_end some_above
  words_clean way [] = refl
  words_clean way (word ∷ words) =
      within_append 1 (running way word.bits) (end_to_end way words) (running_clean way word) (words_clean way words)
