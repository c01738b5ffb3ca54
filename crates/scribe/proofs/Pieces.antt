-- Pieces of characters, one after the other: the reader stays sound, the characters that may still come grow fewer, and where there is room each piece is told.
-- Assumes nothing.
use Rattle.scribe.specs.declared.types.Telling.{Telling}
use Rattle.refusals.specs.declared.types.Refusal.{Refusal}
use Rattle.std.specs.Prelude.{Ok, Result}
use Rattle.std.proofs.Common.{◌≡◌, ℕ, ◌+◌, ◌*◌, ◌<◌, ◌≤◌, Bool, true, false, ◌&&◌, ltb, List, length, refl, ◌∙◌, arith, ltb-true, le-ltb}
use Rattle.bits.specs.Bits.{to_bits, how_many}
use Rattle.runs.specs.Run.{placed}
use Rattle.runs.proofs.Same.{both_true}
use Rattle.modes.specs.Modes.{unknown}
use Rattle.register.specs.Held.{unreached}
use Rattle.reader.specs.Feeding.{Passing}
use Rattle.following.proofs.Passing.{fed_passing}
use Rattle.characters.specs.Characters.{bits_in, goes_on}
use Rattle.scribe.specs.declared.types.Scribe.{Scribe}
use Rattle.scribe.specs.Told.{counted, text_of, left_after, scribe_after, telling_of, told_of, out_of, ToldOf, Brought, fresh, piece}

-- the reader of a scribe that pieces of characters bring about is sound
pub brought_sound : {s : Scribe} → Brought s → Passing s.reader
unfolding scribe_after unreached to_bits how_many unknown
brought_sound fresh = record { known = refl; passes = refl }
brought_sound (piece {scribe = s} characters b) = fed_passing (bits_in (counted s characters)) s.reader (brought_sound b)

-- after each piece fewer characters may still come
pub fewer_left : (s : Scribe) (characters : List ℕ) → 0 < s.left → (scribe_after s characters).left < s.left
unfolding scribe_after
fewer_left s characters some = go (ltb 0 (length (counted s characters)) && goes_on (counted s characters)) refl
  where
    go : (t : Bool) → (ltb 0 (length (counted s characters)) && goes_on (counted s characters)) ≡ t
        → left_after s.left (length (counted s characters)) (goes_on (counted s characters)) < s.left
    go true t = rw t (omega (arith, ltb-true 0 (length (counted s characters)) (both_true _ _ t).0))
    go false t = rw t some

-- where the reader is sound and there is room, a piece is told
module _ (before : Scribe) (characters out : List ℕ) (sound : Passing before.reader) (room : 64 * length characters ≤ length out) where
  pub told_so : {told : Result Telling Refusal} {characters_left out_left : List ℕ} → ToldOf before characters out told characters_left out_left
      → (told ≡ Ok (telling_of before characters)) × (out_left ≡ placed 0 (text_of before characters) out)
  unfolding told_of out_of
  told_so t =
      let fits = le-ltb (length out) (0 + 64 * length characters) (omega arith) in
      (t.answers_so ∙ rw (sound.known, sound.passes, fits), t.leaves_out ∙ rw (sound.known, sound.passes, fits))
