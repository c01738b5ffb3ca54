-- What is turned away, for what the reader is judged to be or for want of room, and what is told.
-- Assumes nothing.
use Rattle.refusals.proofs.Results.{not_accepted}
use Rattle.refusals.proofs.Verdicts.{refused_by}
use Rattle.refusals.specs.declared.types.Refusal.{Refusal}
use Rattle.refusals.specs.declared.types.Refusal.TheVariants.{NoRoom}
use Rattle.refusals.specs.Answer.{◌when◌, answer, verdict_of}
use Rattle.std.specs.Prelude.{Err, Ok, Result}
use Rattle.std.proofs.Common.{◌≡◌, ℕ, ◌+◌, ◌*◌, ◌<◌, ◌≤◌, List, [], ◌∷◌, length, sym, arith, le-ltb, lt-ltb}
use Rattle.runs.specs.Run.{lacks_room, placed}
use Rattle.runs.proofs.Outcomes.{unchanged}
use Rattle.reader.specs.Steps.{reader_refusals}
use Rattle.reader.specs.Feeding.{Passing}
use Rattle.characters.specs.Characters.{bits_in}
use Rattle.scribe.specs.declared.types.Scribe.{Scribe}
use Rattle.scribe.specs.declared.types.Telling.{Telling}
use Rattle.scribe.specs.Told.{counted, text_of, telling_of, tell_refusals, told_of, characters_after, out_of, ToldOf}

module _ (before : Scribe) (characters out : List ℕ) where
  -- a call that is turned away leaves the characters and the run as they were
  pub refused_leaves : (n : Refusal) → told_of before characters out ≡ Err n → (characters_after before characters out ≡ characters) × (out_of before characters out ≡ out)
  unfolding told_of characters_after out_of
  refused_leaves n e =
      let telling = telling_of before characters in
      let same = unchanged Err (Ok telling) not_accepted (tell_refusals before characters out) 0 in
      (same (bits_in (counted before characters)) characters n e, same (text_of before characters) out n e)

  module _ {found : Result Unit Refusal} (judged : found ≡ verdict_of (reader_refusals before.reader)) where
    turned_so : (n : Refusal) → found ≡ Err n → Err n ≡ told_of before characters out
    unfolding told_of
    turned_so n e =
        let no_room = (NoRoom when lacks_room (64 * length characters) 0 (length out)) ∷ [] in
        refused_by Err (answer Err no_room (Ok (telling_of before characters))) (reader_refusals before.reader) found judged n e

    pub turned_away : (n : Refusal) → found ≡ Err n → ToldOf before characters out (Err n) characters out
    turned_away n e =
        let so = turned_so n e in
        let left = refused_leaves n (sym so) in
        record { answers_so = so; leaves_characters = sym left.0; leaves_out = sym left.1 }

  module _ (sound : Passing before.reader) where
    pub no_room_left : length out < 64 * length characters → ToldOf before characters out (Err NoRoom) characters out
    unfolding told_of characters_after out_of
    no_room_left few =
        let short = lt-ltb (length out) (0 + 64 * length characters) (omega arith) in
        record {
          answers_so = rw (sound.known, sound.passes, short);
          leaves_characters = rw (sound.known, sound.passes, short);
          leaves_out = rw (sound.known, sound.passes, short);
        }

    pub told_all :
        64 * length characters ≤ length out → {telling : Telling} {bits_left out_left : List ℕ}
        → (telling ≡ telling_of before characters)
        × (bits_left ≡ placed 0 (bits_in (counted before characters)) characters)
        × (out_left ≡ placed 0 (text_of before characters) out)
        → ToldOf before characters out (Ok telling) bits_left out_left
    unfolding told_of characters_after out_of
    told_all enough told =
        let fits = le-ltb (length out) (0 + 64 * length characters) (omega arith) in
        record {
          answers_so = rw (told.0, sound.known, sound.passes, fits);
          leaves_characters = rw (told.1, sound.known, sound.passes, fits);
          leaves_out = rw (told.2, sound.known, sound.passes, fits);
        }
