-- What the program tells: "The program reads characters 0 and 1 in mode 2, skips spaces and line feeds, and ends at the input's end, at any other
-- character, or after 16,777,216 characters in all .. Each answer's line is the bits so far", and so on.
-- Assumes nothing.
use Rattle.refusals.specs.declared.types.Refusal.TheVariants.{NoRoom}
use Rattle.refusals.specs.declared.types.Refusal.{Refusal}
use Rattle.std.specs.Prelude.{◌≡◌, ℕ, ◌+◌, ◌-◌, ◌*◌, ◌%◌, ◌^◌, Bool, cond, ◌&&◌, List, [], ◌∷◌, ◌++◌, length, take, nat_lt, Err, Ok, Result}
use Rattle.refusals.specs.Answer.{Cause, ◌when◌, answer}
use Rattle.runs.specs.Run.{lacks_room, run_after}
use Rattle.hearing.specs.declared.types.Heard.{Heard}
use Rattle.register.specs.declared.types.Ways.TheVariants.{ForwardOnly}
use Rattle.register.specs.Held.{fresh_of}
use Rattle.reader.specs.Steps.{reader_refusals}
use Rattle.following.specs.Reach.{fed, answers}
use Rattle.lines.specs.Lines.{line_of}
use Rattle.characters.specs.Characters.{bits_in, goes_on}
use Rattle.scribe.specs.declared.types.Scribe.{Scribe}
use Rattle.scribe.specs.declared.types.Telling.{Telling}

-- "in mode 2", forward only, no bits so far, "16,777,216 characters in all"
abbrev pub fresh_scribe : Scribe
fresh_scribe = record { reader = fresh_of 2 ForwardOnly; bits = 0; left = 16777216 }

-- the characters of a piece that count: no more than may still come
abbrev pub counted : Scribe → List ℕ → List ℕ
counted before characters = take before.left characters

-- one bit more, in a machine word
abbrev pub one_on : ℕ → ℕ
one_on bits = (bits + 1) % 2 ^ 64

-- "Each answer's line", after so many bits: there is one answer for each bit
unfoldable pub lines_of : ℕ → List Heard → List ℕ
lines_of bits [] = []
lines_of bits (heard ∷ rest) = line_of (one_on bits) heard ++ lines_of (one_on bits) rest

-- the lines of a piece: the answers that single steps of the reader give to its bits
abbrev pub text_of : Scribe → List ℕ → List ℕ
text_of before characters = lines_of before.bits (answers before.reader (bits_in (counted before characters)))

-- how many characters may still come, when so many have come: "ends at the input's end", where none came, "at any other character, or after 16,777,216
-- characters in all", where none is left
abbrev pub left_after : ℕ → ℕ → Bool → ℕ
left_after left came more = cond (nat_lt 0 came && more) (left - came) 0

-- the scribe after a piece: its reader has had the bits one by one
unfoldable pub scribe_after : Scribe → List ℕ → Scribe
scribe_after before characters =
    let came = counted before characters in
    record {
      reader = fed before.reader (bits_in came);
      bits = (before.bits + length (bits_in came)) % 2 ^ 64;
      left = left_after before.left (length came) (goes_on came);
    }

unfoldable pub telling_of : Scribe → List ℕ → Telling
telling_of before characters = record { scribe = scribe_after before characters; length = length (text_of before characters) }

-- 2 a mode that is unknown; 13 straight after it; 12, stretched to the places that are written to here, fewer than 64 for each character, which are room for its line
abbrev pub tell_refusals : Scribe → List ℕ → List ℕ → List Cause
tell_refusals before characters out =
    reader_refusals before.reader ++ ((NoRoom when lacks_room (64 * length characters) 0 (length out)) ∷ [])

unfoldable pub told_of : Scribe → List ℕ → List ℕ → Result Telling Refusal
told_of before characters out = answer Err (tell_refusals before characters out) (Ok (telling_of before characters))

-- the characters as the call leaves them: where it is not refused, the bits stand in place of the first of them
unfoldable pub characters_after : Scribe → List ℕ → List ℕ → List ℕ
characters_after before characters out = run_after (tell_refusals before characters out) 0 (bits_in (counted before characters)) characters

-- the lent run with the lines at its start
unfoldable pub out_of : Scribe → List ℕ → List ℕ → List ℕ
out_of before characters out = run_after (tell_refusals before characters out) 0 (text_of before characters) out

-- what is told, and both lent runs at the end
pub record ToldOf (before : Scribe) (characters out : List ℕ) (told : Result Telling Refusal) (characters_left out_left : List ℕ) : Type 0 where
  pub answers_so : told ≡ told_of before characters out
  pub leaves_characters : characters_left ≡ characters_after before characters out
  pub leaves_out : out_left ≡ out_of before characters out

-- the scribes that pieces of characters, whatever they are, bring a fresh one to
pub data Brought : Scribe → Type 0 where
  fresh : Brought fresh_scribe
  piece : {scribe : Scribe} (characters : List ℕ) → Brought scribe → Brought (scribe_after scribe characters)
