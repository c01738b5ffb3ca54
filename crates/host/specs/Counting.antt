-- What the calls that count answer a host.
-- Assumes nothing.
use Rattle.refusals.specs.declared.types.Refusal.{Refusal}
use Rattle.std.specs.Prelude.{ℕ, List, [], ℤ, Err}
use Rattle.refusals.specs.Answer.{Cause, answer}
use Rattle.layout.specs.Flags.{flag_of}
use Rattle.modes.specs.Modes.{with_counting}
use Rattle.modes.specs.Calls.{number_in, in_second_in, picture_in, span_in, plus_in}
use Rattle.plain.specs.declared.types.PlainPicture.{PlainPicture}
use Rattle.plain.specs.declared.types.NumberAnswer.{NumberAnswer}
use Rattle.plain.specs.declared.types.SecondAnswer.{SecondAnswer}
use Rattle.plain.specs.declared.types.PictureAnswer.{PictureAnswer}
use Rattle.plain.specs.declared.types.DistanceAnswer.{DistanceAnswer}
use Rattle.plain.specs.Given.{no_flag, picture_given}
use Rattle.plain.specs.Answers.{number_answer, second_answer, picture_answer, distance_answer}
use Rattle.host.specs.Unnamed.{then_unnamed}

-- 2 a mode in which nothing is counted; 3 a drop that is no flag
abbrev pub count_rows : ℕ → ℕ → List Cause
count_rows mode drop = then_unnamed (with_counting mode []) (no_flag drop)

-- and else what the call answers, shown as a host has it
abbrev pub counted : {A B : Type 0} → (A → B) → (Refusal → A) → ℕ → ℕ → A → B
counted shown refused mode drop answered = shown (answer refused (count_rows mode drop) answered)

unfoldable pub number_for : ℕ → ℕ → PlainPicture → NumberAnswer
number_for mode drop p = counted number_answer Err mode drop (number_in mode (flag_of drop) (picture_given p))

unfoldable pub in_second_for : ℕ → ℕ → PlainPicture → SecondAnswer
in_second_for mode drop p = counted second_answer Err mode drop (in_second_in mode (flag_of drop) (picture_given p))

unfoldable pub picture_for : ℕ → ℕ → ℕ → PictureAnswer
picture_for mode drop number = counted picture_answer Err mode drop (picture_in mode (flag_of drop) (record { 0 = number }))

unfoldable pub distance_for : ℕ → ℕ → PlainPicture → PlainPicture → DistanceAnswer
distance_for mode drop from to =
    counted distance_answer Err mode drop (span_in mode (flag_of drop) (picture_given from) (picture_given to))

unfoldable pub add_for : ℕ → ℕ → PlainPicture → ℤ → PictureAnswer
add_for mode drop p pictures = counted picture_answer Err mode drop (plus_in mode (flag_of drop) (picture_given p) pictures)
