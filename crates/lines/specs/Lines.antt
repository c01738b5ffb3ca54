-- "Each answer's line is the bits so far, the address (colon before the frames when drop is 0) and groups 1 to 8 in upper-case hex; or
-- the bits so far, the word refused and the number."
-- Assumes nothing.
use Rattle.std.specs.Prelude.{ℕ, List, [], ◌∷◌, ◌++◌}
use Rattle.refusals.specs.Table.{number}
use Rattle.record.specs.declared.types.Record.{Record}
use Rattle.hearing.specs.declared.types.Heard.{Heard}
use Rattle.hearing.specs.declared.types.Heard.TheVariants.{Nothing, Accepted, Refused}
use Rattle.text.specs.Ascii.{line_feed, space}
use Rattle.text.specs.Numerals.{decimal}
use Rattle.figures.specs.Figures.{address_text, groups_text}

-- refused, letter by letter
abbrev pub the_word_refused : List ℕ
the_word_refused = 114 ∷ 101 ∷ 102 ∷ 117 ∷ 115 ∷ 101 ∷ 100 ∷ []

-- end, letter by letter
abbrev pub the_word_end : List ℕ
the_word_end = 101 ∷ 110 ∷ 100 ∷ []

-- a word, a number and the line feed
abbrev pub numbered : List ℕ → ℕ → List ℕ
numbered word number = word ++ (decimal number ++ (line_feed ∷ []))

-- what follows the bits so far, up to the line feed
unfoldable pub accepted_text : Record → List ℕ
accepted_text r = (space ∷ address_text r) ++ ((space ∷ groups_text r.groups) ++ (line_feed ∷ []))

unfoldable pub refused_text : ℕ → List ℕ
refused_text number = (space ∷ the_word_refused) ++ ((space ∷ decimal number) ++ (line_feed ∷ []))

-- where nothing is answered there is no line
unfoldable pub line_of : ℕ → Heard → List ℕ
line_of bits Nothing = []
line_of bits (Accepted report) = decimal bits ++ accepted_text report.«record»
line_of bits (Refused refusal) = decimal bits ++ refused_text (number refusal)

-- the last line: the word end and the bits so far
unfoldable pub end_line_of : ℕ → List ℕ
end_line_of bits = the_word_end ++ ((space ∷ decimal bits) ++ (line_feed ∷ []))
