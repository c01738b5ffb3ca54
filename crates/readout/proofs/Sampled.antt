-- The word of document 01 and its two lines, computed from the definitions.
-- Assumes nothing.
use mathlib.Core.Path.{◌≡◌, refl}
use mathlib.Core.List.{◌++◌}
use Rattle.bits.specs.Bits.{value, to_bits, some_above, how_many}
use Rattle.runs.specs.Run.{same}
use Rattle.record.specs.Record.{record_of}
use Rattle.modes.specs.Modes.{unknown, rate_at}
use Rattle.polarity.specs.Word.{sync_word, odd_zeros}
use Rattle.ltc.specs.Calls.{read_of}
use Rattle.register.specs.Held.{reader_with, unreached}
use Rattle.hearing.specs.Window.{forward_in, backward_in, heard_in}
use Rattle.reader.specs.Steps.{stepped_of}
use Rattle.following.specs.Reach.{fed, answers}
use Rattle.text.specs.Numerals.{decimal_within, hex_digit}
use Rattle.figures.specs.Figures.{address_text, groups_text}
use Rattle.lines.specs.Lines.{accepted_text, line_of, end_line_of}
use Rattle.characters.specs.Characters.{bits_in, goes_on}
use Rattle.scribe.specs.Told.{fresh_scribe, lines_of, text_of, scribe_after}
use Rattle.readout.specs.Sample.{the_word, the_two_lines}

pub two_lines : text_of fresh_scribe the_word ++ end_line_of (scribe_after fresh_scribe the_word).bits ≡ the_two_lines
unfolding the_word the_two_lines value to_bits some_above how_many same sync_word odd_zeros record_of read_of reader_with unreached forward_in backward_in heard_in stepped_of fed answers decimal_within hex_digit address_text groups_text accepted_text line_of end_line_of bits_in goes_on lines_of scribe_after unknown rate_at
two_lines = refl
