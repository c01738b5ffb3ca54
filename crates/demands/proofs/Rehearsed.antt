-- The bars that document 01 marks P, one table under one claim, and those of document 02, A4 and A6, two others: computed from the definitions that the calls promise.
-- Assumes nothing.
use mathlib.Core.Path.{refl}
use Rattle.bits.specs.Bits.{value, to_bits, how_many, some_above}
use Rattle.runs.specs.Run.{placed, same}
use Rattle.round.specs.Round.{distance_of, sum_of}
use Rattle.clock.specs.Counting.{count_of, address_at}
use Rattle.pictures.specs.Calls.{number_of, in_second_of, picture_of, fields_of, span_of, plus_of}
use Rattle.layout.specs.Layout.{join, layout}
use Rattle.record.specs.Record.{record_of as record_of_bits, fields_of as fields_of_record, info_of}
use Rattle.modes.specs.Modes.{unknown, uncounted, high_rate, rate_at, pictures_at}
use Rattle.superframes.specs.Named.{misnamed}
use Rattle.modes.specs.Calls.{number_in, in_second_in, picture_in, fields_in, span_in, plus_in}
use Rattle.polarity.specs.Word.{sync_word, odd_zeros, word_of}
use Rattle.ltc.specs.Calls as ltc
use Rattle.interval.specs.Line.{each, ones_from, groups, payload, crc_of, line_with}
use Rattle.vitc.specs.Calls as vitc
use Rattle.words.specs.Words.{data_word, data_words, some_word, gathered, sum9}
use Rattle.packets.specs.Packet.{header, is_headed, checksum_of, front_of, packet_with}
use Rattle.atc.specs.Lines.{lacks_entry}
use Rattle.atc.specs.Calls as atc
use Rattle.demands.specs.Bars.{bars, pair_bars, high_bars, ones_among, packed, Rehearsed}

pub rehearsed : Rehearsed bars
unfolding bars ones_among packed number_in picture_in fields_in span_in number_of picture_of fields_of span_of value to_bits how_many placed join layout fields_of_record info_of sync_word odd_zeros word_of each ones_from groups payload crc_of line_with vitc.line_of data_words data_word sum9 header checksum_of front_of packet_with count_of distance_of ltc.run_of ltc.written_rows lacks_entry misnamed atc.run_of unknown uncounted high_rate rate_at pictures_at
rehearsed = refl

-- and those of document 02, A4
pub pairs_rehearsed : Rehearsed pair_bars
unfolding pair_bars ones_among number_in in_second_in picture_in number_of in_second_of picture_of count_of address_at value to_bits how_many placed join layout fields_of_record info_of each ones_from groups payload crc_of line_with vitc.line_of data_words data_word sum9 header checksum_of front_of packet_with lacks_entry misnamed atc.run_of unknown uncounted high_rate rate_at pictures_at
pairs_rehearsed = refl

-- and those of A6
pub high_rates_rehearsed : Rehearsed high_bars
unfolding high_bars ones_among number_in in_second_in picture_in number_of in_second_of picture_of count_of address_at value to_bits how_many placed join layout fields_of_record info_of each ones_from groups payload crc_of line_with vitc.line_of data_words data_word sum9 header checksum_of front_of packet_with lacks_entry misnamed atc.run_of unknown uncounted high_rate rate_at pictures_at vitc.written_of ltc.written_of ltc.written_rows atc.written_of span_in plus_in fields_in span_of plus_of fields_of distance_of sum_of atc.read_of is_headed some_above same some_word gathered record_of_bits
high_rates_rehearsed = refl
