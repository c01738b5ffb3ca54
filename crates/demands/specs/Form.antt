-- The form of a packet, whatever it carries, in document 01's words and in those of document 02, A6: what it is to have none of 1 to 6.
-- Assumes nothing.
use Rattle.std.specs.Prelude.{ℕ, ◌≤◌, ◌≡◌, false, List, length, take, get_or}
use Rattle.bits.specs.Bits.{some_above}
use Rattle.words.specs.Words.{wrong_word, low_set, some_word}
use Rattle.packets.specs.Packet.{checksum_of, data_in}
use Rattle.demands.specs.Families.{opening}

pub record Form (mode : ℕ) (words : List ℕ) : Type 0 where
  -- "exactly .. 23 elements", in a mode that is counted, none "above 1,023"
  pub size : length words ≡ 23
  pub counted : mode ≤ 10
  pub small : some_above 1023 words ≡ false
  -- the first six words, by the family
  pub opens : take 6 words ≡ opening mode
  -- "b8 or b9 of a data word, packet checksum word"
  pub right : some_word wrong_word (data_in words) ≡ false
  pub summed : get_or words 22 0 ≡ checksum_of words
  -- "b0 to b2 of a data word not zero"
  pub low_clear : some_word low_set (data_in words) ≡ false
