-- The 23 words from their pieces: header, data words, checksum.
-- Assumes nothing.
use Prim.Native.Nat.{ℕ, ◌+◌, ◌*◌, ◌%◌, ◌<◌}
use mathlib.Core.Path.{◌≡◌, sym, ap, ◌∙◌}
use mathlib.Core.List.{List, [], ◌∷◌, ◌++◌}
use native.Mathlib.Omega.{arith}
use lib.ListN.{length, take, drop, set, length-append, length-drop, drop_of_length-le}
use lib.Seq.{length-take-le, take_at, take-append-le, drop-append-le, set_split}
use borrow.Rule.Slice.PartMut.{put_mid}
use Rattle.bits.specs.Bits.{to_bits}
use Rattle.bits.proofs.Bit.{length_to_bits}
use Rattle.bits.proofs.Joined.{to_bits_append}
use Rattle.runs.specs.Run.{placed}
use Rattle.runs.proofs.Parts.{put_is_placed}
use Rattle.words.specs.Words.{with_opposite, data_words, sum9}
use Rattle.words.proofs.Lists.{length_data_words}
use Rattle.packets.specs.Packet.{header, checksum_of, carried_of, front_of, packet_with}

-- sixteen bits are the type's eight and the second byte's eight
pub carried_bits : (type second : ℕ) → type < 256 → to_bits 16 (type + 256 * second) ≡ carried_of type second
carried_bits type second low = to_bits_append 8 8 type second low

pub length_carried : (type second : ℕ) → length (carried_of type second) ≡ 16
length_carried type second = length-append (to_bits 8 type) (to_bits 8 second) ∙ rw (length_to_bits 8 type, length_to_bits 8 second)

pub length_front : (mode info type second : ℕ) → length (front_of mode info type second) ≡ 22
unfolding front_of header
length_front mode info type second =
    length-append (header mode) (data_words (carried_of type second) info) ∙ rw (length_data_words (carried_of type second) info, length_carried type second)

pub length_packet : (mode info type second : ℕ) → length (packet_with mode info type second) ≡ 23
unfolding packet_with
length_packet mode info type second =
    length-append (front_of mode info type second) (checksum_of (front_of mode info type second) ∷ []) ∙ rw (length_front mode info type second)

-- the checksum is of the first 22 words, whatever stands after them
pub checksum_of_front : (front rest : List ℕ) → length front ≡ 22 → checksum_of (front ++ rest) ≡ checksum_of front
unfolding checksum_of
checksum_of_front front rest long =
    let three : drop 3 (front ++ rest) ≡ drop 3 front ++ rest = drop-append-le 3 front rest (omega arith) in
    let all : take 19 (drop 3 front ++ rest) ≡ take 19 (drop 3 front) =
    take-append-le 19 (drop 3 front) rest (rw length-drop (omega arith)) in
    rw (three, all)

-- what is left of a run of 23 after its header and its data words
left_of : ℕ → List ℕ → List ℕ
left_of mode run = drop 22 (header mode ++ drop 6 run)

module _ (mode : ℕ) (run : List ℕ) (size : length run ≡ 23) where
  one_left : length (left_of mode run) ≡ 1
  unfolding left_of header
  one_left = rw (length-drop, length-append, length-drop, size)

  sixteen : length (take 16 (drop 6 (header mode ++ drop 6 run))) ≡ 16
  unfolding header
  sixteen = length-take-le 16 (drop 6 run) (rw (length-drop, size) (omega arith))

  placed_after : (info type second : ℕ) → placed 6 (data_words (carried_of type second) info) (header mode ++ drop 6 run) ≡ front_of mode info type second ++ left_of mode run
  unfolding placed front_of header left_of
  placed_after info type second = rw (length_data_words (carried_of type second) info, length_carried type second)

-- such a run with its header and its data words stored, and then its checksum
module _
    (mode : ℕ) (run head part : List ℕ) (info type second : ℕ) (size : length run ≡ 23) (low : type < 256) (headed : head ≡ header mode)
    (stored : part ≡ data_words (to_bits (length (take 16 (drop 6 (head ++ drop 6 run)))) (type + 256 * second)) info) where
  begun : put_mid 6 16 (head ++ drop 6 run) part ≡ front_of mode info type second ++ left_of mode run
  begun =
      let words : part ≡ data_words (carried_of type second) info = stored ∙ rw (headed, sixteen mode run size, carried_bits type second low) in
      let long = length_data_words (carried_of type second) info ∙ length_carried type second in
      rw (headed, words)
      (put_is_placed 6 (data_words (carried_of type second) info) (header mode ++ drop 6 run) 16 long ∙ placed_after mode run size info type second)

  module _ (sum : ℕ) (summed : sum ≡ with_opposite (sum9 (take 19 (drop 3 (put_mid 6 16 (head ++ drop 6 run) part))) % 512)) where
    whole_sum : sum ≡ checksum_of (front_of mode info type second ++ left_of mode run)
    unfolding checksum_of
    whole_sum = rw begun at summed

    pub finished : set (put_mid 6 16 (head ++ drop 6 run) part) 22 sum ≡ packet_with mode info type second
    unfolding packet_with
    finished =
        let front = front_of mode info type second in
        let long : length front ≡ 22 = length_front mode info type second in
        let all : length (front ++ left_of mode run) ≡ 23 = length-append front (left_of mode run) ∙ rw (long, one_left mode run size) in
        let none : drop 23 (front ++ left_of mode run) ≡ [] = drop_of_length-le (front ++ left_of mode run) {i = 23} (omega arith) in
        let check : sum ≡ checksum_of front = whole_sum ∙ checksum_of_front front (left_of mode run) long in
        rw (begun, check) (set_split (front ++ left_of mode run) 22 (checksum_of front) (omega arith) ∙ rw (take_at front (left_of mode run) 22 long, none))

    pub as_long : length (set (put_mid 6 16 (head ++ drop 6 run) part) 22 sum) ≡ length run
    as_long = ap length finished ∙ length_packet mode info type second ∙ sym size
