-- The 23 words: what is written is not refused and reads as it was written, and what is not refused is what is written for what it holds.
-- Assumes nothing.
use Prim.Native.Nat.{ℕ, ◌%◌, ◌^◌, ◌<◌, ◌≤◌}
use mathlib.Core.Path.{◌≡◌, refl, sym, ap, ap₂, ◌∙◌}
use mathlib.Core.Bool.{Bool, true, false, not, ◌||◌}
use mathlib.Core.List.{List, [], ◌∷◌, ◌++◌, append_assoc, map, map-append}
use native.Mathlib.Omega.{arith}
use lib.Dec.{eqb}
use lib.ListN.{length, length-map, take, drop, get_or, length-append, length-drop, take-append-drop, drop_of_length-le}
use lib.Seq.{take_at, drop_at, length-take-le, drop-drop, drop-cons, take-add, take-append-le, drop-append-le, get_or_at}
use borrow.Author.Tests.{eq-eqb, eqb-true, not-false}
use Rattle.refusals.specs.declared.types.Refusal.TheVariants.{ElementTooHigh, LowBitsSet, WrongCheck, WrongSync}
use Rattle.refusals.specs.Answer.{Cause}
use Rattle.refusals.proofs.Answered.{Clear, neither}
use Rattle.refusals.proofs.ByNumber.{clear_at}
use Rattle.bits.specs.Bits.{to_bits, some_above, AllBits}
use Rattle.bits.proofs.Bit.{bits_of_number, length_to_bits, within_append, within_cons, within_drop, within_take}
use Rattle.bits.proofs.Inverse.{value_to_bits, to_bits_value}
use Rattle.runs.proofs.Same.{same_itself, same_elements}
use Rattle.modes.specs.Modes.{high_rate, uncounted}
use Rattle.words.specs.Words.{with_opposite, wrong_word, low_set, some_word, data_words, nibble_in, bit_in, info_in, byte_in, sum9}
use Rattle.words.proofs.Lists.{length_data_words, take_data_words, drop_data_words, shifted, gathered_below}
use Rattle.words.proofs.Data.{AllMade, all_made, all_again, byte_value, carried_all_bits}
use Rattle.packets.specs.Packet.{header, is_headed, checksum_of, carried_of, front_of, packet_with, data_in, type_in, second_in}
use Rattle.packets.specs.Calls.{form_refusals}
use Rattle.packets.proofs.Pieces.{length_carried, length_front, length_packet, checksum_of_front}
use Rattle.atc.proofs.Answers.{size}

-- nine bits and the opposite of b8 are ten bits
ten_bits : (n : ℕ) → with_opposite (n % 512) ≤ 1023
ten_bits n = let low : n % 512 < 512 = omega arith in ten (n % 512) low
  where
    ten : (m : ℕ) → m < 512 → with_opposite m ≤ 1023
    ten m h = omega arith

checksum_small : (words : List ℕ) → checksum_of words ≤ 1023
unfolding checksum_of
checksum_small words = ten_bits (sum9 (take 19 (drop 3 words)))

header_small : (mode : ℕ) → some_above 1023 (header mode) ≡ false
unfolding some_above header
header_small mode = go (high_rate mode) refl
  where
    go : (t : Bool) → high_rate mode ≡ t → some_above 1023 (header mode) ≡ false
    go true t = rw t
    go false t = rw t

length_header : (mode : ℕ) → length (header mode) ≡ 6
unfolding header
length_header mode = refl

module _ (mode info type second : ℕ) where
  abbrev datas : List ℕ
  datas = data_words (carried_of type second) info

  abbrev last : List ℕ
  last = checksum_of (front_of mode info type second) ∷ []

  abbrev packet : List ℕ
  packet = packet_with mode info type second

  -- the packet as header, data words and checksum
  in_parts : packet ≡ header mode ++ (datas ++ last)
  unfolding packet_with front_of
  in_parts = append_assoc (header mode) datas last

  length_datas : length datas ≡ 16
  length_datas = length_data_words (carried_of type second) info ∙ length_carried type second

  after_header : drop 6 packet ≡ datas ++ last
  after_header = ap (drop 6) in_parts ∙ drop_at (header mode) (datas ++ last) 6 (length_header mode)

  headed : is_headed mode packet ≡ true
  unfolding is_headed
  headed = rw (ap (take 6) in_parts ∙ take_at (header mode) (datas ++ last) 6 (length_header mode)) (same_itself (header mode))

  data_again : data_in packet ≡ datas
  data_again = ap (take 16) after_header ∙ take_at datas last 16 length_datas

  first_eight : take 8 (drop 6 packet) ≡ data_words (to_bits 8 type) info
  first_eight =
      ap (take 8) after_header
      ∙ take-append-le 8 datas last (rw length_datas (omega arith))
      ∙ take_data_words 8 (carried_of type second) info
      ∙ ap (λ (bits : List ℕ). data_words bits info) (take_at (to_bits 8 type) (to_bits 8 second) 8 (length_to_bits 8 type))

  next_eight : take 8 (drop 14 packet) ≡ data_words (to_bits 8 second) (shifted 8 info)
  next_eight =
      let rest = data_words (to_bits 8 second) (shifted 8 info) in
      let left : drop 8 datas ≡ rest =
      drop_data_words 8 (carried_of type second) info
      ∙ ap (λ (bits : List ℕ). data_words bits (shifted 8 info)) (drop_at (to_bits 8 type) (to_bits 8 second) 8 (length_to_bits 8 type)) in
      let here : drop 14 packet ≡ rest ++ last =
      sym (drop-drop 8 6 packet) ∙ ap (drop 8) after_header ∙ drop-append-le 8 datas last (rw length_datas (omega arith)) ∙ ap (λ (l : List ℕ). l ++ last) left in
      ap (take 8) here ∙ take_at rest last 8 (length_data_words (to_bits 8 second) (shifted 8 info) ∙ length_to_bits 8 second)

  all_bits : AllBits (carried_of type second)
  all_bits = within_append 1 (to_bits 8 type) (to_bits 8 second) (bits_of_number 8 type) (bits_of_number 8 second)

  every : AllMade (carried_of type second) info datas
  every = all_made (carried_of type second) info all_bits

  small : some_above 1023 packet ≡ false
  unfolding some_above
  small =
      rw in_parts
      (within_append 1023 (header mode) (datas ++ last) (header_small mode)
      (within_append 1023 datas last every.small (within_cons 1023 (checksum_of (front_of mode info type second)) [] (checksum_small (front_of mode info type second)) refl)))

  summed : get_or packet 22 0 ≡ checksum_of packet
  unfolding packet_with
  summed =
      let front = front_of mode info type second in
      get_or_at front (checksum_of front) [] 0 22 (length_front mode info type second) ∙ sym (checksum_of_front front last (length_front mode info type second))

  -- a packet that was written has the form of one
  pub form_clear : uncounted mode ≡ false → Clear (form_refusals mode packet)
  form_clear known =
      let sized : not (eqb (length packet) 23) ≡ false = ap not (eq-eqb (length packet) 23 (length_packet mode info type second)) in
      let begun : not (is_headed mode packet) ≡ false = ap not headed in
      let checked : (some_word wrong_word (data_in packet) || not (eqb (get_or packet 22 0) (checksum_of packet))) ≡ false =
      rw (data_again, every.right, eq-eqb (get_or packet 22 0) (checksum_of packet) summed) in
      let low_clear : some_word low_set (data_in packet) ≡ false = rw data_again every.low_clear in
      (sized, (known, (small, (begun, (checked, (low_clear, tt))))))

  -- and reads as it was written
  pub info_again : info < 2 ^ 64 → info_in (data_in packet) ≡ info
  info_again low = rw data_again (every.info_again (rw (length_carried type second) low))

  pub type_again : type < 256 → type_in packet ≡ type
  type_again low = rw first_eight (all_made (to_bits 8 type) info (bits_of_number 8 type)).byte_again ∙ value_to_bits 8 type low

  pub second_again : second < 256 → second_in packet ≡ second
  second_again low = rw next_eight (all_made (to_bits 8 second) (shifted 8 info) (bits_of_number 8 second)).byte_again ∙ value_to_bits 8 second low

-- eight bits in b3 are those of their byte
eight_bits : (words : List ℕ) → length words ≡ 8 → to_bits 8 (byte_in words) ≡ map bit_in words
eight_bits words eight =
    rw (byte_value words) (rw (length-map words bit_in, eight) at (to_bits_value (map bit_in words) (carried_all_bits words)))

-- words that have the form of a packet are those that are written for what they hold
module _ (mode : ℕ) (words : List ℕ) (clear : Clear (form_refusals mode words)) where
  abbrev rows : List Cause
  rows = form_refusals mode words

  abbrev parts : List ℕ
  parts = data_in words

  abbrev sum : List ℕ
  sum = get_or words 22 0 ∷ []

  pub begins : take 6 words ≡ header mode
  unfolding is_headed
  begins = same_elements (take 6 words) (header mode) (not-false (is_headed mode words) (clear_at WrongSync rows clear))

  five : (some_word wrong_word parts ≡ false) × (get_or words 22 0 ≡ checksum_of words)
  five =
      let tests = neither (some_word wrong_word parts) (not (eqb (get_or words 22 0) (checksum_of words))) (clear_at WrongCheck rows clear) in
      (tests.0, eqb-true (get_or words 22 0) (checksum_of words) (not-false _ tests.1))

  ends : drop 16 (drop 6 words) ≡ sum
  ends =
      let none : drop 23 words ≡ [] = drop_of_length-le words {i = 23} (omega (arith, size mode words clear)) in
      drop-drop 16 6 words ∙ drop-cons words 22 0 (omega (arith, size mode words clear)) ∙ rw none

  in_pieces : words ≡ (header mode ++ parts) ++ sum
  in_pieces =
      sym (take-append-drop 6 words)
      ∙ ap₂ (λ (xs ys : List ℕ). xs ++ ys) begins (sym (take-append-drop 16 (drop 6 words)) ∙ ap (λ (l : List ℕ). parts ++ l) ends)
      ∙ sym (append_assoc (header mode) parts sum)

  after : length (drop 6 words) ≡ 17
  after = length-drop 6 words ∙ rw (size mode words clear)

  carried_again : carried_of (type_in words) (second_in words) ≡ map bit_in parts
  carried_again =
      let later : drop 8 (drop 6 words) ≡ drop 14 words = drop-drop 8 6 words in
      let long : length (drop 14 words) ≡ 9 = length-drop 14 words ∙ rw (size mode words clear) in
      let first = eight_bits (take 8 (drop 6 words)) (length-take-le 8 (drop 6 words) (omega (arith, after))) in
      let next = eight_bits (take 8 (drop 14 words)) (length-take-le 8 (drop 14 words) (omega arith)) in
      ap₂ (λ (xs ys : List ℕ). xs ++ ys) first next
      ∙ sym (map-append bit_in (take 8 (drop 6 words)) (take 8 (drop 14 words)))
      ∙ ap (map bit_in) (sym (take-add 8 8 (drop 6 words) ∙ ap (λ (l : List ℕ). take 8 (drop 6 words) ++ take 8 l) later))

  front_again : front_of mode (info_in parts) (type_in words) (second_in words) ≡ header mode ++ parts
  unfolding front_of
  front_again =
      let within = within_take 1023 16 (drop 6 words) (within_drop 1023 6 words (clear_at ElementTooHigh rows clear)) in
      rw carried_again (ap (λ (l : List ℕ). header mode ++ l) (all_again parts within five.0 (clear_at LowBitsSet rows clear)))

  pub packet_again : packet_with mode (info_in parts) (type_in words) (second_in words) ≡ words
  unfolding packet_with
  packet_again =
      let long : length (header mode ++ parts) ≡ 22 = length-append (header mode) parts ∙ rw (length_header mode, length-take-le 16 (drop 6 words) (omega (arith, after))) in
      let check : checksum_of (header mode ++ parts) ≡ get_or words 22 0 =
      sym (checksum_of_front (header mode ++ parts) sum long) ∙ ap checksum_of (sym in_pieces) ∙ sym five.1 in
      rw (front_again, check) (sym in_pieces)

  pub info_below : info_in parts < 2 ^ 64
  info_below = rw (length-take-le 16 (drop 6 words) (omega (arith, after))) at (gathered_below nibble_in 16 (λ word. omega arith) parts)
