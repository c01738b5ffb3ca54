-- Shifting the register is pushing onto the list.
-- Assumes nothing.
use Prim.Native.Nat.{ℕ, zero, suc, ◌+◌, ◌-◌, ◌*◌, ◌/◌, ◌%◌, ◌^◌, ◌<◌, min}
use mathlib.Core.Path.{◌≡◌, sym, ap, ◌∙◌}
use mathlib.Core.Bool.{false}
use mathlib.Core.List.{List, [], ◌∷◌, ◌++◌, append_assoc}
use native.Mathlib.Omega.{arith}
use lib.ListN.{length, take, drop, replicate, length-append, length-drop}
use lib.Seq.{take_at, drop_at, drop-append-le}
use Rattle.bits.specs.Bits.{value, to_bits}
use Rattle.bits.proofs.Bit.{length_to_bits}
use Rattle.bits.proofs.Inverse.{value_to_bits}
use Rattle.bits.proofs.Joined.{shifted}
use Rattle.register.specs.declared.types.Reader.{Reader}
use Rattle.register.specs.Held.{register, held_bits, latest, push, padded, reader_with, unreached}
use Rattle.register.proofs.Registers.{few, held_length, padded_held}

-- the numbers of a reader are those of its register
module _ (r : Reader) (low : r.info < 2 ^ 64) (high : r.sync < 2 ^ 16) where
  info_of_register : value (take 64 (register r)) ≡ r.info
  info_of_register = rw (take_at (to_bits 64 r.info) (to_bits 16 r.sync) 64 (length_to_bits 64 r.info)) (value_to_bits 64 r.info low)

  sync_of_register : value (drop 64 (register r)) ≡ r.sync
  sync_of_register = rw (drop_at (to_bits 64 r.info) (to_bits 16 r.sync) 64 (length_to_bits 64 r.info)) (value_to_bits 16 r.sync high)

-- the register with one bit more: it enters at the top, and the oldest leaves at the bottom
abbrev pub shifted_to : Reader → ℕ → ℕ → Reader
shifted_to reader bit held =
    record {
      mode = reader.mode;
      ways = reader.ways;
      held = held;
      info = reader.info / 2 + 2 ^ 63 * (reader.sync % 2);
      sync = reader.sync / 2 + 2 ^ 15 * bit;
    }

abbrev shifted_in : Reader → ℕ → Reader
shifted_in reader bit = shifted_to reader bit (min (reader.held + 1) 80)

pub latest_length : (bits : List ℕ) → length (latest bits) ≡ min (length bits) 80
latest_length bits = length-drop (length bits - 80) bits ∙ omega arith

-- up to 80 bits, a list with a bit more has one more; from then on the oldest goes
module _ (bits : List ℕ) (bit : ℕ) where
  longer : length (bits ++ (bit ∷ [])) ≡ length bits + 1
  longer = length-append bits (bit ∷ [])

  pub push_length : length (push bits bit) ≡ min (length bits + 1) 80
  push_length = latest_length (bits ++ (bit ∷ [])) ∙ rw longer

  pub push_grows : length bits < 80 → push bits bit ≡ bits ++ (bit ∷ [])
  push_grows h = let none : length (bits ++ (bit ∷ [])) - 80 ≡ 0 = rw longer (omega arith) in rw none

  pub push_full : length bits ≡ 80 → push bits bit ≡ drop 1 bits ++ (bit ∷ [])
  push_full h =
      let one : length (bits ++ (bit ∷ [])) - 80 ≡ 1 = rw (longer, h) in
      rw one (drop-append-le 1 bits (bit ∷ []) (omega arith))

-- a register with a bit more, zeros below the bits that are held
pushed_padded : (k : ℕ) (bits : List ℕ) (bit : ℕ) → length bits + k ≡ 80 → drop 1 (replicate k 0 ++ bits) ++ (bit ∷ []) ≡ padded (push bits bit)
pushed_padded zero bits bit e =
    let none : 80 - length (push bits bit) ≡ 0 = rw (push_length bits bit) (omega arith) in
    rw none (sym (push_full bits bit (omega arith)))
pushed_padded (suc k) bits bit e =
    let less : 80 - length (push bits bit) ≡ k = rw (push_length bits bit) (omega arith) in
    rw (less, push_grows bits bit (omega arith)) (append_assoc (replicate k 0) bits (bit ∷ []))

module _ (r : Reader) (low : r.info < 2 ^ 64) (high : r.sync < 2 ^ 16) (passes : unreached r ≡ false) (bit : ℕ) (small : bit < 2) where
  next_low : (shifted_in r bit).info < 2 ^ 64
  next_low = omega arith

  next_high : (shifted_in r bit).sync < 2 ^ 16
  next_high = omega arith

  next_register : register (shifted_in r bit) ≡ padded (push (held_bits r) bit)
  next_register =
      let size = held_length r low high passes in
      let whole = padded_held r low high passes in
      let within = few r low high passes in
      shifted 63 15 r.info r.sync bit low high small
      ∙ ap (λ (l : List ℕ). drop 1 l ++ (bit ∷ [])) (sym whole)
      ∙ pushed_padded (80 - length (held_bits r)) (held_bits r) bit (rw size (omega arith))

  pub shifted_is_pushed : shifted_in r bit ≡ reader_with r.mode r.ways (push (held_bits r) bit)
  unfolding reader_with
  shifted_is_pushed =
      let n = shifted_in r bit in
      let size = held_length r low high passes in
      let within = few r low high passes in
      let held : n.held ≡ length (push (held_bits r) bit) = sym (push_length (held_bits r) bit ∙ rw size) in
      let info : n.info ≡ value (take 64 (padded (push (held_bits r) bit))) = sym (info_of_register n next_low next_high) ∙ ap (λ (l : List ℕ). value (take 64 l)) next_register in
      let sync : n.sync ≡ value (drop 64 (padded (push (held_bits r) bit))) = sym (sync_of_register n next_low next_high) ∙ ap (λ (l : List ℕ). value (drop 64 l)) next_register in
      λ i. record { mode = r.mode; ways = r.ways; held = held i; info = info i; sync = sync i }
