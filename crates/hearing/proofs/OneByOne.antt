-- The library's bits in the opposite order are the reversed bit list's.
-- Assumes nothing.
use Prim.Native.Nat.{ℕ, zero, suc, ◌+◌, ◌*◌, ◌/◌, ◌%◌}
use mathlib.Core.Path.{◌≡◌, refl, ◌∙◌, ap}
use mathlib.Core.List.{List, [], ◌∷◌, reverse, reverse_aux}
use native.Mathlib.Omega.{arith}
use Rattle.std.specs.Int.{reverse_bits_onto}
use Rattle.bits.specs.Bits.{value, to_bits}

-- bits turned round one at a time: the last that was taken stands first
turned_onto : (places left : ℕ) (taken : List ℕ) → reverse_bits_onto places left (value taken) ≡ value (reverse_aux (to_bits places left) taken)
unfolding reverse_bits_onto to_bits value
turned_onto zero left taken = refl
turned_onto (suc places) left taken =
    let next : value taken * 2 + left % 2 ≡ left % 2 + 2 * value taken = omega arith in
    ap (reverse_bits_onto places (left / 2)) next ∙ turned_onto places (left / 2) (left % 2 ∷ taken)

pub turned_list : (number : ℕ) → reverse_bits_onto 64 number 0 ≡ value (reverse (to_bits 64 number))
unfolding value
turned_list number = turned_onto 64 number []
