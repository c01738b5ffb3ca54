-- The loop over the groups of ten, from the last one on: it begins, goes on and ends; what one turn reads and has room for.
-- Assumes nothing.
use Prim.Native.Nat.{ℕ, ◌+◌, ◌-◌, ◌*◌, ◌^◌, ◌≤◌, ◌<◌, min}
use mathlib.Core.Path.{◌≡◌, refl, sym, ap, ◌∙◌}
use mathlib.Core.List.{List, ◌++◌}
use native.Mathlib.Omega.{arith}
use native.Mathlib.Nat.{lt_of_lt_of_le}
use lib.ListN.{length, get_or, take, drop, length-take, length-append, length-drop, take-append-drop}
use lib.Pow.{pow_mono}
use lib.Seq.{get_or-take, get_or-drop, drop-drop, take-take, take_all, take_at, drop_at, ext_get_or}
use borrow.Author.Tests.{le-ltb}
use Rattle.std.specs.Prelude.{Ok, Err}
use Rattle.runs.specs.declared.types.NoNumber.{NoNumber}
use Rattle.bits.specs.Bits.{value, AllBits}
use Rattle.bits.proofs.Bit.{within_take, within_drop}
use Rattle.bits.proofs.Inverse.{value_below}
use Rattle.bits.proofs.Joined.{value_append}
use Rattle.runs.specs.Gather.{gathered_of}
use Rattle.interval.specs.Line.{each, place_of, information_of, info_in}
use Rattle.interval.proofs.Lists.{length_each, get_d_each, within_each, within_at}
use Rattle.vitc.specs.Asked.{BitRun}

-- so many groups are still to come, and the number is that of the bits of those behind them
pub record Groups (line : List ℕ) (number : ℕ) (rest : List ℕ) : Type 0 where
  pub groups : ℕ
  pub within : groups ≤ 8
  pub left : rest ≡ take (10 * groups) line
  pub so_far : number ≡ value (drop (8 * groups) (information_of line))

module _ (line : List ℕ) where
  pub groups_begin : (rest : List ℕ) → rest ≡ take 80 line → Groups line 0 rest
  unfolding each information_of value
  groups_begin rest all = record { groups = 8; within = omega arith; left = all; so_far = refl }

  info_long : length (information_of line) ≡ 64
  unfolding information_of
  info_long = length_each 64 (λ n. get_or line (place_of n) 0)

  info_at : (n : ℕ) → n < 64 → get_or (information_of line) n 0 ≡ get_or line (place_of n) 0
  unfolding information_of
  info_at n h = get_d_each 64 (λ n. get_or line (place_of n) 0) n h

  module _ (all : BitRun 90 line) where
    info_clean : AllBits (information_of line)
    unfolding information_of
    info_clean = within_each 1 64 (λ n. get_or line (place_of n) 0) (λ n. within_at 1 line (place_of n) all.clean)

    module _ (number : ℕ) (rest : List ℕ) (g : Groups line number rest) where
      pub groups_end : length rest ≡ 0 → number ≡ info_in line
      groups_end none =
          let long : length rest ≡ min (10 * g.groups) 90 = rw (g.left, length-take (10 * g.groups) line, all.long) refl in
          let no : g.groups ≡ 0 = omega (arith, none, long, g.within) in
          rw no at g.so_far

      module _
          (before group : List ℕ) (parted : rest ≡ before ++ group) (size : length group ≡ min 10 (length rest)) (some : 0 < length rest) where
        rest_long : length rest ≡ 10 * g.groups
        rest_long = rw (g.left, length-take (10 * g.groups) line, all.long) (omega (arith, g.within))

        abbrev last : ℕ
        last = g.groups - 1

        next : 10 * last + 10 ≡ 10 * g.groups
        next = omega (arith, some, rest_long)

        ten : length group ≡ 10
        ten = omega (arith, size, some, rest_long)

        abbrev info : List ℕ
        info = information_of line

        before_long : length before ≡ 10 * last
        before_long = omega (arith, ap length parted, length-append before group, ten, rest_long, next)

        behind : before ++ group ≡ take (10 * g.groups) line
        behind = sym parted ∙ g.left

        before_is : before ≡ take (10 * last) line
        before_is =
            sym (take_at before group (10 * last) before_long)
            ∙ ap (λ (xs : List ℕ). take (10 * last) xs) behind
            ∙ take-take (10 * last) (10 * g.groups) line (omega (arith, next))

        group_is : group ≡ drop (10 * last) (take (10 * g.groups) line)
        group_is = sym (drop_at before group (10 * last) before_long) ∙ ap (λ (xs : List ℕ). drop (10 * last) xs) behind

        group_at : (i : ℕ) → i < 10 → get_or group i 0 ≡ get_or line (10 * last + i) 0
        group_at i h =
            ap (λ (xs : List ℕ). get_or xs i 0) group_is
            ∙ get_or-drop (10 * last) (take (10 * g.groups) line) i 0
            ∙ get_or-take (10 * g.groups) line (10 * last + i) 0 (omega (arith, next))

        eight : length (drop 2 group) ≡ 8
        eight = rw (length-drop 2 group, ten) refl

        eight_more : length (take 8 (drop (8 * last) info)) ≡ 8
        eight_more = rw (length-take 8 (drop (8 * last) info), length-drop (8 * last) info, info_long) (omega (arith, next, g.within))

        byte_is : drop 2 group ≡ take 8 (drop (8 * last) info)
        byte_is = ext_get_or 0 (drop 2 group) (take 8 (drop (8 * last) info)) (eight ∙ sym eight_more) (λ i h. bit i (rw eight at h))
          where
            bit : (i : ℕ) → i < 8 → get_or (drop 2 group) i 0 ≡ get_or (take 8 (drop (8 * last) info)) i 0
            bit i h =
                let place : 10 * last + (2 + i) ≡ place_of (8 * last + i) = omega arith in
                let here : get_or (drop 2 group) i 0 ≡ get_or line (10 * last + (2 + i)) 0 = get_or-drop 2 group i 0 ∙ group_at (2 + i) (omega arith) in
                let there : get_or (take 8 (drop (8 * last) info)) i 0 ≡ get_or line (place_of (8 * last + i)) 0 =
                get_or-take 8 (drop (8 * last) info) i 0 h ∙ get_or-drop (8 * last) info i 0 ∙ info_at (8 * last + i) (omega (arith, next, g.within)) in
                here ∙ ap (λ (n : ℕ). get_or line n 0) place ∙ sym there

        whole : drop (8 * last) info ≡ drop 2 group ++ drop (8 * g.groups) info
        whole =
            let more : 8 * last + 8 ≡ 8 * g.groups = omega (arith, next) in
            let step : drop 8 (drop (8 * last) info) ≡ drop (8 * g.groups) info = drop-drop 8 (8 * last) info ∙ ap (λ (n : ℕ). drop n info) more in
            rw (byte_is, ← step) (sym (take-append-drop 8 (drop (8 * last) info)))

        sum : 256 * number + value (drop 2 group) ≡ value (drop (8 * last) info)
        sum =
            let joined : value (drop (8 * last) info) ≡ value (drop 2 group) + 2 ^ length (drop 2 group) * value (drop (8 * g.groups) info) =
            ap value whole ∙ value_append (drop 2 group) (drop (8 * g.groups) info) in
            let byte : value (drop (8 * last) info) ≡ value (drop 2 group) + 2 ^ 8 * number = rw (eight, ← g.so_far) at joined in
            omega (arith, byte)

        read : gathered_of (take (length group - 2) (drop 2 group)) ≡ Ok (value (drop 2 group))
        unfolding gathered_of
        read =
            let clean : AllBits (drop 2 group) = rw byte_is (within_take 1 8 (drop (8 * last) info) (within_drop 1 (8 * last) info info_clean)) in
            rw (take_all (length group - 2) (drop 2 group) (omega (arith, eight, ten)), le-ltb 64 (length (drop 2 group)) (omega (arith, eight)), clean) refl

        -- eight bits are never refused
        pub never : (why : NoNumber) → gathered_of (take (length group - 2) (drop 2 group)) ≡ Err why → ⊥
        never why refused = let both : Ok (value (drop 2 group)) ≡ Err why = sym read ∙ refused in (cc)

        module _ (byte : ℕ) (told : gathered_of (take (length group - 2) (drop 2 group)) ≡ Ok byte) where
          byte_of : byte ≡ value (drop 2 group)
          byte_of = let both : Ok (value (drop 2 group)) ≡ Ok byte = sym read ∙ told in (cc)

          pub room : 256 * number + byte < 2 ^ 64
          room =
              let low : value (drop (8 * last) info) < 2 ^ length (drop (8 * last) info) = value_below (drop (8 * last) info) (within_drop 1 (8 * last) info info_clean) in
              let few : length (drop (8 * last) info) ≤ 64 = omega (arith, length-drop (8 * last) info, info_long) in
              rw (byte_of, sum) (lt_of_lt_of_le low (pow_mono few))

          pub turned : Groups line (256 * number + byte) before
          turned = record { groups = last; within = omega (arith, g.within); left = before_is; so_far = rw byte_of sum }
