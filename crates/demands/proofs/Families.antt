-- The two families of packets: what `packets` and `superframes` compute from the mode, its rate and its pictures is what the source prints of types, second bytes and sub-frame bits.
-- Assumes nothing.
use Prim.Native.Nat.{ℕ, zero, suc, ◌+◌, ◌*◌, ◌/◌, ◌%◌, ◌^◌, ◌≤◌}
use mathlib.Core.Path.{◌≡◌, refl, sym, ap, ◌∙◌}
use mathlib.Core.Bool.{Bool, true, false, not, ◌&&◌, ◌||◌, cond, true≢false}
use mathlib.Core.Logic.{◌↔◌}
use native.Mathlib.Omega.{arith}
use lib.Dec.{ltb, eqb}
use borrow.Author.Tests.{ltb-true, ltb-false, le-ltb, eqb-true, eq-eqb, ne_eqb, not-false}
use Rattle.refusals.specs.declared.types.Refusal.TheVariants.{ImpossibleLine, MisnamedMode, UnknownType}
use Rattle.runs.proofs.Same.{both_true}
use Rattle.refusals.proofs.Answered.{Clear, neither}
use Rattle.refusals.proofs.ByNumber.{clear_at}
use Rattle.rates.specs.Rates.{is_yes, frames_in_second}
use Rattle.layout.specs.Flags.{flag_of, bit_of}
use Rattle.record.specs.Record.{record_of}
use Rattle.modes.specs.Modes.{high_rate, rate_at, pictures_at}
use Rattle.modes.specs.Calls.{record_in}
use Rattle.modes.proofs.EachMode.{high_exactly}
use Rattle.superframes.specs.SubFrames.{place_in, other_set}
use Rattle.superframes.specs.Named.{misnamed, name_of}
use Rattle.trips.proofs.Records.{bit_of_flag}
use Rattle.packets.specs.Packet.{header, is_unknown_type}
use Rattle.atc.specs.declared.types.Interface.{Interface}
use Rattle.atc.specs.Calls.{payload_refusals}
use Rattle.demands.specs.Table4.{ClaimsImpossibleLine}
use Rattle.demands.specs.Families.{PayloadType, opening, SuperFrame, as_72, as_96, as_100, as_120_at_24, as_120_at_30, Names, frames_72, frames_96, frames_100, frames_24_by_5, frames_30_by_4, NamesMode, column, said_at, AllZero}
use Rattle.demands.proofs.Accepted.{low_exactly}
use Rattle.demands.proofs.LineNumbers.{impossible_exactly, possible}

-- a mode of modes 6 to 10 is one of five
data HighMode : ℕ → Type 0 where
  mode_72 : HighMode 6
  mode_96 : HighMode 7
  mode_100 : HighMode 8
  mode_24x5 : HighMode 9
  mode_30x4 : HighMode 10

high_mode : (mode : ℕ) → 6 ≤ mode → mode ≤ 10 → HighMode mode
high_mode zero more few = absurd (omega arith)
high_mode (suc zero) more few = absurd (omega arith)
high_mode (suc (suc zero)) more few = absurd (omega arith)
high_mode (suc (suc (suc zero))) more few = absurd (omega arith)
high_mode (suc (suc (suc (suc zero)))) more few = absurd (omega arith)
high_mode (suc (suc (suc (suc (suc zero))))) more few = absurd (omega arith)
high_mode (suc (suc (suc (suc (suc (suc zero)))))) more few = mode_72
high_mode (suc (suc (suc (suc (suc (suc (suc zero))))))) more few = mode_96
high_mode (suc (suc (suc (suc (suc (suc (suc (suc zero)))))))) more few = mode_100
high_mode (suc (suc (suc (suc (suc (suc (suc (suc (suc zero))))))))) more few = mode_24x5
high_mode (suc (suc (suc (suc (suc (suc (suc (suc (suc (suc zero)))))))))) more few = mode_30x4
high_mode (suc (suc (suc (suc (suc (suc (suc (suc (suc (suc (suc mode))))))))))) more few = absurd (omega arith)

-- "Table 1 - Super-frame counts": the rows of the table of modes are those that the source prints
table_1 : {mode : ℕ} → HighMode mode → SuperFrame mode (frames_in_second (rate_at mode)) (pictures_at mode)
unfolding rate_at pictures_at
table_1 mode_72 = as_72
table_1 mode_96 = as_96
table_1 mode_100 = as_100
table_1 mode_24x5 = as_120_at_24
table_1 mode_30x4 = as_120_at_30

pub as_table_1 : (mode : ℕ) → 6 ≤ mode → mode ≤ 10 → SuperFrame mode (frames_in_second (rate_at mode)) (pictures_at mode)
as_table_1 mode more few = table_1 (high_mode mode more few)

-- the first six words that are computed are those that the documents print
pub opens : (mode : ℕ) → mode ≤ 10 → header mode ≡ opening mode
unfolding header
opens mode few = go (ltb mode 6) refl
  where
    go : (t : Bool) → ltb mode 6 ≡ t → header mode ≡ opening mode
    go true t = let low = ltb-true mode 6 t in let line : mode ≤ 5 = omega arith in rw (t, (low_exactly mode few).1 line)
    go false t = let more = ltb-false mode 6 t in rw (t, (high_exactly mode).1 (more, few))

-- the byte that is computed for a mode is the one that the source prints
own_name : {mode : ℕ} → HighMode mode → Names mode (name_of (rate_at mode) (pictures_at mode))
unfolding rate_at pictures_at
own_name mode_72 = frames_72
own_name mode_96 = frames_96
own_name mode_100 = frames_100
own_name mode_24x5 = frames_24_by_5
own_name mode_30x4 = frames_30_by_4

named : (mode : ℕ) → 6 ≤ mode → mode ≤ 10 → Names mode (name_of (rate_at mode) (pictures_at mode))
named mode more few = own_name (high_mode mode more few)

-- and no other
name_is : (mode second : ℕ) → Names mode second → second ≡ name_of (rate_at mode) (pictures_at mode)
unfolding rate_at pictures_at
name_is _ _ frames_72 = refl
name_is _ _ frames_96 = refl
name_is _ _ frames_100 = refl
name_is _ _ frames_24_by_5 = refl
name_is _ _ frames_30_by_4 = refl

-- "80 to 8F hex"
sixteenth : (n : ℕ) → 0x80 ≤ n → n ≤ 0x8F → n / 16 ≡ 8
sixteenth n more less = omega arith

module _ (mode : ℕ) (few : mode ≤ 10) where
  -- 23 applies exactly where the mode is to be named and is not
  pub misnamed_exactly : (second : ℕ) → (misnamed mode second ≡ true) ↔ ((6 ≤ mode) × (Names mode second → ⊥))
  unfolding misnamed
  misnamed_exactly second = (there, back)
    where
      there : (high_rate mode && not (eqb second (name_of (rate_at mode) (pictures_at mode)))) ≡ true → (6 ≤ mode) × (Names mode second → ⊥)
      there e =
          let both = both_true (high_rate mode) (not (eqb second (name_of (rate_at mode) (pictures_at mode)))) e in
          (((high_exactly mode).0 both.0).0, λ names. true≢false (sym both.1 ∙ ap not (eq-eqb second _ (name_is mode second names))))

      back : (6 ≤ mode) × (Names mode second → ⊥) → (high_rate mode && not (eqb second (name_of (rate_at mode) (pictures_at mode)))) ≡ true
      back other =
          let high = (high_exactly mode).1 (other.0, few) in
          let own = named mode other.0 few in
          rw (high, ne_eqb second (name_of (rate_at mode) (pictures_at mode)) (λ same. other.1 (rw same own)))

  pub named_exactly : (second : ℕ) → (misnamed mode second ≡ false) ↔ NamesMode mode second
  unfolding misnamed
  named_exactly second = (there, back)
    where
      there : (high_rate mode && not (eqb second (name_of (rate_at mode) (pictures_at mode)))) ≡ false → NamesMode mode second
      there e more =
          let high = (high_exactly mode).1 (more, few) in
          let same = eqb-true second (name_of (rate_at mode) (pictures_at mode)) (not-false _ (rw high at e)) in
          rw same (named mode more few)

      back : NamesMode mode second → (high_rate mode && not (eqb second (name_of (rate_at mode) (pictures_at mode)))) ≡ false
      back names = go (high_rate mode) refl
        where
          go : (t : Bool) → high_rate mode ≡ t → (t && not (eqb second (name_of (rate_at mode) (pictures_at mode)))) ≡ false
          go true t = rw (eq-eqb second (name_of (rate_at mode) (pictures_at mode)) (name_is mode second (names ((high_exactly mode).0 t).0)))
          go false t = refl

  -- 7 does not apply exactly where the type is one of the mode's family
  pub type_exactly : (type : ℕ) → (is_unknown_type mode type ≡ false) ↔ PayloadType mode type
  type_exactly type = go (high_rate mode) refl
    where
      go : (t : Bool) → high_rate mode ≡ t → (cond t (not (eqb (type / 16) 8)) (ltb 2 type) ≡ false) ↔ PayloadType mode type
      go true t =
          let high = ((high_exactly mode).0 t).0 in (
            λ e.
                (let eight : type / 16 ≡ 8 = eqb-true (type / 16) 8 (not-false _ e) in
                record { low = λ low. absurd (omega arith); high = λ more. (omega arith, omega arith) }),
            λ typed.
                (let is = typed.high high in
                let eight : type / 16 ≡ 8 = sixteenth type is.0 is.1 in
                ap not (eq-eqb (type / 16) 8 eight)),
          )
      go false t =
          let low = (low_exactly mode few).0 t in (
            λ e. record { low = λ line. ltb-false 2 type e; high = λ more. absurd (omega arith) },
            λ typed. le-ltb 2 type (typed.low low),
          )

  -- none of 7, 19 and 23 applies exactly where the type is of the family, no line is claimed that can't be, and the mode is named
  pub payload_exactly :
      (interface : Interface) (type second : ℕ)
      → Clear (payload_refusals mode interface type second)
      ↔ (PayloadType mode type × (ClaimsImpossibleLine interface type second → ⊥) × NamesMode mode second)
  payload_exactly interface type second = (
    λ clear.
        (let rows = payload_refusals mode interface type second in (
          (type_exactly type).0 (clear_at UnknownType rows clear),
          λ claims. true≢false (sym ((impossible_exactly interface type second).1 claims) ∙ clear_at ImpossibleLine rows clear),
          (named_exactly second).0 (clear_at MisnamedMode rows clear),
        )),
    λ ok. ((type_exactly type).1 ok.0, (possible interface type second ok.1, ((named_exactly second).1 ok.2, tt))),
  )

-- a flag that stands at a bit is set exactly where the bit is
set_exactly : (n : ℕ) → (is_yes (flag_of (n % 2)) ≡ false) ↔ (n % 2 ≡ 0)
set_exactly n = go (n % 2)
  where
    go : (b : ℕ) → (is_yes (flag_of b) ≡ false) ↔ (b ≡ 0)
    go zero = (λ e. refl, λ e. refl)
    go (suc b) = (λ e. absurd (true≢false e), λ e. absurd (omega arith))

-- three bits as a number, of which the upper two or all three are used
module _ (a b c : ℕ) where
  two_said : (4 * bit_of (flag_of (a % 2)) + (2 * bit_of (flag_of (b % 2)) + bit_of (flag_of (c % 2)))) / 2 ≡ 2 * (a % 2) + (1 * (b % 2) + 0)
  two_said = rw (bit_of_flag a, bit_of_flag b, bit_of_flag c) (omega arith)

  three_said : 4 * bit_of (flag_of (a % 2)) + (2 * bit_of (flag_of (b % 2)) + bit_of (flag_of (c % 2))) ≡ 4 * (a % 2) + (2 * (b % 2) + (1 * (c % 2) + 0))
  three_said = rw (bit_of_flag a, bit_of_flag b, bit_of_flag c) (omega arith)

  two_unset : ((is_yes (flag_of (a % 2)) || is_yes (flag_of (b % 2))) ≡ false) ↔ ((a % 2 ≡ 0) × (b % 2 ≡ 0))
  two_unset = (
    λ e. (let both = neither (is_yes (flag_of (a % 2))) _ e in ((set_exactly a).0 both.0, (set_exactly b).0 both.1)),
    λ none. rw ((set_exactly a).1 none.0) ((set_exactly b).1 none.1),
  )

none_unset : (a b c : ℕ) → ((is_yes (flag_of (a % 2)) || (is_yes (flag_of (b % 2)) || is_yes (flag_of (c % 2)))) ≡ false) ↔ ((a % 2 ≡ 0) × ((b % 2 ≡ 0) × (c % 2 ≡ 0)))
none_unset a b c = (
  λ e. (let both = neither (is_yes (flag_of (a % 2))) _ e in ((set_exactly a).0 both.0, (two_unset b c 0).0 both.1)),
  λ none. rw ((set_exactly a).1 none.0) ((two_unset b c 0).1 none.1),
)

-- "For 30x4, 24x5, 96 and 72: sub-frame 1 at bit 27, 2 at 11, and 3 at 43, used only by 24x5; for 100: 1 at 59, 2 at 11": the place is the number at the bits that Table 2 prints
said_by : {mode : ℕ} → HighMode mode → (info : ℕ) → place_in (pictures_at mode) (record_in mode info).flags ≡ said_at (column mode).used info
unfolding rate_at pictures_at record_of
said_by mode_72 info = two_said (info / 2 ^ 27) (info / 2 ^ 11) (info / 2 ^ 43)
said_by mode_96 info = two_said (info / 2 ^ 27) (info / 2 ^ 11) (info / 2 ^ 43)
said_by mode_100 info = two_said (info / 2 ^ 59) (info / 2 ^ 11) (info / 2 ^ 27)
said_by mode_24x5 info = three_said (info / 2 ^ 27) (info / 2 ^ 11) (info / 2 ^ 43)
said_by mode_30x4 info = two_said (info / 2 ^ 27) (info / 2 ^ 11) (info / 2 ^ 43)

pub said_as_printed : (mode : ℕ) → 6 ≤ mode → mode ≤ 10 → (info : ℕ) → place_in (pictures_at mode) (record_in mode info).flags ≡ said_at (column mode).used info
said_as_printed mode more few = said_by (high_mode mode more few)

-- "Other sub-frame bits must be zero": and those that it says shall be zero are
three_zeros : (a b c : ℕ) → ((is_yes (flag_of (a % 2)) || (is_yes (flag_of (b % 2)) || is_yes (flag_of (c % 2)))) ≡ false) ↔ ((a % 2 ≡ 0) × ((b % 2 ≡ 0) × ((c % 2 ≡ 0) × Unit {0})))
three_zeros a b c =
    let unset = none_unset a b c in
    (λ e. (let is = unset.0 e in (is.0, (is.1.0, (is.1.1, tt)))), λ zeros. unset.1 (zeros.0, (zeros.1.0, zeros.1.1.0)))

turned_zeros : (a b c : ℕ) → ((is_yes (flag_of (a % 2)) || (is_yes (flag_of (b % 2)) || is_yes (flag_of (c % 2)))) ≡ false) ↔ ((a % 2 ≡ 0) × ((c % 2 ≡ 0) × ((b % 2 ≡ 0) × Unit {0})))
turned_zeros a b c =
    let unset = none_unset a b c in
    (λ e. (let is = unset.0 e in (is.0, (is.1.1, (is.1.0, tt)))), λ zeros. unset.1 (zeros.0, (zeros.1.1.0, zeros.1.0)))

two_zeros : (a b : ℕ) → ((is_yes (flag_of (a % 2)) || is_yes (flag_of (b % 2))) ≡ false) ↔ ((a % 2 ≡ 0) × ((b % 2 ≡ 0) × Unit {0}))
two_zeros a b =
    let unset = two_unset a b 0 in
    (λ e. (let is = unset.0 e in (is.0, (is.1, tt))), λ zeros. unset.1 (zeros.0, zeros.1.0))

zeros_by : {mode : ℕ} → HighMode mode → (info : ℕ) → (other_set (pictures_at mode) (record_in mode info).flags ≡ false) ↔ AllZero (column mode).zeros info
unfolding rate_at pictures_at record_of
zeros_by mode_72 info = three_zeros (info / 2 ^ 43) (info / 2 ^ 58) (info / 2 ^ 59)
zeros_by mode_96 info = three_zeros (info / 2 ^ 43) (info / 2 ^ 58) (info / 2 ^ 59)
zeros_by mode_100 info = turned_zeros (info / 2 ^ 27) (info / 2 ^ 58) (info / 2 ^ 43)
zeros_by mode_24x5 info = two_zeros (info / 2 ^ 58) (info / 2 ^ 59)
zeros_by mode_30x4 info = three_zeros (info / 2 ^ 43) (info / 2 ^ 58) (info / 2 ^ 59)

pub zeros_as_printed :
    (mode : ℕ) → 6 ≤ mode → mode ≤ 10 → (info : ℕ) → (other_set (pictures_at mode) (record_in mode info).flags ≡ false) ↔ AllZero (column mode).zeros info
zeros_as_printed mode more few = zeros_by (high_mode mode more few)
