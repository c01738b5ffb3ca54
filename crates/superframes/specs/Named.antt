-- The second byte of a packet in modes 6 to 10, which names the mode: source document 003 (ST 12-3), section 9.2.2. docs/SECOND-BYTE.md has the byte for each mode.
-- Assumes nothing.
use Rattle.std.specs.Prelude.{ℕ, ◌+◌, ◌*◌, Bool, not, ◌&&◌, eqb}
use Rattle.rates.specs.declared.types.Rate.{Rate}
use Rattle.rates.specs.Rates.{by_rate}
use Rattle.modes.specs.Modes.{rate_at, pictures_at, high_rate}

-- "Bits b6 and b5 shall be used to identify the frame count of the super-frame": 0 0 is 24 frames, 0 1 is 25, 1 0 is 30
abbrev pub count_bits : Rate → ℕ
count_bits rate = by_rate rate 0 1 2

-- "Bit b7 is reserved and shall be set to zero .. Bits b4 through b0 shall be used to identify the value of 'N'"
abbrev pub name_of : Rate → ℕ → ℕ
name_of rate pictures = 32 * count_bits rate + pictures

-- A6: "A second byte that doesn't name the mode given": other modes ask for no name
unfoldable pub misnamed : ℕ → ℕ → Bool
misnamed mode second = high_rate mode && not (eqb second (name_of (rate_at mode) (pictures_at mode)))
