-- What 8, 9 and 10 say of a picture, of a record that a packet is to carry and of the bits that it carries, in the words of document 01's table and of document 02, A4 and A6.
-- Assumes nothing.
use Rattle.std.specs.Prelude.{ℕ, ◌%◌, ◌<◌, ◌≤◌, ◌≡◌, ◌⊎◌}
use Rattle.rates.specs.declared.types.Flag.{Flag}
use Rattle.rates.specs.declared.types.Flag.TheVariants.{Yes}
use Rattle.rates.specs.declared.types.Address.{Address}
use Rattle.rates.specs.Rates.{frames_in_second}
use Rattle.layout.specs.Layout.{bits}
use Rattle.layout.specs.Flags.{flag_at}
use Rattle.record.specs.declared.types.Groups.{Groups}
use Rattle.record.specs.declared.types.Record.{Record}
use Rattle.record.specs.Record.{address_held}
use Rattle.modes.specs.Modes.{rate_at, pictures_at}
use Rattle.demands.specs.Records.{DropAlone}
use Rattle.demands.specs.Families.{column, said_at, AllZero}

-- the modes in which drop may be asked for
abbrev pub Drops : ℕ → Type 0
Drops mode = (mode ≡ 2) ⊎ ((mode ≡ 5) ⊎ (mode ≡ 10))

-- 8: "hour, minute, second, frame outside the clock"
abbrev pub OutsideClock : ℕ → Address → Type 0
OutsideClock mode a = (23 < a.hours) ⊎ ((59 < a.minutes) ⊎ ((59 < a.seconds) ⊎ (frames_in_second (rate_at mode) ≤ a.frames.0)))

-- "in modes 3 to 10 refused by 8 if not below the pictures to an address"
abbrev pub NoPlace : ℕ → ℕ → Type 0
NoPlace mode place = (3 ≤ mode) × (pictures_at mode ≤ place)

-- "in a record, a group above 15"
abbrev pub GroupAbove15 : Groups → Type 0
GroupAbove15 g =
    (15 < g.group1) ⊎ ((15 < g.group2) ⊎ ((15 < g.group3) ⊎ ((15 < g.group4)
    ⊎ ((15 < g.group5) ⊎ ((15 < g.group6) ⊎ ((15 < g.group7) ⊎ (15 < g.group8)))))))

abbrev pub Eight : ℕ → Record → Type 0
Eight mode r = OutsideClock mode r.address ⊎ (GroupAbove15 r.groups ⊎ NoPlace mode r.place)

-- in the bits, "digit above 9 in a units field"; and in modes 6 to 10 the place that the sub-frame bits say
abbrev pub DigitAbove9 : ℕ → Type 0
DigitAbove9 info = (9 < bits 0 3 info) ⊎ ((9 < bits 16 19 info) ⊎ ((9 < bits 32 35 info) ⊎ (9 < bits 48 51 info)))

abbrev pub EightHeld : ℕ → ℕ → Type 0
EightHeld mode info =
    OutsideClock mode (address_held info) ⊎ (DigitAbove9 info ⊎ ((6 ≤ mode) × (pictures_at mode ≤ said_at (column mode).used info)))

-- 9: "drop set, one of the skipped addresses": "frames 00 and 01 are skipped at the start of each minute except minutes 00, 10, 20, 30, 40 and 50"
abbrev pub Skipped : Address → Type 0
Skipped a = (a.frames.0 < 2) × ((a.seconds ≡ 0) × ((a.minutes % 10 ≡ 0) → ⊥))

abbrev pub Nine : ℕ → Flag → Address → Type 0
Nine mode drop a = Drops mode × ((drop ≡ Yes) × Skipped a)

-- 10: "drop asked for" in a mode that has none
abbrev pub DropUnused : ℕ → Flag → Type 0
DropUnused mode drop = (drop ≡ Yes) × (Drops mode → ⊥)

-- "unused bit set (in a record: colour in mode 0)", and in mode 3
abbrev pub ColourUnused : ℕ → Flag → Type 0
ColourUnused mode colour = ((mode ≡ 0) ⊎ (mode ≡ 3)) × (colour ≡ Yes)

-- "in modes 0 to 2 refused by 10 unless it is 0"
abbrev pub PlaceUnused : ℕ → ℕ → Type 0
PlaceUnused mode place = (mode < 3) × (0 < place)

-- of a record, with "colour, mark or a group flag set" in modes 6 to 10
abbrev pub Ten : ℕ → Record → Type 0
Ten mode r =
    DropUnused mode r.flags.drop
    ⊎ (ColourUnused mode r.flags.colour ⊎ (PlaceUnused mode r.place ⊎ ((6 ≤ mode) × (DropAlone r.flags → ⊥))))

-- of the bits, with "Other sub-frame bits" in modes 6 to 10
abbrev pub TenHeld : ℕ → ℕ → Type 0
TenHeld mode info =
    DropUnused mode (flag_at 10 info) ⊎ (ColourUnused mode (flag_at 11 info) ⊎ ((6 ≤ mode) × (AllZero (column mode).zeros info → ⊥)))
