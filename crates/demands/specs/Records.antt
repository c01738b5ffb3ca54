-- The records that can be carried: "hour, minute, second, frame" that the clock shows, a picture of that address, no unused bit set, groups up to 15; and which picture a
-- word, a line or a packet shows.
-- Assumes nothing.
use Rattle.std.specs.Prelude.{ℕ, ◌≤◌, ◌≡◌, false, ◌⊎◌}
use Rattle.rates.specs.declared.types.Flag.TheVariants.{No}
use Rattle.rates.specs.Rates.{is_yes, frames_in_second}
use Rattle.layout.specs.Flags.{bit_of}
use Rattle.record.specs.declared.types.Flags.{Flags}
use Rattle.pictures.specs.Pictures.{picture}
use Rattle.pictures.specs.Steps.{picture_shown}
use Rattle.record.specs.declared.types.Record.{Record}
use Rattle.record.specs.Record.{group_above_15}
use Rattle.modes.specs.Modes.{rate_at, pictures_at}
use Rattle.demands.specs.Modes.{CountingMode}

-- no flag but drop is set
pub record DropAlone (f : Flags) : Type 0 where
  pub colour : f.colour ≡ No
  pub mark : f.mark ≡ No
  pub bgf0 : f.bgf0 ≡ No
  pub bgf1 : f.bgf1 ≡ No
  pub bgf2 : f.bgf2 ≡ No

pub record Acceptable (mode : ℕ) (r : Record) : Type 0 where
  -- its mode and drop count
  pub counts : CountingMode mode r.flags.drop
  -- the clock, so many pictures from midnight, shows its address at its place
  pub steps : ℕ
  pub shows : picture_shown (frames_in_second (rate_at mode)) (pictures_at mode) (is_yes r.flags.drop) steps ≡ picture r.address r.place
  -- the colour frame bit is unused at 24, and so at 48
  pub colourless : (mode ≡ 0) ⊎ (mode ≡ 3) → r.flags.colour ≡ No
  -- A6, of modes 6 to 10: "A record with colour, mark or a group flag set is refused by 10 there"
  pub plain : 6 ≤ mode → DropAlone r.flags
  pub groups : group_above_15 r.groups ≡ false

-- A6: "LTC and VITC refuse them by 2": what is acceptable on the linear track and the interval line
abbrev pub OnLines : ℕ → Record → Type 0
OnLines mode r = (mode ≤ 5) × Acceptable mode r

-- "LTC has one word for each pair, .. which reads as its first picture": no other picture is carried there
abbrev pub FirstPicture : Record → Type 0
FirstPicture r = r.place ≡ 0

-- "In VITC and ATC the mark is 0 on the first of a pair and 1 on the second": in modes 3 to 5 it says the place
abbrev pub MarkSays : ℕ → Record → Type 0
MarkSays mode r = 3 ≤ mode → mode ≤ 5 → r.place ≡ bit_of r.flags.mark

-- a "packet of type 1 or 2" by its mark; "type 0 keeps the mark unread"; in modes 6 to 10 by its sub-frame bits, which say every place that there is
pub record PacketShows (mode type : ℕ) (r : Record) : Type 0 where
  pub first : mode ≤ 5 → type ≡ 0 → FirstPicture r
  pub by_mark : (type ≡ 0 → ⊥) → MarkSays mode r
