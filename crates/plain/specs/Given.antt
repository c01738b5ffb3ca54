-- What a host's numbers stand for. "what C can hand over and our types can't is turned away, not trusted": which numbers stand for nothing is said here too.
-- Assumes nothing.
use Rattle.std.specs.Prelude.{ℕ, zero, suc, Bool, ◌||◌, ltb}
use Rattle.rates.specs.Face.{showing}
use Rattle.layout.specs.Flags.{flag_of}
use Rattle.pictures.specs.declared.types.Picture.{Picture}
use Rattle.pictures.specs.Pictures.{picture}
use Rattle.record.specs.declared.types.Flags.{Flags}
use Rattle.record.specs.declared.types.Groups.{Groups}
use Rattle.record.specs.declared.types.Record.{Record}
use Rattle.polarity.specs.declared.types.Found.{Found}
use Rattle.polarity.specs.declared.types.Found.TheVariants.{Corrected, Uncorrected}
use Rattle.atc.specs.declared.types.Interface.{Interface}
use Rattle.atc.specs.declared.types.Interface.TheVariants.{Lines525, Lines625, HighDefinition}
use Rattle.register.specs.declared.types.Ways.{Ways}
use Rattle.register.specs.declared.types.Ways.TheVariants.{ForwardOnly, Both}
use Rattle.register.specs.declared.types.Reader.{Reader}
use Rattle.plain.specs.declared.types.PlainPicture.{PlainPicture}
use Rattle.plain.specs.declared.types.PlainRecord.{PlainRecord}
use Rattle.plain.specs.declared.types.PlainReader.{PlainReader}

-- the picture of these numbers
abbrev pub picture_given : PlainPicture → Picture
picture_given p = picture (showing p.hours p.minutes p.seconds p.frames) p.place

-- the record of these numbers, each flag 0 for no
unfoldable pub flags_given : PlainRecord → Flags
flags_given r =
    record { drop = flag_of r.drop; colour = flag_of r.colour; mark = flag_of r.mark; bgf0 = flag_of r.bgf0; bgf1 = flag_of r.bgf1; bgf2 = flag_of r.bgf2 }

unfoldable pub groups_given : PlainRecord → Groups
groups_given r =
    record { group1 = r.group1; group2 = r.group2; group3 = r.group3; group4 = r.group4; group5 = r.group5; group6 = r.group6; group7 = r.group7; group8 = r.group8 }

unfoldable pub record_given : PlainRecord → Record
record_given r =
    record { address = showing r.hours r.minutes r.seconds r.frames; flags = flags_given r; groups = groups_given r; place = r.place }

-- "a flag byte above 1"
abbrev pub no_flag : ℕ → Bool
no_flag byte = ltb 1 byte

unfoldable pub flag_above_1 : PlainRecord → Bool
flag_above_1 r = no_flag r.drop || (no_flag r.colour || (no_flag r.mark || (no_flag r.bgf0 || (no_flag r.bgf1 || no_flag r.bgf2))))

-- "an interface, way or make that is none of those": 0 for 525 lines, 1 for 625, 2 for high definition; 0 for corrected, 1 for uncorrected; 0 for forward only, 1 for both ways
abbrev pub no_interface : ℕ → Bool
no_interface byte = ltb 2 byte

abbrev pub interface_given : ℕ → Interface
interface_given zero = Lines525
interface_given (suc zero) = Lines625
interface_given (suc (suc n)) = HighDefinition

abbrev pub no_make : ℕ → Bool
no_make byte = ltb 1 byte

abbrev pub make_given : ℕ → Found
make_given zero = Corrected
make_given (suc n) = Uncorrected

abbrev pub no_ways : ℕ → Bool
no_ways byte = ltb 1 byte

abbrev pub ways_given : ℕ → Ways
ways_given zero = ForwardOnly
ways_given (suc n) = Both

-- the reader of these numbers
abbrev pub reader_given : PlainReader → Reader
reader_given r = record { mode = r.mode; ways = ways_given r.ways; held = r.held; info = r.info; sync = r.sync }
