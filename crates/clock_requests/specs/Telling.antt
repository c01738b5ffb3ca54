-- What each call may tell: what it is asked for, or what it is refused with.
-- Assumes nothing.
use Rattle.refusals.specs.declared.types.Refusal.{Refusal}
use Rattle.std.specs.Prelude.{Bool, true, false, Ok, Err, Result}
use Rattle.clock_requests.specs.declared.types.Call.{Call}
use Rattle.clock_requests.specs.declared.types.Call.TheVariants as call
use Rattle.clock_requests.specs.declared.types.Told.{Told}
use Rattle.clock_requests.specs.declared.types.Told.TheVariants.{Number, Frames, At}

abbrev pub number_told : Result Told Refusal → Bool
number_told (Ok (Number n)) = true
number_told (Ok (Frames n)) = false
number_told (Ok (At p)) = false
number_told (Err r) = true

abbrev pub span_told : Result Told Refusal → Bool
span_told (Ok (Number n)) = false
span_told (Ok (Frames n)) = true
span_told (Ok (At p)) = false
span_told (Err r) = true

abbrev pub picture_told : Result Told Refusal → Bool
picture_told (Ok (Number n)) = false
picture_told (Ok (Frames n)) = false
picture_told (Ok (At p)) = true
picture_told (Err r) = true

abbrev pub may_tell : Call → Result Told Refusal → Bool
may_tell call.Number = number_told
may_tell call.InSecond = number_told
may_tell call.Address = picture_told
may_tell call.Distance = span_told
may_tell call.Add = picture_told
may_tell call.Fields = picture_told
may_tell call.KindNumber = picture_told
may_tell call.KindFields = picture_told
may_tell call.PairNumber = picture_told
may_tell call.PairFields = picture_told
may_tell call.HighNumber = picture_told
may_tell call.HighFields = picture_told
