-- SubFrames  the place of a picture in its super-frame, and the sub-frame bits that say it
-- Named      the second byte that names a mode
-- Calls      what each call answers, refusals in the table's order
pub mod SubFrames
pub mod Named
pub mod Calls
-- Bare       a step of the calls: the record without drop and sub-frame 2
pub mod Bare
