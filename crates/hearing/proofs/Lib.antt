-- OneByOne  the library's bits in the opposite order
-- Passed    what is not accepted backward is passed over
-- Upper     what is heard forward in a reader's register
-- Lower     what is heard backward in it
-- Synced    where the sync word does not stand as it does in a word, nothing is heard
pub mod OneByOne
pub mod Passed
pub mod Upper
pub mod Lower
pub mod Synced
