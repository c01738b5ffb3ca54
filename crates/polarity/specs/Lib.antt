-- Word      the 80 bits of a linear word: the sync word, the zeros, the polarity bit, corrected or not
-- Heard     what 64 information bits are heard as, once the sync word has been seen
pub mod Word
pub mod Heard
-- Numbers   what was found as a number
pub mod Numbers
