-- Fields    fields side by side, for every list of widths
pub mod Fields
