-- Round   the distance from one number to another, and a number plus a signed count, in a day of so many
pub mod Round
