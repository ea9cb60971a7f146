-- The numbers tell the answers apart; sums and bounds of counts.
pub mod Inverse
pub mod Sums
