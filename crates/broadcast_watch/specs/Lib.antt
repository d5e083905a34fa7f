pub mod Airings
pub mod Judging
pub mod Periods
pub mod Silences
pub mod Spells
pub mod Versions
