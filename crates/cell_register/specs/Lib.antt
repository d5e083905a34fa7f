pub mod Register
pub mod Sound
pub mod Places
pub mod CellLaws
pub mod Laws
pub mod SoundLaws
