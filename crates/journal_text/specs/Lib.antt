pub mod Texts
pub mod Sayable
pub mod Reading
pub mod Laws
