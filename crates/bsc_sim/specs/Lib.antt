pub mod Answering
pub mod Bsc
pub mod Choices
pub mod Conversation
pub mod Indications
pub mod Keys
