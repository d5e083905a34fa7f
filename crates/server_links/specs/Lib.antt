pub mod WriteReplies
