pub mod Reply
pub mod ReplyWords
pub mod Stream
