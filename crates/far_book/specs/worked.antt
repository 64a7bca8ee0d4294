pub mod JobCalls
pub mod JobRows
