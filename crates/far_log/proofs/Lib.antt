pub mod BadLaws
pub mod ConvertLaws
pub mod Members
pub mod Padding
pub mod SpanLaws
pub mod WalkLaws
