pub mod Answered
pub mod RuleRead
pub mod Marked
