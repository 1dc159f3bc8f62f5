-- The laws.
pub mod AskLaws
pub mod RefusalLaws
