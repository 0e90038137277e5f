pub mod sys
pub mod Signals
pub mod Lending
