pub mod Scripts
pub mod ScriptCalls
pub mod ScriptPollers
