pub mod FoundEvents
