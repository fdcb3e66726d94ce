pub mod Spans
pub mod Names
pub mod Alike
pub mod Told
pub mod Under
pub mod Gathered
