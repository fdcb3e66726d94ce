pub mod Cut
pub mod Room
pub mod Stack
