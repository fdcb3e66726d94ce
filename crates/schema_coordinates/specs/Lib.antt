pub mod Coordinate
pub mod CoordinateView
pub mod Reading
pub mod ParseErrors
