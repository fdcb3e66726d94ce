pub mod DocumentBreaches
pub mod DocumentBreachView
pub mod FaultView
pub mod DocumentMessages
pub mod DocumentWords
