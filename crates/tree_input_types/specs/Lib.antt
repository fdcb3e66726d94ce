pub mod InputTypeTree
pub mod Printed
