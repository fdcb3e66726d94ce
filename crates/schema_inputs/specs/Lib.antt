pub mod Firsts
pub mod Inputs
