pub mod Steps
mod Found
mod Numbered
mod Pairs
mod SomeIndex
mod DefaultsTold
mod Silent
