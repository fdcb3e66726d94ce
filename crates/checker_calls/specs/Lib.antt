pub mod TextSources
pub mod Unread
pub mod Added
pub mod TextsView
pub mod TellsOnly
pub mod Devices
pub mod ReadFaults
pub mod Parts
pub mod ExitStatus
pub mod Refusals
pub mod Layouts
pub mod Program
pub mod ReadSettings
pub use Rattle.verdict_definitions.specs.in_faults as in_faults
pub use Rattle.verdict_definitions.specs.in_schema as in_schema
pub use Rattle.verdict_definitions.specs as in_verdict_definitions
