pub mod MeantStandings
pub mod Bridge
pub mod Found
pub mod AtReaches
pub mod OfDocuments
pub mod AddingBroken
pub mod ContentEquality
pub mod NotedNames
pub mod UsedNames
pub mod Selecting
pub mod Walking
pub mod Leveling
pub mod Merging
-- Lists of what rules tell, for the layers above.
pub use Rattle.rule_definitions.proofs.Listing
