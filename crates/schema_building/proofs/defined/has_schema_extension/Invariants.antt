use Rattle.std.proofs.Common.{◌≡◌, drop, map, is_some}
use Rattle.std.specs.List.{list_any}
use Rattle.schema_built_in.specs.in_fold.NumberedDefinition.{definitions_of}
use Rattle.schema_built_in.specs.in_fold.SchemaFold.{schema_extension_here}
use Rattle.schema_built_in.specs.in_fold.ListedView.{listed_view}
use Rattle.schema_building.proofs.defined.has_schema_extension.Given as goal

abbrev pub invariant-loop-listed : goal.invariant-loop-listed
invariant-loop-listed l = list_any (λ d. is_some (schema_extension_here d)) (definitions_of (map listed_view (drop l.listed-index l.list))) ≡ list_any (λ d. is_some (schema_extension_here d)) (definitions_of (map listed_view l.list))
