-- What the iterators over origins and roots have still to yield.
use Rattle.std.specs.Prelude.{List, [], ◌∷◌, ◌++◌, ◌==◌, if◌then◌else◌, Option, option_to_list}
use Rattle.std.specs.List.{list_any}
use Rattle.std.specs.Option.{option_map}
use Rattle.std.specs.Borrow.{Bor}
use Rattle.schema_components.specs.in_operations.in_directives.declared.operation_type.OperationType.{OperationType}
use Rattle.schema_components.specs.in_operations.in_directives.declared.operation_type.OperationType.TheVariants as operation
use Rattle.schema_components.specs.Given.{number_of}
use Rattle.schema_components.specs.declared.extension.ExtensionId.{ExtensionId}
use Rattle.schema_components.specs.declared.component.ComponentOrigin.{ComponentOrigin}
use Rattle.schema_components.specs.declared.component.ComponentOrigin.TheVariants.{Definition, Extension}
use Rattle.schema_components.specs.declared.component_name.ComponentName.{ComponentName}
use Rattle.schema_types.specs.Origins.{origins_of}
use Rattle.schema_types.specs.declared.origins.Origins.{Origins}
use Rattle.schema_types.specs.declared.roots.RootOperations.{RootOperations}
use Rattle.schema_types.specs.declared.schema_definition.SchemaDefinition.{SchemaDefinition}

abbrev pub left_origins : Origins → List ComponentOrigin
left_origins o = origins_of o.directives.now o.query o.mutation o.subscription o.names.now o.fields.now o.values.now o.inputs.now

-- the noted extensions, with that of the origin, if it is one that is not noted yet
abbrev pub noted : List ExtensionId → ComponentOrigin → List ExtensionId
noted ids Definition = ids
noted ids (Extension id) = if list_any (λ e. number_of id == number_of e) ids then ids else ids ++ id ∷ []

-- a root and its operation
abbrev pub root_of : OperationType → Option ComponentName → List (OperationType × ComponentName)
root_of operation root = option_to_list (option_map (λ c. (operation, c)) root)

-- the roots of a schema definition, in the order query, mutation, subscription
abbrev pub roots_in : SchemaDefinition → List (OperationType × ComponentName)
roots_in s = root_of operation.Query s.query ++ (root_of operation.Mutation s.mutation ++ root_of operation.Subscription s.subscription)

abbrev pub lent_root : OperationType × Bor ComponentName → OperationType × ComponentName
lent_root r = (r.0, r.1.now)

abbrev pub lent : Option (Bor ComponentName) → Option ComponentName
lent root = option_map (λ c. c.now) root

abbrev pub left_roots : RootOperations → List (OperationType × ComponentName)
left_roots r = root_of operation.Query (lent r.query) ++ (root_of operation.Mutation (lent r.mutation) ++ root_of operation.Subscription (lent r.subscription))
