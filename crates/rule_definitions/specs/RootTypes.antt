-- The root types of a schema (GraphQL, October 2021, section 3.3.1).
use Rattle.std.specs.Prelude.{ℕ, List, [], ◌∷◌, map, Option, option_to_list, flat_map}
use Rattle.tree_directives.specs.declared.operation_type.OperationType.{OperationType}
use Rattle.tree_directives.specs.declared.operation_type.OperationType.TheVariants as operation
use Rattle.schema_types.specs.Plain.{PlainRoots}

-- the root type of an operation
abbrev pub root_type_of : PlainRoots → OperationType → Option (List ℕ)
root_type_of roots operation.Query = roots.query
root_type_of roots operation.Mutation = roots.mutation
root_type_of roots operation.Subscription = roots.subscription

-- the roots that are defined, in the order query, mutation, subscription
abbrev pub root_types_in : PlainRoots → List (OperationType × List ℕ)
root_types_in roots = flat_map (λ o. map (λ n. (o, n)) (option_to_list (root_type_of roots o))) (operation.Query ∷ operation.Mutation ∷ operation.Subscription ∷ [])
