-- The keywords, default root names and directive locations of operation types (GraphQL, October 2021, sections 2.3,
-- 3.3.1 and 3.13).
use Rattle.std.specs.Prelude.{ℕ, List, codes}
use Rattle.tree_directives.specs.declared.operation_type.OperationType.{OperationType}
use Rattle.tree_directives.specs.declared.operation_type.OperationType.TheVariants as operation
use Rattle.tree_directives.specs.declared.directive_location.DirectiveLocation.{DirectiveLocation}
use Rattle.tree_directives.specs.declared.directive_location.DirectiveLocation.TheVariants as location

-- the keyword of an operation
abbrev pub operation_keyword : OperationType → List ℕ
operation_keyword operation.Query = codes "query"
operation_keyword operation.Mutation = codes "mutation"
operation_keyword operation.Subscription = codes "subscription"

-- the default name of the root operation type (section 3.3.1)
abbrev pub default_root_name : OperationType → List ℕ
default_root_name operation.Query = codes "Query"
default_root_name operation.Mutation = codes "Mutation"
default_root_name operation.Subscription = codes "Subscription"

-- the location of directives of an operation
abbrev pub location_of_operation : OperationType → DirectiveLocation
location_of_operation operation.Query = location.Query
location_of_operation operation.Mutation = location.Mutation
location_of_operation operation.Subscription = location.Subscription
