-- Private: leads to `folded_directives` and `DirectiveDefinitionCollisionAt`. The directive definitions of two lists, the built-in ones and those of the texts, and the faults of second definitions.
use Rattle.std.specs.Prelude.{◌≡◌, ◌↔◌, ◌⊎◌, List, ◌++◌, map, Contains}
use Rattle.std.specs.Map.{lookup}
use Rattle.std.specs.Option.{option_map_or}
use Rattle.std.specs.Str.{bytes_eq}
use Rattle.graphql_names.specs.Placed.{Placed, Place}
use Rattle.tree_directives.specs.DirectiveTree.{DirectiveDefinitionTree}
use Rattle.schema_components.specs.Lists.{firsts, repeats}
use Rattle.schema_components.specs.Names.{Entries}
use Rattle.schema_fold.specs.NumberedDefinition.{Definitions, directive_name}
use Rattle.schema_fold.specs.BuildErrors.{BuildFault, DirectiveDefinitionCollision, DirectiveDefinitionCollisionAt, BreaksSomewhere}

abbrev pub Directive : Type 0
Directive = Placed Place (DirectiveDefinitionTree Place)

-- the fault of a second definition of a directive
abbrev pub directive_fault : Directive → BuildFault
directive_fault d = record { place = d.place; breach = DirectiveDefinitionCollision (directive_name d) }

abbrev pub directive_faults : List Directive → List BuildFault
directive_faults ds = map directive_fault (repeats directive_name ds)

-- the faults that are added are those of the texts' second definitions of directives
abbrev pub TellsDirectives : Definitions → Definitions → List BuildFault → List BuildFault → Type 0
TellsDirectives built_in texts old new = (f : BuildFault) → Contains new f ↔ (Contains old f ⊎ BreaksSomewhere built_in texts DirectiveDefinitionCollisionAt f)

-- ---- steps

-- the definition under the name of d, or else d
abbrev pub chosen_of : Entries Directive → Directive → Directive
chosen_of own d = option_map_or (λ o. o) (lookup (bytes_eq (directive_name d)) own) d

-- under each name of these definitions, in the order of the first of each, the chosen one
abbrev pub chosen_firsts : Entries Directive → List Directive → Entries Directive
chosen_firsts own ds = map (λ d. (directive_name d, chosen_of own d)) (firsts directive_name ds)

-- if these were the chosen ones of some definitions, they now are those of these followed by `more`
abbrev pub Chooses : Entries Directive → List Directive → Entries Directive → Entries Directive → Type 0
Chooses own more kept kept' = (before : List Directive) → kept ≡ chosen_firsts own before → kept' ≡ chosen_firsts own (before ++ more)
