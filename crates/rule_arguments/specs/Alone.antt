-- Rules on arguments and on the use of directives that need neither a schema nor variables (GraphQL, October 2021, sections 5.4.2, 5.6.3 and 5.7.1).
use Rattle.std.specs.Prelude.{◌≡◌, ◌⊎◌}
use Rattle.graphql_names.specs.Placed.{Placed, Place}
use Rattle.tree_directives.specs.DirectiveTree.{Arguments, DirectiveTree, Directives}
use Rattle.rule_values.specs.in_rule_definitions.Diagnostics.{UniqueArgument, UndefinedDirective}
use Rattle.rule_values.specs.in_rule_definitions.Faults.{wrong}
use Rattle.rule_values.specs.in_rule_definitions.Words.{AtSomeIndex, Repeats}
use Rattle.rule_values.specs.in_rule_definitions.Values.{UniqueInputValueIn}
use Rattle.rule_values.specs.in_rule_definitions.Names.{argument_name, directive_name}
use Rattle.rule_values.specs.in_rule_definitions.PlacedFaults.{PlacedFault}

-- a key is given twice in the value of an argument
abbrev pub KeysBreak : Arguments Place → PlacedFault → Type 0
KeysBreak given fault = AtSomeIndex given (λ i a. UniqueInputValueIn a.it.value.it fault)

-- an argument is given twice, or a key in the value of one
abbrev pub ArgumentsBreak : Arguments Place → PlacedFault → Type 0
ArgumentsBreak given fault =
    Repeats argument_name given (λ i first j later. fault ≡ wrong later.place (UniqueArgument (argument_name later) first.place later.place))
    ⊎ KeysBreak given fault

-- the arguments of a directive break those rules, or the directive is undefined, as each is without a schema
abbrev pub DirectiveAloneBreaks : Placed Place (DirectiveTree Place) → PlacedFault → Type 0
DirectiveAloneBreaks d fault = ArgumentsBreak d.it.arguments fault ⊎ (fault ≡ wrong d.place (UndefinedDirective (directive_name d)))

-- the same for one of the directives that are used
abbrev pub DirectivesAloneBreak : Directives Place → PlacedFault → Type 0
DirectivesAloneBreak ds fault = AtSomeIndex ds (λ i d. DirectiveAloneBreaks d fault)
