-- Questions about directives and their arguments (GraphQL, October 2021, sections 2.6, 2.12, 3.6.1, 3.13, 5.4).
use Rattle.std.specs.Prelude.{ℕ, List, Bool, true, false, ◌&&◌, is_none, Option, None, Some, Result, Ok, Err, find, bytes_eq}
use Rattle.std.specs.Borrow.{Bor}
use Rattle.std.specs.Option.{option_map, option_copied}
use Rattle.tree_literals.specs.in_names.declared.node.Node.{Node}
use Rattle.tree_literals.specs.in_names.Placed.{Placed, Place, node_tree}
use Rattle.tree_literals.specs.ValueTree.{ValueTree, value_tree}
use Rattle.tree_directives.specs.DirectiveTree.{ArgumentTree, Arguments, DirectiveTree, InputValueTree, InputValues, directive_definition_tree}
use Rattle.tree_literals.specs.TypeQueries.{has_mark}
use Rattle.tree_literals.specs.declared.value.Value.{Value}
use Rattle.tree_directives.specs.declared.directive.DirectiveDefinition.{DirectiveDefinition}
use Rattle.tree_directives.specs.declared.argument_error.ArgumentByNameError.{ArgumentByNameError}
use Rattle.tree_directives.specs.declared.argument_error.ArgumentByNameError.TheVariants.{UndefinedDirective, NoSuchArgument, RequiredArgumentNotSpecified}

module _ {P : Type 0} where
  -- whether the name of a directive, an argument, or an argument's definition is this text
  abbrev pub directive_has_name : List ℕ → Placed P (DirectiveTree P) → Bool
  directive_has_name name d = bytes_eq d.it.name.it name

  abbrev pub argument_has_name : List ℕ → Placed P (ArgumentTree P) → Bool
  argument_has_name name a = bytes_eq a.it.name.it name

  abbrev pub input_value_has_name : List ℕ → Placed P (InputValueTree P) → Bool
  input_value_has_name name v = bytes_eq v.it.name.it name

  -- whether a value has to be given: the type is non-null, and there is no default (section 5.4.2.1)
  abbrev pub is_required_input : InputValueTree P → Bool
  is_required_input v = has_mark v.ty.it && is_none v.default_value

  -- the value that is given for the argument of this name, if one is
  abbrev pub given_value : List ℕ → Arguments P → Option (Placed P (ValueTree P))
  given_value name as' = option_map (λ a. a.it.value) (find (argument_has_name name) as')

  -- the value if none is given: the default; else none if the type is nullable, and an error if it is not
  abbrev pub default_or_null : Option (Placed P (ValueTree P)) → Bool → Result (Option (Placed P (ValueTree P))) ArgumentByNameError
  default_or_null (Some value) non_null = Ok (Some value)
  default_or_null None true = Err RequiredArgumentNotSpecified
  default_or_null None false = Ok None

  -- the same, from the argument's definition, if there is one
  abbrev pub value_by_definition : Option (Placed P (InputValueTree P)) → Result (Option (Placed P (ValueTree P))) ArgumentByNameError
  value_by_definition None = Err NoSuchArgument
  value_by_definition (Some v) = default_or_null v.it.default_value (has_mark v.it.ty.it)

  -- the same, from the definitions of all arguments, if they are known
  abbrev pub value_by_definitions : List ℕ → Option (InputValues P) → Result (Option (Placed P (ValueTree P))) ArgumentByNameError
  value_by_definitions name None = Err UndefinedDirective
  value_by_definitions name (Some definitions) = value_by_definition (find (input_value_has_name name) definitions)

  -- the value of an argument: the given one, whatever the definitions are; else the value from the definitions
  abbrev pub argument_value : Option (Placed P (ValueTree P)) → List ℕ → Option (InputValues P) → Result (Option (Placed P (ValueTree P))) ArgumentByNameError
  argument_value (Some value) name definitions = Ok (Some value)
  argument_value None name definitions = value_by_definitions name definitions

  -- the value of the argument of this name, from the arguments given and the definitions of all arguments, if they are known
  abbrev pub named_argument_value : List ℕ → Arguments P → Option (InputValues P) → Result (Option (Placed P (ValueTree P))) ArgumentByNameError
  named_argument_value name given definitions = argument_value (given_value name given) name definitions

-- the definitions of a directive's arguments, if its definition is known
abbrev pub defined_arguments : Option DirectiveDefinition → Option (InputValues Place)
defined_arguments definition = option_map (λ d. (directive_definition_tree d).arguments) definition

-- the answer of a call that lends a value, as a tree
abbrev pub lent_value : Result (Option (Bor (Node Value))) ArgumentByNameError → Result (Option (Placed Place (ValueTree Place))) ArgumentByNameError
lent_value (Ok value) = Ok (option_map (node_tree value_tree) (option_copied value))
lent_value (Err error) = Err error
