-- Rules on the variables of an operation (GraphQL, October 2021, section 5.8).
use Rattle.std.specs.Prelude.{◌≡◌, true, false, [], None, ◌⊎◌}
use Rattle.tree_literals.specs.TypeTree.{unplaced_type}
use Rattle.tree_directives.specs.declared.directive_location.DirectiveLocation.TheVariants as location
use Rattle.rule_definitions.specs.in_schema_types.SchemaTree.{kind_words, is_input_kind}
use Rattle.spec_document.specs.MeantTree.{MeantOperation, MeantDocument}
use Rattle.rule_definitions.specs.Diagnostics.{UndefinedDefinition, UniqueVariable, VariableInputType, UnusedVariable}
use Rattle.rule_definitions.specs.Words.{Present, AtSomeIndex, Repeats}
use Rattle.rule_definitions.specs.Faults.{FaultAt, wrong}
use Rattle.rule_definitions.specs.Judged.{Judged}
use Rattle.rule_definitions.specs.Names.{defined_name}
use Rattle.rule_definitions.specs.GivenValues.{wanted_name}
use Rattle.rule_definitions.specs.Values.{UniqueInputValueIn, ValueBreaks}
use Rattle.rule_definitions.specs.Uses.{UsesBreak}
use Rattle.rule_document_definitions.specs.Places.{Places}
use Rattle.rule_document_definitions.specs.UsedVariables.{IsUsedIn, wanted_by}

-- ---- rules that need no schema

module _ {P E : Type 0} (o : MeantOperation P) (fault : FaultAt P E) where
  -- UniqueVariable: an operation is valid only if its variables differ in name (section 5.8.1)
  abbrev pub UniqueVariableAt : Type 0
  UniqueVariableAt = Repeats defined_name o.variables (λ i first j later.
      fault ≡ wrong later.place (UniqueVariable (defined_name later) first.place later.place))

  -- UniqueInputValue: the keys of an object in a default differ (section 5.6.3)
  abbrev pub UniqueDefaultKeyAt : Type 0
  UniqueDefaultKeyAt = AtSomeIndex o.variables (λ i x. Present x.it.default_value (λ v. UniqueInputValueIn v.it fault))

  -- UnusedVariable: a variable is valid only if it is used (section 5.8.4)
  abbrev pub UnusedVariableAt : Places P → MeantDocument P → Type 0
  UnusedVariableAt places d = AtSomeIndex o.variables (λ i x. (IsUsedIn (defined_name x) d o → ⊥) × ((head : P) × (
      places.Spans x.place x.it.name.place head × (fault ≡ wrong head (UnusedVariable (defined_name x))))))

-- ---- rules under a schema

module _ {P E : Type 0} (s : Judged) (o : MeantOperation P) (fault : FaultAt P E) where
  -- UndefinedDefinition: a variable is valid only if its type is defined (section 5.8.2)
  abbrev pub UndefinedVariableTypeAt : Type 0
  UndefinedVariableTypeAt = AtSomeIndex o.variables (λ i x.
      (s.type_named (wanted_name (wanted_by x.it)) ≡ None) × (fault ≡ wrong x.place (UndefinedDefinition (wanted_name (wanted_by x.it)))))

  -- VariableInputType: a variable is valid only if its type is an input type (section 5.8.2)
  abbrev pub VariableInputTypeAt : Type 0
  VariableInputTypeAt = AtSomeIndex o.variables (λ i x. Present (s.type_named (wanted_name (wanted_by x.it))) (λ t.
      (is_input_kind t.kind ≡ false) × (fault ≡ wrong x.place (VariableInputType (defined_name x) (unplaced_type x.it.ty.it) (kind_words t.kind)))))

  -- a rule on values is broken by a default, judged against the variable's type, if that is an input type (section 5.6.1); a default has no
  -- variables
  abbrev pub DefaultValueBreaks : Places P → Type 0
  DefaultValueBreaks places = AtSomeIndex o.variables (λ i x.
      Present (s.type_named (wanted_name (wanted_by x.it))) (λ t. is_input_kind t.kind ≡ true)
      × Present x.it.default_value (λ v. ValueBreaks places.at s [] (wanted_by x.it) v.place v.it fault))

  -- a rule on the use of directives is broken by those of a variable (section 5.7)
  abbrev pub VariableDirectivesBreak : Places P → Type 0
  VariableDirectivesBreak places = AtSomeIndex o.variables (λ i x. UsesBreak places.at s [] location.VariableDefinition x.it.directives fault)

-- a rule on variables is broken, with this fault
abbrev pub VariablesBreak : {P E : Type 0} → Places P → Judged → MeantDocument P → MeantOperation P → FaultAt P E → Type 0
VariablesBreak places s d o fault =
    UniqueVariableAt o fault ⊎ (UniqueDefaultKeyAt o fault ⊎ (UnusedVariableAt o fault places d
    ⊎ (UndefinedVariableTypeAt s o fault ⊎ (VariableInputTypeAt s o fault
    ⊎ (DefaultValueBreaks s o fault places ⊎ VariableDirectivesBreak s o fault places)))))
