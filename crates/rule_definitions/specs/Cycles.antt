-- Definitions that lead back to themselves, and the bound on references (GraphQL, October 2021, sections 3.10 and 3.13). A way is a path of
-- references from a name, as `rule_cycle_search` defines it.
use Rattle.std.specs.Prelude.{◌≡◌, ℕ, ◌<◌, Bool, true, false, List, ◌∷◌, codes, reverse, length, count_by, filter_map, is_some, Option, None, Some, ◌⊎◌}
use Rattle.graphql_names.specs.Placed.{Placed, Text}
use Rattle.tree_literals.specs.TypeTree.{NonNullNamedTree}
use Rattle.tree_directives.specs.DirectiveTree.{DirectiveTree, InputValueTree}
use Rattle.schema_types.specs.Addresses.{Address, TypeAt, ValueAt, InputAt, DirectiveDefinitionAt, ArgumentAt, DirectiveAt}
use Rattle.schema_types.specs.declared.type_kind.TypeKind.TheVariants as kind
use Rattle.rule_cycle_search.specs.Paths.{Leads, IsWay, HasNoRepeat}
use Rattle.rule_definitions.specs.Diagnostics.{RecursiveInputObjectDefinition, RecursiveDirectiveDefinition, DeeplyNestedType}
use Rattle.rule_definitions.specs.Words.{Present, Somewhere, AtSomeIndex}
use Rattle.rule_definitions.specs.Spots.{Spot, At, HeadAt}
use Rattle.rule_definitions.specs.Faults.{SchemaFault, wrong}
use Rattle.rule_definitions.specs.Judged.{Judged, applied_directives}
use Rattle.rule_definitions.specs.Names.{named_in}
use Rattle.rule_definitions.specs.Things.{Thing, ADirective, AType}

-- the greatest number of directives, or of types, on a path
abbrev pub reference_bound : ℕ
reference_bound = 32

-- a node that refers, with its spot
abbrev pub Referring : Type 0 → Type 0
Referring A = Placed Spot A

abbrev pub is_a_directive : Thing → Bool
is_a_directive (ADirective n) = true
is_a_directive (AType n) = false

abbrev pub is_a_type : Thing → Bool
is_a_type (ADirective n) = false
is_a_type (AType n) = true

module _ (s : Judged) where
  -- ---- input objects

  -- an input object refers to another by a field of type `Name!`
  abbrev pub RefersToInput : List ℕ → Referring (InputValueTree (Unit {0})) → List ℕ → Type 0
  RefersToInput n by to = Present (s.type_named n) (λ t. (t.kind ≡ kind.InputObject) × (Somewhere t.input (λ m v.
      (by ≡ record { it = v; place = At (InputAt n m) }) × ((name : Text (Unit {0})) × ((v.ty.it ≡ NonNullNamedTree name) × (name.it ≡ to))))
      × Present (s.type_named to) (λ u. u.kind ≡ kind.InputObject)))

  -- ---- directives

  -- a use of one of these directives there refers to the directive's definition, if there is one
  abbrev pub RefersByUse : Address → List (DirectiveTree (Unit {0})) → Option (Referring (DirectiveTree (Unit {0}))) → Thing → Type 0
  RefersByUse holder ds by to = AtSomeIndex ds (λ i d.
      (by ≡ Some (record { it = d; place = At (DirectiveAt holder i) })) × ((to ≡ ADirective d.name.it) × (is_some (s.directive d.name.it) ≡ true)))

  -- an argument definition or input field refers to the directives that it uses, and to its type, if that is defined
  abbrev pub RefersByInput : Address → InputValueTree (Unit {0}) → Option (Referring (DirectiveTree (Unit {0}))) → Thing → Type 0
  RefersByInput at v by to = RefersByUse at (applied_directives v.directives) by to ⊎ ((by ≡ None) × ((to ≡ AType (named_in v.ty.it)) × (is_some (s.type_named (named_in v.ty.it)) ≡ true)))

  -- a directive refers through its arguments and its directives; a type through its directives, its enum values and its input fields
  abbrev pub Refers : Thing → Option (Referring (DirectiveTree (Unit {0}))) → Thing → Type 0
  Refers (ADirective n) by to = Present (s.directive n) (λ d.
      AtSomeIndex d.arguments (λ i v. RefersByInput (ArgumentAt (DirectiveDefinitionAt n) i) v.it by to)
      ⊎ RefersByUse (DirectiveDefinitionAt n) (applied_directives d.directives) by to)
  Refers (AType n) by to = Present (s.type_named n) (λ t.
      RefersByUse (TypeAt n) t.directives by to
      ⊎ (Somewhere t.value (λ m v. RefersByUse (ValueAt n m) (applied_directives v.directives) by to)
      ⊎ Somewhere t.input (λ m v. RefersByInput (InputAt n m) v by to)))

-- the uses of directives by which a path refers, from the last to the first
abbrev pub trace_of_way : List (Option (Referring (DirectiveTree (Unit {0})))) → List (Referring (DirectiveTree (Unit {0})))
trace_of_way bys = reverse (filter_map (λ by. by) bys)

module _ (s : Judged) (fault : SchemaFault) where
  -- RecursiveInputObjectDefinition: an input object type is valid only if no fields of type `Name!` lead from it back to it
  -- (section 3.10)
  abbrev pub RecursiveInputObjectDefinitionAt : Type 0
  RecursiveInputObjectDefinitionAt = (n : List ℕ) × ((by : Referring (InputValueTree (Unit {0}))) × ((rest : List (Referring (InputValueTree (Unit {0})))) × (
      Leads (RefersToInput s) n (by ∷ rest) n
      × (fault ≡ wrong (At (TypeAt n)) (RecursiveInputObjectDefinition n (reverse (by ∷ rest)))))))

  -- RecursiveDirectiveDefinition: a directive definition is valid only if it does not lead back to itself (section 3.13)
  abbrev pub RecursiveDirectiveDefinitionAt : Type 0
  RecursiveDirectiveDefinitionAt = (n : List ℕ) × ((by : Option (Referring (DirectiveTree (Unit {0})))) × ((rest : List (Option (Referring (DirectiveTree (Unit {0}))))) × (
      Leads (Refers s) (ADirective n) (by ∷ rest) (ADirective n)
      × (fault ≡ wrong (HeadAt n) (RecursiveDirectiveDefinition n (trace_of_way (by ∷ rest)))))))

  -- ---- the bound: not a rule, but what may be told if it is passed

  -- DeeplyNestedType: an input object type is valid only if no path from it through fields of type `Name!` holds more than
  -- 32 input objects
  abbrev pub DeeplyNestedInputObjectAt : Type 0
  DeeplyNestedInputObjectAt = (n : List ℕ) × ((rest : List (List ℕ)) × (
      IsWay (RefersToInput s) (n ∷ rest) × (HasNoRepeat (n ∷ rest) × ((reference_bound < length (n ∷ rest))
      × (fault ≡ wrong (At (TypeAt n)) (DeeplyNestedType n (codes "input object")))))))

  -- DeeplyNestedType: a directive definition is valid only if no path from it holds more than 32 directives or more than 32
  -- types
  abbrev pub DeeplyNestedDirectiveAt : Type 0
  DeeplyNestedDirectiveAt = (n : List ℕ) × ((rest : List Thing) × (
      IsWay (Refers s) (ADirective n ∷ rest) × (HasNoRepeat (ADirective n ∷ rest)
      × (((reference_bound < count_by is_a_directive (ADirective n ∷ rest)) ⊎ (reference_bound < count_by is_a_type (ADirective n ∷ rest)))
      × (fault ≡ wrong (HeadAt n) (DeeplyNestedType n (codes "directive")))))))

  -- ReferenceBound is passed, with this fault
  abbrev pub PassesReferenceBound : Type 0
  PassesReferenceBound = DeeplyNestedInputObjectAt ⊎ DeeplyNestedDirectiveAt
