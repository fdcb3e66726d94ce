-- Private: leads to `Merging.antt` of the rules' definitions.
-- The two passes over the lists: which fields go together, when two agree, and what is told of two that do not.
use Rattle.std.specs.Prelude.{◌≡◌, ◌++◌, ℕ, List, [], Vec, Option, MatchOption, option_to_list, Contains, ◌⊎◌}
use Rattle.std.specs.declared.alloc.Global.{Global}
use Rattle.graphql_names.specs.Placed.{Place}
use Rattle.schema_coordinates.specs.Coordinate.{Coordinate, OfAttribute, OfArgument}
use Rattle.fault_document_errors.specs.DocumentBreaches.{ConflictingFieldName, ConflictingFieldArgument, ConflictingFieldType}
use Rattle.fault_document_errors.specs.declared.build_error.BuildError.{BuildError}
use Rattle.rule_selection_queries.specs.in_definitions.Judged.{Judged}
use Rattle.rule_selection_queries.specs.in_document_definitions.DocumentFaults.{Broken, broken}
use Rattle.rule_selection_queries.specs.in_document_definitions.Selected.{StandingField, field_name, response_key}
use Rattle.rule_selection_queries.specs.in_document_definitions.Groups.{AgreeWithHead}
use Rattle.rule_selection_queries.specs.in_document_definitions.ReadFields.{ReadField, ReadSameKey, ReadMayShare, ReadSameShape, ReadSameNameAndArguments}
use Rattle.rule_selection_queries.specs.in_document_definitions.Merging.{SameKey, MayShare, SameShape, SameName, SameArgument, SameNameAndArguments, telling, telling_argument}
use Rattle.rule_field_sets.specs.in_reach.Broken.{brokens_of}
use Rattle.rule_field_groups.specs.LaterField.{IsInOrder}
use Rattle.rule_field_groups.specs.declared.pass.Pass.{Pass}
use Rattle.rule_field_groups.specs.declared.pass.Pass.TheVariants.{Shapes, Selections}

module _ {P : Type 0} where
  -- ---- what is told of two fields

  -- the coordinate of a field; that of its argument of this name
  abbrev pub coordinate_of : StandingField P → Coordinate
  coordinate_of f = OfAttribute f.parent (field_name f)

  abbrev pub coordinate_of_argument : List ℕ → StandingField P → Coordinate
  coordinate_of_argument n f = OfArgument f.parent (field_name f) n

  abbrev pub type_conflict : StandingField P → StandingField P → Broken P
  type_conflict f g = broken g.place (ConflictingFieldType (response_key g) (telling f f.definition.ty) (telling g g.definition.ty))

  abbrev pub name_conflict : StandingField P → StandingField P → Broken P
  name_conflict f g = broken g.place (ConflictingFieldName (response_key g) (telling f tt) (telling g tt))

  abbrev pub argument_conflict : List ℕ → StandingField P → StandingField P → Broken P
  argument_conflict n f g = broken g.place (ConflictingFieldArgument (response_key g) (telling_argument n f) (telling_argument n g))

  -- ---- the passes

  abbrev pub Together : Pass → Judged → StandingField P → StandingField P → Type 0
  Together Shapes s = SameKey
  Together Selections s = MayShare s

  abbrev pub Agree : Pass → Judged → StandingField P → StandingField P → Type 0
  Agree Shapes s = SameShape s
  Agree Selections s = SameNameAndArguments

-- two fields do not agree, and the breach tells so, at the one that comes later in the text
abbrev pub TypesConflict : Judged → Broken Place → StandingField Place → StandingField Place → Type 0
TypesConflict s fault f g = (SameShape s f g → ⊥) × ((fault ≡ type_conflict f g) × IsInOrder f.place g.place)

abbrev pub NamesConflict : Broken Place → StandingField Place → StandingField Place → Type 0
NamesConflict fault f g = (SameName f g → ⊥) × ((fault ≡ name_conflict f g) × IsInOrder f.place g.place)

abbrev pub ArgumentsConflict : Broken Place → StandingField Place → StandingField Place → Type 0
ArgumentsConflict fault f g = (n : List ℕ) × ((SameArgument n f g → ⊥) × ((fault ≡ argument_conflict n f g) × IsInOrder f.place g.place))

abbrev pub SelectionsConflict : Broken Place → StandingField Place → StandingField Place → Type 0
SelectionsConflict fault f g = NamesConflict fault f g ⊎ ArgumentsConflict fault f g

abbrev pub Conflict : Pass → Judged → Broken Place → StandingField Place → StandingField Place → Type 0
Conflict Shapes s fault f g = TypesConflict s fault f g
Conflict Selections s fault f g = SelectionsConflict fault f g

-- ---- the passes, by what is read of fields

abbrev pub ReadTogether : Pass → Judged → ReadField → ReadField → Type 0
ReadTogether Shapes s = ReadSameKey
ReadTogether Selections s = ReadMayShare s

abbrev pub ReadAgree : Pass → Judged → ReadField → ReadField → Type 0
ReadAgree Shapes s = ReadSameShape s
ReadAgree Selections s = ReadSameNameAndArguments

-- the old breaches unchanged, and then one that tells of a conflict; or none is added, and there is no conflict
abbrev pub AddsUnless : Type 0 → (Broken Place → Type 0) → Vec (Place × BuildError) Global → Vec (Place × BuildError) Global → Type 0
AddsUnless Same Tells old new = (told : Option (Broken Place)) × ((brokens_of new ≡ brokens_of old ++ option_to_list told) × MatchOption told Same Tells)

-- a breach about two fields is added, in one order or the other, unless they agree
abbrev pub AddsTwo : Pass → Judged → StandingField Place → StandingField Place → Vec (Place × BuildError) Global → Vec (Place × BuildError) Global → Type 0
AddsTwo pass s f g = AddsUnless (Agree pass s f g) (λ b. Conflict pass s b f g ⊎ Conflict pass s b g f)

-- each of these tells of two fields of the group that do not agree; and if there is none, all agree with the first
pub record TellsGroup (pass : Pass) (s : Judged) (group : List (StandingField Place)) (added : List (Broken Place)) : Type 0 where
  pub right : (fault : Broken Place) → Contains added fault
      → (f : StandingField Place) × ((g : StandingField Place) × (Contains group f × (Contains group g × Conflict pass s fault f g)))
  pub agree : added ≡ [] → AgreeWithHead (Agree pass s) group

-- each of these tells of two fields of one of the groups that do not agree; and if there is none, all of each group agree with its first
pub record TellsEach (pass : Pass) (s : Judged) (groups : List (List (StandingField Place))) (added : List (Broken Place)) : Type 0 where
  pub right : (fault : Broken Place) → Contains added fault → (group : List (StandingField Place)) × (Contains groups group
      × ((f : StandingField Place) × ((g : StandingField Place) × (Contains group f × (Contains group g × Conflict pass s fault f g)))))
  pub agree : added ≡ [] → (group : List (StandingField Place)) → Contains groups group → AgreeWithHead (Agree pass s) group

abbrev pub AddsEach : Pass → Judged → List (List (StandingField Place)) → Vec (Place × BuildError) Global → Vec (Place × BuildError) Global → Type 0
AddsEach pass s groups old new = (added : List (Broken Place)) × ((brokens_of new ≡ brokens_of old ++ added) × TellsEach pass s groups added)

-- the old breaches unchanged, and then those of the group
abbrev pub AddsGroup : Pass → Judged → List (StandingField Place) → Vec (Place × BuildError) Global → Vec (Place × BuildError) Global → Type 0
AddsGroup pass s group old new = (added : List (Broken Place)) × ((brokens_of new ≡ brokens_of old ++ added) × TellsGroup pass s group added)
