-- Selections with their positions in a kept document (GraphQL, October 2021, sections 2.3 to 2.8).
use Rattle.std.specs.Prelude.{ℕ, suc, List, [], ◌∷◌, ◌++◌, map, flat_map, Option, None, Some, unwrap_or}
use Rattle.std.specs.List.{cons_option}
use Rattle.std.specs.Option.{option_map}
use Rattle.tree_directives.specs.DirectiveTree.{Directives}
use Rattle.tree_directives.specs.declared.directive_location.DirectiveLocation.{DirectiveLocation}
use Rattle.tree_directives.specs.declared.directive_location.DirectiveLocation.TheVariants as location
use Rattle.tree_operations.specs.SelectionTree.{FieldHead}
use Rattle.rule_definitions.specs.in_schema_types.Addresses.{under}
use Rattle.spec_document.specs.MeantTree.{Definition, MeantSelection, MeantField, MeantSpread, MeantInline, MeantSet, meant_set, MeantSelections, no_meant, meant_then, MeantOperation, MeantFragment, MeantDocument}

-- the position of a selection: by indices, from an operation or fragment down; selections of a document with one position are the same selection
pub data Position : Type 0 where
  InOperation : (name : Option (List ℕ)) → Position
  InFragment : (name : List ℕ) → Position
  SelectionAt : (holder : Position) (index : ℕ) → Position

-- a selection, its position, and the name of the type of its set (the parent type)
pub record Standing (P : Type 0) : Type 0 where
  pub position : Position
  pub parent : List ℕ
  pub it : MeantSelection P

-- a field with its position
pub record StandingField (P : Type 0) : Type 0 where
  pub position : Position
  pub parent : List ℕ
  pub place : P
  pub definition : Definition
  pub head : FieldHead P
  pub set : MeantSet P

-- the set has no selection
abbrev pub HasNone : {P : Type 0} → MeantSet P → Type 0
HasNone (meant_set t no_meant) = Unit {0}
HasNone _ = ⊥

module _ {P : Type 0} where
  abbrev pub stand : Position → List ℕ → ℕ → MeantSelections P → List (Standing P)
  stand holder t i no_meant = []
  stand holder t i (meant_then s ss) = record { position = SelectionAt holder i; parent = t; it = s } ∷ stand holder t (suc i) ss

  -- the selections of a set itself
  abbrev pub standing_in : Position → MeantSet P → List (Standing P)
  standing_in holder (meant_set t ss) = stand holder t 0 ss

  -- these and the selections at any depth in them, in the order of the text; fragments that are spread are not entered
  abbrev mutual
    pub all_in : Position → MeantSet P → List (Standing P)
    all_in holder (meant_set t ss) = all_from holder t 0 ss

    pub all_from : Position → List ℕ → ℕ → MeantSelections P → List (Standing P)
    all_from holder t i no_meant = []
    all_from holder t i (meant_then s ss) =
        record { position = SelectionAt holder i; parent = t; it = s } ∷ (all_below (SelectionAt holder i) s ++ all_from holder t (suc i) ss)

    pub all_below : Position → MeantSelection P → List (Standing P)
    all_below at (MeantField p d h s) = all_in at s
    all_below at (MeantSpread p n ds) = []
    all_below at (MeantInline p c ds s) = all_in at s

  -- ---- the parts of a selection

  abbrev pub selection_place : MeantSelection P → P
  selection_place (MeantField p d h s) = p
  selection_place (MeantSpread p n ds) = p
  selection_place (MeantInline p c ds s) = p

  abbrev pub selection_directives : MeantSelection P → Directives P
  selection_directives (MeantField p d h s) = h.directives
  selection_directives (MeantSpread p n ds) = ds
  selection_directives (MeantInline p c ds s) = ds

  -- the location of its directives
  abbrev pub selection_location : MeantSelection P → DirectiveLocation
  selection_location (MeantField p d h s) = location.Field
  selection_location (MeantSpread p n ds) = location.FragmentSpread
  selection_location (MeantInline p c ds s) = location.InlineFragment

  -- the name of the fragment, if the selection is a spread
  abbrev pub spread_name : MeantSelection P → Option (List ℕ)
  spread_name (MeantSpread p n ds) = Some n.it
  spread_name _ = None

  -- the type condition, if the selection is an inline fragment that has one
  abbrev pub inline_condition : MeantSelection P → Option (List ℕ)
  inline_condition (MeantInline p c ds s) = option_map (λ n. n.it) c
  inline_condition _ = None

  -- private: the selection as a field with that position and that parent type, if it is a field
  abbrev pub field_there : Position → List ℕ → MeantSelection P → Option (StandingField P)
  field_there at t (MeantField p d h s) = Some (record { position = at; parent = t; place = p; definition = d; head = h; set = s })
  field_there at t _ = None

  -- the selection as a field, if it is one
  abbrev pub as_field : Standing P → Option (StandingField P)
  as_field x = field_there x.position x.parent x.it

  -- the selections in it, if it is an inline fragment
  abbrev pub in_inline : Position → MeantSelection P → List (Standing P)
  in_inline at (MeantInline p c ds s) = standing_in at s
  in_inline at _ = []

  abbrev pub field_name : StandingField P → List ℕ
  field_name f = f.head.name.it

  abbrev pub response_key : StandingField P → List ℕ
  response_key f = (unwrap_or f.head.alias f.head.name).it

  -- ---- the parts of a document

  abbrev pub operations : MeantDocument P → List (MeantOperation P)
  operations d = cons_option d.anonymous (map (λ e. e.1) d.named)

  abbrev pub fragments : MeantDocument P → List (MeantFragment P)
  fragments d = map (λ e. e.1) d.fragments

  abbrev pub fragment_named : MeantDocument P → List ℕ → Option (MeantFragment P)
  fragment_named d n = under n d.fragments

  abbrev pub operation_name : MeantOperation P → Option (List ℕ)
  operation_name o = option_map (λ n. n.it) o.name

  -- the selections of an operation itself; below, of a fragment itself
  abbrev pub own : MeantOperation P → List (Standing P)
  own o = standing_in (InOperation (operation_name o)) o.set

  abbrev pub held : MeantFragment P → List (Standing P)
  held f = standing_in (InFragment f.name.it) f.set

  -- all selections of a document at any depth, of the operations and then of the fragments
  abbrev pub all_selections : MeantDocument P → List (Standing P)
  all_selections d = flat_map (λ o. all_in (InOperation (operation_name o)) o.set) (operations d) ++ flat_map (λ f. all_in (InFragment f.name.it) f.set) (fragments d)
