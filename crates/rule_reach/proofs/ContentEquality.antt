-- `==` of field selections says whether their contents are the same.
use Rattle.std.proofs.Common.{◌≡◌, ◌∙◌, ℕ, Bool, List, ap, sym, refl, None}
use Rattle.std.specs.Bool.{Decides}
use Rattle.graphql_names.specs.Node.{content as content_of_node}
use Rattle.graphql_names.specs.Placed.{Text, unplaced_text}
use Rattle.tree_operations.specs.SelectionTree.{FieldHead}
use Rattle.tree_definitions.proofs.in_operations.Decided.{through, carried, pair_decides, name_decides}
use Rattle.document_typed_selections.specs.TypedTree.{TypedSelection, TypedField, TypedSpread, TypedInline, TypedSet, typed_set, TypedSelections, no_typed, typed_then, unplaced_typed_selection, unplaced_typed_set, unplaced_typed_selections}
use Rattle.document_typed_selections.specs.TypedParts.{typed_field}
use Rattle.document_typed_selections.specs.declared.selection.Field.{Field}
use Rattle.document_typed_selections.proofs.TypedEquality.{SameField, field_eq, field_eq-Decides}
use Rattle.rule_document_definitions.specs.in_spec_document.MeantTree.{Definition, MeantSelection, MeantField, MeantSpread, MeantInline, MeantSet, meant_set, MeantSelections, no_meant, meant_then, meant, meant_of_set, meant_of_all}
use Rattle.rule_document_definitions.specs.in_spec_document.Unplaced.{unplaced_meant, unplaced_set, unplaced_members}
use Rattle.rule_document_definitions.specs.Selected.{InOperation, StandingField}
use Rattle.rule_reach.specs.declared.field_selection.FieldSelection.{FieldSelection}
use Rattle.rule_reach.specs.Fields.{content_of}
use Rattle.rule_reach.specs.contracts.field_selection.FieldSelectionPartialEq.TheImpl as selection

-- ---- trees without places, typed and meant, are of one another

abbrev mutual
  meant_plain : TypedSelection (Unit {0}) → MeantSelection (Unit {0})
  meant_plain (TypedField p d h s) = MeantField p d.it h (meant_plain_set s)
  meant_plain (TypedSpread p n ds) = MeantSpread p n ds
  meant_plain (TypedInline p c ds s) = MeantInline p c ds (meant_plain_set s)

  meant_plain_set : TypedSet (Unit {0}) → MeantSet (Unit {0})
  meant_plain_set (typed_set ty ss) = meant_set ty.it (meant_plain_all ss)

  meant_plain_all : TypedSelections (Unit {0}) → MeantSelections (Unit {0})
  meant_plain_all no_typed = no_meant
  meant_plain_all (typed_then s ss) = meant_then (meant_plain s) (meant_plain_all ss)

abbrev mutual
  typed_plain : MeantSelection (Unit {0}) → TypedSelection (Unit {0})
  typed_plain (MeantField p d h s) = TypedField p (record { it = d; place = tt }) h (typed_plain_set s)
  typed_plain (MeantSpread p n ds) = TypedSpread p n ds
  typed_plain (MeantInline p c ds s) = TypedInline p c ds (typed_plain_set s)

  typed_plain_set : MeantSet (Unit {0}) → TypedSet (Unit {0})
  typed_plain_set (meant_set t ss) = typed_set (record { it = t; place = tt }) (typed_plain_all ss)

  typed_plain_all : MeantSelections (Unit {0}) → TypedSelections (Unit {0})
  typed_plain_all no_meant = no_typed
  typed_plain_all (meant_then s ss) = typed_then (typed_plain s) (typed_plain_all ss)

-- the same selection with this set instead of its own
abbrev with_meant_set : MeantSelection (Unit {0}) → MeantSet (Unit {0}) → MeantSelection (Unit {0})
with_meant_set (MeantField p d h s) v = MeantField p d h v
with_meant_set (MeantInline p c ds s) v = MeantInline p c ds v
with_meant_set s v = s

abbrev with_typed_set : TypedSelection (Unit {0}) → TypedSet (Unit {0}) → TypedSelection (Unit {0})
with_typed_set (TypedField p d h s) v = TypedField p d h v
with_typed_set (TypedInline p c ds s) v = TypedInline p c ds v
with_typed_set s v = s

module _ {P : Type 0} where
  mutual
    meant_of_plain : (s : TypedSelection P) → meant_plain (unplaced_typed_selection s) ≡ unplaced_meant (meant s)
    meant_of_plain (TypedField p d h s) = ap (with_meant_set (unplaced_meant (meant (TypedField p d h s)))) (set_of_plain s)
    meant_of_plain (TypedSpread p n ds) = refl
    meant_of_plain (TypedInline p c ds s) = ap (with_meant_set (unplaced_meant (meant (TypedInline p c ds s)))) (set_of_plain s)

    set_of_plain : (s : TypedSet P) → meant_plain_set (unplaced_typed_set s) ≡ unplaced_set (meant_of_set s)
    set_of_plain (typed_set ty ss) = ap (λ v. meant_set ty.it v) (all_of_plain ss)

    all_of_plain : (ss : TypedSelections P) → meant_plain_all (unplaced_typed_selections ss) ≡ unplaced_members (meant_of_all ss)
    all_of_plain no_typed = refl
    all_of_plain (typed_then s ss) = λ i. meant_then (meant_of_plain s i) (all_of_plain ss i)

  mutual
    plain_of_meant : (s : TypedSelection P) → typed_plain (unplaced_meant (meant s)) ≡ unplaced_typed_selection s
    plain_of_meant (TypedField p d h s) = ap (with_typed_set (unplaced_typed_selection (TypedField p d h s))) (plain_of_set s)
    plain_of_meant (TypedSpread p n ds) = refl
    plain_of_meant (TypedInline p c ds s) = ap (with_typed_set (unplaced_typed_selection (TypedInline p c ds s))) (plain_of_set s)

    plain_of_set : (s : TypedSet P) → typed_plain_set (unplaced_set (meant_of_set s)) ≡ unplaced_typed_set s
    plain_of_set (typed_set ty ss) = ap (λ v. typed_set (unplaced_text ty) v) (plain_of_all ss)

    plain_of_all : (ss : TypedSelections P) → typed_plain_all (unplaced_members (meant_of_all ss)) ≡ unplaced_typed_selections ss
    plain_of_all no_typed = refl
    plain_of_all (typed_then s ss) = λ i. typed_then (plain_of_meant s i) (plain_of_all ss i)

-- ---- fields

abbrev meant_field : Field → MeantSelection (Unit {0})
meant_field f = unplaced_meant (meant (typed_field None f))

field_decides : (a b : Field) → Decides (field_eq a b) (meant_field a ≡ meant_field b)
field_decides a b =
    let h = field_eq-Decides a b in (
      λ e. sym (meant_of_plain (typed_field None a)) ∙ ap meant_plain (h.0 e) ∙ meant_of_plain (typed_field None b),
      λ e. h.1 (sym (plain_of_meant (typed_field None a)) ∙ ap typed_plain e ∙ plain_of_meant (typed_field None b)),
    )

-- a field on a type, from the parts of it
abbrev content_on : List ℕ → MeantSelection (Unit {0}) → StandingField (Unit {0}) → StandingField (Unit {0})
content_on parent (MeantField p d h s) other = record { position = InOperation None; parent = parent; place = tt; definition = d; head = h; set = s }
content_on parent _ other = other

-- the selection that a field is
abbrev selection_of : StandingField (Unit {0}) → MeantSelection (Unit {0})
selection_of f = MeantField f.place f.definition f.head f.set

abbrev pub selection_eq : FieldSelection → FieldSelection → Bool
selection_eq = selection.ghosts.eq

pub selection_eq-Decides : (a b : FieldSelection) → Decides (selection_eq a b) (content_of a ≡ content_of b)
selection_eq-Decides a b =
    through
    (pair_decides _ _ (name_decides a.parent_type.now b.parent_type.now) (field_decides (content_of_node a.field.now) (content_of_node b.field.now)))
    (λ s i. content_on (s.0 i).it (s.1 i) (content_of a))
    (λ r. (ap (λ (f : StandingField (Unit {0})). unplaced_name f.parent) r, ap selection_of r))
  where
    unplaced_name : List ℕ → Text (Unit {0})
    unplaced_name n = record { it = n; place = tt }
