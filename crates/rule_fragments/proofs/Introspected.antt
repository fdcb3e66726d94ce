-- What SubscriptionUsesIntrospection tells of a selection that is a field.
use Rattle.std.proofs.Common.{◌≡◌, ℕ, List, [], ◌∷◌, Option, None, Some, bytes_eq, is_some, refl, sym, ap, ◌∙◌, true}
use Rattle.std.specs.Prelude.{if◌then◌else◌}
use Rattle.std.specs.Borrow.{Bor}
use Rattle.std.specs.List.{list_any}
use Rattle.std.specs.Option.{option_map, option_copied}
use Rattle.graphql_names.specs.Node.{content, place}
use Rattle.graphql_names.specs.Placed.{Place}
use Rattle.graphql_names.specs.declared.node.Node.{Node}
use Rattle.document_typed_selections.specs.TypedTree.{TypedSelection, TypedField, TypedSpread, TypedInline}
use Rattle.document_typed_selections.specs.TypedParts.{typed_field_node, as_typed_field}
use Rattle.document_typed_selections.specs.declared.selection.Field.{Field}
use Rattle.spec_document.specs.MeantTree.{MeantOperation, meant}
use Rattle.fault_document_errors.specs.DocumentBreaches.{SubscriptionUsesIntrospection}
use Rattle.rule_document_definitions.specs.DocumentFaults.{Broken, broken}
use Rattle.rule_document_definitions.specs.Selected.{operation_name}
use Rattle.rule_document_definitions.specs.RootFields.{meta_field_names}
use Rattle.rule_fragments.specs.ListedBreaches.{fields_in, introspection}
use Rattle.document_typed_operations.proofs.Finding.{none_is_some}

abbrev of_field : MeantOperation Place → Option (TypedSelection Place) → List (Broken Place)
of_field o None = []
of_field o (Some t) = introspection o (meant t)

same_field : (o : MeantOperation Place) (t y : TypedSelection Place) → Some y ≡ as_typed_field t → introspection o (meant t) ≡ introspection o (meant y)
same_field o (TypedField p d h s) y e = sym (ap (of_field o) e)
same_field o (TypedSpread p n ds) y e = none_is_some y (sym e)
same_field o (TypedInline p c ds s) y e = none_is_some y (sym e)

pub introspected : (o : MeantOperation Place) (t : TypedSelection Place) (n : Node Field) (f : Field) → Some (typed_field_node n) ≡ as_typed_field t → f ≡ content n → list_any (bytes_eq f.name.text) meta_field_names ≡ true
    → broken (place n) (SubscriptionUsesIntrospection (operation_name o) f.name.text) ∷ [] ≡ introspection o (meant t)
introspected o t n f e of meta =
    sym
    (same_field o t (typed_field_node n) e
    ∙ ap (λ (g : Field). if list_any (bytes_eq g.name.text) meta_field_names then broken (place n) (SubscriptionUsesIntrospection (operation_name o) g.name.text) ∷ [] else []) (sym of)
    ∙ ap (λ b. if b then broken (place n) (SubscriptionUsesIntrospection (operation_name o) f.name.text) ∷ [] else []) meta)

-- ---- whether it is a field

abbrev field_if : Option (TypedSelection Place) → ℕ
field_if None = 0
field_if (Some t) = 1

pub is_one : (t : TypedSelection Place) → fields_in (meant t) ≡ field_if (as_typed_field t)
is_one (TypedField p d h s) = refl
is_one (TypedSpread p n ds) = refl
is_one (TypedInline p c ds s) = refl

-- of what is lent as a field, if it is one
pub counts : (t : TypedSelection Place) (o : Option (Bor (Node Field))) → option_map typed_field_node (option_copied o) ≡ as_typed_field t → fields_in (meant t) ≡ (if is_some o then 1 else 0)
counts t o e = is_one t ∙ ap field_if (sym e) ∙ by o
  where
    by : (o : Option (Bor (Node Field))) → field_if (option_map typed_field_node (option_copied o)) ≡ (if is_some o then 1 else 0)
    by None = refl
    by (Some b) = refl
