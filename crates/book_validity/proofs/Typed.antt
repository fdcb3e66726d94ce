-- What typing keeps of a document over a schema has typed fields, and merges as specified.
use Rattle.std.proofs.Common.{◌≡◌, ◌||◌, ◌⊎◌, ◌↔◌, ℕ, Bool, true, false, List, Option, None, Some, option_map, Contains, refl, sym, ap, subst, ◌∙◌, inl, inr, true≢false, is_some}
use Rattle.std.specs.Option.{option_map_or}
use Rattle.std.proofs.lemmas.Option.{same_Some}
use Rattle.graphql_names.specs.Placed.{Place}
use Rattle.schema_types.specs.SchemaTree.{SchemaTree, same_kind}
use Rattle.schema_types.specs.Plain.{plain}
use Rattle.schema_types.specs.Looks.{TypeLooks}
use Rattle.schema_types.specs.declared.type_kind.TypeKind.TheVariants as kind
use Rattle.spec_document.specs.MeantTree.{MeantSelection, MeantField, MeantSpread, MeantInline, MeantDocument}
use Rattle.spec_document.specs.Unplaced.{unplaced_operation, unplaced_document, unplaced_set, unplaced_meant}
use Rattle.verdict_definitions.specs.in_typing.Meanings.{meanings, inner_type}
use Rattle.verdict_definitions.specs.in_typing.KeptSelections.{is_leaf}
use Rattle.verdict_definitions.specs.in_typing.TypedByPlace.{IsTyped, IsTypedDocument}
use Rattle.rule_definitions.specs.Judged.{Judged, judged}
use Rattle.rule_document_definitions.specs.Selected.{Position, StandingField, HasNone, field_there, as_field, operations, own}
use Rattle.rule_document_definitions.specs.Reached.{Reached}
use Rattle.rule_document_definitions.specs.Merging.{FieldsMerge}
use Rattle.rule_document_definitions.specs.Verdict.{Merging}
use Rattle.rule_document_definitions.proofs.Unplaced.{unplaced_standing, contains_unmap, reached_with_places}
use Rattle.rule_document_definitions.proofs.UnplacedReached.{operations_same}
use Rattle.rule_selections.proofs.TypedReached.{typed_reached}
use Rattle.book_validity.specs.Words.{Document, Operation, Field}
use Rattle.book_validity.specs.FieldSelectionMerging.{IsScalarOrEnum, DoItsFieldsMerge}
use Rattle.book_validity.specs.Document.{DoFieldsMerge}
use Rattle.book_validity.specs.MergingLaws.{IsTypedField, FieldsAreTyped}
use Rattle.book_validity.proofs.Granted.{HasOutputFields}
use Rattle.book_validity.proofs.Onward.{can_merge}
use Rattle.book_validity.proofs.Back.{fields_merge}
use Rattle.book_validity.proofs.EverySet.{every_set}

-- where fields are typed
pub operation_merges : (s : Judged) (d : Document) (o : Operation) → FieldsAreTyped s d o → FieldsMerge s d o ↔ DoItsFieldsMerge s d o
operation_merges s d o typed = (λ m. every_set s d o (can_merge s d o m typed), λ all. fields_merge s d o (all (own o) (inl refl)) typed)

module _ (s : SchemaTree Place) where
  leaf_there : (n : List ℕ) → IsScalarOrEnum (judged s) n → is_leaf (meanings (plain s)) n ≡ true
  leaf_there n (t, (e, k)) = ap leaf e ∙ by k
    where
      leaf : Option TypeLooks → Bool
      leaf o = option_map_or (λ t. same_kind t.kind kind.Scalar) o false || option_map_or (λ t. same_kind t.kind kind.Enum) o false

      by : (t.kind ≡ kind.Scalar) ⊎ (t.kind ≡ kind.Enum) → (same_kind t.kind kind.Scalar || same_kind t.kind kind.Enum) ≡ true
      by (inl i) = ap (λ k. same_kind k kind.Scalar || same_kind k kind.Enum) i
      by (inr i) = ap (λ k. same_kind k kind.Scalar || same_kind k kind.Enum) i

  module _ (output : HasOutputFields s) where
    -- a field that is typed with places is, without
    typed_there : {P : Type 0} (at : Position) (t : List ℕ) (x : MeantSelection P) (f : Field) → IsTyped (meanings (plain s)) t x → field_there at t (unplaced_meant x) ≡ Some f → IsTypedField (judged s) f
    typed_there at t (MeantField p df h v) f typed e =
        let out = output t h.name.it df typed.0 in
        subst (IsTypedField (judged s)) (same_Some _ f e) (record {
          parent = out.0;
          returns = out.1;
          leaf = λ l. subst HasNone (ap unplaced_set (sym (typed.1.1 (leaf_there (inner_type df) l)))) tt;
        })
    typed_there at t (MeantSpread p n ds) f typed e = absurd (true≢false (sym (ap is_some e)))
    typed_there at t (MeantInline p c ds v) f typed e = absurd (true≢false (sym (ap is_some e)))

    fields_typed : (d : MeantDocument Place) → IsTypedDocument (meanings (plain s)) d → (o : Operation) → Contains (operations (unplaced_document d)) o → FieldsAreTyped (judged s) (unplaced_document d) o
    fields_typed d typed o among =
        let (p, (there, same)) = contains_unmap unplaced_operation (operations d) o (subst (λ l. Contains l o) (operations_same d) among) in
        subst (FieldsAreTyped (judged s) (unplaced_document d)) same (λ y r f e.
        let (x, (reached, is)) = reached_with_places d p y r in
        typed_there x.position x.parent x.it f (typed_reached (meanings (plain s)) d typed p there x reached) (ap as_field is ∙ e))

    pub merging : (d : MeantDocument Place) → IsTypedDocument (meanings (plain s)) d → Merging (judged s) (unplaced_document d) ↔ DoFieldsMerge (judged s) (unplaced_document d)
    merging d typed = (
      λ m o c. (operation_merges (judged s) (unplaced_document d) o (fields_typed d typed o c)).0 (m o c),
      λ m o c. (operation_merges (judged s) (unplaced_document d) o (fields_typed d typed o c)).1 (m o c),
    )
