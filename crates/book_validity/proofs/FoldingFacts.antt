-- Definitions are foldable exactly when no folding rule is broken.
use Rattle.std.proofs.Common.{◌≡◌, ℕ, Bool, true, false, ◌++◌, Contains, refl, sym, ap, subst, ◌∙◌, Option, None, Some, is_some, true≢false}
use Rattle.std.proofs.lemmas.Option.{same_Some}
use Rattle.graphql_names.specs.Placed.{Place}
use Rattle.tree_definitions.specs.DefinitionTree.{DefinitionTree}
use Rattle.tree_definitions.specs.Queries.{is_executable}
use Rattle.schema_components.specs.Lists.{StandsAfter, firsts, has_name}
use Rattle.schema_types.specs.SchemaTree.{same_kind}
use Rattle.schema_types.specs.TypeParts.{TypeDefinition, type_here}
use Rattle.schema_types.specs.declared.type_kind.TypeKind.{TypeKind}
use Rattle.schema_types.specs.declared.type_kind.TypeKind.TheVariants as kind
use Rattle.schema_fold.specs.NumberedDefinition.{Definitions, type_name, types_in, type_named, directive_name, directives_in}
use Rattle.schema_fold.specs.SchemaFold.{schema_definition_in, schema_is_defined}
use Rattle.schema_fold.specs.BuildErrors as rule
use Rattle.schema_fold.specs.BuildErrors.{BuildFault, Fails, FoldingRules, is_built_in_scalar}
use Rattle.book_validity.specs.Words.{IsThere}
use Rattle.book_validity.specs.Folding.{IsFoldable, HasApart, AreFoldable}
use Rattle.book_validity.specs.Laws.{FoldedByTheBook}
use Rattle.book_validity.proofs.Naming.{is_there, there, is_true, is_false}
use Rattle.book_validity.proofs.ApartFacts.{components_apart, roots_apart}

kind_is : (a b : TypeKind) → same_kind a b ≡ true → a ≡ b
kind_is kind.Scalar kind.Scalar h = refl
kind_is kind.Object kind.Object h = refl
kind_is kind.Interface kind.Interface h = refl
kind_is kind.Union kind.Union h = refl
kind_is kind.Enum kind.Enum h = refl
kind_is kind.InputObject kind.InputObject h = refl
kind_is _ _ h = cc

none_of : {X : Type 0} (l : Option X) → (IsThere l → ⊥) → l ≡ None
none_of None h = refl
none_of (Some x) h = absurd (h refl)

there_is : {X A : Type 0} (l : Option X) → l ≡ None → IsThere l → A
there_is l e h = absurd (true≢false (sym h ∙ ap is_some e))

module _ (built_in : Definitions) (first : ℕ) (texts : Definitions) where
  abbrev all : Definitions
  all = built_in ++ texts

  module _ (h : AreFoldable built_in texts) where
    -- parts of a type of that kind
    of_kind : (k : TypeKind) (t : TypeDefinition Place) → Contains (firsts type_name (types_in all)) t → same_kind t.parts.kind k ≡ true → HasApart built_in texts t k
    of_kind k t c e = subst (HasApart built_in texts t) (kind_is t.parts.kind k e) (h.parts t c)

    sound : FoldingRules built_in first texts
    sound fault (rule.executable_definition (before, (d, (at, b)))) = true≢false (sym b.0 ∙ (h.definitions before d at).of_schema)
    sound fault (rule.schema_definition_collision (before, (d, (at, b)))) = there_is (schema_definition_in before) ((h.definitions before d at).one_schema b.0) b.1
    sound fault (rule.directive_definition_collision (before, (d, (at, (own, b))))) = true≢false (sym b.1 ∙ (h.definitions before d at).own_directive own b.0)
    sound fault (rule.type_definition_collision (before, (d, (at, (t, b))))) = true≢false (sym b.0.1 ∙ (h.definitions before d at).own_type t b.0.0)
    sound fault (rule.built_in_scalar_type_redefinition (before, (d, (at, (t, b))))) = true≢false (sym b.0.1 ∙ (h.definitions before d at).own_type t b.0.0)
    sound fault (rule.orphan_schema_extension (before, (d, (at, b)))) = true≢false (sym ((h.definitions before d at).extends_schema b.0) ∙ b.1)
    sound fault (rule.orphan_type_extension (before, (d, (at, (e, b))))) =
        let p = (h.definitions before d at).extends_type e b.0 in true≢false (sym (ap is_some p.1.0) ∙ ap is_some b.1)
    sound fault (rule.type_extension_kind_mismatch (before, (d, (at, (e, (t, b)))))) =
        let p = (h.definitions before d at).extends_type e b.0 in
        true≢false (sym p.1.1 ∙ ap (λ (x : TypeDefinition Place). same_kind x.parts.kind e.kind) (same_Some p.0 t (sym p.1.0 ∙ b.1)) ∙ b.2)
    sound fault (rule.duplicate_root_operation (g, (r, told))) = (roots_apart built_in first texts).1 h.roots g r
    sound fault (rule.duplicate_implements_interface_in_object (t, (g, b))) = (components_apart built_in first texts t (λ p. p.interfaces) (λ i. i.it)).1 (of_kind kind.Object t b.0 b.1).0 g b.2
    sound fault (rule.duplicate_implements_interface_in_interface (t, (g, b))) = (components_apart built_in first texts t (λ p. p.interfaces) (λ i. i.it)).1 (of_kind kind.Interface t b.0 b.1).0 g b.2
    sound fault (rule.object_field_name_collision (t, (g, b))) = (components_apart built_in first texts t (λ p. p.fields) (λ f. f.it.name.it)).1 (of_kind kind.Object t b.0 b.1).1 g b.2
    sound fault (rule.interface_field_name_collision (t, (g, b))) = (components_apart built_in first texts t (λ p. p.fields) (λ f. f.it.name.it)).1 (of_kind kind.Interface t b.0 b.1).1 g b.2
    sound fault (rule.enum_value_name_collision (t, (g, b))) = (components_apart built_in first texts t (λ p. p.values) (λ v. v.it.value.it)).1 (of_kind kind.Enum t b.0 b.1) g b.2
    sound fault (rule.union_member_name_collision (t, (g, b))) = (components_apart built_in first texts t (λ p. p.members) (λ m. m.it)).1 (of_kind kind.Union t b.0 b.1) g b.2
    sound fault (rule.input_field_name_collision (t, (g, b))) = (components_apart built_in first texts t (λ p. p.inputs) (λ f. f.it.name.it)).1 (of_kind kind.InputObject t b.0 b.1) g b.2

  module _ (q : FoldingRules built_in first texts) where
    not_second : (before : Definitions) (d : DefinitionTree Place) → StandsAfter texts before d → (t : TypeDefinition Place) → type_here d ≡ Some t → (s : Bool) → is_built_in_scalar built_in texts (type_name t) ≡ s
        → has_name type_name (type_name t) (types_in (built_in ++ before)) ≡ true → ⊥
    not_second before d at t e true s has = q _ (rule.built_in_scalar_type_redefinition (before, (d, (at, (t, ((e, has), s, refl))))))
    not_second before d at t e false s has = q _ (rule.type_definition_collision (before, (d, (at, (t, ((e, has), s, refl))))))

    definition : (before : Definitions) (d : DefinitionTree Place) → StandsAfter texts before d → IsFoldable built_in texts before d
    definition before d at = record {
      of_schema = is_false (is_executable d) (λ e. q _ (rule.executable_definition (before, (d, (at, (e, refl))))));
      one_schema = λ here. none_of (schema_definition_in before) (λ e. q _ (rule.schema_definition_collision (before, (d, (at, (here, e, refl))))));
      own_directive = λ own e. is_false (has_name directive_name (directive_name own) (directives_in before)) (λ has. q _ (rule.directive_definition_collision (before, (d, (at, (own, (e, has, refl)))))));
      own_type = λ t e. is_false (has_name type_name (type_name t) (types_in (built_in ++ before))) (not_second before d at t e (is_built_in_scalar built_in texts (type_name t)) refl);
      extends_schema = λ here. is_true (schema_is_defined all) (λ e. q _ (rule.orphan_schema_extension (before, (d, (at, (here, e, refl))))));
      extends_type = λ e here.
          let (t, is) = there (type_named e.name.it all) (is_there (type_named e.name.it all) (λ none. q _ (rule.orphan_type_extension (before, (d, (at, (e, (here, none, refl)))))))) in
          (t, (is, is_true (same_kind t.parts.kind e.kind) (λ other. q _ (rule.type_extension_kind_mismatch (before, (d, (at, (e, (t, (here, is, other, refl))))))))));
    }

    parts : (t : TypeDefinition Place) → Contains (firsts type_name (types_in all)) t → (k : TypeKind) → same_kind t.parts.kind k ≡ true → HasApart built_in texts t k
    parts t c kind.Scalar e = tt
    parts t c kind.Object e = (
      (components_apart built_in first texts t (λ p. p.interfaces) (λ i. i.it)).0 (λ g r. q _ (rule.duplicate_implements_interface_in_object (t, (g, (c, e, r, refl))))),
      (components_apart built_in first texts t (λ p. p.fields) (λ f. f.it.name.it)).0 (λ g r. q _ (rule.object_field_name_collision (t, (g, (c, e, r, refl))))),
    )
    parts t c kind.Interface e = (
      (components_apart built_in first texts t (λ p. p.interfaces) (λ i. i.it)).0 (λ g r. q _ (rule.duplicate_implements_interface_in_interface (t, (g, (c, e, r, refl))))),
      (components_apart built_in first texts t (λ p. p.fields) (λ f. f.it.name.it)).0 (λ g r. q _ (rule.interface_field_name_collision (t, (g, (c, e, r, refl))))),
    )
    parts t c kind.Union e = (components_apart built_in first texts t (λ p. p.members) (λ m. m.it)).0 (λ g r. q _ (rule.union_member_name_collision (t, (g, (c, e, r, refl)))))
    parts t c kind.Enum e = (components_apart built_in first texts t (λ p. p.values) (λ v. v.it.value.it)).0 (λ g r. q _ (rule.enum_value_name_collision (t, (g, (c, e, r, refl)))))
    parts t c kind.InputObject e = (components_apart built_in first texts t (λ p. p.inputs) (λ f. f.it.name.it)).0 (λ g r. q _ (rule.input_field_name_collision (t, (g, (c, e, r, refl)))))

    itself : (k : TypeKind) → same_kind k k ≡ true
    itself kind.Scalar = refl
    itself kind.Object = refl
    itself kind.Interface = refl
    itself kind.Union = refl
    itself kind.Enum = refl
    itself kind.InputObject = refl

    complete : AreFoldable built_in texts
    complete = record {
      definitions = definition;
      roots = (roots_apart built_in first texts).0 (λ g r. q _ (rule.duplicate_root_operation (g, (r, refl))));
      parts = λ t c. parts t c t.parts.kind (itself t.parts.kind);
    }

pub folded_by_the_book : FoldedByTheBook
folded_by_the_book built_in first texts = (sound built_in first texts, complete built_in first texts)
