-- No folding rule is broken by S `type Query { field: Int }`, and it passes no bound.
use Rattle.std.proofs.Common.{◌≡◌, ℕ, Bool, true, false, List, [], ◌∷◌, ◌++◌, codes, flat_map, None, Some, is_some, Contains, if◌then◌else◌, refl, sym, ap, subst, ◌∙◌, true≢false, arith}
use Rattle.std.proofs.lemmas.Option.{same_Some}
use Rattle.graphql_names.specs.Placed.{Place}
use Rattle.schema_built_in.specs.Table.{built_in_definitions}
use Rattle.tree_definitions.specs.DefinitionTree.{DefinitionTree}
use Rattle.graphql_faults.specs.in_grammar.Places.{place_in}
use Rattle.schema_fold.specs.BuildErrors as rule
use Rattle.schema_fold.specs.BuildErrors.{BuildFault, Fails, Breach, RepeatedIn}
use Rattle.schema_fold.specs.Components.{components, field_key, value_key, input_key}
use Rattle.schema_fold.specs.NumberedDefinition.{Definitions, numbered, type_name, types_in}
use Rattle.schema_fold.specs.SchemaFold.{root_key, roots_given}
use Rattle.schema_fold.specs.in_components.Given.{Given, given_name}
use Rattle.schema_fold.specs.in_components.Lists.{AtSomePlace, IsRepeated, firsts, has_name, repeats}
use Rattle.schema_fold.proofs.in_components.Places.{not_in_nil, given_at, is_only}
use Rattle.document_typing.specs.in_schema_building.Numbers.{HaveNumbers}
use Rattle.schema_types.specs.TypeParts.{TypeParts, TypeDefinition, with_fields, type_here}
use Rattle.schema_types.specs.declared.type_kind.TypeKind.{TypeKind}
use Rattle.schema_types.specs.declared.type_kind.TypeKind.TheVariants as kind
use Rattle.rule_definitions.proofs.Lists.{given_in}
use Rattle.verdict_definitions.specs.Texts.{AreWithin}
use Rattle.verdict_definitions.specs.Meaning.{all_definitions}
use Rattle.verdict_definitions.specs.Judge.{Folds}
use Rattle.verdict_definitions.proofs.RowReading.{reader, is_within}
use Rattle.verdict_definitions.proofs.RowTrees.{terms, named, field_definition, fields_of, object}
use Rattle.verdict_definitions.proofs.TextRows.{query_field, query_field_tree}

-- ---- lists of one, and repeats

module _ {X : Type 0} (x : X) where
  not_after : (zs after : List X) (y : X) → [] ≡ zs ++ y ∷ after → ⊥
  not_after [] after y e = cc
  not_after (z ∷ zs) after y e = cc

  abbrev tail : List X → List X
  tail [] = []
  tail (z ∷ zs) = zs

  -- what is in a list of one
  at_one : (P : List X → X → Type 0) → AtSomePlace P (x ∷ []) → P [] x
  at_one P ([], (y, ((after, e), p))) = let same : x ≡ y = cc in subst (P []) (sym same) p
  at_one P (z ∷ zs, (y, ((after, e), p))) = absurd (not_after zs after y (ap tail e))

-- what is repeated is among the repeats
is_among_repeats : {X : Type 0} (name : X → List ℕ) (xs : List X) (x : X) → IsRepeated name xs x → Contains (repeats name xs) x
is_among_repeats name xs x (before, (y, (at, (same, repeated)))) =
    given_at (λ b z. if has_name name (name z) b then z ∷ [] else []) xs x
    (before, (y, (at, subst (λ c. Contains (if c then y ∷ [] else []) x) (sym (ap (λ z. has_name name (name z) before) same ∙ repeated)) (is_only y x (sym same)))))

module _ (built_in texts : Definitions) (first : ℕ) (fault : BuildFault) where
  -- where no type repeats a component, the rule is not broken
  none_repeated : {A : Type 0} (k : TypeKind) (of : TypeParts Place → List A) (key : Given Place A → List ℕ) (place : A → Place) (breach : List ℕ → List ℕ → Breach)
      → flat_map (λ t. repeats key (components of (numbered first (built_in ++ texts)) t)) (firsts type_name (types_in (built_in ++ texts))) ≡ []
      → RepeatedIn built_in texts k of key place breach first fault → ⊥
  none_repeated k of key place breach none (t, (g, (c, same, repeated, is))) =
      not_in_nil g (subst (λ l. Contains l g) none (given_in (λ u. repeats key (components of (numbered first (built_in ++ texts)) u)) g (firsts type_name (types_in (built_in ++ texts))) t c
      (is_among_repeats key (components of (numbered first (built_in ++ texts)) t) g repeated)))

-- ---- the one definition of the text

abbrev definition : DefinitionTree Place
definition = object (place_in 1 0 25) (named (codes "Query") (place_in 1 5 10)) (field_definition (codes "field") 13 18 (codes "Int") 20 23 ∷ [])

abbrev query_type : TypeDefinition Place
query_type = record { place = place_in 1 0 25; description = None; parts = with_fields kind.Object (fields_of (named (codes "Query") (place_in 1 5 10)) [] (field_definition (codes "field") 13 18 (codes "Int") 20 23 ∷ [])) }

is_second : Definitions → TypeDefinition Place → Bool
is_second before t = has_name type_name (type_name t) (types_in (built_in_definitions ++ before))

-- `Query` is not built in
not_second : is_second [] query_type ≡ false
unfolding is_second built_in_definitions
not_second = refl

never_second : (t : TypeDefinition Place) → type_here definition ≡ Some t → is_second [] t ≡ true → ⊥
never_second t e h = true≢false (sym h ∙ ap (is_second []) (sym (same_Some query_type t e)) ∙ not_second)

pub query_folds : Folds terms (query_field_tree ∷ [])
unfolding is_second built_in_definitions
query_folds fault (rule.executable_definition p) = true≢false (sym (at_one definition (λ b d. rule.ExecutableDefinitionAt b d fault) p).0)
query_folds fault (rule.schema_definition_collision p) = true≢false (sym (at_one definition (λ b d. rule.SchemaDefinitionCollisionAt b d fault) p).0)
query_folds fault (rule.directive_definition_collision p) = true≢false (sym (ap is_some (at_one definition (λ b d. rule.DirectiveDefinitionCollisionAt b d fault) p).1.0))
query_folds fault (rule.type_definition_collision p) = let q = at_one definition (λ b d. rule.TypeDefinitionCollisionAt built_in_definitions query_field_tree b d fault) p in never_second q.0 q.1.0.0 q.1.0.1
query_folds fault (rule.built_in_scalar_type_redefinition p) = let q = at_one definition (λ b d. rule.BuiltInScalarTypeRedefinitionAt built_in_definitions query_field_tree b d fault) p in never_second q.0 q.1.0.0 q.1.0.1
query_folds fault (rule.orphan_schema_extension p) = true≢false (sym (at_one definition (λ b d. rule.OrphanSchemaExtensionAt built_in_definitions query_field_tree b d fault) p).0)
query_folds fault (rule.orphan_type_extension p) = true≢false (sym (ap is_some (at_one definition (λ b d. rule.OrphanTypeExtensionAt built_in_definitions query_field_tree b d fault) p).1.0))
query_folds fault (rule.type_extension_kind_mismatch p) = true≢false (sym (ap is_some (at_one definition (λ b d. rule.TypeExtensionKindMismatchAt built_in_definitions query_field_tree b d fault) p).1.1.0))
query_folds fault (rule.duplicate_root_operation (g, (repeated, is))) = not_in_nil g (is_among_repeats root_key (roots_given 1 (built_in_definitions ++ query_field_tree)) g repeated)
query_folds fault (rule.duplicate_implements_interface_in_object p) = none_repeated built_in_definitions query_field_tree 1 fault kind.Object (λ q. q.interfaces) given_name (λ x. x.place) rule.DuplicateImplementsInterfaceInObject refl p
query_folds fault (rule.duplicate_implements_interface_in_interface p) = none_repeated built_in_definitions query_field_tree 1 fault kind.Interface (λ q. q.interfaces) given_name (λ x. x.place) rule.DuplicateImplementsInterfaceInInterface refl p
query_folds fault (rule.object_field_name_collision p) = none_repeated built_in_definitions query_field_tree 1 fault kind.Object (λ q. q.fields) field_key (λ x. x.place) rule.ObjectFieldNameCollision refl p
query_folds fault (rule.interface_field_name_collision p) = none_repeated built_in_definitions query_field_tree 1 fault kind.Interface (λ q. q.fields) field_key (λ x. x.place) rule.InterfaceFieldNameCollision refl p
query_folds fault (rule.enum_value_name_collision p) = none_repeated built_in_definitions query_field_tree 1 fault kind.Enum (λ q. q.values) value_key (λ x. x.place) rule.EnumValueNameCollision refl p
query_folds fault (rule.union_member_name_collision p) = none_repeated built_in_definitions query_field_tree 1 fault kind.Union (λ q. q.members) given_name (λ x. x.place) rule.UnionMemberNameCollision refl p
query_folds fault (rule.input_field_name_collision p) = none_repeated built_in_definitions query_field_tree 1 fault kind.InputObject (λ q. q.inputs) input_key (λ x. x.place) rule.InputFieldNameCollision refl p

-- ---- the bounds

pub query_within : AreWithin 500 1 (query_field ∷ [])
unfolding reader
query_within = (is_within 500 1 query_field query_field_tree refl (λ passed. omega (arith, passed)), tt)

-- it has no extension
pub query_numbered : HaveNumbers 1 (all_definitions (query_field_tree ∷ []))
query_numbered some = omega arith
