-- What is read under other numbers than that of what is built in stands elsewhere, so that the laws hold of it.
use Rattle.std.proofs.Common.{◌≡◌, Bool, true, false, not, ◌&&◌, List, [], ◌∷◌, ◌++◌, refl, sym, subst, ◌∙◌, inl, inr, Option, None, Some, option_to_list, Contains, true≢false}
use Rattle.std.specs.List.{flat_map, AllByRecursion}
use Rattle.std.proofs.lemmas.Bool.{and_parts}
use Rattle.std.proofs.lemmas.Option.{same_Some}
use Rattle.std.proofs.lemmas.List.Elements.{Contains-append_right, Contains-append_cases}
use Rattle.graphql_names.specs.Placed.{Place, Placed}
use Rattle.graphql_names.specs.Places.{is_built_in}
use Rattle.schema_fold.specs.in_directives.DirectiveTree.{DirectiveDefinitionTree}
use Rattle.schema_fold.specs.in_type_members.TypeSystemTree.{FieldDefinitionTree}
use Rattle.schema_fold.specs.in_definitions.DefinitionTree as tree
use Rattle.schema_fold.specs.in_definitions.DefinitionTree.{DefinitionTree, unplaced_document}
use Rattle.schema_fold.specs.in_schema_types.TypeParts.{TypeParts, type_here, type_extension_here}
use Rattle.schema_fold.specs.NumberedDefinition.{Definitions, directive_here}
use Rattle.schema_fold.specs.Adoption.{Settings}
use Rattle.schema_fold.specs.BuiltIn.{built_in_definitions}
use Rattle.graphql_read.specs.EachPlace.{all_in_text, all_in_any, all_in_type, all_in_directives, all_in_node, all_in_nodes, all_in_input_value, all_in_input_values, all_in_field_definition, all_in_enum_value, all_in_fields, all_in_enum, all_in_input_object, all_in_directive_definition, all_in_definition}
use Rattle.graphql_read.specs.Sound.{is_own}
use Rattle.rule_definitions.proofs.Lists.{not_in_nil, Contains-first}
use Rattle.rule_schema_laws.specs.ReadTexts.{Texts, AreReadElsewhere}
use Rattle.rule_schema_laws.proofs.Fine.{all_so}
use Rattle.verdict_laws.specs.Elsewhere.{AreElsewhere, AreFieldsElsewhere, ArePartsElsewhere, IsElsewhere, AreAllElsewhere}
use Rattle.verdict_laws.specs.ReadTexts.{all_of, list_of, ReadTextsStandElsewhere, ElsewhereIsOwn, LawOfRearrangingReadTexts, LawOfCuttingReadTexts}
use Rattle.verdict_laws.proofs.RearrangedLists.{cut}
use Rattle.verdict_laws.proofs.Faults.{keep_the_rules}
use Rattle.verdict_laws.proofs.Marks.{are_equal, rearranged_same_verdict}
use Rattle.verdict_laws.proofs.Distinct.{left_equal}
use Rattle.verdict_laws.proofs.Cut.{writes_alike}
use Rattle.verdict_laws.proofs.WrittenSorts.{writes_permuted}
use Rattle.verdict_laws.proofs.Elsewhere.{type_elsewhere, other_elsewhere, settled_elsewhere}
use Rattle.verdict_laws.proofs.Adopted.{settled_rearranged, cut_settled}

-- ---- nodes

is_elsewhere : (p : Place) → is_own p ≡ true → is_built_in p ≡ false
is_elsewhere p h = by (is_built_in p) h
  where
    by : (b : Bool) → not b ≡ true → b ≡ false
    by true h = absurd (true≢false (sym h))
    by false h = refl

first_of : (a b c : Bool) → (a && b && c) ≡ true → a ≡ true
first_of true b c h = refl
first_of false b c h = h

third_of : (a b c d e : Bool) → (a && b && c && d && e) ≡ true → c ≡ true
third_of true true true d e h = refl
third_of true true false d e h = h
third_of true false c d e h = absurd (true≢false (sym h))
third_of false b c d e h = absurd (true≢false (sym h))

elsewhere : {A : Type 0} (inside : A → Bool) (xs : List (Placed Place A)) → all_in_nodes is_own inside xs ≡ true → AreElsewhere xs
elsewhere inside [] h = tt
elsewhere inside (x ∷ xs) h =
    let parts = and_parts (all_in_node is_own inside x) (all_in_nodes is_own inside xs) h in
    (is_elsewhere x.place (and_parts (is_own x.place) (inside x.it) parts.0).0, elsewhere inside xs parts.1)

fields_elsewhere : (fs : List (Placed Place (FieldDefinitionTree Place))) → all_in_nodes is_own (all_in_field_definition is_own) fs ≡ true → AreFieldsElsewhere fs
fields_elsewhere [] h = tt
fields_elsewhere (f ∷ fs) h =
    let parts = and_parts (all_in_node is_own (all_in_field_definition is_own) f) (all_in_nodes is_own (all_in_field_definition is_own) fs) h in
    let own = and_parts (is_own f.place) (all_in_field_definition is_own f.it) parts.0 in
    let arguments = third_of (all_in_any is_own (all_in_text is_own) f.it.description) (all_in_text is_own f.it.name) (all_in_input_values is_own f.it.arguments) (all_in_type is_own f.it.ty) (all_in_directives is_own f.it.directives) own.1 in
    ((is_elsewhere f.place own.0, elsewhere (all_in_input_value is_own) f.it.arguments arguments), fields_elsewhere fs parts.1)

-- ---- definitions

abbrev Directive : Type 0
Directive = Placed Place (DirectiveDefinitionTree Place)

extension_elsewhere : (d : DefinitionTree Place) (x : TypeParts Place) → type_here d ≡ None → type_extension_here d ≡ Some x → directive_here d ≡ None → ArePartsElsewhere x → IsElsewhere d
extension_elsewhere d x defines here directs parts = record {
  type = λ t h. cc (defines, h);
  extension = λ e h. subst ArePartsElsewhere (same_Some x e (sym here ∙ h)) parts;
  directive = λ y h. cc (directs, h);
}

directive_elsewhere : (d : DefinitionTree Place) (x : Directive) → type_here d ≡ None → type_extension_here d ≡ None → directive_here d ≡ Some x → is_built_in x.place ≡ false → AreElsewhere x.it.arguments → IsElsewhere d
directive_elsewhere d x defines extends here own arguments = record {
  type = λ t h. cc (defines, h);
  extension = λ e h. cc (extends, h);
  directive = λ y h. subst (λ (z : Directive). (is_built_in z.place ≡ false) × AreElsewhere z.it.arguments) (same_Some x y (sym here ∙ h)) (own, arguments);
}

definition_elsewhere : (d : DefinitionTree Place) → all_in_definition is_own d ≡ true → IsElsewhere d
definition_elsewhere (tree.Operation p o) h = other_elsewhere (tree.Operation p o) refl refl refl
definition_elsewhere (tree.Fragment p f) h = other_elsewhere (tree.Fragment p f) refl refl refl
definition_elsewhere (tree.DirectiveDefinition p x) h =
    let own = and_parts (is_own p) (all_in_directive_definition is_own x) h in
    directive_elsewhere (tree.DirectiveDefinition p x) _ refl refl refl (is_elsewhere p own.0) (elsewhere (all_in_input_value is_own) x.arguments (and_parts (all_in_input_values is_own x.arguments) (all_in_directives is_own x.directives) (and_parts _ (all_in_input_values is_own x.arguments && all_in_directives is_own x.directives) own.1).1).0)
definition_elsewhere (tree.Schema p d s) h = other_elsewhere (tree.Schema p d s) refl refl refl
definition_elsewhere (tree.ScalarType p d t) h = type_elsewhere (tree.ScalarType p d t) _ refl refl refl (is_elsewhere p (first_of (is_own p) _ _ h)) (record { fields = tt; values = tt; inputs = tt })
definition_elsewhere (tree.ObjectType p d t) h = type_elsewhere (tree.ObjectType p d t) _ refl refl refl (is_elsewhere p (first_of (is_own p) _ _ h))
    (record { fields = fields_elsewhere t.fields (and_parts _ (all_in_nodes is_own (all_in_field_definition is_own) t.fields) (and_parts _ (all_in_fields is_own t) h).1).1; values = tt; inputs = tt })
definition_elsewhere (tree.InterfaceType p d t) h = type_elsewhere (tree.InterfaceType p d t) _ refl refl refl (is_elsewhere p (first_of (is_own p) _ _ h))
    (record { fields = fields_elsewhere t.fields (and_parts _ (all_in_nodes is_own (all_in_field_definition is_own) t.fields) (and_parts _ (all_in_fields is_own t) h).1).1; values = tt; inputs = tt })
definition_elsewhere (tree.UnionType p d t) h = type_elsewhere (tree.UnionType p d t) _ refl refl refl (is_elsewhere p (first_of (is_own p) _ _ h)) (record { fields = tt; values = tt; inputs = tt })
definition_elsewhere (tree.EnumType p d t) h = type_elsewhere (tree.EnumType p d t) _ refl refl refl (is_elsewhere p (first_of (is_own p) _ _ h))
    (record { fields = tt; values = elsewhere (all_in_enum_value is_own) t.values (and_parts _ (all_in_nodes is_own (all_in_enum_value is_own) t.values) (and_parts _ (all_in_enum is_own t) h).1).1; inputs = tt })
definition_elsewhere (tree.InputObjectType p d t) h = type_elsewhere (tree.InputObjectType p d t) _ refl refl refl (is_elsewhere p (first_of (is_own p) _ _ h))
    (record { fields = tt; values = tt; inputs = elsewhere (all_in_input_value is_own) t.fields (and_parts _ (all_in_input_values is_own t.fields) (and_parts _ (all_in_input_object is_own t) h).1).1 })
definition_elsewhere (tree.ExtendSchema p s) h = other_elsewhere (tree.ExtendSchema p s) refl refl refl
definition_elsewhere (tree.ExtendScalar p t) h = extension_elsewhere (tree.ExtendScalar p t) _ refl refl refl (record { fields = tt; values = tt; inputs = tt })
definition_elsewhere (tree.ExtendObject p t) h = extension_elsewhere (tree.ExtendObject p t) _ refl refl refl
    (record { fields = fields_elsewhere t.fields (and_parts _ (all_in_nodes is_own (all_in_field_definition is_own) t.fields) (and_parts _ (all_in_fields is_own t) h).1).1; values = tt; inputs = tt })
definition_elsewhere (tree.ExtendInterface p t) h = extension_elsewhere (tree.ExtendInterface p t) _ refl refl refl
    (record { fields = fields_elsewhere t.fields (and_parts _ (all_in_nodes is_own (all_in_field_definition is_own) t.fields) (and_parts _ (all_in_fields is_own t) h).1).1; values = tt; inputs = tt })
definition_elsewhere (tree.ExtendUnion p t) h = extension_elsewhere (tree.ExtendUnion p t) _ refl refl refl (record { fields = tt; values = tt; inputs = tt })
definition_elsewhere (tree.ExtendEnum p t) h = extension_elsewhere (tree.ExtendEnum p t) _ refl refl refl
    (record { fields = tt; values = elsewhere (all_in_enum_value is_own) t.values (and_parts _ (all_in_nodes is_own (all_in_enum_value is_own) t.values) (and_parts _ (all_in_enum is_own t) h).1).1; inputs = tt })
definition_elsewhere (tree.ExtendInputObject p t) h = extension_elsewhere (tree.ExtendInputObject p t) _ refl refl refl
    (record { fields = tt; values = tt; inputs = elsewhere (all_in_input_value is_own) t.fields (and_parts _ (all_in_input_values is_own t.fields) (and_parts _ (all_in_input_object is_own t) h).1).1 })

pub texts_elsewhere : ReadTextsStandElsewhere
texts_elsewhere [] read d c = not_in_nil d c
texts_elsewhere ((file, ds) ∷ texts) ((other, sound), read) d c = elim (Contains-append_cases ds (all_of texts) d c) [
  | inl here ↦ definition_elsewhere d (all_so (all_in_definition is_own) ds d (sound.own other) here)
  | inr there ↦ texts_elsewhere texts read d there
]

-- ---- types and directives

module _ {X : Type 0} (here : DefinitionTree Place → Option X) (mark : X → Bool) where
  abbrev all_here : Definitions → List X
  all_here ds = flat_map (λ d. option_to_list (here d)) ds

  none_marked : (ds : Definitions) → ((d : DefinitionTree Place) → Contains ds d → (x : X) → here d ≡ Some x → mark x ≡ false) → AllByRecursion (λ x. mark x ≡ false) (all_here ds)
  none_marked [] h = tt
  none_marked (d ∷ ds) h = by (here d) (h d (Contains-first d ds d refl)) (none_marked ds (λ e c. h e (Contains-append_right (d ∷ []) ds e c)))
    where
      by : (o : Option X) → ((x : X) → o ≡ Some x → mark x ≡ false) → AllByRecursion (λ x. mark x ≡ false) (all_here ds) → AllByRecursion (λ x. mark x ≡ false) (option_to_list o ++ all_here ds)
      by None own rest = rest
      by (Some x) own rest = (own x refl, rest)

pub is_own_list : ElsewhereIsOwn
is_own_list ds h = record {
  types = none_marked type_here (λ t. is_built_in t.place) ds (λ d c t e. ((h d c).type t e).0);
  directives = none_marked directive_here (λ x. is_built_in x.place) ds (λ d c x e. ((h d c).directive x e).0);
}

-- ---- the laws

list_elsewhere : (settings : Settings) (texts : Texts) → AreReadElsewhere texts → AreAllElsewhere (list_of settings texts)
list_elsewhere settings texts read = settled_elsewhere built_in_definitions settings (all_of texts) (texts_elsewhere texts read)

pub rearranging : LawOfRearrangingReadTexts
rearranging settings i j texts others read other_read r =
    let list = settled_rearranged built_in_definitions settings (all_of texts) (all_of others) r in
    let own = list_elsewhere settings texts read in
    let other_own = list_elsewhere settings others other_read in
    record {
      folds = keep_the_rules built_in_definitions i j (list_of settings texts) (list_of settings others) list;
      rules = rearranged_same_verdict built_in_definitions i j (list_of settings texts) (list_of settings others) list own other_own;
      schema = are_equal built_in_definitions i j (list_of settings texts) (list_of settings others) list own other_own;
      for_documents = left_equal built_in_definitions i j (list_of settings texts) (list_of settings others) list own other_own;
      writes = writes_permuted built_in_definitions i j (list_of settings texts) (list_of settings others) list (is_own_list (list_of settings texts) own) (is_own_list (list_of settings others) other_own);
    }

pub cutting : LawOfCuttingReadTexts
cutting settings i j texts others read other_read same = (
  rearranging settings i j texts others read other_read (cut (all_of texts) (all_of others) same),
  writes_alike built_in_definitions i j (list_of settings texts) (list_of settings others) (cut_settled built_in_definitions settings (all_of texts) (all_of others) same)
      (is_own_list (list_of settings texts) (list_elsewhere settings texts read)) (is_own_list (list_of settings others) (list_elsewhere settings others other_read)),
)
