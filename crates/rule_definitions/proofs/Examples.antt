-- Small schemas, by computation: what breaks a rule, and what next to it does not.
use Rattle.std.proofs.Common.{◌≡◌, ℕ, zero, suc, Bool, true, false, List, [], ◌∷◌, codes, if◌then◌else◌, is_some, unwrap_or, bytes_eq, Option, None, Some, refl, sym, ap, subst, ◌∙◌, inl, inr, true≢false}
use Rattle.std.proofs.lemmas.Option.{same_Some}
use Rattle.graphql_names.specs.Placed.{Placed, Text}
use Rattle.tree_literals.specs.TypeTree.{TypeTree, NamedTree, NonNullNamedTree, ListTree, NonNullListTree}
use Rattle.tree_literals.specs.ValueTree.{NullTree, VariableTree, ListTree as ListValueTree, no_items}
use Rattle.tree_directives.specs.DirectiveTree.{DirectiveTree, InputValueTree, DirectiveDefinitionTree}
use Rattle.schema_types.specs.in_type_members.TypeSystemTree.{FieldDefinitionTree}
use Rattle.schema_types.specs.Looks.{TypeLooks}
use Rattle.schema_types.specs.Addresses.{TypeAt, FieldAt, InputAt, DirectiveDefinitionAt, ArgumentAt}
use Rattle.schema_types.specs.declared.type_kind.TypeKind.{TypeKind}
use Rattle.schema_types.specs.declared.type_kind.TypeKind.TheVariants as kind
use Rattle.rule_definitions.specs.Diagnostics.{EmptyFieldSet, InvalidImplementationFieldType, RecursiveInputObjectDefinition}
use Rattle.rule_definitions.specs.Words.{AtSomeIndex}
use Rattle.rule_definitions.specs.Spots.{At}
use Rattle.rule_definitions.specs.Faults.{SchemaFault, told, wrong}
use Rattle.rule_definitions.specs.Judged.{Judged, applied_directives}
use Rattle.rule_definitions.specs.Empty.{EmptyFieldSetAt}
use Rattle.rule_definitions.specs.Subtypes.{is_valid_type}
use Rattle.rule_definitions.specs.Interfaces.{InvalidImplementationFieldTypeAt}
use Rattle.rule_definitions.specs.Things.{Thing, ADirective}
use Rattle.rule_definitions.specs.Cycles.{Referring, RefersByUse, RefersByInput, Refers, RecursiveInputObjectDefinitionAt}
use Rattle.rule_definitions.specs.Accepts.{Accepts}

-- ---- what schemas are made of

abbrev text : List ℕ → Text (Unit {0})
text n = record { it = n; place = tt }

abbrev q_name : List ℕ
q_name = codes "Q"

abbrev i_name : List ℕ
i_name = codes "I"

abbrev t_name : List ℕ
t_name = codes "T"

abbrev a_name : List ℕ
a_name = codes "a"

-- under one name
abbrev only : {X : Type 0} → List ℕ → X → List ℕ → Option X
only n x m = if bytes_eq n m then Some x else None

abbrev bare_type : TypeKind → List ℕ → TypeLooks
bare_type k n = record { kind = k; description = None; name = text n; directives = []; implements = λ m. false; field = λ m. None; has_member = λ m. false; value = λ m. None; input = λ m. None }

abbrev field_of : List ℕ → TypeTree (Unit {0}) → FieldDefinitionTree (Unit {0})
field_of n ty = record { description = None; name = text n; arguments = []; ty = ty; directives = [] }

abbrev input_of : List ℕ → TypeTree (Unit {0}) → InputValueTree (Unit {0})
input_of n ty = record { description = None; name = text n; ty = record { it = ty; place = tt }; default_value = None; directives = [] }

abbrev schema_of : (List ℕ → Option TypeLooks) → Judged
schema_of types = record {
  definition = record { description = None; directives = []; query = Some q_name; mutation = None; subscription = None };
  directive = λ n. None;
  type_named = types;
  built_in = λ at. false;
}

-- what stands there is the only thing
is_only : {X : Type 0} (b : Bool) (x y : X) → (if b then Some x else None) ≡ Some y → x ≡ y
is_only true x y e = ap (λ o. unwrap_or o x) e
is_only false x y e = absurd (true≢false (sym (ap is_some e)))

-- ---- EmptyFieldSet: `type Q` and `type Q { a: I }`

abbrev without_fields : TypeLooks
without_fields = bare_type kind.Object q_name

abbrev with_field : TypeLooks
with_field = record (bare_type kind.Object q_name) { field = only a_name (field_of a_name (NamedTree (text i_name))) }

empty : EmptyFieldSetAt (schema_of (only q_name without_fields)) (told (TypeAt q_name) (EmptyFieldSet q_name (TypeAt q_name) (TypeAt q_name)))
empty = (q_name, (without_fields, (refl, (inl refl, ((λ m. refl), refl)))))

not_empty : (fault : SchemaFault) → EmptyFieldSetAt (schema_of (only q_name with_field)) fault → ⊥
not_empty fault (n, (t, (there, (of_kind, (none, is))))) =
    true≢false (ap is_some (ap (λ x. x.field a_name) (is_only (bytes_eq q_name n) with_field t there) ∙ none a_name))

-- ---- InvalidImplementationFieldType: `interface I { a: I! }`, and `type T implements I` with `a: I` or `a: T!`

abbrev interface_type : TypeLooks
interface_type = record (bare_type kind.Interface i_name) { field = only a_name (field_of a_name (NonNullNamedTree (text i_name))) }

abbrev implementing : TypeTree (Unit {0}) → TypeLooks
implementing ty = record (bare_type kind.Object t_name) { implements = bytes_eq i_name; field = only a_name (field_of a_name ty) }

abbrev over : TypeTree (Unit {0}) → Judged
over ty = schema_of (λ n. if bytes_eq i_name n then Some interface_type else only t_name (implementing ty) n)

nullable_for_non_null : InvalidImplementationFieldTypeAt (over (NamedTree (text i_name)))
    (told (FieldAt t_name a_name) (InvalidImplementationFieldType t_name i_name a_name (NonNullNamedTree (text i_name)) (NamedTree (text i_name)) (FieldAt t_name a_name) (FieldAt i_name a_name)))
nullable_for_non_null =
    (t_name, (implementing (NamedTree (text i_name)), (refl, (i_name, (refl, (interface_type, (refl, (refl, (a_name, (field_of a_name (NonNullNamedTree (text i_name)), (refl, (field_of a_name (NamedTree (text i_name)), (refl, (refl, refl))))))))))))))

-- the subtype, non-null for nullable, lists with valid items; never the interface for the type, never nullable for non-null
subtypes : is_valid_type (over (NamedTree (text i_name))) (NonNullNamedTree (text i_name)) (NonNullNamedTree (text t_name)) ≡ true
subtypes = refl

lists : is_valid_type (over (NamedTree (text i_name))) (ListTree (NamedTree (text i_name))) (NonNullListTree (NonNullNamedTree (text t_name))) ≡ true
lists = refl

no_supertype : is_valid_type (over (NamedTree (text i_name))) (NamedTree (text t_name)) (NamedTree (text i_name)) ≡ false
no_supertype = refl

no_nullable_item : is_valid_type (over (NamedTree (text i_name))) (ListTree (NonNullNamedTree (text i_name))) (NonNullListTree (NamedTree (text i_name))) ≡ false
no_nullable_item = refl

-- ---- RecursiveInputObjectDefinition: `input I { a: I! }`, `input I { a: I }` and `input I { a: [I!]! }`

abbrev input_type : TypeTree (Unit {0}) → TypeLooks
input_type ty = record (bare_type kind.InputObject i_name) { input = only a_name (input_of a_name ty) }

abbrev inputs : TypeTree (Unit {0}) → Judged
inputs ty = schema_of (only i_name (input_type ty))

-- leads back, by the field `a`
leads_back : RecursiveInputObjectDefinitionAt (inputs (NonNullNamedTree (text i_name)))
    (wrong (At (TypeAt i_name)) (RecursiveInputObjectDefinition i_name (record { it = input_of a_name (NonNullNamedTree (text i_name)); place = At (InputAt i_name a_name) } ∷ [])))
leads_back = (
  i_name,
  (
    record { it = input_of a_name (NonNullNamedTree (text i_name)); place = At (InputAt i_name a_name) },
    (
      [],
      (
        (i_name, ((input_type (NonNullNamedTree (text i_name)), (refl, (refl, ((a_name, (input_of a_name (NonNullNamedTree (text i_name)), (refl, (refl, (text i_name, (refl, refl)))))), (input_type (NonNullNamedTree (text i_name)), (refl, refl)))))), refl)),
        refl,
      ),
    ),
  ),
)

-- `Name!` has the mark, and is no list
abbrev is_required_name : TypeTree (Unit {0}) → Bool
is_required_name (NonNullNamedTree n) = true
is_required_name ty = false

does_not : (ty : TypeTree (Unit {0})) → is_required_name ty ≡ false → (fault : SchemaFault) → RecursiveInputObjectDefinitionAt (inputs ty) fault → ⊥
does_not ty other fault (n, (by, (rest, ((z, ((t, (there, (of_kind, ((m, (v, (has, (is_by, (name, (is_name, leads)))))), target)))), back)), is)))) =
    let t_is : input_type ty ≡ t = is_only (bytes_eq i_name n) (input_type ty) t there in
    let v_is : input_of a_name ty ≡ v = is_only (bytes_eq a_name m) (input_of a_name ty) v (ap (λ x. x.input m) t_is ∙ has) in
    true≢false (sym (ap is_required_name (ap (λ x. x.ty.it) v_is ∙ is_name)) ∙ other)

not_by_nullable : (fault : SchemaFault) → RecursiveInputObjectDefinitionAt (inputs (NamedTree (text i_name))) fault → ⊥
not_by_nullable = does_not (NamedTree (text i_name)) refl

not_by_list : (fault : SchemaFault) → RecursiveInputObjectDefinitionAt (inputs (NonNullListTree (NonNullNamedTree (text i_name)))) fault → ⊥
not_by_list = does_not (NonNullListTree (NonNullNamedTree (text i_name))) refl

-- ---- references: `directive @Q(a: I @T) @T`, where neither `I` nor `@T` is there

abbrev applied : DirectiveTree (Unit {0})
applied = record { name = text t_name; arguments = [] }

abbrev asked : InputValueTree (Unit {0})
asked = record (input_of a_name (NamedTree (text i_name))) { directives = record { it = applied; place = tt } ∷ [] }

abbrev asking : DirectiveDefinitionTree (Unit {0})
asking = record { description = None; name = text q_name; arguments = record { it = asked; place = tt } ∷ []; directives = record { it = applied; place = tt } ∷ []; repeatable = false; locations = [] }

abbrev alone : Judged
alone = record (schema_of (λ n. None)) { directive = λ n. only q_name asking n }

abbrev By : Type 0
By = Option (Referring (DirectiveTree (Unit {0})))

by_argument : (by : By) (to : Thing) → RefersByInput alone (ArgumentAt (DirectiveDefinitionAt q_name) 0) asked by to → ⊥
by_argument by to (inl (zero, (d, (here, (is, (of, there)))))) = true≢false (sym there ∙ ap (λ (x : DirectiveTree (Unit {0})). is_some (alone.directive x.name.it)) (sym (same_Some applied d here)))
by_argument by to (inl (suc i, (d, (here, r)))) = cc
by_argument by to (inr (none, (of, there))) = true≢false (sym there)

by_arguments : (by : By) (to : Thing) → AtSomeIndex asking.arguments (λ i v. RefersByInput alone (ArgumentAt (DirectiveDefinitionAt q_name) i) v.it by to) → ⊥
by_arguments by to (zero, (v, (here, r))) = by_argument by to (subst (λ (x : Placed (Unit {0}) (InputValueTree (Unit {0}))). RefersByInput alone (ArgumentAt (DirectiveDefinitionAt q_name) 0) x.it by to) (sym (same_Some (record { it = asked; place = tt }) v here)) r)
by_arguments by to (suc i, (v, (here, r))) = cc

by_own : (by : By) (to : Thing) → RefersByUse alone (DirectiveDefinitionAt q_name) (applied_directives asking.directives) by to → ⊥
by_own by to (zero, (d, (here, (is, (of, there))))) = true≢false (sym there ∙ ap (λ (x : DirectiveTree (Unit {0})). is_some (alone.directive x.name.it)) (sym (same_Some applied d here)))
by_own by to (suc i, (d, (here, r))) = cc

refers_to_nothing : (by : By) (to : Thing) → Refers alone (ADirective q_name) by to → ⊥
refers_to_nothing by to (d, (is, inl rest)) =
    by_arguments by to (subst (λ (x : DirectiveDefinitionTree (Unit {0})). AtSomeIndex x.arguments (λ i v. RefersByInput alone (ArgumentAt (DirectiveDefinitionAt q_name) i) v.it by to)) (sym (same_Some asking d is)) rest)
refers_to_nothing by to (d, (is, inr own)) =
    by_own by to (subst (λ (x : DirectiveDefinitionTree (Unit {0})). RefersByUse alone (DirectiveDefinitionAt q_name) (applied_directives x.directives) by to) (sym (same_Some asking d is)) own)

-- ---- Accepts: `null` and `[]` for `I`, `I!`, `[I!]` and `T`, which is not there, and a variable that is not defined

abbrev with_input : Judged
with_input = inputs (NamedTree (text i_name))

null_accepted : Accepts {P = Unit {0}} with_input [] (NamedTree (text i_name)) NullTree
null_accepted = ((λ t there. refl), tt)

null_refused : Accepts {P = Unit {0}} with_input [] (NonNullNamedTree (text i_name)) NullTree → ⊥
null_refused a = true≢false (a.0 (input_type (NamedTree (text i_name))) refl)

list_refused : Accepts {P = Unit {0}} with_input [] (NamedTree (text i_name)) (ListValueTree no_items) → ⊥
list_refused a = elim (a.0 (input_type (NamedTree (text i_name))) refl).0 [ inl e ↦ true≢false (sym e) | inr c ↦ cc ]

list_accepted : Accepts {P = Unit {0}} with_input [] (ListTree (NonNullNamedTree (text i_name))) (ListValueTree no_items)
list_accepted = ((λ t there. (inl refl, tt)), tt)

missing_accepts : Accepts {P = Unit {0}} with_input [] (NamedTree (text t_name)) (ListValueTree no_items)
missing_accepts = ((λ t there. absurd (true≢false (sym (ap is_some there)))), tt)

no_variable : Accepts {P = Unit {0}} with_input [] (NamedTree (text t_name)) (VariableTree (text a_name)) → ⊥
no_variable a = true≢false (sym a.1)
