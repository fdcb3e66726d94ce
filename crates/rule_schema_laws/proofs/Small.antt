-- The small schema keeps every rule.
use Rattle.std.proofs.Common.{◌≡◌, ℕ, zero, suc, ◌<◌, arith, Bool, true, false, List, [], codes, bytes_eq, slice_get, refl, sym, ap, subst, ◌∙◌, ◌⊎◌, inl, inr, Option, None, Some, option_map, true≢false, is_some, if◌then◌else◌}
use Rattle.std.specs.FinMap as fin
use Rattle.std.specs.FinSet as set
use Rattle.std.specs.Cmp.Lexicographic.{nat_list_cmp_total}
use Rattle.std.proofs.lemmas.Option.{same_Some}
use Rattle.std.proofs.lemmas.Slice.Eq.{bytes_eq-Decides}
use Rattle.graphql_names.specs.Placed.{Placed, Place}
use Rattle.rule_definitions.specs.in_schema_types.in_operations.DirectiveTree.{DirectiveDefinitionTree, InputValueTree}
use Rattle.rule_definitions.specs.in_schema_types.in_operations.in_directives.declared.directive_location.DirectiveLocation.{DirectiveLocation}
use Rattle.rule_definitions.specs.in_schema_types.in_operations.in_directives.declared.directive_location.DirectiveLocation.TheVariants as location
use Rattle.rule_definitions.specs.in_schema_types.in_operations.in_directives.declared.operation_type.OperationType.TheVariants as operation
use Rattle.rule_definitions.specs.in_schema_types.in_type_members.TypeSystemTree.{FieldDefinitionTree, EnumValueTree, unplaced_field_definition}
use Rattle.rule_definitions.specs.in_components.Names.{by_bytes}
use Rattle.rule_definitions.specs.in_components.Given.{Given, plain_given}
use Rattle.rule_definitions.specs.in_schema_types.SchemaTree.{SchemaType, is_input_kind, is_output_kind, kind_words}
use Rattle.rule_definitions.specs.in_schema_types.Looks.{TypeLooks}
use Rattle.rule_definitions.specs.in_schema_types.Addresses.{Address, TypeAt, FieldAt, TypeReferenceAt}
use Rattle.rule_definitions.specs.in_schema_types.declared.type_kind.TypeKind.TheVariants as kind
use Rattle.rule_definitions.specs.Words.{Present}
use Rattle.rule_definitions.specs.Spots.{At, spotted_directives}
use Rattle.rule_definitions.specs.Faults.{SchemaFault, told}
use Rattle.rule_definitions.specs.Judged.{Judged, judged, AtArgument, applied_directives, AtInputField, AtInputValue, AtValue, type_location}
use Rattle.rule_definitions.specs.Uses.{UsesBreak}
use Rattle.rule_definitions.specs.Rules.{SchemaRules, ReferencesBreak, EmptyBreaks, InterfacesBreak, CyclesBreak, SchemaUsesBreak}
use Rattle.rule_definitions.specs.Names.{scalar_names, named_in, is_reserved}
use Rattle.rule_definitions.specs.TypesUsed.{IsUndefinedAt}
use Rattle.rule_definitions.specs.ReservedNames.{IsReservedAt}
use Rattle.rule_definitions.specs.Diagnostics.{InputType}
use Rattle.rule_definitions.specs.RootTypes.{root_types_in}
use Rattle.rule_definitions.proofs.Lookups.{text_found}
use Rattle.rule_schema_laws.specs.Small.{small, type_q, type_foo, field_a, IsWithout}
use Rattle.schema_types.proofs.UnderNames.{get_under}
use Rattle.rule_schema_laws.proofs.Validated.{named_type, looks_of}
use Rattle.rule_schema_laws.proofs.Others.{others_have_none}

abbrev s : Judged
s = judged small

-- ---- what is there

type_there : (n : List ℕ) (t : TypeLooks) → s.type_named n ≡ Some t → ((n ≡ codes "Q") × (t ≡ looks_of type_q)) ⊎ ((n ≡ codes "Foo") × (t ≡ looks_of type_foo))
type_there n t e = by (bytes_eq n (codes "Q")) refl (bytes_eq n (codes "Foo")) refl (sym (named_type small n) ∙ e)
  where
    by : (b : Bool) → bytes_eq n (codes "Q") ≡ b → (c : Bool) → bytes_eq n (codes "Foo") ≡ c
        → option_map looks_of (option_map (λ (x : List ℕ × SchemaType Place). x.1) (if b then Some (codes "Q", type_q) else (if c then Some (codes "Foo", type_foo) else None))) ≡ Some t
        → ((n ≡ codes "Q") × (t ≡ looks_of type_q)) ⊎ ((n ≡ codes "Foo") × (t ≡ looks_of type_foo))
    by true h c i e = inl ((bytes_eq-Decides n (codes "Q")).0 h, sym (same_Some _ _ e))
    by false h true i e = inr ((bytes_eq-Decides n (codes "Foo")).0 i, sym (same_Some _ _ e))
    by false h false i e = cc

foo_there : s.type_named (codes "Foo") ≡ Some (looks_of type_foo)
foo_there = named_type small (codes "Foo")

q_there : s.type_named (codes "Q") ≡ Some (looks_of type_q)
q_there = named_type small (codes "Q")

no_directive : (n : List ℕ) (d : DirectiveDefinitionTree (Unit {0})) → s.directive n ≡ Some d → ⊥
no_directive n d e = true≢false (ap is_some (sym e ∙ fin.get-empty by_bytes n))

-- of neither type there is more than a field
record IsQuiet (t : TypeLooks) : Type 0 where
  implements : (m : List ℕ) → t.implements m ≡ false
  members : (m : List ℕ) → t.has_member m ≡ false
  values : (m : List ℕ) → t.value m ≡ None
  inputs : (m : List ℕ) → t.input m ≡ None
  directives : t.directives ≡ []
  kinds : (t.kind ≡ kind.Object) ⊎ (t.kind ≡ kind.Scalar)
  fields : (m : List ℕ) (f : FieldDefinitionTree (Unit {0})) → t.field m ≡ Some f → (m ≡ codes "a") × (f ≡ unplaced_field_definition field_a)

field_there : (m : List ℕ) (f : FieldDefinitionTree (Unit {0})) → (looks_of type_q).field m ≡ Some f → (m ≡ codes "a") × (f ≡ unplaced_field_definition field_a)
field_there m f e = by (bytes_eq m (codes "a")) refl (sym (get_under (plain_given unplaced_field_definition) m type_q.fields) ∙ e)
  where
    by : (b : Bool) → bytes_eq m (codes "a") ≡ b → option_map (plain_given unplaced_field_definition) (option_map (λ (x : List ℕ × Given Place (Placed Place (FieldDefinitionTree Place))). x.1) (if b then Some (codes "a", record { extension = None; it = record { it = field_a; place = None } }) else None)) ≡ Some f
        → (m ≡ codes "a") × (f ≡ unplaced_field_definition field_a)
    by true h e = ((bytes_eq-Decides m (codes "a")).0 h, sym (same_Some _ _ e))
    by false h e = cc

quiet_q : IsQuiet (looks_of type_q)
quiet_q = record {
  implements = λ m. set.contains-from_list nat_list_cmp_total [] m;
  members = λ m. set.contains-from_list nat_list_cmp_total [] m;
  values = λ m. fin.get-empty by_bytes m;
  inputs = λ m. fin.get-empty by_bytes m;
  directives = refl;
  kinds = inl refl;
  fields = field_there;
}

quiet_foo : IsQuiet (looks_of type_foo)
quiet_foo = record {
  implements = λ m. set.contains-from_list nat_list_cmp_total [] m;
  members = λ m. set.contains-from_list nat_list_cmp_total [] m;
  values = λ m. fin.get-empty by_bytes m;
  inputs = λ m. fin.get-empty by_bytes m;
  directives = refl;
  kinds = inr refl;
  fields = λ m f e. absurd (true≢false (ap is_some (sym e ∙ fin.get-empty by_bytes m)));
}

quiet : (n : List ℕ) (t : TypeLooks) → s.type_named n ≡ Some t → IsQuiet t
quiet n t e = elim (type_there n t e) [ inl q ↦ subst IsQuiet (sym q.1) quiet_q | inr f ↦ subst IsQuiet (sym f.1) quiet_foo ]

-- ---- no rule is broken

no_some : {X : Type 0} {x : X} {o : Option X} → o ≡ None → o ≡ Some x → ⊥
no_some a b = true≢false (ap is_some (sym b ∙ a))

no_true : {b : Bool} → b ≡ false → b ≡ true → ⊥
no_true a b = true≢false (sym b ∙ a)

no_argument : (P : Address → InputValueTree (Unit {0}) → Type 0) → AtArgument s P → ⊥
no_argument P (inl (n, (t, (e, (m, (f, (h, (i, (v, (at, p)))))))))) = no_some refl (sym (ap (λ (g : FieldDefinitionTree (Unit {0})). slice_get g.arguments i) ((quiet n t e).fields m f h).1) ∙ at)
no_argument P (inr (n, (d, (e, p)))) = no_directive n d e

no_input_field : (P : List ℕ → List ℕ → InputValueTree (Unit {0}) → Type 0) → AtInputField s P → ⊥
no_input_field P (n, (t, (e, (m, (v, (h, p)))))) = no_some ((quiet n t e).inputs m) h

no_input : (P : Address → InputValueTree (Unit {0}) → Type 0) → AtInputValue s P → ⊥
no_input P (inl a) = no_argument P a
no_input P (inr a) = no_input_field _ a

no_value : (P : List ℕ → List ℕ → EnumValueTree (Unit {0}) → Type 0) → AtValue s P → ⊥
no_value P (n, (t, (e, (m, (v, (h, p)))))) = no_some ((quiet n t e).values m) h

no_uses : (place : DirectiveLocation) (fault : SchemaFault) → UsesBreak At s [] place [] fault → ⊥
no_uses place fault (inl (j, (later, (at, p)))) = no_some refl at
no_uses place fault (inr (j, (d, (at, p)))) = no_some refl at

references : (fault : SchemaFault) → ReferencesBreak s fault → ⊥
references fault (inl (none, told)) = cc none
references fault (inr (inl (operation.Query, (n, (e, (none, told)))))) = no_some (ap s.type_named (same_Some _ _ e) ∙ none) q_there
references fault (inr (inl (operation.Mutation, (n, (e, p))))) = cc
references fault (inr (inl (operation.Subscription, (n, (e, p))))) = cc
references fault (inr (inr (inl (operation.Query, (n, (e, (t, (there, (other, told))))))))) = other (ap (λ (u : TypeLooks). u.kind) (same_Some _ _ (sym there ∙ sym (ap s.type_named (same_Some _ _ e)) ∙ q_there)))
references fault (inr (inr (inl (operation.Mutation, (n, (e, p)))))) = cc
references fault (inr (inr (inl (operation.Subscription, (n, (e, p)))))) = cc
references fault (inr (inr (inr (inl (j, (later, (at, (i, (first, (at', (same, (is_first, (less, told))))))))))))) = one i j first later less at' at
  where
    one : (i j : ℕ) (a b : _) → i < j → slice_get (root_types_in s.definition) i ≡ Some a → slice_get (root_types_in s.definition) j ≡ Some b → ⊥
    one i zero a b less e f = absurd (omega (arith, less))
    one i (suc j) a b less e f = no_some refl f
references fault (inr (inr (inr (inr (inl (inl (n, (t, (e, (mark, (reserved, told))))))))))) = elim (type_there n t e) [
  | inl q ↦ no_true (ap is_reserved q.0) reserved
  | inr f ↦ no_true (ap is_reserved f.0) reserved
]
references fault (inr (inr (inr (inr (inl (inr (inl (n, (d, (e, p)))))))))) = no_directive n d e
references fault (inr (inr (inr (inr (inl (inr (inr (inl (n, (t, (e, (m, (f, (h, (mark, (reserved, told)))))))))))))))) = no_true (ap is_reserved ((quiet n t e).fields m f h).0) reserved
references fault (inr (inr (inr (inr (inl (inr (inr (inr (inl a))))))))) = no_argument (λ at v. IsReservedAt s fault at v.name.it (codes "an argument")) a
references fault (inr (inr (inr (inr (inl (inr (inr (inr (inr (inl a)))))))))) = no_input_field _ a
references fault (inr (inr (inr (inr (inl (inr (inr (inr (inr (inr a)))))))))) = no_value _ a
references fault (inr (inr (inr (inr (inr (inl (n, (t, (e, (m, (f, (h, (none, told))))))))))))) = no_some (ap (λ (g : FieldDefinitionTree (Unit {0})). s.type_named (named_in g.ty)) (sym ((quiet n t e).fields m f h).1) ∙ none) foo_there
references fault (inr (inr (inr (inr (inr (inr (inl a))))))) = no_input (λ at v. IsUndefinedAt s fault at v.ty.it) a
references fault (inr (inr (inr (inr (inr (inr (inr (inl (n, (t, (e, (m, (has, p))))))))))))) = no_true ((quiet n t e).members m) has
references fault (inr (inr (inr (inr (inr (inr (inr (inr (inl (n, (t, (e, (m, (f, (h, (u, (there, (bad, told)))))))))))))))))) =
    no_true bad (ap (λ (w : TypeLooks). is_output_kind w.kind) (same_Some _ _ (sym there ∙ ap (λ (g : FieldDefinitionTree (Unit {0})). s.type_named (named_in g.ty)) ((quiet n t e).fields m f h).1 ∙ foo_there)))
references fault (inr (inr (inr (inr (inr (inr (inr (inr (inr (inl a)))))))))) = no_input (λ at v. Present (s.type_named (named_in v.ty.it)) (λ t. (is_input_kind t.kind ≡ false) × (fault ≡ told at (InputType v.name.it (kind_words t.kind) (TypeReferenceAt at))))) a
references fault (inr (inr (inr (inr (inr (inr (inr (inr (inr (inr (inl (n, (t, (e, (m, (has, p)))))))))))))))) = no_true ((quiet n t e).members m) has
references fault (inr (inr (inr (inr (inr (inr (inr (inr (inr (inr (inr (inl (n, (t, (e, (m, (f, (h, (j, (later, (at, p))))))))))))))))))))) = no_some refl (sym (ap (λ (g : FieldDefinitionTree (Unit {0})). slice_get g.arguments j) ((quiet n t e).fields m f h).1) ∙ at)
references fault (inr (inr (inr (inr (inr (inr (inr (inr (inr (inr (inr (inr (n, (d, (e, p))))))))))))))) = no_directive n d e

empties : (fault : SchemaFault) → EmptyBreaks s fault → ⊥
empties fault (inl (n, (t, (e, (kinds, (empty, told)))))) = elim (type_there n t e) [
  | inl q ↦ no_some (sym (ap (λ (u : TypeLooks). u.field (codes "a")) q.1) ∙ empty (codes "a")) (get_under (plain_given unplaced_field_definition) (codes "a") type_q.fields)
  | inr f ↦ elim kinds [ inl k ↦ cc (sym (ap (λ (u : TypeLooks). u.kind) f.1) ∙ k) | inr k ↦ cc (sym (ap (λ (u : TypeLooks). u.kind) f.1) ∙ k) ]
]
empties fault (inr (inl (n, (t, (e, (k, p)))))) = elim ((quiet n t e).kinds) [ inl o ↦ cc (sym o ∙ k) | inr o ↦ cc (sym o ∙ k) ]
empties fault (inr (inr (inl (n, (t, (e, (k, p))))))) = elim ((quiet n t e).kinds) [ inl o ↦ cc (sym o ∙ k) | inr o ↦ cc (sym o ∙ k) ]
empties fault (inr (inr (inr (n, (t, (e, (k, p))))))) = elim ((quiet n t e).kinds) [ inl o ↦ cc (sym o ∙ k) | inr o ↦ cc (sym o ∙ k) ]

interfaces : (fault : SchemaFault) → InterfacesBreak s fault → ⊥
interfaces fault (inl (n, (t, (e, (i, (has, p)))))) = no_true ((quiet n t e).implements i) has
interfaces fault (inr (inl (n, (t, (e, (k, (has, p))))))) = no_true ((quiet n t e).implements n) has
interfaces fault (inr (inr (inl (n, (t, (e, (i, (has, p)))))))) = no_true ((quiet n t e).implements i) has
interfaces fault (inr (inr (inr (inl (n, (t, (e, (i, (has, p))))))))) = no_true ((quiet n t e).implements i) has
interfaces fault (inr (inr (inr (inr (inl (n, (t, (e, (i, (has, p)))))))))) = no_true ((quiet n t e).implements i) has
interfaces fault (inr (inr (inr (inr (inr (inl (n, (t, (e, (i, (has, p))))))))))) = no_true ((quiet n t e).implements i) has
interfaces fault (inr (inr (inr (inr (inr (inr (inl (n, (t, (e, (i, (has, p)))))))))))) = no_true ((quiet n t e).implements i) has
interfaces fault (inr (inr (inr (inr (inr (inr (inr (n, (t, (e, (i, (has, p)))))))))))) = no_true ((quiet n t e).implements i) has

cycles : (fault : SchemaFault) → CyclesBreak s fault → ⊥
cycles fault (inl (n, (by, (rest, ((z, ((t, (e, (k, p))), leads)), told))))) = elim ((quiet n t e).kinds) [ inl o ↦ cc (sym o ∙ k) | inr o ↦ cc (sym o ∙ k) ]
cycles fault (inr (n, (by, (rest, ((z, ((d, (e, p)), leads)), told))))) = no_directive n d e

uses : (fault : SchemaFault) → SchemaUsesBreak s fault → ⊥
uses fault (inl a) = no_uses _ fault a
uses fault (inr (inl (n, (t, (e, (scalar, a)))))) = no_uses _ fault (subst (λ ds. UsesBreak At s [] (type_location t.kind) (spotted_directives (TypeAt n) ds) fault) (quiet n t e).directives a)
uses fault (inr (inr (inl (n, (t, (e, (m, (f, (h, a))))))))) = no_uses _ fault (subst (λ (g : FieldDefinitionTree (Unit {0})). UsesBreak At s [] location.FieldDefinition (spotted_directives (FieldAt n m) (applied_directives g.directives)) fault) ((quiet n t e).fields m f h).1 a)
uses fault (inr (inr (inr (inl a)))) = no_argument (λ x v. UsesBreak At s [] location.ArgumentDefinition (spotted_directives x (applied_directives v.directives)) fault) a
uses fault (inr (inr (inr (inr (inl a))))) = no_value _ a
uses fault (inr (inr (inr (inr (inr (inl a)))))) = no_input_field _ a
uses fault (inr (inr (inr (inr (inr (inr (n, (d, (e, p))))))))) = no_directive n d e

rules : SchemaRules s
rules fault (inl a) = references fault a
rules fault (inr (inl a)) = empties fault a
rules fault (inr (inr (inl a))) = interfaces fault a
rules fault (inr (inr (inr (inl a)))) = cycles fault a
rules fault (inr (inr (inr (inr a)))) = uses fault a

pub without : IsWithout
without = record {
  rules = rules;
  input = (looks_of type_foo, (foo_there, refl));
  none = others_have_none s (record { it = codes "Foo"; place = tt }) (looks_of type_foo, (foo_there, (refl, refl))) (λ c. no_true refl (text_found scalar_names (codes "Foo") c));
}
