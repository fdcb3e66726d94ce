-- What is written of accepted texts is well-formed, and stands elsewhere than in the file of what is built in.
use Rattle.std.proofs.Common.{◌≡◌, ℕ, Bool, true, false, ◌&&◌, List, [], ◌∷◌, ◌++◌, map, None, Some, Contains, inl, inr, refl, sym, ap, subst, ◌∙◌, if◌then◌else◌}
use Rattle.std.specs.List.{filter, list_all}
use Rattle.std.proofs.lemmas.Bool.{and_from, and_parts}
use Rattle.std.proofs.lemmas.Option.{same_Some}
use Rattle.graphql_names.specs.NameSyntax.{is_name}
use Rattle.graphql_names.specs.Placed.{Place, Text}
use Rattle.tree_definitions.specs.in_type_members.TypeSystemTree.{SchemaParts}
use Rattle.tree_definitions.specs.DefinitionTree as tree
use Rattle.tree_definitions.specs.DefinitionTree.{DefinitionTree}
use Rattle.tree_definitions.specs.Queries.{definition_place}
use Rattle.schema_components.specs.in_operations.OperationQueries.{default_root_name}
use Rattle.schema_components.specs.in_operations.in_directives.declared.operation_type.OperationType.{OperationType}
use Rattle.schema_components.specs.in_operations.in_directives.declared.operation_type.OperationType.TheVariants as operation
use Rattle.schema_types.specs.TypeParts.{TypeParts, type_here, type_extension_here, extension_by}
use Rattle.schema_fold.specs.NumberedDefinition.{Definitions, directive_here}
use Rattle.schema_fold.specs.SchemaFold.{Root, SchemaGiver, schema_here, schema_extension_here, implicit_roots, is_object_in}
use Rattle.schema_fold.specs.BuildErrors.{FoldingRules}
use Rattle.round_trip.specs.WellFormed.{names_well_formed, directives_well_formed, field_definition_well_formed, enum_value_well_formed, input_values_well_formed, root_well_formed, schema_well_formed}
use Rattle.round_trip.specs.Definitions.{definition_well_formed}
use Rattle.verdict_laws.specs.WholeSchema.{roots_of, written_roots, whole_parts}
use Rattle.verdict_laws.specs.Table.{IsTable, AreOwn}
use Rattle.verdict_laws.specs.Twice.{WrittenOf}
use Rattle.verdict_laws.proofs.Order.{Each}
use Rattle.verdict_laws.specs.Elsewhere.{ArePartsElsewhere, IsElsewhere, AreAllElsewhere}
use Rattle.verdict_laws.proofs.Elsewhere.{other_elsewhere}
use Rattle.schema_fold.proofs.in_components.Places.{Contains-first, Contains-rest}
use Rattle.rule_cycle_search.proofs.Lists.{not_in_nil, Contains-cons}
use Rattle.verdict_laws.proofs.Sound.{all_append}
use Rattle.verdict_laws.proofs.Stays.{Stays, out_stays}

-- ---- well-formed

abbrev IsFormed : DefinitionTree Place → Type 0
IsFormed d = definition_well_formed d ≡ true

abbrev AreFormedParts : SchemaParts Place → Type 0
AreFormedParts p = schema_well_formed p ≡ true

-- under a name with the same text it is as well-formed as before
abbrev SameUnder : Text Place → DefinitionTree Place → Place → TypeParts Place → Type 0
SameUnder n d q p = n.it ≡ p.name.it → definition_well_formed (extension_by p.kind q (record p { name = n })) ≡ definition_well_formed d

same_under : (n : Text Place) (d : DefinitionTree Place) (p : TypeParts Place) → type_extension_here d ≡ Some p → SameUnder n d (definition_place d) p
same_under n (tree.ExtendScalar r t) p e = subst (SameUnder n (tree.ExtendScalar r t) r) (same_Some _ _ e) (λ k. ap (λ s. is_name s && directives_well_formed t.directives) k)
same_under n (tree.ExtendObject r t) p e = subst (SameUnder n (tree.ExtendObject r t) r) (same_Some _ _ e) (λ k. ap (λ s. is_name s && names_well_formed t.interfaces && directives_well_formed t.directives && list_all field_definition_well_formed t.fields) k)
same_under n (tree.ExtendInterface r t) p e = subst (SameUnder n (tree.ExtendInterface r t) r) (same_Some _ _ e) (λ k. ap (λ s. is_name s && names_well_formed t.interfaces && directives_well_formed t.directives && list_all field_definition_well_formed t.fields) k)
same_under n (tree.ExtendUnion r t) p e = subst (SameUnder n (tree.ExtendUnion r t) r) (same_Some _ _ e) (λ k. ap (λ s. is_name s && directives_well_formed t.directives && names_well_formed t.members) k)
same_under n (tree.ExtendEnum r t) p e = subst (SameUnder n (tree.ExtendEnum r t) r) (same_Some _ _ e) (λ k. ap (λ s. is_name s && directives_well_formed t.directives && list_all enum_value_well_formed t.values) k)
same_under n (tree.ExtendInputObject r t) p e = subst (SameUnder n (tree.ExtendInputObject r t) r) (same_Some _ _ e) (λ k. ap (λ s. is_name s && directives_well_formed t.directives && input_values_well_formed t.fields) k)
same_under n _ p e = cc

schema_formed : (d : DefinitionTree Place) (g : SchemaGiver) → schema_here d ≡ Some g → IsFormed d → AreFormedParts g.parts
schema_formed (tree.Schema q w s) g e h = subst (λ (g : SchemaGiver). AreFormedParts g.parts) (same_Some _ _ e) h
schema_formed _ g e h = cc

extension_formed : (d : DefinitionTree Place) (p : SchemaParts Place) → schema_extension_here d ≡ Some p → IsFormed d → AreFormedParts p
extension_formed (tree.ExtendSchema q s) p e h = subst AreFormedParts (same_Some _ _ e) h
extension_formed _ p e h = cc

implicit_formed : (ds : Definitions) → AreFormedParts (record { directives = []; roots = implicit_roots ds })
implicit_formed ds = by (is_object_in ds (default_root_name operation.Query)) (is_object_in ds (default_root_name operation.Mutation)) (is_object_in ds (default_root_name operation.Subscription))
  where
    root : OperationType → Root
    root o = record { it = record { operation_type = o; name = record { it = default_root_name o; place = None } }; place = None }

    by : (a b c : Bool) → list_all root_well_formed ((if a then root operation.Query ∷ [] else []) ++ ((if b then root operation.Mutation ∷ [] else []) ++ (if c then root operation.Subscription ∷ [] else []))) ≡ true
    by true true true = refl
    by true true false = refl
    by true false true = refl
    by true false false = refl
    by false true true = refl
    by false true false = refl
    by false false true = refl
    by false false false = refl

roots_formed : (o : OperationType) (f : Root → Bool) (rs : List Root) → list_all root_well_formed rs ≡ true → list_all root_well_formed (written_roots o (map (λ r. r.it.name) (filter f rs))) ≡ true
roots_formed o f [] h = refl
roots_formed o f (r ∷ rs) h = by (f r) (and_parts (root_well_formed r) (list_all root_well_formed rs) h).0 (roots_formed o f rs (and_parts (root_well_formed r) (list_all root_well_formed rs) h).1)
  where
    by : (b : Bool) → root_well_formed r ≡ true → list_all root_well_formed (written_roots o (map (λ r. r.it.name) (filter f rs))) ≡ true
        → list_all root_well_formed (written_roots o (map (λ r. r.it.name) (if b then r ∷ filter f rs else filter f rs))) ≡ true
    by true k rest = and_from (root_well_formed r) (list_all root_well_formed (written_roots o (map (λ r. r.it.name) (filter f rs)))) k rest
    by false k rest = rest

sorted_formed : (p : SchemaParts Place) → AreFormedParts p → AreFormedParts (whole_parts p)
sorted_formed p h =
    let k = and_parts (directives_well_formed p.directives) (list_all root_well_formed p.roots) h in
    and_from (directives_well_formed p.directives) (list_all root_well_formed (whole_parts p).roots) k.0
    (all_append root_well_formed (written_roots operation.Query (roots_of operation.Query p) ++ written_roots operation.Mutation (roots_of operation.Mutation p)) (written_roots operation.Subscription (roots_of operation.Subscription p))
    (all_append root_well_formed (written_roots operation.Query (roots_of operation.Query p)) (written_roots operation.Mutation (roots_of operation.Mutation p)) (roots_formed operation.Query _ p.roots k.1) (roots_formed operation.Mutation _ p.roots k.1))
    (roots_formed operation.Subscription _ p.roots k.1))

formed_stays : Stays IsFormed AreFormedParts
formed_stays = record {
  renamed = λ d p n e same h. same_under n d p e same ∙ h;
  schema = schema_formed;
  extension = extension_formed;
  implicit = implicit_formed;
  sorted = λ q w p h. sorted_formed p h;
  sorted_extension = λ q p h. sorted_formed p h;
}

each_formed : (ds : Definitions) → list_all definition_well_formed ds ≡ true → Each IsFormed ds
each_formed [] h = tt
each_formed (d ∷ ds) h = let k = and_parts (definition_well_formed d) (list_all definition_well_formed ds) h in (k.0, each_formed ds k.1)

all_are_formed : (ds : Definitions) → Each IsFormed ds → list_all definition_well_formed ds ≡ true
all_are_formed [] h = refl
all_are_formed (d ∷ ds) h = and_from (definition_well_formed d) (list_all definition_well_formed ds) h.0 (all_are_formed ds h.1)

pub out_formed : (built_in : Definitions) (first : ℕ) (texts : Definitions) → IsTable built_in → AreOwn texts → FoldingRules built_in first texts → list_all definition_well_formed texts ≡ true
    → list_all definition_well_formed (WrittenOf built_in first texts) ≡ true
out_formed built_in first texts table own rules h = all_are_formed (WrittenOf built_in first texts) (out_stays IsFormed AreFormedParts formed_stays built_in first texts table own rules (each_formed texts h))

-- ---- elsewhere

abbrev RenamedIs : Text Place → DefinitionTree Place → TypeParts Place → Type 0
RenamedIs n d p = ArePartsElsewhere p → IsElsewhere (extension_by p.kind (definition_place d) (record p { name = n }))

renamed_elsewhere : (d : DefinitionTree Place) (p : TypeParts Place) (n : Text Place) → type_extension_here d ≡ Some p → IsElsewhere d → IsElsewhere (extension_by p.kind (definition_place d) (record p { name = n }))
renamed_elsewhere d p n e h = by d p e (h.extension p e)
  where
    parts : (x : DefinitionTree Place) (p : TypeParts Place) → type_here x ≡ None → type_extension_here x ≡ Some (record p { name = n }) → directive_here x ≡ None → ArePartsElsewhere p → IsElsewhere x
    parts x p no_type is no_directive k = record {
      type = λ t f. absurd (let bad = sym f ∙ no_type in cc);
      extension = λ q f. subst ArePartsElsewhere (same_Some _ _ (sym is ∙ f)) (record { fields = k.fields; values = k.values; inputs = k.inputs });
      directive = λ y f. absurd (let bad = sym f ∙ no_directive in cc);
    }

    by : (d : DefinitionTree Place) (p : TypeParts Place) → type_extension_here d ≡ Some p → RenamedIs n d p
    by (tree.ExtendScalar r t) p e = subst (RenamedIs n (tree.ExtendScalar r t)) (same_Some _ _ e) (λ k. parts _ _ refl refl refl k)
    by (tree.ExtendObject r t) p e = subst (RenamedIs n (tree.ExtendObject r t)) (same_Some _ _ e) (λ k. parts _ _ refl refl refl k)
    by (tree.ExtendInterface r t) p e = subst (RenamedIs n (tree.ExtendInterface r t)) (same_Some _ _ e) (λ k. parts _ _ refl refl refl k)
    by (tree.ExtendUnion r t) p e = subst (RenamedIs n (tree.ExtendUnion r t)) (same_Some _ _ e) (λ k. parts _ _ refl refl refl k)
    by (tree.ExtendEnum r t) p e = subst (RenamedIs n (tree.ExtendEnum r t)) (same_Some _ _ e) (λ k. parts _ _ refl refl refl k)
    by (tree.ExtendInputObject r t) p e = subst (RenamedIs n (tree.ExtendInputObject r t)) (same_Some _ _ e) (λ k. parts _ _ refl refl refl k)
    by _ p e = cc

elsewhere_stays : Stays IsElsewhere (λ p. Unit {0})
elsewhere_stays = record {
  renamed = λ d p n e same h. renamed_elsewhere d p n e h;
  schema = λ d g e h. tt;
  extension = λ d p e h. tt;
  implicit = λ ds. tt;
  sorted = λ q w p h. other_elsewhere (tree.Schema q w (whole_parts p)) refl refl refl;
  sorted_extension = λ q p h. other_elsewhere (tree.ExtendSchema q (whole_parts p)) refl refl refl;
}

each_elsewhere : (ds : Definitions) → AreAllElsewhere ds → Each IsElsewhere ds
each_elsewhere [] h = tt
each_elsewhere (d ∷ ds) h = (h d (Contains-first d ds d refl), each_elsewhere ds (λ e c. h e (Contains-rest d ds e c)))

pub each_one : {X : Type 0} (P : X → Type 0) (xs : List X) → Each P xs → (x : X) → Contains xs x → P x
each_one P [] h x c = not_in_nil x c
each_one P (y ∷ xs) h x c = elim (Contains-cons y xs x c) [ inl e ↦ subst P e h.0 | inr r ↦ each_one P xs h.1 x r ]

pub out_elsewhere : (built_in : Definitions) (first : ℕ) (texts : Definitions) → IsTable built_in → AreOwn texts → FoldingRules built_in first texts → AreAllElsewhere texts → AreAllElsewhere (WrittenOf built_in first texts)
out_elsewhere built_in first texts table own rules h =
    each_one IsElsewhere (WrittenOf built_in first texts) (out_stays IsElsewhere (λ p. Unit {0}) elsewhere_stays built_in first texts table own rules (each_elsewhere texts h))
