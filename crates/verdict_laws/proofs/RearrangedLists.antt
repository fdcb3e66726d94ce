-- Lists that are rearranged fold to equal schemas.
use Rattle.std.proofs.Common.{◌≡◌, ℕ, Bool, true, false, ◌||◌, List, ◌++◌, map, filter, bytes_eq, is_some, refl, sym, ap, ◌∙◌, Option, None, Some, option_map, option_to_list, [], ◌∷◌}
use Rattle.std.specs.List.{flat_map, list_any}
use Rattle.std.specs.Option.{option_map_or}
use Rattle.std.proofs.lemmas.List.{map-append}
use Rattle.std.proofs.lemmas.List.Elements.{filter-append}
use Rattle.std.proofs.lemmas.List.Folds.{list_any-append}
use Rattle.graphql_names.specs.Placed.{Place}
use Rattle.schema_fold.specs.in_directives.DirectiveTree.{DirectiveDefinitionTree}
use Rattle.schema_fold.specs.in_type_members.TypeSystemTree.{unplaced_schema}
use Rattle.schema_fold.specs.in_definitions.DefinitionTree.{DefinitionTree, unplaced_definition, unplaced_document}
use Rattle.schema_fold.specs.in_definitions.DefinitionTree as tree
use Rattle.schema_fold.specs.in_definitions.Queries.{is_executable}
use Rattle.schema_fold.specs.in_schema_types.TypeParts.{TypeParts, TypeDefinition, type_here, type_extension_here}
use Rattle.schema_fold.specs.in_schema_types.Plain.{plain_directive_definition}
use Rattle.schema_fold.specs.NumberedDefinition.{Definitions, type_name, directive_here, directive_name}
use Rattle.schema_fold.specs.SchemaFold.{schema_here, schema_extension_here}
use Rattle.verdict_laws.specs.RearrangedLists.{defines_type, extends_type, defines_directive, defines_schema, is_schema_extension, AgreeOn, IsRearranged}
use Rattle.verdict_laws.specs.Folding.{RearrangedFoldsAlike}
use Rattle.verdict_laws.specs.Cutting.{CutIsRearranged}
use Rattle.verdict_laws.proofs.Gathered.{every, gathered, map-filter}
use Rattle.verdict_laws.proofs.Parts.{unplaced_type_definition, unplaced_parts, type_unplaced, type_extension_unplaced, types_of, extensions_of, extends_called, types_alike}
use Rattle.verdict_laws.proofs.Roots.{directive_unplaced_here, directive_unplaced, directives_of, told, schema_unplaced_here, schema_unplaced, schemas_in, schema_extension_unplaced_here, schema_extension_unplaced, schema_extensions_in, directives_alike, definition_alike}

-- ---- lists joined

agree_joined : (sort : DefinitionTree Place → Bool) (ds es ds' es' : Definitions) → AgreeOn sort ds es → AgreeOn sort ds' es' → AgreeOn sort (ds ++ ds') (es ++ es')
agree_joined sort ds es ds' es' h k = split ds ds' ∙ (λ i. h i ++ k i) ∙ sym (split es es')
  where
    split : (fs gs : Definitions) → unplaced_document (filter sort (fs ++ gs)) ≡ unplaced_document (filter sort fs) ++ unplaced_document (filter sort gs)
    split fs gs = ap unplaced_document (filter-append sort fs gs) ∙ map-append unplaced_definition (filter sort fs) (filter sort gs)

pub rearranged_joined : (ds es ds' es' : Definitions) → IsRearranged ds es → IsRearranged ds' es' → IsRearranged (ds ++ ds') (es ++ es')
rearranged_joined ds es ds' es' r q = record {
  types = λ n. agree_joined (defines_type n) ds es ds' es' (r.types n) (q.types n);
  extensions = λ n. agree_joined (extends_type n) ds es ds' es' (r.extensions n) (q.extensions n);
  directives = λ n. agree_joined (defines_directive n) ds es ds' es' (r.directives n) (q.directives n);
  schemas = agree_joined defines_schema ds es ds' es' r.schemas q.schemas;
  schema_extensions = agree_joined is_schema_extension ds es ds' es' r.schema_extensions q.schema_extensions;
  executables = list_any-append is_executable ds ds' ∙ (λ i. r.executables i || q.executables i) ∙ sym (list_any-append is_executable es es');
}

pub itself : (ds : Definitions) → IsRearranged ds ds
itself ds = record { types = λ n. refl; extensions = λ n. refl; directives = λ n. refl; schemas = refl; schema_extensions = refl; executables = refl }

-- the same definitions in front
pub agree_after : (sort : DefinitionTree Place → Bool) (front ds es : Definitions) → AgreeOn sort ds es → AgreeOn sort (front ++ ds) (front ++ es)
agree_after sort front ds es h = agree_joined sort front front ds es refl h

pub rearranged_after : (front ds es : Definitions) → IsRearranged ds es → IsRearranged (front ++ ds) (front ++ es)
rearranged_after front ds es r = rearranged_joined front front ds es (itself front) r

-- ---- sorts on which lists agree

some_is : {A : Type 0} (o : Option A) → is_some o ≡ option_map_or (λ x. true) o false
some_is None = refl
some_is (Some x) = refl

pub types_agree : (n : List ℕ) (ds es : Definitions) → AgreeOn (defines_type n) ds es → types_of ds n ≡ types_of es n
types_agree n ds es r = at ds ∙ ap of_all r ∙ sym (at es)
  where
    of_all : List (DefinitionTree (Unit {0})) → List (TypeDefinition (Unit {0}))
    of_all us = flat_map (λ d. option_to_list (type_here d)) us

    at : (fs : Definitions) → types_of fs n ≡ of_all (unplaced_document (filter (defines_type n) fs))
    at fs = gathered type_here type_here unplaced_type_definition type_unplaced (λ t. bytes_eq n (type_name t)) (defines_type n) (λ d. refl) fs

pub extensions_agree : (n : List ℕ) (ds es : Definitions) → AgreeOn (extends_type n) ds es → extensions_of ds n ≡ extensions_of es n
extensions_agree n ds es r = at ds ∙ ap of_all r ∙ sym (at es)
  where
    of_all : List (DefinitionTree (Unit {0})) → List (TypeParts (Unit {0}))
    of_all us = flat_map (λ d. option_to_list (type_extension_here d)) us

    at : (fs : Definitions) → extensions_of fs n ≡ of_all (unplaced_document (filter (extends_type n) fs))
    at fs = gathered type_extension_here type_extension_here unplaced_parts type_extension_unplaced (extends_called n) (extends_type n) (λ d. refl) fs

pub directives_agree : (n : List ℕ) (ds es : Definitions) → AgreeOn (defines_directive n) ds es → directives_of ds n ≡ directives_of es n
directives_agree n ds es r = at ds ∙ ap of_all r ∙ sym (at es)
  where
    of_all : List (DefinitionTree (Unit {0})) → List (DirectiveDefinitionTree (Unit {0}))
    of_all us = flat_map (λ d. option_to_list (directive_unplaced_here d)) us

    at : (fs : Definitions) → directives_of fs n ≡ of_all (unplaced_document (filter (defines_directive n) fs))
    at fs = gathered directive_here directive_unplaced_here plain_directive_definition directive_unplaced (λ d. bytes_eq n (directive_name d)) (defines_directive n) (λ d. refl) fs

pub schemas_agree : (ds es : Definitions) → AgreeOn defines_schema ds es → map told (schemas_in ds) ≡ map told (schemas_in es)
schemas_agree ds es r = at ds ∙ ap (λ us. flat_map (λ d. option_to_list (schema_unplaced_here d)) us) r ∙ sym (at es)
  where
    at : (fs : Definitions) → map told (schemas_in fs) ≡ flat_map (λ d. option_to_list (schema_unplaced_here d)) (unplaced_document (filter defines_schema fs))
    at fs = ap (map told) (sym (every (schemas_in fs))) ∙ gathered schema_here schema_unplaced_here told schema_unplaced (λ g. true) defines_schema (λ d. some_is (schema_here d)) fs

pub schema_extensions_agree : (ds es : Definitions) → AgreeOn is_schema_extension ds es → map unplaced_schema (schema_extensions_in ds) ≡ map unplaced_schema (schema_extensions_in es)
schema_extensions_agree ds es r = at ds ∙ ap (λ us. flat_map (λ d. option_to_list (schema_extension_unplaced_here d)) us) r ∙ sym (at es)
  where
    at : (fs : Definitions) → map unplaced_schema (schema_extensions_in fs) ≡ flat_map (λ d. option_to_list (schema_extension_unplaced_here d)) (unplaced_document (filter is_schema_extension fs))
    at fs = ap (map unplaced_schema) (sym (every (schema_extensions_in fs))) ∙ gathered schema_extension_here schema_extension_unplaced_here unplaced_schema schema_extension_unplaced (λ g. true) is_schema_extension (λ d. some_is (schema_extension_here d)) fs

module _ (ds es : Definitions) (r : IsRearranged ds es) where
  pub types_same : (n : List ℕ) → types_of ds n ≡ types_of es n
  types_same n = types_agree n ds es (r.types n)

  pub extensions_same : (n : List ℕ) → extensions_of ds n ≡ extensions_of es n
  extensions_same n = extensions_agree n ds es (r.extensions n)

  pub directives_same : (n : List ℕ) → directives_of ds n ≡ directives_of es n
  directives_same n = directives_agree n ds es (r.directives n)

  pub schemas_same : map told (schemas_in ds) ≡ map told (schemas_in es)
  schemas_same = schemas_agree ds es r.schemas

  pub schema_extensions_same : map unplaced_schema (schema_extensions_in ds) ≡ map unplaced_schema (schema_extensions_in es)
  schema_extensions_same = schema_extensions_agree ds es r.schema_extensions

pub folds_alike : RearrangedFoldsAlike
folds_alike built_in i j ds es r =
    let all = rearranged_after built_in ds es r in
    let types = types_same (built_in ++ ds) (built_in ++ es) all in
    let definition = definition_alike i j (built_in ++ ds) (built_in ++ es) types (schemas_same (built_in ++ ds) (built_in ++ es) all) (schema_extensions_same (built_in ++ ds) (built_in ++ es) all) in
    let directives = directives_alike built_in ds es (directives_same ds es r) (directives_same (built_in ++ ds) (built_in ++ es) all) in
    let kinds = types_alike i j (built_in ++ ds) (built_in ++ es) types (extensions_same (built_in ++ ds) (built_in ++ es) all) in
    λ k. record { definition = definition k; directives = directives k; types = kinds k }

-- ---- the same list from texts that are cut in two ways

module _ (ds es : Definitions) (same : unplaced_document ds ≡ unplaced_document es) where
  agree_unplaced : (sort : DefinitionTree Place → Bool) (sort' : DefinitionTree (Unit {0}) → Bool) → ((d : DefinitionTree Place) → sort' (unplaced_definition d) ≡ sort d) → AgreeOn sort ds es
  agree_unplaced sort sort' keeps = sym (map-filter unplaced_definition sort sort' keeps ds) ∙ ap (filter sort') same ∙ map-filter unplaced_definition sort sort' keeps es

  agree_here : {A B : Type 0} (here : DefinitionTree Place → Option A) (here' : DefinitionTree (Unit {0}) → Option B) (blind : A → B) → ((d : DefinitionTree Place) → here' (unplaced_definition d) ≡ option_map blind (here d))
      → (test : A → Bool) (test' : B → Bool) → ((a : A) → test' (blind a) ≡ test a) → AgreeOn (λ d. option_map_or test (here d) false) ds es
  agree_here here here' blind unplaced test test' tests = agree_unplaced (λ d. option_map_or test (here d) false) (λ u. option_map_or test' (here' u) false) (λ d. ap (λ o. option_map_or test' o false) (unplaced d) ∙ by (here d))
    where
      by : (o : Option _) → option_map_or test' (option_map blind o) false ≡ option_map_or test o false
      by None = refl
      by (Some a) = tests a

  some_here : {A B : Type 0} (here : DefinitionTree Place → Option A) (here' : DefinitionTree (Unit {0}) → Option B) (blind : A → B) → ((d : DefinitionTree Place) → here' (unplaced_definition d) ≡ option_map blind (here d)) → AgreeOn (λ d. is_some (here d)) ds es
  some_here here here' blind unplaced = agree_unplaced (λ d. is_some (here d)) (λ u. is_some (here' u)) (λ d. ap is_some (unplaced d) ∙ by (here d))
    where
      by : (o : Option _) → is_some (option_map blind o) ≡ is_some o
      by None = refl
      by (Some a) = refl

pub executable_unplaced : (d : DefinitionTree Place) → is_executable (unplaced_definition d) ≡ is_executable d
executable_unplaced (tree.Operation p o) = refl
executable_unplaced (tree.Fragment p f) = refl
executable_unplaced _ = refl

any_executable : (ds : Definitions) → list_any is_executable ds ≡ list_any is_executable (unplaced_document ds)
any_executable [] = refl
any_executable (d ∷ ds) = λ i. sym (executable_unplaced d) i || any_executable ds i

pub cut : CutIsRearranged
cut ds es same = record {
  types = λ n. agree_here ds es same type_here type_here unplaced_type_definition type_unplaced (λ t. bytes_eq n (type_name t)) (λ t. bytes_eq n t.parts.name.it) (λ t. refl);
  extensions = λ n. agree_here ds es same type_extension_here type_extension_here unplaced_parts type_extension_unplaced (λ e. bytes_eq n e.name.it) (λ e. bytes_eq n e.name.it) (λ e. refl);
  directives = λ n. agree_here ds es same directive_here directive_unplaced_here plain_directive_definition directive_unplaced (λ d. bytes_eq n (directive_name d)) (λ d. bytes_eq n d.name.it) (λ d. refl);
  schemas = some_here ds es same schema_here schema_unplaced_here told schema_unplaced;
  schema_extensions = some_here ds es same schema_extension_here schema_extension_unplaced_here unplaced_schema schema_extension_unplaced;
  executables = any_executable ds ∙ ap (list_any is_executable) same ∙ sym (any_executable es);
}

pub turned : (ds es : Definitions) → IsRearranged ds es → IsRearranged es ds
turned ds es r = record {
  types = λ n. sym (r.types n);
  extensions = λ n. sym (r.extensions n);
  directives = λ n. sym (r.directives n);
  schemas = sym r.schemas;
  schema_extensions = sym r.schema_extensions;
  executables = sym r.executables;
}
