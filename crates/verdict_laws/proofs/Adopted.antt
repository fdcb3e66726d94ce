-- What the settings of a builder make of lists that are rearranged is rearranged, and of lists that are cut in two ways it is the same.
use Rattle.std.proofs.Common.{◌≡◌, ℕ, Bool, true, false, not, ◌&&◌, ◌||◌, cond, List, [], ◌∷◌, ◌++◌, map, filter, slice_get, bytes_eq, is_none, is_some, refl, sym, ap, subst, ◌∙◌, Option, None, Some, option_map, option_to_list, true≢false, if◌then◌else◌}
use Rattle.std.specs.List.{flat_map, list_any}
use Rattle.std.specs.Option.{option_map_or}
use Rattle.std.proofs.lemmas.List.{map-append}
use Rattle.std.proofs.lemmas.Simd.{map-map}
use Rattle.std.proofs.lemmas.Slice.Eq.{bytes_eq-Decides}
use Rattle.graphql_names.specs.Placed.{Place}
use Rattle.schema_fold.specs.in_definitions.DefinitionTree as tree
use Rattle.schema_fold.specs.in_definitions.DefinitionTree.{DefinitionTree, unplaced_definition, unplaced_document}
use Rattle.schema_fold.specs.in_definitions.Queries.{is_executable}
use Rattle.schema_fold.specs.in_components.Lists.{firsts}
use Rattle.schema_fold.specs.in_schema_types.TypeParts.{TypeParts, TypeDefinition, type_here, type_extension_here, bare, definition_by}
use Rattle.schema_fold.specs.NumberedDefinition.{Definitions, type_name, type_named}
use Rattle.schema_fold.specs.Adoption.{is_redefinition, without_redefinitions, parts_name, orphans, empty_type, with_types, empty_schema, has_orphan_schema, with_schema, settled}
use Rattle.verdict_laws.specs.RearrangedLists.{defines_type, extends_type, defines_directive, defines_schema, is_schema_extension, AgreeOn, IsRearranged}
use Rattle.verdict_laws.specs.Adopting.{SettledIsRearranged, CutSettlesAlike}
use Rattle.verdict_laws.proofs.Gathered.{map-filter, all_gathered}
use Rattle.verdict_laws.proofs.Parts.{unplaced_parts, unplaced_type_definition, type_unplaced, type_extension_unplaced, extensions_in, extensions_of, extends_called, types_of, named_unplaced}
use Rattle.verdict_laws.proofs.Roots.{defined as schema_defined}
use Rattle.verdict_laws.proofs.RearrangedLists.{itself, rearranged_joined, rearranged_after, types_same, extensions_same, schemas_same, schema_extensions_same, cut}
use Rattle.verdict_laws.proofs.Changes.{firsts-map}
use Rattle.verdict_laws.proofs.Written.{forgets}
use Rattle.verdict_laws.proofs.Sorts.{Sort, IsOfName, defined, passes, no_one, passing, any-filter, rearranged_by_sorts}

-- ---- lists

filter-swap : {X : Type 0} (p q : X → Bool) (xs : List X) → filter p (filter q xs) ≡ filter q (filter p xs)
filter-swap p q [] = refl
filter-swap p q (x ∷ xs) = by (p x) (q x) refl refl (filter-swap p q xs)
  where
    by : (a b : Bool) → p x ≡ a → q x ≡ b → filter p (filter q xs) ≡ filter q (filter p xs) → filter p (cond b (x ∷ filter q xs) (filter q xs)) ≡ filter q (cond a (x ∷ filter p xs) (filter p xs))
    by true true a b rest = ap (λ c. cond c (x ∷ filter p (filter q xs)) (filter p (filter q xs))) a ∙ ap (λ l. x ∷ l) rest ∙ sym (ap (λ c. cond c (x ∷ filter q (filter p xs)) (filter q (filter p xs))) b)
    by true false a b rest = rest ∙ sym (ap (λ c. cond c (x ∷ filter q (filter p xs)) (filter q (filter p xs))) b)
    by false true a b rest = ap (λ c. cond c (x ∷ filter p (filter q xs)) (filter p (filter q xs))) a ∙ rest
    by false false a b rest = rest

any_left : {X : Type 0} (test p : X → Bool) → ((x : X) → test x ≡ true → p x ≡ true) → (xs : List X) → list_any test (filter p xs) ≡ list_any test xs
any_left test p stays [] = refl
any_left test p stays (x ∷ xs) = by (p x) refl (test x) refl (any_left test p stays xs)
  where
    by : (a : Bool) → p x ≡ a → (b : Bool) → test x ≡ b → list_any test (filter p xs) ≡ list_any test xs → list_any test (cond a (x ∷ filter p xs) (filter p xs)) ≡ (b || list_any test xs)
    by true l b t rest = λ i. t i || rest i
    by false l true t rest = absurd (true≢false (sym (stays x t) ∙ l))
    by false l false t rest = rest

-- of those of a name all have what the name has, or none
named_have : (f : List ℕ → Bool) (n : List ℕ) (es : List (TypeParts Place)) → filter (λ e. f e.name.it) (filter (extends_called n) es) ≡ (if f n then filter (extends_called n) es else [])
named_have f n [] = by (f n)
  where
    by : (b : Bool) → ◌≡◌ {A = List (TypeParts Place)} [] (if b then [] else [])
    by true = refl
    by false = refl
named_have f n (e ∷ es) = by (bytes_eq n e.name.it) refl (named_have f n es)
  where
    those : List (TypeParts Place)
    those = filter (extends_called n) es

    by_name : (b : Bool) → filter (λ e. f e.name.it) those ≡ (if b then those else []) → cond b (e ∷ filter (λ e. f e.name.it) those) (filter (λ e. f e.name.it) those) ≡ (if b then e ∷ those else [])
    by_name true h = ap (λ l. e ∷ l) h
    by_name false h = h

    by : (c : Bool) → bytes_eq n e.name.it ≡ c → filter (λ e. f e.name.it) those ≡ (if f n then those else []) → filter (λ e. f e.name.it) (cond c (e ∷ those) those) ≡ (if f n then cond c (e ∷ those) those else [])
    by true is h = ap (λ m. cond (f m) (e ∷ filter (λ e. f e.name.it) those) (filter (λ e. f e.name.it) those)) (sym ((bytes_eq-Decides n e.name.it).0 is)) ∙ by_name (f n) h
    by false is h = h

-- ---- redefinitions are left out

module _ (built_in : Definitions) where
  abbrev is_left : DefinitionTree Place → Bool
  is_left d = not (is_redefinition built_in d)

  abbrev is_left_unplaced : DefinitionTree (Unit {0}) → Bool
  is_left_unplaced u = not (option_map_or (λ t. is_some (type_named t.parts.name.it built_in)) (type_here u) false)

  left_unplaced : (d : DefinitionTree Place) → is_left_unplaced (unplaced_definition d) ≡ is_left d
  left_unplaced d = ap (λ o. not (option_map_or (λ t. is_some (type_named t.parts.name.it built_in)) o false)) (type_unplaced d) ∙ by (type_here d)
    where
      by : (o : Option (TypeDefinition Place)) → not (option_map_or (λ t. is_some (type_named t.parts.name.it built_in)) (option_map unplaced_type_definition o) false) ≡ not (option_map_or (λ t. is_some (type_named (type_name t) built_in)) o false)
      by None = refl
      by (Some t) = refl

  executable_left : (d : DefinitionTree Place) → is_executable d ≡ true → is_left d ≡ true
  executable_left (tree.Operation p o) h = refl
  executable_left (tree.Fragment p f) h = refl
  executable_left _ h = cc

  agree_left : (sort : DefinitionTree Place → Bool) (ds es : Definitions) → AgreeOn sort ds es → AgreeOn sort (without_redefinitions built_in ds) (without_redefinitions built_in es)
  agree_left sort ds es h = at ds ∙ ap (filter is_left_unplaced) h ∙ sym (at es)
    where
      at : (fs : Definitions) → unplaced_document (filter sort (without_redefinitions built_in fs)) ≡ filter is_left_unplaced (unplaced_document (filter sort fs))
      at fs = ap unplaced_document (filter-swap sort is_left fs) ∙ sym (map-filter unplaced_definition is_left is_left_unplaced left_unplaced (filter sort fs))

  rearranged_left : (ds es : Definitions) → IsRearranged ds es → IsRearranged (without_redefinitions built_in ds) (without_redefinitions built_in es)
  rearranged_left ds es r = record {
    types = λ n. agree_left (defines_type n) ds es (r.types n);
    extensions = λ n. agree_left (extends_type n) ds es (r.extensions n);
    directives = λ n. agree_left (defines_directive n) ds es (r.directives n);
    schemas = agree_left defines_schema ds es r.schemas;
    schema_extensions = agree_left is_schema_extension ds es r.schema_extensions;
    executables = any_left is_executable is_left executable_left ds ∙ r.executables ∙ sym (any_left is_executable is_left executable_left es);
  }

  -- ---- types are adopted

  abbrev new_type : TypeParts (Unit {0}) → DefinitionTree (Unit {0})
  new_type u = definition_by u.kind tt None (bare u.kind u.name [])

  abbrev new_types : Definitions → Definitions
  new_types ds = map (empty_type built_in) (firsts (parts_name built_in) (orphans built_in ds))

  one_each : {X Y : Type 0} (F : X → Y) (xs : List X) → map F xs ≡ flat_map (λ x. F x ∷ []) xs
  one_each F [] = refl
  one_each F (x ∷ xs) = ap (λ l. F x ∷ l) (one_each F xs)

  new_unplaced : (ds : Definitions) → unplaced_document (new_types ds) ≡ flat_map (λ u. new_type u ∷ []) (firsts (λ u. u.name.it) (map unplaced_parts (orphans built_in ds)))
  new_unplaced ds =
      map-map unplaced_definition (empty_type built_in) (firsts (parts_name built_in) (orphans built_in ds))
      ∙ (λ i. map (λ e. forgets.defines e.kind None None (bare e.kind e.name []) i) (firsts (parts_name built_in) (orphans built_in ds)))
      ∙ sym (map-map new_type unplaced_parts (firsts (parts_name built_in) (orphans built_in ds)))
      ∙ ap (map new_type) (firsts-map (parts_name built_in) (λ u. u.name.it) unplaced_parts (λ e. refl) (orphans built_in ds))
      ∙ one_each new_type (firsts (λ u. u.name.it) (map unplaced_parts (orphans built_in ds)))

  -- no type of the name is defined
  abbrev is_undefined : Definitions → List ℕ → Bool
  is_undefined ds n = is_none (slice_get (types_of (built_in ++ ds) n) 0)

  undefined : (ds : Definitions) (n : List ℕ) → is_none (type_named n (built_in ++ ds)) ≡ is_undefined ds n
  undefined ds n = by (type_named n (built_in ++ ds)) ∙ ap is_none (named_unplaced n (built_in ++ ds))
    where
      by : (o : Option (TypeDefinition Place)) → is_none o ≡ is_none (option_map unplaced_type_definition o)
      by None = refl
      by (Some t) = refl

  orphans_named : (n : List ℕ) (ds : Definitions) → filter (λ u. bytes_eq n u.name.it) (map unplaced_parts (orphans built_in ds)) ≡ (if is_undefined ds n then extensions_of ds n else [])
  orphans_named n ds =
      map-filter unplaced_parts (extends_called n) (λ u. bytes_eq n u.name.it) (λ e. refl) (orphans built_in ds)
      ∙ ap (map unplaced_parts) (filter-swap (extends_called n) (λ e. is_none (type_named e.name.it (built_in ++ ds))) (extensions_in ds)
      ∙ named_have (λ m. is_none (type_named m (built_in ++ ds))) n (extensions_in ds))
      ∙ by (is_none (type_named n (built_in ++ ds)))
      ∙ ap (λ b. if b then extensions_of ds n else []) (undefined ds n)
    where
      by : (b : Bool) → map unplaced_parts (if b then filter (extends_called n) (extensions_in ds) else []) ≡ (if b then extensions_of ds n else [])
      by true = refl
      by false = refl

  module _ (ds es : Definitions) (r : IsRearranged ds es) where
    abbrev all_rearranged : IsRearranged (built_in ++ ds) (built_in ++ es)
    all_rearranged = rearranged_after built_in ds es r

    undefined_same : (n : List ℕ) → is_undefined ds n ≡ is_undefined es n
    undefined_same n = ap (λ l. is_none (slice_get l 0)) (types_same (built_in ++ ds) (built_in ++ es) all_rearranged n)

    new_passing : (n : List ℕ) (test : Sort → Bool) → IsOfName n test → filter (passes test) (unplaced_document (new_types ds)) ≡ filter (passes test) (unplaced_document (new_types es))
    new_passing n test is =
        ap (filter (passes test)) (new_unplaced ds)
        ∙ passing test n (λ u. u.name.it) (λ u. new_type u ∷ []) (λ u h. no_one test (new_type u) (ap test (defined u.kind tt None (bare u.kind u.name [])) ∙ is.types u.name.it h))
        (map unplaced_parts (orphans built_in ds)) (map unplaced_parts (orphans built_in es))
        (orphans_named n ds ∙ (λ k. if undefined_same n k then extensions_same ds es r n k else []) ∙ sym (orphans_named n es))
        ∙ ap (filter (passes test)) (sym (new_unplaced es))

    with_types_rearranged : IsRearranged (with_types built_in ds) (with_types built_in es)
    with_types_rearranged = rearranged_joined ds es (new_types ds) (new_types es) r (rearranged_by_sorts (new_types ds) (new_types es) new_passing)

    -- ---- the schema is adopted

    orphan_schema_same : has_orphan_schema built_in ds ≡ has_orphan_schema built_in es
    orphan_schema_same =
        let extended = any-filter is_schema_extension unplaced_definition ds ∙ ap (λ l. is_some (slice_get l 0)) r.schema_extensions ∙ sym (any-filter is_schema_extension unplaced_definition es) in
        let defined = schema_defined 0 0 (built_in ++ ds) (built_in ++ es) (types_same (built_in ++ ds) (built_in ++ es) all_rearranged)
        (schemas_same (built_in ++ ds) (built_in ++ es) all_rearranged) (schema_extensions_same (built_in ++ ds) (built_in ++ es) all_rearranged) in
        λ i. extended i && not (defined i)

    with_schema_rearranged : IsRearranged (with_schema built_in ds) (with_schema built_in es)
    with_schema_rearranged = rearranged_joined ds es _ _ r
        (subst (λ b. IsRearranged (if has_orphan_schema built_in ds then empty_schema built_in ∷ [] else []) (if b then empty_schema built_in ∷ [] else [])) orphan_schema_same (itself (if has_orphan_schema built_in ds then empty_schema built_in ∷ [] else [])))

  -- ---- of lists that are cut in two ways

  module _ (ds es : Definitions) (same : unplaced_document ds ≡ unplaced_document es) where
    cut_left : unplaced_document (without_redefinitions built_in ds) ≡ unplaced_document (without_redefinitions built_in es)
    cut_left = sym (map-filter unplaced_definition is_left is_left_unplaced left_unplaced ds) ∙ ap (filter is_left_unplaced) same ∙ map-filter unplaced_definition is_left is_left_unplaced left_unplaced es

    orphans_by : (fs : Definitions) → map unplaced_parts (orphans built_in fs) ≡ filter (λ u. is_undefined fs u.name.it) (flat_map (λ u. option_to_list (type_extension_here u)) (unplaced_document fs))
    orphans_by fs =
        sym (map-filter unplaced_parts (λ e. is_none (type_named e.name.it (built_in ++ fs))) (λ u. is_undefined fs u.name.it) (λ e. sym (undefined fs e.name.it)) (extensions_in fs))
        ∙ ap (filter (λ u. is_undefined fs u.name.it)) (all_gathered type_extension_here type_extension_here unplaced_parts type_extension_unplaced fs)

    orphans_cut : map unplaced_parts (orphans built_in ds) ≡ map unplaced_parts (orphans built_in es)
    orphans_cut = orphans_by ds
        ∙ (λ i. filter (λ u. undefined_same ds es (cut ds es same) u.name.it i) (flat_map (λ u. option_to_list (type_extension_here u)) (same i)))
        ∙ sym (orphans_by es)

    cut_with_types : unplaced_document (with_types built_in ds) ≡ unplaced_document (with_types built_in es)
    cut_with_types = map-append unplaced_definition ds (new_types ds)
        ∙ (λ i. same i ++ (new_unplaced ds ∙ ap (λ l. flat_map (λ u. new_type u ∷ []) (firsts (λ u. u.name.it) l)) orphans_cut ∙ sym (new_unplaced es)) i)
        ∙ sym (map-append unplaced_definition es (new_types es))

    cut_with_schema : unplaced_document (with_schema built_in ds) ≡ unplaced_document (with_schema built_in es)
    cut_with_schema = at ds ∙ (λ i. same i ++ unplaced_document (if orphan_schema_same ds es (cut ds es same) i then empty_schema built_in ∷ [] else [])) ∙ sym (at es)
      where
        at : (fs : Definitions) → unplaced_document (with_schema built_in fs) ≡ unplaced_document fs ++ unplaced_document (if has_orphan_schema built_in fs then empty_schema built_in ∷ [] else [])
        at fs = map-append unplaced_definition fs (if has_orphan_schema built_in fs then empty_schema built_in ∷ [] else [])

  -- ---- the settings

  adopted : (adopts : Bool) (ds es : Definitions) → IsRearranged ds es → IsRearranged (settled built_in (record { adopts = adopts; ignores = false }) ds) (settled built_in (record { adopts = adopts; ignores = false }) es)
  adopted true ds es r = with_schema_rearranged (with_types built_in ds) (with_types built_in es) (with_types_rearranged ds es r)
  adopted false ds es r = r

  cut_adopted : (adopts : Bool) (ds es : Definitions) → unplaced_document ds ≡ unplaced_document es → unplaced_document (settled built_in (record { adopts = adopts; ignores = false }) ds) ≡ unplaced_document (settled built_in (record { adopts = adopts; ignores = false }) es)
  cut_adopted true ds es same = cut_with_schema (with_types built_in ds) (with_types built_in es) (cut_with_types ds es same)
  cut_adopted false ds es same = same

pub settled_rearranged : SettledIsRearranged
settled_rearranged built_in settings ds es r = by settings.ignores
  where
    by : (ignores : Bool) → IsRearranged (settled built_in (record { adopts = settings.adopts; ignores = ignores }) ds) (settled built_in (record { adopts = settings.adopts; ignores = ignores }) es)
    by true = adopted built_in settings.adopts (without_redefinitions built_in ds) (without_redefinitions built_in es) (rearranged_left built_in ds es r)
    by false = adopted built_in settings.adopts ds es r

pub cut_settled : CutSettlesAlike
cut_settled built_in settings ds es same = by settings.ignores
  where
    by : (ignores : Bool) → unplaced_document (settled built_in (record { adopts = settings.adopts; ignores = ignores }) ds) ≡ unplaced_document (settled built_in (record { adopts = settings.adopts; ignores = ignores }) es)
    by true = cut_adopted built_in settings.adopts (without_redefinitions built_in ds) (without_redefinitions built_in es) (cut_left built_in ds es same)
    by false = cut_adopted built_in settings.adopts ds es same
