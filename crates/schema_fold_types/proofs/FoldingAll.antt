-- Lemmas on the fold of all types of a list, the built-in ones first.
use Rattle.std.proofs.Common.{◌≡◌, ◌<◌, ◌≤◌, ℕ, List, [], ◌++◌, map, get_or, length, Some, sym, ap, subst, ◌∙◌, option_to_list, slice_get}
use Rattle.std.specs.List.{flat_map}
use Rattle.std.specs.Map.{values_of}
use Rattle.std.specs.Option.{option_map, option_map_or}
use Rattle.std.proofs.lemmas.List.{append-nil}
use Rattle.std.proofs.lemmas.Option.{slice_get-map, slice_get-get_or, slice_get_past}
use Rattle.graphql_names.specs.Placed.{Place}
use Rattle.schema_fold_index.specs.in_definitions.DefinitionTree.{DefinitionTree, definition_tree}
use Rattle.schema_fold_index.specs.in_components.Lists.{firsts}
use Rattle.schema_fold_index.specs.in_components.Names.{Entries}
use Rattle.schema_fold_index.specs.in_schema_types.SchemaTree.{SchemaType}
use Rattle.schema_fold_index.specs.in_schema_types.TypeParts.{TypeDefinition, type_here, type_extension_here}
use Rattle.schema_fold_index.specs.in_fold.NumberedDefinition.{NumberedDefinition, type_name, types_in, definitions_of}
use Rattle.schema_fold_index.specs.in_fold.ListedView.{listed_view}
use Rattle.schema_fold_index.specs.in_fold.BuildErrors.{BuildFault}
use Rattle.schema_fold_index.specs.in_fold.declared.numbered_definition.NumberedDefinition.{NumberedDefinition as Rust}
use Rattle.schema_fold_index.specs.declared.index.Positions.{Positions}
use Rattle.schema_fold_types.specs.Filing.{type_by, FoldsOn}
use Rattle.schema_fold_index.specs.Index.{FiledEntries, AreFiled, standing_in_list, parts_here, defined_at, extensions_under}
use Rattle.schema_fold_types.specs.ListTypes.{types_from, faults_from}
use Rattle.schema_fold_types.specs.TypeFaults.{faults_of_type}
use Rattle.schema_fold_types.proofs.Filing.{types_enough, faults_enough}
use Rattle.schema_fold_types.proofs.FirstsOfFirsts.{firsts_of_firsts}
use Rattle.schema_fold_types.proofs.Folding.{folds_none, folds_then}
use Rattle.schema_fold_index.proofs.Indexing.{types_filed, extensions_filed}

-- ---- what is defined at a position

module _ (xs : List Rust) (i : ℕ) where
  abbrev at : List (TypeDefinition Place)
  at = defined_at (definitions_of (map listed_view xs)) i

  abbrev given : DefinitionTree Place → List (TypeDefinition Place)
  given d = option_to_list (type_here d)

  read : slice_get (definitions_of (map listed_view xs)) i ≡ option_map (λ l. l.definition) (option_map listed_view (slice_get xs i))
  read = slice_get-map (λ l. l.definition) (map listed_view xs) i ∙ ap (option_map (λ l. l.definition)) (slice_get-map listed_view xs i)

  pub defined_none : length xs ≤ i → at ≡ []
  defined_none past = ap (λ o. option_map_or given o []) (read ∙ ap (λ o. option_map (λ l. l.definition) (option_map listed_view o)) (slice_get_past xs i past))

  pub defined_some : (x : Rust) → i < length xs → x ≡ get_or xs i x → at ≡ given (definition_tree x.definition)
  defined_some x within is =
      ap (λ o. option_map_or given o []) (read ∙ ap (λ o. option_map (λ l. l.definition) (option_map listed_view o)) (slice_get-get_or xs i x within ∙ ap Some (sym is)))

-- ---- folding on

module _ (extensions : List ℕ → List NumberedDefinition) where
  pub folds_same : (more more' : List (TypeDefinition Place)) (types types' : Entries (SchemaType Place)) (faults faults' : List BuildFault) → more ≡ more'
      → FoldsOn extensions more types faults types' faults' → FoldsOn extensions more' types faults types' faults'
  folds_same more more' types types' faults faults' same = subst (λ ts. FoldsOn extensions ts types faults types' faults') same

  pub folds_nothing : (more : List (TypeDefinition Place)) (types : Entries (SchemaType Place)) (faults : List BuildFault) → more ≡ [] → FoldsOn extensions more types faults types faults
  folds_nothing more types faults none = folds_same [] more types types faults faults (sym none) (folds_none extensions types faults)

-- ---- all types

module _ (built_in texts : List NumberedDefinition) (defined extended : FiledEntries)
    (is_defined : AreFiled (standing_in_list parts_here (definitions_of texts)) defined) (is_extended : AreFiled (standing_in_list type_extension_here (definitions_of texts)) extended) where
  abbrev extensions : List ℕ → List NumberedDefinition
  extensions = extensions_under texts extended

  abbrev own : List (TypeDefinition Place)
  own = types_in (definitions_of texts)

  abbrev first_ones : List (TypeDefinition Place)
  first_ones = types_in (definitions_of built_in)

  abbrev here : List Positions → List (TypeDefinition Place)
  here fs = flat_map (λ f. defined_at (definitions_of texts) f.first) fs

  all_firsts : (fs : List Positions) → fs ≡ values_of defined → firsts type_name (first_ones ++ here fs) ≡ firsts type_name (first_ones ++ own)
  all_firsts fs are = ap (λ l. firsts type_name (first_ones ++ l)) (ap here are ∙ types_filed (definitions_of texts) defined is_defined) ∙ firsts_of_firsts type_name first_ones own

  -- the built-in types, and then those that are filed
  pub folds_all : (types middle types' : Entries (SchemaType Place)) (faults told faults' : List BuildFault) (fs : List Positions) → fs ≡ values_of defined → types ≡ []
      → FoldsOn extensions first_ones types faults middle told → FoldsOn extensions (here fs) middle told types' faults'
      → (types' ≡ types_from built_in texts) × (faults' ≡ faults ++ faults_from built_in texts)
  folds_all types middle types' faults told faults' fs are empty one two =
      let both = folds_then extensions types middle types' faults told faults' first_ones (here fs) one two [] faults empty (sym (append-nil faults)) in
      let same = all_firsts fs are in
      let enough = extensions_filed texts extended is_extended in (
        both.0 ∙ ap (map (λ t. (type_name t, type_by extensions t))) same ∙ types_enough extensions texts enough (first_ones ++ own),
        both.1 ∙ ap (λ l. faults ++ l) (ap (flat_map (λ t. faults_of_type (extensions (type_name t)) t)) same ∙ faults_enough extensions texts enough (first_ones ++ own)),
      )
