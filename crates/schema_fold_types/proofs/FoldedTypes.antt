-- The types and faults of a list with its numbers are those of its definitions.
use Rattle.std.proofs.Common.{◌≡◌, ℕ, List, ◌++◌, map, sym, ap, ◌∙◌, option_to_list}
use Rattle.std.specs.List.{flat_map}
use Rattle.std.proofs.lemmas.List.{map-append}
use Rattle.std.proofs.lemmas.Grind.{flat_map-append}
use Rattle.graphql_names.specs.Placed.{Place}
use Rattle.schema_fold_index.specs.in_components.Lists.{firsts}
use Rattle.schema_fold_index.specs.in_components.Names.{Entries}
use Rattle.schema_fold_index.specs.in_schema_types.SchemaTree.{SchemaType}
use Rattle.schema_fold_index.specs.in_schema_types.TypeParts.{type_here}
use Rattle.schema_fold_index.specs.in_fold.NumberedDefinition.{Definitions, NumberedDefinition, numbered, type_name, types_in, definitions_of}
use Rattle.schema_fold_index.specs.in_fold.Fold.{folded_type, folded_types}
use Rattle.schema_fold_index.specs.in_fold.BuildErrors.{BuildFault}
use Rattle.schema_fold_types.specs.TypeFaults.{faults_of_type, faults_of_types, FailsInType}
use Rattle.schema_fold_index.proofs.Listing.{definitions_numbered}
use Rattle.schema_fold_types.proofs.Telling.{told_more}
use Rattle.schema_fold_types.proofs.TypeFaults.{types_tell}
use Rattle.schema_fold_types.specs.ListTypes.{types_from, faults_from, ExtendsNone, FoldsTypes, TellsTypes}
use Rattle.schema_fold_types.proofs.Filing.{node_of_type, told_after}

-- the types and faults of a whole list
abbrev types_of : List NumberedDefinition → Entries (SchemaType Place)
types_of list = map (λ t. (type_name t, folded_type list t)) (firsts type_name (types_in (definitions_of list)))

abbrev faults_of : List NumberedDefinition → List BuildFault
faults_of list = flat_map (faults_of_type list) (firsts type_name (types_in (definitions_of list)))

types_numbered : (first : ℕ) (ds : Definitions) → types_of (numbered first ds) ≡ folded_types first ds
types_numbered first ds = ap (λ l. map (λ t. (type_name t, folded_type (numbered first ds) t)) (firsts type_name (types_in l))) (definitions_numbered first ds)

faults_numbered : (first : ℕ) (ds : Definitions) → faults_of (numbered first ds) ≡ faults_of_types first ds
faults_numbered first ds = ap (λ l. flat_map (faults_of_type (numbered first ds)) (firsts type_name (types_in l))) (definitions_numbered first ds)

module _ (built_in texts : List NumberedDefinition) (none : ExtendsNone built_in) where
  types_joined : types_in (definitions_of built_in) ++ types_in (definitions_of texts) ≡ types_in (definitions_of (built_in ++ texts))
  types_joined =
      sym (ap types_in (map-append (λ l. l.definition) built_in texts) ∙ flat_map-append (λ d. option_to_list (type_here d)) (definitions_of built_in) (definitions_of texts))

  whole_types : types_from built_in texts ≡ types_of (built_in ++ texts)
  whole_types = λ i. map (λ t. (type_name t, node_of_type t built_in texts none i)) (firsts type_name (types_joined i))

  whole_faults : faults_from built_in texts ≡ faults_of (built_in ++ texts)
  whole_faults = λ i. flat_map (λ t. told_after t built_in texts none i) (firsts type_name (types_joined i))

pub folds_types : (built_in texts : List NumberedDefinition) (types : Entries (SchemaType Place)) → types ≡ types_from built_in texts → FoldsTypes built_in texts types
folds_types built_in texts types is none first ds e = is ∙ whole_types built_in texts none ∙ ap types_of e ∙ types_numbered first ds

pub tells_types : (built_in texts : List NumberedDefinition) (old new : List BuildFault) → new ≡ old ++ faults_from built_in texts → TellsTypes built_in texts old new
tells_types built_in texts old new is none first before after e f =
    told_more old (faults_of_types first (before ++ after)) new f (FailsInType before after first f)
    (is ∙ ap (λ fs. old ++ fs) (whole_faults built_in texts none ∙ ap faults_of e ∙ faults_numbered first (before ++ after)))
    (types_tell before after first f)
