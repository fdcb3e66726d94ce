-- Directive definitions and the schema definition of a fold, without places and origins.
use Rattle.std.proofs.Common.{◌≡◌, ℕ, Bool, true, false, ◌||◌, List, [], ◌∷◌, ◌++◌, map, filter, find, slice_get, bytes_eq, is_some, refl, sym, ap, ◌∙◌, Option, None, Some, option_map, option_to_list, if◌then◌else◌}
use Rattle.std.specs.List.{flat_map}
use Rattle.std.specs.Option.{option_map_or}
use Rattle.std.specs.FinMap as fin
use Rattle.std.specs.Cmp.Lexicographic.{nat_list_cmp_total}
use Rattle.std.proofs.lemmas.List.{map-append}
use Rattle.std.proofs.lemmas.Simd.{map-map}
use Rattle.graphql_names.specs.Placed.{Place, Placed, Text, unplaced_text, unplaced_node}
use Rattle.schema_fold.specs.in_schema_types.in_operations.OperationQueries.{operation_keyword, default_root_name}
use Rattle.schema_fold.specs.in_directives.declared.operation_type.OperationType.{OperationType}
use Rattle.schema_fold.specs.in_directives.declared.operation_type.OperationType.TheVariants as operation
use Rattle.schema_fold.specs.in_directives.DirectiveTree.{DirectiveTree, DirectiveDefinitionTree, unplaced_directive}
use Rattle.schema_fold.specs.in_type_members.TypeSystemTree.{RootOperationTree, SchemaParts, unplaced_root, unplaced_schema}
use Rattle.schema_fold.specs.in_definitions.DefinitionTree as tree
use Rattle.schema_fold.specs.in_definitions.DefinitionTree.{DefinitionTree, unplaced_definition}
use Rattle.schema_fold.specs.in_components.Lists.{each_place_after, firsts}
use Rattle.schema_fold.specs.in_components.Names.{by_bytes, named}
use Rattle.schema_fold.specs.in_components.Given.{Given, plain_given, given_name}
use Rattle.schema_fold.proofs.in_components.NamedEquality.{by_bytes-IsAntisymmetric}
use Rattle.schema_fold.specs.in_schema_types.SchemaTree.{same_kind}
use Rattle.schema_fold.specs.in_schema_types.declared.type_kind.TypeKind.TheVariants as kind
use Rattle.schema_fold.specs.in_schema_types.TypeParts.{TypeDefinition}
use Rattle.schema_fold.specs.in_schema_types.Plain.{plain_roots, plain_directive_definition}
use Rattle.schema_fold.specs.NumberedDefinition.{Definitions, listed_after, numbered, type_named, directive_here, directive_name, directives_in}
use Rattle.schema_fold.specs.Components.{all_given}
use Rattle.schema_fold.specs.SchemaFold.{Root, SchemaGiver, schema_here, schema_extension_here, schema_definition_in, is_object_in, implicit_roots, schema_is_defined, schema_base, extends_schema, schema_parts_given, roots_given, root_key, root_in, folded_schema}
use Rattle.schema_fold.specs.Fold.{chosen_directive, folded_directives}
use Rattle.verdict_laws.proofs.Gathered.{find-filter, get-of_firsts}
use Rattle.verdict_laws.proofs.Parts.{types_of, unplaced_type_definition, named_unplaced}

-- ---- directive definitions

abbrev pub directive_unplaced_here : DefinitionTree (Unit {0}) → Option (DirectiveDefinitionTree (Unit {0}))
directive_unplaced_here (tree.DirectiveDefinition p d) = Some d
directive_unplaced_here _ = None

pub directive_unplaced : (d : DefinitionTree Place) → directive_unplaced_here (unplaced_definition d) ≡ option_map plain_directive_definition (directive_here d)
directive_unplaced (tree.DirectiveDefinition p d) = refl
directive_unplaced _ = refl

abbrev pub directives_of : Definitions → List ℕ → List (DirectiveDefinitionTree (Unit {0}))
directives_of ds n = map plain_directive_definition (filter (λ d. bytes_eq n (directive_name d)) (directives_in ds))

-- the first of the texts, or else this one
abbrev chosen_by : (List ℕ → List (DirectiveDefinitionTree (Unit {0}))) → DirectiveDefinitionTree (Unit {0}) → DirectiveDefinitionTree (Unit {0})
chosen_by own d = option_map_or (λ x. x) (slice_get (own d.name.it) 0) d

module _ (built_in : Definitions) where
  chosen_plain : (ds : Definitions) (d : Placed Place (DirectiveDefinitionTree Place)) → plain_directive_definition (chosen_directive ds d) ≡ chosen_by (directives_of ds) (plain_directive_definition d)
  chosen_plain ds d =
      by (find (λ own. bytes_eq (directive_name d) (directive_name own)) (directives_in ds))
      ∙ ap (λ o. option_map_or (λ x. x) o (plain_directive_definition d)) (find-filter plain_directive_definition (λ own. bytes_eq (directive_name d) (directive_name own)) (directives_in ds))
    where
      by : (o : Option (Placed Place (DirectiveDefinitionTree Place))) → plain_directive_definition (option_map_or (λ own. own) o d) ≡ option_map_or (λ x. x) (option_map plain_directive_definition o) (plain_directive_definition d)
      by None = refl
      by (Some x) = refl

  get_directive : (ds : Definitions) (n : List ℕ) → fin.get (named plain_directive_definition (folded_directives built_in ds)) n ≡ option_map (chosen_by (directives_of ds)) (slice_get (directives_of (built_in ++ ds) n) 0)
  get_directive ds n =
      ap (λ l. fin.get (fin.from_entries {R = by_bytes} l) n) (map-map {B = List ℕ × Placed Place (DirectiveDefinitionTree Place)} (λ e. (e.0, plain_directive_definition e.1)) (λ d. (directive_name d, chosen_directive ds d)) (firsts directive_name (directives_in (built_in ++ ds))))
      ∙ get-of_firsts directive_name (λ d. plain_directive_definition (chosen_directive ds d)) n (directives_in (built_in ++ ds))
      ∙ (λ i. option_map (λ d. chosen_plain ds d i) (find (λ d. bytes_eq n (directive_name d)) (directives_in (built_in ++ ds))))
      ∙ option_map-map (find (λ d. bytes_eq n (directive_name d)) (directives_in (built_in ++ ds)))
      ∙ ap (option_map (chosen_by (directives_of ds))) (find-filter plain_directive_definition (λ d. bytes_eq n (directive_name d)) (directives_in (built_in ++ ds)))
    where
      option_map-map : (o : Option (Placed Place (DirectiveDefinitionTree Place))) → option_map (λ d. chosen_by (directives_of ds) (plain_directive_definition d)) o ≡ option_map (chosen_by (directives_of ds)) (option_map plain_directive_definition o)
      option_map-map None = refl
      option_map-map (Some d) = refl

  pub directives_alike : (ds es : Definitions) → ((n : List ℕ) → directives_of ds n ≡ directives_of es n) → ((n : List ℕ) → directives_of (built_in ++ ds) n ≡ directives_of (built_in ++ es) n)
      → named plain_directive_definition (folded_directives built_in ds) ≡ named plain_directive_definition (folded_directives built_in es)
  directives_alike ds es own all = fin.same_map nat_list_cmp_total by_bytes-IsAntisymmetric _ _ (λ n.
      get_directive ds n ∙ (λ k. option_map (chosen_by (λ m. own m k)) (slice_get (all n k) 0)) ∙ sym (get_directive es n))

-- ---- the schema definition

-- its description, and its parts
abbrev pub Told : Type 0
Told = Option (Text (Unit {0})) × SchemaParts (Unit {0})

abbrev pub told : SchemaGiver → Told
told g = (option_map unplaced_text g.description, unplaced_schema g.parts)

abbrev pub schema_unplaced_here : DefinitionTree (Unit {0}) → Option Told
schema_unplaced_here (tree.Schema p d s) = Some (d, s)
schema_unplaced_here _ = None

pub schema_unplaced : (d : DefinitionTree Place) → schema_unplaced_here (unplaced_definition d) ≡ option_map told (schema_here d)
schema_unplaced (tree.Schema p d s) = refl
schema_unplaced _ = refl

abbrev pub schema_extension_unplaced_here : DefinitionTree (Unit {0}) → Option (SchemaParts (Unit {0}))
schema_extension_unplaced_here (tree.ExtendSchema p s) = Some s
schema_extension_unplaced_here _ = None

pub schema_extension_unplaced : (d : DefinitionTree Place) → schema_extension_unplaced_here (unplaced_definition d) ≡ option_map unplaced_schema (schema_extension_here d)
schema_extension_unplaced (tree.ExtendSchema p s) = refl
schema_extension_unplaced _ = refl

abbrev pub schemas_in : Definitions → List SchemaGiver
schemas_in ds = flat_map (λ d. option_to_list (schema_here d)) ds

abbrev pub schema_extensions_in : Definitions → List (SchemaParts Place)
schema_extensions_in ds = flat_map (λ d. option_to_list (schema_extension_here d)) ds

first_of_map : {X Y : Type 0} (f : X → Y) (xs : List X) → option_map f (slice_get xs 0) ≡ slice_get (map f xs) 0
first_of_map f [] = refl
first_of_map f (x ∷ xs) = refl

abbrev Part : Type 0
Part = Given Place (SchemaParts Place)

abbrev it_of : Part → SchemaParts (Unit {0})
it_of g = unplaced_schema g.it

-- the parts of schema extensions
extended_after : (first : ℕ) (before ds : Definitions) → map it_of (flat_map extends_schema (each_place_after (λ b d. listed_after first b d ∷ []) before ds)) ≡ map unplaced_schema (schema_extensions_in ds)
extended_after first before [] = refl
extended_after first before (d ∷ ds) =
    map-append it_of (extends_schema (listed_after first before d)) (flat_map extends_schema (each_place_after (λ b e. listed_after first b e ∷ []) (before ++ d ∷ []) ds))
    ∙ (λ i. by (schema_extension_here d) i ++ extended_after first (before ++ d ∷ []) ds i)
    ∙ sym (map-append unplaced_schema (option_to_list (schema_extension_here d)) (schema_extensions_in ds))
  where
    by : (o : Option (SchemaParts Place)) → map it_of (all_given (listed_after first before d).extension (option_to_list o)) ≡ map unplaced_schema (option_to_list o)
    by None = refl
    by (Some s) = refl

module _ (i j : ℕ) (ds es : Definitions) (types : (n : List ℕ) → types_of ds n ≡ types_of es n) (schemas : map told (schemas_in ds) ≡ map told (schemas_in es))
    (extensions : map unplaced_schema (schema_extensions_in ds) ≡ map unplaced_schema (schema_extensions_in es)) where
  -- is an object, without places
  abbrev is_object : Option (TypeDefinition (Unit {0})) → Bool
  is_object o = option_map_or (λ t. same_kind t.parts.kind kind.Object) o false

  object_unplaced : (o : Option (TypeDefinition Place)) → option_map_or (λ t. same_kind t.parts.kind kind.Object) o false ≡ is_object (option_map unplaced_type_definition o)
  object_unplaced None = refl
  object_unplaced (Some t) = refl

  pub objects : (n : List ℕ) → is_object_in ds n ≡ is_object_in es n
  objects n = object_unplaced (type_named n ds) ∙ ap is_object (named_unplaced n ds) ∙ (λ k. is_object (slice_get (types n k) 0)) ∙ sym (object_unplaced (type_named n es) ∙ ap is_object (named_unplaced n es))

  abbrev roots_if : OperationType → Bool → List Root
  roots_if operation b = if b then record { it = record { operation_type = operation; name = record { it = default_root_name operation; place = None } }; place = None } ∷ [] else []

  implicit : implicit_roots ds ≡ implicit_roots es
  implicit = λ k. roots_if operation.Query (objects (default_root_name operation.Query) k) ++ (roots_if operation.Mutation (objects (default_root_name operation.Mutation) k) ++ roots_if operation.Subscription (objects (default_root_name operation.Subscription) k))

  pub definitions : option_map told (schema_definition_in ds) ≡ option_map told (schema_definition_in es)
  definitions = first_of_map told (schemas_in ds) ∙ ap (λ l. slice_get l 0) schemas ∙ sym (first_of_map told (schemas_in es))

  some_told : (o : Option SchemaGiver) → is_some o ≡ is_some (option_map told o)
  some_told None = refl
  some_told (Some g) = refl

  pub defined : schema_is_defined ds ≡ schema_is_defined es
  defined = λ k. (some_told (schema_definition_in ds) ∙ ap is_some definitions ∙ sym (some_told (schema_definition_in es))) k || is_some (slice_get (implicit k) 0)

  abbrev base_of : Option SchemaGiver → List Root → SchemaGiver
  base_of o roots = option_map_or (λ s. s) o (record { place = None; description = None; parts = record { directives = []; roots = roots } })

  abbrev told_by : Option Told → List Root → Told
  told_by o roots = option_map_or (λ s. s) o (None, unplaced_schema (record { directives = []; roots = roots }))

  base_told : (o : Option SchemaGiver) (roots : List Root) → told (base_of o roots) ≡ told_by (option_map told o) roots
  base_told None roots = refl
  base_told (Some g) roots = refl

  pub base : told (schema_base ds) ≡ told (schema_base es)
  base = base_told (schema_definition_in ds) (implicit_roots ds) ∙ (λ k. told_by (definitions k) (implicit k)) ∙ sym (base_told (schema_definition_in es) (implicit_roots es))

  parts_by : (first : ℕ) (fs : Definitions) (b : Bool) → map it_of (if b then flat_map extends_schema (numbered first fs) else []) ≡ (if b then map unplaced_schema (schema_extensions_in fs) else [])
  parts_by first fs true = extended_after first [] fs
  parts_by first fs false = refl

  parts : map it_of (schema_parts_given i ds) ≡ map it_of (schema_parts_given j es)
  parts = λ k. (base k).1 ∷ (parts_by i ds (schema_is_defined ds) ∙ (λ m. if defined m then extensions m else []) ∙ sym (parts_by j es (schema_is_defined es))) k

  -- directives, in order
  given_it : (g : Part) → map (plain_given unplaced_directive) (all_given g.extension g.it.directives) ≡ map (λ d. d.it) (it_of g).directives
  given_it g = by g.it.directives
    where
      by : (xs : List (Placed Place (DirectiveTree Place))) → map (plain_given unplaced_directive) (all_given g.extension xs) ≡ map (λ d. d.it) (map (unplaced_node unplaced_directive) xs)
      by [] = refl
      by (x ∷ xs) = ap (λ l. unplaced_directive x.it ∷ l) (by xs)

  directives_told : (gs : List Part) → map (plain_given unplaced_directive) (flat_map (λ g. all_given g.extension g.it.directives) gs) ≡ flat_map (λ (s : SchemaParts (Unit {0})). map (λ d. d.it) s.directives) (map it_of gs)
  directives_told [] = refl
  directives_told (g ∷ gs) = map-append (plain_given unplaced_directive) (all_given g.extension g.it.directives) (flat_map (λ h. all_given h.extension h.it.directives) gs) ∙ (λ k. given_it g k ++ directives_told gs k)

  -- roots, in order
  abbrev root_told : Given Place Root → RootOperationTree (Unit {0})
  root_told g = unplaced_root g.it.it

  root_it : (g : Part) → map root_told (all_given g.extension g.it.roots) ≡ map (λ r. r.it) (it_of g).roots
  root_it g = by g.it.roots
    where
      by : (xs : List Root) → map root_told (all_given g.extension xs) ≡ map (λ r. r.it) (map (unplaced_node unplaced_root) xs)
      by [] = refl
      by (x ∷ xs) = ap (λ l. unplaced_root x.it ∷ l) (by xs)

  roots_told : (gs : List Part) → map root_told (flat_map (λ g. all_given g.extension g.it.roots) gs) ≡ flat_map (λ (s : SchemaParts (Unit {0})). map (λ r. r.it) s.roots) (map it_of gs)
  roots_told [] = refl
  roots_told (g ∷ gs) = map-append root_told (all_given g.extension g.it.roots) (flat_map (λ h. all_given h.extension h.it.roots) gs) ∙ (λ k. root_it g k ++ roots_told gs k)

  pub roots : map root_told (roots_given i ds) ≡ map root_told (roots_given j es)
  roots = roots_told (schema_parts_given i ds) ∙ ap (flat_map (λ (s : SchemaParts (Unit {0})). map (λ r. r.it) s.roots)) parts ∙ sym (roots_told (schema_parts_given j es))

  -- the first root of an operation
  abbrev name_in : OperationType → List (RootOperationTree (Unit {0})) → Option (List ℕ)
  name_in operation rs = option_map (λ r. r.name.it) (find (λ r. bytes_eq (operation_keyword operation) (operation_keyword r.operation_type)) rs)

  root_named : (operation : OperationType) (gs : List (Given Place Root)) → option_map given_name (root_in operation gs) ≡ name_in operation (map root_told gs)
  root_named operation [] = refl
  root_named operation (g ∷ gs) = by (bytes_eq (operation_keyword operation) (root_key g)) (root_named operation gs)
    where
      by : (b : Bool) → option_map given_name (root_in operation gs) ≡ name_in operation (map root_told gs)
          → option_map given_name (option_map (λ (h : Given Place Root). record { extension = h.extension; it = h.it.it.name }) (if b then Some g else find (λ h. bytes_eq (operation_keyword operation) (root_key h)) gs))
          ≡ option_map (λ (r : RootOperationTree (Unit {0})). r.name.it) (if b then Some (root_told g) else find (λ r. bytes_eq (operation_keyword operation) (operation_keyword r.operation_type)) (map root_told gs))
      by true h = refl
      by false h = h

  root : (operation : OperationType) → option_map given_name (root_in operation (roots_given i ds)) ≡ option_map given_name (root_in operation (roots_given j es))
  root operation = root_named operation (roots_given i ds) ∙ ap (name_in operation) roots ∙ sym (root_named operation (roots_given j es))

  pub definition_alike : plain_roots (folded_schema i ds) ≡ plain_roots (folded_schema j es)
  definition_alike = λ k. record {
    description = (base k).0;
    directives = (directives_told (schema_parts_given i ds) ∙ ap (flat_map (λ (s : SchemaParts (Unit {0})). map (λ d. d.it) s.directives)) parts ∙ sym (directives_told (schema_parts_given j es))) k;
    query = root operation.Query k;
    mutation = root operation.Mutation k;
    subscription = root operation.Subscription k;
  }
