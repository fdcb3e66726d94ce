-- What is written of a list of definitions, without places: by what is gathered of each sort, and what is built in.
use Rattle.std.proofs.Common.{◌≡◌, ℕ, suc, Bool, true, false, List, [], ◌∷◌, ◌++◌, map, filter, find, slice_get, bytes_eq, refl, sym, ap, ◌∙◌, Option, None, Some, option_map, option_to_list, if◌then◌else◌}
use Rattle.std.specs.List.{flat_map}
use Rattle.std.specs.Option.{option_map_or}
use Rattle.std.proofs.lemmas.List.{map-append}
use Rattle.std.proofs.lemmas.List.Folds.{flat_map-map}
use Rattle.std.proofs.lemmas.Simd.{map-map}
use Rattle.graphql_names.specs.Placed.{Place, Placed, Text, unplaced_text, unplaced_node}
use Rattle.graphql_names.specs.Places.{is_built_in}
use Rattle.schema_fold.specs.in_directives.DirectiveTree.{DirectiveDefinitionTree, unplaced_directive, unplaced_input_value}
use Rattle.schema_fold.specs.in_type_members.TypeSystemTree.{SchemaParts, unplaced_field_definition, unplaced_enum_value, unplaced_schema}
use Rattle.schema_fold.specs.in_definitions.DefinitionTree.{DefinitionTree, DirectiveDefinition, unplaced_definition, unplaced_document}
use Rattle.schema_fold.specs.in_definitions.Queries.{definition_place}
use Rattle.schema_fold.specs.in_components.Lists.{firsts}
use Rattle.schema_fold.specs.in_components.Given.{Given}
use Rattle.schema_fold.specs.in_schema_types.SchemaTree.{SchemaType, SchemaRoots, SchemaTree, same_kind}
use Rattle.schema_fold.specs.in_schema_types.TypeParts.{TypeParts, TypeDefinition, definition_by, extension_by}
use Rattle.schema_fold.specs.in_schema_types.declared.type_kind.TypeKind.{TypeKind}
use Rattle.schema_fold.specs.in_schema_types.declared.type_kind.TypeKind.TheVariants as kind
use Rattle.schema_fold.specs.in_schema_types.Plain.{plain_directive_definition}
use Rattle.schema_fold.specs.in_schema_types.Out.{is_object_named, written_schema, written_directive, written_type}
use Rattle.schema_fold.specs.NumberedDefinition.{Definitions, numbered, type_name, types_in, type_named, directive_name, directives_in}
use Rattle.schema_fold.specs.SchemaFold.{schema_extension_here, schema_base, schema_is_defined, is_object_in}
use Rattle.schema_fold.specs.Fold.{folded_type, folded_types, chosen_directive, folded_directives, fold}
use Rattle.verdict_laws.specs.Twice.{WrittenOf}
use Rattle.verdict_laws.specs.Whole.{Extension, extensions_in}
use Rattle.verdict_laws.specs.WholeSchema.{SchemaExtension, schema_extensions_in}
use Rattle.verdict_laws.proofs.Whole.{as_given}
use Rattle.verdict_laws.proofs.Numbering.{placed, pairs, extensions_given, without_numbers}
use Rattle.verdict_laws.proofs.Gathered.{map-filter, find-filter}
use Rattle.verdict_laws.proofs.Parts.{unplaced_parts, unplaced_type_definition, extensions_in as parts_in, extensions_of, extends_called, parts_after}
use Rattle.verdict_laws.proofs.Roots.{Told, told, schema_extensions_in as schema_parts_in}
use Rattle.verdict_laws.proofs.Marks.{under_firsts}
use Rattle.verdict_laws.proofs.Changes.{Change, Carries, firsts-map, made_type, made_schema, type_written, schema_written, left_out, changed_given, changed_roots, type_made, schema_made, left_out-change, type_carried, schema_carried}
use Rattle.verdict_laws.proofs.Ranks.{ranked, with_ranks, type_ranked, schema_ranks, schema_of, schema_out_of, schema_ranked}

-- ---- without places

abbrev pub forget : Change Place (Unit {0})
forget = record {
  extension = λ e. record { number = e.number; place = tt };
  same = λ e f. refl;
  place = λ p. tt;
  placed = λ e. refl;
  text = unplaced_text;
  text_named = λ t. refl;
  directive = unplaced_node unplaced_directive;
  field = unplaced_node unplaced_field_definition;
  field_named = λ x. refl;
  value = unplaced_node unplaced_enum_value;
  value_named = λ x. refl;
  input = unplaced_node unplaced_input_value;
  input_named = λ x. refl;
}

pub forgets : Carries forget unplaced_definition
forgets = record { defines = defines; extends = extends; schema = λ p d s. refl; extends_schema = λ p s. refl }
  where
    defines : (k : TypeKind) (p : Place) (d : Option (Text Place)) (t : TypeParts Place) → unplaced_definition (definition_by k p d t) ≡ definition_by k tt (option_map unplaced_text d) (unplaced_parts t)
    defines kind.Scalar p d t = refl
    defines kind.Object p d t = refl
    defines kind.Interface p d t = refl
    defines kind.Union p d t = refl
    defines kind.Enum p d t = refl
    defines kind.InputObject p d t = refl

    extends : (k : TypeKind) (p : Place) (t : TypeParts Place) → unplaced_definition (extension_by k p t) ≡ extension_by k tt (unplaced_parts t)
    extends kind.Scalar p t = refl
    extends kind.Object p t = refl
    extends kind.Interface p t = refl
    extends kind.Union p t = refl
    extends kind.Enum p t = refl
    extends kind.InputObject p t = refl

abbrev pub nowhere : {A : Type 0} → A → Placed (Unit {0}) A
nowhere x = record { it = x; place = tt }

ranks_forgotten : {A B : Type 0} (f : A → B) (k : ℕ) (xs : List (Placed Place A)) → map (changed_given forget f) (ranked k xs) ≡ ranked k (map nowhere (map f (map (λ x. x.it) xs)))
ranks_forgotten f k [] = refl
ranks_forgotten f k (x ∷ xs) = ap (λ l. record { extension = Some (record { number = k; place = tt }); it = f x.it } ∷ l) (ranks_forgotten f (suc k) xs)

module _ {X Y Z : Type 0} (g : Y → Z) (F : X → List Y) where
  map-flat_map : (xs : List X) → map g (flat_map F xs) ≡ flat_map (λ x. map g (F x)) xs
  map-flat_map [] = refl
  map-flat_map (x ∷ xs) = map-append g (F x) (flat_map F xs) ∙ ap (λ l. map g (F x) ++ l) (map-flat_map xs)

-- what is written of the first of each name, where of each x is written what G says of its view
module _ {X V : Type 0} (key : X → List ℕ) (key' : V → List ℕ) (view : X → V) (keeps : (x : X) → key' (view x) ≡ key x) {S : Type 0} (written_of : List ℕ × S → List (DefinitionTree Place)) (entry : X → S)
    (G : V → List (DefinitionTree (Unit {0}))) (is : (x : X) → unplaced_document (written_of (key x, entry x)) ≡ G (view x)) where
  firsts_written : (xs : List X) → unplaced_document (flat_map written_of (map (λ x. (key x, entry x)) (firsts key xs))) ≡ flat_map G (firsts key' (map view xs))
  firsts_written xs =
      map-flat_map unplaced_definition written_of (map (λ x. (key x, entry x)) (firsts key xs))
      ∙ flat_map-map (λ e. unplaced_document (written_of e)) (λ x. (key x, entry x)) (firsts key xs)
      ∙ (λ i. flat_map (λ x. is x i) (firsts key xs))
      ∙ sym (flat_map-map G view (firsts key xs))
      ∙ ap (flat_map G) (firsts-map key key' view keeps xs)

-- ---- types

-- the definition of a type, and whether it is built in
abbrev pub MarkedType : Type 0
MarkedType = Bool × TypeDefinition (Unit {0})

abbrev pub marked_type : TypeDefinition Place → MarkedType
marked_type t = (is_built_in t.place, unplaced_type_definition t)

abbrev pub marked_type_name : MarkedType → List ℕ
marked_type_name q = q.1.parts.name.it

-- the type, with the extensions of its name
abbrev pub type_with : (List ℕ → List (TypeParts (Unit {0}))) → MarkedType → SchemaType (Unit {0})
type_with extensions q = made_type q.1 (with_ranks q.1.parts (map nowhere (filter (λ e. same_kind q.1.parts.kind e.kind) (extensions (marked_type_name q)))))

-- what is written of it
abbrev pub type_out : (List ℕ → List (TypeParts (Unit {0}))) → MarkedType → List (DefinitionTree (Unit {0}))
type_out extensions q = type_written q.0 (type_with extensions q)

module _ (ds : Definitions) (p : TypeParts Place) where
  its_extensions : map (λ (x : Extension). x.it) (extensions_in ds p) ≡ filter (λ e. same_kind p.kind e.kind) (filter (extends_called p.name.it) (parts_in ds))
  its_extensions =
      ap (map (λ (x : Extension). x.it)) (sym (without_numbers p 0 ds))
      ∙ map-map (λ (x : Extension). x.it) placed (pairs p (numbered 0 ds))
      ∙ sym (map-map (λ (g : Given Place (TypeParts Place)). g.it) as_given (pairs p (numbered 0 ds)))
      ∙ ap (map (λ (g : Given Place (TypeParts Place)). g.it)) (sym (extensions_given p 0 ds))
      ∙ parts_after p 0 [] ds

  its_extensions_unplaced : map unplaced_parts (map (λ (x : Extension). x.it) (extensions_in ds p)) ≡ filter (λ e. same_kind p.kind e.kind) (extensions_of ds p.name.it)
  its_extensions_unplaced = ap (map unplaced_parts) its_extensions
      ∙ sym (map-filter unplaced_parts (λ e. same_kind p.kind e.kind) (λ e. same_kind p.kind e.kind) (λ x. refl) (filter (extends_called p.name.it) (parts_in ds)))

type_plain : (first : ℕ) (ds : Definitions) (t : TypeDefinition Place) → unplaced_document (written_type (type_name t, folded_type (numbered first ds) t)) ≡ type_out (extensions_of ds) (marked_type t)
type_plain first ds t =
    let ranks = with_ranks t.parts (extensions_in ds t.parts) in
    ap unplaced_document (type_ranked first ds (type_name t) t)
    ∙ type_carried forget unplaced_definition forgets (is_built_in t.place) (made_type t ranks)
    ∙ ap (type_written (is_built_in t.place)) (type_made forget t ranks
    ∙ ap (λ l. made_type (unplaced_type_definition t) (record { extension = None; it = unplaced_parts t.parts } ∷ l)) (
    ranks_forgotten unplaced_parts 0 (extensions_in ds t.parts) ∙ ap (λ l. ranked 0 (map nowhere l)) (its_extensions_unplaced ds t.parts)))

types_plain : (first : ℕ) (ds : Definitions) → unplaced_document (flat_map written_type (folded_types first ds)) ≡ flat_map (type_out (extensions_of ds)) (firsts marked_type_name (map marked_type (types_in ds)))
types_plain first ds = firsts_written type_name marked_type_name marked_type (λ t. refl) written_type (folded_type (numbered first ds)) (type_out (extensions_of ds)) (type_plain first ds) (types_in ds)

-- ---- directive definitions

abbrev pub MarkedDirective : Type 0
MarkedDirective = Bool × DirectiveDefinitionTree (Unit {0})

abbrev pub marked_directive : Placed Place (DirectiveDefinitionTree Place) → MarkedDirective
marked_directive d = (is_built_in d.place, plain_directive_definition d)

abbrev pub marked_directive_name : MarkedDirective → List ℕ
marked_directive_name q = q.1.name.it

-- those of a name
abbrev pub own_directives : Definitions → List ℕ → List MarkedDirective
own_directives texts n = map marked_directive (filter (λ d. bytes_eq n (directive_name d)) (directives_in texts))

-- the first of the texts, or else this one
abbrev pub chosen : (List ℕ → List MarkedDirective) → MarkedDirective → MarkedDirective
chosen own q = option_map_or (λ x. x) (slice_get (own (marked_directive_name q)) 0) q

abbrev pub directive_written : MarkedDirective → List (DefinitionTree (Unit {0}))
directive_written q = if q.0 then [] else DirectiveDefinition tt q.1 ∷ []

abbrev pub directive_out : (List ℕ → List MarkedDirective) → MarkedDirective → List (DefinitionTree (Unit {0}))
directive_out own q = directive_written (chosen own q)

module _ (texts : Definitions) where
  chosen_marked : (d : Placed Place (DirectiveDefinitionTree Place)) → marked_directive (chosen_directive texts d) ≡ chosen (own_directives texts) (marked_directive d)
  chosen_marked d =
      by (find (λ own. bytes_eq (directive_name d) (directive_name own)) (directives_in texts))
      ∙ ap (λ o. option_map_or (λ x. x) o (marked_directive d)) (find-filter marked_directive (λ own. bytes_eq (directive_name d) (directive_name own)) (directives_in texts))
    where
      by : (o : Option (Placed Place (DirectiveDefinitionTree Place))) → marked_directive (option_map_or (λ own. own) o d) ≡ option_map_or (λ x. x) (option_map marked_directive o) (marked_directive d)
      by None = refl
      by (Some x) = refl

  directive_plain : (d : Placed Place (DirectiveDefinitionTree Place)) → unplaced_document (written_directive (directive_name d, chosen_directive texts d)) ≡ directive_out (own_directives texts) (marked_directive d)
  directive_plain d = by (is_built_in (chosen_directive texts d).place) ∙ ap directive_written (chosen_marked d)
    where
      by : (b : Bool) → unplaced_document (if b then [] else DirectiveDefinition (chosen_directive texts d).place (chosen_directive texts d).it ∷ []) ≡ (if b then [] else DirectiveDefinition tt (plain_directive_definition (chosen_directive texts d)) ∷ [])
      by true = refl
      by false = refl

  directives_plain : (built_in : Definitions) → unplaced_document (flat_map written_directive (folded_directives built_in texts))
      ≡ flat_map (directive_out (own_directives texts)) (firsts marked_directive_name (map marked_directive (directives_in (built_in ++ texts))))
  directives_plain built_in = firsts_written directive_name marked_directive_name marked_directive (λ d. refl) written_directive (chosen_directive texts) (directive_out (own_directives texts)) directive_plain (directives_in (built_in ++ texts))

-- ---- the schema definition

-- the schema definition, of what stands for it and of its extensions
abbrev pub schema_with : Told → List (SchemaParts (Unit {0})) → SchemaRoots (Unit {0})
schema_with base extensions = made_schema tt base.0 (with_ranks base.1 (map nowhere extensions))

abbrev pub schema_by : (List ℕ → Bool) → SchemaRoots (Unit {0}) → List (DefinitionTree (Unit {0}))
schema_by is_object r = schema_written tt (left_out is_object r) r

-- what is written of it, where these are the names of objects
abbrev pub schema_out : (List ℕ → Bool) → Told → List (SchemaParts (Unit {0})) → List (DefinitionTree (Unit {0}))
schema_out is_object base extensions = schema_by is_object (schema_with base extensions)

-- its extensions, where they apply
abbrev pub applied_extensions : Definitions → List (SchemaParts (Unit {0}))
applied_extensions ds = if schema_is_defined ds then map unplaced_schema (schema_parts_in ds) else []

its_schema_extensions : (ds : Definitions) → map (λ (x : SchemaExtension). x.it) (schema_extensions_in ds) ≡ schema_parts_in ds
its_schema_extensions [] = refl
its_schema_extensions (d ∷ ds) = by (schema_extension_here d) (its_schema_extensions ds)
  where
    by : (o : Option (SchemaParts Place)) → map (λ (x : SchemaExtension). x.it) (schema_extensions_in ds) ≡ schema_parts_in ds
        → map (λ (x : SchemaExtension). x.it) (option_map_or (λ parts. record { it = parts; place = definition_place d } ∷ []) o [] ++ schema_extensions_in ds) ≡ option_to_list o ++ schema_parts_in ds
    by None h = h
    by (Some s) h = ap (λ l. s ∷ l) h

objects_named : (first : ℕ) (ds : Definitions) (n : List ℕ) → is_object_named (folded_types first ds) n ≡ is_object_in ds n
objects_named first ds n =
    under_it (find (λ e. bytes_eq n e.0) (folded_types first ds))
    ∙ ap (λ o. option_map_or (λ t. same_kind t.kind kind.Object) o false) (under_firsts type_name (folded_type (numbered first ds)) n (types_in ds))
    ∙ by (type_named n ds)
  where
    under_it : (o : Option (List ℕ × SchemaType Place)) → option_map_or (λ e. same_kind e.1.kind kind.Object) o false ≡ option_map_or (λ t. same_kind t.kind kind.Object) (option_map (λ e. e.1) o) false
    under_it None = refl
    under_it (Some e) = refl

    by : (o : Option (TypeDefinition Place)) → option_map_or (λ t. same_kind t.kind kind.Object) (option_map (folded_type (numbered first ds)) o) false ≡ option_map_or (λ t. same_kind t.parts.kind kind.Object) o false
    by None = refl
    by (Some t) = refl

-- with places
pub schema_by_ranks : (built_in : Definitions) (first : ℕ) (texts : Definitions) → written_schema (fold built_in first texts) ≡ schema_out_of (built_in ++ texts) (is_object_in (built_in ++ texts)) (schema_ranks (built_in ++ texts))
schema_by_ranks built_in first texts =
    (λ i. schema_written None (left_out (λ n. objects_named first (built_in ++ texts) n i) (fold built_in first texts).definition) (fold built_in first texts).definition)
    ∙ schema_ranked first (built_in ++ texts) (is_object_in (built_in ++ texts))

schema_plain : (built_in : Definitions) (first : ℕ) (texts : Definitions) → unplaced_document (written_schema (fold built_in first texts))
    ≡ schema_out (is_object_in (built_in ++ texts)) (told (schema_base (built_in ++ texts))) (applied_extensions (built_in ++ texts))
schema_plain built_in first texts =
    let all = built_in ++ texts in
    let is_object = is_object_in all in
    let roots = schema_of all (schema_ranks all) in
    ap unplaced_document (schema_by_ranks built_in first texts)
    ∙ schema_carried forget unplaced_definition forgets None (left_out is_object roots) roots
    ∙ ap (λ b. schema_written tt b (changed_roots forget roots)) (sym (left_out-change forget is_object roots))
    ∙ ap (schema_by is_object) (
    schema_made forget (schema_base all).place (schema_base all).description (schema_ranks all)
    ∙ ap (λ l. made_schema tt (option_map unplaced_text (schema_base all).description) (record { extension = None; it = unplaced_schema (schema_base all).parts } ∷ l)) (
    ranks_forgotten unplaced_schema 0 (if schema_is_defined all then schema_extensions_in all else []) ∙ ap (λ l. ranked 0 (map nowhere l)) (by all (schema_is_defined all))))
  where
    by : (all : Definitions) (b : Bool) → map unplaced_schema (map (λ (x : SchemaExtension). x.it) (if b then schema_extensions_in all else [])) ≡ (if b then map unplaced_schema (schema_parts_in all) else [])
    by all true = ap (map unplaced_schema) (its_schema_extensions all)
    by all false = refl

-- ---- all of it

abbrev pub all_out : List (DefinitionTree (Unit {0})) → (List ℕ → List MarkedDirective) → List MarkedDirective → (List ℕ → List (TypeParts (Unit {0}))) → List MarkedType → List (DefinitionTree (Unit {0}))
all_out schema own directives extensions types = (schema ++ flat_map (directive_out own) (firsts marked_directive_name directives)) ++ flat_map (type_out extensions) (firsts marked_type_name types)

abbrev pub schema_of_all : Definitions → List (DefinitionTree (Unit {0}))
schema_of_all all = schema_out (is_object_in all) (told (schema_base all)) (applied_extensions all)

pub out_plain : (built_in : Definitions) (first : ℕ) (texts : Definitions) → unplaced_document (WrittenOf built_in first texts)
    ≡ all_out (schema_of_all (built_in ++ texts)) (own_directives texts) (map marked_directive (directives_in (built_in ++ texts))) (extensions_of (built_in ++ texts)) (map marked_type (types_in (built_in ++ texts)))
out_plain built_in first texts =
    map-append unplaced_definition (written_schema s ++ flat_map written_directive s.directives) (flat_map written_type s.types)
    ∙ ap (λ l. l ++ unplaced_document (flat_map written_type s.types)) (map-append unplaced_definition (written_schema s) (flat_map written_directive s.directives))
    ∙ (λ i. (schema_plain built_in first texts i ++ directives_plain texts built_in i) ++ types_plain first (built_in ++ texts) i)
  where
    s : SchemaTree Place
    s = fold built_in first texts
