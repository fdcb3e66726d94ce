-- Among what is written each sort of definitions is the same of lists that are rearranged.
use Rattle.std.proofs.Common.{◌≡◌, ℕ, Bool, true, false, List, [], ◌∷◌, ◌++◌, map, filter, find, slice_get, bytes_eq, is_some, refl, sym, ap, ◌∙◌, Option, None, Some, option_map, option_to_list, if◌then◌else◌}
use Rattle.std.specs.List.{flat_map, list_any, AllByRecursion}
use Rattle.std.specs.Option.{option_map_or}
use Rattle.std.proofs.lemmas.List.Elements.{filter-append, All-filter, All-from_recursion, recursion_from_All}
use Rattle.std.proofs.lemmas.Slice.Eq.{bytes_eq-Decides}
use Rattle.graphql_names.specs.Placed.{Place, Placed}
use Rattle.graphql_names.specs.Places.{is_built_in}
use Rattle.schema_fold.specs.in_directives.DirectiveTree.{DirectiveDefinitionTree}
use Rattle.schema_fold.specs.in_definitions.DefinitionTree.{DefinitionTree, DirectiveDefinition, ExtendSchema, unplaced_definition, unplaced_document}
use Rattle.schema_fold.specs.in_definitions.Queries.{is_executable}
use Rattle.schema_fold.specs.in_components.Lists.{firsts}
use Rattle.schema_fold.specs.in_schema_types.SchemaTree.{SchemaType, SchemaRoots}
use Rattle.schema_fold.specs.in_schema_types.TypeParts.{TypeParts, type_here, extension_by}
use Rattle.schema_fold.specs.in_schema_types.Out.{schema_parts_given_by, extensions_of_schema, extensions_of_type, type_parts_given_by, written_definition, written_extensions}
use Rattle.schema_fold.specs.in_schema_types.Plain.{plain_directive_definition}
use Rattle.schema_fold.specs.NumberedDefinition.{Definitions, type_name, types_in, directive_here, directive_name, directives_in}
use Rattle.schema_fold.specs.SchemaFold.{schema_base, is_object_in}
use Rattle.rule_definitions.proofs.Lookups.{find_given}
use Rattle.verdict_laws.specs.Table.{AreOwn}
use Rattle.verdict_laws.specs.Twice.{WrittenOf}
use Rattle.verdict_laws.specs.RearrangedLists.{IsRearranged}
use Rattle.verdict_laws.specs.Writing.{RearrangedWritesAlike, RearrangedWritesPermuted}
use Rattle.verdict_laws.proofs.Gathered.{map-filter, find-filter}
use Rattle.verdict_laws.proofs.Parts.{unplaced_type_definition, extensions_of}
use Rattle.verdict_laws.proofs.Roots.{told}
use Rattle.verdict_laws.proofs.RearrangedLists.{rearranged_after, types_same, extensions_same, directives_same, executable_unplaced}
use Rattle.verdict_laws.proofs.Marks.{marked_named_after}
use Rattle.verdict_laws.proofs.Changes.{type_written, schema_written, left_out}
use Rattle.verdict_laws.proofs.Written.{marked_type, marked_type_name, type_with, type_out, MarkedDirective, marked_directive, marked_directive_name, own_directives, chosen, directive_written, directive_out, schema_with, schema_by, applied_extensions, schema_of_all, out_plain}
use Rattle.verdict_laws.proofs.Sorts.{Sort, nothing, IsOfName, defined, extended, passes, no_one, no_map, passing, any-filter, rearranged_by_sorts}
use Rattle.verdict_laws.proofs.Permuting.{rearranged_permuted}
use Rattle.verdict_laws.proofs.ListsAlike.{schema_alike, own_marked}

-- ---- what does not pass

-- of a type, where neither its definition nor its extensions do
module _ (test : Sort → Bool) where
  no_type : (b : Bool) (t : SchemaType (Unit {0})) → test (record nothing { type = Some t.name.it }) ≡ false → test (record nothing { extension = Some t.name.it }) ≡ false → filter (passes test) (type_written b t) ≡ []
  no_type b t defines extends =
      filter-append (passes test) (if b then [] else written_definition t ∷ []) (written_extensions t)
      ∙ (λ i. by b i ++ no_map test (λ e. extension_by t.kind e.place (type_parts_given_by (Some e) t)) (λ e. ap test (extended t.kind e.place (type_parts_given_by (Some e) t)) ∙ extends) (extensions_of_type t) i)
    where
      by : (b : Bool) → filter (passes test) (if b then [] else written_definition t ∷ []) ≡ []
      by true = refl
      by false = no_one test (written_definition t) (ap test (defined t.kind t.place t.description (type_parts_given_by None t)) ∙ defines)

  no_directive : (q : MarkedDirective) → test (record nothing { directive = Some (marked_directive_name q) }) ≡ false → filter (passes test) (directive_written q) ≡ []
  no_directive q h = by q.0
    where
      by : (b : Bool) → filter (passes test) (if b then [] else DirectiveDefinition tt q.1 ∷ []) ≡ []
      by true = refl
      by false = no_one test (DirectiveDefinition tt q.1) h

-- the directive that is chosen has the name
chosen_name : (ds : Definitions) (q : MarkedDirective) → marked_directive_name (chosen (own_directives ds) q) ≡ marked_directive_name q
chosen_name ds q =
    ap (λ o. marked_directive_name (option_map_or (λ x. x) o q)) (sym (find-filter marked_directive called (directives_in ds)))
    ∙ by (find called (directives_in ds)) refl
  where
    called : Placed Place (DirectiveDefinitionTree Place) → Bool
    called d = bytes_eq (marked_directive_name q) (directive_name d)

    by : (o : Option (Placed Place (DirectiveDefinitionTree Place))) → find called (directives_in ds) ≡ o → marked_directive_name (option_map_or (λ x. x) (option_map marked_directive o) q) ≡ marked_directive_name q
    by None e = refl
    by (Some d) e = sym ((bytes_eq-Decides (marked_directive_name q) (directive_name d)).0 (find_given called (directives_in ds) d e).1)

-- ---- of lists that are rearranged

-- those of a name, with marks, after the same definitions
module _ {A B : Type 0} (here : DefinitionTree Place → Option A) (mark : A → Bool) (blind : A → B) (name : A → List ℕ) (n : List ℕ) where
  abbrev all_here : Definitions → List A
  all_here ds = flat_map (λ d. option_to_list (here d)) ds

  abbrev those : Definitions → List A
  those ds = filter (λ a. bytes_eq n (name a)) (all_here ds)

  abbrev with_marks : List A → List (Bool × B)
  with_marks xs = map (λ a. (mark a, blind a)) xs

  named_marked : (ds : Definitions) → AllByRecursion (λ a. mark a ≡ false) (all_here ds) → with_marks (those ds) ≡ map (λ u. (false, u)) (map blind (those ds))
  named_marked ds own = own_marked mark blind (those ds) (recursion_from_All (λ a. mark a ≡ false) (those ds) (All-filter (λ a. bytes_eq n (name a)) (λ a. mark a ≡ false) (all_here ds) (All-from_recursion (λ a. mark a ≡ false) (all_here ds) own)))

  named_alike : (front ds es : Definitions) → AllByRecursion (λ a. mark a ≡ false) (all_here ds) → AllByRecursion (λ a. mark a ≡ false) (all_here es) → map blind (those ds) ≡ map blind (those es)
      → with_marks (those (front ++ ds)) ≡ with_marks (those (front ++ es))
  named_alike front ds es hd he same =
      marked_named_after here (λ a. (mark a, blind a)) (λ a. bytes_eq n (name a)) front ds
      ∙ ap (λ l. with_marks (those front) ++ l) (named_marked ds hd ∙ ap (map (λ u. (false, u))) same ∙ sym (named_marked es he))
      ∙ sym (marked_named_after here (λ a. (mark a, blind a)) (λ a. bytes_eq n (name a)) front es)

module _ (built_in ds es : Definitions) (r : IsRearranged ds es) (hd : AreOwn ds) (he : AreOwn es) where
  abbrev all : Definitions → Definitions
  all texts = built_in ++ texts

  directives_alike : (front : Definitions) (n : List ℕ) → own_directives (front ++ ds) n ≡ own_directives (front ++ es) n
  directives_alike front n = named_alike directive_here (λ d. is_built_in d.place) plain_directive_definition directive_name n front ds es hd.directives he.directives (directives_same ds es r n)

  types_alike : (n : List ℕ) → filter (λ q. bytes_eq n (marked_type_name q)) (map marked_type (types_in (all ds))) ≡ filter (λ q. bytes_eq n (marked_type_name q)) (map marked_type (types_in (all es)))
  types_alike n = at ds ∙ named_alike type_here (λ t. is_built_in t.place) unplaced_type_definition type_name n built_in ds es hd.types he.types (types_same ds es r n) ∙ sym (at es)
    where
      at : (fs : Definitions) → filter (λ q. bytes_eq n (marked_type_name q)) (map marked_type (types_in (all fs))) ≡ map marked_type (filter (λ t. bytes_eq n (type_name t)) (types_in (all fs)))
      at fs = map-filter marked_type (λ t. bytes_eq n (type_name t)) (λ q. bytes_eq n (marked_type_name q)) (λ t. refl) (types_in (all fs))

  all_directives_alike : (n : List ℕ) → filter (λ q. bytes_eq n (marked_directive_name q)) (map marked_directive (directives_in (all ds))) ≡ filter (λ q. bytes_eq n (marked_directive_name q)) (map marked_directive (directives_in (all es)))
  all_directives_alike n = at ds ∙ directives_alike built_in n ∙ sym (at es)
    where
      at : (fs : Definitions) → filter (λ q. bytes_eq n (marked_directive_name q)) (map marked_directive (directives_in (all fs))) ≡ own_directives (all fs) n
      at fs = map-filter marked_directive (λ d. bytes_eq n (directive_name d)) (λ q. bytes_eq n (marked_directive_name q)) (λ d. refl) (directives_in (all fs))

  module _ (n : List ℕ) (test : Sort → Bool) (is : IsOfName n test) where
    pieces : (a b c : List (DefinitionTree (Unit {0}))) → filter (passes test) ((a ++ b) ++ c) ≡ (filter (passes test) a ++ filter (passes test) b) ++ filter (passes test) c
    pieces a b c = filter-append (passes test) (a ++ b) c ∙ ap (λ l. l ++ filter (passes test) c) (filter-append (passes test) a b)

    abbrev directives_out : (List ℕ → List MarkedDirective) → Definitions → List (DefinitionTree (Unit {0}))
    directives_out own fs = flat_map (directive_out own) (firsts marked_directive_name (map marked_directive (directives_in fs)))

    abbrev types_out : (List ℕ → List (TypeParts (Unit {0}))) → Definitions → List (DefinitionTree (Unit {0}))
    types_out extensions fs = flat_map (type_out extensions) (firsts marked_type_name (map marked_type (types_in fs)))

    directives_pass : filter (passes test) (directives_out (own_directives ds) (all ds)) ≡ filter (passes test) (directives_out (own_directives es) (all es))
    directives_pass =
        passing test n marked_directive_name (directive_out (own_directives ds))
        (λ q h. no_directive test (chosen (own_directives ds) q) (is.directives (marked_directive_name (chosen (own_directives ds) q)) (ap (bytes_eq n) (chosen_name ds q) ∙ h)))
        (map marked_directive (directives_in (all ds))) (map marked_directive (directives_in (all es))) (all_directives_alike n)
        ∙ (λ k. filter (passes test) (directives_out (λ m. directives_alike [] m k) (all es)))

    types_pass : filter (passes test) (types_out (extensions_of (all ds)) (all ds)) ≡ filter (passes test) (types_out (extensions_of (all es)) (all es))
    types_pass =
        passing test n marked_type_name (type_out (extensions_of (all ds))) (λ q h. no_type test q.0 (type_with (extensions_of (all ds)) q) (is.types (marked_type_name q) h) (is.extensions (marked_type_name q) h)) (map marked_type (types_in (all ds))) (map marked_type (types_in (all es))) (types_alike n)
        ∙ (λ k. filter (passes test) (types_out (λ m. extensions_same (all ds) (all es) (rearranged_after built_in ds es r) m k) (all es)))

    out_alike : (i j : ℕ) → filter (passes test) (unplaced_document (WrittenOf built_in i ds)) ≡ filter (passes test) (unplaced_document (WrittenOf built_in j es))
    out_alike i j =
        ap (filter (passes test)) (out_plain built_in i ds)
        ∙ pieces (schema_of_all (all ds)) (directives_out (own_directives ds) (all ds)) (types_out (extensions_of (all ds)) (all ds))
        ∙ (λ k. (filter (passes test) (schema_alike (all ds) (all es) (rearranged_after built_in ds es r) k) ++ directives_pass k) ++ types_pass k)
        ∙ sym (pieces (schema_of_all (all es)) (directives_out (own_directives es) (all es)) (types_out (extensions_of (all es)) (all es)))
        ∙ ap (filter (passes test)) (sym (out_plain built_in j es))

pub writes_rearranged : RearrangedWritesAlike
writes_rearranged built_in i j ds es r hd he = rearranged_by_sorts (WrittenOf built_in i ds) (WrittenOf built_in j es) (λ n test is. out_alike built_in ds es r hd he n test is i j)

-- ---- no operation or fragment is written

abbrev executes : Sort → Bool
executes s = s.executable

none_of_each : {X : Type 0} (F : X → List (DefinitionTree (Unit {0}))) → ((x : X) → filter is_executable (F x) ≡ []) → (xs : List X) → filter is_executable (flat_map F xs) ≡ []
none_of_each F none [] = refl
none_of_each F none (x ∷ xs) = filter-append is_executable (F x) (flat_map F xs) ∙ (λ i. none x i ++ none_of_each F none xs i)

none_of_schema : (is_object : List ℕ → Bool) (r : SchemaRoots (Unit {0})) → filter is_executable (schema_by is_object r) ≡ []
none_of_schema is_object r = by (left_out is_object r)
  where
    by : (b : Bool) → filter is_executable (schema_written tt b r) ≡ []
    by true = refl
    by false = no_map executes (λ e. ExtendSchema e.place (schema_parts_given_by tt (Some e) r)) (λ e. refl) (extensions_of_schema r)

none_written : (built_in : Definitions) (first : ℕ) (texts : Definitions) → list_any is_executable (WrittenOf built_in first texts) ≡ false
none_written built_in first texts =
    any-filter is_executable unplaced_definition (WrittenOf built_in first texts)
    ∙ ap (λ l. is_some (slice_get l 0)) (sym (map-filter unplaced_definition is_executable is_executable executable_unplaced (WrittenOf built_in first texts)) ∙ ap (filter is_executable) (out_plain built_in first texts) ∙ none)
  where
    schema : List (DefinitionTree (Unit {0}))
    schema = schema_of_all (built_in ++ texts)

    directives : List (DefinitionTree (Unit {0}))
    directives = flat_map (directive_out (own_directives texts)) (firsts marked_directive_name (map marked_directive (directives_in (built_in ++ texts))))

    types : List (DefinitionTree (Unit {0}))
    types = flat_map (type_out (extensions_of (built_in ++ texts))) (firsts marked_type_name (map marked_type (types_in (built_in ++ texts))))

    none : filter is_executable ((schema ++ directives) ++ types) ≡ []
    none =
        filter-append is_executable (schema ++ directives) types
        ∙ ap (λ l. l ++ filter is_executable types) (filter-append is_executable schema directives)
        ∙ (λ i. (none_of_schema (is_object_in (built_in ++ texts)) (schema_with (told (schema_base (built_in ++ texts))) (applied_extensions (built_in ++ texts))) i
        ++ none_of_each (directive_out (own_directives texts)) (λ q. no_directive executes (chosen (own_directives texts) q) refl) (firsts marked_directive_name (map marked_directive (directives_in (built_in ++ texts)))) i)
        ++ none_of_each (type_out (extensions_of (built_in ++ texts))) (λ q. no_type executes q.0 (type_with (extensions_of (built_in ++ texts)) q) refl refl) (firsts marked_type_name (map marked_type (types_in (built_in ++ texts)))) i)

pub writes_permuted : RearrangedWritesPermuted
writes_permuted built_in i j ds es r hd he = rearranged_permuted (WrittenOf built_in i ds) (WrittenOf built_in j es) (none_written built_in i ds) (writes_rearranged built_in i j ds es r hd he)
