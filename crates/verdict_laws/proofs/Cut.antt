-- One list from texts that are cut in two ways is folded and written alike.
use Rattle.std.proofs.Common.{◌≡◌, ℕ, ◌+◌, Bool, true, false, ◌&&◌, List, [], ◌∷◌, ◌++◌, map, filter, length, bytes_eq, refl, sym, ap, ◌∙◌, Option, None, Some, option_map, option_to_list, if◌then◌else◌}
use Rattle.std.specs.List.{flat_map}
use Rattle.std.specs.Option.{option_map_or}
use Rattle.std.proofs.lemmas.List.{map-append, length-map}
use Rattle.std.proofs.lemmas.List.Folds.{flat_map-map}
use Rattle.std.proofs.lemmas.Simd.{map-map}
use Rattle.graphql_names.specs.Placed.{Place}
use Rattle.graphql_names.specs.Places.{is_built_in}
use Rattle.schema_fold.specs.in_definitions.DefinitionTree as tree
use Rattle.schema_fold.specs.in_definitions.DefinitionTree.{DefinitionTree, unplaced_definition, unplaced_document}
use Rattle.schema_fold.specs.in_definitions.Queries.{is_extension, definition_place}
use Rattle.schema_fold.specs.in_components.Lists.{each_place_after, firsts}
use Rattle.schema_fold.specs.in_components.Given.{Given, ExtensionTree}
use Rattle.schema_fold.specs.in_schema_types.SchemaTree.{SchemaType, same_kind}
use Rattle.schema_fold.specs.in_schema_types.TypeParts.{TypeParts, TypeDefinition, type_here, type_extension_here}
use Rattle.schema_fold.specs.in_schema_types.Plain.{plain_directive_definition}
use Rattle.schema_fold.specs.in_schema_types.Out.{written_directive, written_type}
use Rattle.schema_fold.specs.NumberedDefinition.{Definitions, NumberedDefinition, listed_after, numbered, type_name, types_in, directive_here, directive_name, directives_in}
use Rattle.schema_fold.specs.Components.{go_together, extension_here, parts_of}
use Rattle.schema_fold.specs.Fold.{folded_type, folded_types, folded_directives}
use Rattle.verdict_laws.specs.Table.{AreOwn}
use Rattle.verdict_laws.specs.Twice.{WrittenOf}
use Rattle.verdict_laws.specs.Cutting.{unplaced_schema_type, unplaced_types, CutKeepsTypes, CutWritesAlike, NumbersAreNotWritten}
use Rattle.verdict_laws.proofs.Gathered.{map-filter, all_gathered}
use Rattle.verdict_laws.proofs.Parts.{unplaced_parts, unplaced_type_definition, type_unplaced, type_extension_unplaced}
use Rattle.verdict_laws.proofs.Roots.{directive_unplaced_here, directive_unplaced}
use Rattle.verdict_laws.proofs.RearrangedLists.{cut, extensions_same}
use Rattle.verdict_laws.proofs.Changes.{firsts-map, made_type, changed_given, type_made}
use Rattle.verdict_laws.proofs.Ranks.{type_ranked}
use Rattle.verdict_laws.proofs.Written.{forget, marked_type, marked_directive, marked_directive_name, own_directives, all_out, schema_by_ranks, out_plain}
use Rattle.verdict_laws.proofs.ListsAlike.{schema_alike, own_marked, marked_after}

-- ---- numbers

-- a definition, and its number
abbrev Numbered : Type 0
Numbered = DefinitionTree (Unit {0}) × Option (ExtensionTree (Unit {0}))

abbrev unplaced_listed : NumberedDefinition → Numbered
unplaced_listed l = (unplaced_definition l.definition, option_map forget.extension l.extension)

extension_unplaced : (d : DefinitionTree Place) → is_extension (unplaced_definition d) ≡ is_extension d
extension_unplaced (tree.ExtendSchema p s) = refl
extension_unplaced (tree.ExtendScalar p t) = refl
extension_unplaced (tree.ExtendObject p t) = refl
extension_unplaced (tree.ExtendInterface p t) = refl
extension_unplaced (tree.ExtendUnion p t) = refl
extension_unplaced (tree.ExtendEnum p t) = refl
extension_unplaced (tree.ExtendInputObject p t) = refl
extension_unplaced _ = refl

module _ (first : ℕ) where
  abbrev number_here : List (DefinitionTree (Unit {0})) → DefinitionTree (Unit {0}) → List Numbered
  number_here us u = (u, if is_extension u then Some (record { number = first + length (filter is_extension us); place = tt }) else None) ∷ []

  counted : (ds : Definitions) → length (filter is_extension (unplaced_document ds)) ≡ length (filter is_extension ds)
  counted ds = ap length (map-filter unplaced_definition is_extension is_extension extension_unplaced ds) ∙ length-map (filter is_extension ds) unplaced_definition

  one : (before : Definitions) (d : DefinitionTree Place) → unplaced_listed (listed_after first before d) ∷ [] ≡ number_here (unplaced_document before) (unplaced_definition d)
  one before d = by (is_extension d) ∙ (λ i. (unplaced_definition d, if sym (extension_unplaced d) i then Some (record { number = first + sym (counted before) i; place = tt }) else None) ∷ [])
    where
      by : (b : Bool) → ◌≡◌ {A = List Numbered} ((unplaced_definition d, option_map forget.extension (if b then Some (record { number = first + length (filter is_extension before); place = definition_place d }) else None)) ∷ [])
          ((unplaced_definition d, if b then Some (record { number = first + length (filter is_extension before); place = tt }) else None) ∷ [])
      by true = refl
      by false = refl

  numbers_after : (before ds : Definitions) → map unplaced_listed (each_place_after (λ b d. listed_after first b d ∷ []) before ds) ≡ each_place_after number_here (unplaced_document before) (unplaced_document ds)
  numbers_after before [] = refl
  numbers_after before (d ∷ ds) = λ i. one before d i ++ (numbers_after (before ++ d ∷ []) ds ∙ ap (λ us. each_place_after number_here us (unplaced_document ds)) (map-append unplaced_definition before (d ∷ []))) i

  numbers_kept : (ds es : Definitions) → unplaced_document ds ≡ unplaced_document es → map unplaced_listed (numbered first ds) ≡ map unplaced_listed (numbered first es)
  numbers_kept ds es same = numbers_after [] ds ∙ ap (each_place_after number_here []) same ∙ sym (numbers_after [] es)

-- ---- types

-- the parts that stand here, if it is an extension of that type and of its kind
abbrev unplaced_here : TypeParts (Unit {0}) → Numbered → List (Given (Unit {0}) (TypeParts (Unit {0})))
unplaced_here p l = option_map_or (λ e. if bytes_eq p.name.it e.name.it && same_kind p.kind e.kind then record { extension = l.1; it = e } ∷ [] else []) (type_extension_here l.0) []

one_unplaced : (p : TypeParts Place) (l : NumberedDefinition) → map (changed_given forget unplaced_parts) (extension_here p l) ≡ unplaced_here (unplaced_parts p) (unplaced_listed l)
one_unplaced p l =
    by (type_extension_here l.definition)
    ∙ ap (λ o. option_map_or (λ e. if bytes_eq p.name.it e.name.it && same_kind p.kind e.kind then record { extension = option_map forget.extension l.extension; it = e } ∷ [] else []) o []) (sym (type_extension_unplaced l.definition))
  where
    by_test : (e : TypeParts Place) (b : Bool) → map (changed_given forget unplaced_parts) (if b then record { extension = l.extension; it = e } ∷ [] else []) ≡ (if b then record { extension = option_map forget.extension l.extension; it = unplaced_parts e } ∷ [] else [])
    by_test e true = refl
    by_test e false = refl

    by : (o : Option (TypeParts Place)) → map (changed_given forget unplaced_parts) (option_map_or (λ e. if go_together p e then record { extension = l.extension; it = e } ∷ [] else []) o [])
        ≡ option_map_or (λ e. if bytes_eq p.name.it e.name.it && same_kind p.kind e.kind then record { extension = option_map forget.extension l.extension; it = e } ∷ [] else []) (option_map unplaced_parts o) []
    by None = refl
    by (Some e) = by_test e (go_together p e)

all_unplaced : (p : TypeParts Place) (ls : List NumberedDefinition) → map (changed_given forget unplaced_parts) (flat_map (extension_here p) ls) ≡ flat_map (unplaced_here (unplaced_parts p)) (map unplaced_listed ls)
all_unplaced p [] = refl
all_unplaced p (l ∷ ls) = map-append (changed_given forget unplaced_parts) (extension_here p l) (flat_map (extension_here p) ls) ∙ (λ i. one_unplaced p l i ++ all_unplaced p ls i)

-- a type under its name, by its definition and the numbered list
abbrev entry_by : List Numbered → TypeDefinition (Unit {0}) → List ℕ × SchemaType (Unit {0})
entry_by ls t = (t.parts.name.it, made_type t (record { extension = None; it = t.parts } ∷ flat_map (unplaced_here t.parts) ls))

pub keeps_types : CutKeepsTypes
keeps_types first ds es same = at ds ∙ (λ i. map (entry_by (numbers_kept first ds es same i)) (firsts (λ t. t.parts.name.it) (flat_map (λ d. option_to_list (type_here d)) (same i)))) ∙ sym (at es)
  where
    at : (fs : Definitions) → unplaced_types (folded_types first fs) ≡ map (entry_by (map unplaced_listed (numbered first fs))) (firsts (λ t. t.parts.name.it) (flat_map (λ d. option_to_list (type_here d)) (unplaced_document fs)))
    at fs =
        map-map (λ e. (e.0, unplaced_schema_type e.1)) (λ t. (type_name t, folded_type (numbered first fs) t)) (firsts type_name (types_in fs))
        ∙ (λ i. map (λ t. (
          type_name t,
          (type_made forget t (parts_of (numbered first fs) t)
              ∙ ap (λ l. made_type (unplaced_type_definition t) (record { extension = None; it = unplaced_parts t.parts } ∷ l)) (all_unplaced t.parts (numbered first fs))) i,
        )) (firsts type_name (types_in fs)))
        ∙ sym (map-map (entry_by (map unplaced_listed (numbered first fs))) unplaced_type_definition (firsts type_name (types_in fs)))
        ∙ ap (map (entry_by (map unplaced_listed (numbered first fs)))) (firsts-map type_name (λ t. t.parts.name.it) unplaced_type_definition (λ t. refl) (types_in fs)
        ∙ ap (firsts (λ t. t.parts.name.it)) (all_gathered type_here type_here unplaced_type_definition type_unplaced fs))

-- ---- what is written

pub not_written : NumbersAreNotWritten
not_written built_in i j ds = λ k. ((schema_by_ranks built_in i ds ∙ sym (schema_by_ranks built_in j ds)) k ++ flat_map written_directive (folded_directives built_in ds)) ++ (types i ∙ sym (types j)) k
  where
    types : (first : ℕ) → flat_map written_type (folded_types first (built_in ++ ds)) ≡ flat_map written_type (folded_types 0 (built_in ++ ds))
    types first =
        flat_map-map written_type (λ t. (type_name t, folded_type (numbered first (built_in ++ ds)) t)) (firsts type_name (types_in (built_in ++ ds)))
        ∙ (λ k. flat_map (λ t. (type_ranked first (built_in ++ ds) (type_name t) t ∙ sym (type_ranked 0 (built_in ++ ds) (type_name t) t)) k) (firsts type_name (types_in (built_in ++ ds))))
        ∙ sym (flat_map-map written_type (λ t. (type_name t, folded_type (numbered 0 (built_in ++ ds)) t)) (firsts type_name (types_in (built_in ++ ds))))

module _ (built_in ds es : Definitions) (same : unplaced_document ds ≡ unplaced_document es) (hd : AreOwn ds) (he : AreOwn es) where
  abbrev all : Definitions → Definitions
  all texts = built_in ++ texts

  same_all : unplaced_document (all ds) ≡ unplaced_document (all es)
  same_all = map-append unplaced_definition built_in ds ∙ ap (λ l. unplaced_document built_in ++ l) same ∙ sym (map-append unplaced_definition built_in es)

  types_marked : map marked_type (types_in (all ds)) ≡ map marked_type (types_in (all es))
  types_marked = marked_after marked_type type_here built_in ds es (
      own_marked (λ t. is_built_in t.place) unplaced_type_definition (types_in ds) hd.types
      ∙ ap (map (λ u. (false, u))) (all_gathered type_here type_here unplaced_type_definition type_unplaced ds ∙ ap (flat_map (λ d. option_to_list (type_here d))) same ∙ sym (all_gathered type_here type_here unplaced_type_definition type_unplaced es))
      ∙ sym (own_marked (λ t. is_built_in t.place) unplaced_type_definition (types_in es) he.types))

  own_same : map marked_directive (directives_in ds) ≡ map marked_directive (directives_in es)
  own_same =
      own_marked (λ d. is_built_in d.place) plain_directive_definition (directives_in ds) hd.directives
      ∙ ap (map (λ u. (false, u))) (all_gathered directive_here directive_unplaced_here plain_directive_definition directive_unplaced ds
      ∙ ap (flat_map (λ d. option_to_list (directive_unplaced_here d))) same
      ∙ sym (all_gathered directive_here directive_unplaced_here plain_directive_definition directive_unplaced es))
      ∙ sym (own_marked (λ d. is_built_in d.place) plain_directive_definition (directives_in es) he.directives)

  own_named : (n : List ℕ) → own_directives ds n ≡ own_directives es n
  own_named n = sym (at ds) ∙ ap (filter (λ q. bytes_eq n (marked_directive_name q))) own_same ∙ at es
    where
      at : (fs : Definitions) → filter (λ q. bytes_eq n (marked_directive_name q)) (map marked_directive (directives_in fs)) ≡ own_directives fs n
      at fs = map-filter marked_directive (λ d. bytes_eq n (directive_name d)) (λ q. bytes_eq n (marked_directive_name q)) (λ d. refl) (directives_in fs)

  out_alike : (i j : ℕ) → unplaced_document (WrittenOf built_in i ds) ≡ unplaced_document (WrittenOf built_in j es)
  out_alike i j =
      let rearranged = cut (all ds) (all es) same_all in
      let schemas = schema_alike (all ds) (all es) rearranged in
      let directives = marked_after marked_directive directive_here built_in ds es own_same in
      let extensions = extensions_same (all ds) (all es) rearranged in
      out_plain built_in i ds
      ∙ (λ k. all_out (schemas k) (λ n. own_named n k) (directives k) (λ n. extensions n k) (types_marked k))
      ∙ sym (out_plain built_in j es)

pub writes_alike : CutWritesAlike
writes_alike built_in i j ds es same hd he = out_alike built_in ds es same hd he i j
