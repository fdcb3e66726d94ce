-- The extensions of a type among numbered definitions: their numbers ascend, and without them they are the list's.
use Rattle.std.proofs.Common.{◌≡◌, ℕ, ◌+◌, Bool, true, false, cond, List, [], ◌∷◌, ◌++◌, map, flat_map, length, Option, Some, None, refl, sym, ap, subst, ◌∙◌, if◌then◌else◌, arith}
use Rattle.std.specs.List.{filter}
use Rattle.std.specs.Option.{option_map_or}
use Rattle.std.proofs.lemmas.List.{map-append, length-append}
use Rattle.std.proofs.lemmas.List.Elements.{filter-append}
use Rattle.graphql_names.specs.Placed.{Placed, Place}
use Rattle.tree_definitions.specs.DefinitionTree as tree
use Rattle.tree_definitions.specs.DefinitionTree.{DefinitionTree}
use Rattle.tree_definitions.specs.Queries.{is_extension, definition_place}
use Rattle.schema_components.specs.Lists.{each_place_after}
use Rattle.schema_components.specs.Given.{Given, ExtensionTree}
use Rattle.schema_types.specs.TypeParts.{TypeParts, type_extension_here}
use Rattle.schema_fold.specs.NumberedDefinition.{Definitions, NumberedDefinition, listed_after, numbered, extension_number}
use Rattle.schema_fold.specs.Components.{go_together, extension_here}
use Rattle.verdict_laws.specs.Whole.{Extension, extensions_in}
use Rattle.verdict_laws.proofs.Whole.{Numbered, NumberedOf, as_given, AscendFrom, lower}

pub extension_is : (d : DefinitionTree Place) (p : TypeParts Place) → type_extension_here d ≡ Some p → is_extension d ≡ true
extension_is (tree.ExtendScalar q t) p e = refl
extension_is (tree.ExtendObject q t) p e = refl
extension_is (tree.ExtendInterface q t) p e = refl
extension_is (tree.ExtendUnion q t) p e = refl
extension_is (tree.ExtendEnum q t) p e = refl
extension_is (tree.ExtendInputObject q t) p e = refl
extension_is _ p e = cc

abbrev numbered_after : ℕ → Definitions → Definitions → List NumberedDefinition
numbered_after first before ds = each_place_after (λ before d. listed_after first before d ∷ []) before ds

-- without its number
abbrev pub unnumbered : {Q : Type 0} → NumberedOf Q → Placed Place Q
unnumbered x = record { it = x.1; place = x.0.place }

abbrev pub placed : Numbered → Extension
placed = unnumbered

-- the extensions for which `here` answers something that passes
module _ {Q : Type 0} (here : DefinitionTree Place → Option Q) (pick : Q → Bool) (is : (d : DefinitionTree Place) (p : Q) → here d ≡ Some p → is_extension d ≡ true) where
  abbrev pair_of : Option (ExtensionTree Place) → Option Q → List (NumberedOf Q)
  pair_of e o = option_map_or (λ parts. if pick parts then option_map_or (λ e. (e, parts) ∷ []) e [] else []) o []

  abbrev pub pairs_by : List NumberedDefinition → List (NumberedOf Q)
  pairs_by ls = flat_map (λ l. pair_of l.extension (here l.definition)) ls

  abbrev pub here_of : Option (ExtensionTree Place) → Option Q → List (Given Place Q)
  here_of e o = option_map_or (λ parts. if pick parts then record { extension = e; it = parts } ∷ [] else []) o []

  one_given : (e : Option (ExtensionTree Place)) (x : ExtensionTree Place) (o : Option Q) → ((p : Q) → o ≡ Some p → e ≡ Some x) → here_of e o ≡ map as_given (pair_of e o)
  one_given e x None h = refl
  one_given e x (Some p) h = subst (λ f. here_of f (Some p) ≡ map as_given (pair_of f (Some p))) (sym (h p refl)) (by (pick p))
    where
      by : (b : Bool) → (if b then record { extension = Some x; it = p } ∷ [] else []) ≡ map as_given (if b then (x, p) ∷ [] else [])
      by true = refl
      by false = refl

  abbrev extension_tree_of : ℕ → Definitions → DefinitionTree Place → ExtensionTree Place
  extension_tree_of first before d = record { number = extension_number first before; place = definition_place d }

  all_given_after : (first : ℕ) (before ds : Definitions) → flat_map (λ l. here_of l.extension (here l.definition)) (numbered_after first before ds) ≡ map as_given (pairs_by (numbered_after first before ds))
  all_given_after first before [] = refl
  all_given_after first before (d ∷ ds) =
      (λ i. one_given (listed_after first before d).extension (extension_tree_of first before d) (here d) (λ p e. ap (λ b. if b then Some (extension_tree_of first before d) else None) (is d p e)) i ++ all_given_after first (before ++ d ∷ []) ds i)
      ∙ sym (map-append as_given (pair_of (listed_after first before d).extension (here d)) (pairs_by (numbered_after first (before ++ d ∷ []) ds)))

  pub given_by_numbers : (first : ℕ) (ds : Definitions) → flat_map (λ l. here_of l.extension (here l.definition)) (numbered first ds) ≡ map as_given (pairs_by (numbered first ds))
  given_by_numbers first ds = all_given_after first [] ds

  -- ---- numbers ascend

  abbrev more_of : Bool → ℕ → ℕ
  more_of true n = n + 1
  more_of false n = n

  number_more : (first : ℕ) (before : Definitions) (d : DefinitionTree Place) (b : Bool) → is_extension d ≡ b → extension_number first (before ++ d ∷ []) ≡ more_of b (extension_number first before)
  number_more first before d b e =
      ap (λ l. first + length l) (filter-append is_extension before (d ∷ [])) ∙ ap (λ (n : ℕ). first + n) (length-append (filter is_extension before) (filter is_extension (d ∷ []))) ∙ by b e
    where
      by : (b : Bool) → is_extension d ≡ b → first + (length (filter is_extension before) + length (filter is_extension (d ∷ []))) ≡ more_of b (first + length (filter is_extension before))
      by true e = ap (λ c. first + (length (filter is_extension before) + length (cond c (d ∷ []) []))) e ∙ omega arith
      by false e = ap (λ c. first + (length (filter is_extension before) + length (cond c (d ∷ []) []))) e ∙ omega arith

  one_more : (x : ExtensionTree Place) (o : Option Q) (rest : List (NumberedOf Q)) → AscendFrom (x.number + 1) rest → AscendFrom x.number (pair_of (Some x) o ++ rest)
  one_more x None rest h = lower x.number (x.number + 1) (omega arith) rest h
  one_more x (Some p) rest h = by (pick p)
    where
      by : (b : Bool) → AscendFrom x.number ((if b then (x, p) ∷ [] else []) ++ rest)
      by true = (omega arith, h)
      by false = lower x.number (x.number + 1) (omega arith) rest h

  none_more : (o : Option Q) → pair_of None o ≡ []
  none_more None = refl
  none_more (Some p) = by (pick p)
    where
      by : (b : Bool) → ◌≡◌ {A = List (NumberedOf Q)} (if b then [] else []) []
      by true = refl
      by false = refl

  ascend_after : (first : ℕ) (before ds : Definitions) → AscendFrom (extension_number first before) (pairs_by (numbered_after first before ds))
  ascend_after first before [] = tt
  ascend_after first before (d ∷ ds) = by (is_extension d) refl (ascend_after first (before ++ d ∷ []) ds)
    where
      rest : List (NumberedOf Q)
      rest = pairs_by (numbered_after first (before ++ d ∷ []) ds)

      by : (b : Bool) → is_extension d ≡ b → AscendFrom (extension_number first (before ++ d ∷ [])) rest
          → AscendFrom (extension_number first before) (pair_of (if is_extension d then Some (extension_tree_of first before d) else None) (here d) ++ rest)
      by true e h =
          subst (λ b. AscendFrom (extension_number first before) (pair_of (if b then Some (extension_tree_of first before d) else None) (here d) ++ rest)) (sym e)
          (one_more (extension_tree_of first before d) (here d) rest (subst (λ n. AscendFrom n rest) (number_more first before d true e) h))
      by false e h =
          subst (λ b. AscendFrom (extension_number first before) (pair_of (if b then Some (extension_tree_of first before d) else None) (here d) ++ rest)) (sym e)
          (subst (λ l. AscendFrom (extension_number first before) (l ++ rest)) (sym (none_more (here d))) (subst (λ n. AscendFrom n rest) (number_more first before d false e) h))

  pub ascend_by : (first : ℕ) (ds : Definitions) → AscendFrom (extension_number first []) (pairs_by (numbered first ds))
  ascend_by first ds = ascend_after first [] ds

  -- ---- without numbers

  one_placed : (e : Option (ExtensionTree Place)) (x : ExtensionTree Place) (o : Option Q) → ((p : Q) → o ≡ Some p → e ≡ Some x)
      → map unnumbered (pair_of e o) ≡ option_map_or (λ parts. if pick parts then record { it = parts; place = x.place } ∷ [] else []) o []
  one_placed e x None h = refl
  one_placed e x (Some p) h = ap (λ f. map unnumbered (pair_of f (Some p))) (h p refl) ∙ by (pick p)
    where
      by : (b : Bool) → map unnumbered (if b then (x, p) ∷ [] else []) ≡ (if b then record { it = p; place = x.place } ∷ [] else [])
      by true = refl
      by false = refl

  placed_after : (first : ℕ) (before ds : Definitions) → map unnumbered (pairs_by (numbered_after first before ds)) ≡ flat_map (λ d. option_map_or (λ parts. if pick parts then record { it = parts; place = definition_place d } ∷ [] else []) (here d) []) ds
  placed_after first before [] = refl
  placed_after first before (d ∷ ds) =
      map-append unnumbered (pair_of (listed_after first before d).extension (here d)) (pairs_by (numbered_after first (before ++ d ∷ []) ds))
      ∙ (λ i. one_placed (listed_after first before d).extension (extension_tree_of first before d) (here d) (λ p e. ap (λ b. if b then Some (extension_tree_of first before d) else None) (is d p e)) i ++ placed_after first (before ++ d ∷ []) ds i)

  pub unnumbered_by : (first : ℕ) (ds : Definitions) → map unnumbered (pairs_by (numbered first ds)) ≡ flat_map (λ d. option_map_or (λ parts. if pick parts then record { it = parts; place = definition_place d } ∷ [] else []) (here d) []) ds
  unnumbered_by first ds = placed_after first [] ds

-- ---- of one type

module _ (defined : TypeParts Place) where
  abbrev pub pairs : List NumberedDefinition → List Numbered
  pairs ls = pairs_by type_extension_here (go_together defined) extension_is ls

  pub extensions_given : (first : ℕ) (ds : Definitions) → flat_map (extension_here defined) (numbered first ds) ≡ map as_given (pairs (numbered first ds))
  extensions_given first ds = given_by_numbers type_extension_here (go_together defined) extension_is first ds

  pub numbers_ascend : (first : ℕ) (ds : Definitions) → AscendFrom (extension_number first []) (pairs (numbered first ds))
  numbers_ascend first ds = ascend_by type_extension_here (go_together defined) extension_is first ds

  pub without_numbers : (first : ℕ) (ds : Definitions) → map placed (pairs (numbered first ds)) ≡ extensions_in ds defined
  without_numbers first ds = unnumbered_by type_extension_here (go_together defined) extension_is first ds
