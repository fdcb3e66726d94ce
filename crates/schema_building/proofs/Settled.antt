-- What the settings make of a list, with its numbers.
use Rattle.std.proofs.Common.{◌≡◌, ◌≤◌, ℕ, Bool, true, false, not, ◌&&◌, ◌||◌, length, arith, List, [], ◌∷◌, ◌++◌, map, take, drop, Option, None, Some, refl, sym, ap, ◌∙◌, cond, if◌then◌else◌, is_none, is_some, option_to_list}
use Rattle.std.specs.List.{filter, list_any}
use Rattle.std.specs.Option.{option_map_or}
use Rattle.std.proofs.lemmas.List.{append_assoc, append-nil, length-append, take_at, drop_at, drop-map}
use Rattle.std.proofs.lemmas.List.Folds.{list_any-append}
use Rattle.std.specs.Str.{bytes_eq}
use Rattle.std.proofs.lemmas.Slice.Eq.{bytes_eq-Decides}
use Rattle.graphql_names.specs.Placed.{Place}
use Rattle.schema_built_in.specs.in_definitions.DefinitionTree as tree
use Rattle.schema_built_in.specs.in_definitions.DefinitionTree.{DefinitionTree}
use Rattle.schema_built_in.specs.in_definitions.Queries.{is_extension}
use Rattle.schema_components.specs.Lists.{firsts, has_name}
use Rattle.schema_built_in.specs.in_schema_types.TypeParts.{TypeParts, TypeDefinition, type_here, type_extension_here}
use Rattle.schema_built_in.specs.in_schema_types.declared.type_kind.TypeKind.{TypeKind}
use Rattle.schema_built_in.specs.in_schema_types.declared.type_kind.TypeKind.TheVariants as kind
use Rattle.schema_built_in.specs.in_fold.NumberedDefinition.{Definitions, NumberedDefinition, numbered, type_name, types_in, type_named, definitions_of}
use Rattle.schema_built_in.specs.in_fold.SchemaFold.{schema_extension_here, schema_is_defined}
use Rattle.schema_built_in.specs.Table.{built_in_definitions}
use Rattle.schema_built_in.specs.in_fold.Adoption.{Settings, settled, is_redefinition, without_redefinitions, orphans, empty_type, empty_schema, has_orphan_schema, with_types, with_schema}
use Rattle.schema_building.proofs.Numbering.{definitions_numbered}
use Rattle.schema_fold_index.specs.Index.{NamedKind}
use Rattle.schema_building.specs.Noted.{named_kind, parts_key, first_kinds, extended_in}
use Rattle.schema_building.specs.Settling.{unnumbered, empty_of, is_kept, adopted_schema, settled_from}
use Rattle.schema_building.proofs.Numbering.{after_append, after_same, after_none, after_filter, count_zero}
use Rattle.schema_building.proofs.Awaited.{none_named, some_named, defines}

-- ---- what is built in

no_extension : list_any is_extension built_in_definitions ≡ false
unfolding built_in_definitions
no_extension = refl

no_schema_extension : list_any (λ d. is_some (schema_extension_here d)) built_in_definitions ≡ false
unfolding built_in_definitions
no_schema_extension = refl

-- definitions without extensions after numbered ones, and numbered ones after what is built in
plain_after : (first : ℕ) (xs ys : Definitions) → list_any is_extension ys ≡ false → numbered first xs ++ map unnumbered ys ≡ numbered first (xs ++ ys)
plain_after first xs ys none = ap (λ l. numbered first xs ++ l) (sym (after_none first xs ys none)) ∙ sym (after_append first [] xs ys)

after_built_in : (first : ℕ) (ys : Definitions) → map unnumbered built_in_definitions ++ numbered first ys ≡ numbered first (built_in_definitions ++ ys)
after_built_in first ys =
    (λ i. sym (after_none first [] built_in_definitions no_extension) i ++ after_same first [] built_in_definitions ys (sym (count_zero built_in_definitions no_extension)) i)
    ∙ sym (after_append first [] built_in_definitions ys)

-- ---- redefinitions

abbrev kept_texts : Bool → Definitions → Definitions
kept_texts ignores texts = if ignores then without_redefinitions built_in_definitions texts else texts

redefines_no_extension : (d : DefinitionTree Place) → not (is_redefinition built_in_definitions d) ≡ false → is_extension d ≡ false
redefines_no_extension (tree.Operation p x) h = refl
redefines_no_extension (tree.Fragment p x) h = refl
redefines_no_extension (tree.DirectiveDefinition p x) h = refl
redefines_no_extension (tree.Schema p x y) h = refl
redefines_no_extension (tree.ScalarType p x y) h = refl
redefines_no_extension (tree.ObjectType p x y) h = refl
redefines_no_extension (tree.InterfaceType p x y) h = refl
redefines_no_extension (tree.UnionType p x y) h = refl
redefines_no_extension (tree.EnumType p x y) h = refl
redefines_no_extension (tree.InputObjectType p x y) h = refl
redefines_no_extension (tree.ExtendSchema p x) h = absurd cc
redefines_no_extension (tree.ExtendScalar p x) h = absurd cc
redefines_no_extension (tree.ExtendObject p x) h = absurd cc
redefines_no_extension (tree.ExtendInterface p x) h = absurd cc
redefines_no_extension (tree.ExtendUnion p x) h = absurd cc
redefines_no_extension (tree.ExtendEnum p x) h = absurd cc
redefines_no_extension (tree.ExtendInputObject p x) h = absurd cc

redefinition_extends_none : (d : DefinitionTree Place) → not (is_redefinition built_in_definitions d) ≡ false → type_extension_here d ≡ None
redefinition_extends_none (tree.Operation p x) h = refl
redefinition_extends_none (tree.Fragment p x) h = refl
redefinition_extends_none (tree.DirectiveDefinition p x) h = refl
redefinition_extends_none (tree.ExtendSchema p x) h = refl
redefinition_extends_none (tree.Schema p x y) h = refl
redefinition_extends_none (tree.ScalarType p x y) h = refl
redefinition_extends_none (tree.ObjectType p x y) h = refl
redefinition_extends_none (tree.InterfaceType p x y) h = refl
redefinition_extends_none (tree.UnionType p x y) h = refl
redefinition_extends_none (tree.EnumType p x y) h = refl
redefinition_extends_none (tree.InputObjectType p x y) h = refl
redefinition_extends_none (tree.ExtendScalar p x) h = absurd cc
redefinition_extends_none (tree.ExtendObject p x) h = absurd cc
redefinition_extends_none (tree.ExtendInterface p x) h = absurd cc
redefinition_extends_none (tree.ExtendUnion p x) h = absurd cc
redefinition_extends_none (tree.ExtendEnum p x) h = absurd cc
redefinition_extends_none (tree.ExtendInputObject p x) h = absurd cc

filter_all : {X : Type 0} (xs : List X) → filter (λ x. true) xs ≡ xs
filter_all [] = refl
filter_all (x ∷ xs) = ap (λ l. x ∷ l) (filter_all xs)

keeps : (ignores : Bool) (first : ℕ) (ds : Definitions) → filter (is_kept ignores) (numbered first ds) ≡ numbered first (kept_texts ignores ds)
keeps true first ds = sym (after_filter (λ d. not (is_redefinition built_in_definitions d)) redefines_no_extension first [] [] ds refl)
keeps false first ds = filter_all (numbered first ds)

same_extended : (ds : Definitions) → extended_in (without_redefinitions built_in_definitions ds) ≡ extended_in ds
same_extended [] = refl
same_extended (d ∷ ds) = by (not (is_redefinition built_in_definitions d)) refl (same_extended ds)
  where
    by : (k : Bool) → not (is_redefinition built_in_definitions d) ≡ k → extended_in (without_redefinitions built_in_definitions ds) ≡ extended_in ds
        → extended_in (cond k (d ∷ without_redefinitions built_in_definitions ds) (without_redefinitions built_in_definitions ds)) ≡ option_to_list (type_extension_here d) ++ extended_in ds
    by true e h = ap (λ l. option_to_list (type_extension_here d) ++ l) h
    by false e h = h ∙ ap (λ o. option_to_list o ++ extended_in ds) (sym (redefinition_extends_none d e))

not_false : (b : Bool) → not b ≡ false → b ≡ true
not_false true h = refl
not_false false h = absurd cc

-- a name that is not built in is defined by what is kept where it is defined
module _ (n : List ℕ) (new : defines built_in_definitions n ≡ false) where
  abbrev here : Option (TypeDefinition Place) → Bool
  here o = has_name type_name n (option_to_list o)

  lost_here : (o : Option (TypeDefinition Place)) → option_map_or (λ t. is_some (type_named (type_name t) built_in_definitions)) o false ≡ true → here o ≡ false
  lost_here None h = refl
  lost_here (Some t) h = by (bytes_eq n (type_name t)) refl
    where
      by : (b : Bool) → bytes_eq n (type_name t) ≡ b → (b || false) ≡ false
      by true e =
          let w : true ≡ false = sym h ∙ some_named (type_name t) built_in_definitions ∙ ap (defines built_in_definitions) (sym ((bytes_eq-Decides n (type_name t)).0 e)) ∙ new in
          absurd cc
      by false e = refl

  or_more : (b c : Bool) → (b || c) ≡ ((b || false) || c)
  or_more true c = refl
  or_more false c = refl

  defined_by : (o : Option (TypeDefinition Place)) (ds : Definitions) → has_name type_name n (option_to_list o ++ types_in ds) ≡ (here o || defines ds n)
  defined_by None ds = refl
  defined_by (Some t) ds = or_more (bytes_eq n (type_name t)) (defines ds n)

  defines_more : (d : DefinitionTree Place) (ds : Definitions) → defines (d ∷ ds) n ≡ (here (type_here d) || defines ds n)
  defines_more d ds = defined_by (type_here d) ds

  same_defines : (ds : Definitions) → defines (without_redefinitions built_in_definitions ds) n ≡ defines ds n
  same_defines [] = refl
  same_defines (d ∷ ds) = by (not (is_redefinition built_in_definitions d)) refl (same_defines ds)
    where
      by : (k : Bool) → not (is_redefinition built_in_definitions d) ≡ k → defines (without_redefinitions built_in_definitions ds) n ≡ defines ds n
          → defines (cond k (d ∷ without_redefinitions built_in_definitions ds) (without_redefinitions built_in_definitions ds)) n ≡ defines (d ∷ ds) n
      by true e h = defines_more d (without_redefinitions built_in_definitions ds) ∙ ap (λ b. here (type_here d) || b) h ∙ sym (defines_more d ds)
      by false e h = h ∙ ap (λ b. b || defines ds n) (sym (lost_here (type_here d) (not_false (is_redefinition built_in_definitions d) e))) ∙ sym (defines_more d ds)

same_none : (n : List ℕ) (ds : Definitions) → is_none (type_named n (built_in_definitions ++ without_redefinitions built_in_definitions ds)) ≡ is_none (type_named n (built_in_definitions ++ ds))
same_none n ds = none_named n built_in_definitions (without_redefinitions built_in_definitions ds) ∙ ap not (by (defines built_in_definitions n) refl) ∙ sym (none_named n built_in_definitions ds)
  where
    by : (b : Bool) → defines built_in_definitions n ≡ b → (b || defines (without_redefinitions built_in_definitions ds) n) ≡ (b || defines ds n)
    by true e = refl
    by false e = same_defines n e ds

same_orphans : (ignores : Bool) (ds : Definitions) → orphans built_in_definitions (kept_texts ignores ds) ≡ orphans built_in_definitions ds
same_orphans true ds = λ i. filter (λ e. same_none (parts_key e) ds i) (same_extended ds i)
same_orphans false ds = refl

-- ---- adoption

empty_no_extension : (k : TypeKind) (n : NamedKind) → is_extension (empty_of (n.0, k)) ≡ false
empty_no_extension kind.Scalar n = refl
empty_no_extension kind.Object n = refl
empty_no_extension kind.Interface n = refl
empty_no_extension kind.Union n = refl
empty_no_extension kind.Enum n = refl
empty_no_extension kind.InputObject n = refl

adopted_no_extension : (es : List (TypeParts Place)) → list_any is_extension (map (empty_type built_in_definitions) es) ≡ false
adopted_no_extension [] = refl
adopted_no_extension (e ∷ es) = ap (λ b. b || list_any is_extension (map (empty_type built_in_definitions) es)) (empty_no_extension e.kind (named_kind e)) ∙ adopted_no_extension es

adopted_listed : (es : List (TypeParts Place)) → map (λ k. unnumbered (empty_of k)) (map named_kind es) ≡ map unnumbered (map (empty_type built_in_definitions) es)
adopted_listed [] = refl
adopted_listed (e ∷ es) = ap (λ l. unnumbered (empty_type built_in_definitions e) ∷ l) (adopted_listed es)

abbrev schema_if : Bool → Definitions
schema_if b = if b then empty_schema built_in_definitions ∷ [] else []

schema_no_extension : (b : Bool) → list_any is_extension (schema_if b) ≡ false
schema_no_extension true = refl
schema_no_extension false = refl

adopted_schema_is : (texts : Definitions) → adopted_schema (built_in_definitions ++ texts) ≡ schema_if (has_orphan_schema built_in_definitions texts)
adopted_schema_is texts = ap (λ b. schema_if (b && not (schema_is_defined (built_in_definitions ++ texts))))
    (list_any-append (λ d. is_some (schema_extension_here d)) built_in_definitions texts ∙ ap (λ b. b || list_any (λ d. is_some (schema_extension_here d)) texts) no_schema_extension)

schema_after : (first : ℕ) (texts : Definitions) → numbered first (built_in_definitions ++ texts) ++ map unnumbered (adopted_schema (definitions_of (numbered first (built_in_definitions ++ texts))))
    ≡ numbered first (built_in_definitions ++ with_schema built_in_definitions texts)
schema_after first texts =
    let all = built_in_definitions ++ texts in
    let schema = schema_if (has_orphan_schema built_in_definitions texts) in
    ap (λ ds. numbered first all ++ map unnumbered ds) (ap adopted_schema (definitions_numbered first all) ∙ adopted_schema_is texts)
    ∙ plain_after first all schema (schema_no_extension (has_orphan_schema built_in_definitions texts))
    ∙ ap (numbered first) (append_assoc built_in_definitions texts schema)

types_after : (first : ℕ) (texts : Definitions) → numbered first (built_in_definitions ++ texts) ++ map (λ k. unnumbered (empty_of k)) (first_kinds (orphans built_in_definitions texts))
    ≡ numbered first (built_in_definitions ++ with_types built_in_definitions texts)
types_after first texts =
    let all = built_in_definitions ++ texts in
    let es = firsts parts_key (orphans built_in_definitions texts) in
    ap (λ l. numbered first all ++ l) (adopted_listed es)
    ∙ plain_after first all (map (empty_type built_in_definitions) es) (adopted_no_extension es)
    ∙ ap (numbered first) (append_assoc built_in_definitions texts (map (empty_type built_in_definitions) es))

-- ---- all of it

module _ (first : ℕ) (ds : Definitions) (waiting : List NamedKind) (are : waiting ≡ first_kinds (orphans built_in_definitions ds)) where
  kept_after : (ignores : Bool) → map unnumbered built_in_definitions ++ filter (is_kept ignores) (numbered first ds) ≡ numbered first (built_in_definitions ++ kept_texts ignores ds)
  kept_after ignores = ap (λ l. map unnumbered built_in_definitions ++ l) (keeps ignores first ds) ∙ after_built_in first (kept_texts ignores ds)

  settled_by : (adopts ignores : Bool) → settled_from (record { adopts = adopts; ignores = ignores }) (numbered first ds) waiting (map unnumbered built_in_definitions)
      ≡ numbered first (built_in_definitions ++ settled built_in_definitions (record { adopts = adopts; ignores = ignores }) ds)
  settled_by false ignores = kept_after ignores
  settled_by true ignores =
      let texts = kept_texts ignores ds in
      let types : (map unnumbered built_in_definitions ++ filter (is_kept ignores) (numbered first ds)) ++ map (λ k. unnumbered (empty_of k)) waiting ≡ numbered first (built_in_definitions ++ with_types built_in_definitions texts) =
      (λ i. kept_after ignores i ++ map (λ k. unnumbered (empty_of k)) (are i))
      ∙ ap (λ os. numbered first (built_in_definitions ++ texts) ++ map (λ k. unnumbered (empty_of k)) (first_kinds os)) (sym (same_orphans ignores ds))
      ∙ types_after first texts in
      ap (λ l. l ++ map unnumbered (adopted_schema (definitions_of l))) types
      ∙ schema_after first (with_types built_in_definitions texts)

  pub settled_is : (s : Settings) → settled_from s (numbered first ds) waiting (map unnumbered built_in_definitions) ≡ numbered first (built_in_definitions ++ settled built_in_definitions s ds)
  settled_is s = settled_by s.adopts s.ignores

-- ---- the texts of it

adopted_after : (adopts : Bool) (ds : Definitions) → take (length ds) (settled built_in_definitions (record { adopts = adopts; ignores = false }) ds) ≡ ds
adopted_after false ds = ap (take (length ds)) (sym (append-nil ds)) ∙ take_at ds [] (length ds) refl
adopted_after true ds =
    let types = map (empty_type built_in_definitions) (firsts parts_key (orphans built_in_definitions ds)) in
    let schema = schema_if (has_orphan_schema built_in_definitions (with_types built_in_definitions ds)) in
    ap (take (length ds)) (append_assoc ds types schema) ∙ take_at ds (types ++ schema) (length ds) refl

-- where none is passed over, the texts' definitions are the first of those after what is built in
pub texts_first : (s : Settings) → s.ignores ≡ false → (first built_in : ℕ) (ds : Definitions) (list : List NumberedDefinition) → list ≡ numbered first (built_in_definitions ++ settled built_in_definitions s ds)
    → built_in ≡ length built_in_definitions → take (length ds) (definitions_of (drop built_in list)) ≡ ds
texts_first s none first built_in ds list is many =
    let following = settled built_in_definitions s ds in
    ap (take (length ds)) (sym (drop-map (λ l. l.definition) built_in list)
    ∙ ap (drop built_in) (ap definitions_of is ∙ definitions_numbered first (built_in_definitions ++ following)) ∙ drop_at built_in_definitions following built_in (sym many))
    ∙ ap (λ b. take (length ds) (settled built_in_definitions (record { adopts = s.adopts; ignores = b }) ds)) none
    ∙ adopted_after s.adopts ds

-- ---- its length

module _ (texts : List NumberedDefinition) (waiting : List NamedKind) (list : List NumberedDefinition) where
  longer_by : (adopts ignores : Bool) → length list ≤ length (settled_from (record { adopts = adopts; ignores = ignores }) texts waiting list)
  longer_by false ignores = let a = length-append list (filter (is_kept ignores) texts) in omega (arith, a)
  longer_by true ignores =
      let a = length-append list (filter (is_kept ignores) texts) in
      let b = length-append (list ++ filter (is_kept ignores) texts) (map (λ k. unnumbered (empty_of k)) waiting) in
      let c = length-append ((list ++ filter (is_kept ignores) texts) ++ map (λ k. unnumbered (empty_of k)) waiting) (map unnumbered (adopted_schema (definitions_of ((list ++ filter (is_kept ignores) texts) ++ map (λ k. unnumbered (empty_of k)) waiting)))) in
      omega (arith, a, b, c)

  pub longer : (s : Settings) → length list ≤ length (settled_from s texts waiting list)
  longer s = longer_by s.adopts s.ignores
