-- What is written of an accepted list has no more extensions than the list.
use Rattle.std.proofs.Common.{◌≡◌, ℕ, ◌+◌, ◌≤◌, ◌<◌, ◌^◌, Bool, true, false, not, List, [], ◌∷◌, ◌++◌, length, map, flat_map, Option, None, Some, refl, sym, ap, ◌∙◌, if◌then◌else◌, arith, true≢false}
use Rattle.std.specs.List.{filter}
use Rattle.std.specs.Option.{option_map_or}
use Rattle.std.specs.Cmp.{first_so}
use Rattle.std.specs.Str.{bytes_eq}
use Rattle.std.proofs.lemmas.List.{length-append}
use Rattle.std.proofs.lemmas.List.Elements.{filter-append}
use Rattle.std.proofs.lemmas.Slice.Eq.{bytes_eq-Decides}
use Rattle.graphql_names.specs.Places.{is_built_in}
use Rattle.graphql_names.specs.Placed.{Place, Text}
use Rattle.tree_definitions.specs.DefinitionTree as tree
use Rattle.tree_definitions.specs.DefinitionTree.{DefinitionTree, unplaced_definition, unplaced_document}
use Rattle.tree_definitions.specs.Queries.{is_extension, definition_place}
use Rattle.schema_components.specs.Lists.{firsts}
use Rattle.schema_types.specs.SchemaTree.{same_kind}
use Rattle.schema_types.specs.TypeParts.{TypeParts, TypeDefinition, type_extension_here, definition_by, extension_by}
use Rattle.schema_types.specs.declared.type_kind.TypeKind.{TypeKind}
use Rattle.schema_types.specs.declared.type_kind.TypeKind.TheVariants as kind
use Rattle.schema_types.specs.Out.{is_empty, is_object_named, written_directive}
use Rattle.schema_built_in.specs.Table.{built_in_definitions}
use Rattle.schema_fold.specs.NumberedDefinition.{Definitions, type_name, types_in, directive_name, directives_in}
use Rattle.schema_fold.specs.Components.{go_together}
use Rattle.schema_fold.specs.SchemaFold.{schema_extension_here, schema_base}
use Rattle.schema_fold.specs.Fold.{chosen_directive, folded_types}
use Rattle.schema_fold.specs.BuildErrors.{FoldingRules}
use Rattle.schema_building.specs.Numbers.{extension_count, HaveNumbers}
use Rattle.verdict_laws.specs.Arranged.{arranged}
use Rattle.verdict_laws.specs.Whole.{Extension, classes, extension_at, extensions_in, whole_definition, whole_extension, whole_type}
use Rattle.verdict_laws.specs.WholeSchema.{SchemaExtension, schema_classes, schema_extensions_in, whole_schema_extension, left_out}
use Rattle.verdict_laws.specs.Table.{AreOwn}
use Rattle.verdict_laws.specs.Twice.{WrittenOf}
use Rattle.verdict_laws.proofs.Order.{Each, IsApart, AreApart}
use Rattle.verdict_laws.proofs.Again.{firsts_apart}
use Rattle.verdict_laws.proofs.Accepted.{types_whole}
use Rattle.verdict_laws.proofs.RealTable.{real_table}
use Rattle.verdict_laws.proofs.SchemaTwice.{schema_written, accepted_applied, accepted_at_most, written_by}

abbrev Definition : Type 0
Definition = TypeDefinition Place

-- ---- lists

module _ {X : Type 0} where
  size-append : (xs ys : List X) → length (xs ++ ys) ≡ length xs + length ys
  size-append xs ys = length-append xs ys

  two_ways : (f : X → Bool) (xs : List X) → length (filter f xs) + length (filter (λ x. not (f x)) xs) ≡ length xs
  two_ways f [] = refl
  two_ways f (x ∷ xs) = by (f x) (two_ways f xs)
    where
      by : (b : Bool) → length (filter f xs) + length (filter (λ x. not (f x)) xs) ≡ length xs
          → length (if b then x ∷ filter f xs else filter f xs) + length (if not b then x ∷ filter (λ x. not (f x)) xs else filter (λ x. not (f x)) xs) ≡ length (x ∷ xs)
      by true h = omega (arith, h)
      by false h = omega (arith, h)

  arranged_size : (cs : List (X → Bool)) (xs : List X) → length (arranged cs xs) ≤ length xs
  arranged_size [] xs = omega arith
  arranged_size (c ∷ cs) xs =
      let rest = arranged_size cs (filter (λ x. not (c x)) xs) in
      let both = size-append (filter c xs) (arranged cs (filter (λ x. not (c x)) xs)) in
      let parts = two_ways c xs in
      omega (arith, rest, both, parts)

  -- the sum over a list
  total : (X → ℕ) → List X → ℕ
  total f [] = 0
  total f (x ∷ xs) = f x + total f xs

  unfolds : (f : X → ℕ) (x : X) (xs : List X) → total f (x ∷ xs) ≡ f x + total f xs
  unfolding total
  unfolds f x xs = refl

  nothing : (f : X → ℕ) → total f [] ≡ 0
  unfolding total
  nothing f = refl

  total_sum : (f g h : X → ℕ) → ((x : X) → f x ≡ g x + h x) → (xs : List X) → total f xs ≡ total g xs + total h xs
  total_sum f g h e [] = let a = nothing f in let b = nothing g in let c = nothing h in omega (arith, a, b, c)
  total_sum f g h e (x ∷ xs) =
      let rest = total_sum f g h e xs in
      let here = e x in
      let a = unfolds f x xs in let b = unfolds g x xs in let c = unfolds h x xs in
      omega (arith, rest, here, a, b, c)

  total_none : (f : X → ℕ) (xs : List X) → Each (λ x. f x ≡ 0) xs → total f xs ≡ 0
  total_none f [] h = nothing f
  total_none f (x ∷ xs) h = let rest = total_none f xs h.1 in let here = h.0 in let a = unfolds f x xs in omega (arith, rest, here, a)

count_append : (xs ys : Definitions) → extension_count (xs ++ ys) ≡ extension_count xs + extension_count ys
count_append xs ys = ap (λ l. length l) (filter-append is_extension xs ys) ∙ size-append (filter is_extension xs) (filter is_extension ys)

count_each : (b : Bool) (d : DefinitionTree Place) (ds : Definitions) → is_extension d ≡ b → extension_count (d ∷ ds) ≡ (if b then 1 else 0) + extension_count ds
count_each true d ds e = ap (λ b. length (if b then d ∷ filter is_extension ds else filter is_extension ds)) e ∙ omega arith
count_each false d ds e = ap (λ b. length (if b then d ∷ filter is_extension ds else filter is_extension ds)) e ∙ omega arith

-- ---- what is counted in a list

abbrev size_if_any : {A : Type 0} → Option A → ℕ
size_if_any None = 0
size_if_any (Some x) = 1

type_extensions : Definitions → ℕ
type_extensions ds = total (λ d. size_if_any (type_extension_here d)) ds

either : (d : DefinitionTree Place) → (if is_extension d then 1 else 0) ≡ size_if_any (schema_extension_here d) + size_if_any (type_extension_here d)
either (tree.Operation p x) = refl
either (tree.Fragment p x) = refl
either (tree.DirectiveDefinition p x) = refl
either (tree.Schema p w x) = refl
either (tree.ScalarType p w x) = refl
either (tree.ObjectType p w x) = refl
either (tree.InterfaceType p w x) = refl
either (tree.UnionType p w x) = refl
either (tree.EnumType p w x) = refl
either (tree.InputObjectType p w x) = refl
either (tree.ExtendSchema p x) = refl
either (tree.ExtendScalar p x) = refl
either (tree.ExtendObject p x) = refl
either (tree.ExtendInterface p x) = refl
either (tree.ExtendUnion p x) = refl
either (tree.ExtendEnum p x) = refl
either (tree.ExtendInputObject p x) = refl

schema_size : (d : DefinitionTree Place) (ds : Definitions) → length (schema_extensions_in (d ∷ ds)) ≡ size_if_any (schema_extension_here d) + length (schema_extensions_in ds)
schema_size d ds = by (schema_extension_here d)
  where
    by : (o : _) → length {A = SchemaExtension} (option_map_or (λ parts. record { it = parts; place = definition_place d } ∷ []) o [] ++ schema_extensions_in ds) ≡ size_if_any o + length (schema_extensions_in ds)
    by None = omega arith
    by (Some p) = omega arith

all_counted : (ds : Definitions) → extension_count ds ≡ length (schema_extensions_in ds) + type_extensions ds
unfolding type_extensions
all_counted [] = let a = nothing (λ (d : DefinitionTree Place). size_if_any (type_extension_here d)) in omega (arith, a)
all_counted (d ∷ ds) =
    let rest = all_counted ds in
    let here = count_each (is_extension d) d ds refl in
    let e = either d in
    let s = schema_size d ds in
    let a = unfolds (λ (d : DefinitionTree Place). size_if_any (type_extension_here d)) d ds in
    omega (arith, rest, here, e, s, a)

-- ---- types

no_extension : (k : TypeKind) (q : Place) (w : Option (Text Place)) (p : TypeParts Place) → is_extension (definition_by k q w p) ≡ false
no_extension kind.Scalar q w p = refl
no_extension kind.Object q w p = refl
no_extension kind.Interface q w p = refl
no_extension kind.Union q w p = refl
no_extension kind.Enum q w p = refl
no_extension kind.InputObject q w p = refl

an_extension : (k : TypeKind) (q : Place) (p : TypeParts Place) → is_extension (extension_by k q p) ≡ true
an_extension kind.Scalar q p = refl
an_extension kind.Object q p = refl
an_extension kind.Interface q p = refl
an_extension kind.Union q p = refl
an_extension kind.Enum q p = refl
an_extension kind.InputObject q p = refl

count_extensions : (t : Definition) (xs : List Extension) → extension_count (map (whole_extension t) xs) ≡ length xs
count_extensions t [] = refl
count_extensions t (x ∷ xs) =
    let rest = count_extensions t xs in
    let here = count_each true (whole_extension t x) (map (whole_extension t) xs) (an_extension t.parts.kind x.place (record x.it { kind = t.parts.kind; name = t.parts.name })) in
    omega (arith, rest, here)

count_type : (ds : Definitions) (t : Definition) → extension_count (whole_type ds t) ≤ length (extensions_in ds t.parts)
count_type ds t =
    let xs : List Extension = arranged classes (extensions_in ds t.parts) in
    let parts = count_append (if is_built_in t.place then [] else whole_definition t ∷ []) (map (whole_extension t) xs) in
    let none = by (is_built_in t.place) in
    let some = count_extensions t xs in
    let fewer = arranged_size classes (extensions_in ds t.parts) in
    omega (arith, parts, none, some, fewer)
  where
    by : (b : Bool) → extension_count (if b then [] else whole_definition t ∷ []) ≡ 0
    by true = refl
    by false = count_each false (whole_definition t) [] (no_extension t.parts.kind t.place t.description t.parts)

count_types : (ds : Definitions) (ts : List Definition) → extension_count (flat_map (whole_type ds) ts) ≤ total (λ t. length (extensions_in ds t.parts)) ts
count_types ds [] = omega arith
count_types ds (t ∷ ts) =
    let rest = count_types ds ts in
    let here = count_type ds t in
    let parts = count_append (whole_type ds t) (flat_map (whole_type ds) ts) in
    let a = unfolds (λ (t : Definition). length (extensions_in ds t.parts)) t ts in
    omega (arith, rest, here, parts, a)

-- an extension goes with one type at most
hits : TypeParts Place → Definition → ℕ
hits p t = if go_together t.parts p then 1 else 0

hit : (p : TypeParts Place) (t : Definition) (b : Bool) → go_together t.parts p ≡ b → hits p t ≡ (if b then 1 else 0)
unfolding hits
hit p t b e = ap (λ b. if b then 1 else 0) e

misses : (p : TypeParts Place) (t u : Definition) → go_together t.parts p ≡ true → bytes_eq (type_name t) (type_name u) ≡ false → hits p u ≡ 0
misses p t u e apart = by (go_together u.parts p) refl
  where
    by : (b : Bool) → go_together u.parts p ≡ b → hits p u ≡ 0
    by false f = hit p u false f
    by true f =
        let one = (bytes_eq-Decides t.parts.name.it p.name.it).0 (first_so (bytes_eq t.parts.name.it p.name.it) (same_kind t.parts.kind p.kind) e) in
        let other = (bytes_eq-Decides u.parts.name.it p.name.it).0 (first_so (bytes_eq u.parts.name.it p.name.it) (same_kind u.parts.kind p.kind) f) in
        absurd (true≢false (sym ((bytes_eq-Decides (type_name t) (type_name u)).1 (one ∙ sym other)) ∙ apart))

one_hit : (p : TypeParts Place) (ts : List Definition) → AreApart type_name (λ t. t) ts → total (hits p) ts ≤ 1
one_hit p [] h = let a = nothing (hits p) in omega (arith, a)
one_hit p (t ∷ ts) h = by (go_together t.parts p) refl (one_hit p ts h.1)
  where
    none : go_together t.parts p ≡ true → (us : List Definition) → Each (IsApart type_name (λ t. t) t) us → Each (λ u. hits p u ≡ 0) us
    none e [] k = tt
    none e (u ∷ us) k = (misses p t u e k.0.0, none e us k.1)

    by : (b : Bool) → go_together t.parts p ≡ b → total (hits p) ts ≤ 1 → total (hits p) (t ∷ ts) ≤ 1
    by true e few =
        let rest = total_none (hits p) ts (none e ts h.0) in
        let here = hit p t true e in
        let a = unfolds (hits p) t ts in
        omega (arith, rest, here, a)
    by false e few =
        let here = hit p t false e in
        let a = unfolds (hits p) t ts in
        omega (arith, few, here, a)

at_size : (d : DefinitionTree Place) (o : Option (TypeParts Place)) → type_extension_here d ≡ o → (ts : List Definition) → AreApart type_name (λ t. t) ts → total (λ t. length (extension_at t.parts d)) ts ≤ size_if_any o
at_size d None e ts h = let a = total_none (λ (t : Definition). length (extension_at t.parts d)) ts (none ts) in omega (arith, a)
  where
    none : (us : List Definition) → Each (λ u. length (extension_at u.parts d) ≡ 0) us
    none [] = tt
    none (u ∷ us) = (ap (λ o. length {A = Extension} (option_map_or (λ parts. if go_together u.parts parts then record { it = parts; place = definition_place d } ∷ [] else []) o [])) e, none us)
at_size d (Some p) e ts h =
    let few = one_hit p ts h in
    let same = total_sum (λ (t : Definition). length (extension_at t.parts d)) (hits p) (λ t. 0) each ts in
    let zeros = total_none (λ (t : Definition). 0) ts (all_zero ts) in
    omega (arith, few, same, zeros)
  where
    all_zero : (us : List Definition) → Each (λ u. ◌≡◌ {A = ℕ} 0 0) us
    all_zero [] = tt
    all_zero (u ∷ us) = (refl, all_zero us)

    by : (u : Definition) (b : Bool) → go_together u.parts p ≡ b → length {A = Extension} (if go_together u.parts p then record { it = p; place = definition_place d } ∷ [] else []) ≡ hits p u + 0
    by u true f = let a = hit p u true f in ap (λ b. length {A = Extension} (if b then record { it = p; place = definition_place d } ∷ [] else [])) f ∙ omega (arith, a)
    by u false f = let a = hit p u false f in ap (λ b. length {A = Extension} (if b then record { it = p; place = definition_place d } ∷ [] else [])) f ∙ omega (arith, a)

    each : (u : Definition) → length (extension_at u.parts d) ≡ hits p u + 0
    each u = ap (λ o. length {A = Extension} (option_map_or (λ parts. if go_together u.parts parts then record { it = parts; place = definition_place d } ∷ [] else []) o [])) e ∙ by u (go_together u.parts p) refl

all_sizes : (ts : List Definition) → AreApart type_name (λ t. t) ts → (ds : Definitions) → total (λ t. length (extensions_in ds t.parts)) ts ≤ type_extensions ds
unfolding type_extensions
all_sizes ts h [] = let a = total_none (λ (t : Definition). 0) ts (all_zero ts) in omega (arith, a)
  where
    all_zero : (us : List Definition) → Each (λ u. ◌≡◌ {A = ℕ} 0 0) us
    all_zero [] = tt
    all_zero (u ∷ us) = (refl, all_zero us)
all_sizes ts h (d ∷ ds) =
    let rest = all_sizes ts h ds in
    let here = at_size d (type_extension_here d) refl ts h in
    let sum = total_sum (λ (t : Definition). length (extensions_in (d ∷ ds) t.parts)) (λ t. length (extension_at t.parts d)) (λ t. length (extensions_in ds t.parts)) (λ t. size-append (extension_at t.parts d) (extensions_in ds t.parts)) ts in
    let a = unfolds (λ (d : DefinitionTree Place). size_if_any (type_extension_here d)) d ds in
    omega (arith, rest, here, sum, a)

-- ---- directives and the schema

count_directives : (es : _) → extension_count (flat_map written_directive es) ≡ 0
count_directives [] = refl
count_directives (e ∷ es) = let rest = count_directives es in let here = by (is_built_in e.1.place) in let parts = count_append (written_directive e) (flat_map written_directive es) in omega (arith, rest, here, parts)
  where
    by : (b : Bool) → extension_count (if b then [] else tree.DirectiveDefinition e.1.place e.1.it ∷ []) ≡ 0
    by true = refl
    by false = refl

count_schema : (b : Bool) (ds : Definitions) → extension_count (written_by b ds) ≤ length (schema_extensions_in ds)
count_schema true ds = omega arith
count_schema false ds = let fewer = arranged_size schema_classes (schema_extensions_in ds) in let some = all (arranged schema_classes (schema_extensions_in ds)) in omega (arith, fewer, some)
  where
    all : (xs : List SchemaExtension) → extension_count (map whole_schema_extension xs) ≡ length xs
    all [] = refl
    all (x ∷ xs) = let rest = all xs in omega (arith, rest)

-- ---- all

table_none : extension_count built_in_definitions ≡ 0
unfolding built_in_definitions
table_none = refl

pub no_more : (first : ℕ) (texts : Definitions) → AreOwn texts → FoldingRules built_in_definitions first texts → extension_count (WrittenOf built_in_definitions first texts) ≤ extension_count texts
no_more first texts own rules =
    let ds = built_in_definitions ++ texts in
    let ts : List Definition = firsts type_name (types_in ds) in
    let entries = map (λ d. (directive_name d, chosen_directive texts d)) (firsts directive_name (directives_in ds)) in
    let b = left_out (is_object_named (folded_types first ds)) (schema_base ds) (is_empty (arranged schema_classes (schema_extensions_in ds))) in
    let same : WrittenOf built_in_definitions first texts ≡ (written_by b ds ++ flat_map written_directive entries) ++ flat_map (whole_type ds) ts =
    λ i. (schema_written built_in_definitions first texts (accepted_applied built_in_definitions first texts rules real_table) (accepted_at_most built_in_definitions first texts rules real_table) i ++ flat_map written_directive entries) ++ types_whole built_in_definitions first texts rules i in
    let count = ap extension_count same in
    let outer = count_append (written_by b ds ++ flat_map written_directive entries) (flat_map (whole_type ds) ts) in
    let inner = count_append (written_by b ds) (flat_map written_directive entries) in
    let schema = count_schema b ds in
    let directives = count_directives entries in
    let types = count_types ds ts in
    let sizes = all_sizes ts (firsts_apart type_name (types_in ds)) ds in
    let all = all_counted ds in
    let both = count_append built_in_definitions texts in
    let none = table_none in
    omega (arith, count, outer, inner, schema, directives, types, sizes, all, both, none)

-- places do not count
unplaced_extension : (d : DefinitionTree Place) → is_extension (unplaced_definition d) ≡ is_extension d
unplaced_extension (tree.Operation p x) = refl
unplaced_extension (tree.Fragment p x) = refl
unplaced_extension (tree.DirectiveDefinition p x) = refl
unplaced_extension (tree.Schema p w x) = refl
unplaced_extension (tree.ScalarType p w x) = refl
unplaced_extension (tree.ObjectType p w x) = refl
unplaced_extension (tree.InterfaceType p w x) = refl
unplaced_extension (tree.UnionType p w x) = refl
unplaced_extension (tree.EnumType p w x) = refl
unplaced_extension (tree.InputObjectType p w x) = refl
unplaced_extension (tree.ExtendSchema p x) = refl
unplaced_extension (tree.ExtendScalar p x) = refl
unplaced_extension (tree.ExtendObject p x) = refl
unplaced_extension (tree.ExtendInterface p x) = refl
unplaced_extension (tree.ExtendUnion p x) = refl
unplaced_extension (tree.ExtendEnum p x) = refl
unplaced_extension (tree.ExtendInputObject p x) = refl

count_unplaced : (ds : Definitions) → length (filter is_extension (unplaced_document ds)) ≡ extension_count ds
count_unplaced [] = refl
count_unplaced (d ∷ ds) =
    ap (λ b. length (if b then unplaced_definition d ∷ filter is_extension (unplaced_document ds) else filter is_extension (unplaced_document ds))) (unplaced_extension d)
    ∙ by (is_extension d) (count_unplaced ds)
  where
    by : (b : Bool) → length (filter is_extension (unplaced_document ds)) ≡ extension_count ds
        → length (if b then unplaced_definition d ∷ filter is_extension (unplaced_document ds) else filter is_extension (unplaced_document ds)) ≡ length (if b then d ∷ filter is_extension ds else filter is_extension ds)
    by true h = omega (arith, h)
    by false h = h

pub same_count : (ds es : Definitions) → unplaced_document ds ≡ unplaced_document es → extension_count ds ≡ extension_count es
same_count ds es same = sym (count_unplaced ds) ∙ ap (λ l. length (filter is_extension l)) same ∙ count_unplaced es

-- where there are numbers for a list there are for one with no more extensions
pub numbers_suffice : (first : ℕ) (ds es : Definitions) → extension_count es ≤ extension_count ds → HaveNumbers first ds → HaveNumbers first es
numbers_suffice first ds es fewer numbered some = let enough : first + extension_count ds < 2 ^ 64 = numbered (omega (arith, fewer, some)) in omega (arith, fewer, enough)
