-- The list of whole types, read again: the same types, and the extensions of each as they were arranged.
use Rattle.std.proofs.Common.{◌≡◌, ℕ, Bool, true, false, ◌||◌, ◌&&◌, not, cond, List, [], ◌∷◌, ◌++◌, map, flat_map, Option, Some, None, refl, sym, ap, subst, ◌∙◌, if◌then◌else◌, option_to_list, true≢false}
use Rattle.std.specs.List.{filter}
use Rattle.std.specs.Option.{option_map_or}
use Rattle.std.specs.Cmp.{second_so}
use Rattle.std.specs.Str.{bytes_eq}
use Rattle.std.proofs.lemmas.List.{append-nil}
use Rattle.std.proofs.lemmas.Simd.{map-map}
use Rattle.std.proofs.lemmas.Grind.{flat_map-append}
use Rattle.std.proofs.lemmas.Option.{same_Some}
use Rattle.std.proofs.lemmas.Slice.Eq.{bytes_eq-Decides}
use Rattle.graphql_names.specs.Places.{is_built_in}
use Rattle.graphql_names.specs.Placed.{Place, Text}
use Rattle.tree_definitions.specs.DefinitionTree as tree
use Rattle.tree_definitions.specs.DefinitionTree.{DefinitionTree}
use Rattle.tree_definitions.specs.Queries.{definition_place}
use Rattle.schema_components.specs.Lists.{each_place_after, firsts, has_name}
use Rattle.schema_components.proofs.Firsts.{has_name-push}
use Rattle.schema_types.specs.SchemaTree.{same_kind}
use Rattle.schema_types.specs.TypeParts.{TypeParts, TypeDefinition, type_here, type_extension_here, definition_by, extension_by}
use Rattle.schema_types.specs.declared.type_kind.TypeKind.{TypeKind}
use Rattle.schema_types.specs.declared.type_kind.TypeKind.TheVariants.{Scalar, Object, Interface, Union, Enum, InputObject}
use Rattle.schema_fold.specs.NumberedDefinition.{Definitions, type_name, types_in}
use Rattle.schema_fold.specs.Components.{go_together}
use Rattle.schema_fold.specs.Made.{IsDefinition}
use Rattle.verdict_laws.specs.Arranged.{arranged}
use Rattle.verdict_laws.specs.Whole.{Extension, classes, extension_at, extensions_in, whole_definition, whole_extension, whole_type}
use Rattle.verdict_laws.proofs.Order.{Each, Each-map, Each-append, Each-arranged, arranged-arranged, AreApart, IsApart}
use Rattle.verdict_laws.proofs.Types.{arranged_map}

abbrev Parts : Type 0
Parts = TypeParts Place

pub kinds_same : (a b : TypeKind) → same_kind a b ≡ true → a ≡ b
kinds_same Scalar Scalar h = refl
kinds_same Object Object h = refl
kinds_same Interface Interface h = refl
kinds_same Union Union h = refl
kinds_same Enum Enum h = refl
kinds_same InputObject InputObject h = refl
kinds_same _ _ h = cc

pub kind_itself : (k : TypeKind) → same_kind k k ≡ true
kind_itself Scalar = refl
kind_itself Object = refl
kind_itself Interface = refl
kind_itself Union = refl
kind_itself Enum = refl
kind_itself InputObject = refl

-- ---- what a written definition is

-- the extension with the kind and the name of the definition
abbrev pub named_as : Parts → Parts → Parts
named_as defined p = record p { kind = defined.kind; name = defined.name }

abbrev pub renamed : TypeDefinition Place → Extension → Extension
renamed t x = record { it = named_as t.parts x.it; place = x.place }

abbrev HasShape : Place → Text Place → Parts → Type 0
HasShape q n p = type_extension_here (extension_by p.kind q (record p { name = n })) ≡ Some (record p { name = n })

shape_of : (d : DefinitionTree Place) (p : Parts) (q : Place) (n : Text Place) → type_extension_here d ≡ Some p → HasShape q n p
shape_of (tree.ExtendScalar r t) p q n e = subst (HasShape q n) (same_Some _ _ e) refl
shape_of (tree.ExtendObject r t) p q n e = subst (HasShape q n) (same_Some _ _ e) refl
shape_of (tree.ExtendInterface r t) p q n e = subst (HasShape q n) (same_Some _ _ e) refl
shape_of (tree.ExtendUnion r t) p q n e = subst (HasShape q n) (same_Some _ _ e) refl
shape_of (tree.ExtendEnum r t) p q n e = subst (HasShape q n) (same_Some _ _ e) refl
shape_of (tree.ExtendInputObject r t) p q n e = subst (HasShape q n) (same_Some _ _ e) refl
shape_of _ p q n e = cc

shape_as : (defined : Parts) (d : DefinitionTree Place) (p : Parts) (q : Place) → type_extension_here d ≡ Some p → go_together defined p ≡ true
    → type_extension_here (extension_by defined.kind q (named_as defined p)) ≡ Some (named_as defined p)
shape_as defined d p q e same =
    let k = kinds_same defined.kind p.kind (second_so (bytes_eq defined.name.it p.name.it) (same_kind defined.kind p.kind) same) in
    subst (λ k. type_extension_here (extension_by k q (record p { kind = k; name = defined.name })) ≡ Some (record p { kind = k; name = defined.name })) (sym k) (shape_of d p q defined.name e)

-- it reads as an extension with these parts
abbrev pub ReadsAs : TypeDefinition Place → Extension → Type 0
ReadsAs t x = type_extension_here (whole_extension t x) ≡ Some (named_as t.parts x.it)

pub extensions_read : (t : TypeDefinition Place) (ds : Definitions) → Each (ReadsAs t) (extensions_in ds t.parts)
extensions_read t [] = tt
extensions_read t (d ∷ ds) = Each-append (ReadsAs t) (extension_at t.parts d) (extensions_in ds t.parts) (here (type_extension_here d) refl) (extensions_read t ds)
  where
    here : (o : Option Parts) → type_extension_here d ≡ o → Each (ReadsAs t) (option_map_or (λ parts. if go_together t.parts parts then record { it = parts; place = definition_place d } ∷ [] else []) o [])
    here None e = tt
    here (Some p) e = by (go_together t.parts p) refl
      where
        by : (b : Bool) → go_together t.parts p ≡ b → Each (ReadsAs t) (if b then record { it = p; place = definition_place d } ∷ [] else [])
        by true same = (shape_as t.parts d p (definition_place d) e same, tt)
        by false same = tt

extension_place : (k : TypeKind) (q : Place) (p : Parts) → definition_place (extension_by k q p) ≡ q
extension_place Scalar q p = refl
extension_place Object q p = refl
extension_place Interface q p = refl
extension_place Union q p = refl
extension_place Enum q p = refl
extension_place InputObject q p = refl

defines_none : (k : TypeKind) (q : Place) (p : Parts) → type_here (extension_by k q p) ≡ None
defines_none Scalar q p = refl
defines_none Object q p = refl
defines_none Interface q p = refl
defines_none Union q p = refl
defines_none Enum q p = refl
defines_none InputObject q p = refl

pub extends_none : (k : TypeKind) (q : Place) (d : Option (Text Place)) (p : Parts) → type_extension_here (definition_by k q d p) ≡ None
extends_none Scalar q d p = refl
extends_none Object q d p = refl
extends_none Interface q d p = refl
extends_none Union q d p = refl
extends_none Enum q d p = refl
extends_none InputObject q d p = refl

abbrev DefinesItself : TypeDefinition Place → Type 0
DefinesItself t = type_here (whole_definition t) ≡ Some t

defines : (d : DefinitionTree Place) (t : TypeDefinition Place) → type_here d ≡ Some t → DefinesItself t
defines (tree.ScalarType q w s) t e = subst DefinesItself (same_Some _ _ e) refl
defines (tree.ObjectType q w s) t e = subst DefinesItself (same_Some _ _ e) refl
defines (tree.InterfaceType q w s) t e = subst DefinesItself (same_Some _ _ e) refl
defines (tree.UnionType q w s) t e = subst DefinesItself (same_Some _ _ e) refl
defines (tree.EnumType q w s) t e = subst DefinesItself (same_Some _ _ e) refl
defines (tree.InputObjectType q w s) t e = subst DefinesItself (same_Some _ _ e) refl
defines _ t e = cc

-- ---- read again

module _ (ds : Definitions) where
  abbrev exts : TypeDefinition Place → List Extension
  exts t = arranged classes (extensions_in ds t.parts)

  one_again : (t u : TypeDefinition Place) (x : Extension) → ReadsAs u x → extension_at t.parts (whole_extension u x) ≡ (if go_together t.parts u.parts then renamed u x ∷ [] else [])
  one_again t u x reads =
      ap (λ o. option_map_or (λ parts. if go_together t.parts parts then record { it = parts; place = definition_place (whole_extension u x) } ∷ [] else []) o []) reads
      ∙ ap (λ q. if go_together t.parts u.parts then record { it = named_as u.parts x.it; place = q } ∷ [] else []) (extension_place u.parts.kind x.place (named_as u.parts x.it))

  several_again : (t u : TypeDefinition Place) (b : Bool) → go_together t.parts u.parts ≡ b → (xs : List Extension) → Each (ReadsAs u) xs → flat_map (extension_at t.parts) (map (whole_extension u) xs) ≡ cond b (map (renamed u) xs) []
  several_again t u true e [] h = refl
  several_again t u false e [] h = refl
  several_again t u true e (x ∷ xs) h = λ i. (one_again t u x h.0 ∙ ap (λ b. if b then renamed u x ∷ [] else []) e) i ++ several_again t u true e xs h.1 i
  several_again t u false e (x ∷ xs) h = λ i. (one_again t u x h.0 ∙ ap (λ b. if b then renamed u x ∷ [] else []) e) i ++ several_again t u false e xs h.1 i

  definition_extends_none : (t u : TypeDefinition Place) (b : Bool) → extensions_in (if b then [] else whole_definition u ∷ []) t.parts ≡ []
  definition_extends_none t u true = refl
  definition_extends_none t u false =
      ap (λ o. option_map_or (λ parts. if go_together t.parts parts then record { it = parts; place = definition_place (whole_definition u) } ∷ [] else []) o [] ++ []) (extends_none u.parts.kind u.place u.description u.parts)

  type_again : (t u : TypeDefinition Place) (b : Bool) → go_together t.parts u.parts ≡ b → extensions_in (whole_type ds u) t.parts ≡ cond b (map (renamed u) (exts u)) []
  type_again t u b e =
      flat_map-append (extension_at t.parts) (if is_built_in u.place then [] else whole_definition u ∷ []) (map (whole_extension u) (exts u))
      ∙ (λ i. definition_extends_none t u (is_built_in u.place) i ++ several_again t u b e (exts u) (Each-arranged (ReadsAs u) classes (extensions_in ds u.parts) (extensions_read u ds)) i)

  together : (t : TypeDefinition Place) → go_together t.parts t.parts ≡ true
  together t = (λ i. (bytes_eq-Decides t.parts.name.it t.parts.name.it).1 refl i && kind_itself t.parts.kind i)

  apart : (t u : TypeDefinition Place) → bytes_eq (type_name t) (type_name u) ≡ false → go_together t.parts u.parts ≡ false
  apart t u e = ap (λ b. b && same_kind t.parts.kind u.parts.kind) e

  abbrev itself : TypeDefinition Place → TypeDefinition Place
  itself t = t

  others_again : (t : TypeDefinition Place) (us : List (TypeDefinition Place)) → Each (IsApart type_name itself t) us → extensions_in (flat_map (whole_type ds) us) t.parts ≡ []
  others_again t [] h = refl
  others_again t (u ∷ us) h =
      flat_map-append (extension_at t.parts) (whole_type ds u) (flat_map (whole_type ds) us)
      ∙ (λ i. type_again t u false (apart t u h.0.0) i ++ others_again t us h.1 i)

  pub extensions_again : (ts : List (TypeDefinition Place)) → AreApart type_name itself ts → Each (λ t. extensions_in (flat_map (whole_type ds) ts) t.parts ≡ map (renamed t) (exts t)) ts
  extensions_again [] h = tt
  extensions_again (t ∷ ts) h = (
    flat_map-append (extension_at t.parts) (whole_type ds t) (flat_map (whole_type ds) ts)
        ∙ (λ i. type_again t t true (together t) i ++ others_again t ts h.0 i) ∙ append-nil (map (renamed t) (exts t)),
    both ts h.0 (extensions_again ts h.1),
  )
    where
      both : (us : List (TypeDefinition Place)) → Each (IsApart type_name itself t) us → Each (λ u. extensions_in (flat_map (whole_type ds) ts) u.parts ≡ map (renamed u) (exts u)) us
          → Each (λ u. extensions_in (flat_map (whole_type ds) (t ∷ ts)) u.parts ≡ map (renamed u) (exts u)) us
      both [] a k = tt
      both (u ∷ us) a k = (
        flat_map-append (extension_at u.parts) (whole_type ds t) (flat_map (whole_type ds) ts) ∙ (λ i. type_again u t false (apart u t a.0.1) i ++ k.0 i),
        both us a.1 k.1,
      )

  -- ---- the types

  no_types : (t : TypeDefinition Place) (xs : List Extension) → types_in (map (whole_extension t) xs) ≡ []
  no_types t [] = refl
  no_types t (x ∷ xs) = λ i. option_to_list (defines_none t.parts.kind x.place (named_as t.parts x.it) i) ++ no_types t xs i

  pub own : TypeDefinition Place → Bool
  own t = not (is_built_in t.place)

  pub types_again : (ts : List (TypeDefinition Place)) → Each IsDefinition ts → types_in (flat_map (whole_type ds) ts) ≡ filter (λ t. not (is_built_in t.place)) ts
  types_again [] h = refl
  types_again (t ∷ ts) h =
      flat_map-append (λ d. option_to_list (type_here d)) (whole_type ds t) (flat_map (whole_type ds) ts)
      ∙ ap (λ l. l ++ types_in (flat_map (whole_type ds) ts)) (flat_map-append (λ d. option_to_list (type_here d)) (if is_built_in t.place then [] else whole_definition t ∷ []) (map (whole_extension t) (exts t)))
      ∙ (λ i. (by (is_built_in t.place) i ++ no_types t (exts t) i) ++ types_again ts h.1 i)
      ∙ joined (is_built_in t.place)
    where
      by : (b : Bool) → types_in (if b then [] else whole_definition t ∷ []) ≡ (if b then [] else t ∷ [])
      by true = refl
      by false = ap (λ o. option_to_list o ++ []) (defines h.0.0 t h.0.1)

      joined : (b : Bool) → ((if b then [] else t ∷ []) ++ []) ++ filter (λ t. not (is_built_in t.place)) ts ≡ cond (not b) (t ∷ filter (λ t. not (is_built_in t.place)) ts) (filter (λ t. not (is_built_in t.place)) ts)
      joined true = refl
      joined false = refl

-- a type is written again as it was written, where its extensions are the arranged ones
pub same_type : (ds again : Definitions) (t : TypeDefinition Place) → extensions_in again t.parts ≡ map (renamed t) (arranged classes (extensions_in ds t.parts)) → whole_type again t ≡ whole_type ds t
same_type ds again t h =
    let xs = arranged classes (extensions_in ds t.parts) in
    ap (λ l. (if is_built_in t.place then [] else whole_definition t ∷ []) ++ map (whole_extension t) (arranged classes l)) h
    ∙ ap (λ l. (if is_built_in t.place then [] else whole_definition t ∷ []) ++ map (whole_extension t) l) (arranged_map (renamed t) classes xs ∙ ap (map (renamed t)) (arranged-arranged classes (extensions_in ds t.parts)))
    ∙ ap (λ l. (if is_built_in t.place then [] else whole_definition t ∷ []) ++ l) (map-map (whole_extension t) (renamed t) xs)

-- ---- the first of each name are apart

module _ {X : Type 0} (name : X → List ℕ) where
  abbrev here : List X → X → List X
  here before x = if has_name name (name x) before then [] else x ∷ []

  abbrev Unseen : List X → X → Type 0
  Unseen before x = has_name name (name x) before ≡ false

  left : (a b : Bool) → (a || b) ≡ false → a ≡ false
  left true b e = e
  left false b e = refl

  right : (a b : Bool) → (a || b) ≡ false → b ≡ false
  right true b e = absurd (true≢false e)
  right false b e = e

  turned : (n m : List ℕ) → bytes_eq n m ≡ false → bytes_eq m n ≡ false
  turned n m e = by (bytes_eq m n) refl
    where
      by : (b : Bool) → bytes_eq m n ≡ b → b ≡ false
      by true f = sym ((bytes_eq-Decides n m).1 (sym ((bytes_eq-Decides m n).0 f))) ∙ e
      by false f = refl

  pub firsts_after : (before xs : List X) → Each (Unseen before) (each_place_after here before xs) × AreApart name (λ x. x) (each_place_after here before xs)
  firsts_after before [] = (tt, tt)
  firsts_after before (x ∷ xs) = by (has_name name (name x) before) refl (firsts_after (before ++ x ∷ []) xs)
    where
      by : (b : Bool) → has_name name (name x) before ≡ b → Each (Unseen (before ++ x ∷ [])) (each_place_after here (before ++ x ∷ []) xs) × AreApart name (λ x. x) (each_place_after here (before ++ x ∷ []) xs)
          → Each (Unseen before) ((if b then [] else x ∷ []) ++ each_place_after here (before ++ x ∷ []) xs) × AreApart name (λ x. x) ((if b then [] else x ∷ []) ++ each_place_after here (before ++ x ∷ []) xs)
      by true e rest = (Each-map (λ y h. left (has_name name (name y) before) (bytes_eq (name y) (name x)) (sym (has_name-push name (name y) before x) ∙ h)) (each_place_after here (before ++ x ∷ []) xs) rest.0, rest.1)
      by false e rest = (
        (e, Each-map (λ y h. left (has_name name (name y) before) (bytes_eq (name y) (name x)) (sym (has_name-push name (name y) before x) ∙ h)) (each_place_after here (before ++ x ∷ []) xs) rest.0),
        (Each-map (λ y h. let f = right (has_name name (name y) before) (bytes_eq (name y) (name x)) (sym (has_name-push name (name y) before x) ∙ h) in (turned (name y) (name x) f, f)) (each_place_after here (before ++ x ∷ []) xs) rest.0, rest.1),
      )

  pub firsts_apart : (xs : List X) → AreApart name (λ x. x) (firsts name xs)
  firsts_apart xs = (firsts_after [] xs).1
