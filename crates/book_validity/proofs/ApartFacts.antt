-- No element has the name of an earlier one exactly when no two have the same name: with the numbers of extensions, and without.
use Rattle.std.proofs.Common.{◌≡◌, ◌↔◌, ◌<◌, ℕ, zero, suc, Bool, true, false, List, [], ◌∷◌, ◌++◌, map, filter, flat_map, length, slice_get, refl, sym, ap, subst, ◌∙◌, Option, None, Some, option_map, option_to_list, Contains, if◌then◌else◌, arith}
use Rattle.std.specs.Option.{option_map_or}
use Rattle.std.proofs.lemmas.Option.{same_Some}
use Rattle.std.proofs.lemmas.List.{map-append}
use Rattle.std.proofs.lemmas.List.Elements.{Contains-append_right}
use Rattle.graphql_names.specs.Placed.{Place}
use Rattle.tree_directives.specs.OperationQueries.{operation_keyword}
use Rattle.tree_type_members.specs.TypeSystemTree.{SchemaParts}
use Rattle.schema_components.specs.Lists.{StandsAfter, IsRepeated, has_name}
use Rattle.schema_components.specs.Given.{Given, ExtensionTree}
use Rattle.schema_types.specs.TypeParts.{TypeParts, TypeDefinition, type_extension_here}
use Rattle.schema_fold.specs.NumberedDefinition.{Definitions, NumberedDefinition, numbered, definitions_of}
use Rattle.schema_fold.specs.Components.{all_given, go_together, extension_here, components}
use Rattle.schema_fold.specs.SchemaFold.{Root, schema_extension_here, schema_is_defined, extends_schema, schema_base, schema_parts_given, roots_given, root_key}
use Rattle.schema_building.proofs.Numbering.{definitions_numbered}
use Rattle.rule_definitions.proofs.Lists.{index_found}
use Rattle.rule_definitions.proofs.Firsts.{index_below}
use Rattle.rule_definitions.proofs.Lookups.{among_found, among_given}
use Rattle.rule_cycle_search.proofs.Lists.{Contains-first, mapped_some, slice_get-map}
use Rattle.book_validity.specs.Words.{AreUnique}
use Rattle.book_validity.specs.Folding.{schema_parts, parts_of}
use Rattle.book_validity.proofs.Naming.{same_index, not_below}

-- ---- by index, and by what comes before

module _ {X : Type 0} where
  stands_more : (xs ys : List X) (i : ℕ) (x : X) → slice_get xs i ≡ Some x → slice_get (xs ++ ys) i ≡ Some x
  stands_more [] ys i x e = cc
  stands_more (z ∷ xs) ys zero x e = e
  stands_more (z ∷ xs) ys (suc i) x e = stands_more xs ys i x e

  stands_between : (xs : List X) (x : X) (ys : List X) → slice_get (xs ++ x ∷ ys) (length xs) ≡ Some x
  stands_between [] x ys = refl
  stands_between (y ∷ xs) x ys = stands_between xs x ys

  stands_after : (xs : List X) (j : ℕ) (y : X) → slice_get xs j ≡ Some y → (before : List X) × StandsAfter xs before y
  stands_after [] j y e = cc
  stands_after (z ∷ xs) zero y e = ([], (xs, ap (λ w. w ∷ xs) (same_Some z y e)))
  stands_after (z ∷ xs) (suc j) y e = let (before, (after, is)) = stands_after xs j y e in (z ∷ before, (after, ap (λ l. z ∷ l) is))

  -- and each earlier one is among those before it
  stands_after_it : (xs : List X) (i j : ℕ) (x y : X) → slice_get xs i ≡ Some x → slice_get xs j ≡ Some y → i < j → (before : List X) × (StandsAfter xs before y × Contains before x)
  stands_after_it [] i j x y e f less = cc
  stands_after_it (z ∷ xs) i zero x y e f less = absurd (omega (arith, less))
  stands_after_it (z ∷ xs) zero (suc j) x y e f less =
      let (before, (after, is)) = stands_after xs j y f in (z ∷ before, ((after, ap (λ l. z ∷ l) is), Contains-first z before x (same_Some z x e)))
  stands_after_it (z ∷ xs) (suc i) (suc j) x y e f less =
      let (before, ((after, is), c)) = stands_after_it xs i j x y e f (omega (arith, less)) in (z ∷ before, ((after, ap (λ l. z ∷ l) is), Contains-append_right (z ∷ []) before x c))

module _ {X : Type 0} (key : X → List ℕ) (xs : List X) where
  abbrev pub NoneRepeated : Type 0
  NoneRepeated = (x : X) → IsRepeated key xs x → ⊥

  pub apart_unique : NoneRepeated → AreUnique key xs
  apart_unique none i j x y e f same = same_index i j
      (λ less. let (before, (at, c)) = stands_after_it xs i j x y e f less in none y (before, (y, (at, (refl, ap (λ n. has_name key n before) (sym same) ∙ among_found key before x c)))))
      (λ less. let (before, (at, c)) = stands_after_it xs j i y x f e less in none x (before, (x, (at, (refl, ap (λ n. has_name key n before) same ∙ among_found key before y c)))))

  pub unique_apart : AreUnique key xs → NoneRepeated
  unique_apart unique x (before, (y, ((after, is), (same, has)))) =
      let (z, (c, called)) = among_given key before (key x) has in
      let (i, at) = index_found before z c in
      let here : slice_get xs i ≡ Some z = ap (λ l. slice_get l i) is ∙ stands_more before (y ∷ after) i z at in
      let there : slice_get xs (length before) ≡ Some y = ap (λ l. slice_get l (length before)) is ∙ stands_between before y after in
      not_below i (length before) (unique i (length before) z y here there (called ∙ ap key (sym same))) (index_below before i z at)

-- ---- of what is made of each

module _ {X Y : Type 0} (made : Y → X) (key : X → List ℕ) (ys : List Y) where
  mapped_unique : AreUnique (λ y. key (made y)) ys → AreUnique key (map made ys)
  mapped_unique unique i j x w e f same =
      let (y, (a, is)) = mapped_some made (slice_get ys i) x (sym (slice_get-map made ys i) ∙ e) in
      let (v, (b, that)) = mapped_some made (slice_get ys j) w (sym (slice_get-map made ys j) ∙ f) in
      unique i j y v a b (ap key (sym is) ∙ same ∙ ap key that)

  unique_mapped : AreUnique key (map made ys) → AreUnique (λ y. key (made y)) ys
  unique_mapped unique i j y v a b same = unique i j (made y) (made v) (slice_get-map made ys i ∙ ap (option_map made) a) (slice_get-map made ys j ∙ ap (option_map made) b) same

-- ---- what is given, without what gave it

abbrev alone : {A : Type 0} → List (Given Place A) → List A
alone {A} gs = map (λ (g : Given Place A). g.it) gs

all_alone : {A : Type 0} (giver : Option (ExtensionTree Place)) (xs : List A) → alone (all_given giver xs) ≡ xs
all_alone giver [] = refl
all_alone giver (x ∷ xs) = ap (λ l. x ∷ l) (all_alone giver xs)

each_alone : {A B : Type 0} (of : A → List B) (gs : List (Given Place A)) → alone (flat_map (λ g. all_given g.extension (of g.it)) gs) ≡ flat_map of (alone gs)
each_alone of [] = refl
each_alone {A} {B} of (g ∷ gs) =
    map-append (λ (h : Given Place B). h.it) (all_given g.extension (of g.it)) (flat_map (λ (h : Given Place A). all_given h.extension (of h.it)) gs) ∙ (λ i. all_alone g.extension (of g.it) i ++ each_alone of gs i)

-- the extensions of a type, and of the schema
abbrev type_extensions : Definitions → List (TypeParts Place)
type_extensions ds = flat_map (λ d. option_to_list (type_extension_here d)) ds

abbrev schema_extensions : Definitions → List (SchemaParts Place)
schema_extensions ds = flat_map (λ d. option_to_list (schema_extension_here d)) ds

abbrev from_it : NumberedDefinition → TypeParts Place → Given Place (TypeParts Place)
from_it l parts = record { extension = l.extension; it = parts }

extensions_alone : (p : TypeParts Place) (list : List NumberedDefinition) → alone (flat_map (extension_here p) list) ≡ filter (go_together p) (type_extensions (definitions_of list))
extensions_alone p [] = refl
extensions_alone p (l ∷ list) = map-append (λ (g : Given Place (TypeParts Place)). g.it) (extension_here p l) (flat_map (extension_here p) list) ∙ by (type_extension_here l.definition) (extensions_alone p list)
  where
    if_together : (parts : TypeParts Place) (b : Bool) → alone (flat_map (extension_here p) list) ≡ filter (go_together p) (type_extensions (definitions_of list))
        → alone (if b then from_it l parts ∷ [] else []) ++ alone (flat_map (extension_here p) list)
        ≡ (if b then parts ∷ filter (go_together p) (type_extensions (definitions_of list)) else filter (go_together p) (type_extensions (definitions_of list)))
    if_together parts true rest = ap (λ k. parts ∷ k) rest
    if_together parts false rest = rest

    by : (o : Option (TypeParts Place)) → alone (flat_map (extension_here p) list) ≡ filter (go_together p) (type_extensions (definitions_of list))
        → alone (option_map_or (λ parts. if go_together p parts then from_it l parts ∷ [] else []) o []) ++ alone (flat_map (extension_here p) list)
        ≡ filter (go_together p) (option_to_list o ++ type_extensions (definitions_of list))
    by None rest = rest
    by (Some parts) rest = if_together parts (go_together p parts) rest

schema_extensions_alone : (list : List NumberedDefinition) → alone (flat_map extends_schema list) ≡ schema_extensions (definitions_of list)
schema_extensions_alone [] = refl
schema_extensions_alone (l ∷ list) =
    map-append (λ (g : Given Place (SchemaParts Place)). g.it) (extends_schema l) (flat_map extends_schema list) ∙ (λ i. all_alone l.extension (option_to_list (schema_extension_here l.definition)) i ++ schema_extensions_alone list i)

module _ (built_in : Definitions) (first : ℕ) (texts : Definitions) where
  abbrev whole : Definitions
  whole = built_in ++ texts

  components_alone : {A : Type 0} (t : TypeDefinition Place) (of : TypeParts Place → List A) → alone (components of (numbered first whole) t) ≡ flat_map of (parts_of built_in texts t)
  components_alone t of =
      each_alone of (record { extension = None; it = t.parts } ∷ flat_map (extension_here t.parts) (numbered first whole))
      ∙ ap (λ l. flat_map of (t.parts ∷ l)) (extensions_alone t.parts (numbered first whole) ∙ ap (λ ds. filter (go_together t.parts) (type_extensions ds)) (definitions_numbered first whole))

  schema_parts_alone : alone (schema_parts_given first whole) ≡ schema_parts built_in texts
  schema_parts_alone = ap (λ l. (schema_base whole).parts ∷ l) (by (schema_is_defined whole))
    where
      by : (b : Bool) → alone (if b then flat_map extends_schema (numbered first whole) else []) ≡ (if b then schema_extensions whole else [])
      by true = schema_extensions_alone (numbered first whole) ∙ ap schema_extensions (definitions_numbered first whole)
      by false = refl

  -- ---- so names differ with the numbers of extensions exactly when they do without

  pub components_apart : {A : Type 0} (t : TypeDefinition Place) (of : TypeParts Place → List A) (name : A → List ℕ)
      → NoneRepeated (λ g. name g.it) (components of (numbered first whole) t) ↔ AreUnique name (flat_map of (parts_of built_in texts t))
  components_apart {A} t of name =
      let gs : List (Given Place A) = components of (numbered first whole) t in (
        λ none. subst (AreUnique name) (components_alone t of) (mapped_unique (λ (g : Given Place A). g.it) name gs (apart_unique (λ g. name g.it) gs none)),
        λ unique. unique_apart (λ g. name g.it) gs (unique_mapped (λ (g : Given Place A). g.it) name gs (subst (AreUnique name) (sym (components_alone t of)) unique)),
      )

  abbrev operation_of : Root → List ℕ
  operation_of r = operation_keyword r.it.operation_type

  pub roots_apart : NoneRepeated root_key (roots_given first whole) ↔ AreUnique operation_of (flat_map (λ p. p.roots) (schema_parts built_in texts))
  roots_apart =
      let gs : List (Given Place Root) = roots_given first whole in
      let same : alone gs ≡ flat_map (λ (p : SchemaParts Place). p.roots) (schema_parts built_in texts)
      = each_alone (λ (p : SchemaParts Place). p.roots) (schema_parts_given first whole) ∙ ap (flat_map (λ (p : SchemaParts Place). p.roots)) schema_parts_alone in (
        λ none. subst (AreUnique operation_of) same (mapped_unique (λ (g : Given Place Root). g.it) operation_of gs (apart_unique root_key gs none)),
        λ unique. unique_apart root_key gs (unique_mapped (λ (g : Given Place Root). g.it) operation_of gs (subst (AreUnique operation_of) (sym same) unique)),
      )
