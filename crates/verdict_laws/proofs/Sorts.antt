-- Lists are rearranged where, without places, they have the same of each sort.
use Rattle.std.proofs.Common.{◌≡◌, ℕ, Bool, true, false, ◌||◌, cond, List, [], ◌∷◌, ◌++◌, map, filter, find, slice_get, bytes_eq, is_some, refl, sym, ap, ◌∙◌, Option, None, Some, option_map, true≢false, if◌then◌else◌}
use Rattle.std.specs.List.{flat_map, list_any}
use Rattle.std.specs.Option.{option_map_or}
use Rattle.std.proofs.lemmas.List.{append-nil, map-id}
use Rattle.std.proofs.lemmas.List.Elements.{filter-append}
use Rattle.std.proofs.lemmas.Iterator.Adapters.{option_map_id}
use Rattle.std.proofs.lemmas.Slice.Eq.{bytes_eq-Decides}
use Rattle.graphql_names.specs.Placed.{Place, Text}
use Rattle.schema_fold.specs.in_directives.DirectiveTree.{DirectiveDefinitionTree}
use Rattle.schema_fold.specs.in_type_members.TypeSystemTree.{unplaced_schema}
use Rattle.schema_fold.specs.in_definitions.DefinitionTree.{DefinitionTree, unplaced_definition, unplaced_document}
use Rattle.schema_fold.specs.in_definitions.Queries.{is_executable}
use Rattle.schema_fold.specs.in_components.Lists.{each_place_after, firsts, has_name}
use Rattle.schema_fold.proofs.in_components.Firsts.{has_name-push}
use Rattle.schema_fold.specs.in_schema_types.TypeParts.{TypeParts, TypeDefinition, type_here, type_extension_here, definition_by, extension_by}
use Rattle.schema_fold.specs.in_schema_types.declared.type_kind.TypeKind.{TypeKind}
use Rattle.schema_fold.specs.in_schema_types.declared.type_kind.TypeKind.TheVariants as kind
use Rattle.schema_fold.specs.in_schema_types.Plain.{plain_directive_definition}
use Rattle.schema_fold.specs.NumberedDefinition.{Definitions, type_name, directive_here, directive_name}
use Rattle.schema_fold.specs.SchemaFold.{schema_here, schema_extension_here}
use Rattle.verdict_laws.specs.RearrangedLists.{defines_type, extends_type, defines_directive, defines_schema, is_schema_extension, AgreeOn, IsRearranged}
use Rattle.verdict_laws.proofs.Gathered.{map-filter, find-filter}
use Rattle.verdict_laws.proofs.Parts.{unplaced_type_definition, unplaced_parts, type_unplaced, type_extension_unplaced}
use Rattle.verdict_laws.proofs.Roots.{directive_unplaced_here, directive_unplaced, told, schema_unplaced_here, schema_unplaced, schema_extension_unplaced_here, schema_extension_unplaced}
use Rattle.verdict_laws.proofs.RearrangedLists.{executable_unplaced}

-- ---- of the first of each name one alone has a name

module _ {X Y : Type 0} (key : X → List ℕ) (n : List ℕ) (G : X → List Y) (nothing : (x : X) → bytes_eq n (key x) ≡ false → G x ≡ []) where
  abbrev kept_from : List X → List X → List X
  kept_from = each_place_after (λ before x. if has_name key (key x) before then [] else x ∷ [])

  none_after : (before xs : List X) → has_name key n before ≡ true → flat_map G (kept_from before xs) ≡ []
  none_after before [] h = refl
  none_after before (x ∷ xs) h = by (has_name key (key x) before) refl (bytes_eq n (key x)) refl (none_after (before ++ x ∷ []) xs (has_name-push key n before x ∙ ap (λ b. b || bytes_eq n (key x)) h))
    where
      by : (b : Bool) → has_name key (key x) before ≡ b → (c : Bool) → bytes_eq n (key x) ≡ c → flat_map G (kept_from (before ++ x ∷ []) xs) ≡ [] → flat_map G ((if b then [] else x ∷ []) ++ kept_from (before ++ x ∷ []) xs) ≡ []
      by true seen c is rest = rest
      by false new true is rest = absurd (true≢false (sym h ∙ ap (λ m. has_name key m before) ((bytes_eq-Decides n (key x)).0 is) ∙ new))
      by false new false is rest = ap (λ l. l ++ flat_map G (kept_from (before ++ x ∷ []) xs)) (nothing x is) ∙ rest

  one_after : (before xs : List X) → has_name key n before ≡ false → flat_map G (kept_from before xs) ≡ option_map_or G (find (λ x. bytes_eq n (key x)) xs) []
  one_after before [] h = refl
  one_after before (x ∷ xs) h = by (has_name key (key x) before) refl (bytes_eq n (key x)) refl (λ e. one_after (before ++ x ∷ []) xs e) (λ e. none_after (before ++ x ∷ []) xs e)
    where
      pushed : (c : Bool) → bytes_eq n (key x) ≡ c → has_name key n (before ++ x ∷ []) ≡ c
      pushed c e = has_name-push key n before x ∙ (λ i. h i || e i)

      by : (b : Bool) → has_name key (key x) before ≡ b → (c : Bool) → bytes_eq n (key x) ≡ c
          → (has_name key n (before ++ x ∷ []) ≡ false → flat_map G (kept_from (before ++ x ∷ []) xs) ≡ option_map_or G (find (λ y. bytes_eq n (key y)) xs) [])
          → (has_name key n (before ++ x ∷ []) ≡ true → flat_map G (kept_from (before ++ x ∷ []) xs) ≡ [])
          → flat_map G ((if b then [] else x ∷ []) ++ kept_from (before ++ x ∷ []) xs) ≡ option_map_or G (if c then Some x else find (λ y. bytes_eq n (key y)) xs) []
      by true seen true is rest none = absurd (true≢false (sym (ap (λ m. has_name key m before) ((bytes_eq-Decides n (key x)).0 is) ∙ seen) ∙ h))
      by true seen false is rest none = rest (pushed false is)
      by false new true is rest none = ap (λ l. G x ++ l) (none (pushed true is)) ∙ append-nil (G x)
      by false new false is rest none = ap (λ l. l ++ flat_map G (kept_from (before ++ x ∷ []) xs)) (nothing x is) ∙ rest (pushed false is)

  of_name : (xs : List X) → flat_map G (firsts key xs) ≡ option_map_or G (slice_get (filter (λ x. bytes_eq n (key x)) xs) 0) []
  of_name xs = one_after [] xs refl ∙ ap (λ o. option_map_or G o []) (sym (option_map_id (find (λ x. bytes_eq n (key x)) xs)) ∙ find-filter (λ x. x) (λ x. bytes_eq n (key x)) xs ∙ ap (λ l. slice_get l 0) (map-id (filter (λ x. bytes_eq n (key x)) xs)))

-- ---- sorts

-- what a definition is: of a type, an extension of one, or of a directive, of that name; of the schema; an extension of it; executable
pub record Sort : Type 0 where
  pub type : Option (List ℕ)
  pub extension : Option (List ℕ)
  pub directive : Option (List ℕ)
  pub schema : Bool
  pub schema_extension : Bool
  pub executable : Bool

abbrev pub nothing : Sort
nothing = record { type = None; extension = None; directive = None; schema = false; schema_extension = false; executable = false }

abbrev pub sort_of : DefinitionTree (Unit {0}) → Sort
sort_of d = record {
  type = option_map (λ t. t.parts.name.it) (type_here d);
  extension = option_map (λ e. e.name.it) (type_extension_here d);
  directive = option_map (λ x. x.name.it) (directive_unplaced_here d);
  schema = is_some (schema_unplaced_here d);
  schema_extension = is_some (schema_extension_unplaced_here d);
  executable = is_executable d;
}

pub defined : (k : TypeKind) (p : Unit {0}) (d : Option (Text (Unit {0}))) (t : TypeParts (Unit {0})) → sort_of (definition_by k p d t) ≡ record nothing { type = Some t.name.it }
defined kind.Scalar p d t = refl
defined kind.Object p d t = refl
defined kind.Interface p d t = refl
defined kind.Union p d t = refl
defined kind.Enum p d t = refl
defined kind.InputObject p d t = refl

pub extended : (k : TypeKind) (p : Unit {0}) (t : TypeParts (Unit {0})) → sort_of (extension_by k p t) ≡ record nothing { extension = Some t.name.it }
extended kind.Scalar p t = refl
extended kind.Object p t = refl
extended kind.Interface p t = refl
extended kind.Union p t = refl
extended kind.Enum p t = refl
extended kind.InputObject p t = refl

-- no type, extension of a type or directive of another name passes
pub record IsOfName (n : List ℕ) (test : Sort → Bool) : Type 0 where
  pub types : (m : List ℕ) → bytes_eq n m ≡ false → test (record nothing { type = Some m }) ≡ false
  pub extensions : (m : List ℕ) → bytes_eq n m ≡ false → test (record nothing { extension = Some m }) ≡ false
  pub directives : (m : List ℕ) → bytes_eq n m ≡ false → test (record nothing { directive = Some m }) ≡ false

-- ---- what passes

module _ (test : Sort → Bool) where
  abbrev pub passes : DefinitionTree (Unit {0}) → Bool
  passes d = test (sort_of d)

  pub no_one : (d : DefinitionTree (Unit {0})) → passes d ≡ false → filter passes (d ∷ []) ≡ []
  no_one d h = ap (λ b. cond b (d ∷ []) []) h

  pub no_map : {X : Type 0} (F : X → DefinitionTree (Unit {0})) → ((x : X) → passes (F x) ≡ false) → (xs : List X) → filter passes (map F xs) ≡ []
  no_map F h [] = refl
  no_map F h (x ∷ xs) = ap (λ b. cond b (F x ∷ filter passes (map F xs)) (filter passes (map F xs))) (h x) ∙ no_map F h xs

  filter_flat : {X : Type 0} (F : X → List (DefinitionTree (Unit {0}))) (xs : List X) → filter passes (flat_map F xs) ≡ flat_map (λ x. filter passes (F x)) xs
  filter_flat F [] = refl
  filter_flat F (x ∷ xs) = filter-append passes (F x) (flat_map F xs) ∙ ap (λ l. filter passes (F x) ++ l) (filter_flat F xs)

  -- of the first of each name those of this name alone count
  pub passing : {X : Type 0} (n : List ℕ) (key : X → List ℕ) (F : X → List (DefinitionTree (Unit {0}))) → ((x : X) → bytes_eq n (key x) ≡ false → filter passes (F x) ≡ []) → (xs ys : List X)
      → filter (λ x. bytes_eq n (key x)) xs ≡ filter (λ x. bytes_eq n (key x)) ys → filter passes (flat_map F (firsts key xs)) ≡ filter passes (flat_map F (firsts key ys))
  passing n key F none xs ys same = at xs ∙ ap (λ l. option_map_or (λ x. filter passes (F x)) (slice_get l 0) []) same ∙ sym (at ys)
    where
      at : (zs : List _) → filter passes (flat_map F (firsts key zs)) ≡ option_map_or (λ x. filter passes (F x)) (slice_get (filter (λ x. bytes_eq n (key x)) zs) 0) []
      at zs = filter_flat F (firsts key zs) ∙ of_name key n (λ x. filter passes (F x)) none zs

-- ---- the six sorts

named_blind : {A B : Type 0} (n : List ℕ) (blind : A → B) (name : A → List ℕ) (name' : B → List ℕ) → ((a : A) → name' (blind a) ≡ name a) → (o : Option A)
    → option_map_or (λ m. bytes_eq n m) (option_map name' (option_map blind o)) false ≡ option_map_or (λ a. bytes_eq n (name a)) o false
named_blind n blind name name' keeps None = refl
named_blind n blind name name' keeps (Some a) = ap (bytes_eq n) (keeps a)

some_blind : {A B : Type 0} (blind : A → B) (o : Option A) → is_some (option_map blind o) ≡ is_some o
some_blind blind None = refl
some_blind blind (Some a) = refl

pub any-filter : {X Y : Type 0} (test : X → Bool) (f : X → Y) (xs : List X) → list_any test xs ≡ is_some (slice_get (map f (filter test xs)) 0)
any-filter test f [] = refl
any-filter test f (x ∷ xs) = by (test x) (any-filter test f xs)
  where
    by : (b : Bool) → list_any test xs ≡ is_some (slice_get (map f (filter test xs)) 0) → (b || list_any test xs) ≡ is_some (slice_get (map f (cond b (x ∷ filter test xs) (filter test xs))) 0)
    by true h = refl
    by false h = h

module _ (ds es : Definitions) (same : (n : List ℕ) (test : Sort → Bool) → IsOfName n test → filter (passes test) (unplaced_document ds) ≡ filter (passes test) (unplaced_document es)) where
  agree : (n : List ℕ) (test : Sort → Bool) → IsOfName n test → (sort : DefinitionTree Place → Bool) → ((d : DefinitionTree Place) → passes test (unplaced_definition d) ≡ sort d) → AgreeOn sort ds es
  agree n test is sort blind = sym (map-filter unplaced_definition sort (passes test) blind ds) ∙ same n test is ∙ map-filter unplaced_definition sort (passes test) blind es

  -- lists are rearranged, where without places those that pass are the same, whatever name they have
  pub rearranged_by_sorts : IsRearranged ds es
  rearranged_by_sorts = record {
    types = λ n. agree n (λ s. option_map_or (λ m. bytes_eq n m) s.type false) (record { types = λ m h. h; extensions = λ m h. refl; directives = λ m h. refl }) (defines_type n)
        (λ d. ap (λ o. option_map_or (λ m. bytes_eq n m) (option_map (λ (t : TypeDefinition (Unit {0})). t.parts.name.it) o) false) (type_unplaced d) ∙ named_blind n unplaced_type_definition type_name (λ t. t.parts.name.it) (λ t. refl) (type_here d));
    extensions = λ n. agree n (λ s. option_map_or (λ m. bytes_eq n m) s.extension false) (record { types = λ m h. refl; extensions = λ m h. h; directives = λ m h. refl }) (extends_type n)
        (λ d. ap (λ o. option_map_or (λ m. bytes_eq n m) (option_map (λ (e : TypeParts (Unit {0})). e.name.it) o) false) (type_extension_unplaced d) ∙ named_blind n unplaced_parts (λ e. e.name.it) (λ e. e.name.it) (λ e. refl) (type_extension_here d));
    directives = λ n. agree n (λ s. option_map_or (λ m. bytes_eq n m) s.directive false) (record { types = λ m h. refl; extensions = λ m h. refl; directives = λ m h. h }) (defines_directive n)
        (λ d. ap (λ o. option_map_or (λ m. bytes_eq n m) (option_map (λ (x : DirectiveDefinitionTree (Unit {0})). x.name.it) o) false) (directive_unplaced d) ∙ named_blind n plain_directive_definition directive_name (λ x. x.name.it) (λ x. refl) (directive_here d));
    schemas = agree [] (λ s. s.schema) (record { types = λ m h. refl; extensions = λ m h. refl; directives = λ m h. refl }) defines_schema (λ d. ap is_some (schema_unplaced d) ∙ some_blind told (schema_here d));
    schema_extensions = agree [] (λ s. s.schema_extension) (record { types = λ m h. refl; extensions = λ m h. refl; directives = λ m h. refl }) is_schema_extension (λ d. ap is_some (schema_extension_unplaced d) ∙ some_blind unplaced_schema (schema_extension_here d));
    executables =
        any-filter is_executable unplaced_definition ds
        ∙ ap (λ l. is_some (slice_get l 0)) (agree [] (λ s. s.executable) (record { types = λ m h. refl; extensions = λ m h. refl; directives = λ m h. refl }) is_executable executable_unplaced)
        ∙ sym (any-filter is_executable unplaced_definition es);
  }
