-- Lemmas on what a list defines.
use Rattle.std.proofs.Common.{◌≡◌, ℕ, Bool, true, false, ◌||◌, List, [], ◌∷◌, ◌++◌, map, Option, None, Some, refl, sym, ap, ◌∙◌, cond, is_some, option_to_list, slice_get}
use Rattle.std.specs.List.{flat_map, find}
use Rattle.std.specs.Map.{lookup}
use Rattle.std.specs.Option.{option_map, option_map_or, option_or}
use Rattle.std.specs.Str.{bytes_eq}
use Rattle.std.proofs.lemmas.List.{append-nil}
use Rattle.std.proofs.lemmas.List.Folds.{find-append}
use Rattle.std.proofs.lemmas.Grind.{flat_map-append}
use Rattle.graphql_names.specs.NameValue.{NameValue}
use Rattle.graphql_names.specs.Placed.{Place}
use Rattle.schema_fold_index.specs.in_operations.OperationQueries.{default_root_name}
use Rattle.tree_operations.specs.in_directives.declared.operation_type.OperationType.{OperationType}
use Rattle.tree_operations.specs.in_directives.declared.operation_type.OperationType.TheVariants as operation
use Rattle.schema_fold_index.specs.in_definitions.DefinitionTree.{DefinitionTree}
use Rattle.schema_fold_index.specs.in_components.Lists.{firsts, has_name}
use Rattle.schema_fold_index.specs.in_components.Names.{Entries}
use Rattle.schema_fold_index.proofs.in_components.Firsts.{kept_seen, kept_new}
use Rattle.schema_fold_index.specs.in_schema_types.SchemaTree.{same_kind}
use Rattle.schema_fold_index.specs.in_schema_types.TypeParts.{TypeDefinition, type_here}
use Rattle.schema_fold_index.specs.in_schema_types.declared.type_kind.TypeKind.{TypeKind}
use Rattle.schema_fold_index.specs.in_schema_types.declared.type_kind.TypeKind.TheVariants.{Scalar, Object}
use Rattle.schema_fold_index.specs.in_fold.NumberedDefinition.{Definitions, type_name, types_in, type_named}
use Rattle.schema_fold_index.specs.in_fold.SchemaFold.{Root, SchemaGiver, schema_here, schema_definition_in, is_object_in, schema_is_defined}
use Rattle.schema_fold_index.specs.in_fold.BuildErrors.{is_built_in_scalar}
use Rattle.schema_fold_index.proofs.Listing.{flat_map-push}
use Rattle.schema_fold_types.proofs.Named.{named, some_named, find_firsts}
use Rattle.schema_fold_types.specs.DefinedKinds.{DefinedKinds, first_kinds, seen_of, Sees, SeesType, kind_in, is_scalar_in, kind_seen, root_seen, schema_seen}

abbrev Type_ : Type 0
Type_ = TypeDefinition Place

abbrev kind_of : Type_ → TypeKind
kind_of t = t.parts.kind

abbrev types : DefinitionTree Place → List Type_
types d = option_to_list (type_here d)

abbrev schemas : DefinitionTree Place → List SchemaGiver
schemas d = option_to_list (schema_here d)

-- ---- one definition more

some_append : {A : Type 0} (xs ys : List A) → is_some (slice_get (xs ++ ys) 0) ≡ (is_some (slice_get xs 0) || is_some (slice_get ys 0))
some_append [] ys = refl
some_append (x ∷ xs) ys = refl

some_option : {A : Type 0} (o : Option A) → is_some (slice_get (option_to_list o) 0) ≡ is_some o
some_option None = refl
some_option (Some a) = refl

pub schema_more : (before : Definitions) (d : DefinitionTree Place) → is_some (schema_definition_in (before ++ d ∷ [])) ≡ (is_some (schema_definition_in before) || is_some (schema_here d))
schema_more before d =
    ap (λ l. is_some (slice_get l 0)) (flat_map-push schemas before d) ∙ some_append (flat_map schemas before) (schemas d)
    ∙ ap (λ b. is_some (schema_definition_in before) || b) (some_option (schema_here d))

types_more : (before : Definitions) (d : DefinitionTree Place) (o : Option Type_) → type_here d ≡ o → types_in (before ++ d ∷ []) ≡ types_in before ++ option_to_list o
types_more before d o e = flat_map-push types before d ∙ ap (λ p. types_in before ++ option_to_list p) e

module _ (old new : DefinedKinds) (d : DefinitionTree Place) (schema : new.schema ≡ (old.schema || is_some (schema_here d))) where
  sees : (before : Definitions) → old ≡ seen_of before → new.kinds ≡ first_kinds (types_in (before ++ d ∷ [])) → new ≡ seen_of (before ++ d ∷ [])
  sees before is kinds = λ i. record { kinds = kinds i; schema = (schema ∙ ap (λ s. s.schema || is_some (schema_here d)) is ∙ sym (schema_more before d)) i }

  -- no type is defined here
  pub sees_none : type_here d ≡ None → new.kinds ≡ old.kinds → Sees old d new
  sees_none none same before is = sees before is (same ∙ ap (λ s. s.kinds) is ∙ ap first_kinds (sym (types_more before d None none ∙ append-nil (types_in before))))

  -- a type is defined here
  pub sees_some : (t : Type_) → type_here d ≡ Some t → SeesType old.kinds (type_name t) t.parts.kind new.kinds → Sees old d new
  sees_some t some step before is = sees before is (step (types_in before) t refl refl (ap (λ s. s.kinds) is) ∙ ap first_kinds (sym (types_more before d (Some t) some)))

-- ---- the kind of a type more

abbrev pub kind_entry : NameValue × TypeKind → List ℕ × TypeKind
kind_entry e = (e.0.text, e.1)

abbrev entry_key : List ℕ × TypeKind → List ℕ
entry_key w = w.0

abbrev made : Type_ → List ℕ × TypeKind
made t = (type_name t, t.parts.kind)

module _ (es : List (NameValue × TypeKind)) (name : List ℕ) (kind : TypeKind) where
  abbrev found : List ℕ → Bool
  found n = is_some (lookup (λ k. bytes_eq n k.text) es)

  pub type_seen : found name ≡ true → SeesType (map kind_entry es) name kind (map kind_entry es)
  type_seen there before t same_name same_kind is = kept_seen type_name kind_entry made entry_key (λ e. refl) (λ y. refl) es before t is (ap found same_name ∙ there)

  pub type_new : (new : Entries TypeKind) → found name ≡ false → new ≡ map kind_entry es ++ (name, kind) ∷ [] → SeesType (map kind_entry es) name kind new
  type_new new absent added before t same_name same_kind is =
      kept_new type_name kind_entry made entry_key (λ e. refl) (λ y. refl) es before t new is (ap found same_name ∙ absent)
      (added ∙ (λ i. map kind_entry es ++ (sym same_name i, sym same_kind i) ∷ []))

pub is_absent : {A : Type 0} (o : Option A) → is_some o ≡ false → o ≡ None
is_absent None e = refl
is_absent (Some a) e = cc

-- what a lookup in the map answers
pub lookup_entry : (n : List ℕ) (es : List (NameValue × TypeKind)) → lookup (bytes_eq n) (map kind_entry es) ≡ lookup (λ k. bytes_eq n k.text) es
lookup_entry n [] = refl
lookup_entry n (e ∷ es) = ap (λ o. cond (bytes_eq n e.0.text) (Some e.1) o) (lookup_entry n es)

-- ---- what is asked

lookup_made : (n : List ℕ) (ts : List Type_) → lookup (bytes_eq n) (map made ts) ≡ option_map kind_of (find (named type_name n) ts)
lookup_made n [] = refl
lookup_made n (t ∷ ts) = by (named type_name n t) (lookup_made n ts)
  where
    by : (b : Bool) → lookup (bytes_eq n) (map made ts) ≡ option_map kind_of (find (named type_name n) ts)
        → cond b (Some (kind_of t)) (lookup (bytes_eq n) (map made ts)) ≡ option_map kind_of (cond b (Some t) (find (named type_name n) ts))
    by true rest = refl
    by false rest = rest

pub kind_in_is : (ds : Definitions) (n : List ℕ) → kind_in (seen_of ds) n ≡ option_map kind_of (type_named n ds)
kind_in_is ds n = lookup_made n (firsts type_name (types_in ds)) ∙ ap (option_map kind_of) (find_firsts type_name n (types_in ds))

map_or : (o p : Option Type_) → option_or (option_map kind_of o) (option_map kind_of p) ≡ option_map kind_of (option_or o p)
map_or None p = refl
map_or (Some t) p = refl

pub some_map : (o : Option Type_) → is_some (option_map kind_of o) ≡ is_some o
some_map None = refl
some_map (Some t) = refl

is_kind : (kind : TypeKind) (o : Option Type_) → option_map_or (λ k. same_kind k kind) (option_map kind_of o) false ≡ option_map_or (λ t. same_kind t.parts.kind kind) o false
is_kind kind None = refl
is_kind kind (Some t) = refl

module _ (built_in texts : Definitions) where
  pub is_scalar_is : (n : List ℕ) → is_scalar_in (seen_of built_in) n ≡ is_built_in_scalar built_in texts n
  is_scalar_is n = ap (λ o. option_map_or (λ k. same_kind k Scalar) o false) (kind_in_is built_in n) ∙ is_kind Scalar (type_named n built_in)

  named_append : (n : List ℕ) → type_named n (built_in ++ texts) ≡ option_or (type_named n built_in) (type_named n texts)
  named_append n = ap (find (named type_name n)) (flat_map-append types built_in texts) ∙ find-append (named type_name n) (types_in built_in) (types_in texts)

  pub kind_seen_is : (n : List ℕ) → kind_seen (seen_of built_in) (seen_of texts) n ≡ option_map kind_of (type_named n (built_in ++ texts))
  kind_seen_is n =
      (λ i. option_or (kind_in_is built_in n i) (kind_in_is texts n i)) ∙ map_or (type_named n built_in) (type_named n texts)
      ∙ ap (option_map kind_of) (sym (named_append n))

  pub some_seen_is : (n : List ℕ) → is_some (kind_seen (seen_of built_in) (seen_of texts) n) ≡ has_name type_name n (types_in (built_in ++ texts))
  some_seen_is n = ap is_some (kind_seen_is n) ∙ some_map (type_named n (built_in ++ texts)) ∙ some_named type_name n (types_in (built_in ++ texts))

  root_seen_is : (op : OperationType) → root_seen (seen_of built_in) (seen_of texts) op ≡ is_object_in (built_in ++ texts) (default_root_name op)
  root_seen_is op =
      ap (λ o. option_map_or (λ k. same_kind k Object) o false) (kind_seen_is (default_root_name op)) ∙ is_kind Object (type_named (default_root_name op) (built_in ++ texts))

  schema_append : is_some (schema_definition_in (built_in ++ texts)) ≡ (is_some (schema_definition_in built_in) || is_some (schema_definition_in texts))
  schema_append = ap (λ l. is_some (slice_get l 0)) (flat_map-append schemas built_in texts) ∙ some_append (flat_map schemas built_in) (flat_map schemas texts)

  some_root : (a b c : Bool) (r s t : Root) → is_some (slice_get (cond a (r ∷ []) [] ++ (cond b (s ∷ []) [] ++ cond c (t ∷ []) [])) 0) ≡ (a || (b || c))
  some_root true b c r s t = refl
  some_root false true c r s t = refl
  some_root false false true r s t = refl
  some_root false false false r s t = refl

  abbrev root : OperationType → Root
  root op = record { it = record { operation_type = op; name = record { it = default_root_name op; place = None } }; place = None }

  abbrev object : OperationType → Bool
  object op = is_object_in (built_in ++ texts) (default_root_name op)

  pub schema_seen_is : schema_seen (seen_of built_in) (seen_of texts) ≡ schema_is_defined (built_in ++ texts)
  schema_seen_is =
      (λ i. sym schema_append i || (root_seen_is operation.Query i || (root_seen_is operation.Mutation i || root_seen_is operation.Subscription i)))
      ∙ ap (λ b. is_some (schema_definition_in (built_in ++ texts)) || b) (sym (some_root (object operation.Query) (object operation.Mutation) (object operation.Subscription) (root operation.Query) (root operation.Mutation) (root operation.Subscription)))
