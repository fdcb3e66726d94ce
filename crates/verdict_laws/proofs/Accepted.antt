-- Where no folding rule is broken no component is repeated, so all types are written unchanged.
use Rattle.std.proofs.Common.{◌≡◌, ℕ, Bool, true, false, List, [], ◌∷◌, ◌++◌, map, flat_map, Option, Some, None, refl, ap, subst, ◌∙◌, if◌then◌else◌, append_assoc, option_to_list, Contains}
use Rattle.graphql_names.specs.Placed.{Place}
use Rattle.schema_components.specs.Lists.{each_place_after, firsts, has_name, IsRepeated}
use Rattle.schema_components.specs.Given.{given_name}
use Rattle.schema_components.proofs.Places.{Contains-first, Contains-rest}
use Rattle.schema_types.specs.SchemaTree.{same_kind}
use Rattle.schema_types.specs.TypeParts.{TypeDefinition, type_here}
use Rattle.schema_types.specs.Out.{written_type}
use Rattle.schema_types.specs.declared.type_kind.TypeKind.{TypeKind}
use Rattle.schema_types.specs.declared.type_kind.TypeKind.TheVariants as kind
use Rattle.schema_fold.specs.NumberedDefinition.{Definitions, NumberedDefinition, numbered, type_name, types_in}
use Rattle.schema_fold.specs.Components.{components, parts_of, field_key, value_key, input_key}
use Rattle.schema_fold.specs.Fold.{folded_type, folded_types}
use Rattle.schema_fold.specs.Collected.{collected_from}
use Rattle.schema_fold.specs.Kept.{kept_from}
use Rattle.schema_fold.specs.Made.{IsOfKind, IsDefinition}
use Rattle.schema_fold.specs.BuildErrors.{FoldingRules, duplicate_implements_interface_in_object, duplicate_implements_interface_in_interface, object_field_name_collision, interface_field_name_collision, enum_value_name_collision, union_member_name_collision, input_field_name_collision}
use Rattle.schema_fold.proofs.OfKind.{folded_of_kind}
use Rattle.verdict_laws.specs.Whole.{whole_type}
use Rattle.verdict_laws.proofs.Order.{Each}
use Rattle.verdict_laws.proofs.Types.{HasNoRepeats, type_whole}

module _ {X : Type 0} (name : X → List ℕ) where
  abbrev here : List X → X → List X
  here before x = if has_name name (name x) before then [] else x ∷ []

  none_after : (before xs : List X) → ((x : X) → IsRepeated name (before ++ xs) x → ⊥) → each_place_after here before xs ≡ xs
  none_after before [] h = refl
  none_after before (x ∷ xs) h =
      ap (λ l. here before x ++ l) (none_after (before ++ x ∷ []) xs (λ y r. h y (subst (λ l. IsRepeated name l y) (append_assoc before (x ∷ []) xs) r))) ∙ by (has_name name (name x) before) refl
    where
      by : (b : Bool) → has_name name (name x) before ≡ b → (if b then [] else x ∷ []) ++ xs ≡ x ∷ xs
      by true e = absurd (h x (before, (x, ((xs, refl), (refl, e)))))
      by false e = refl

  pub none_repeated : (xs : List X) → ((x : X) → IsRepeated name xs x → ⊥) → firsts name xs ≡ xs
  none_repeated xs h = none_after [] xs h

  pub none_first : (xs : List X) → firsts name xs ≡ [] → firsts name xs ≡ xs
  none_first [] h = refl
  none_first (x ∷ xs) h = cc

  unkeyed : (xs : List X) → map {B = List ℕ × X} (λ x. (name x, x)) xs ≡ [] → xs ≡ []
  unkeyed [] h = refl
  unkeyed (x ∷ xs) h = cc

  pub none_keyed : (xs : List X) → map {B = List ℕ × X} (λ x. (name x, x)) (firsts name xs) ≡ [] → firsts name xs ≡ xs
  none_keyed xs h = none_first xs (unkeyed (firsts name xs) h)

  pub Each-firsts : (P : X → Type 0) (before xs : List X) → Each P xs → Each P (each_place_after here before xs)
  Each-firsts P before [] h = tt
  Each-firsts P before (x ∷ xs) h = by (has_name name (name x) before) (Each-firsts P (before ++ x ∷ []) xs h.1)
    where
      by : (b : Bool) → Each P (each_place_after here (before ++ x ∷ []) xs) → Each P ((if b then [] else x ∷ []) ++ each_place_after here (before ++ x ∷ []) xs)
      by true rest = rest
      by false rest = (h.0, rest)

Each-with : {X : Type 0} (P Q : X → Type 0) (xs : List X) → Each P xs → ((x : X) → Contains xs x → P x → Q x) → Each Q xs
Each-with P Q [] h f = tt
Each-with P Q (x ∷ xs) h f = (f x (Contains-first x xs x refl) h.0, Each-with P Q xs h.1 (λ y c p. f y (Contains-rest x xs y c) p))

pub types_defined : (ds : Definitions) → Each IsDefinition (types_in ds)
types_defined [] = tt
types_defined (d ∷ ds) = by (type_here d) refl (types_defined ds)
  where
    by : (o : Option (TypeDefinition Place)) → type_here d ≡ o → Each IsDefinition (types_in ds) → Each IsDefinition (option_to_list o ++ types_in ds)
    by None e rest = rest
    by (Some t) e rest = ((d, e), rest)

pub written_each : (first : ℕ) (ds : Definitions) (ts : List (TypeDefinition Place)) → Each (HasNoRepeats (numbered first ds)) ts → flat_map written_type (map (λ t. (type_name t, folded_type (numbered first ds) t)) ts) ≡ flat_map (whole_type ds) ts
written_each first ds [] h = refl
written_each first ds (t ∷ ts) h = λ i. type_whole first ds t h.0 (type_name t) i ++ written_each first ds ts h.1 i

module _ (built_in : Definitions) (first : ℕ) (texts : Definitions) (rules : FoldingRules built_in first texts) where
  abbrev ds : Definitions
  ds = built_in ++ texts

  abbrev defined : List (TypeDefinition Place)
  defined = firsts type_name (types_in ds)

  abbrev list : List NumberedDefinition
  list = numbered first ds

  by_kind : (k : TypeKind) (t : TypeDefinition Place) → t.parts.kind ≡ k → Contains defined t → IsOfKind k (kept_from (collected_from (parts_of list t))) → HasNoRepeats list t
  by_kind kind.Scalar t e c h = record {
    interfaces = none_first given_name (components (λ p. p.interfaces) list t) h.0;
    fields = none_keyed field_key (components (λ p. p.fields) list t) h.1;
    members = none_first given_name (components (λ p. p.members) list t) h.2;
    values = none_keyed value_key (components (λ p. p.values) list t) h.3;
    inputs = none_keyed input_key (components (λ p. p.inputs) list t) h.4;
  }
  by_kind kind.Object t e c h =
      let same : same_kind t.parts.kind kind.Object ≡ true = ap (λ k. same_kind k kind.Object) e in
      record {
        interfaces = none_repeated given_name (components (λ p. p.interfaces) list t) (λ g r. rules _ (duplicate_implements_interface_in_object (t, (g, (c, same, r, refl)))));
        fields = none_repeated field_key (components (λ p. p.fields) list t) (λ g r. rules _ (object_field_name_collision (t, (g, (c, same, r, refl)))));
        members = none_first given_name (components (λ p. p.members) list t) h.0;
        values = none_keyed value_key (components (λ p. p.values) list t) h.1;
        inputs = none_keyed input_key (components (λ p. p.inputs) list t) h.2;
      }
  by_kind kind.Interface t e c h =
      let same : same_kind t.parts.kind kind.Interface ≡ true = ap (λ k. same_kind k kind.Interface) e in
      record {
        interfaces = none_repeated given_name (components (λ p. p.interfaces) list t) (λ g r. rules _ (duplicate_implements_interface_in_interface (t, (g, (c, same, r, refl)))));
        fields = none_repeated field_key (components (λ p. p.fields) list t) (λ g r. rules _ (interface_field_name_collision (t, (g, (c, same, r, refl)))));
        members = none_first given_name (components (λ p. p.members) list t) h.0;
        values = none_keyed value_key (components (λ p. p.values) list t) h.1;
        inputs = none_keyed input_key (components (λ p. p.inputs) list t) h.2;
      }
  by_kind kind.Union t e c h =
      let same : same_kind t.parts.kind kind.Union ≡ true = ap (λ k. same_kind k kind.Union) e in
      record {
        interfaces = none_first given_name (components (λ p. p.interfaces) list t) h.0;
        fields = none_keyed field_key (components (λ p. p.fields) list t) h.1;
        members = none_repeated given_name (components (λ p. p.members) list t) (λ g r. rules _ (union_member_name_collision (t, (g, (c, same, r, refl)))));
        values = none_keyed value_key (components (λ p. p.values) list t) h.2;
        inputs = none_keyed input_key (components (λ p. p.inputs) list t) h.3;
      }
  by_kind kind.Enum t e c h =
      let same : same_kind t.parts.kind kind.Enum ≡ true = ap (λ k. same_kind k kind.Enum) e in
      record {
        interfaces = none_first given_name (components (λ p. p.interfaces) list t) h.0;
        fields = none_keyed field_key (components (λ p. p.fields) list t) h.1;
        members = none_first given_name (components (λ p. p.members) list t) h.2;
        values = none_repeated value_key (components (λ p. p.values) list t) (λ g r. rules _ (enum_value_name_collision (t, (g, (c, same, r, refl)))));
        inputs = none_keyed input_key (components (λ p. p.inputs) list t) h.3;
      }
  by_kind kind.InputObject t e c h =
      let same : same_kind t.parts.kind kind.InputObject ≡ true = ap (λ k. same_kind k kind.InputObject) e in
      record {
        interfaces = none_first given_name (components (λ p. p.interfaces) list t) h.0;
        fields = none_keyed field_key (components (λ p. p.fields) list t) h.1;
        members = none_first given_name (components (λ p. p.members) list t) h.2;
        values = none_keyed value_key (components (λ p. p.values) list t) h.3;
        inputs = none_repeated input_key (components (λ p. p.inputs) list t) (λ g r. rules _ (input_field_name_collision (t, (g, (c, same, r, refl)))));
      }

  pub all_no_repeats : Each (HasNoRepeats list) defined
  all_no_repeats =
      Each-with IsDefinition (HasNoRepeats list) defined (Each-firsts type_name IsDefinition [] (types_in ds) (types_defined ds))
      (λ t c is. by_kind t.parts.kind t refl c (folded_of_kind list is.0 t is.1))

  -- the types of an accepted list are written as they are in it
  pub types_whole : flat_map written_type (folded_types first ds) ≡ flat_map (whole_type ds) defined
  types_whole = written_each first ds defined all_no_repeats
