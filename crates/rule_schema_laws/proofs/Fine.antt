-- Definitions of texts that are read under other numbers than that of what is built in: no type in them is built in, and no enum
-- value is a keyword.
use Rattle.std.proofs.Common.{◌≡◌, ℕ, Bool, true, false, not, ◌&&◌, List, [], ◌∷◌, map, refl, sym, ap, subst, ◌∙◌, inl, inr, Option, None, Some, option_to_list, Contains, true≢false, if◌then◌else◌}
use Rattle.std.specs.List.{list_all, flat_map}
use Rattle.std.proofs.lemmas.Bool.{and_parts}
use Rattle.std.proofs.lemmas.Option.{same_Some}
use Rattle.std.proofs.lemmas.List.Elements.{Contains-append_right, Contains-append_cases}
use Rattle.graphql_names.specs.Placed.{Placed, Place}
use Rattle.graphql_names.specs.Places.{is_built_in}
use Rattle.tree_literals.specs.ValueWritable.{can_be_enum}
use Rattle.schema_fold.specs.in_components.Lists.{each_place, firsts, has_name}
use Rattle.schema_fold.specs.in_type_members.TypeSystemTree.{EnumValueTree}
use Rattle.schema_fold.specs.in_type_members.PartsWritable.{has_some, enum_value_writable, enum_values_writable, enum_writable}
use Rattle.schema_fold.specs.in_definitions.DefinitionTree.{DefinitionTree, Operation, Fragment, DirectiveDefinition, Schema, ScalarType, ObjectType, InterfaceType, UnionType, EnumType, InputObjectType, ExtendSchema, ExtendScalar, ExtendObject, ExtendInterface, ExtendUnion, ExtendEnum, ExtendInputObject}
use Rattle.schema_fold.specs.in_definitions.Writable.{definition_writable}
use Rattle.schema_fold.specs.in_schema_types.TypeParts.{TypeParts, TypeDefinition, type_here, type_extension_here, bare, definition_by}
use Rattle.schema_fold.specs.in_schema_types.declared.type_kind.TypeKind.{TypeKind}
use Rattle.schema_fold.specs.in_schema_types.declared.type_kind.TypeKind.TheVariants as kind
use Rattle.schema_fold.specs.NumberedDefinition.{Definitions}
use Rattle.schema_fold.specs.Adoption.{without_redefinitions, is_redefinition, parts_name, orphans, empty_type, with_types, with_schema, has_orphan_schema, empty_schema, settled}
use Rattle.round_trip.specs.in_read.EachPlace.{all_in_definition}
use Rattle.round_trip.specs.in_read.Sound.{is_own}
use Rattle.schema_types.proofs.in_components.Places.{found_at}
use Rattle.rule_cycle_search.proofs.Lists.{not_in_nil, Contains-cons, Contains-first, only}
use Rattle.rule_schema_laws.specs.ReadTexts.{Texts, AreReadElsewhere}
use Rattle.rule_schema_laws.proofs.Validated.{was_there, comes_from}

-- ---- lists

pub all_so : {X : Type 0} (test : X → Bool) (xs : List X) (x : X) → list_all test xs ≡ true → Contains xs x → test x ≡ true
all_so test [] x h c = not_in_nil x c
all_so test (y ∷ xs) x h c =
    let (first, rest) = and_parts (test y) (list_all test xs) h in
    elim (Contains-cons y xs x c) [ inl e ↦ ap test (sym e) ∙ first | inr r ↦ all_so test xs x rest r ]

pub here_is : {X : Type 0} (o : Option X) (x : X) → Contains (option_to_list o) x → o ≡ Some x
here_is None x c = not_in_nil x c
here_is (Some y) x c = ap Some (sym (only y x c))

-- what is at some place of a list comes from an element
module _ {X Y : Type 0} (f : List X → X → List Y) where
  pub from_place : (xs : List X) (y : Y) → Contains (each_place f xs) y → (before : List X) × ((x : X) × (Contains xs x × Contains (f before x) y))
  from_place xs y c =
      let (before, (x, ((after, is), given))) = found_at f xs y c in
      (before, (x, (subst (λ l. Contains l x) (sym is) (Contains-append_right before (x ∷ after) x (Contains-first x after x refl)), given)))

pub from_firsts : {X : Type 0} (key : X → List ℕ) (xs : List X) (x : X) → Contains (firsts key xs) x → Contains xs x
from_firsts {X} key xs x c =
    let (before, (y, (there, given))) = from_place _ xs x c in
    by (has_name key (key y) before) y there given
  where
    by : (b : Bool) (y : X) → Contains xs y → Contains (if b then [] else y ∷ []) x → Contains xs x
    by true y there given = not_in_nil x given
    by false y there given = subst (Contains xs) (sym (only y x given)) there

-- ---- definitions

-- the values are EnumValues
abbrev pub AreValues : TypeParts Place → Type 0
AreValues p = (v : Placed Place (EnumValueTree Place)) → Contains p.values v → can_be_enum v.it.value.it ≡ true

-- what is asked of a definition: a type that it defines is not built in, and enum values in it are EnumValues
pub record IsFine (d : DefinitionTree Place) : Type 0 where
  pub own : (t : TypeDefinition Place) → type_here d ≡ Some t → is_built_in t.place ≡ false
  pub values : (t : TypeDefinition Place) → type_here d ≡ Some t → AreValues t.parts
  pub extending : (e : TypeParts Place) → type_extension_here d ≡ Some e → AreValues e

not_true : (b : Bool) → not b ≡ true → b ≡ false
not_true true h = absurd (true≢false (sym h))
not_true false h = refl

own_first : (a b c : Bool) → (a && b && c) ≡ true → a ≡ true
own_first true b c h = refl
own_first false b c h = h

values_so : (vs : List (Placed Place (EnumValueTree Place))) → enum_values_writable vs ≡ true → (v : Placed Place (EnumValueTree Place)) → Contains vs v → can_be_enum v.it.value.it ≡ true
values_so vs w v c = (and_parts (can_be_enum v.it.value.it) _ (all_so (λ x. enum_value_writable x.it) vs v w c)).0

place_of : {d t : TypeDefinition Place} → Some d ≡ Some t → d.place ≡ t.place
place_of {d} {t} e = ap (λ (x : TypeDefinition Place). x.place) (same_Some d t e)

values_of : {d t : TypeDefinition Place} → Some d ≡ Some t → d.parts.values ≡ t.parts.values
values_of {d} {t} e = ap (λ (x : TypeDefinition Place). x.parts.values) (same_Some d t e)

given_of : {d t : TypeParts Place} → Some d ≡ Some t → d.values ≡ t.values
given_of {d} {t} e = ap (λ (x : TypeParts Place). x.values) (same_Some d t e)

-- of a definition at its own place, with these values
defines_fine : (d : DefinitionTree Place) (x : TypeDefinition Place) → type_here d ≡ Some x → type_extension_here d ≡ None → is_built_in x.place ≡ false → AreValues x.parts → IsFine d
defines_fine d x here extends own values = record {
  own = λ t e. ap is_built_in (sym (place_of (sym here ∙ e))) ∙ own;
  values = λ t e v c. values v (subst (λ l. Contains l v) (sym (values_of (sym here ∙ e))) c);
  extending = λ p e. cc (extends, e);
}

extends_fine : (d : DefinitionTree Place) (x : TypeParts Place) → type_here d ≡ None → type_extension_here d ≡ Some x → AreValues x → IsFine d
extends_fine d x defines here values = record {
  own = λ t e. cc (defines, e);
  values = λ t e. cc (defines, e);
  extending = λ p e v c. values v (subst (λ l. Contains l v) (sym (given_of (sym here ∙ e))) c);
}

other_fine : (d : DefinitionTree Place) → type_here d ≡ None → type_extension_here d ≡ None → IsFine d
other_fine d defines extends = record { own = λ t e. cc (defines, e); values = λ t e. cc (defines, e); extending = λ p e. cc (extends, e) }

no_values : (v : Placed Place (EnumValueTree Place)) → Contains [] v → can_be_enum v.it.value.it ≡ true
no_values v c = not_in_nil v c

-- a definition of a text that is sound is fine
is_fine : (d : DefinitionTree Place) → all_in_definition is_own d ≡ true → definition_writable d ≡ true → IsFine d
is_fine (Operation p o) own w = other_fine (Operation p o) refl refl
is_fine (Fragment p f) own w = other_fine (Fragment p f) refl refl
is_fine (DirectiveDefinition p x) own w = other_fine (DirectiveDefinition p x) refl refl
is_fine (Schema p x t) own w = other_fine (Schema p x t) refl refl
is_fine (ScalarType p x t) own w = defines_fine (ScalarType p x t) _ refl refl (not_true (is_built_in p) (own_first (is_own p) _ _ own)) no_values
is_fine (ObjectType p x t) own w = defines_fine (ObjectType p x t) _ refl refl (not_true (is_built_in p) (own_first (is_own p) _ _ own)) no_values
is_fine (InterfaceType p x t) own w = defines_fine (InterfaceType p x t) _ refl refl (not_true (is_built_in p) (own_first (is_own p) _ _ own)) no_values
is_fine (UnionType p x t) own w = defines_fine (UnionType p x t) _ refl refl (not_true (is_built_in p) (own_first (is_own p) _ _ own)) no_values
is_fine (EnumType p x t) own w = defines_fine (EnumType p x t) _ refl refl (not_true (is_built_in p) (own_first (is_own p) _ _ own)) (values_so t.values (and_parts _ (enum_values_writable t.values) w).1)
is_fine (InputObjectType p x t) own w = defines_fine (InputObjectType p x t) _ refl refl (not_true (is_built_in p) (own_first (is_own p) _ _ own)) no_values
is_fine (ExtendSchema p t) own w = other_fine (ExtendSchema p t) refl refl
is_fine (ExtendScalar p t) own w = extends_fine (ExtendScalar p t) _ refl refl no_values
is_fine (ExtendObject p t) own w = extends_fine (ExtendObject p t) _ refl refl no_values
is_fine (ExtendInterface p t) own w = extends_fine (ExtendInterface p t) _ refl refl no_values
is_fine (ExtendUnion p t) own w = extends_fine (ExtendUnion p t) _ refl refl no_values
is_fine (ExtendEnum p t) own w = extends_fine (ExtendEnum p t) _ refl refl (values_so t.values (and_parts _ (enum_values_writable t.values) (and_parts (enum_writable t) _ w).0).1)
is_fine (ExtendInputObject p t) own w = extends_fine (ExtendInputObject p t) _ refl refl no_values

-- and so is what a builder adopts
adopted_fine : (k : TypeKind) (e : TypeParts Place) → IsFine (definition_by k None None (bare k e.name []))
adopted_fine kind.Scalar e = defines_fine _ _ refl refl refl no_values
adopted_fine kind.Object e = defines_fine _ _ refl refl refl no_values
adopted_fine kind.Interface e = defines_fine _ _ refl refl refl no_values
adopted_fine kind.Union e = defines_fine _ _ refl refl refl no_values
adopted_fine kind.Enum e = defines_fine _ _ refl refl refl no_values
adopted_fine kind.InputObject e = defines_fine _ _ refl refl refl no_values

abbrev pub AreFine : Definitions → Type 0
AreFine ds = (d : DefinitionTree Place) → Contains ds d → IsFine d

with_types_fine : (built : Definitions) (ds : Definitions) → AreFine ds → AreFine (with_types built ds)
with_types_fine built ds fine d c = elim (Contains-append_cases ds (map (empty_type built) (firsts (parts_name built) (orphans built ds))) d c) [
  | inl was ↦ fine d was
  | inr made ↦ let (e, (there, is)) = comes_from (empty_type built) (firsts (parts_name built) (orphans built ds)) d made in subst IsFine is (adopted_fine e.kind e)
]

with_schema_fine : (built : Definitions) (ds : Definitions) → AreFine ds → AreFine (with_schema built ds)
with_schema_fine built ds fine d c = elim (Contains-append_cases ds (if has_orphan_schema built ds then empty_schema built ∷ [] else []) d c) [
  | inl was ↦ fine d was
  | inr made ↦ by (has_orphan_schema built ds) made
]
  where
    by : (b : Bool) → Contains (if b then empty_schema built ∷ [] else []) d → IsFine d
    by true c = subst IsFine (sym (only (empty_schema built) d c)) (other_fine (empty_schema built) refl refl)
    by false c = not_in_nil d c

left_fine : (built : Definitions) (ds : Definitions) → AreFine ds → AreFine (without_redefinitions built ds)
left_fine built ds fine d c = fine d (was_there (λ x. not (is_redefinition built x)) ds d c)

pub settled_fine : (built : Definitions) (adopts ignores : Bool) (ds : Definitions) → AreFine ds → AreFine (settled built (record { adopts = adopts; ignores = ignores }) ds)
settled_fine built true true ds fine = with_schema_fine built _ (with_types_fine built _ (left_fine built ds fine))
settled_fine built true false ds fine = with_schema_fine built _ (with_types_fine built ds fine)
settled_fine built false true ds fine = left_fine built ds fine
settled_fine built false false ds fine = fine

pub texts_fine : (texts : Texts) → AreReadElsewhere texts → AreFine (flat_map (λ t. t.1) texts)
texts_fine [] read d c = not_in_nil d c
texts_fine ((file, ds) ∷ texts) ((other, sound), read) d c = elim (Contains-append_cases ds (flat_map (λ t. t.1) texts) d c) [
  | inl here ↦ is_fine d (all_so (all_in_definition is_own) ds d (sound.own other) here) (all_so definition_writable ds d (and_parts (has_some ds) (list_all definition_writable ds) sound.writable).1 here)
  | inr there ↦ texts_fine texts read d there
]
