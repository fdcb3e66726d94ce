-- What rules read of a schema, by the entries of its tree.
use Rattle.std.proofs.Common.{◌≡◌, ℕ, Bool, true, false, cond, List, [], ◌∷◌, map, find, bytes_eq, is_none, Option, None, Some, option_map, refl, sym, ap, subst, ◌∙◌, ◌↔◌, if◌then◌else◌}
use Rattle.std.specs.Bool.{Decides}
use Rattle.std.specs.Cmp.Lexicographic.{nat_list_cmp_total, texts_ties}
use Rattle.std.specs.FinMap as fin
use Rattle.graphql_names.specs.Placed.{Placed, Place}
use Rattle.graphql_names.specs.Places.{is_built_in}
use Rattle.tree_literals.specs.TypeTree.{TypeTree, NamedTree, NonNullNamedTree, ListTree, NonNullListTree, unplaced_type}
use Rattle.tree_literals.specs.TypeQueries.{inner_name, item_type_of, has_mark, is_list_type}
use Rattle.tree_directives.specs.DirectiveTree.{InputValueTree, unplaced_input_value}
use Rattle.tree_type_members.specs.TypeSystemTree.{unplaced_enum_value}
use Rattle.schema_components.specs.Names.{Entries, by_bytes, named}
use Rattle.schema_components.specs.Given.{Given, plain_given}
use Rattle.graphql_schema.specs.in_schema_types.SchemaTree.{SchemaType, SchemaTree, same_kind}
use Rattle.graphql_schema.specs.in_schema_types.Plain.{plain_type}
use Rattle.graphql_schema.specs.in_schema_types.Looks.{TypeLooks, type_looks}
use Rattle.graphql_schema.specs.in_schema_types.Addresses.{under, type_at, input_at, place_at, or_nothing, TypeAt, InputAt, TypeReferenceAt}
use Rattle.graphql_schema.specs.in_schema_types.declared.type_kind.TypeKind.{TypeKind}
use Rattle.graphql_schema.specs.in_schema_types.declared.type_kind.TypeKind.TheVariants.{Scalar, Object, Interface, Union, Enum, InputObject}
use Rattle.fault_data.specs.in_rule_definitions.Words.{Present}
use Rattle.fault_data.specs.in_rule_definitions.Judged.{judged}
use Rattle.rule_values.proofs.Tells.{no_true}
use Rattle.schema_types.proofs.UnderNames.{get_under}

-- ---- kinds

kinds_same : (a b : TypeKind) → same_kind a b ≡ true → a ≡ b
kinds_same Scalar Scalar h = refl
kinds_same Object Object h = refl
kinds_same Interface Interface h = refl
kinds_same Union Union h = refl
kinds_same Enum Enum h = refl
kinds_same InputObject InputObject h = refl
kinds_same _ _ h = cc

same_itself : (a : TypeKind) → same_kind a a ≡ true
same_itself Scalar = refl
same_itself Object = refl
same_itself Interface = refl
same_itself Union = refl
same_itself Enum = refl
same_itself InputObject = refl

pub kind_decides : (a b : TypeKind) → Decides (same_kind a b) (a ≡ b)
kind_decides a b = (kinds_same a b, λ e. ap (same_kind a) (sym e) ∙ same_itself a)

-- ---- references to types

pub inner_unplaced : (ty : TypeTree Place) → (inner_name (unplaced_type ty)).it ≡ (inner_name ty).it
inner_unplaced (NamedTree n) = refl
inner_unplaced (NonNullNamedTree n) = refl
inner_unplaced (ListTree t) = inner_unplaced t
inner_unplaced (NonNullListTree t) = inner_unplaced t

pub item_unplaced : (ty : TypeTree Place) → item_type_of (unplaced_type ty) ≡ unplaced_type (item_type_of ty)
item_unplaced (NamedTree n) = refl
item_unplaced (NonNullNamedTree n) = refl
item_unplaced (ListTree t) = refl
item_unplaced (NonNullListTree t) = refl

pub mark_unplaced : (ty : TypeTree Place) → has_mark (unplaced_type ty) ≡ has_mark ty
mark_unplaced (NamedTree n) = refl
mark_unplaced (NonNullNamedTree n) = refl
mark_unplaced (ListTree t) = refl
mark_unplaced (NonNullListTree t) = refl

pub list_unplaced : (ty : TypeTree Place) → is_list_type (unplaced_type ty) ≡ is_list_type ty
list_unplaced (NamedTree n) = refl
list_unplaced (NonNullNamedTree n) = refl
list_unplaced (ListTree t) = refl
list_unplaced (NonNullListTree t) = refl

-- ---- entries by name

module _ (t : SchemaType Place) (k : List ℕ) where
  pub input_under : (type_looks (plain_type t)).input k ≡ option_map (plain_given unplaced_input_value) (under k t.inputs)
  input_under = get_under (plain_given unplaced_input_value) k t.inputs

  none_decides : {V W : Type 0} (u : V → W) (o : Option V) (p : Option W) → p ≡ option_map u o → Decides (is_none o) (p ≡ None)
  none_decides u None p e = (λ h. e, λ r. refl)
  none_decides u (Some x) p e = (λ h. no_true h, λ r. let away : option_map u (Some x) ≡ None = sym e ∙ r in cc)

  pub no_input_decides : Decides (is_none (under k t.inputs)) ((type_looks (plain_type t)).input k ≡ None)
  no_input_decides = none_decides (plain_given unplaced_input_value) (under k t.inputs) ((type_looks (plain_type t)).input k) input_under

  pub no_value_decides : Decides (is_none (under k t.values)) ((type_looks (plain_type t)).value k ≡ None)
  no_value_decides = none_decides (plain_given unplaced_enum_value) (under k t.values) ((type_looks (plain_type t)).value k) (get_under (plain_given unplaced_enum_value) k t.values)

module _ (s : SchemaTree Place) (n : List ℕ) where
  type_under : (judged s).type_named n ≡ option_map type_looks (option_map plain_type (type_at s n))
  type_under = ap (option_map type_looks) (get_under plain_type n s.types)

  -- the type is not there
  pub type_absent : {P : TypeLooks → Type 0} → type_at s n ≡ None → Present ((judged s).type_named n) P → ⊥
  type_absent none (t, (e, p)) =
      let away : None ≡ Some t = sym (type_under ∙ ap (λ o. option_map type_looks (option_map plain_type o)) none) ∙ e in
      cc

  module _ (t : SchemaType Place) (there : type_at s n ≡ Some t) where
    type_there : (judged s).type_named n ≡ Some (type_looks (plain_type t))
    type_there = type_under ∙ ap (λ o. option_map type_looks (option_map plain_type o)) there

    -- of the type that is there
    pub type_present : (P : TypeLooks → Type 0) → P (type_looks (plain_type t)) ↔ Present ((judged s).type_named n) P
    type_present P = (
      λ p. (type_looks (plain_type t), (type_there, p)),
      λ q. let same : q.0 ≡ type_looks (plain_type t) = by q.0 (sym type_there ∙ q.1.0) in subst P same q.1.1,
    )
      where
        by : (u : TypeLooks) → Some (type_looks (plain_type t)) ≡ Some u → u ≡ type_looks (plain_type t)
        by u e = cc

    -- the place of the type, of a field, and of the reference to a field's type
    pub place_of_type : place_at s (TypeAt n) ≡ t.place
    place_of_type = ap (λ o. or_nothing (option_map (λ x. x.place) o)) there

    -- the mark of the type
    pub mark_of_type : (judged s).built_in (TypeAt n) ≡ is_built_in t.place
    mark_of_type = ap is_built_in place_of_type

    module _ (m : List ℕ) (f : Given Place (Placed Place (InputValueTree Place))) (has : under m t.inputs ≡ Some f) where
      input_there : input_at s n m ≡ Some f.it
      input_there = ap (λ o. or_nothing (option_map (λ x. option_map (λ g. g.it) (under m x.inputs)) o)) there ∙ ap (λ o. or_nothing (Some (option_map (λ g. g.it) o))) has

      pub place_of_input : place_at s (InputAt n m) ≡ f.it.place
      place_of_input = ap (λ o. or_nothing (option_map (λ x. x.place) o)) input_there

      pub place_of_reference : place_at s (TypeReferenceAt (InputAt n m)) ≡ f.it.it.ty.place
      place_of_reference = ap (λ o. or_nothing (option_map (λ x. x.it.ty.place) o)) input_there
