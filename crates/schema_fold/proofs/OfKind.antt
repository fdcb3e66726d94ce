-- A type has no components of the classes that its kind has not.
use Rattle.std.proofs.Common.{◌≡◌, Bool, true, false, List, [], ◌∷◌, ◌++◌, Option, None, Some, refl, sym, ap, subst, ◌∙◌, if◌then◌else◌}
use Rattle.std.specs.List.{flat_map}
use Rattle.std.specs.Option.{option_map_or}
use Rattle.std.specs.Cmp.{second_so}
use Rattle.std.specs.Str.{bytes_eq}
use Rattle.std.proofs.lemmas.List.{append-nil}
use Rattle.std.proofs.lemmas.Grind.{flat_map-append}
use Rattle.std.proofs.lemmas.Option.{same_Some}
use Rattle.graphql_names.specs.Placed.{Place}
use Rattle.tree_definitions.specs.DefinitionTree as tree
use Rattle.tree_definitions.specs.DefinitionTree.{DefinitionTree}
use Rattle.schema_types.specs.in_components.Lists.{firsts}
use Rattle.schema_types.specs.in_components.Given.{ExtensionTree, given_name}
use Rattle.schema_types.specs.SchemaTree.{same_kind}
use Rattle.schema_types.specs.TypeParts.{TypeParts, TypeDefinition, type_here, type_extension_here, scalar, with_fields, union, enum, input_object}
use Rattle.schema_types.specs.declared.type_kind.TypeKind.{TypeKind}
use Rattle.schema_types.specs.declared.type_kind.TypeKind.TheVariants.{Scalar, Object, Interface, Union, Enum, InputObject}
use Rattle.schema_fold.specs.NumberedDefinition.{NumberedDefinition}
use Rattle.schema_fold.specs.Components.{all_given, go_together, extension_here, parts_of, keyed_firsts, field_key, value_key, input_key}
use Rattle.schema_fold.specs.Collected.{class_from, collected_from}
use Rattle.schema_fold.specs.Kept.{kept_from}
use Rattle.schema_fold.specs.Made.{IsOfKind}

abbrev Parts : Type 0
Parts = TypeParts Place

-- what parts of a kind have not
abbrev HasOnly : TypeKind → Parts → Type 0
HasOnly Scalar p = (p.interfaces ≡ []) × (p.fields ≡ []) × (p.members ≡ []) × (p.values ≡ []) × (p.inputs ≡ [])
HasOnly Object p = (p.members ≡ []) × (p.values ≡ []) × (p.inputs ≡ [])
HasOnly Interface p = (p.members ≡ []) × (p.values ≡ []) × (p.inputs ≡ [])
HasOnly Union p = (p.interfaces ≡ []) × (p.fields ≡ []) × (p.values ≡ []) × (p.inputs ≡ [])
HasOnly Enum p = (p.interfaces ≡ []) × (p.fields ≡ []) × (p.members ≡ []) × (p.inputs ≡ [])
HasOnly InputObject p = (p.interfaces ≡ []) × (p.fields ≡ []) × (p.members ≡ []) × (p.values ≡ [])

abbrev IsOwn : Parts → Type 0
IsOwn p = HasOnly p.kind p

extension_has : (d : DefinitionTree Place) (p : Parts) → type_extension_here d ≡ Some p → HasOnly p.kind p
extension_has (tree.ExtendScalar q t) p e = subst IsOwn (same_Some _ _ e) (refl, refl, refl, refl, refl)
extension_has (tree.ExtendObject q t) p e = subst IsOwn (same_Some _ _ e) (refl, refl, refl)
extension_has (tree.ExtendInterface q t) p e = subst IsOwn (same_Some _ _ e) (refl, refl, refl)
extension_has (tree.ExtendUnion q t) p e = subst IsOwn (same_Some _ _ e) (refl, refl, refl, refl)
extension_has (tree.ExtendEnum q t) p e = subst IsOwn (same_Some _ _ e) (refl, refl, refl, refl)
extension_has (tree.ExtendInputObject q t) p e = subst IsOwn (same_Some _ _ e) (refl, refl, refl, refl)
extension_has _ p e = cc

kinds_same : (a b : TypeKind) → same_kind a b ≡ true → a ≡ b
kinds_same Scalar Scalar h = refl
kinds_same Object Object h = refl
kinds_same Interface Interface h = refl
kinds_same Union Union h = refl
kinds_same Enum Enum h = refl
kinds_same InputObject InputObject h = refl
kinds_same _ _ h = cc

module _ {A : Type 0} (of : Parts → List A) (defined : Parts) where
  -- the extensions that go together with it give nothing of the class
  abbrev GivesNone : Type 0
  GivesNone = (p : Parts) → HasOnly p.kind p → same_kind defined.kind p.kind ≡ true → of p ≡ []

  none_here : GivesNone → (e : Option (ExtensionTree Place)) (o : Option Parts) → ((p : Parts) → o ≡ Some p → HasOnly p.kind p)
      → class_from of (option_map_or (λ parts. if go_together defined parts then record { extension = e; it = parts } ∷ [] else []) o []) ≡ []
  none_here none e None has = refl
  none_here none e (Some p) has = by (go_together defined p) refl
    where
      by : (b : Bool) → go_together defined p ≡ b → class_from of (if b then record { extension = e; it = p } ∷ [] else []) ≡ []
      by true t = append-nil (all_given e (of p)) ∙ ap (all_given e) (none p (has p refl) (second_so (bytes_eq defined.name.it p.name.it) (same_kind defined.kind p.kind) t))
      by false t = refl

  none_in : GivesNone → (list : List NumberedDefinition) → class_from of (flat_map (extension_here defined) list) ≡ []
  none_in none [] = refl
  none_in none (l ∷ ls) =
      flat_map-append (λ g. all_given g.extension (of g.it)) (extension_here defined l) (flat_map (extension_here defined) ls)
      ∙ (λ i. none_here none l.extension (type_extension_here l.definition) (extension_has l.definition) i ++ none_in none ls i)

-- of a kind
as_kind : (k : TypeKind) (p : Parts) → HasOnly p.kind p → same_kind k p.kind ≡ true → HasOnly k p
as_kind k p has same = subst (λ j. HasOnly j p) (sym (kinds_same k p.kind same)) has

abbrev IsFolded : List NumberedDefinition → TypeDefinition Place → Type 0
IsFolded list t = IsOfKind t.parts.kind (kept_from (collected_from (parts_of list t)))

module _ (list : List NumberedDefinition) where
  pub folded_of_kind : (d : DefinitionTree Place) (t : TypeDefinition Place) → type_here d ≡ Some t → IsFolded list t
  folded_of_kind (tree.ScalarType p d t) u e = subst (IsFolded list) (same_Some _ _ e) (
    ap (firsts given_name) (none_in (λ q. q.interfaces) (scalar t) (λ q h same. (as_kind Scalar q h same).0) list),
    ap (keyed_firsts field_key) (none_in (λ q. q.fields) (scalar t) (λ q h same. (as_kind Scalar q h same).1) list),
    ap (firsts given_name) (none_in (λ q. q.members) (scalar t) (λ q h same. (as_kind Scalar q h same).2) list),
    ap (keyed_firsts value_key) (none_in (λ q. q.values) (scalar t) (λ q h same. (as_kind Scalar q h same).3) list),
    ap (keyed_firsts input_key) (none_in (λ q. q.inputs) (scalar t) (λ q h same. (as_kind Scalar q h same).4) list),
  )
  folded_of_kind (tree.ObjectType p d t) u e = subst (IsFolded list) (same_Some _ _ e) (
    ap (firsts given_name) (none_in (λ q. q.members) (with_fields Object t) (λ q h same. (as_kind Object q h same).0) list),
    ap (keyed_firsts value_key) (none_in (λ q. q.values) (with_fields Object t) (λ q h same. (as_kind Object q h same).1) list),
    ap (keyed_firsts input_key) (none_in (λ q. q.inputs) (with_fields Object t) (λ q h same. (as_kind Object q h same).2) list),
  )
  folded_of_kind (tree.InterfaceType p d t) u e = subst (IsFolded list) (same_Some _ _ e) (
    ap (firsts given_name) (none_in (λ q. q.members) (with_fields Interface t) (λ q h same. (as_kind Interface q h same).0) list),
    ap (keyed_firsts value_key) (none_in (λ q. q.values) (with_fields Interface t) (λ q h same. (as_kind Interface q h same).1) list),
    ap (keyed_firsts input_key) (none_in (λ q. q.inputs) (with_fields Interface t) (λ q h same. (as_kind Interface q h same).2) list),
  )
  folded_of_kind (tree.UnionType p d t) u e = subst (IsFolded list) (same_Some _ _ e) (
    ap (firsts given_name) (none_in (λ q. q.interfaces) (union t) (λ q h same. (as_kind Union q h same).0) list),
    ap (keyed_firsts field_key) (none_in (λ q. q.fields) (union t) (λ q h same. (as_kind Union q h same).1) list),
    ap (keyed_firsts value_key) (none_in (λ q. q.values) (union t) (λ q h same. (as_kind Union q h same).2) list),
    ap (keyed_firsts input_key) (none_in (λ q. q.inputs) (union t) (λ q h same. (as_kind Union q h same).3) list),
  )
  folded_of_kind (tree.EnumType p d t) u e = subst (IsFolded list) (same_Some _ _ e) (
    ap (firsts given_name) (none_in (λ q. q.interfaces) (enum t) (λ q h same. (as_kind Enum q h same).0) list),
    ap (keyed_firsts field_key) (none_in (λ q. q.fields) (enum t) (λ q h same. (as_kind Enum q h same).1) list),
    ap (firsts given_name) (none_in (λ q. q.members) (enum t) (λ q h same. (as_kind Enum q h same).2) list),
    ap (keyed_firsts input_key) (none_in (λ q. q.inputs) (enum t) (λ q h same. (as_kind Enum q h same).3) list),
  )
  folded_of_kind (tree.InputObjectType p d t) u e = subst (IsFolded list) (same_Some _ _ e) (
    ap (firsts given_name) (none_in (λ q. q.interfaces) (input_object t) (λ q h same. (as_kind InputObject q h same).0) list),
    ap (keyed_firsts field_key) (none_in (λ q. q.fields) (input_object t) (λ q h same. (as_kind InputObject q h same).1) list),
    ap (firsts given_name) (none_in (λ q. q.members) (input_object t) (λ q h same. (as_kind InputObject q h same).2) list),
    ap (keyed_firsts value_key) (none_in (λ q. q.values) (input_object t) (λ q h same. (as_kind InputObject q h same).3) list),
  )
  folded_of_kind _ u e = cc
