-- Kinds of types by name, and sets that have no selection.
use Rattle.std.proofs.Common.{◌≡◌, ◌∙◌, ℕ, Bool, true, false, ◌&&◌, not, List, [], ◌∷◌, refl, ap, sym, subst, Option, None, Some, true≢false, if◌then◌else◌}
use Rattle.std.specs.Option.{option_map, option_map_or}
use Rattle.graphql_names.specs.Node.{content}
use Rattle.graphql_names.specs.NameValue.{NameValue}
use Rattle.graphql_names.specs.Placed.{Place, Text, name_tree, node_tree}
use Rattle.graphql_names.specs.declared.node.Node.{Node}
use Rattle.tree_literals.specs.TypeTree.{TypeTree, type_tree}
use Rattle.tree_literals.specs.TypeQueries.{inner_name}
use Rattle.tree_literals.specs.declared.ty.«Type».{«Type»}
use Rattle.tree_type_members.specs.TypeSystemTree.{field_definition_tree, unplaced_field_definition}
use Rattle.schema_types.specs.declared.type_kind.TypeKind.{TypeKind}
use Rattle.document_typed_selections.specs.declared.selection.Field.{Field}
use Rattle.schema_types.specs.SchemaTree.{SchemaType, SchemaTree, is_leaf_kind, is_output_kind}
use Rattle.schema_types.specs.Addresses.{under, type_at}
use Rattle.schema_types.specs.Looks.{TypeLooks}
use Rattle.fault_data.proofs.Judgings.{type_seen, type_look, named_unplaced}
use Rattle.rule_definitions.specs.Judged.{judged}
use Rattle.rule_definitions.specs.Names.{named_in}
use Rattle.rule_definitions.specs.PlacedFaults.{PlacedFault}
use Rattle.rule_definitions.specs.Words.{Present}
use Rattle.document_typed_selections.specs.TypedTree.{TypedSet, typed_set, no_typed, typed_then, holds_none}
use Rattle.spec_document.specs.MeantTree.{MeantSet, meant_set, no_meant, meant_then, meant_of_set}
use Rattle.rule_document_definitions.specs.Selected.{StandingField, HasNone}
use Rattle.rule_document_definitions.specs.PossibleTypes.{IsCompositeType}
use Rattle.rule_definitions.proofs.Listing.{Lists, lists_same, lists_nothing, lists_one}
use Rattle.rule_selections.specs.SelectionFaults.{selects_none, without_subselection, missing_on, missing_subselection, MissesSubselection}

-- the kind of a type of a schema is the one that rules read
pub kind_found : (s : SchemaTree Place) (n : List ℕ) → option_map (λ t. t.kind) ((judged s).type_named n) ≡ option_map (λ t. t.kind) (type_at s n)
kind_found s n = ap (option_map (λ t. t.kind)) (type_look s n) ∙ seen (under n s.types)
  where
    seen : (o : Option (SchemaType Place)) → option_map (λ t. t.kind) (option_map type_seen o) ≡ option_map (λ t. t.kind) o
    seen None = refl
    seen (Some t) = refl

-- a typed set has no selection where what it means has none
pub none_meant : {P : Type 0} (t : TypedSet P) → selects_none (meant_of_set t) ≡ holds_none t
none_meant (typed_set ty no_typed) = refl
none_meant (typed_set ty (typed_then s ss)) = refl

pub has_none : {P : Type 0} (s : MeantSet P) → selects_none s ≡ true → HasNone s
has_none (meant_set t no_meant) h = tt
has_none (meant_set t (meant_then s ss)) h = absurd (true≢false (sym h))

some_selected : {P : Type 0} (s : MeantSet P) → selects_none s ≡ false → HasNone s → ⊥
some_selected (meant_set t no_meant) h n = true≢false h
some_selected (meant_set t (meant_then s ss)) h n = n

-- what is told of a field is what breaks the rule
module _ (x : StandingField Place) where
  abbrev Said : Option TypeLooks → PlacedFault → Type 0
  Said o f = Present o (λ t. IsCompositeType t × (HasNone x.set × (f ≡ without_subselection x t.kind)))

  one_type : HasNone x.set → (t : TypeLooks) (b : Bool) → (is_output_kind t.kind && not (is_leaf_kind t.kind)) ≡ b → Lists (if b then without_subselection x t.kind ∷ [] else []) (Said (Some t))
  one_type none t true is = lists_same (without_subselection x t.kind ∷ []) (λ f. (
    λ e. (t, (refl, (is, (none, e)))),
    λ h. let same : t ≡ h.0 = cc in subst (λ u. f ≡ without_subselection x u.kind) (sym same) h.1.1.1.1,
  )) (lists_one (without_subselection x t.kind))
  one_type none t false is = lists_nothing (Said (Some t)) (λ f h. let same : t ≡ h.0 = cc in true≢false (sym (subst (λ (u : TypeLooks). IsCompositeType u) (sym same) h.1.1.0) ∙ is))

  of_type : HasNone x.set → (o : Option TypeLooks) → Lists (option_map_or (missing_on x) (option_map (λ t. t.kind) o) []) (Said o)
  of_type none None = lists_nothing (Said None) (λ f h. true≢false (sym (ap (λ (o : Option TypeLooks). option_map_or (λ t. true) o false) h.1.0)))
  of_type none (Some t) = one_type none t (is_output_kind t.kind && not (is_leaf_kind t.kind)) refl

  of_set : (b : Bool) → selects_none x.set ≡ b → (o : Option TypeLooks) → Lists (if b then option_map_or (missing_on x) (option_map (λ t. t.kind) o) [] else []) (Said o)
  of_set true is o = of_type (has_none x.set is) o
  of_set false is o = lists_nothing (Said o) (λ f h. some_selected x.set is h.1.1.1.0)

pub lists_missing : (s : SchemaTree Place) (x : StandingField Place) → Lists (missing_subselection (judged s) x) (MissesSubselection s x)
lists_missing s x = of_set x (selects_none x.set) refl ((judged s).type_named (named_in x.definition.ty))

-- ---- what is told, by what is found

module _ (s : SchemaTree Place) (x : StandingField Place) where
  abbrev of : Bool → Option TypeKind → List PlacedFault
  of b k = if b then option_map_or (missing_on x) k [] else []

  module _ (none : selects_none x.set ≡ true) (k : Option TypeKind) (is : k ≡ option_map (λ t. t.kind) (type_at s (named_in x.definition.ty))) where
    told_so : of true k ≡ missing_subselection (judged s) x
    told_so = λ i. of (sym none i) ((is ∙ sym (kind_found s (named_in x.definition.ty))) i)

    pub missing_none : k ≡ None → [] ≡ missing_subselection (judged s) x
    missing_none absent = sym (ap (of true) absent) ∙ told_so

    pub missing_told : (kind : TypeKind) → k ≡ Some kind → (is_output_kind kind && not (is_leaf_kind kind)) ≡ true → without_subselection x kind ∷ [] ≡ missing_subselection (judged s) x
    missing_told kind some test = sym (ap (λ (b : Bool). if b then without_subselection x kind ∷ [] else []) test) ∙ sym (ap (of true) some) ∙ told_so

    pub missing_fine : (kind : TypeKind) → k ≡ Some kind → (is_output_kind kind && not (is_leaf_kind kind)) ≡ false → [] ≡ missing_subselection (judged s) x
    missing_fine kind some test = sym (ap (λ (b : Bool). if b then without_subselection x kind ∷ [] else []) test) ∙ sym (ap (of true) some) ∙ told_so

-- the name inside the type of a field
pub output_name : (n : Node Field) (f : Field) (t : «Type») (name : NameValue) → f ≡ content n → type_tree t ≡ (node_tree field_definition_tree f.definition).it.ty → name_tree name ≡ inner_name (type_tree t)
    → name.text ≡ named_in (unplaced_field_definition (field_definition_tree (content (content n).definition))).ty
output_name n f t name is typed inner =
    ap (λ (u : Text Place). u.it) inner
    ∙ ap (λ (u : TypeTree Place). (inner_name u).it) typed
    ∙ ap (λ (g : Field). (inner_name (node_tree field_definition_tree g.definition).it.ty).it) is
    ∙ sym (named_unplaced (field_definition_tree (content (content n).definition)).ty)
