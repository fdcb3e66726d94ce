-- A typed selection as a member of what is reached.
use Rattle.std.proofs.Common.{◌≡◌, ◌↔◌, ◌<◌, ◌∙◌, ℕ, List, map, length, get_or, refl, ap, sym, subst, Option, None, Some, true≢false, is_some, option_map, Contains}
use Rattle.graphql_names.specs.NameValue.{NameValue}
use Rattle.graphql_names.specs.Node.{content as node_content, place as node_place}
use Rattle.graphql_names.specs.Placed.{Place, name_tree}
use Rattle.graphql_names.specs.declared.node.Node.{Node}
use Rattle.tree_directives.specs.declared.directive_location.DirectiveLocation.TheVariants as location
use Rattle.tree_directives.specs.DirectiveTree.{directives_tree}
use Rattle.document_typed_selections.specs.TypedTree.{TypedSelection, TypedField, TypedSpread, TypedInline, typed_selection_tree, typed_set_tree}
use Rattle.document_typed_selections.specs.TypedParts.{typed_directives, as_typed_field, typed_field_node}
use Rattle.document_typed_selections.specs.declared.selection.Field.{Field}
use Rattle.document_typed_selections.specs.declared.selection.InlineFragment.{InlineFragment}
use Rattle.document_typed_selections.specs.declared.selection.Selection.{Selection}
use Rattle.document_typed_selections.specs.declared.selection.Selection.TheViews.{Field as Field', InlineFragment as InlineFragment'}
use Rattle.document_typed_selections.proofs.TypedTrees.{typed_tree_field, typed_tree_inline}
use Rattle.spec_document.specs.MeantTree.{MeantField, MeantSpread, MeantInline, meant}
use Rattle.schema_types.specs.SchemaTree.{SchemaTree}
use Rattle.schema_types.specs.Plain.{plain}
use Rattle.document_typing.specs.Meanings.{meanings}
use Rattle.document_typing.specs.TypedByPlace.{IsTyped}
use Rattle.rule_definitions.specs.Words.{Present}
use Rattle.rule_document_definitions.specs.Selected.{StandingField, selection_directives, selection_location}
use Rattle.rule_definitions.proofs.Listing.{present_known}
use Rattle.rule_reach.specs.Reach.{Member, field_of}
use Rattle.rule_reach.proofs.Bridge.{to_map}
use Rattle.rule_selections.specs.SelectionFaults.{standing_field, IsDefined}
use Rattle.rule_selections.specs.Settled.{EntersOnly}

-- ---- where its directives stand

pub field_location : (n : Node Field) → selection_location (meant (typed_selection_tree (Field' n))) ≡ location.Field
field_location n = ap (λ t. selection_location (meant t)) (typed_tree_field n)

pub inline_location : (n : Node InlineFragment) → selection_location (meant (typed_selection_tree (InlineFragment' n))) ≡ location.InlineFragment
inline_location n = ap (λ t. selection_location (meant t)) (typed_tree_inline n)

pub ruleset location_rules = (field_location, inline_location)

-- ---- whether it enters a fragment on a type

module _ (R : List ℕ → List ℕ → Type 0) (t : List ℕ) (s : Selection) where
  pub field_enters : (n : Node Field) → s ≡ Field' n → EntersOnly R (t, meant (typed_selection_tree s))
  field_enters n is = subst (λ (x : TypedSelection Place). EntersOnly R (t, meant x)) (sym (ap typed_selection_tree is ∙ typed_tree_field n)) tt

  module _ (n : Node InlineFragment) (is : s ≡ InlineFragment' n) where
    with_condition : (o : Option NameValue) → (node_content n).type_condition ≡ o → EntersOnly R (t, meant (TypedInline (node_place n) (option_map name_tree o) (directives_tree (node_content n).directives) (typed_set_tree (node_content n).selection_set))) → EntersOnly R (t, meant (typed_selection_tree s))
    with_condition o has enters =
        subst (λ (x : TypedSelection Place). EntersOnly R (t, meant x)) (sym (ap typed_selection_tree is ∙ typed_tree_inline n))
        (subst (λ (o : Option NameValue). EntersOnly R (t, meant (TypedInline (node_place n) (option_map name_tree o) (directives_tree (node_content n).directives) (typed_set_tree (node_content n).selection_set)))) (sym has) enters)

    pub inline_enters : (node_content n).type_condition ≡ None → EntersOnly R (t, meant (typed_selection_tree s))
    inline_enters has = with_condition None has tt

    pub inline_applies : (c : NameValue) → (node_content n).type_condition ≡ Some c → R t c.text → EntersOnly R (t, meant (typed_selection_tree s))
    inline_applies c has applies = with_condition (Some c) has applies

-- where one relation holds the other does
pub enters_by : (R Q : List ℕ → List ℕ → Type 0) → ((t c : List ℕ) → R t c → Q t c) → (e : Member Place) → EntersOnly R e → EntersOnly Q e
enters_by R Q by (t, MeantField p d h v) enters = tt
enters_by R Q by (t, MeantSpread p n ds) enters = absurd enters
enters_by R Q by (t, MeantInline p None ds v) enters = tt
enters_by R Q by (t, MeantInline p (Some c) ds v) enters = by t c.it enters

-- ---- its parts

pub directives_meant : {P : Type 0} (t : TypedSelection P) → typed_directives t ≡ selection_directives (meant t)
directives_meant (TypedField p d h s) = refl
directives_meant (TypedSpread p n ds) = refl
directives_meant (TypedInline p c ds s) = refl

-- a rule on what it is as a field breaks nowhere where it is none
pub no_field : (n : List ℕ) (t : TypedSelection Place) → None ≡ as_typed_field t → (Q : StandingField Place → Type 0) → Present (field_of (n, meant t)) Q → ⊥
no_field n (TypedField p d h s) is Q q = true≢false (sym (ap is_some is))
no_field n (TypedSpread p k ds) is Q q = true≢false (sym (ap is_some q.1.0))
no_field n (TypedInline p c ds s) is Q q = true≢false (sym (ap is_some q.1.0))

the_field : {P : Type 0} (t x : TypedSelection P) → Some x ≡ as_typed_field t → x ≡ t
the_field (TypedField p d h s) x is = cc
the_field (TypedSpread p n ds) x is = absurd (true≢false (ap is_some is))
the_field (TypedInline p c ds s) x is = absurd (true≢false (ap is_some is))

-- and where it is one, as the rule says of that
pub one_field : (parent : NameValue) (n : Node Field) (t : TypedSelection Place) → Some (typed_field_node n) ≡ as_typed_field t → (Q : StandingField Place → Type 0) → Q (standing_field parent n) ↔ Present (field_of (parent.text, meant t)) Q
one_field parent n t is Q = subst (λ u. Q (standing_field parent n) ↔ Present (field_of (parent.text, meant u)) Q) (the_field t (typed_field_node n) is)
    (present_known (field_of (parent.text, meant (typed_field_node n))) (standing_field parent n) Q refl)

-- it is typed where it has the definition that the type around it has
pub typed_there : (s : SchemaTree Place) (parent : NameValue) (n : Node Field) (t : TypedSelection Place) → Some (typed_field_node n) ≡ as_typed_field t → IsTyped (meanings (plain s)) parent.text (meant t) → IsDefined s (standing_field parent n)
typed_there s parent n t is typed = (subst (λ u. IsTyped (meanings (plain s)) parent.text (meant u)) (sym (the_field t (typed_field_node n) is)) typed).0

-- ---- in a loop

-- what a loop comes to is among all
pub comes_to : {X Y : Type 0} (f : X → Y) (xs : List X) (i : ℕ) (x : X) → i < length xs → x ≡ get_or xs i x → Contains (map f xs) (f x)
comes_to f xs i x h is = to_map f xs x (i, h, sym is)
