-- How what is left of a set is put together, and what then replaces a fragment.
use Rattle.std.proofs.Common.{◌≡◌, ◌∙◌, ℕ, true, false, List, [], ◌∷◌, ◌++◌, map, refl, sym, ap, subst, inl, inr, None, Contains, true≢false}
use Rattle.std.specs.Option.{option_map}
use Rattle.graphql_names.specs.Node.{content, place}
use Rattle.graphql_names.specs.Placed.{Place, Text, name_tree}
use Rattle.graphql_names.specs.declared.node.Node.{Node}
use Rattle.tree_directives.specs.DirectiveTree.{directives_tree}
use Rattle.schema_components.proofs.Places.{not_in_nil}
use Rattle.tree_type_members.specs.TypeSystemTree.{unplaced_field_definition}
use Rattle.document_typed_selections.specs.TypedTree.{TypedSelection, TypedSet, typed_set, TypedSelections, no_typed, typed_then, typed_selections, typed_selection_tree, typed_set_tree, set_type, set_selections, holds_none}
use Rattle.document_typed_selections.specs.TypedParts.{and_then, set_and, own_definition, typed_head, typed_field_node, typed_inline_node, bare_inline}
use Rattle.document_typed_selections.specs.declared.selection.Field.{Field}
use Rattle.document_typed_selections.specs.declared.selection.InlineFragment.{InlineFragment}
use Rattle.document_typed_selections.specs.declared.selection.SelectionSet.{SelectionSet}
use Rattle.document_typed_selections.specs.declared.selection.Selection.TheViews.{Field as Field', InlineFragment as InlineFragment'}
use Rattle.document_typed_selections.proofs.TypedTrees.{typed_tree_field, typed_tree_inline}
use Rattle.document_typed_operations.specs.TypedDocument.{TypedFragment}
use Rattle.spec_document.specs.MeantTree.{MeantSelection, MeantField, MeantInline, MeantSet, meant_set, MeantSelections, no_meant, meant_then, members, meant, meant_of_set, meant_of_all}
use Rattle.rule_reach.specs.in_typed_operations.DocumentView.{meant_by_fragment}
use Rattle.rule_definitions.specs.PlacedFaults.{PlacedFault}
use Rattle.rule_definitions.proofs.Room.{room_begins, room_silent}
use Rattle.rule_definitions.proofs.Adding.{Gains}
use Rattle.rule_selections.specs.SelectionFaults.{selects_none}
use Rattle.rule_selections.specs.Settled.{Terms, filled, with_left, IsSettled, Thins, Leaves, LeavesOfTyped, KeepsUnlessSettled, UsesAll, IsReplacementOf}

-- where nothing was told, nothing breaks
pub nothing_breaks : {R : PlacedFault → Type 0} (old new : List PlacedFault) → Gains old new R → new ≡ [] → (f : PlacedFault) → R f → ⊥
nothing_breaks [] new (added, (is, lists)) empty f r = not_in_nil f (subst (λ l. Contains l f) (room_silent added (sym is ∙ empty)) ((lists f).1 r))
nothing_breaks (x ∷ old) new (added, (is, lists)) empty f r = let none = sym (room_begins (x ∷ old) added).1 ∙ sym is ∙ empty in cc

-- ---- a selection with another set

pub none_meant : (v : TypedSet Place) → holds_none v ≡ selects_none (meant_of_set v)
none_meant (typed_set t no_typed) = refl
none_meant (typed_set t (typed_then x xs)) = refl

-- what is left of a set that has selections: some are left, or the filler
pub filled_left : (whole left : TypedSet Place) → holds_none left ≡ false → meant_of_set left ≡ filled (meant_of_set whole) (meant_of_set left)
filled_left (typed_set t no_typed) left some = refl
filled_left (typed_set t (typed_then x xs)) (typed_set u no_typed) some = absurd (true≢false some)
filled_left (typed_set t (typed_then x xs)) (typed_set u (typed_then y ys)) some = refl

pub filled_empty : (whole left : TypedSet Place) → holds_none whole ≡ true → meant_of_set left ≡ filled (meant_of_set whole) (meant_of_set left)
filled_empty (typed_set t no_typed) left none = refl
filled_empty (typed_set t (typed_then x xs)) left none = absurd (true≢false (sym none))

pub filled_by_filler : (whole left : TypedSet Place) → holds_none left ≡ true → holds_none whole ≡ false
    → meant_of_set (typed_set (set_type whole) (typed_then (bare_inline None (set_type whole)) no_typed)) ≡ filled (meant_of_set whole) (meant_of_set left)
filled_by_filler (typed_set t no_typed) left none some = absurd (true≢false some)
filled_by_filler (typed_set t (typed_then x xs)) (typed_set u no_typed) none some = refl
filled_by_filler (typed_set t (typed_then x xs)) (typed_set u (typed_then y ys)) none some = absurd (true≢false (sym none))

-- a field, an inline fragment of the same parts, but for its set
pub field_with : (n m : Node Field) (left : MeantSet Place) → place m ≡ place n → own_definition (content m) ≡ own_definition (content n) → typed_head (content m) ≡ typed_head (content n)
    → meant_of_set (typed_set_tree (content m).selection_set) ≡ filled (meant_of_set (typed_set_tree (content n).selection_set)) left
    → meant (typed_selection_tree (Field' m)) ≡ with_left (meant (typed_field_node n)) left
field_with n m left at definition head set = ap meant (typed_tree_field m) ∙ (λ i. MeantField (at i) (unplaced_field_definition (definition i).it) (head i) (set i))

pub inline_with : (n m : Node InlineFragment) (left : SelectionSet) → place m ≡ place n → option_map name_tree (content m).type_condition ≡ option_map name_tree (content n).type_condition
    → directives_tree (content m).directives ≡ directives_tree (content n).directives → (content m).selection_set ≡ left
    → meant (typed_selection_tree (InlineFragment' m)) ≡ with_left (meant (typed_inline_node n)) (meant_of_set (typed_set_tree left))
inline_with n m left at condition directives set = ap meant (typed_tree_inline m) ∙ (λ i. MeantInline (at i) (condition i) (directives i) (meant_of_set (typed_set_tree (set i))))

-- ---- what is left of a set

-- its selections, by those that it holds
members_are : {X : Type 0} (tree : X → TypedSelection Place) (xs : List X) → members (map (λ x. meant (tree x)) xs) ≡ meant_of_all (typed_selections tree xs)
members_are tree [] = refl
members_are tree (x ∷ xs) = ap (meant_then (meant (tree x))) (members_are tree xs)

-- these and a last one
abbrev and_last : MeantSelections Place → MeantSelection Place → MeantSelections Place
and_last no_meant y = meant_then y no_meant
and_last (meant_then x xs) y = meant_then x (and_last xs y)

last_meant : (ss : TypedSelections Place) (y : TypedSelection Place) → meant_of_all (and_then ss (typed_then y no_typed)) ≡ and_last (meant_of_all ss) (meant y)
last_meant no_typed y = refl
last_meant (typed_then s ss) y = ap (meant_then (meant s)) (last_meant ss y)

type_after : (v : TypedSet Place) (x : TypedSelection Place) → set_type (set_and (typed_then x no_typed) v) ≡ set_type v
type_after (typed_set t ss) x = refl

selections_after : (v : TypedSet Place) (y : TypedSelection Place) → meant_of_all (set_selections (set_and (typed_then y no_typed) v)) ≡ and_last (meant_of_all (set_selections v)) (meant y)
selections_after (typed_set t ss) y = last_meant ss y

set_is : (v : TypedSet Place) → meant_of_set v ≡ meant_set (set_type v).it (meant_of_all (set_selections v))
set_is (typed_set t ss) = refl

module _ (s : Terms) where
  -- one that stays
  leaves_one : (t : List ℕ) (xs : List (MeantSelection Place)) (ws : MeantSelections Place) (x y : MeantSelection Place) → Thins s x y → Leaves s t (members xs) ws → Leaves s t (members (xs ++ x ∷ [])) (and_last ws y)
  leaves_one t [] ws x y thin none = inr (y, (no_meant, (ap (λ (l : MeantSelections Place). and_last l y) none, (thin, refl))))
  leaves_one t (a ∷ xs) ws x y thin (inl (q, l)) = inl (q, leaves_one t xs ws x y thin l)
  leaves_one t (a ∷ xs) ws x y thin (inr (b, (bs, (is, (h, l))))) = inr (b, (and_last bs y, (ap (λ (l : MeantSelections Place). and_last l y) is, (h, leaves_one t xs bs x y thin l))))

  -- one that is left out
  leaves_out : (t : List ℕ) (xs : List (MeantSelection Place)) (ws : MeantSelections Place) (x : MeantSelection Place) → IsSettled s t x → Leaves s t (members xs) ws → Leaves s t (members (xs ++ x ∷ [])) ws
  leaves_out t [] ws x settled none = inl (settled, none)
  leaves_out t (a ∷ xs) ws x settled (inl (q, l)) = inl (q, leaves_out t xs ws x settled l)
  leaves_out t (a ∷ xs) ws x settled (inr (b, (bs, (is, (h, l))))) = inr (b, (bs, (is, (h, leaves_out t xs bs x settled l))))

  -- of the selections so far, on a set of this type, these are left
  abbrev pub IsLeft : Text Place → List (MeantSelection Place) → TypedSet Place → Type 0
  IsLeft t old kept = (set_type kept ≡ t) × Leaves s t.it (members old) (meant_of_all (set_selections kept))

  pub left_none : (t : Text Place) (kept : TypedSet Place) → kept ≡ typed_set t no_typed → IsLeft t [] kept
  left_none t kept is = subst (λ (v : TypedSet Place). IsLeft t [] v) (sym is) (refl, refl)

  pub left_more : (t : Text Place) (old all : List (MeantSelection Place)) (x : TypedSelection Place) (kept next : TypedSet Place) → all ≡ old ++ meant x ∷ [] → KeepsUnlessSettled s t.it x kept next → IsLeft t old kept → IsLeft t all next
  left_more t old all x kept next is (inl (y, (put, thin))) l =
      subst (λ (v : TypedSet Place). IsLeft t all v) (sym put) (
        type_after kept y ∙ l.0,
        subst (λ (w : MeantSelections Place). Leaves s t.it (members all) w) (sym (selections_after kept y))
            (subst (λ (o : List (MeantSelection Place)). Leaves s t.it (members o) (and_last (meant_of_all (set_selections kept)) (meant y))) (sym is)
            (leaves_one t.it old (meant_of_all (set_selections kept)) (meant x) (meant y) thin l.1)),
      )
  left_more t old all x kept next is (inr (same, settled)) l =
      subst (λ (v : TypedSet Place). IsLeft t all v) (sym same) (
        l.0,
        subst (λ (o : List (MeantSelection Place)). Leaves s t.it (members o) (meant_of_all (set_selections kept))) (sym is)
            (leaves_out t.it old (meant_of_all (set_selections kept)) (meant x) settled l.1),
      )

  -- of all that a set holds
  pub left_all : {X : Type 0} (tree : X → TypedSelection Place) (t : Text Place) (xs : List X) (v kept : TypedSet Place) → v ≡ typed_set t (typed_selections tree xs) → IsLeft t (map (λ x. meant (tree x)) xs) kept → LeavesOfTyped s v kept
  left_all tree t xs v kept is l = subst (λ (v : TypedSet Place). LeavesOfTyped s v kept) (sym is) (
    l.0,
    (
      meant_of_all (set_selections kept),
      (
        set_is kept ∙ ap (λ (u : Text Place). meant_set u.it (meant_of_all (set_selections kept))) l.0,
        subst (λ (o : MeantSelections Place). Leaves s t.it o (meant_of_all (set_selections kept))) (members_are tree xs) l.1,
      ),
    ),
  )

  -- ---- a fragment with what is left

  pub lies_in : (h g : TypedFragment Place) (p q : Place) → h.name ≡ g.name → h.directives ≡ g.directives → p ≡ q → LeavesOfTyped s g.set h.set → UsesAll (meant_of_set h.set) (meant_of_set g.set)
      → IsReplacementOf s (meant_by_fragment (record { it = h; place = p })) (meant_by_fragment (record { it = g; place = q }))
  lies_in h g p q name directives place l uses =
      (λ i. record { place = place i; name = name i; type_condition = l.0 i; directives = directives i; set = meant_set (l.0 i).it no_meant }, (l.1, uses))
