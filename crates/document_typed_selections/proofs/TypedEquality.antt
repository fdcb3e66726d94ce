-- `==` of selections and of sets says whether their trees are the same, ignoring places.
use Rattle.std.proofs.Common.{◌≡◌, Bool, List, [], ◌∷◌, map, refl, ap, sym, ◌∙◌, subst, None}
use Rattle.std.specs.Bool.{Decides}
use Rattle.std.specs.Cmp.Lexicographic.{pointwise}
use Rattle.graphql_names.specs.Node.{content, place}
use Rattle.graphql_names.specs.Placed.{Placed, Place, name_tree, unplaced_text}
use Rattle.tree_directives.specs.DirectiveTree.{argument_tree, unplaced_argument}
use Rattle.tree_definitions.specs.in_operations.SelectionTree.{FieldHead}
use Rattle.tree_definitions.specs.in_type_members.TypeSystemTree.{FieldDefinitionTree, field_definition_tree, unplaced_field_definition}
use Rattle.document_typed_selections.specs.TypedTree.{TypedSelection, TypedField, TypedSpread, TypedInline, TypedSet, typed_set, TypedSelections, typed_then, typed_selections, typed_selection_tree, typed_set_tree, unplaced_typed_selection, unplaced_typed_set, unplaced_typed_selections}
use Rattle.document_typed_selections.specs.TypedParts.{typed_field, typed_spread, typed_inline}
use Rattle.tree_definitions.proofs.in_operations.Decided.{Each, through, carried, pair_decides, name_decides, node_decides, nodes_decide, options_decide}
use Rattle.tree_definitions.proofs.in_operations.DirectiveEquality.{argument_eq, argument_eq-Decides, directive_list_eq-Decides}
use Rattle.tree_definitions.proofs.TreeEquality.{field_definition_eq-Decides}
use Rattle.document_typed_selections.proofs.TypedTrees.{tree_here, typed_selection_tree_out, typed_set_tree_out}
use Rattle.document_typed_selections.specs.declared.selection.Selection.{Selection}
use Rattle.document_typed_selections.specs.declared.selection.Field.{Field}
use Rattle.document_typed_selections.specs.declared.selection.FragmentSpread.{FragmentSpread}
use Rattle.document_typed_selections.specs.declared.selection.InlineFragment.{InlineFragment}
use Rattle.document_typed_selections.specs.declared.selection.SelectionSet.{SelectionSet}
use Rattle.document_typed_selections.specs.declared.selection.Selection.TheOpen.{Selection-F, Field-F, InlineFragment-F, SelectionSet-F, Field as FieldOf, FragmentSpread as SpreadOf, InlineFragment as InlineOf}
use Rattle.document_typed_selections.specs.declared.selection.Selection.TheViews.{out-Selection, roll-Selection, out-roll-Selection, roll-Field, out-roll-Field, roll-InlineFragment, out-roll-InlineFragment, roll-SelectionSet, out-roll-SelectionSet}
use Rattle.document_typed_selections.specs.declared.selection.Selection.TheFolds.{map-Selection, map-Field, map-InlineFragment, map-SelectionSet, ind-Selection, ind-Field, ind-InlineFragment, ind-SelectionSet}
use Rattle.document_typed_selections.specs.contracts.selection.SelectionPartialEq.TheImpl as selection
use Rattle.document_typed_selections.specs.contracts.selection.SelectionPartialEq.TheImpl.Laws as selection_laws
use Rattle.document_typed_selections.specs.contracts.selection.FieldPartialEq.TheImpl as field
use Rattle.document_typed_selections.specs.contracts.selection.FieldPartialEq.TheImpl.Laws as field_laws
use Rattle.document_typed_selections.specs.contracts.selection.InlineFragmentPartialEq.TheImpl as inline
use Rattle.document_typed_selections.specs.contracts.selection.InlineFragmentPartialEq.TheImpl.Laws as inline_laws
use Rattle.document_typed_selections.specs.contracts.selection.SelectionSetPartialEq.TheImpl as set
use Rattle.document_typed_selections.specs.contracts.selection.SelectionSetPartialEq.TheImpl.Laws as set_laws
use Rattle.document_typed_selections.specs.contracts.selection.FragmentSpreadPartialEq.TheImpl as spread

abbrev pub selection_eq : Selection → Selection → Bool
selection_eq = selection.ghosts.eq

abbrev pub field_eq : Field → Field → Bool
field_eq = field.ghosts.eq

abbrev pub inline_eq : InlineFragment → InlineFragment → Bool
inline_eq = inline.ghosts.eq

abbrev pub set_eq : SelectionSet → SelectionSet → Bool
set_eq = set.ghosts.eq

abbrev pub spread_eq : FragmentSpread → FragmentSpread → Bool
spread_eq = spread.ghosts.eq

-- two selections, fields, spreads, inline fragments or sets are the same, ignoring places
abbrev pub SameSelection : Selection → Selection → Type 0
SameSelection d e = unplaced_typed_selection (typed_selection_tree d) ≡ unplaced_typed_selection (typed_selection_tree e)

abbrev pub SameField : Field → Field → Type 0
SameField d e = unplaced_typed_selection (typed_field None d) ≡ unplaced_typed_selection (typed_field None e)

abbrev pub SameSpread : FragmentSpread → FragmentSpread → Type 0
SameSpread d e = unplaced_typed_selection (typed_spread None d) ≡ unplaced_typed_selection (typed_spread None e)

abbrev pub SameInline : InlineFragment → InlineFragment → Type 0
SameInline d e = unplaced_typed_selection (typed_inline None d) ≡ unplaced_typed_selection (typed_inline None e)

abbrev pub SameSet : SelectionSet → SelectionSet → Type 0
SameSet d e = unplaced_typed_set (typed_set_tree d) ≡ unplaced_typed_set (typed_set_tree e)

abbrev IsSame : Selection → Type 0
IsSame d = (e : Selection) → Decides (selection_eq d e) (SameSelection d e)

abbrev IsSameField : Field → Type 0
IsSameField d = (e : Field) → Decides (field_eq d e) (SameField d e)

abbrev IsSameInline : InlineFragment → Type 0
IsSameInline d = (e : InlineFragment) → Decides (inline_eq d e) (SameInline d e)

abbrev IsSameSet : SelectionSet → Type 0
IsSameSet d = (e : SelectionSet) → Decides (set_eq d e) (SameSet d e)

-- a spread's parts decide
pub spread_eq-Decides : (d e : FragmentSpread) → Decides (spread_eq d e) (SameSpread d e)
spread_eq-Decides d e =
    through
    (pair_decides _ _ (name_decides d.fragment_name e.fragment_name) (directive_list_eq-Decides d.directives e.directives))
    (λ s i. TypedSpread tt (s.0 i) (s.1 i))
    (λ r. (cc, cc))

trees_decide : (xs ys : List Selection) → Each IsSame xs → Decides (pointwise selection_eq xs ys) (unplaced_typed_selections (typed_selections typed_selection_tree xs) ≡ unplaced_typed_selections (typed_selections typed_selection_tree ys))
trees_decide [] [] h = (λ r. refl, λ r. refl)
trees_decide [] (y ∷ ys) h = (λ r. cc, λ r. cc)
trees_decide (x ∷ xs) [] h = (λ r. cc, λ r. cc)
trees_decide (x ∷ xs) (y ∷ ys) h = through (pair_decides _ _ (h.0 y) (trees_decide xs ys h.1)) (λ s i. typed_then (s.0 i) (s.1 i)) (λ r. (cc, cc))

-- a set's parts decide
set_decides : (d e : SelectionSet) → Each IsSame d.selections.items → Decides (set_laws.unfolded d e) (SameSet d e)
set_decides d e h =
    carried refl (ap unplaced_typed_set (typed_set_tree_out d)) (ap unplaced_typed_set (typed_set_tree_out e))
    (through
    (pair_decides _ _ (name_decides d.ty e.ty) (trees_decide d.selections.items e.selections.items h))
    (λ s i. typed_set (s.0 i) (s.1 i))
    (λ r. (cc, cc)))

-- what a field without its place is made of
field_parts : {f g : Placed (Unit {0}) (FieldDefinitionTree (Unit {0}))} {h k : FieldHead (Unit {0})} {s t : TypedSet (Unit {0})} → TypedField tt f h s ≡ TypedField tt g k t → (f ≡ g) × ((h.alias ≡ k.alias) × ((h.name ≡ k.name) × ((h.arguments ≡ k.arguments) × ((h.directives ≡ k.directives) × (s ≡ t)))))
field_parts {f = f} {g = g} {h = h} {k = k} {s = s} {t = t} r =
    let definitions : f ≡ g = cc in
    let heads : h ≡ k = cc in
    let sets : s ≡ t = cc in
    (definitions, (ap (λ (x : FieldHead (Unit {0})). x.alias) heads, (ap (λ (x : FieldHead (Unit {0})). x.name) heads, (ap (λ (x : FieldHead (Unit {0})). x.arguments) heads, (ap (λ (x : FieldHead (Unit {0})). x.directives) heads, sets)))))

field_decides : (d e : Field) → IsSameSet d.selection_set → Decides (field_laws.unfolded d e) (SameField d e)
field_decides d e h =
    through
    (pair_decides _ _ (node_decides _ unplaced_field_definition field_definition_tree field_definition_eq-Decides d.definition e.definition)
    (pair_decides _ _ (options_decide _ unplaced_text name_tree name_decides d.alias e.alias)
    (pair_decides _ _ (name_decides d.name e.name)
    (pair_decides _ _ (nodes_decide argument_eq unplaced_argument argument_tree argument_eq-Decides d.arguments.items e.arguments.items)
    (pair_decides _ _ (directive_list_eq-Decides d.directives e.directives)
    (h e.selection_set))))))
    (λ s i. TypedField tt (s.0 i) (record { alias = s.1.0 i; name = s.1.1.0 i; arguments = s.1.1.1.0 i; directives = s.1.1.1.1.0 i }) (s.1.1.1.1.1 i))
    (λ r. field_parts r)

inline_decides : (d e : InlineFragment) → IsSameSet d.selection_set → Decides (inline_laws.unfolded d e) (SameInline d e)
inline_decides d e h =
    through
    (pair_decides _ _ (options_decide _ unplaced_text name_tree name_decides d.type_condition e.type_condition)
    (pair_decides _ _ (directive_list_eq-Decides d.directives e.directives)
    (h e.selection_set)))
    (λ s i. TypedInline tt (s.0 i) (s.1.0 i) (s.1.1 i))
    (λ r. (cc, (cc, cc)))

-- a layer over the types themselves
abbrev Layer : Type 0
Layer = Selection-F Selection Field InlineFragment SelectionSet

abbrev FieldLayer : Type 0
FieldLayer = Field-F Selection Field InlineFragment SelectionSet

abbrev InlineLayer : Type 0
InlineLayer = InlineFragment-F Selection Field InlineFragment SelectionSet

abbrev SetLayer : Type 0
SetLayer = SelectionSet-F Selection Field InlineFragment SelectionSet

-- what the layer holds is so
abbrev Below : Layer → Type 0
Below (FieldOf n) = IsSameField (content n)
Below (SpreadOf n) = Unit {0}
Below (InlineOf n) = IsSameInline (content n)

same_layers : (x y : Layer) → Below x → (d e : Selection) → out-Selection d ≡ x → out-Selection e ≡ y → Decides (selection_laws.unfolded d e) (unplaced_typed_selection (tree_here x) ≡ unplaced_typed_selection (tree_here y))
same_layers (FieldOf a) (FieldOf b) h d e p q = rw (p, q) (h (content b))
same_layers (SpreadOf a) (SpreadOf b) h d e p q = rw (p, q) (spread_eq-Decides (content a) (content b))
same_layers (InlineOf a) (InlineOf b) h d e p q = rw (p, q) (h (content b))
same_layers _ _ h d e p q = rw (p, q) ((λ r. cc), (λ r. cc))

same_at : (x : Layer) → Below x → IsSame (roll-Selection x)
same_at x h e =
    carried
    (selection_laws.is (roll-Selection x) e)
    (ap unplaced_typed_selection (typed_selection_tree_out (roll-Selection x) ∙ ap tree_here (out-roll-Selection x)))
    (ap unplaced_typed_selection (typed_selection_tree_out e))
    (same_layers x (out-Selection e) h (roll-Selection x) e (out-roll-Selection x) refl)

same_field_at : (x : FieldLayer) → IsSameSet x.selection_set → IsSameField (roll-Field x)
same_field_at x h e =
    carried (field_laws.is (roll-Field x) e) refl refl
    (field_decides (roll-Field x) e (subst (λ (z : FieldLayer). IsSameSet z.selection_set) (sym (out-roll-Field x)) h))

same_inline_at : (x : InlineLayer) → IsSameSet x.selection_set → IsSameInline (roll-InlineFragment x)
same_inline_at x h e =
    carried (inline_laws.is (roll-InlineFragment x) e) refl refl
    (inline_decides (roll-InlineFragment x) e (subst (λ (z : InlineLayer). IsSameSet z.selection_set) (sym (out-roll-InlineFragment x)) h))

same_set_at : (x : SetLayer) → Each IsSame x.selections.items → IsSameSet (roll-SelectionSet x)
same_set_at x h e =
    carried (set_laws.is (roll-SelectionSet x) e) refl refl
    (set_decides (roll-SelectionSet x) e (subst (λ (z : SetLayer). Each IsSame z.selections.items) (sym (out-roll-SelectionSet x)) h))

abbrev Such : Type 0
Such = (d : Selection) × IsSame d

abbrev SuchField : Type 0
SuchField = (d : Field) × IsSameField d

abbrev SuchInline : Type 0
SuchInline = (d : InlineFragment) × IsSameInline d

abbrev SuchSet : Type 0
SuchSet = (d : SelectionSet) × IsSameSet d

below_such : (y : Selection-F Such SuchField SuchInline SuchSet) → Below (map-Selection Such SuchField SuchInline SuchSet Selection Field InlineFragment SelectionSet (λ s. s.0) (λ s. s.0) (λ s. s.0) (λ s. s.0) y)
below_such (FieldOf n) = (content n).1
below_such (SpreadOf n) = tt
below_such (InlineOf n) = (content n).1

below_set : (ys : List Such) → Each IsSame (map (λ s. s.0) ys)
below_set [] = tt
below_set (y ∷ ys) = (y.1, below_set ys)

at_selection : (x : Layer) (y : Selection-F Such SuchField SuchInline SuchSet) → map-Selection Such SuchField SuchInline SuchSet Selection Field InlineFragment SelectionSet (λ s. s.0) (λ s. s.0) (λ s. s.0) (λ s. s.0) y ≡ x → IsSame (roll-Selection x)
at_selection x y is = same_at x (subst Below is (below_such y))

at_field : (x : FieldLayer) (y : Field-F Such SuchField SuchInline SuchSet) → map-Field Such SuchField SuchInline SuchSet Selection Field InlineFragment SelectionSet (λ s. s.0) (λ s. s.0) (λ s. s.0) (λ s. s.0) y ≡ x → IsSameField (roll-Field x)
at_field x y is = same_field_at x (subst (λ (z : FieldLayer). IsSameSet z.selection_set) is y.selection_set.1)

at_inline : (x : InlineLayer) (y : InlineFragment-F Such SuchField SuchInline SuchSet) → map-InlineFragment Such SuchField SuchInline SuchSet Selection Field InlineFragment SelectionSet (λ s. s.0) (λ s. s.0) (λ s. s.0) (λ s. s.0) y ≡ x → IsSameInline (roll-InlineFragment x)
at_inline x y is = same_inline_at x (subst (λ (z : InlineLayer). IsSameSet z.selection_set) is y.selection_set.1)

at_set : (x : SetLayer) (y : SelectionSet-F Such SuchField SuchInline SuchSet) → map-SelectionSet Such SuchField SuchInline SuchSet Selection Field InlineFragment SelectionSet (λ s. s.0) (λ s. s.0) (λ s. s.0) (λ s. s.0) y ≡ x → IsSameSet (roll-SelectionSet x)
at_set x y is = same_set_at x (subst (λ (z : SetLayer). Each IsSame z.selections.items) is (below_set y.selections.items))

pub selection_eq-Decides : (d e : Selection) → Decides (selection_eq d e) (SameSelection d e)
selection_eq-Decides = ind-Selection IsSame IsSameField IsSameInline IsSameSet at_selection at_field at_inline at_set

pub field_eq-Decides : (d e : Field) → Decides (field_eq d e) (SameField d e)
field_eq-Decides = ind-Field IsSame IsSameField IsSameInline IsSameSet at_selection at_field at_inline at_set

pub inline_eq-Decides : (d e : InlineFragment) → Decides (inline_eq d e) (SameInline d e)
inline_eq-Decides = ind-InlineFragment IsSame IsSameField IsSameInline IsSameSet at_selection at_field at_inline at_set

pub set_eq-Decides : (d e : SelectionSet) → Decides (set_eq d e) (SameSet d e)
set_eq-Decides = ind-SelectionSet IsSame IsSameField IsSameInline IsSameSet at_selection at_field at_inline at_set
