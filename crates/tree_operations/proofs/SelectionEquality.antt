-- `==` of selections says whether their trees are the same, apart from places.
use Rattle.std.proofs.Common.{◌≡◌, Bool, List, [], ◌∷◌, map, refl, ap, sym, ◌∙◌, subst, None}
use Rattle.std.specs.Bool.{Decides}
use Rattle.std.specs.Cmp.Lexicographic.{pointwise}
use Rattle.std.specs.Option.{option_map}
use Rattle.tree_directives.specs.in_literals.in_names.Node.{content, place}
use Rattle.tree_directives.specs.in_literals.in_names.Placed.{Place, name_tree, unplaced_text}
use Rattle.tree_directives.specs.DirectiveTree.{argument_tree, directives_tree, unplaced_argument}
use Rattle.tree_operations.specs.SelectionTree.{SelectionTree, FieldTree, SpreadTree, InlineTree, SelectionTrees, FieldHead, selection_then, selection_trees, selection_tree, AtPlace, selection_step, field_step, inline_step, unplaced_selection, unplaced_selections}
use Rattle.tree_operations.specs.SelectionParts.{field_head, field_tree, spread_tree, inline_tree}
use Rattle.tree_operations.proofs.Decided.{Each, through, carried, pair_decides, name_decides, nodes_decide, options_decide}
use Rattle.tree_operations.proofs.SelectionTrees.{selection_trees-map, field_at, inline_at}
use Rattle.tree_operations.proofs.DirectiveEquality.{argument_eq, argument_eq-Decides, directive_list_eq-Decides}
use Rattle.tree_operations.specs.declared.selection.Selection.{Selection}
use Rattle.tree_operations.specs.declared.selection.Field.{Field}
use Rattle.tree_operations.specs.declared.selection.FragmentSpread.{FragmentSpread}
use Rattle.tree_operations.specs.declared.selection.InlineFragment.{InlineFragment}
use Rattle.tree_operations.specs.declared.selection.Selection.TheOpen.{Selection-F, Field-F, InlineFragment-F, Field as FieldOf, FragmentSpread as SpreadOf, InlineFragment as InlineOf}
use Rattle.tree_operations.specs.declared.selection.Selection.TheViews.{out-Selection, roll-Selection, out-roll-Selection, roll-Field, out-roll-Field, roll-InlineFragment, out-roll-InlineFragment}
use Rattle.tree_operations.specs.declared.selection.Selection.TheFolds.{map-Selection, map-Field, map-InlineFragment, fold_out-Selection, fold_out-Field, fold_out-InlineFragment, ind-Selection, ind-Field, ind-InlineFragment}
use Rattle.tree_operations.specs.contracts.selection.SelectionPartialEq.TheImpl as selection
use Rattle.tree_operations.specs.contracts.selection.SelectionPartialEq.TheImpl.Laws as selection_laws
use Rattle.tree_operations.specs.contracts.selection.FieldPartialEq.TheImpl as field
use Rattle.tree_operations.specs.contracts.selection.FieldPartialEq.TheImpl.Laws as field_laws
use Rattle.tree_operations.specs.contracts.selection.InlineFragmentPartialEq.TheImpl as inline
use Rattle.tree_operations.specs.contracts.selection.InlineFragmentPartialEq.TheImpl.Laws as inline_laws
use Rattle.tree_operations.specs.contracts.selection.FragmentSpreadPartialEq.TheImpl as spread

abbrev pub selection_eq : Selection → Selection → Bool
selection_eq = selection.ghosts.eq

abbrev pub field_eq : Field → Field → Bool
field_eq = field.ghosts.eq

abbrev pub inline_eq : InlineFragment → InlineFragment → Bool
inline_eq = inline.ghosts.eq

abbrev pub spread_eq : FragmentSpread → FragmentSpread → Bool
spread_eq = spread.ghosts.eq

-- two fields, spreads, inline fragments are the same, apart from places
abbrev pub SameField : Field → Field → Type 0
SameField d e = unplaced_selection (field_tree None d) ≡ unplaced_selection (field_tree None e)

abbrev pub SameSpread : FragmentSpread → FragmentSpread → Type 0
SameSpread d e = unplaced_selection (spread_tree None d) ≡ unplaced_selection (spread_tree None e)

abbrev pub SameInline : InlineFragment → InlineFragment → Type 0
SameInline d e = unplaced_selection (inline_tree None d) ≡ unplaced_selection (inline_tree None e)

abbrev IsSame : Selection → Type 0
IsSame d = (e : Selection) → Decides (selection_eq d e) (unplaced_selection (selection_tree d) ≡ unplaced_selection (selection_tree e))

abbrev IsSameField : Field → Type 0
IsSameField d = (e : Field) → Decides (field_eq d e) (SameField d e)

abbrev IsSameInline : InlineFragment → Type 0
IsSameInline d = (e : InlineFragment) → Decides (inline_eq d e) (SameInline d e)

-- a spread's parts decide
pub spread_eq-Decides : (d e : FragmentSpread) → Decides (spread_eq d e) (SameSpread d e)
spread_eq-Decides d e =
    through
    (pair_decides _ _ (name_decides d.fragment_name e.fragment_name) (directive_list_eq-Decides d.directives e.directives))
    (λ s i. SpreadTree tt (s.0 i) (s.1 i))
    (λ r. (cc, cc))

trees_decide : (xs ys : List Selection) → Each IsSame xs → Decides (pointwise selection_eq xs ys) (unplaced_selections (selection_trees selection_tree xs) ≡ unplaced_selections (selection_trees selection_tree ys))
trees_decide [] [] h = (λ r. refl, λ r. refl)
trees_decide [] (y ∷ ys) h = (λ r. cc, λ r. cc)
trees_decide (x ∷ xs) [] h = (λ r. cc, λ r. cc)
trees_decide (x ∷ xs) (y ∷ ys) h = through (pair_decides _ _ (h.0 y) (trees_decide xs ys h.1)) (λ s i. selection_then (s.0 i) (s.1 i)) (λ r. (cc, cc))

-- what a field without its place is made of
field_parts : {h k : FieldHead (Unit {0})} {s t : SelectionTrees (Unit {0})} → FieldTree tt h s ≡ FieldTree tt k t → (h.alias ≡ k.alias) × ((h.name ≡ k.name) × ((h.arguments ≡ k.arguments) × ((h.directives ≡ k.directives) × (s ≡ t))))
field_parts {h = h} {k = k} {s = s} {t = t} r =
    let heads : h ≡ k = cc in
    let sets : s ≡ t = cc in
    (ap (λ (x : FieldHead (Unit {0})). x.alias) heads, (ap (λ (x : FieldHead (Unit {0})). x.name) heads, (ap (λ (x : FieldHead (Unit {0})). x.arguments) heads, (ap (λ (x : FieldHead (Unit {0})). x.directives) heads, sets))))

field_decides : (d e : Field) → Each IsSame d.selection_set.items → Decides (field_laws.unfolded d e) (SameField d e)
field_decides d e h =
    through
    (pair_decides _ _ (options_decide _ unplaced_text name_tree name_decides d.alias e.alias)
    (pair_decides _ _ (name_decides d.name e.name)
    (pair_decides _ _ (nodes_decide argument_eq unplaced_argument argument_tree argument_eq-Decides d.arguments.items e.arguments.items)
    (pair_decides _ _ (directive_list_eq-Decides d.directives e.directives)
    (trees_decide d.selection_set.items e.selection_set.items h)))))
    (λ s i. FieldTree tt (record { alias = s.0 i; name = s.1.0 i; arguments = s.1.1.0 i; directives = s.1.1.1.0 i }) (s.1.1.1.1 i))
    (λ r. field_parts r)

inline_decides : (d e : InlineFragment) → Each IsSame d.selection_set.items → Decides (inline_laws.unfolded d e) (SameInline d e)
inline_decides d e h =
    through
    (pair_decides _ _ (options_decide _ unplaced_text name_tree name_decides d.type_condition e.type_condition)
    (pair_decides _ _ (directive_list_eq-Decides d.directives e.directives)
    (trees_decide d.selection_set.items e.selection_set.items h)))
    (λ s i. InlineTree tt (s.0 i) (s.1.0 i) (s.1.1 i))
    (λ r. (cc, (cc, cc)))

-- what the layer holds is so
abbrev Below : Selection-F Selection Field InlineFragment → Type 0
Below (FieldOf n) = IsSameField (content n)
Below (SpreadOf n) = Unit {0}
Below (InlineOf n) = IsSameInline (content n)

-- the tree of a layer
abbrev tree_here : Selection-F Selection Field InlineFragment → SelectionTree Place
tree_here (FieldOf n) = field_tree (place n) (content n)
tree_here (SpreadOf n) = spread_tree (place n) (content n)
tree_here (InlineOf n) = inline_tree (place n) (content n)

tree_layer : (x : Selection-F Selection Field InlineFragment) → selection_step (map-Selection Selection Field InlineFragment (SelectionTree Place) AtPlace AtPlace selection_tree field_at inline_at x) ≡ tree_here x
tree_layer (FieldOf n) =
    ap (λ (f : AtPlace). f (place n)) (fold_out-Field (SelectionTree Place) AtPlace AtPlace selection_step field_step inline_step (content n))
    ∙ ap (FieldTree (place n) (field_head (content n))) (selection_trees-map (λ t. t) selection_tree (content n).selection_set.items)
tree_layer (SpreadOf n) = refl
tree_layer (InlineOf n) =
    ap (λ (f : AtPlace). f (place n)) (fold_out-InlineFragment (SelectionTree Place) AtPlace AtPlace selection_step field_step inline_step (content n))
    ∙ ap (InlineTree (place n) (option_map name_tree (content n).type_condition) (directives_tree (content n).directives)) (selection_trees-map (λ t. t) selection_tree (content n).selection_set.items)

selection_tree_out : (s : Selection) → selection_tree s ≡ tree_here (out-Selection s)
selection_tree_out s = fold_out-Selection (SelectionTree Place) AtPlace AtPlace selection_step field_step inline_step s ∙ tree_layer (out-Selection s)

same_layers : (x y : Selection-F Selection Field InlineFragment) → Below x → (d e : Selection) → out-Selection d ≡ x → out-Selection e ≡ y → Decides (selection_laws.unfolded d e) (unplaced_selection (tree_here x) ≡ unplaced_selection (tree_here y))
same_layers (FieldOf a) (FieldOf b) h d e p q = rw (p, q) (h (content b))
same_layers (SpreadOf a) (SpreadOf b) h d e p q = rw (p, q) (spread_eq-Decides (content a) (content b))
same_layers (InlineOf a) (InlineOf b) h d e p q = rw (p, q) (h (content b))
same_layers _ _ h d e p q = rw (p, q) ((λ r. cc), (λ r. cc))

same_at : (x : Selection-F Selection Field InlineFragment) → Below x → IsSame (roll-Selection x)
same_at x h e =
    carried
    (selection_laws.is (roll-Selection x) e)
    (ap unplaced_selection (selection_tree_out (roll-Selection x) ∙ ap tree_here (out-roll-Selection x)))
    (ap unplaced_selection (selection_tree_out e))
    (same_layers x (out-Selection e) h (roll-Selection x) e (out-roll-Selection x) refl)

same_field_at : (x : Field-F Selection Field InlineFragment) → Each IsSame x.selection_set.items → IsSameField (roll-Field x)
same_field_at x h e =
    carried (field_laws.is (roll-Field x) e) refl refl
    (field_decides (roll-Field x) e (subst (λ (z : Field-F Selection Field InlineFragment). Each IsSame z.selection_set.items) (sym (out-roll-Field x)) h))

same_inline_at : (x : InlineFragment-F Selection Field InlineFragment) → Each IsSame x.selection_set.items → IsSameInline (roll-InlineFragment x)
same_inline_at x h e =
    carried (inline_laws.is (roll-InlineFragment x) e) refl refl
    (inline_decides (roll-InlineFragment x) e (subst (λ (z : InlineFragment-F Selection Field InlineFragment). Each IsSame z.selection_set.items) (sym (out-roll-InlineFragment x)) h))

abbrev Such : Type 0
Such = (d : Selection) × IsSame d

abbrev SuchField : Type 0
SuchField = (d : Field) × IsSameField d

abbrev SuchInline : Type 0
SuchInline = (d : InlineFragment) × IsSameInline d

below_such : (y : Selection-F Such SuchField SuchInline) → Below (map-Selection Such SuchField SuchInline Selection Field InlineFragment (λ s. s.0) (λ s. s.0) (λ s. s.0) y)
below_such (FieldOf n) = (content n).1
below_such (SpreadOf n) = tt
below_such (InlineOf n) = (content n).1

below_set : (ys : List Such) → Each IsSame (map (λ s. s.0) ys)
below_set [] = tt
below_set (y ∷ ys) = (y.1, below_set ys)

at_selection : (x : Selection-F Selection Field InlineFragment) (y : Selection-F Such SuchField SuchInline) → map-Selection Such SuchField SuchInline Selection Field InlineFragment (λ s. s.0) (λ s. s.0) (λ s. s.0) y ≡ x → IsSame (roll-Selection x)
at_selection x y is = same_at x (subst Below is (below_such y))

at_field : (x : Field-F Selection Field InlineFragment) (y : Field-F Such SuchField SuchInline) → map-Field Such SuchField SuchInline Selection Field InlineFragment (λ s. s.0) (λ s. s.0) (λ s. s.0) y ≡ x → IsSameField (roll-Field x)
at_field x y is = same_field_at x (subst (λ (z : Field-F Selection Field InlineFragment). Each IsSame z.selection_set.items) is (below_set y.selection_set.items))

at_inline : (x : InlineFragment-F Selection Field InlineFragment) (y : InlineFragment-F Such SuchField SuchInline) → map-InlineFragment Such SuchField SuchInline Selection Field InlineFragment (λ s. s.0) (λ s. s.0) (λ s. s.0) y ≡ x → IsSameInline (roll-InlineFragment x)
at_inline x y is = same_inline_at x (subst (λ (z : InlineFragment-F Selection Field InlineFragment). Each IsSame z.selection_set.items) is (below_set y.selection_set.items))

pub selection_eq-Decides : (d e : Selection) → Decides (selection_eq d e) (unplaced_selection (selection_tree d) ≡ unplaced_selection (selection_tree e))
selection_eq-Decides = ind-Selection IsSame IsSameField IsSameInline at_selection at_field at_inline

pub field_eq-Decides : (d e : Field) → Decides (field_eq d e) (SameField d e)
field_eq-Decides = ind-Field IsSame IsSameField IsSameInline at_selection at_field at_inline

pub inline_eq-Decides : (d e : InlineFragment) → Decides (inline_eq d e) (SameInline d e)
inline_eq-Decides = ind-InlineFragment IsSame IsSameField IsSameInline at_selection at_field at_inline

pub selections_decide : (xs ys : List Selection) → Decides (pointwise selection_eq xs ys) (unplaced_selections (selection_trees selection_tree xs) ≡ unplaced_selections (selection_trees selection_tree ys))
selections_decide xs ys = trees_decide xs ys (all_same xs)
  where
    all_same : (zs : List Selection) → Each IsSame zs
    all_same [] = tt
    all_same (z ∷ zs) = (selection_eq-Decides z, all_same zs)
