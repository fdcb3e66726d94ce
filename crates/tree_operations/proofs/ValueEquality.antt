-- `==` of two values says whether their trees are the same, apart from places.
use Rattle.std.proofs.Common.{◌≡◌, Bool, ◌&&◌, List, [], ◌∷◌, map, refl, ap, sym, ◌∙◌, subst, nat_eq}
use Rattle.std.specs.Bool.{Decides}
use Rattle.std.specs.Cmp.{booleans_Decides}
use Rattle.std.specs.Cmp.Lexicographic.{pointwise}
use Rattle.std.specs.String.{string_bytes}
use Rattle.std.proofs.lemmas.Slice.Eq.{bytes_eq-Decides}
use Rattle.tree_directives.specs.in_literals.in_names.Node.{content}
use Rattle.tree_directives.specs.in_literals.in_names.declared.name.Name.{Name}
use Rattle.tree_directives.specs.in_literals.in_names.declared.node.Node.{Node}
use Rattle.tree_directives.specs.in_literals.in_names.Placed.{Place, name_tree}
use Rattle.tree_directives.specs.in_literals.ValueTree.{ValueTree, NullTree, EnumTree, VariableTree, StringTree, FloatTree, IntTree, BooleanTree, ListTree, ObjectTree, item_then, entry_then, item_trees, entry_trees, value_tree, value_tree_step, unplaced_value, unplaced_items, unplaced_entries}
use Rattle.tree_operations.proofs.Decided.{Each, through, carried, pair_decides, name_decides}
use Rattle.tree_directives.proofs.in_literals.Trees.{item_trees-map, entry_trees-map}
use Rattle.tree_directives.specs.in_literals.declared.value.Value.{Value}
use Rattle.tree_directives.specs.in_literals.declared.value.Value.TheOpen.{Value-F, Null, Enum, Variable, String, Float, Int, Boolean, List as ListOf, Object}
use Rattle.tree_directives.specs.in_literals.declared.value.Value.TheViews.{out-Value, roll-Value, out-roll-Value}
use Rattle.tree_directives.specs.in_literals.declared.value.Value.TheFolds.{map-Value, fold_out-Value, ind-Value}
use Rattle.tree_directives.specs.in_literals.contracts.value.ValuePartialEq.TheImpl as eq
use Rattle.tree_directives.specs.in_literals.contracts.value.ValuePartialEq.TheImpl.Laws as eq_laws

abbrev pub value_eq : Value → Value → Bool
value_eq = eq.ghosts.eq

abbrev IsSame : Value → Type 0
IsSame d = (e : Value) → Decides (value_eq d e) (unplaced_value (value_tree d) ≡ unplaced_value (value_tree e))

-- each value that the layer holds is so
abbrev Below : Value-F Value → Type 0
Below (ListOf v) = Each (λ n. IsSame (content n)) v.items
Below (Object v) = Each (λ p. IsSame (content p.1)) v.items
Below _ = Unit {0}

items_decide : (xs ys : List (Node Value)) → Each (λ n. IsSame (content n)) xs → Decides (pointwise (λ a b. value_eq (content a) (content b)) xs ys) (unplaced_items (item_trees value_tree xs) ≡ unplaced_items (item_trees value_tree ys))
items_decide [] [] h = (λ r. refl, λ r. refl)
items_decide [] (y ∷ ys) h = (λ r. cc, λ r. cc)
items_decide (x ∷ xs) [] h = (λ r. cc, λ r. cc)
items_decide (x ∷ xs) (y ∷ ys) h = through (pair_decides _ _ (h.0 (content y)) (items_decide xs ys h.1)) (λ s i. item_then tt (s.0 i) (s.1 i)) (λ r. (cc, cc))

entries_decide : (xs ys : List (Name × Node Value)) → Each (λ p. IsSame (content p.1)) xs → Decides (pointwise (λ a b. pointwise nat_eq a.0.text b.0.text && value_eq (content a.1) (content b.1)) xs ys) (unplaced_entries (entry_trees value_tree xs) ≡ unplaced_entries (entry_trees value_tree ys))
entries_decide [] [] h = (λ r. refl, λ r. refl)
entries_decide [] (y ∷ ys) h = (λ r. cc, λ r. cc)
entries_decide (x ∷ xs) [] h = (λ r. cc, λ r. cc)
entries_decide (x ∷ xs) (y ∷ ys) h = through (pair_decides _ _ (pair_decides _ _ (name_decides x.0 y.0) (h.0 (content y.1))) (entries_decide xs ys h.1)) (λ s i. entry_then (s.0.0 i) tt (s.0.1 i) (s.1 i)) (λ r. ((cc, cc), cc))

-- the tree of a layer
abbrev tree_here : Value-F Value → ValueTree Place
tree_here Null = NullTree
tree_here (Enum n) = EnumTree (name_tree n)
tree_here (Variable n) = VariableTree (name_tree n)
tree_here (String s) = StringTree (string_bytes s)
tree_here (Float n) = FloatTree n.text
tree_here (Int n) = IntTree n.text
tree_here (Boolean b) = BooleanTree b
tree_here (ListOf v) = ListTree (item_trees value_tree v.items)
tree_here (Object v) = ObjectTree (entry_trees value_tree v.items)

tree_layer : (x : Value-F Value) → value_tree_step (map-Value Value (ValueTree Place) value_tree x) ≡ tree_here x
tree_layer (ListOf v) = ap ListTree (item_trees-map (λ t. t) value_tree _ (λ n. refl) (λ n. refl) v.items)
tree_layer (Object v) = ap ObjectTree (entry_trees-map (λ t. t) value_tree _ (λ n. refl) (λ n. refl) (λ n. refl) v.items)
tree_layer _ = refl

value_tree_out : (v : Value) → value_tree v ≡ tree_here (out-Value v)
value_tree_out v = fold_out-Value (ValueTree Place) value_tree_step v ∙ tree_layer (out-Value v)

same_layers : (x y : Value-F Value) → Below x → (d e : Value) → out-Value d ≡ x → out-Value e ≡ y → Decides (eq_laws.unfolded d e) (unplaced_value (tree_here x) ≡ unplaced_value (tree_here y))
same_layers Null Null h d e p q = rw (p, q) ((λ r. refl), (λ r. refl))
same_layers (Enum a) (Enum b) h d e p q = rw (p, q) (through (name_decides a b) (ap EnumTree) (λ r. cc))
same_layers (Variable a) (Variable b) h d e p q = rw (p, q) (through (name_decides a b) (ap VariableTree) (λ r. cc))
same_layers (String a) (String b) h d e p q = rw (p, q) (through (bytes_eq-Decides (string_bytes a) (string_bytes b)) (ap StringTree) (λ r. cc))
same_layers (Float a) (Float b) h d e p q = rw (p, q) (through (bytes_eq-Decides a.text b.text) (ap FloatTree) (λ r. cc))
same_layers (Int a) (Int b) h d e p q = rw (p, q) (through (bytes_eq-Decides a.text b.text) (ap IntTree) (λ r. cc))
same_layers (Boolean a) (Boolean b) h d e p q = rw (p, q) (through (booleans_Decides a b) (ap BooleanTree) (λ r. cc))
same_layers (ListOf a) (ListOf b) h d e p q = rw (p, q) (through (items_decide a.items b.items h) (ap ListTree) (λ r. cc))
same_layers (Object a) (Object b) h d e p q = rw (p, q) (through (entries_decide a.items b.items h) (ap ObjectTree) (λ r. cc))
same_layers _ _ h d e p q = rw (p, q) ((λ r. cc), (λ r. cc))

same_at : (x : Value-F Value) → Below x → IsSame (roll-Value x)
same_at x h e =
    carried
    (eq_laws.is (roll-Value x) e)
    (ap unplaced_value (value_tree_out (roll-Value x) ∙ ap tree_here (out-roll-Value x)))
    (ap unplaced_value (value_tree_out e))
    (same_layers x (out-Value e) h (roll-Value x) e (out-roll-Value x) refl)

abbrev Such : Type 0
Such = (d : Value) × IsSame d

below_items : (f : Node Such → Node Value) → ((n : Node Such) → content (f n) ≡ (content n).0) → (ns : List (Node Such)) → Each (λ n. IsSame (content n)) (map f ns)
below_items f e [] = tt
below_items f e (n ∷ ns) = (subst IsSame (sym (e n)) (content n).1, below_items f e ns)

below_entries : (f : Name × Node Such → Name × Node Value) → ((p : Name × Node Such) → content (f p).1 ≡ (content p.1).0) → (ps : List (Name × Node Such)) → Each (λ p. IsSame (content p.1)) (map f ps)
below_entries f e [] = tt
below_entries f e (p ∷ ps) = (subst IsSame (sym (e p)) (content p.1).1, below_entries f e ps)

below_such : (y : Value-F Such) → Below (map-Value Such Value (λ s. s.0) y)
below_such (ListOf v) = below_items _ (λ n. refl) v.items
below_such (Object v) = below_entries _ (λ p. refl) v.items
below_such _ = tt

pub value_eq-Decides : (d e : Value) → Decides (value_eq d e) (unplaced_value (value_tree d) ≡ unplaced_value (value_tree e))
value_eq-Decides = ind-Value IsSame (λ x y is. same_at x (subst Below is (below_such y)))
