-- `==` of two references to types says whether their trees are the same, apart from places.
use Rattle.std.proofs.Common.{◌≡◌, Bool, refl, ap, ◌∙◌, subst}
use Rattle.std.specs.Bool.{Decides}
use Rattle.tree_directives.specs.in_literals.in_names.Placed.{Place, name_tree}
use Rattle.tree_directives.specs.in_literals.TypeTree.{TypeTree, NamedTree, NonNullNamedTree, ListTree, NonNullListTree, type_tree, type_tree_step, unplaced_type}
use Rattle.tree_operations.proofs.Decided.{through, carried, name_decides}
use Rattle.tree_directives.specs.in_literals.declared.ty.«Type».{«Type»}
use Rattle.tree_directives.specs.in_literals.declared.ty.«Type».TheOpen.{Type-F, Named, NonNullNamed, List, NonNullList}
use Rattle.tree_directives.specs.in_literals.declared.ty.«Type».TheViews.{out-Type, roll-Type, out-roll-Type, parts_is-Type}
use Rattle.tree_directives.specs.in_literals.declared.ty.«Type».TheFolds.{map-Type, fold_out-Type, ind-Type}
use Rattle.tree_directives.specs.in_literals.contracts.ty.TypePartialEq.TheImpl as eq
use Rattle.tree_directives.specs.in_literals.contracts.ty.TypePartialEq.TheImpl.Laws as eq_laws

abbrev pub type_eq : «Type» → «Type» → Bool
type_eq = eq.ghosts.eq

abbrev IsSame : «Type» → Type 0
IsSame d = (e : «Type») → Decides (type_eq d e) (unplaced_type (type_tree d) ≡ unplaced_type (type_tree e))

abbrev Below : Type-F «Type» → Type 0
Below (List b) = IsSame b.value
Below (NonNullList b) = IsSame b.value
Below _ = Unit {0}

-- the tree of a layer
abbrev tree_here : Type-F «Type» → TypeTree Place
tree_here (Named n) = NamedTree (name_tree n)
tree_here (NonNullNamed n) = NonNullNamedTree (name_tree n)
tree_here (List b) = ListTree (type_tree b.value)
tree_here (NonNullList b) = NonNullListTree (type_tree b.value)

tree_layer : (x : Type-F «Type») → type_tree_step (map-Type «Type» (TypeTree Place) type_tree x) ≡ tree_here x
tree_layer (List b) = refl
tree_layer (NonNullList b) = refl
tree_layer _ = refl

type_tree_out : (t : «Type») → type_tree t ≡ tree_here (out-Type t)
type_tree_out t = fold_out-Type (TypeTree Place) type_tree_step t ∙ tree_layer (out-Type t)

same_layers : (x y : Type-F «Type») → Below x → (d e : «Type») → out-Type d ≡ x → out-Type e ≡ y → Decides (eq_laws.unfolded d e) (unplaced_type (tree_here x) ≡ unplaced_type (tree_here y))
same_layers (Named a) (Named b) h d e p q = rw (parts_is-Type d, parts_is-Type e, p, q) (through (name_decides a b) (ap NamedTree) (λ r. cc))
same_layers (NonNullNamed a) (NonNullNamed b) h d e p q = rw (parts_is-Type d, parts_is-Type e, p, q) (through (name_decides a b) (ap NonNullNamedTree) (λ r. cc))
same_layers (List a) (List b) h d e p q = rw (parts_is-Type d, parts_is-Type e, p, q) (through (h b.value) (ap ListTree) (λ r. cc))
same_layers (NonNullList a) (NonNullList b) h d e p q = rw (parts_is-Type d, parts_is-Type e, p, q) (through (h b.value) (ap NonNullListTree) (λ r. cc))
same_layers _ _ h d e p q = rw (parts_is-Type d, parts_is-Type e, p, q) ((λ r. cc), (λ r. cc))

same_at : (x : Type-F «Type») → Below x → IsSame (roll-Type x)
same_at x h e =
    carried
    (eq_laws.is (roll-Type x) e)
    (ap unplaced_type (type_tree_out (roll-Type x) ∙ ap tree_here (out-roll-Type x)))
    (ap unplaced_type (type_tree_out e))
    (same_layers x (out-Type e) h (roll-Type x) e (out-roll-Type x) refl)

abbrev Such : Type 0
Such = (d : «Type») × IsSame d

below_such : (y : Type-F Such) → Below (map-Type Such «Type» (λ s. s.0) y)
below_such (List b) = b.value.1
below_such (NonNullList b) = b.value.1
below_such _ = tt

pub type_eq-Decides : (d e : «Type») → Decides (type_eq d e) (unplaced_type (type_tree d) ≡ unplaced_type (type_tree e))
type_eq-Decides = ind-Type IsSame (λ x y is. same_at x (subst Below is (below_such y)))
