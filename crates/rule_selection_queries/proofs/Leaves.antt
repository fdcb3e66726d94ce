-- A value with no values inside is the same as what equals it, and as nothing else.
use Rattle.std.proofs.Common.{◌≡◌, Bool, true, false, refl, ap, sym, subst, ◌∙◌, true≢false}
use Rattle.std.specs.Prelude.{Vec}
use Rattle.std.specs.Bool.{Decides}
use Rattle.std.specs.declared.alloc.Global.{Global}
use Rattle.std.proofs.lemmas.Bool.Decides.{same_from_decides}
use Rattle.graphql_names.specs.declared.name.Name.{Name}
use Rattle.graphql_names.specs.declared.node.Node.{Node}
use Rattle.graphql_names.specs.Placed.{Place}
use Rattle.tree_literals.specs.ValueTree.{ValueTree, ListTree, ObjectTree, value_tree, value_tree_step, unplaced_value}
use Rattle.tree_literals.specs.declared.value.Value.{Value}
use Rattle.tree_literals.specs.declared.value.Value.TheOpen.{Value-F, List as ListOf, Object as ObjectOf}
use Rattle.tree_literals.specs.declared.value.Value.TheViews.{List as List', Object as Object', roll-Value, out-roll-Value}
use Rattle.tree_literals.specs.declared.value.Value.TheVariants.{rolls-List, rolls-Object}
use Rattle.tree_literals.specs.declared.value.Value.TheFolds.{map-Value, fold_out-Value, ind-Value}
use Rattle.rule_document_definitions.specs.SameValues.{SameValue, same_null, same_enum, same_variable, same_string, same_float, same_int, same_boolean, same_list, same_object}
use Rattle.rule_selection_queries.specs.Tests.{Plain, plain, same}
use Rattle.rule_selection_queries.proofs.Deciding.{same_decides}
use Rattle.rule_selection_queries.proofs.Equivalences.{value_refl}

abbrev holds_no_value : Plain → Bool
holds_no_value (ListTree ts) = false
holds_no_value (ObjectTree es) = false
holds_no_value _ = true

equal_leaf : {v w : Plain} → holds_no_value v ≡ true → SameValue v w → v ≡ w
equal_leaf h same_null = refl
equal_leaf h (same_enum a) = refl
equal_leaf h (same_variable a) = refl
equal_leaf h (same_string a) = refl
equal_leaf h (same_float a) = refl
equal_leaf h (same_int a) = refl
equal_leaf h (same_boolean a) = refl
equal_leaf h (same_list a b s) = absurd (true≢false (sym h))
equal_leaf h (same_object a b s) = absurd (true≢false (sym h))

-- what decides that a leaf equals a value is the test of these
equal_is_same : (v w : Plain) (r : Bool) → holds_no_value v ≡ true → Decides r (v ≡ w) → r ≡ same v w
equal_is_same v w r h d = same_from_decides r (same v w) (λ t. subst (λ x. SameValue v x) (d.0 t) (value_refl v), λ s. d.1 (equal_leaf h s)) (same_decides v w)

-- a value is a leaf where it is no list and no object
abbrev HoldsNoValue : Value → Type 0
HoldsNoValue a = ((v : Vec (Node Value) Global) → a ≡ List' v → ⊥) × ((v : Vec (Name × Node Value) Global) → a ≡ Object' v → ⊥)

leaf_here : (x : Value-F Value) → HoldsNoValue (roll-Value x) → holds_no_value (plain (roll-Value x)) ≡ true
leaf_here x other = step ∙ by x other
  where
    step : holds_no_value (plain (roll-Value x)) ≡ holds_no_value (unplaced_value (value_tree_step (map-Value Value (ValueTree Place) value_tree x)))
    step =
        ap (λ t. holds_no_value (unplaced_value t)) (fold_out-Value (ValueTree Place) value_tree_step (roll-Value x)
        ∙ ap (λ y. value_tree_step (map-Value Value (ValueTree Place) value_tree y)) (out-roll-Value x))

    by : (x : Value-F Value) → HoldsNoValue (roll-Value x) → holds_no_value (unplaced_value (value_tree_step (map-Value Value (ValueTree Place) value_tree x))) ≡ true
    by (ListOf v) o = absurd (o.0 v (rolls-List v))
    by (ObjectOf v) o = absurd (o.1 v (rolls-Object v))
    by _ o = refl

leaf_other : (a : Value) → HoldsNoValue a → holds_no_value (plain a) ≡ true
leaf_other = ind-Value (λ a. HoldsNoValue a → holds_no_value (plain a) ≡ true) (λ x y is. leaf_here x)

pub leaf_is_same : (a b : Value) (r : Bool) → ((v : Vec (Node Value) Global) → a ≡ List' v → ⊥) → ((v : Vec (Name × Node Value) Global) → a ≡ Object' v → ⊥) → Decides r (plain a ≡ plain b) → r ≡ same (plain a) (plain b)
leaf_is_same a b r no_list no_object d = equal_is_same (plain a) (plain b) r (leaf_other a (no_list, no_object)) d
