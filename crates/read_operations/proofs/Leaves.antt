-- The trees of values that hold no others.
use Rattle.std.proofs.Common.{◌≡◌, Bool, ap, ◌∙◌}
use Rattle.std.specs.Prelude.{String}
use Rattle.std.specs.String.{string_bytes}
use Rattle.std.specs.declared.alloc.Global.{Global}
use Rattle.tree_literals.specs.NumberValue.{IntText, FloatText}
use Rattle.graphql_names.specs.Placed.{Place}
use Rattle.tree_literals.specs.ValueTree.{ValueTree, StringTree, FloatTree, IntTree, BooleanTree, value_tree, value_tree_step}
use Rattle.tree_literals.specs.declared.value.Value.{Value}
use Rattle.tree_literals.specs.declared.value.Value.TheVariants.{String as String', Float as Float', Int as Int', Boolean as Boolean'}
use Rattle.tree_literals.specs.declared.value.Value.TheViews.{outs-String, outs-Float, outs-Int, outs-Boolean}
use Rattle.tree_literals.specs.declared.value.Value.TheFolds.{map-Value, fold_out-Value}

pub value_tree_string : (s : String Global) → value_tree (String' s) ≡ StringTree (string_bytes s)
value_tree_string s =
    fold_out-Value (ValueTree Place) value_tree_step (String' s)
    ∙ ap (λ x. value_tree_step (map-Value Value (ValueTree Place) value_tree x)) (outs-String s)

pub value_tree_float : (n : FloatText) → value_tree (Float' n) ≡ FloatTree n.text
value_tree_float n =
    fold_out-Value (ValueTree Place) value_tree_step (Float' n)
    ∙ ap (λ x. value_tree_step (map-Value Value (ValueTree Place) value_tree x)) (outs-Float n)

pub value_tree_int : (n : IntText) → value_tree (Int' n) ≡ IntTree n.text
value_tree_int n =
    fold_out-Value (ValueTree Place) value_tree_step (Int' n)
    ∙ ap (λ x. value_tree_step (map-Value Value (ValueTree Place) value_tree x)) (outs-Int n)

pub value_tree_boolean : (b : Bool) → value_tree (Boolean' b) ≡ BooleanTree b
value_tree_boolean b =
    fold_out-Value (ValueTree Place) value_tree_step (Boolean' b)
    ∙ ap (λ x. value_tree_step (map-Value Value (ValueTree Place) value_tree x)) (outs-Boolean b)
