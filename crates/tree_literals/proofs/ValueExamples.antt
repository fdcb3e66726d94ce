-- The layout of small types and values, computed. The texts are written by hand.
use Rattle.std.proofs.Common.{◌≡◌, ℕ, List, codes, true, false, refl}
use Rattle.tree_literals.specs.Joined.{joined}
use Rattle.graphql_names.specs.Placed.{Text}
use Rattle.tree_literals.specs.TypeTree.{NamedTree, NonNullNamedTree, NonNullListTree}
use Rattle.tree_literals.specs.TypeTree as type
use Rattle.tree_literals.specs.ValueTree.{ValueTree, NullTree, EnumTree, VariableTree, StringTree, FloatTree, IntTree, BooleanTree, ListTree, ObjectTree, no_items, item_then, no_entries, entry_then}
use Rattle.tree_literals.specs.ValueLayout.{type_text, value_text}

abbrev U : Type 0
U = Unit {0}

abbrev text : List ℕ → Text U
text t = record { it = t; place = tt }

nested_type : type_text (NonNullListTree (type.ListTree (NonNullNamedTree (text (codes "T"))))) ≡ codes "[[T!]]!"
unfolding joined
nested_type = refl

abbrev empty_list : ValueTree U
empty_list = ListTree no_items

no_items_at_all : value_text empty_list ≡ codes "[]"
unfolding joined
no_items_at_all = refl

abbrev empty_object : ValueTree U
empty_object = ObjectTree no_entries

no_fields_at_all : value_text empty_object ≡ codes "{}"
unfolding joined
no_fields_at_all = refl

values : value_text (ListTree (item_then tt NullTree (item_then tt (EnumTree (text (codes "E"))) (item_then tt (FloatTree (codes "-1.5")) (item_then tt (BooleanTree true) no_items))))) ≡ codes "[null, E, -1.5, true]"
unfolding joined
values = refl

fields : value_text (ObjectTree (entry_then (text (codes "k")) tt (VariableTree (text (codes "v"))) (entry_then (text (codes "l")) tt (StringTree (codes "s")) no_entries))) ≡ codes "{k: $v, l: \"s\"}"
unfolding joined
fields = refl
