-- Private: leads to what is told of a schema. Trees with other places.
use Rattle.std.specs.Prelude.{map}
use Rattle.graphql_names.specs.Placed.{Placed, Text}
use Rattle.tree_literals.specs.ValueTree.{ValueTree, ItemTrees, EntryTrees, NullTree, EnumTree, VariableTree, StringTree, FloatTree, IntTree, BooleanTree, ListTree, ObjectTree, no_items, item_then, no_entries, entry_then}
use Rattle.tree_directives.specs.DirectiveTree.{ArgumentTree, DirectiveTree}
use Rattle.rule_values.specs.in_rule_definitions.GivenValues.{Wanted}
use Rattle.rule_values.specs.in_rule_definitions.Uses.{Taker}

-- p maps each place that a rule can tell; the other names get the place `none`
module _ {P Q : Type 0} (p : P → Q) (none : Q) where
  abbrev pub moved_text : Text P → Text Q
  moved_text t = record { it = t.it; place = p t.place }

  abbrev pub untold_text : Text P → Text Q
  untold_text t = record { it = t.it; place = none }

  abbrev mutual
    pub moved_value : ValueTree P → ValueTree Q
    moved_value NullTree = NullTree
    moved_value (EnumTree n) = EnumTree (untold_text n)
    moved_value (VariableTree n) = VariableTree (untold_text n)
    moved_value (StringTree s) = StringTree s
    moved_value (FloatTree s) = FloatTree s
    moved_value (IntTree s) = IntTree s
    moved_value (BooleanTree b) = BooleanTree b
    moved_value (ListTree ts) = ListTree (moved_items ts)
    moved_value (ObjectTree es) = ObjectTree (moved_entries es)

    pub moved_items : ItemTrees P → ItemTrees Q
    moved_items no_items = no_items
    moved_items (item_then place v ts) = item_then (p place) (moved_value v) (moved_items ts)

    pub moved_entries : EntryTrees P → EntryTrees Q
    moved_entries no_entries = no_entries
    moved_entries (entry_then n place v es) = entry_then (moved_text n) (p place) (moved_value v) (moved_entries es)

  abbrev pub moved_placed : Placed P (ValueTree P) → Placed Q (ValueTree Q)
  moved_placed v = record { it = moved_value v.it; place = p v.place }

  abbrev pub moved_entry : Text P × Placed P (ValueTree P) → Text Q × Placed Q (ValueTree Q)
  moved_entry e = (moved_text e.0, moved_placed e.1)

  abbrev pub moved_argument : Placed P (ArgumentTree P) → Placed Q (ArgumentTree Q)
  moved_argument a = record { it = record { name = untold_text a.it.name; value = moved_placed a.it.value }; place = p a.place }

  abbrev pub moved_directive : Placed P (DirectiveTree P) → Placed Q (DirectiveTree Q)
  moved_directive d = record { it = record { name = untold_text d.it.name; arguments = map moved_argument d.it.arguments }; place = p d.place }

  abbrev pub moved_wanted : Wanted P → Wanted Q
  moved_wanted ty = record { it = ty.it; place = p ty.place }

  abbrev pub moved_taker : Taker P → Taker Q
  moved_taker t = record {
    place = p t.place;
    given = map moved_argument t.given;
    holder = t.holder;
    definitions = t.definitions;
    definition_location = p t.definition_location;
    coordinate = t.coordinate;
    argument_coordinate = t.argument_coordinate;
  }
