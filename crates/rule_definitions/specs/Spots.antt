-- Where something is that a rule is about: at an address of the schema, or inside a value that is written there.
use Rattle.std.specs.Prelude.{◌≡◌, ℕ, zero, suc, List, [], ◌∷◌, Option, None, Some, option_map, option_and_then, slice_get}
use Rattle.graphql_names.specs.Placed.{Placed, Place, Text}
use Rattle.graphql_names.specs.Places.{Recomposes}
use Rattle.tree_literals.specs.ValueTree.{ValueTree, ItemTrees, EntryTrees, NullTree, EnumTree, VariableTree, StringTree, FloatTree, IntTree, BooleanTree, ListTree, ObjectTree, no_items, item_then, no_entries, entry_then}
use Rattle.tree_literals.specs.ValueQueries.{list_items, object_entries}
use Rattle.tree_directives.specs.DirectiveTree.{ArgumentTree, DirectiveTree, Directives}
use Rattle.schema_types.specs.SchemaTree.{SchemaTree}
use Rattle.schema_types.specs.Addresses.{Address, DirectiveDefinitionAt, NameAt, DirectiveAt, GivenAt, GivenValueAt, place_at, given_at}
use Rattle.rule_definitions.specs.GivenValues.{entry_list}

pub data Spot : Type 0 where
  At : Address → Spot
  -- from the first token of a directive's definition to its name
  HeadAt : (directive : List ℕ) → Spot
  -- an item of a list; a key of an object, and the value under it
  ItemAt : (list : Spot) (index : ℕ) → Spot
  KeyAt : (object : Spot) (index : ℕ) → Spot
  EntryAt : (object : Spot) (index : ℕ) → Spot

-- ---- what is written at a place of the schema, with spots instead of places

-- f of each of these and its index, counted from i
abbrev pub each_from : {X Y : Type 0} → (ℕ → X → Y) → ℕ → List X → List Y
each_from f i [] = []
each_from f i (x ∷ xs) = f i x ∷ each_from f (suc i) xs

abbrev pub spotted_text : Spot → Text (Unit {0}) → Text Spot
spotted_text at t = record { it = t.it; place = at }

abbrev mutual
  pub spotted_value : Spot → ValueTree (Unit {0}) → ValueTree Spot
  spotted_value at NullTree = NullTree
  spotted_value at (EnumTree n) = EnumTree (spotted_text at n)
  spotted_value at (VariableTree n) = VariableTree (spotted_text at n)
  spotted_value at (StringTree s) = StringTree s
  spotted_value at (FloatTree s) = FloatTree s
  spotted_value at (IntTree s) = IntTree s
  spotted_value at (BooleanTree b) = BooleanTree b
  spotted_value at (ListTree ts) = ListTree (spotted_items at 0 ts)
  spotted_value at (ObjectTree ts) = ObjectTree (spotted_entries at 0 ts)

  pub spotted_items : Spot → ℕ → ItemTrees (Unit {0}) → ItemTrees Spot
  spotted_items at i no_items = no_items
  spotted_items at i (item_then p t ts) = item_then (ItemAt at i) (spotted_value (ItemAt at i) t) (spotted_items at (suc i) ts)

  pub spotted_entries : Spot → ℕ → EntryTrees (Unit {0}) → EntryTrees Spot
  spotted_entries at i no_entries = no_entries
  spotted_entries at i (entry_then n p t ts) = entry_then (spotted_text (KeyAt at i) n) (EntryAt at i) (spotted_value (EntryAt at i) t) (spotted_entries at (suc i) ts)

abbrev pub spotted_argument : Address → Placed (Unit {0}) (ArgumentTree (Unit {0})) → Placed Spot (ArgumentTree Spot)
spotted_argument at a = record {
  it = record { name = spotted_text (At (NameAt at)) a.it.name; value = record { it = spotted_value (At (GivenValueAt at)) a.it.value.it; place = At (GivenValueAt at) } };
  place = At at;
}

-- a directive that is applied at that address
abbrev pub spotted_directive : Address → DirectiveTree (Unit {0}) → Placed Spot (DirectiveTree Spot)
spotted_directive at d = record {
  it = record { name = spotted_text (At (NameAt at)) d.name; arguments = each_from (λ i a. spotted_argument (GivenAt at i) a) 0 d.arguments };
  place = At at;
}

-- the directives that are applied at `holder`, in order
abbrev pub spotted_directives : Address → List (DirectiveTree (Unit {0})) → Directives Spot
spotted_directives holder ds = each_from (λ i d. spotted_directive (DirectiveAt holder i) d) 0 ds

-- ---- the place of a spot

abbrev pub item_of : {P : Type 0} → ItemTrees P → ℕ → Option (Placed P (ValueTree P))
item_of no_items i = None
item_of (item_then p v ts) zero = Some (record { it = v; place = p })
item_of (item_then p v ts) (suc i) = item_of ts i

module _ (s : SchemaTree Place) where
  -- the value that is written at the spot
  abbrev pub written_at : Spot → Option (Placed Place (ValueTree Place))
  written_at (At (GivenValueAt given)) = option_map (λ a. a.it.value) (given_at s given)
  written_at (ItemAt list i) = option_and_then (λ v. option_and_then (λ ts. item_of ts i) (list_items v.it)) (written_at list)
  written_at (EntryAt object i) = option_map (λ e. e.1) (option_and_then (λ v. option_and_then (λ ts. slice_get (entry_list ts) i) (object_entries v.it)) (written_at object))
  written_at _ = None

  abbrev pub spot_place : Spot → Place
  spot_place (At a) = place_at s a
  spot_place (KeyAt object i) = option_and_then (λ e. e.0.place) (option_and_then (λ v. option_and_then (λ ts. slice_get (entry_list ts) i) (object_entries v.it)) (written_at object))
  spot_place at = option_and_then (λ v. v.place) (written_at at)

  -- the spot is at this place of a text
  abbrev pub SpotIsAt : Spot → Place → Type 0
  SpotIsAt (HeadAt n) place = Recomposes (place_at s (DirectiveDefinitionAt n)) (place_at s (NameAt (DirectiveDefinitionAt n))) place
  SpotIsAt at place = place ≡ spot_place at
