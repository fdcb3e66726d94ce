-- Where values are expected (GraphQL, October 2021, sections 3.6.1, 3.10, 3.11 and 5.8.5), and the values at any depth of a value,
-- each with the location that it is given for.
use Rattle.std.specs.Prelude.{ℕ, Bool, true, false, List, [], ◌∷◌, ◌++◌, is_some, Option}
use Rattle.std.specs.Option.{option_map_or, option_and_then}
use Rattle.tree_literals.specs.TypeTree.{TypeTree}
use Rattle.tree_literals.specs.TypeQueries.{item_type_of}
use Rattle.tree_literals.specs.ValueTree.{ValueTree, ItemTrees, EntryTrees, ListTree, ObjectTree, no_items, item_then, no_entries, entry_then}
use Rattle.tree_directives.specs.DirectiveTree.{InputValueTree}
use Rattle.rule_definitions.specs.Judged.{Judged}
use Rattle.rule_definitions.specs.Names.{named_in}

-- a location: its type, whether it has a default value, and whether it is that of an argument, or of an item of a list
pub record Location : Type 0 where
  pub ty : TypeTree (Unit {0})
  pub has_default : Bool
  pub is_argument : Bool
  pub is_item : Bool

abbrev pub argument_location : InputValueTree (Unit {0}) → Location
argument_location v = record { ty = v.ty.it; has_default = is_some v.default_value; is_argument = true; is_item = false }

-- that of a field of an input object
abbrev pub field_location : InputValueTree (Unit {0}) → Location
field_location f = record { ty = f.ty.it; has_default = is_some f.default_value; is_argument = false; is_item = false }

-- that of the items of a list
abbrev pub item_location : Location → Location
item_location l = record { ty = item_type_of l.ty; has_default = false; is_argument = false; is_item = true }

-- a value, its place and its location
pub record Part (P : Type 0) : Type 0 where
  pub location : Location
  pub place : P
  pub value : ValueTree P

-- the field of an input object, by the names of the type and of the field
abbrev pub input_field : Judged → List ℕ → List ℕ → Option (InputValueTree (Unit {0}))
input_field s n m = option_and_then (λ t. t.input m) (s.type_named n)

module _ {P : Type 0} (s : Judged) where
  -- a value, and those at any depth in it; of an entry that no field has the key of, none
  abbrev mutual
    pub parts : Location → P → ValueTree P → List (Part P)
    parts l p (ListTree ts) = record { location = l; place = p; value = ListTree ts } ∷ item_parts (item_location l) ts
    parts l p (ObjectTree es) = record { location = l; place = p; value = ObjectTree es } ∷ entry_parts (named_in l.ty) es
    parts l p v = record { location = l; place = p; value = v } ∷ []

    pub item_parts : Location → ItemTrees P → List (Part P)
    item_parts l no_items = []
    item_parts l (item_then p v ts) = parts l p v ++ item_parts l ts

    pub entry_parts : List ℕ → EntryTrees P → List (Part P)
    entry_parts ty no_entries = []
    entry_parts ty (entry_then k p v es) = option_map_or (λ f. parts (field_location f) p v) (input_field s ty k.it) [] ++ entry_parts ty es
