-- The trees of all Rust values are well-formed: a `Name` holds a name, an `IntValue` an integer, a `FloatValue` a float, and all
-- else is made of these.
use Rattle.std.proofs.Common.{◌≡◌, Bool, true, ◌&&◌, List, [], ◌∷◌, map, refl, ap, sym, ◌∙◌, subst, Option, Some, None, option_map}
use Rattle.std.specs.List.{list_all}
use Rattle.graphql_names.specs.Node.{content, place}
use Rattle.graphql_names.specs.NameSyntax.{is_name}
use Rattle.graphql_names.specs.declared.name.Name.{Name}
use Rattle.graphql_names.specs.declared.node.Node.{Node}
use Rattle.graphql_names.specs.Placed.{Place, name_tree, node_tree}
use Rattle.tree_literals.specs.TypeTree.{TypeTree, type_tree, type_tree_step}
use Rattle.tree_literals.specs.ValueTree.{ValueTree, item_trees, entry_trees, value_tree, value_tree_step}
use Rattle.tree_literals.proofs.Trees.{item_trees-map, entry_trees-map}
use Rattle.tree_literals.specs.declared.ty.«Type».{«Type»}
use Rattle.tree_literals.specs.declared.ty.«Type».TheOpen.{Type-F, Named, NonNullNamed, List as ListType, NonNullList}
use Rattle.tree_literals.specs.declared.ty.«Type».TheViews.{roll-Type, out-roll-Type}
use Rattle.tree_literals.specs.declared.ty.«Type».TheFolds.{map-Type, fold_out-Type, ind-Type}
use Rattle.tree_literals.specs.declared.value.Value.{Value}
use Rattle.tree_literals.specs.declared.value.Value.TheOpen.{Value-F, Null, Enum, Variable, String, Float, Int, Boolean, List as ListOf, Object}
use Rattle.tree_literals.specs.declared.value.Value.TheViews.{roll-Value, out-roll-Value}
use Rattle.tree_literals.specs.declared.value.Value.TheFolds.{map-Value, fold_out-Value, ind-Value}
use Rattle.graphql_read.specs.in_directives.DirectiveTree.{argument_tree, directive_tree, directives_tree, input_value_tree, directive_definition_tree}
use Rattle.graphql_read.specs.in_directives.declared.directive.Argument.{Argument}
use Rattle.graphql_read.specs.in_directives.declared.directive.Directive.{Directive}
use Rattle.graphql_read.specs.in_directives.declared.directive.DirectiveList.{DirectiveList}
use Rattle.graphql_read.specs.in_directives.declared.directive.DirectiveDefinition.{DirectiveDefinition}
use Rattle.graphql_read.specs.in_directives.declared.input_value.InputValueDefinition.{InputValueDefinition}
use Rattle.graphql_read.specs.in_operations.SelectionTree.{SelectionTree, selection_trees, selection_tree, AtPlace, selection_step, field_step, inline_step}
use Rattle.graphql_read.proofs.in_operations.SelectionTrees.{selection_trees-map, field_at, inline_at}
use Rattle.graphql_read.specs.in_operations.OperationTree.{variable_definition_tree, operation_tree, fragment_tree}
use Rattle.graphql_read.specs.in_operations.declared.selection.Selection.{Selection}
use Rattle.graphql_read.specs.in_operations.declared.selection.Field.{Field}
use Rattle.graphql_read.specs.in_operations.declared.selection.InlineFragment.{InlineFragment}
use Rattle.graphql_read.specs.in_operations.declared.selection.Selection.TheOpen.{Selection-F, Field-F, InlineFragment-F, Field as FieldOf, FragmentSpread as SpreadOf, InlineFragment as InlineOf}
use Rattle.graphql_read.specs.in_operations.declared.selection.Selection.TheViews.{roll-Selection, out-roll-Selection, roll-Field, out-roll-Field, roll-InlineFragment, out-roll-InlineFragment}
use Rattle.graphql_read.specs.in_operations.declared.selection.Selection.TheFolds.{map-Selection, map-Field, map-InlineFragment, fold_out-Selection, fold_out-Field, fold_out-InlineFragment, ind-Selection}
use Rattle.graphql_read.specs.in_operations.declared.operation.VariableDefinition.{VariableDefinition}
use Rattle.graphql_read.specs.in_operations.declared.operation.OperationDefinition.{OperationDefinition}
use Rattle.graphql_read.specs.in_operations.declared.operation.FragmentDefinition.{FragmentDefinition}
use Rattle.round_trip.specs.WellFormed.{if_any, type_well_formed, value_well_formed, items_well_formed, entries_well_formed, argument_well_formed, directive_well_formed, directives_well_formed, selection_well_formed, selections_well_formed, variable_well_formed, operation_well_formed, fragment_well_formed, input_value_well_formed}
use Rattle.round_trip.specs.Definitions.{directive_definition_well_formed}

-- ---- lists, options and pairs of tests

-- a claim on each element
abbrev pub Each : {X : Type 0} → (X → Type 0) → List X → Type 0
Each P [] = Unit {0}
Each P (x ∷ xs) = P x × Each P xs

pub both : {a b : Bool} → a ≡ true → b ≡ true → (a && b) ≡ true
both h k = λ i. h i && k i

pub list_formed : {A B : Type 0} (test : B → Bool) (view : A → B) → ((a : A) → test (view a) ≡ true) → (xs : List A) → list_all test (map view xs) ≡ true
list_formed test view each [] = refl
list_formed test view each (x ∷ xs) = both (each x) (list_formed test view each xs)

pub option_formed : {A B : Type 0} (test : B → Bool) (view : A → B) → ((a : A) → test (view a) ≡ true) → (x : Option A) → if_any test (option_map view x) ≡ true
option_formed test view each None = refl
option_formed test view each (Some x) = each x

-- ---- types

abbrev IsFormedType : «Type» → Type 0
IsFormedType t = type_well_formed (type_tree t) ≡ true

abbrev BelowType : Type-F «Type» → Type 0
BelowType (ListType b) = IsFormedType b.value
BelowType (NonNullList b) = IsFormedType b.value
BelowType _ = Unit {0}

type_layer : (x : Type-F «Type») → BelowType x → type_well_formed (type_tree_step (map-Type «Type» (TypeTree Place) type_tree x)) ≡ true
type_layer (Named n) h = n.valid
type_layer (NonNullNamed n) h = n.valid
type_layer (ListType b) h = h
type_layer (NonNullList b) h = h

type_at : (x : Type-F «Type») → BelowType x → IsFormedType (roll-Type x)
type_at x h =
    ap type_well_formed (fold_out-Type (TypeTree Place) type_tree_step (roll-Type x) ∙ ap (λ z. type_tree_step (map-Type «Type» (TypeTree Place) type_tree z)) (out-roll-Type x))
    ∙ type_layer x h

abbrev SuchType : Type 0
SuchType = (t : «Type») × IsFormedType t

below_type : (y : Type-F SuchType) → BelowType (map-Type SuchType «Type» (λ s. s.0) y)
below_type (ListType b) = b.value.1
below_type (NonNullList b) = b.value.1
below_type _ = tt

-- Every type's tree is well-formed.
pub type_formed : (t : «Type») → type_well_formed (type_tree t) ≡ true
type_formed = ind-Type IsFormedType (λ x y is. type_at x (subst BelowType is (below_type y)))

-- ---- values

abbrev IsFormedValue : Value → Type 0
IsFormedValue v = value_well_formed (value_tree v) ≡ true

abbrev BelowValue : Value-F Value → Type 0
BelowValue (ListOf v) = Each (λ n. IsFormedValue (content n)) v.items
BelowValue (Object v) = Each (λ p. IsFormedValue (content p.1)) v.items
BelowValue _ = Unit {0}

items_formed : (ns : List (Node Value)) → Each (λ n. IsFormedValue (content n)) ns → items_well_formed (item_trees value_tree ns) ≡ true
items_formed [] h = refl
items_formed (n ∷ ns) h = both h.0 (items_formed ns h.1)

entries_formed : (ps : List (Name × Node Value)) → Each (λ p. IsFormedValue (content p.1)) ps → entries_well_formed (entry_trees value_tree ps) ≡ true
entries_formed [] h = refl
entries_formed (p ∷ ps) h = both (both p.0.valid h.0) (entries_formed ps h.1)

value_layer : (x : Value-F Value) → BelowValue x → value_well_formed (value_tree_step (map-Value Value (ValueTree Place) value_tree x)) ≡ true
value_layer Null h = refl
value_layer (Enum n) h = n.valid
value_layer (Variable n) h = n.valid
value_layer (String s) h = refl
value_layer (Float n) h = n.valid
value_layer (Int n) h = n.valid
value_layer (Boolean b) h = refl
value_layer (ListOf v) h = ap items_well_formed (item_trees-map (λ t. t) value_tree _ (λ n. refl) (λ n. refl) v.items) ∙ items_formed v.items h
value_layer (Object v) h = ap entries_well_formed (entry_trees-map (λ t. t) value_tree _ (λ n. refl) (λ n. refl) (λ n. refl) v.items) ∙ entries_formed v.items h

value_at : (x : Value-F Value) → BelowValue x → IsFormedValue (roll-Value x)
value_at x h =
    ap value_well_formed (fold_out-Value (ValueTree Place) value_tree_step (roll-Value x) ∙ ap (λ z. value_tree_step (map-Value Value (ValueTree Place) value_tree z)) (out-roll-Value x))
    ∙ value_layer x h

abbrev SuchValue : Type 0
SuchValue = (v : Value) × IsFormedValue v

below_items : (f : Node SuchValue → Node Value) → ((n : Node SuchValue) → content (f n) ≡ (content n).0) → (ns : List (Node SuchValue)) → Each (λ n. IsFormedValue (content n)) (map f ns)
below_items f e [] = tt
below_items f e (n ∷ ns) = (subst IsFormedValue (sym (e n)) (content n).1, below_items f e ns)

below_entries : (f : Name × Node SuchValue → Name × Node Value) → ((p : Name × Node SuchValue) → content (f p).1 ≡ (content p.1).0) → (ps : List (Name × Node SuchValue)) → Each (λ p. IsFormedValue (content p.1)) (map f ps)
below_entries f e [] = tt
below_entries f e (p ∷ ps) = (subst IsFormedValue (sym (e p)) (content p.1).1, below_entries f e ps)

below_value : (y : Value-F SuchValue) → BelowValue (map-Value SuchValue Value (λ s. s.0) y)
below_value (ListOf v) = below_items _ (λ n. refl) v.items
below_value (Object v) = below_entries _ (λ p. refl) v.items
below_value _ = tt

-- Every value's tree is well-formed.
pub value_formed : (v : Value) → value_well_formed (value_tree v) ≡ true
value_formed = ind-Value IsFormedValue (λ x y is. value_at x (subst BelowValue is (below_value y)))

-- ---- arguments, directives, input values

pub argument_formed : (n : Node Argument) → argument_well_formed (node_tree argument_tree n) ≡ true
argument_formed n = both (content n).name.valid (value_formed (content (content n).value))

pub directive_formed : (n : Node Directive) → directive_well_formed (node_tree directive_tree n) ≡ true
directive_formed n = both (content n).name.valid (list_formed argument_well_formed (node_tree argument_tree) argument_formed (content n).arguments.items)

pub directives_formed : (ds : DirectiveList) → directives_well_formed (directives_tree ds) ≡ true
directives_formed ds = list_formed directive_well_formed (node_tree directive_tree) directive_formed ds.0.items

pub default_formed : (v : Option (Node Value)) → if_any (λ x. value_well_formed x.it) (option_map (node_tree value_tree) v) ≡ true
default_formed v = option_formed (λ x. value_well_formed x.it) (node_tree value_tree) (λ n. value_formed (content n)) v

pub input_value_formed : (n : Node InputValueDefinition) → input_value_well_formed (node_tree input_value_tree n) ≡ true
input_value_formed n =
    both (both (both (content n).name.valid (type_formed (content (content n).ty))) (default_formed (content n).default_value)) (directives_formed (content n).directives)

pub directive_definition_formed : (d : DirectiveDefinition) → directive_definition_well_formed (directive_definition_tree d) ≡ true
directive_definition_formed d = both d.name.valid (both (list_formed input_value_well_formed (node_tree input_value_tree) input_value_formed d.arguments.items) (directives_formed d.directives))

-- ---- selections

abbrev IsFormed : Selection → Type 0
IsFormed s = selection_well_formed (selection_tree s) ≡ true

abbrev IsFormedField : Field → Type 0
IsFormedField f = (p : Place) → selection_well_formed (field_at f p) ≡ true

abbrev IsFormedInline : InlineFragment → Type 0
IsFormedInline f = (p : Place) → selection_well_formed (inline_at f p) ≡ true

abbrev Below : Selection-F Selection Field InlineFragment → Type 0
Below (FieldOf n) = IsFormedField (content n)
Below (SpreadOf n) = Unit {0}
Below (InlineOf n) = IsFormedInline (content n)

set_formed : (ss : List Selection) → Each IsFormed ss → selections_well_formed (selection_trees selection_tree ss) ≡ true
set_formed [] h = refl
set_formed (s ∷ ss) h = both h.0 (set_formed ss h.1)

selection_layer : (x : Selection-F Selection Field InlineFragment) → Below x → selection_well_formed (selection_step (map-Selection Selection Field InlineFragment (SelectionTree Place) AtPlace AtPlace selection_tree field_at inline_at x)) ≡ true
selection_layer (FieldOf n) h = h (place n)
selection_layer (SpreadOf n) h = both (content n).fragment_name.valid (directives_formed (content n).directives)
selection_layer (InlineOf n) h = h (place n)

selection_at : (x : Selection-F Selection Field InlineFragment) → Below x → IsFormed (roll-Selection x)
selection_at x h =
    ap selection_well_formed
    (fold_out-Selection (SelectionTree Place) AtPlace AtPlace selection_step field_step inline_step (roll-Selection x)
    ∙ ap (λ z. selection_step (map-Selection Selection Field InlineFragment (SelectionTree Place) AtPlace AtPlace selection_tree field_at inline_at z)) (out-roll-Selection x))
    ∙ selection_layer x h

formed_field_at : (x : Field-F Selection Field InlineFragment) → Each IsFormed x.selection_set.items → IsFormedField (roll-Field x)
formed_field_at x h = λ p.
    ap (λ (f : AtPlace). selection_well_formed (f p))
    (fold_out-Field (SelectionTree Place) AtPlace AtPlace selection_step field_step inline_step (roll-Field x)
    ∙ ap (λ z. field_step (map-Field Selection Field InlineFragment (SelectionTree Place) AtPlace AtPlace selection_tree field_at inline_at z)) (out-roll-Field x))
    ∙ both
    (both (both (both (option_formed (λ n. is_name n.it) name_tree (λ n. n.valid) x.alias) x.name.valid) (list_formed argument_well_formed (node_tree argument_tree) argument_formed x.arguments.items)) (directives_formed x.directives))
    (ap selections_well_formed (selection_trees-map (λ t. t) selection_tree x.selection_set.items) ∙ set_formed x.selection_set.items h)

formed_inline_at : (x : InlineFragment-F Selection Field InlineFragment) → Each IsFormed x.selection_set.items → IsFormedInline (roll-InlineFragment x)
formed_inline_at x h = λ p.
    ap (λ (f : AtPlace). selection_well_formed (f p))
    (fold_out-InlineFragment (SelectionTree Place) AtPlace AtPlace selection_step field_step inline_step (roll-InlineFragment x)
    ∙ ap (λ z. inline_step (map-InlineFragment Selection Field InlineFragment (SelectionTree Place) AtPlace AtPlace selection_tree field_at inline_at z)) (out-roll-InlineFragment x))
    ∙ both
    (both (option_formed (λ n. is_name n.it) name_tree (λ n. n.valid) x.type_condition) (directives_formed x.directives))
    (ap selections_well_formed (selection_trees-map (λ t. t) selection_tree x.selection_set.items) ∙ set_formed x.selection_set.items h)

abbrev Such : Type 0
Such = (s : Selection) × IsFormed s

abbrev SuchField : Type 0
SuchField = (f : Field) × IsFormedField f

abbrev SuchInline : Type 0
SuchInline = (f : InlineFragment) × IsFormedInline f

below_such : (y : Selection-F Such SuchField SuchInline) → Below (map-Selection Such SuchField SuchInline Selection Field InlineFragment (λ s. s.0) (λ s. s.0) (λ s. s.0) y)
below_such (FieldOf n) = (content n).1
below_such (SpreadOf n) = tt
below_such (InlineOf n) = (content n).1

below_set : (ys : List Such) → Each IsFormed (map (λ s. s.0) ys)
below_set [] = tt
below_set (y ∷ ys) = (y.1, below_set ys)

-- Every selection's tree is well-formed.
pub selection_formed : (s : Selection) → selection_well_formed (selection_tree s) ≡ true
selection_formed =
    ind-Selection IsFormed IsFormedField IsFormedInline
    (λ x y is. selection_at x (subst Below is (below_such y)))
    (λ x y is. formed_field_at x (subst (λ (z : Field-F Selection Field InlineFragment). Each IsFormed z.selection_set.items) is (below_set y.selection_set.items)))
    (λ x y is. formed_inline_at x (subst (λ (z : InlineFragment-F Selection Field InlineFragment). Each IsFormed z.selection_set.items) is (below_set y.selection_set.items)))

pub selections_formed : (ss : List Selection) → selections_well_formed (selection_trees selection_tree ss) ≡ true
selections_formed [] = refl
selections_formed (s ∷ ss) = both (selection_formed s) (selections_formed ss)

-- ---- operations and fragments

pub variable_formed : (n : Node VariableDefinition) → variable_well_formed (node_tree variable_definition_tree n) ≡ true
variable_formed n =
    both (both (both (content n).name.valid (type_formed (content (content n).ty))) (default_formed (content n).default_value)) (directives_formed (content n).directives)

pub operation_formed : (o : OperationDefinition) → operation_well_formed (operation_tree o) ≡ true
operation_formed o =
    both
    (both (both (option_formed (λ n. is_name n.it) name_tree (λ n. n.valid) o.name) (list_formed variable_well_formed (node_tree variable_definition_tree) variable_formed o.variables.items)) (directives_formed o.directives))
    (selections_formed o.selection_set.items)

pub fragment_formed : (f : FragmentDefinition) → fragment_well_formed (fragment_tree f) ≡ true
fragment_formed f = both (both (both f.name.valid f.type_condition.valid) (directives_formed f.directives)) (selections_formed f.selection_set.items)
