-- The first argument of each name, looked through or by the number of the name.
use Rattle.std.proofs.Common.{◌≡◌, ◌↔◌, ℕ, zero, suc, ◌<◌, Bool, true, false, not, List, [], ◌∷◌, map, take, find, length, slice_get, sym, ap, subst, ◌∙◌, Option, None, Some, IfSome, is_some, refl, true≢false}
use Rattle.std.specs.Option.{option_map}
use Rattle.std.proofs.lemmas.Option.{same_Some}
use Rattle.indexmap.specs.IndexMap.{IndexMap, get}
use Rattle.graphql_names.specs.Node.{content}
use Rattle.graphql_names.specs.NameValue.{NameValue}
use Rattle.graphql_names.specs.Placed.{Place, node_tree}
use Rattle.graphql_names.specs.declared.node.Node.{Node}
use Rattle.tree_directives.specs.DirectiveTree.{InputValues, argument_tree}
use Rattle.tree_directives.specs.DirectiveQueries.{argument_has_name}
use Rattle.tree_directives.specs.declared.directive.Argument.{Argument}
use Rattle.schema_components.specs.Names.{same_text}
use Rattle.rule_values.specs.in_schema.in_schema_types.SchemaTree.{SchemaTree}
use Rattle.rule_values.specs.in_schema.in_schema_types.TypeView.{name_text}
use Rattle.rule_values.specs.in_rule_definitions.GivenValues.{Variables}
use Rattle.rule_values.specs.in_rule_definitions.Names.{argument_name}
use Rattle.rule_values.specs.in_rule_definitions.PlacedFaults.{PlacedFault}
use Rattle.rule_values.specs.Firsts.{first_told, AreNumbers}
use Rattle.rule_values.proofs.in_inputs.Noted.{number_first, number_here, as_long}
use Rattle.rule_arguments.specs.Trees.{arguments_of}
use Rattle.rule_arguments.specs.GivenArguments.{DefinedArgumentBreaks, FirstGivenBreaks}
use Rattle.rule_arguments.specs.Telling.{IsNamedAt}
use Rattle.rule_values.proofs.in_fault_data.Adding.{Gains, gains_same, gains_nothing}

mapped : {A B : Type 0} (f : A → B) (xs : List A) (i : ℕ) (x : A) → slice_get xs i ≡ Some x → slice_get (map f xs) i ≡ Some (f x)
mapped f [] i x e = absurd (true≢false (sym (ap is_some e)))
mapped f (y ∷ xs) zero x e = ap Some (ap f (same_Some _ _ e))
mapped f (y ∷ xs) (suc i) x e = mapped f xs i x e

-- of what is there
pub if_there : {X : Type 0} (o : Option X) (x : X) (P : X → Type 0) → o ≡ Some x → IfSome o P → P x
if_there None x P e h = absurd (true≢false (sym (ap is_some e)))
if_there (Some y) x P e h = subst P (same_Some _ _ e) h

-- whether nothing is found
none_is : (b : Bool) → false ≡ not b → b ≡ true
none_is true e = refl
none_is false e = absurd (true≢false (sym e))

pub found_none : {X Y : Type 0} (f : X → Y) (o : Option X) (z : Option Y) (b : Bool) → is_some o ≡ not b → option_map f o ≡ z → (b ≡ true) ↔ (z ≡ None)
found_none f None z b e is = (λ t. sym is, λ n. none_is b e)
found_none f (Some x) z b e is = (λ t. absurd (true≢false (e ∙ ap not t)), λ n. absurd (true≢false (ap is_some (is ∙ n))))

-- the number of the name of the element at an index is that index, if no element before it has the name
pub first_number : {S : Type 0} (numbers : IndexMap NameValue ℕ S) (xs : List (Node Argument)) (i : ℕ) (n : NameValue) → AreNumbers argument_name numbers (arguments_of xs) → IsNamedAt xs i n
    → (get (same_text name_text) numbers n ≡ Some i) ↔ (find (argument_has_name n.text) (take i (arguments_of xs)) ≡ None)
first_number numbers xs i n are (x, (there, named)) = (
  λ e. number_first argument_name (arguments_of xs) i n.text (sym (are n) ∙ e),
  λ none. are n ∙ subst (λ t. first_told argument_name (λ j a. j) (arguments_of xs) t ≡ Some i) named
      (number_here argument_name (arguments_of xs) i (node_tree argument_tree x) (mapped (node_tree argument_tree) xs i x there)
      (subst (λ t. find (argument_has_name t) (take i (arguments_of xs)) ≡ None) (sym named) none)),
)

-- an argument that is the first of its name, and one that is not
module _ (s : SchemaTree Place) (variables : Variables Place) (definitions : InputValues Place) (xs : List (Node Argument)) (i : ℕ) (x : Node Argument) (inside : i < length xs) where
  abbrev Own : PlacedFault → Type 0
  Own = DefinedArgumentBreaks s variables definitions (node_tree argument_tree x)

  abbrev OfFirst : ℕ → PlacedFault → Type 0
  OfFirst j = FirstGivenBreaks s variables definitions (take j (arguments_of xs)) (node_tree argument_tree x)

  front : i ≡ length (arguments_of (take i xs))
  front = sym (as_long argument_name (node_tree argument_tree) xs i inside)

  pub first_gains : (a b : List PlacedFault) → find (argument_has_name (content x).name.text) (take i (arguments_of xs)) ≡ None → Gains a b Own → Gains a b (OfFirst (length (arguments_of (take i xs))))
  first_gains a b none gains = subst (λ j. Gains a b (OfFirst j)) front (gains_same a b (λ f. (λ own. (none, own), λ q. q.1)) gains)

  pub later_gains : (a : List PlacedFault) → (find (argument_has_name (content x).name.text) (take i (arguments_of xs)) ≡ None → ⊥) → Gains a a (OfFirst (length (arguments_of (take i xs))))
  later_gains a other = subst (λ j. Gains a a (OfFirst j)) front (gains_nothing a (OfFirst i) (λ f q. other q.0))
