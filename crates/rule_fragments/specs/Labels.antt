-- Private: leads to `Defer.antt` of the rules' definitions.
-- What the rules on labels of `@defer` tell of each label, in order, as lists.
use Rattle.std.specs.Prelude.{◌≡◌, ◌++◌, ℕ, true, List, [], ◌∷◌, map, flat_map, find, codes, bytes_eq, Option, None, Some, option_map, option_to_list, String, if◌then◌else◌}
use Rattle.std.specs.Option.{option_map_or, option_or}
use Rattle.indexmap.specs.IndexMap.{IndexMap, get_by_text}
use Rattle.graphql_names.specs.Placed.{Placed, Place, Text, node_tree}
use Rattle.graphql_names.specs.declared.node.Node.{Node}
use Rattle.tree_literals.specs.ValueTree.{ValueTree, value_tree}
use Rattle.tree_literals.specs.ValueQueries.{variable_name, string_text}
use Rattle.tree_literals.specs.declared.value.Value.{Value}
use Rattle.tree_directives.specs.DirectiveTree.{DirectiveTree}
use Rattle.tree_directives.specs.DirectiveQueries.{given_value}
use Rattle.spec_document.specs.MeantTree.{MeantSelection, MeantSet}
use Rattle.fault_document_errors.specs.DocumentBreaches.{DeferLabelMustNotBeVariable, DuplicateDeferLabel}
use Rattle.rule_document_definitions.specs.DocumentFaults.{Broken, broken}
use Rattle.rule_document_definitions.specs.Selected.{selection_directives}
use Rattle.rule_selection_queries.specs.Inside.{contents_in, contents_of}
use Rattle.rule_selection_queries.specs.Stays.{is_directive, all_stay}

-- the values of nodes, with their places
abbrev pub values_meant : List (Node Value) → List (Placed Place (ValueTree Place))
values_meant ns = map (node_tree value_tree) ns

module _ {P : Type 0} where
  -- ---- labels in order

  -- the value of the argument `label` of a directive, if it is `@defer`
  abbrev pub label_of : Placed P (DirectiveTree P) → List (Placed P (ValueTree P))
  label_of e = if is_directive (codes "defer") e then option_to_list (given_value (codes "label") e.it.arguments) else []

  abbrev pub labels_of : MeantSelection P → List (Placed P (ValueTree P))
  labels_of s = flat_map label_of (selection_directives s)

  -- the labels at the selection and at those in it, at any depth; the labels at all selections in a set
  abbrev pub labels_at : MeantSelection P → List (Placed P (ValueTree P))
  labels_at s = flat_map labels_of (contents_of true all_stay s)

  abbrev pub labels_in : MeantSet P → List (Placed P (ValueTree P))
  labels_in s = flat_map labels_of (contents_in true all_stay s)

  -- the label as a text with its place, if it is a string
  abbrev pub text_label : Placed P (ValueTree P) → Option (Text P)
  text_label v = option_map (λ t. record { it = t; place = v.place }) (string_text v.it)

  abbrev pub string_label : Placed P (ValueTree P) → List (Text P)
  string_label v = option_to_list (text_label v)

  -- ---- what is told

  abbrev pub variable_label : Placed P (ValueTree P) → List (Broken P)
  variable_label v = option_map_or (λ n. broken v.place DeferLabelMustNotBeVariable ∷ []) (variable_name v.it) []

  -- the breach of a string label, given the place of the first label of the same text before it, if there is one
  abbrev pub label_again : P → List ℕ → Option P → List (Broken P)
  label_again place text first = option_map_or (λ p. broken place (DuplicateDeferLabel text p) ∷ []) first []

  -- the place of the first of these that has this text
  abbrev pub first_place : List (Text P) → List ℕ → Option P
  first_place ts text = option_map (λ t. t.place) (find (λ t. bytes_eq t.it text) ts)

  abbrev pub duplicate_label : List (Placed P (ValueTree P)) → Placed P (ValueTree P) → List (Broken P)
  duplicate_label before v = option_map_or (λ t. label_again v.place t (first_place (flat_map string_label before) t)) (string_text v.it) []

  -- the breaches of a label that comes after these
  abbrev pub label_breaks : List (Placed P (ValueTree P)) → Placed P (ValueTree P) → List (Broken P)
  label_breaks before v = variable_label v ++ duplicate_label before v

-- ---- places by texts

module _ {P S Y : Type 0} where
  -- for each text, the map has the place of the first of these that has the text, or nothing if none has it
  abbrev pub AreFirstPlaces : IndexMap (String Y) P S → List (Text P) → Type 0
  AreFirstPlaces places ts = (text : List ℕ) → get_by_text places text ≡ first_place ts text

  -- the place is noted under that text, unless the old map has one there
  abbrev pub NotesFirst : IndexMap (String Y) P S → IndexMap (String Y) P S → List ℕ → P → Type 0
  NotesFirst old new text place = (t : List ℕ) → get_by_text new t ≡ option_or (get_by_text old t) (if bytes_eq text t then Some place else None)

  -- noting a label: if the old map has the first places of some texts, the new one has those of these and the label, if it is a string
  abbrev pub NotesLabel : IndexMap (String Y) P S → IndexMap (String Y) P S → Placed P (ValueTree P) → Type 0
  NotesLabel old new v = (ts : List (Text P)) → AreFirstPlaces old ts → AreFirstPlaces new (ts ++ string_label v)

  -- what is told of a label, if it is a string, by the place that the map has under its text
  abbrev pub told_again : IndexMap (String Y) P S → Placed P (ValueTree P) → List (Broken P)
  told_again places v = option_map_or (λ t. label_again v.place t (get_by_text places t)) (string_text v.it) []
