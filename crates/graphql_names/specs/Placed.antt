-- What all trees are built from: values with places.
use Rattle.std.specs.Prelude.{ℕ, List, Option}
use Rattle.graphql_names.specs.Node.{content, place}
use Rattle.graphql_names.specs.NodeStrValue.{NodeStrValue}
use Rattle.graphql_names.specs.NameValue.{NameValue}
use Rattle.graphql_names.specs.declared.span.SourceSpan.{SourceSpan}
use Rattle.graphql_names.specs.declared.node.Node.{Node}

-- a value and its place; the type P is `Place`, or `Unit {0}` where places are ignored
pub record Placed (P A : Type 0) : Type 0 where
  pub it : A
  pub place : P

-- the place that something was read from, if it was read
abbrev pub Place : Type 0
Place = Option SourceSpan

-- a text with its place: a name, or a description
abbrev pub Text : Type 0 → Type 0
Text P = Placed P (List ℕ)

abbrev pub name_tree : NameValue → Text Place
name_tree n = record { it = n.text; place = n.location }

abbrev pub text_tree : NodeStrValue → Text Place
text_tree s = record { it = s.text; place = s.location }

abbrev pub node_tree : {A B : Type 0} → (A → B) → Node A → Placed Place B
node_tree f n = record { it = f (content n); place = place n }

-- texts and nodes without their places
abbrev pub unplaced_text : {P : Type 0} → Text P → Text (Unit {0})
unplaced_text t = record { it = t.it; place = tt }

abbrev pub unplaced_node : {P A B : Type 0} → (A → B) → Placed P A → Placed (Unit {0}) B
unplaced_node f n = record { it = f n.it; place = tt }
