-- `==` of traces with the places of their nodes beside it: together they decide whether the traces say the same.
use Rattle.std.proofs.Common.{◌≡◌, Bool, true, false, ◌&&◌, List, [], ◌∷◌, map, refl, sym, ap, true≢false}
use Rattle.std.specs.Bool.{Decides}
use Rattle.std.specs.Cmp.Lexicographic.{pointwise}
use Rattle.graphql_names.specs.Node.{content, place}
use Rattle.graphql_names.specs.Placed.{Placed, Place, node_tree}
use Rattle.graphql_names.specs.declared.node.Node.{Node}
use Rattle.tree_directives.specs.declared.directive.Directive.{Directive}
use Rattle.tree_directives.specs.declared.input_value.InputValueDefinition.{InputValueDefinition}
use Rattle.document_typed_selections.specs.declared.selection.FragmentSpread.{FragmentSpread}
use Rattle.document_typed_selections.specs.contracts.selection.FragmentSpreadPartialEq.TheImpl as spread_eq
use Rattle.rule_definitions.specs.Diagnostics.{SpreadTree}
use Rattle.fault_data.specs.DiagnosticView.{plain_input, plain_directive, plain_spread}
use Rattle.graphql_values.proofs.Decided.{through, pair_decides}
use Rattle.graphql_values.proofs.DirectiveEquality.{input_value_eq, input_value_eq-Decides, directive_eq, directive_eq-Decides, directive_list_eq-Decides}
use Rattle.graphql_faults.proofs.Parts.{text_decides}

-- a test decides a fact together with another fact
abbrev pub Rests : Bool → Type 0 → Type 0 → Type 0
Rests b L P = (b ≡ true → L → P) × (P → (b ≡ true) × L)

-- it decides alone, where the other holds anyway
pub alone : {b : Bool} {P X : Type 0} {x : X} → Decides b P → Rests b (x ≡ x) P
alone d = (λ h l. d.0 h, λ p. (d.1 p, refl))

pub via : {b : Bool} {L P Q : Type 0} → Rests b L P → (P → Q) → (Q → P) → Rests b L Q
via d f g = (λ h l. f (d.0 h l), λ q. d.1 (g q))

-- a test before it
pub front : (a b : Bool) {L P Q : Type 0} → Decides a P → Rests b L Q → Rests (a && b) L (P × Q)
front true b d e = (λ h l. (d.0 refl, e.0 h l), λ r. e.1 r.1)
front false b d e = (λ h l. absurd (true≢false (sym h)), λ r. absurd (true≢false (sym (d.1 r.0))))

both : (a b : Bool) → (a && b) ≡ true → (a ≡ true) × (b ≡ true)
both true b h = (refl, h)
both false b h = absurd (true≢false (sym h))

and_both : (a b : Bool) → a ≡ true → b ≡ true → (a && b) ≡ true
and_both true b h k = k
and_both false b h k = h

module _ {A B : Type 0} (E : A → A → Bool) (plain : A → B) (d : (a b : A) → Decides (E a b) (plain a ≡ plain b)) where
  pub trace_same : (xs ys : List (Node A)) → Rests (pointwise (λ m n. E (content m) (content n)) xs ys) (map place xs ≡ map place ys) (map (node_tree plain) xs ≡ map (node_tree plain) ys)
  trace_same [] [] = (λ h l. refl, λ r. (refl, refl))
  trace_same [] (y ∷ ys) = (λ h l. cc, λ r. cc)
  trace_same (x ∷ xs) [] = (λ h l. cc, λ r. cc)
  trace_same (x ∷ xs) (y ∷ ys) =
      let rest = trace_same xs ys in (
        (λ h l.
            let tests : (E (content x) (content y) ≡ true) × (pointwise (λ m n. E (content m) (content n)) xs ys ≡ true) = both _ _ h in
            let at : place x ≡ place y = cc in
            let says : plain (content x) ≡ plain (content y) = (d (content x) (content y)).0 tests.0 in
            let others : map place xs ≡ map place ys = cc in
            λ i. record { it = says i; place = at i } ∷ rest.0 tests.1 others i),
        (λ r.
            let here : node_tree plain x ≡ node_tree plain y = cc in
            let below : map (node_tree plain) xs ≡ map (node_tree plain) ys = cc in
            let more = rest.1 below in
            let at : place x ≡ place y = ap (λ (t : Placed Place B). t.place) here in
            (and_both _ _ ((d (content x) (content y)).1 (ap (λ (t : Placed Place B). t.it) here)) more.0, λ i. at i ∷ more.1 i)),
      )

spread_decides : (a b : FragmentSpread) → Decides (spread_eq.ghosts.eq a b) (plain_spread a ≡ plain_spread b)
spread_decides a b =
    through
    (pair_decides _ _ (text_decides a.fragment_name b.fragment_name) (directive_list_eq-Decides a.directives b.directives))
    (λ s i. record { fragment_name = s.0 i; directives = s.1 i })
    (λ r. (ap (λ (t : SpreadTree). t.fragment_name) r, ap (λ (t : SpreadTree). t.directives) r))

pub inputs_same : (xs ys : List (Node InputValueDefinition)) → Rests (pointwise (λ m n. input_value_eq (content m) (content n)) xs ys) (map place xs ≡ map place ys) (map (node_tree plain_input) xs ≡ map (node_tree plain_input) ys)
inputs_same = trace_same input_value_eq plain_input input_value_eq-Decides

pub directives_same : (xs ys : List (Node Directive)) → Rests (pointwise (λ m n. directive_eq (content m) (content n)) xs ys) (map place xs ≡ map place ys) (map (node_tree plain_directive) xs ≡ map (node_tree plain_directive) ys)
directives_same = trace_same directive_eq plain_directive directive_eq-Decides

pub spreads_same : (xs ys : List (Node FragmentSpread)) → Rests (pointwise (λ m n. spread_eq.ghosts.eq (content m) (content n)) xs ys) (map place xs ≡ map place ys) (map (node_tree plain_spread) xs ≡ map (node_tree plain_spread) ys)
spreads_same = trace_same spread_eq.ghosts.eq plain_spread spread_decides
