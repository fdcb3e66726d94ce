-- Tests that decide whether what two values stand for is the same, put together.
use Rattle.std.proofs.Common.{◌≡◌, Bool, true, false, ◌&&◌, List, [], ◌∷◌, map, refl, ap, sym, ◌∙◌, nat_eq, Option, None, Some}
use Rattle.std.specs.Bool.{Decides}
use Rattle.std.specs.Option.{option_map, option_eq}
use Rattle.std.specs.Cmp.Lexicographic.{pointwise}
use Rattle.std.proofs.lemmas.Slice.Eq.{bytes_eq-Decides}
use Rattle.tree_directives.specs.in_literals.in_names.Node.{content}
use Rattle.tree_directives.specs.in_literals.in_names.NameValue.{NameValue}
use Rattle.tree_directives.specs.in_literals.in_names.NodeStrValue.{NodeStrValue}
use Rattle.tree_directives.specs.in_literals.in_names.declared.node.Node.{Node}
use Rattle.tree_directives.specs.in_literals.in_names.Placed.{Placed, Text, name_tree, text_tree, node_tree, unplaced_text, unplaced_node}

-- a claim on each element
abbrev pub Each : {X : Type 0} → (X → Type 0) → List X → Type 0
Each P [] = Unit {0}
Each P (x ∷ xs) = P x × Each P xs

-- what decides a fact decides one that holds in the same cases
pub through : {b : Bool} {P Q : Type 0} → Decides b P → (P → Q) → (Q → P) → Decides b Q
through d f g = (λ h. f (d.0 h), λ q. d.1 (g q))

-- along equations of the test and of the two sides
pub carried : {a b : Bool} {T : Type 0} {s t s' t' : T} → a ≡ b → s ≡ s' → t ≡ t' → Decides b (s' ≡ t') → Decides a (s ≡ t)
carried e p q d = (λ h. p ∙ d.0 (sym e ∙ h) ∙ sym q, λ r. e ∙ d.1 (sym p ∙ r ∙ q))

-- two tests decide the two facts
pub pair_decides : (a b : Bool) {P Q : Type 0} → Decides a P → Decides b Q → Decides (a && b) (P × Q)
pair_decides true b d e = (λ h. (d.0 refl, e.0 h), λ r. e.1 r.1)
pair_decides false b d e = (λ h. cc, λ r. d.1 r.0)

pub lists_decide : {A B C : Type 0} (E : A → A → Bool) (u : B → C) (g : A → B) → ((a b : A) → Decides (E a b) (u (g a) ≡ u (g b))) → (xs ys : List A) → Decides (pointwise E xs ys) (map u (map g xs) ≡ map u (map g ys))
lists_decide E u g d [] [] = (λ h. refl, λ h. refl)
lists_decide E u g d [] (y ∷ ys) = (λ h. cc, λ h. cc)
lists_decide E u g d (x ∷ xs) [] = (λ h. cc, λ h. cc)
lists_decide E u g d (x ∷ xs) (y ∷ ys) = through (pair_decides _ _ (d x y) (lists_decide E u g d xs ys)) (λ s i. s.0 i ∷ s.1 i) (λ r. (cc, cc))

pub options_decide : {A B C : Type 0} (E : A → A → Bool) (u : B → C) (g : A → B) → ((a b : A) → Decides (E a b) (u (g a) ≡ u (g b))) → (x y : Option A) → Decides (option_eq E x y) (option_map u (option_map g x) ≡ option_map u (option_map g y))
options_decide E u g d None None = (λ h. refl, λ h. refl)
options_decide E u g d None (Some y) = (λ h. cc, λ h. cc)
options_decide E u g d (Some x) None = (λ h. cc, λ h. cc)
options_decide E u g d (Some x) (Some y) = through (d x y) (λ p i. Some (p i)) (λ r. cc)

pub name_decides : (m n : NameValue) → Decides (pointwise nat_eq m.text n.text) (unplaced_text (name_tree m) ≡ unplaced_text (name_tree n))
name_decides m n = through (bytes_eq-Decides m.text n.text) (λ p i. record { it = p i; place = tt }) (λ q. ap (λ (t : Text (Unit {0})). t.it) q)

pub text_decides : (m n : NodeStrValue) → Decides (pointwise nat_eq m.text n.text) (unplaced_text (text_tree m) ≡ unplaced_text (text_tree n))
text_decides m n = through (bytes_eq-Decides m.text n.text) (λ p i. record { it = p i; place = tt }) (λ q. ap (λ (t : Text (Unit {0})). t.it) q)

pub node_decides : {A B C : Type 0} (E : A → A → Bool) (u : B → C) (g : A → B) → ((a b : A) → Decides (E a b) (u (g a) ≡ u (g b))) → (m n : Node A) → Decides (E (content m) (content n)) (unplaced_node u (node_tree g m) ≡ unplaced_node u (node_tree g n))
node_decides {C = C} E u g d m n = through (d (content m) (content n)) (λ p i. record { it = p i; place = tt }) (λ q. ap (λ (t : Placed (Unit {0}) C). t.it) q)

pub nodes_decide : {A B C : Type 0} (E : A → A → Bool) (u : B → C) (g : A → B) → ((a b : A) → Decides (E a b) (u (g a) ≡ u (g b))) → (xs ys : List (Node A)) → Decides (pointwise (λ a b. E (content a) (content b)) xs ys) (map (unplaced_node u) (map (node_tree g) xs) ≡ map (unplaced_node u) (map (node_tree g) ys))
nodes_decide E u g d xs ys = lists_decide (λ a b. E (content a) (content b)) (unplaced_node u) (node_tree g) (node_decides E u g d) xs ys
