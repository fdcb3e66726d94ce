-- The texts of the members of lists and objects, one by one.
use Rattle.std.proofs.Common.{◌≡◌, ◌≤◌, ◌<◌, ◌+◌, arith, codes, ℕ, List, [], ◌∷◌, length, take, map, true, refl, ap}
use Rattle.std.proofs.lemmas.List.{take_all}
use Rattle.tree_literals.specs.Joined.{joined, further_text, separated}
use Rattle.graphql_names.specs.Node.{content}
use Rattle.graphql_names.specs.declared.name.Name.{Name}
use Rattle.graphql_names.specs.declared.node.Node.{Node}
use Rattle.tree_literals.specs.ValueTree.{item_trees, entry_trees, value_tree}
use Rattle.tree_literals.specs.ValueLayout.{value_text, item_texts, entry_texts, named_value_text}
use Rattle.tree_literals.specs.declared.value.Value.{Value}

pub item_texts-each : (ns : List (Node Value)) → item_texts (item_trees value_tree ns) ≡ map (λ n. value_text (value_tree (content n))) ns
item_texts-each [] = refl
item_texts-each (n ∷ ns) = ap (λ ts. value_text (value_tree (content n)) ∷ ts) (item_texts-each ns)

pub entry_texts-each : (es : List (Name × Node Value)) → entry_texts (entry_trees value_tree es) ≡ map (λ e. named_value_text e.0.text (value_text (value_tree (content e.1)))) es
entry_texts-each [] = refl
entry_texts-each (e ∷ es) = ap (λ ts. named_value_text e.0.text (value_text (value_tree (content e.1))) ∷ ts) (entry_texts-each es)

pub item_texts-first : (ns further : List (Node Value)) (n : Node Value) → ns ≡ n ∷ further → item_texts (item_trees value_tree ns) ≡ value_text (value_tree (content n)) ∷ map (λ m. value_text (value_tree (content m))) further
item_texts-first ns further n e = rw e (ap (λ ts. value_text (value_tree (content n)) ∷ ts) (item_texts-each further))

pub entry_texts-first : (es further : List (Name × Node Value)) (e : Name × Node Value) → es ≡ e ∷ further → entry_texts (entry_trees value_tree es) ≡ named_value_text e.0.text (value_text (value_tree (content e.1))) ∷ map (λ x. named_value_text x.0.text (value_text (value_tree (content x.1)))) further
entry_texts-first es further e is = rw is (ap (λ ts. named_value_text e.0.text (value_text (value_tree (content e.1))) ∷ ts) (entry_texts-each further))

-- a first text and all further ones are the list
pub separated_put : {S A : Type 0} (puts : S → List ℕ → S → Type 0) → ((s : S) → puts s (joined []) s) → ((s t u : S) (text : List ℕ) (texts : List (List ℕ)) → puts s text t → puts t (joined texts) u → puts s (joined (text ∷ texts)) u) → (s t u : S) (separator text : List ℕ) (texts : List (List ℕ)) (f : A → List ℕ) (xs : List A) (i : ℕ) → length xs ≤ i → texts ≡ text ∷ map f xs → puts s text t → puts t (further_text separator (map f (take i xs))) u → puts s (separated separator texts) u
separated_put puts none part s t u separator text texts f xs i le e p q =
    let rest : puts t (further_text separator (map f xs)) u = rw take_all at q in
    rw e (part s t u text (further_text separator (map f xs) ∷ []) p (part t u u (further_text separator (map f xs)) [] rest (none u)))
