-- Copies of the members of lists stand for the same.
use Rattle.std.proofs.Common.{◌≡◌, List, [], ◌∷◌, map, refl}
use Rattle.std.specs.List.{AllZip}
use Rattle.graphql_names.specs.Node.{content, place}
use Rattle.graphql_names.specs.declared.node.Node.{Node}
use Rattle.graphql_names.specs.Placed.{node_tree}

-- copies of nodes have the nodes' trees
pub nodes-copies : {A B : Type 0} (f : A → B) (ns cs : List (Node A)) → AllZip (λ n c. (content c ≡ content n) × (place c ≡ place n)) ns cs → map (node_tree f) cs ≡ map (node_tree f) ns
nodes-copies f [] [] h = refl
nodes-copies f [] (c ∷ cs) h = absurd h
nodes-copies f (n ∷ ns) [] h = absurd h
nodes-copies f (n ∷ ns) (c ∷ cs) h = λ i. (record { it = f (h.0.0 i); place = h.0.1 i }) ∷ nodes-copies f ns cs h.1 i

-- copies that are equal
pub equal-copies : {A : Type 0} (xs cs : List A) → AllZip (λ x c. c ≡ x) xs cs → cs ≡ xs
equal-copies [] [] h = refl
equal-copies [] (c ∷ cs) h = absurd h
equal-copies (x ∷ xs) [] h = absurd h
equal-copies (x ∷ xs) (c ∷ cs) h = λ i. h.0 i ∷ equal-copies xs cs h.1 i
