-- Copies have the trees of the originals.
use Rattle.std.proofs.Common.{◌≡◌, List, [], ◌∷◌, map, refl}
use Rattle.std.specs.List.{AllZip}
use Rattle.tree_literals.specs.in_names.Node.{content, place}
use Rattle.schema_components.specs.Given.{origin_tree, component_tree}
use Rattle.schema_components.specs.declared.component.Component.{Component}

-- a shared component, from the same origin
abbrev pub IsShared : {A : Type 0} → Component A → Component A → Type 0
IsShared c d = (d.origin ≡ c.origin) × (content d.node ≡ content c.node) × (place d.node ≡ place c.node)

module _ {A B : Type 0} (f : A → B) where
  pub components-copies : (xs ys : List (Component A)) → AllZip IsShared xs ys → map (component_tree f) ys ≡ map (component_tree f) xs
  components-copies [] [] h = refl
  components-copies [] (y ∷ ys) h = absurd h
  components-copies (x ∷ xs) [] h = absurd h
  components-copies (x ∷ xs) (y ∷ ys) h = λ i. record { extension = origin_tree (h.0.0 i); it = record { it = f (h.0.1 i); place = h.0.2 i } } ∷ components-copies xs ys h.1 i
