-- A name that is listed in a set is among the names that it lists.
use Rattle.std.proofs.Common.{◌≡◌, ◌||◌, List, [], ◌∷◌, map, refl, ap}
use Rattle.std.specs.List.{list_any}
use Rattle.std.specs.Str.{bytes_eq}
use Rattle.graphql_names.specs.NameValue.{NameValue}
use Rattle.schema_components.specs.Lists.{is_among}
use Rattle.schema_components.specs.Given.{component_name_tree, given_name}
use Rattle.schema_components.specs.declared.component_name.ComponentName.{ComponentName}

pub among_listed : (n : NameValue) (ks : List ComponentName) → list_any (λ (k : ComponentName). bytes_eq n.text k.name.text) ks ≡ is_among n.text (map given_name (map component_name_tree ks))
among_listed n [] = refl
among_listed n (k ∷ ks) = ap (λ b. bytes_eq n.text k.name.text || b) (among_listed n ks)
