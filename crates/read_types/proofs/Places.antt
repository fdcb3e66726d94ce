-- Places of directives in a table.
use Rattle.std.proofs.Common.{◌≡◌, ℕ, ◌+◌, ◌<◌, true, false, List, ◌∷◌, length, drop, get_or, refl, ◌∙◌}
use Rattle.std.specs.Prelude.{bytes_eq}
use Rattle.std.proofs.lemmas.List.{at_drop_more}
use Rattle.read_operations.specs.in_values.OperationQueries.{location_keyword}
use Rattle.tree_directives.specs.declared.directive_location.DirectiveLocation.{DirectiveLocation}
use Rattle.read_grammar.specs.Locations.{named_among}

named_here : (x : DirectiveLocation) (others : List DirectiveLocation) (text : List ℕ) → bytes_eq (location_keyword x) text ≡ true → named_among (x ∷ others) text ≡ x
named_here x others text h = rw h refl

named_after : (x : DirectiveLocation) (others : List DirectiveLocation) (text : List ℕ) → bytes_eq (location_keyword x) text ≡ false → named_among (x ∷ others) text ≡ named_among others text
named_after x others text h = rw h refl

pub place_here : (table : List DirectiveLocation) (text : List ℕ) (i : ℕ) (d : DirectiveLocation) → i < length table → bytes_eq (location_keyword (get_or table i d)) text ≡ true → named_among (drop i table) text ≡ get_or table i d
place_here table text i d within h = at_drop_more (λ (places : List DirectiveLocation). named_among places text) table i d within ∙ named_here (get_or table i d) (drop (i + 1) table) text h

pub place_after : (table : List DirectiveLocation) (text : List ℕ) (i : ℕ) (d : DirectiveLocation) → i < length table → bytes_eq (location_keyword (get_or table i d)) text ≡ false → named_among (drop i table) text ≡ named_among (drop (i + 1) table) text
place_after table text i d within h = at_drop_more (λ (places : List DirectiveLocation). named_among places text) table i d within ∙ named_after (get_or table i d) (drop (i + 1) table) text h
