-- Lists that are told piece by piece, along other lists.
use Rattle.std.proofs.Common.{◌≡◌, ℕ, zero, suc, ◌+◌, ◌<◌, ◌≤◌, Bool, true, arith, List, [], ◌∷◌, ◌++◌, get_or, map, take, length, refl, sym, ap, ◌∙◌, append_assoc, append-nil}
use Rattle.std.specs.List.{flat_map, list_any}
use Rattle.std.proofs.lemmas.List.{map-append, take_more, take_all}
use Rattle.std.proofs.lemmas.Grind.{flat_map-append}
use Rattle.graphql_names.specs.Placed.{Place, node_tree}
use Rattle.graphql_names.specs.declared.node.Node.{Node}
use Rattle.tree_directives.specs.DirectiveTree.{Directives, directive_tree}
use Rattle.tree_directives.specs.declared.directive.Directive.{Directive}
use Rattle.document_typed_selections.specs.TypedTree.{TypedSelection, TypedField, TypedSpread, TypedInline}
use Rattle.document_typed_selections.specs.TypedParts.{typed_directives}
use Rattle.spec_document.specs.MeantTree.{meant}
use Rattle.rule_document_definitions.specs.Selected.{selection_directives}
use Rattle.rule_selection_queries.proofs.Staying.{or_left, or_right}

module _ {A X B : Type 0} (f : A → X) (tells : X → List B) where
  -- the front of a list with the next one
  pub front_more : (xs : List A) (i : ℕ) (x : A) → i < length xs → x ≡ get_or xs i x → map f (take (i + 1) xs) ≡ map f (take i xs) ++ f x ∷ []
  front_more xs i x h e = ap (map f) (take_more xs i x h) ∙ map-append f (take i xs) (get_or xs i x ∷ []) ∙ ap (λ y. map f (take i xs) ++ f y ∷ []) (sym e)

  -- nothing is told yet
  pub told_none : (old : List B) → old ≡ old ++ flat_map tells (map f (take 0 []))
  told_none old = sym (append-nil old)

  -- what is told of one more
  pub told_more : (old now new : List B) (xs : List A) (i : ℕ) (x : A) → i < length xs → x ≡ get_or xs i x → now ≡ old ++ flat_map tells (map f (take i xs)) → new ≡ now ++ tells (f x)
      → new ≡ old ++ flat_map tells (map f (take (i + 1) xs))
  told_more old now new xs i x h e so_far step =
      step ∙ ap (λ l. l ++ tells (f x)) so_far ∙ append_assoc old (flat_map tells (map f (take i xs))) (tells (f x))
      ∙ ap (λ l. old ++ l) (sym (ap (flat_map tells) (front_more xs i x h e) ∙ flat_map-append tells (map f (take i xs)) (f x ∷ []) ∙ ap (λ l. flat_map tells (map f (take i xs)) ++ l) (append-nil (tells (f x)))))

  -- of all
  pub told_all : (old now : List B) (xs : List A) (i : ℕ) → length xs ≤ i → now ≡ old ++ flat_map tells (map f (take i xs)) → now ≡ old ++ flat_map tells (map f xs)
  told_all old now xs i h so_far = so_far ∙ ap (λ l. old ++ flat_map tells (map f l)) (take_all i xs h)

-- the directives on a selection
pub directives_meant : (s : TypedSelection Place) (ds : List (Node Directive)) → map (node_tree directive_tree) ds ≡ typed_directives s → map (node_tree directive_tree) ds ≡ selection_directives (meant s)
directives_meant (TypedField p d h s) ds e = e
directives_meant (TypedSpread p n ds') ds e = e
directives_meant (TypedInline p c ds' s) ds e = e

-- an element passes a test
pub any_here : {A X : Type 0} (f : A → X) (test : X → Bool) (xs : List A) (i : ℕ) (x : A) → i < length xs → x ≡ get_or xs i x → test (f x) ≡ true → list_any test (map f xs) ≡ true
any_here f test [] i x h e t = absurd (omega (arith, h))
any_here f test (y ∷ xs) zero x h e t = or_left (test (f y)) (list_any test (map f xs)) (ap (λ z. test (f z)) (sym e) ∙ t)
any_here f test (y ∷ xs) (suc i) x h e t = or_right (test (f y)) (list_any test (map f xs)) (any_here f test xs i x (omega (arith, h)) e t)

pub any_there : {A : Type 0} (test : A → Bool) (xs : List A) (i : ℕ) (x : A) → i < length xs → x ≡ get_or xs i x → test x ≡ true → list_any test xs ≡ true
any_there test [] i x h e t = absurd (omega (arith, h))
any_there test (y ∷ xs) zero x h e t = or_left (test y) (list_any test xs) (ap test (sym e) ∙ t)
any_there test (y ∷ xs) (suc i) x h e t = or_right (test y) (list_any test xs) (any_there test xs i x (omega (arith, h)) e t)
