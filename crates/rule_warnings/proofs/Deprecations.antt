-- Which definition has a name, whether it is deprecated, and why, does not depend on places.
use Rattle.std.proofs.Common.{◌≡◌, ℕ, Bool, true, false, List, [], ◌∷◌, map, find, codes, Option, None, Some, refl, sym, ap, ◌∙◌, if◌then◌else◌}
use Rattle.std.specs.Prelude.{unwrap_or}
use Rattle.std.specs.Option.{option_map, option_and_then}
use Rattle.graphql_names.specs.Placed.{Placed, unplaced_node}
use Rattle.tree_literals.specs.ValueTree.{ValueTree, NullTree, EnumTree, VariableTree, StringTree, FloatTree, IntTree, BooleanTree, ListTree, ObjectTree, unplaced_value}
use Rattle.tree_literals.specs.ValueQueries.{string_text}
use Rattle.tree_directives.specs.DirectiveTree.{Arguments, Directives, InputValues, unplaced_input_value, unplaced_argument, unplaced_arguments, unplaced_directive, unplaced_directives}
use Rattle.tree_directives.specs.DirectiveQueries.{directive_has_name, argument_has_name, input_value_has_name, given_value}
use Rattle.rule_warnings.specs.Deprecated.{reason_given, deprecation}

-- what is found among what is made of a list
find_mapped : {X Y : Type 0} (f : X → Y) (p : X → Bool) (q : Y → Bool) (xs : List X) → ((x : X) → q (f x) ≡ p x) → find q (map f xs) ≡ option_map f (find p xs)
find_mapped f p q [] same = refl
find_mapped {X} {Y} f p q (x ∷ xs) same = (λ i. if same x i then Some (f x) else find_mapped f p q xs same i) ∙ pushed (p x) (find p xs)
  where
    pushed : (b : Bool) (r : Option X) → (if b then Some (f x) else option_map f r) ≡ option_map f (if b then Some x else r)
    pushed true r = refl
    pushed false r = refl

pub mapped_again : {X Y Z : Type 0} (u : X → Y) (g : Y → Z) (h : X → Z) (o : Option X) → ((x : X) → g (u x) ≡ h x) → option_map g (option_map u o) ≡ option_map h o
mapped_again u g h None same = refl
mapped_again u g h (Some x) same = ap Some (same x)

module _ {P : Type 0} where
  -- a definition without its place, by name
  pub plain_found : (n : List ℕ) (vs : InputValues P) → find (input_value_has_name n) (map (unplaced_node unplaced_input_value) vs) ≡ option_map (unplaced_node unplaced_input_value) (find (input_value_has_name n) vs)
  plain_found n vs = find_mapped (unplaced_node unplaced_input_value) (input_value_has_name n) (input_value_has_name n) vs (λ v. refl)

  text_unplaced : (v : ValueTree P) → string_text (unplaced_value v) ≡ string_text v
  text_unplaced NullTree = refl
  text_unplaced (EnumTree n) = refl
  text_unplaced (VariableTree n) = refl
  text_unplaced (StringTree s) = refl
  text_unplaced (FloatTree s) = refl
  text_unplaced (IntTree s) = refl
  text_unplaced (BooleanTree b) = refl
  text_unplaced (ListTree ts) = refl
  text_unplaced (ObjectTree ts) = refl

  text_there : (o : Option (Placed P (ValueTree P))) → option_and_then (λ v. string_text v.it) (option_map (unplaced_node unplaced_value) o) ≡ option_and_then (λ v. string_text v.it) o
  text_there None = refl
  text_there (Some v) = text_unplaced v.it

  given_unplaced : (n : List ℕ) (given : Arguments P) → given_value n (unplaced_arguments given) ≡ option_map (unplaced_node unplaced_value) (given_value n given)
  given_unplaced n given =
      ap (option_map (λ a. a.it.value)) (find_mapped (unplaced_node unplaced_argument) (argument_has_name n) (argument_has_name n) given (λ a. refl))
      ∙ mapped_again (unplaced_node unplaced_argument) (λ a. a.it.value) (λ a. unplaced_node unplaced_value a.it.value) (find (argument_has_name n) given) (λ a. refl)
      ∙ sym (mapped_again (λ a. a.it.value) (unplaced_node unplaced_value) (λ a. unplaced_node unplaced_value a.it.value) (find (argument_has_name n) given) (λ a. refl))

  reason_unplaced : (given : Arguments P) → reason_given (unplaced_arguments given) ≡ reason_given given
  reason_unplaced given =
      ap (λ o. unwrap_or (option_and_then (λ v. string_text v.it) o) (codes "No longer supported")) (given_unplaced (codes "reason") given)
      ∙ ap (λ o. unwrap_or o (codes "No longer supported")) (text_there (given_value (codes "reason") given))

  pub deprecation_unplaced : (ds : Directives P) → deprecation (unplaced_directives ds) ≡ deprecation ds
  deprecation_unplaced ds =
      ap (option_map (λ d. reason_given d.it.arguments)) (find_mapped (unplaced_node unplaced_directive) (directive_has_name (codes "deprecated")) (directive_has_name (codes "deprecated")) ds (λ d. refl))
      ∙ mapped_again (unplaced_node unplaced_directive) (λ d. reason_given d.it.arguments) (λ d. reason_given d.it.arguments) (find (directive_has_name (codes "deprecated")) ds) (λ d. reason_unplaced d.it.arguments)

  -- where the first `@deprecated` is known, or that there is none
  pub deprecation_found : (ds : Directives P) (o : Option (Placed P _)) → o ≡ find (directive_has_name (codes "deprecated")) ds → option_map (λ d. reason_given d.it.arguments) o ≡ deprecation (unplaced_directives ds)
  deprecation_found ds o is = ap (option_map (λ d. reason_given d.it.arguments)) is ∙ sym (deprecation_unplaced ds)
