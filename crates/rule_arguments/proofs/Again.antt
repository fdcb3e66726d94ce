-- What is told of what is used again, by the place that was noted first under its name.
use Rattle.std.proofs.Common.{◌≡◌, ◌<◌, Bool, true, false, List, [], ◌∷◌, ◌++◌, map, find, length, Option, None, Some, refl, sym, ap, ◌∙◌, if◌then◌else◌, arith}
use Rattle.std.specs.Option.{option_map, option_map_or}
use Rattle.graphql_names.specs.Placed.{Placed, Place}
use Rattle.tree_directives.specs.DirectiveTree.{ArgumentTree, Arguments, DirectiveTree, Directives, DirectiveDefinitionTree}
use Rattle.tree_directives.specs.DirectiveQueries.{argument_has_name, directive_has_name}
use Rattle.schema_components.specs.Lists.{each_place}
use Rattle.rule_values.specs.in_rule_definitions.Diagnostics.{UniqueArgument, UniqueDirective}
use Rattle.rule_values.specs.in_rule_definitions.Faults.{wrong}
use Rattle.rule_values.specs.in_rule_definitions.Names.{argument_name, directive_name}
use Rattle.rule_values.specs.in_rule_definitions.PlacedFaults.{PlacedFault}
use Rattle.rule_values.specs.Firsts.{first_told}
use Rattle.rule_values.proofs.in_inputs.Noted.{told_found}
use Rattle.rule_arguments.specs.UseFaults.{argument_again, repeated_argument, directive_again, found_repeated, repeated_directive}

-- nothing stands again where less than two stand
pub few : {A X B : Type 0} (f : A → X) (tells : List X → X → List B) → ((x : X) → tells [] x ≡ []) → (xs : List A) → length xs < 2 → [] ≡ each_place tells (map f xs)
few f tells none [] h = refl
few f tells none (x ∷ []) h = ap (λ l. l ++ []) (sym (none (f x)))
few f tells none (x ∷ y ∷ xs) h = absurd (omega (arith, h))

pub argument_first : (a : Placed Place (ArgumentTree Place)) → repeated_argument [] a ≡ []
argument_first a = refl

pub directive_first : (defined : Option (Placed Place (DirectiveDefinitionTree Place))) (d : Placed Place (DirectiveTree Place)) → repeated_directive defined [] d ≡ []
directive_first None d = refl
directive_first (Some x) d = by x.it.repeatable
  where
    by : (b : Bool) → (if b then [] else found_repeated [] d) ≡ []
    by true = refl
    by false = refl

module _ (before : Arguments Place) (later : Placed Place (ArgumentTree Place)) where
  pub argument_again_is : (first : Option Place) → first ≡ first_told argument_name (λ j a. a.place) before (argument_name later) → argument_again first later ≡ repeated_argument before later
  argument_again_is first e = ap (λ o. argument_again o later) (e ∙ told_found argument_name (λ a. a.place) before (argument_name later)) ∙ by (find (argument_has_name (argument_name later)) before)
    where
      by : (o : Option (Placed Place (ArgumentTree Place))) → argument_again (option_map (λ a. a.place) o) later
          ≡ option_map_or (λ (a : Placed Place (ArgumentTree Place)). wrong later.place (UniqueArgument (argument_name later) a.place later.place) ∷ []) o []
      by None = refl
      by (Some a) = refl

module _ (defined : Option (Placed Place (DirectiveDefinitionTree Place))) (before : Directives Place) (later : Placed Place (DirectiveTree Place)) where
  abbrev told : Option Place → List PlacedFault
  told first = option_map_or (λ p. wrong later.place (UniqueDirective (directive_name later) p) ∷ []) first []

  pub directive_again_is : (first : Option Place) → first ≡ first_told directive_name (λ j d. d.place) before (directive_name later) → directive_again defined first later ≡ repeated_directive defined before later
  directive_again_is first e =
      ap (λ (l : List PlacedFault). option_map_or (λ x. if x.it.repeatable then [] else l) defined [])
      (ap told (e ∙ told_found directive_name (λ d. d.place) before (directive_name later)) ∙ by (find (directive_has_name (directive_name later)) before))
    where
      by : (o : Option (Placed Place (DirectiveTree Place))) → told (option_map (λ d. d.place) o)
          ≡ option_map_or (λ (d : Placed Place (DirectiveTree Place)). wrong later.place (UniqueDirective (directive_name later) d.place) ∷ []) o []
      by None = refl
      by (Some d) = refl
