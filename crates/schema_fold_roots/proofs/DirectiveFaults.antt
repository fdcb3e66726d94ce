-- The faults of second definitions of directives are those of the rule.
use Rattle.std.proofs.Common.{◌≡◌, Bool, true, false, List, [], ◌∷◌, ◌++◌, map, Option, None, Some, refl, sym, ap, subst, ◌∙◌, cond, if◌then◌else◌, option_to_list, Contains}
use Rattle.std.specs.List.{flat_map}
use Rattle.std.proofs.lemmas.List.{append-nil, map-append}
use Rattle.std.proofs.lemmas.Option.{same_Some}
use Rattle.graphql_names.specs.Placed.{Place}
use Rattle.schema_fold.specs.in_definitions.DefinitionTree as tree
use Rattle.schema_fold.specs.in_definitions.DefinitionTree.{DefinitionTree}
use Rattle.schema_fold.specs.in_definitions.Queries.{definition_place}
use Rattle.schema_components.specs.Lists.{each_place, each_place_after, has_name}
use Rattle.schema_components.proofs.Places.{not_in_nil, found_at, given_at, AtSomePlace-map, only, is_only}
use Rattle.schema_fold.specs.NumberedDefinition.{Definitions, directive_here, directive_name, directives_in}
use Rattle.schema_fold.specs.BuildErrors.{BuildFault, DirectiveDefinitionCollision, DirectiveDefinitionCollisionAt, BreaksSomewhere}
use Rattle.schema_fold_roots.specs.DirectiveFold.{Directive, directive_fault, directive_faults, TellsDirectives}
use Rattle.schema_fold_roots.proofs.Gathering.{flat_map-push}
use Rattle.schema_fold_roots.proofs.Telling.{told_more}

abbrev again : List Directive → Directive → List Directive
again before x = if has_name directive_name (directive_name x) before then x ∷ [] else []

-- what is told at a place of the list
abbrev told_of : List Directive → Option Directive → List BuildFault
told_of before o = flat_map (λ own. map directive_fault (again before own)) (option_to_list o)

abbrev told_at : Definitions → DefinitionTree Place → List BuildFault
told_at before d = told_of (directives_in before) (directive_here d)

abbrev gives : DefinitionTree Place → List Directive
gives d = option_to_list (directive_here d)

told_after : (before ds : Definitions) → map directive_fault (each_place_after again (directives_in before) (directives_in ds)) ≡ each_place_after told_at before ds
told_after before [] = refl
told_after before (d ∷ ds) = by (directive_here d) refl ∙ ap (λ l. told_at before d ++ l) (told_after (before ++ d ∷ []) ds)
  where
    by : (o : Option Directive) → directive_here d ≡ o
        → map directive_fault (each_place_after again (directives_in before) (option_to_list o ++ directives_in ds)) ≡ told_of (directives_in before) o ++ map directive_fault (each_place_after again (directives_in (before ++ d ∷ [])) (directives_in ds))
    by None e = ap (λ b. map directive_fault (each_place_after again b (directives_in ds))) (sym (flat_map-push gives before d ∙ ap (λ o. directives_in before ++ option_to_list o) e ∙ append-nil (directives_in before)))
    by (Some own) e =
        map-append directive_fault (again (directives_in before) own) (each_place_after again (directives_in before ++ own ∷ []) (directives_in ds))
        ∙ ap (λ l. l ++ map directive_fault (each_place_after again (directives_in before ++ own ∷ []) (directives_in ds))) (sym (append-nil (map directive_fault (again (directives_in before) own))))
        ∙ ap (λ b. told_of (directives_in before) (Some own) ++ map directive_fault (each_place_after again b (directives_in ds))) (sym (flat_map-push gives before d ∙ ap (λ o. directives_in before ++ option_to_list o) e))

place_here : (d : DefinitionTree Place) (own : Directive) → directive_here d ≡ Some own → definition_place d ≡ own.place
place_here (tree.DirectiveDefinition p t) own e = ap (λ x. x.place) (same_Some _ _ e)
place_here _ own e = cc

-- at a place, by what is defined there
found_here : (before : Definitions) (d : DefinitionTree Place) (f : BuildFault) → Contains (told_at before d) f → DirectiveDefinitionCollisionAt before d f
found_here before d f h = by (directive_here d) refl h
  where
    by : (o : Option Directive) → directive_here d ≡ o → Contains (told_of (directives_in before) o) f → DirectiveDefinitionCollisionAt before d f
    by None e k = absurd (not_in_nil f k)
    by (Some own) e k = in_list (has_name directive_name (directive_name own) (directives_in before)) refl (subst (λ l. Contains l f) (append-nil (map directive_fault (again (directives_in before) own))) k)
      where
        in_list : (b : Bool) → has_name directive_name (directive_name own) (directives_in before) ≡ b → Contains (map directive_fault (cond b (own ∷ []) [])) f → DirectiveDefinitionCollisionAt before d f
        in_list true seen m = (own, (e, seen, only (directive_fault own) f m ∙ ap (λ p. record { place = p; breach = DirectiveDefinitionCollision (directive_name own) }) (sym (place_here d own e))))
        in_list false seen m = absurd (not_in_nil f m)

given_here : (before : Definitions) (d : DefinitionTree Place) (f : BuildFault) → DirectiveDefinitionCollisionAt before d f → Contains (told_at before d) f
given_here before d f (own, (e, seen, is)) =
    subst (λ o. Contains (told_of (directives_in before) o) f) (sym e)
    (subst (λ b. Contains (map directive_fault (cond b (own ∷ []) []) ++ []) f) (sym seen)
    (is_only (directive_fault own) f (is ∙ ap (λ p. record { place = p; breach = DirectiveDefinitionCollision (directive_name own) }) (place_here d own e))))

pub tells_directives : (built_in texts : Definitions) (old new : List BuildFault) → new ≡ old ++ directive_faults (directives_in texts) → TellsDirectives built_in texts old new
tells_directives built_in texts old new is f = told_more old (each_place told_at texts) new f (BreaksSomewhere built_in texts DirectiveDefinitionCollisionAt f) (is ∙ ap (λ l. old ++ l) (told_after [] texts)) (
  λ h. AtSomePlace-map texts (λ b d k. found_here b d f k) (found_at told_at texts f h),
  λ h. given_at told_at texts f (AtSomePlace-map texts (λ b d k. given_here b d f k) h),
)
