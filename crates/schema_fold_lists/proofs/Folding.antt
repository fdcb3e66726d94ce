-- Lemmas on what a whole list folds to, and on its faults.
use Rattle.std.proofs.Common.{◌≡◌, ◌⊎◌, ℕ, List, [], ◌∷◌, ◌++◌, refl, sym, ap, subst, ◌∙◌, inl, inr, Contains, false, is_some, map, take, drop}
use Rattle.std.specs.Prelude.{◌↔◌}
use Rattle.std.specs.List.{list_any}
use Rattle.std.proofs.lemmas.List.{map-append, take-append-drop, take-map, drop-map, take_at, drop_at}
use Rattle.graphql_names.specs.Placed.{Place}
use Rattle.schema_fold.proofs.in_components.Places.{not_in_nil, Contains-first}
use Rattle.schema_fold.specs.in_schema_types.SchemaTree.{SchemaTree}
use Rattle.schema_fold.specs.in_schema_types.TypeParts.{type_extension_here}
use Rattle.schema_fold.specs.NumberedDefinition.{Definitions, NumberedDefinition, definitions_of}
use Rattle.schema_built_in.specs.Table.{built_in_definitions}
use Rattle.schema_fold.specs.BuildErrors.{BuildFault, Fails, FoldingRules, BreaksSomewhere, DirectiveDefinitionCollisionAt, DuplicateRootOperationIn}
use Rattle.schema_fold.specs.Fold.{folded_directives}
use Rattle.schema_fold_roots.specs.ListFold.{IsFoldOf, TellsRoots}
use Rattle.schema_fold_roots.proofs.Listing.{definitions_numbered}
use Rattle.schema_fold_roots.specs.DirectiveFold.{TellsDirectives}
use Rattle.schema_fold_types.specs.TypeFaults.{FailsInType}
use Rattle.schema_fold_types.specs.ListTypes.{ExtendsNone, FoldsTypes, TellsTypes}
use Rattle.schema_fold_types.specs.Misplaced.{Misplaced, TellsMisplaced}
use Rattle.schema_fold_types.proofs.FailsIs.{FailsInParts, fails_is}
use Rattle.schema_fold_lists.specs.ListBuilt.{FoldsParts, FoldsList}

-- a fault that is told by the four calls in turn is one of the four parts
module _ (built_in : Definitions) (first : ℕ) (texts : Definitions) (f : BuildFault) (one two three four : List BuildFault)
    (misplaced : Contains one f ↔ (Contains [] f ⊎ Misplaced built_in texts f))
    (roots : Contains two f ↔ (Contains one f ⊎ DuplicateRootOperationIn built_in texts first f))
    (directives : Contains three f ↔ (Contains two f ⊎ BreaksSomewhere built_in texts DirectiveDefinitionCollisionAt f))
    (types : Contains four f ↔ (Contains three f ⊎ FailsInType built_in texts first f)) where
  abbrev Parts : Type 0
  Parts = FailsInParts built_in first texts f

  from_one : Contains [] f ⊎ Misplaced built_in texts f → Parts
  from_one (inl h) = absurd (not_in_nil f h)
  from_one (inr h) = inl h

  from_two : Contains one f ⊎ DuplicateRootOperationIn built_in texts first f → Parts
  from_two (inl h) = from_one (misplaced.0 h)
  from_two (inr h) = inr (inr (inl h))

  from_three : Contains two f ⊎ BreaksSomewhere built_in texts DirectiveDefinitionCollisionAt f → Parts
  from_three (inl h) = from_two (roots.0 h)
  from_three (inr h) = inr (inl h)

  from_four : Contains three f ⊎ FailsInType built_in texts first f → Parts
  from_four (inl h) = from_three (directives.0 h)
  from_four (inr h) = inr (inr (inr h))

  to_four : Parts → Contains four f
  to_four (inl h) = types.1 (inl (directives.1 (inl (roots.1 (inl (misplaced.1 (inr h)))))))
  to_four (inr (inl h)) = types.1 (inl (directives.1 (inr h)))
  to_four (inr (inr (inl h))) = types.1 (inl (directives.1 (inl (roots.1 (inr h)))))
  to_four (inr (inr (inr h))) = types.1 (inr h)

  pub told : Contains four f ↔ Fails built_in first texts f
  told = (λ h. (fails_is built_in first texts f).1 (from_four (types.0 h)), λ h. to_four ((fails_is built_in first texts f).0 h))

-- what is built in extends no type
extends_none : list_any (λ d. is_some (type_extension_here d)) built_in_definitions ≡ false
unfolding built_in_definitions
extends_none = refl

-- what the calls fold and tell is what the list folds to
pub folds_parts : (list built_in texts : List NumberedDefinition) (schema : SchemaTree Place) (one two three four : List BuildFault)
    → TellsMisplaced (definitions_of built_in) (definitions_of texts) [] one
    → TellsRoots list one two
    → TellsDirectives (definitions_of built_in) (definitions_of texts) two three
    → TellsTypes built_in texts three four
    → IsFoldOf list schema.definition
    → schema.directives ≡ folded_directives (definitions_of built_in) (definitions_of texts)
    → FoldsTypes built_in texts schema.types
    → built_in ++ texts ≡ list
    → FoldsParts list built_in texts schema four
folds_parts list built_in texts schema one two three four misplaced roots directives types definition folded_d folded_t whole first ds is b t =
    let built = built_in_definitions in
    let made : schema.directives ≡ folded_directives built ds = folded_d ∙ (λ i. folded_directives (b i) (t i)) in
    let m : TellsMisplaced built ds [] one = subst (λ x. TellsMisplaced built x [] one) t (subst (λ x. TellsMisplaced x (definitions_of texts) [] one) b misplaced) in
    let none : ExtendsNone built_in = subst (λ l. list_any (λ e. is_some (type_extension_here e)) l ≡ false) (sym b) extends_none in
    let d : TellsDirectives built ds two three = subst (λ x. TellsDirectives built x two three) t (subst (λ x. TellsDirectives x (definitions_of texts) two three) b directives) in (
      (λ i. record { definition = definition first (built ++ ds) is i; directives = made i; types = folded_t none first (built ++ ds) (whole ∙ is) i }),
      λ f. told built first ds f one two three four (m f) (roots first built ds is f) (d f) (types none first built ds (whole ∙ is) f),
    )

-- the same of the two parts of a list
pub folds_list : {X : Type 0} (view : X → NumberedDefinition) (xs : List X) (built_in : ℕ) (schema : SchemaTree Place) (faults : List BuildFault)
    → FoldsParts (map view xs) (map view (take built_in xs)) (map view (drop built_in xs)) schema faults → FoldsList (map view xs) built_in schema faults
folds_list view xs built_in schema faults h first ds is many =
    let all : definitions_of (map view xs) ≡ built_in_definitions ++ ds = ap definitions_of is ∙ definitions_numbered first (built_in_definitions ++ ds) in
    h first ds is
    (ap definitions_of (sym (take-map view built_in xs)) ∙ sym (take-map (λ l. l.definition) built_in (map view xs)) ∙ ap (take built_in) all ∙ take_at built_in_definitions ds built_in (sym many))
    (ap definitions_of (sym (drop-map view built_in xs)) ∙ sym (drop-map (λ l. l.definition) built_in (map view xs)) ∙ ap (drop built_in) all ∙ drop_at built_in_definitions ds built_in (sym many))

-- the two parts together
pub joined : {X : Type 0} (view : X → NumberedDefinition) (xs front back : List X) (built_in : ℕ) → front ≡ take built_in xs → back ≡ drop built_in xs → map view front ++ map view back ≡ map view xs
joined view xs front back built_in f b = sym (map-append view front back) ∙ ap (map view) ((λ i. f i ++ b i) ∙ take-append-drop built_in xs)

pub folds_split : {X : Type 0} (view : X → NumberedDefinition) (xs front back : List X) (built_in : ℕ) → front ≡ take built_in xs → back ≡ drop built_in xs → (schema : SchemaTree Place) (faults : List BuildFault)
    → FoldsParts (map view xs) (map view front) (map view back) schema faults → FoldsList (map view xs) built_in schema faults
folds_split view xs front back built_in f b schema faults h =
    folds_list view xs built_in schema faults
    (subst (λ l. FoldsParts (map view xs) (map view (take built_in xs)) (map view l) schema faults) b
    (subst (λ l. FoldsParts (map view xs) (map view l) (map view back) schema faults) f h))

-- no faults where the rules hold
pub faultless : (built_in : Definitions) (first : ℕ) (texts : Definitions) (faults : List BuildFault) → ((f : BuildFault) → Contains faults f ↔ Fails built_in first texts f) → (faults ≡ []) ↔ FoldingRules built_in first texts
faultless built_in first texts faults all = (λ none f fails. not_in_nil f (subst (λ l. Contains l f) none ((all f).1 fails)), λ rules. none_left faults (λ f h. rules f ((all f).0 h)))
  where
    none_left : (fs : List BuildFault) → ((f : BuildFault) → Contains fs f → ⊥) → fs ≡ []
    none_left [] h = refl
    none_left (f ∷ fs) h = absurd (h f (Contains-first f fs f refl))
