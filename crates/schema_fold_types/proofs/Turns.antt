-- Lemmas on the turns of the loops that tell faults.
use Rattle.std.proofs.Common.{◌≡◌, List, [], ◌∷◌, ◌++◌, sym, ap, ◌∙◌, append_assoc}
use Rattle.std.specs.List.{flat_map}
use Rattle.graphql_names.specs.Placed.{Place}
use Rattle.schema_fold_index.specs.in_definitions.DefinitionTree.{DefinitionTree}
use Rattle.schema_fold_index.proofs.in_components.Places.{each_place-push}
use Rattle.schema_fold_index.specs.in_fold.NumberedDefinition.{Definitions}
use Rattle.schema_fold_index.specs.in_fold.BuildErrors.{BuildFault}
use Rattle.schema_fold_index.proofs.Listing.{flat_map-push}
use Rattle.schema_fold_types.specs.DefinedKinds.{DefinedKinds, seen_of, definition_faults, extension_faults, collision_faults, misplaced_faults}

pub told_definition : (built_in : DefinedKinds) (before : Definitions) (d : DefinitionTree Place) (own : DefinedKinds) (start faults faults' : List BuildFault)
    → own ≡ seen_of before → faults ≡ start ++ collision_faults built_in before → faults' ≡ faults ++ definition_faults built_in own d → faults' ≡ start ++ collision_faults built_in (before ++ d ∷ [])
told_definition built_in before d own start faults faults' seen was told =
    told ∙ (λ i. was i ++ definition_faults built_in (seen i) d)
    ∙ append_assoc start (collision_faults built_in before) (definition_faults built_in (seen_of before) d)
    ∙ ap (λ l. start ++ l) (sym (each_place-push (λ b e. definition_faults built_in (seen_of b) e) before d))

pub told_extension : (tells : DefinitionTree Place → List BuildFault) (before : Definitions) (d : DefinitionTree Place) (start faults faults' : List BuildFault)
    → faults ≡ start ++ flat_map tells before → faults' ≡ faults ++ tells d → faults' ≡ start ++ flat_map tells (before ++ d ∷ [])
told_extension tells before d start faults faults' was told =
    told ∙ ap (λ l. l ++ tells d) was ∙ append_assoc start (flat_map tells before) (tells d) ∙ ap (λ l. start ++ l) (sym (flat_map-push tells before d))

pub all_told : (built_in texts : Definitions) (b o : DefinedKinds) (start faults faults' : List BuildFault) → b ≡ seen_of built_in → o ≡ seen_of texts
    → faults ≡ start ++ collision_faults b texts → faults' ≡ faults ++ flat_map (extension_faults b o) texts → faults' ≡ start ++ misplaced_faults built_in texts
all_told built_in texts b o start faults faults' is_b is_o was told =
    told ∙ ap (λ l. l ++ flat_map (extension_faults b o) texts) was
    ∙ append_assoc start (collision_faults b texts) (flat_map (extension_faults b o) texts)
    ∙ (λ i. start ++ (collision_faults (is_b i) texts ++ flat_map (extension_faults (is_b i) (is_o i)) texts))
