-- The faults that are told are those of the rules on positions.
use Rattle.std.proofs.Common.{◌≡◌, List, ◌++◌, inl, inr, Contains}
use Rattle.std.specs.List.{flat_map}
use Rattle.std.proofs.lemmas.List.Elements.{Contains-append_left, Contains-append_right, Contains-append_cases}
use Rattle.graphql_names.specs.Placed.{Place}
use Rattle.schema_fold_index.specs.in_definitions.DefinitionTree.{DefinitionTree}
use Rattle.schema_fold_index.specs.in_components.Lists.{AtSomePlace}
use Rattle.schema_fold_index.proofs.in_components.Places.{found_at, given_at, found_among, given_among, AtSomePlace-map}
use Rattle.schema_fold_index.specs.in_fold.NumberedDefinition.{Definitions}
use Rattle.schema_fold_index.specs.in_fold.BuildErrors.{BuildFault}
use Rattle.schema_fold_types.proofs.Telling.{told_more}
use Rattle.schema_fold_types.specs.Misplaced as placed
use Rattle.schema_fold_types.specs.Misplaced.{Misplaced, TellsMisplaced}
use Rattle.schema_fold_types.specs.DefinedKinds.{seen_of, faults_at, schema_seen, executable_told, schema_told, type_collision_told, scalar_redefinition_told, orphan_schema_told, orphan_type_told, kind_mismatch_told, definition_faults, extension_faults, collision_faults, misplaced_faults}
use Rattle.schema_fold_types.proofs.Judging.{is_executable_definition, is_schema_definition_collision, is_type_definition_collision, is_built_in_scalar_type_redefinition, is_orphan_schema_extension, is_orphan_type_extension, is_type_extension_kind_mismatch}

module _ (built_in texts : Definitions) (f : BuildFault) where
  abbrev at_definition : Definitions → DefinitionTree Place → List BuildFault
  at_definition before d = definition_faults (seen_of built_in) (seen_of before) d

  abbrev at_extension : DefinitionTree Place → List BuildFault
  at_extension d = extension_faults (seen_of built_in) (seen_of texts) d

  abbrev executable : DefinitionTree Place → List BuildFault
  executable d = faults_at d (executable_told d)

  abbrev schema : Definitions → DefinitionTree Place → List BuildFault
  schema before d = faults_at d (schema_told (seen_of before) d)

  abbrev collision : Definitions → DefinitionTree Place → List BuildFault
  collision before d = faults_at d (type_collision_told (seen_of built_in) (seen_of before) d)

  abbrev redefinition : DefinitionTree Place → List BuildFault
  redefinition d = faults_at d (scalar_redefinition_told (seen_of built_in) d)

  abbrev orphan_schema : DefinitionTree Place → List BuildFault
  orphan_schema d = faults_at d (orphan_schema_told (schema_seen (seen_of built_in) (seen_of texts)) d)

  abbrev orphan_type : DefinitionTree Place → List BuildFault
  orphan_type d = faults_at d (orphan_type_told (seen_of built_in) (seen_of texts) d)

  abbrev mismatch : DefinitionTree Place → List BuildFault
  mismatch d = faults_at d (kind_mismatch_told (seen_of built_in) (seen_of texts) d)

  of_definition : AtSomePlace (λ before d. Contains (at_definition before d) f) texts → Misplaced built_in texts f
  of_definition (before, (d, (at, h))) = elim (Contains-append_cases (executable d) (schema before d ++ (collision before d ++ redefinition d)) f h) [
    | inl a ↦ placed.executable_definition (before, (d, (at, (is_executable_definition d f built_in texts before).0 a)))
    | inr r ↦ elim (Contains-append_cases (schema before d) (collision before d ++ redefinition d) f r) [
      | inl b ↦ placed.schema_definition_collision (before, (d, (at, (is_schema_definition_collision d f built_in texts before).0 b)))
      | inr s ↦ elim (Contains-append_cases (collision before d) (redefinition d) f s) [
        | inl c ↦ placed.type_definition_collision (before, (d, (at, (is_type_definition_collision d f built_in texts before).0 c)))
        | inr e ↦ placed.built_in_scalar_type_redefinition (before, (d, (at, (is_built_in_scalar_type_redefinition d f built_in texts before).0 e)))
      ]
    ]
  ]

  of_extension : AtSomePlace (λ before d. Contains (at_extension d) f) texts → Misplaced built_in texts f
  of_extension (before, (d, (at, h))) = elim (Contains-append_cases (orphan_schema d) (orphan_type d ++ mismatch d) f h) [
    | inl a ↦ placed.orphan_schema_extension (before, (d, (at, (is_orphan_schema_extension d f built_in texts before).0 a)))
    | inr r ↦ elim (Contains-append_cases (orphan_type d) (mismatch d) f r) [
      | inl b ↦ placed.orphan_type_extension (before, (d, (at, (is_orphan_type_extension d f built_in texts before).0 b)))
      | inr c ↦ placed.type_extension_kind_mismatch (before, (d, (at, (is_type_extension_kind_mismatch d f built_in texts before).0 c)))
    ]
  ]

  abbrev collisions : List BuildFault
  collisions = collision_faults (seen_of built_in) texts

  abbrev extensions : List BuildFault
  extensions = flat_map at_extension texts

  is_misplaced : Contains (misplaced_faults built_in texts) f → Misplaced built_in texts f
  is_misplaced h = elim (Contains-append_cases collisions extensions f h) [
    | inl a ↦ of_definition (found_at at_definition texts f a)
    | inr b ↦ of_extension (found_among at_extension texts f b)
  ]

  among_collisions : AtSomePlace (λ before d. Contains (at_definition before d) f) texts → Contains (misplaced_faults built_in texts) f
  among_collisions h = Contains-append_left collisions extensions f (given_at at_definition texts f h)

  among_extensions : AtSomePlace (λ before d. Contains (at_extension d) f) texts → Contains (misplaced_faults built_in texts) f
  among_extensions h = Contains-append_right collisions extensions f (given_among at_extension texts f h)

  told : Misplaced built_in texts f → Contains (misplaced_faults built_in texts) f
  told (placed.executable_definition h) = among_collisions (AtSomePlace-map texts (λ b d k.
      Contains-append_left (executable d) (schema b d ++ (collision b d ++ redefinition d)) f ((is_executable_definition d f built_in texts b).1 k)) h)
  told (placed.schema_definition_collision h) = among_collisions (AtSomePlace-map texts (λ b d k.
      Contains-append_right (executable d) (schema b d ++ (collision b d ++ redefinition d)) f
      (Contains-append_left (schema b d) (collision b d ++ redefinition d) f ((is_schema_definition_collision d f built_in texts b).1 k))) h)
  told (placed.type_definition_collision h) = among_collisions (AtSomePlace-map texts (λ b d k.
      Contains-append_right (executable d) (schema b d ++ (collision b d ++ redefinition d)) f
      (Contains-append_right (schema b d) (collision b d ++ redefinition d) f
      (Contains-append_left (collision b d) (redefinition d) f ((is_type_definition_collision d f built_in texts b).1 k)))) h)
  told (placed.built_in_scalar_type_redefinition h) = among_collisions (AtSomePlace-map texts (λ b d k.
      Contains-append_right (executable d) (schema b d ++ (collision b d ++ redefinition d)) f
      (Contains-append_right (schema b d) (collision b d ++ redefinition d) f
      (Contains-append_right (collision b d) (redefinition d) f ((is_built_in_scalar_type_redefinition d f built_in texts b).1 k)))) h)
  told (placed.orphan_schema_extension h) = among_extensions (AtSomePlace-map texts (λ b d k.
      Contains-append_left (orphan_schema d) (orphan_type d ++ mismatch d) f ((is_orphan_schema_extension d f built_in texts b).1 k)) h)
  told (placed.orphan_type_extension h) = among_extensions (AtSomePlace-map texts (λ b d k.
      Contains-append_right (orphan_schema d) (orphan_type d ++ mismatch d) f
      (Contains-append_left (orphan_type d) (mismatch d) f ((is_orphan_type_extension d f built_in texts b).1 k))) h)
  told (placed.type_extension_kind_mismatch h) = among_extensions (AtSomePlace-map texts (λ b d k.
      Contains-append_right (orphan_schema d) (orphan_type d ++ mismatch d) f
      (Contains-append_right (orphan_type d) (mismatch d) f ((is_type_extension_kind_mismatch d f built_in texts b).1 k))) h)

pub tells_misplaced : (built_in texts : Definitions) (old new : List BuildFault) → new ≡ old ++ misplaced_faults built_in texts → TellsMisplaced built_in texts old new
tells_misplaced built_in texts old new is f = told_more old (misplaced_faults built_in texts) new f (Misplaced built_in texts f) is (is_misplaced built_in texts f, told built_in texts f)
