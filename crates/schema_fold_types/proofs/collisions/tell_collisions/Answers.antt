use Rattle.std.proofs.Common.{◌<◌, ◌||◌, ◌++◌, map, take, get_or, length, refl, sym, ap, ◌∙◌, is_some, arith}
use Rattle.schema_fold_index.specs.in_definitions.DefinitionTree.{definition_tree}
use Rattle.schema_fold_index.specs.in_components.Lists.{has_name}
use Rattle.schema_fold_index.specs.in_fold.FaultView.{faults_of}
use Rattle.schema_fold_index.specs.in_fold.NumberedDefinition.{type_name, types_in, definitions_of}
use Rattle.schema_fold_index.specs.in_fold.ListedView.{listed_view}
use Rattle.schema_fold_index.specs.in_fold.SchemaFold.{schema_definition_in}
use Rattle.schema_fold_index.specs.Index.{is_filed_before}
use Rattle.schema_fold_types.specs.DefinedKinds.{seen_of, collision_faults}
use Rattle.schema_fold_types.specs.DefinedKindsView.{seen_view}
use Rattle.schema_fold_types.proofs.Before.{stands_before}
use Rattle.schema_fold_types.proofs.After.{faults_are}
use Rattle.schema_fold_index.proofs.Listing.{definitions_more, taken}
use Rattle.schema_fold_types.proofs.Seeing.{schema_more}
use Rattle.schema_fold_types.proofs.Turns.{told_definition}
use Rattle.schema_fold_types.proofs.collisions.tell_collisions.Goals as goal

pub loop-position-preserved : goal.loop-position-preserved
loop-position-preserved c =
    let xs = c.args.texts.now in
    let i = c.loop-position.position in
    let x = c.index-texts-position.result in
    let h : i < length xs = omega arith in
    let d = definition_tree (get_or xs i x).definition in
    let before = definitions_of (map listed_view (take i xs)) in
    let front = definitions_more xs i x h in
    let built_in = seen_view c.args.built_in.now in
    let start = faults_of c.args.faults.now in
    let was = c.loop-position.invariant in
    let faults = faults_of c.loop-position.faults in
    let es = c.args.defined.now.entries in
    let told = faults_are built_in c.loop-position.schema (is_filed_before i es) before was.schema
    (λ n. stands_before n i (definitions_of (map listed_view xs)) es c.requires ∙ ap (λ ds. has_name type_name n (types_in ds)) (taken xs i)) d in
    record {
      schema = (λ j. was.schema j || c.is_schema_definition-schema.ensures j) ∙ sym (schema_more before d) ∙ ap (λ ds. is_some (schema_definition_in ds)) (sym front);
      told = told_definition built_in before d (seen_of before) start faults (faults_of c.tell_definition.new.faults) refl was.told (c.in_ok-tell_definition.ensures ∙ ap (λ l. faults ++ l) told)
          ∙ ap (λ ds. start ++ collision_faults built_in ds) (sym front);
    }
