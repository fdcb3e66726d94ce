use Rattle.std.proofs.Common.{◌≡◌, map}
use Rattle.std.proofs.lemmas.Result.{IfOk-weaker}
use Rattle.schema_fold_index.specs.in_fold.FaultView.{faults_of}
use Rattle.schema_fold_index.specs.in_fold.NumberedDefinition.{definitions_of}
use Rattle.schema_fold_index.specs.in_fold.ListedView.{listed_view}
use Rattle.schema_fold_index.specs.Index.{text_kind}
use Rattle.schema_fold_types.specs.DefinedKinds.{DefinedKinds, seen_of}
use Rattle.schema_fold_types.specs.DefinedKindsView.{seen_view}
use Rattle.schema_fold_index.proofs.FiledKinds.{defined_kinds}
use Rattle.schema_fold_types.proofs.TellingMisplaced.{tells_misplaced}
use Rattle.schema_fold_types.proofs.Turns.{all_told}
use Rattle.schema_fold_types.proofs.misplaced.tell_misplaced.Goals as goal

pub returns-clause-faults : goal.returns-clause-faults
returns-clause-faults c =
    let built_in = definitions_of (map listed_view c.args.built_in.now) in
    let texts = definitions_of (map listed_view c.args.texts.now) in
    let es = c.args.index.now.defined.entries in
    let own : DefinedKinds = record { kinds = map text_kind es; schema = c.in_ok-schema.schema } in
    let is_own : own ≡ seen_of texts = λ i. record { kinds = defined_kinds texts es c.requires.0 i; schema = c.in_ok-schema.ensures.schema i } in
    IfOk-weaker _ _ _ (λ _ h. all_told built_in texts (seen_view c.in_ok-built_in.built_in) own (faults_of c.args.faults.now) (faults_of c.tell_collisions.new.faults) (faults_of c.tell_extensions.new.faults)
    c.in_ok-built_in.ensures is_own c.in_ok-schema.ensures.faults h) c.tell_extensions.ensures

pub returns-clause-tells : goal.returns-clause-tells
returns-clause-tells c =
    let built_in = definitions_of (map listed_view c.args.built_in.now) in
    let texts = definitions_of (map listed_view c.args.texts.now) in
    let es = c.args.index.now.defined.entries in
    let own : DefinedKinds = record { kinds = map text_kind es; schema = c.in_ok-schema.schema } in
    let is_own : own ≡ seen_of texts = λ i. record { kinds = defined_kinds texts es c.requires.0 i; schema = c.in_ok-schema.ensures.schema i } in
    IfOk-weaker _ _ _ (λ _ h. tells_misplaced built_in texts (faults_of c.args.faults.now) (faults_of c.tell_extensions.new.faults)
    (all_told built_in texts (seen_view c.in_ok-built_in.built_in) own (faults_of c.args.faults.now) (faults_of c.tell_collisions.new.faults) (faults_of c.tell_extensions.new.faults)
    c.in_ok-built_in.ensures is_own c.in_ok-schema.ensures.faults h)) c.tell_extensions.ensures
