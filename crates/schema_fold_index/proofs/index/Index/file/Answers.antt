use Rattle.std.proofs.Common.{sym, ap}
use Rattle.std.specs.Option.{option_map}
use Rattle.std.proofs.lemmas.Result.{IfOk-weaker}
use Rattle.schema_fold.specs.in_definitions.DefinitionTree.{definition_tree}
use Rattle.schema_fold.specs.in_schema_types.TypeParts.{type_extension_here}
use Rattle.schema_fold.specs.Made.{defined_view}
use Rattle.schema_fold.specs.PartsView.{parts_view}
use Rattle.schema_fold_index.specs.declared.index.Index.{Index}
use Rattle.schema_fold_index.specs.Index.{parts_here, Files, FilesUnder}
use Rattle.schema_fold_index.proofs.Indexing.{filed_none, filed_one}
use Rattle.schema_fold_index.proofs.Extending.{defines_extends_none}
use Rattle.schema_fold_index.proofs.index.Index.file.Goals as goal

pub returns-in-Some : goal.returns-in-Some
returns-in-Some c =
    let d = definition_tree c.args.definition.now in
    let old = c.args.self.now in
    let t = defined_view c.in-Some.defined in
    let is = sym c.in-Some.ensures in
    let new : Index = record { defined = c.file_under.new.filed; extended = old.extended } in
    IfOk-weaker c.file_under.result (λ _. FilesUnder c.args.position t.parts old.defined.entries c.file_under.new.filed.entries) (λ _. Files c.args.position d old new) (λ _ h before at was. (
      filed_one parts_here before d c.args.position t.parts old.defined.entries c.file_under.new.filed.entries (ap (option_map (λ u. u.parts)) is) at h was.0,
      filed_none type_extension_here before d old.extended.entries (defines_extends_none d t is) was.1,
    )) c.file_under.ensures

pub returns-in-Some-extension_parts : goal.returns-in-Some-extension_parts
returns-in-Some-extension_parts c =
    let d = definition_tree c.args.definition.now in
    let old = c.args.self.now in
    let called = c.file_under-in-Some-extension_parts in
    let parts = parts_view c.in-Some-extension_parts.parts in
    let new : Index = record { defined = old.defined; extended = called.new.filed } in
    IfOk-weaker called.result (λ _. FilesUnder c.args.position parts old.extended.entries called.new.filed.entries) (λ _. Files c.args.position d old new) (λ _ h before at was. (
      filed_none parts_here before d old.defined.entries (ap (option_map (λ u. u.parts)) (sym c.in_default.ensures)) was.0,
      filed_one type_extension_here before d c.args.position parts old.extended.entries called.new.filed.entries (sym c.in-Some-extension_parts.ensures) at h was.1,
    )) called.ensures

pub returns : goal.returns
returns c = λ before at was.
    let d = definition_tree c.args.definition.now in
    let old = c.args.self.now in (
      filed_none parts_here before d old.defined.entries (ap (option_map (λ u. u.parts)) (sym c.in_default.ensures)) was.0,
      filed_none type_extension_here before d old.extended.entries (sym c.in_default-extension_parts.ensures) was.1,
    )
