-- The answers of the checker's calls, as contracts see them.
use Rattle.std.specs.Prelude.{◌≡◌, ◌++◌, ℕ, List, Option, Some, Result, Ok, Err}
use Rattle.std.specs.List.{AllZip}
use Rattle.graphql_names.specs.Device.{device_inner}
use Rattle.graphql_names.specs.declared.device.Device.{Device}
use Rattle.checker_calls.specs.Devices.{TellsText}
use Rattle.graphql_checked.specs.in_checker_schemas.CheckedSchemaValue.{CheckedSchemaValue}
use Rattle.graphql_checked.specs.CheckerValue.{CheckedDocumentValue}
use Rattle.graphql_checked.specs.CheckedView.{CheckedSchemaParts, CheckedDocumentParts, schema_value, document_value}
use Rattle.checker_calls.specs.declared.refusal.Refusal.{Refusal}
use Rattle.verdict_laws.specs.Answers.{RunValue}

-- with a checked schema
abbrev pub seen_schema : Result CheckedSchemaParts Refusal → Result CheckedSchemaValue Refusal
seen_schema (Ok s) = Ok (schema_value s)
seen_schema (Err r) = Err r

-- with a checked document
abbrev pub seen_document : Result CheckedDocumentParts Refusal → Result CheckedDocumentValue Refusal
seen_document (Ok d) = Ok (document_value d)
seen_document (Err r) = Err r

-- a run: its readers tell their texts, and its writer tells what it holds before the run and, with what the run put out, after it
pub record IsSeenRun {R D W : Type 0} (of_schema : R → Option (List ℕ)) (of_document : D → Option (List ℕ)) (contents : W → Option (List ℕ))
    (schemas : List (Device R)) (document : Device D) (old new : Device W) (run : RunValue) : Type 0 where
  pub schemas_tell : AllZip (TellsText of_schema) schemas run.texts
  pub document_tells : TellsText of_document document run.text
  pub held : List ℕ
  pub before : contents (device_inner old) ≡ Some held
  pub after : contents (device_inner new) ≡ Some (held ++ run.put)
