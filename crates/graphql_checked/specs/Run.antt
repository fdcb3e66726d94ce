-- What `run` reads and puts out.
use Rattle.std.specs.Prelude.{◌≡◌, ℕ, ◌+◌, ◌<◌, ◌++◌, true, List, length, take, codes, Option, ◌⊎◌, Result, Ok, Err, IsUtf8}
use Rattle.std.specs.List.{All, AllZip}
use Rattle.std.specs.Io.KnownBytes.{Appends}
use Rattle.graphql_names.specs.declared.device.Device.{Device}
use Rattle.graphql_names.specs.Device.{device_inner, device_failed}
use Rattle.book_validity.specs.in_verdict_definitions.Texts.{SourceText, Terms}
use Rattle.book_validity.specs.in_verdict_definitions.Judge.{IsCertain}
use Rattle.book_validity.specs.in_verdict_definitions.Out.{Layout, layout_text, as_lines}
use Rattle.book_validity.specs.in_verdict_definitions.Answer.{WritesDocument, AcceptedBytes, RefusedBytes, Answer}
use Rattle.book_validity.specs.Yes.{IsYes}
use Rattle.checker_calls.specs.Devices.{IsTextOf, TellsText, AreTextsOf, IsReadToEnd, AreReadToEnd, IsNotUtf8Of, IsNotUtf8At, HasFailedAt}
use Rattle.checker_calls.specs.Parts.{parts_bytes, AreSound}
use Rattle.checker_calls.specs.declared.parts.Parts.{Parts}
use Rattle.checker_calls.specs.declared.run_fault.Outcome.{Outcome}
use Rattle.checker_calls.specs.declared.run_fault.Outcome.TheVariants.{Accepted, Refused}
use Rattle.checker_calls.specs.declared.run_fault.RunFault.{RunFault}
use Rattle.checker_calls.specs.declared.run_fault.RunFault.TheVariants.{Memory, Reader, NotUtf8, Writer}
use Rattle.checker_schemas.specs.CheckedSchemaValue.{CheckedSchemaValue}

-- the bytes that go with an outcome for these texts
abbrev pub BytesOf : Terms → Layout → Outcome → List SourceText → SourceText → List ℕ → Type 0
BytesOf terms layout Accepted texts text bytes = IsYes terms texts text × AcceptedBytes terms layout texts text bytes
BytesOf terms layout Refused texts text bytes = RefusedBytes terms texts text bytes

module _ {R D : Type 0} (of_schema : R → Option (List ℕ)) (of_document : D → Option (List ℕ)) (terms : Terms) where
  -- The readers tell their texts, and the pair is accepted and passes no bound.
  pub record TellCertain (schemas : List (Device R)) (document : Device D) : Type 0 where
    pub texts : List SourceText
    pub text : SourceText
    pub schemas_tell : AllZip (TellsText of_schema) schemas texts
    pub document_tells : TellsText of_document document text
    pub certain : IsCertain terms texts text

-- what may be answered for such a pair: that it is accepted, that memory ran out, or that a device has failed
abbrev pub IsAnswerToCertain : Result Outcome RunFault → Type 0
IsAnswerToCertain (Ok Accepted) = Unit {0}
IsAnswerToCertain (Ok Refused) = ⊥
IsAnswerToCertain (Err Memory) = Unit {0}
IsAnswerToCertain (Err (Reader number)) = Unit {0}
IsAnswerToCertain (Err (Writer count)) = Unit {0}
IsAnswerToCertain (Err (NotUtf8 number)) = ⊥

-- Each reader is at its end, and so is that of the document, even if the schema texts are refused.
abbrev pub AreAllRead : {R D : Type 0} → (R → Option (List ℕ)) → (D → Option (List ℕ)) → List (Device R) → Device D → Type 0
AreAllRead of_schema of_document schemas document = AreReadToEnd of_schema schemas × IsReadToEnd of_document document

module _ {R D W : Type 0} (of_schema : R → Option (List ℕ)) (of_document : D → Option (List ℕ)) (contents : W → Option (List ℕ))
    (layout : Layout) (terms : Terms) where
  -- What the writer took is `front` of bytes that are `of` the texts of the readers, which are UTF-8.
  pub record WritesOfTexts (of : List SourceText → SourceText → List ℕ → Type 0) (schemas : List (Device R)) (document : Device D) (old new : Device W) (front : List ℕ → List ℕ) : Type 0 where
    pub texts : List SourceText
    pub text : SourceText
    pub bytes : List ℕ
    pub schemas_are : AreTextsOf of_schema schemas texts
    pub document_is : IsTextOf of_document document text
    pub schemas_are_utf8 : All IsUtf8 texts
    pub document_is_utf8 : IsUtf8 text
    pub answers : of texts text bytes
    pub put : Appends (contents (device_inner old)) (contents (device_inner new)) (front bytes)

  -- All bytes of the outcome are written.
  abbrev pub WritesAnswer : List (Device R) → Device D → Device W → Device W → Outcome → Type 0
  WritesAnswer schemas document out out' outcome = WritesOfTexts (BytesOf terms layout outcome) schemas document out out' (λ bytes. bytes)

  -- When each fault is answered; `schemas`, `document` and `out` are as before the run, the others as after it.
  abbrev pub RunFaultIsDue : List (Device R) → List (Device R) → Device D → Device D → Device W → Device W → RunFault → Type 0
  RunFaultIsDue schemas schemas' document document' out out' Memory = out' ≡ out
  RunFaultIsDue schemas schemas' document document' out out' (Reader number) =
      ((HasFailedAt schemas' number × (document' ≡ document)) ⊎ ((number ≡ length schemas + 1) × (device_failed document' ≡ true))) × (out' ≡ out)
  RunFaultIsDue schemas schemas' document document' out out' (NotUtf8 number) =
      ((IsNotUtf8At of_schema schemas number × (document' ≡ document)) ⊎ ((number ≡ length schemas + 1) × IsNotUtf8Of of_document document)) × (out' ≡ out)
  RunFaultIsDue schemas schemas' document document' out out' (Writer count) =
      (device_failed out' ≡ true) × AreAllRead of_schema of_document schemas' document' × WritesOfTexts (λ texts text bytes. Answer terms layout texts text bytes × (count < length bytes)) schemas document out out' (take count)

-- ---- private: what the parts of a run answer

-- the outcome for the texts, with the bytes that go with it; or memory ran out
abbrev pub IsAnswerTo : Layout → Terms → List SourceText → SourceText → Result (Outcome × Parts) RunFault → Type 0
IsAnswerTo layout terms texts text (Ok (outcome, parts)) = AreSound parts × BytesOf terms layout outcome texts text (parts_bytes parts)
IsAnswerTo layout terms texts text (Err fault) = fault ≡ Memory

-- the pair is accepted, or no outcome is answered
abbrev pub AcceptsOrFails : Result (Outcome × Parts) RunFault → Type 0
AcceptsOrFails (Ok (Accepted, parts)) = Unit {0}
AcceptsOrFails (Ok (Refused, parts)) = ⊥
AcceptsOrFails (Err fault) = Unit {0}

-- The bytes of the answer `accepted`, for this schema and the document of this text.
pub record IsWrittenAnswer (layout : Layout) (schema : CheckedSchemaValue) (text : SourceText) (bytes : List ℕ) : Type 0 where
  pub written_document : List ℕ
  pub writes_document : WritesDocument layout schema.number text written_document
  pub is : bytes ≡ codes "accepted\n" ++ as_lines layout (layout_text layout schema.written) ++ as_lines layout written_document
