-- What the calls tell, from what their parts answer: what an answer says of the room, the status and what is kept.
use Rattle.std.proofs.Common.{◌≡◌, ◌≢◌, ℕ, Bool, List, [], ◌++◌, length, drop, ◌⊎◌, inl, inr, sym, ap, subst, ◌∙◌, arith}
use Rattle.std.specs.Prelude.{IfSome, Option, None, Some}
use Rattle.verdict_definitions.specs.Texts.{SourceText}
use Rattle.verdict_definitions.specs.Out.{Layout}
use Rattle.ffi_memory.specs.Room.{IsPut}
use Rattle.graphql_checked_c.specs.declared.handle.Kept.{Kept}
use Rattle.graphql_checked_c.specs.CallResults.{IsKeptOfTexts, HoldsSchemaOf, IsToldOfTexts, KeepsOrNot, IsToldIn, IsUntold, IsStatus, IsDoneOrMemory, IsDoneOrMemoryOrPrefix, IsYesOver, IsToldOver, OneIsNotUtf8, IsCertainOver, layout_of, IsSchemaText, IsDocumentText, TellsSchemaText, AnswersTexts, IsYesAlone, IsOfKept, AnswersKept}

-- nothing is put where there are no bytes
pub put_nothing : (bytes old new : List ℕ) (needed : ℕ) → bytes ≡ [] → IsPut bytes old new needed → IsUntold old new needed
put_nothing bytes old new needed none put =
    let zero_needed : needed ≡ 0 = put.told ∙ ap length none in
    (zero_needed, put.fits (omega (arith, zero_needed)) ∙ ap (λ (b : List ℕ). b ++ drop needed old) none ∙ ap (λ n. drop n old) zero_needed)

-- what is so of the value that there is
some_is : {A : Type 0} (value : Option A) (x : A) (P : A → Type 0) → value ≡ Some x → P x → IfSome value P
some_is {A} value x P is so = subst (λ (v : Option A). IfSome v P) (sym is) so

-- ---- schema texts that are opened

-- what is kept is held
pub opened_holds : (nesting : ℕ) (names name_ends texts ends : List ℕ) (kept : Kept) (value : Option Kept) (status : ℕ) → IsKeptOfTexts nesting names name_ends texts ends kept
    → KeepsOrNot kept value status → status ≡ 0 → HoldsSchemaOf nesting names name_ends texts ends value
opened_holds nesting names name_ends texts ends kept value status of (inl (done, is)) zero = (kept, (is, of))
opened_holds nesting names name_ends texts ends kept value status of (inr (four, none)) zero = absurd (omega (arith, four, zero))

module _ (json : Bool) (nesting : ℕ) (names name_ends texts ends : List ℕ) (status result : ℕ) (bytes old new : List ℕ) (needed : ℕ) where
  pub texts_told : AnswersTexts json nesting names name_ends texts ends status bytes → IsPut bytes old new needed → result ≡ status → result ≡ 1
      → IsToldIn old new needed (IsToldOfTexts json nesting names name_ends texts ends)
  texts_told answers put same one = (bytes, (answers.report (sym same ∙ one), put))

  pub texts_untold : AnswersTexts json nesting names name_ends texts ends status bytes → IsPut bytes old new needed → result ≡ status → result ≢ 1 → IsUntold old new needed
  texts_untold answers put same not = put_nothing bytes old new needed (answers.untold (λ one. not (same ∙ one))) put

-- ---- the text of the schema that is kept

module _ (l : Layout) (lines : Bool) (prefix : List ℕ) (value : Option Kept) (status result : ℕ) (bytes old new : List ℕ) (needed : ℕ)
    (answer : IsOfKept value (λ k. TellsSchemaText l k.schema status bytes)) (put : IsPut bytes old new needed) (same : result ≡ status) where
  pub schema_told : l ≡ layout_of lines prefix → result ≡ 0 → IfSome value (λ k. IsToldIn old new needed (IsSchemaText (layout_of lines prefix) k.schema))
  schema_told layout zero = elim answer.1.1 [
    | inl done ↦ some_is value answer.0 (λ k. IsToldIn old new needed (IsSchemaText (layout_of lines prefix) k.schema)) answer.1.0
        (bytes, (subst (λ l. IsSchemaText l answer.0.schema bytes) layout done.1, put))
    | inr memory ↦ absurd (omega (arith, same, zero, memory.0))
  ]

  pub schema_status : IsDoneOrMemoryOrPrefix result
  schema_status = elim answer.1.1 [ inl done ↦ inl (inl (same ∙ done.0)) | inr memory ↦ inl (inr (same ∙ memory.0)) ]

  pub schema_untold : result ≢ 0 → IsUntold old new needed
  schema_untold not = elim answer.1.1 [ inl done ↦ absurd (not (same ∙ done.0)) | inr memory ↦ put_nothing bytes old new needed memory.1 put ]

  pub schema_prefixed : {X : Type 0} → result ≡ 8 → X
  schema_prefixed eight = elim answer.1.1 [ inl done ↦ absurd (omega (arith, same, eight, done.0)) | inr memory ↦ absurd (omega (arith, same, eight, memory.0)) ]

-- ---- a document over the schema that is kept

-- a status that is neither 0 nor 1
far : (status : ℕ) → (status ≡ 3) ⊎ (status ≡ 4) ⊎ (status ≡ 5) ⊎ (status ≡ 7) ⊎ (status ≡ 8) → status ≢ 0
far status (inl e) z = omega (arith, e, z)
far status (inr (inl e)) z = omega (arith, e, z)
far status (inr (inr (inl e))) z = omega (arith, e, z)
far status (inr (inr (inr (inl e)))) z = omega (arith, e, z)
far status (inr (inr (inr (inr e)))) z = omega (arith, e, z)

module _ (json : Bool) (told : Kept → List ℕ → Type 0) (value : Option Kept) (path : List ℕ) (document : SourceText) (status result : ℕ) (bytes old new : List ℕ) (needed : ℕ)
    (answer : AnswersKept json told value path document status bytes) (put : IsPut bytes old new needed) (same : result ≡ status) where
  pub report_told : result ≡ 1 → IfSome value (λ k. IsToldIn old new needed (IsToldOver json k path document))
  report_told one = some_is value answer.kept (λ k. IsToldIn old new needed (IsToldOver json k path document)) answer.is
      (bytes, (answer.answers.report (sym same ∙ one), put))

  pub held_encoding : result ≡ 3 → OneIsNotUtf8 path document
  held_encoding three = answer.answers.encoding (sym same ∙ three)

  pub held_status : IsStatus result
  held_status = subst IsStatus (sym same) answer.answers.known

  pub not_prefix : {X : Type 0} → result ≡ 8 → X
  not_prefix eight = absurd (answer.answers.prefixed (sym same ∙ eight))

  pub held_complete : IfSome value (λ k. IsCertainOver k.schema path document → IsDoneOrMemory result)
  held_complete = some_is value answer.kept (λ k. IsCertainOver k.schema path document → IsDoneOrMemory result) answer.is
      (λ certain. subst IsDoneOrMemory (sym same) (answer.answers.certain certain))

  pub held_prefixed : IfSome value (λ k. IsCertainOver k.schema path document → IsDoneOrMemoryOrPrefix result)
  held_prefixed = some_is value answer.kept (λ k. IsCertainOver k.schema path document → IsDoneOrMemoryOrPrefix result) answer.is
      (λ certain. inl (subst IsDoneOrMemory (sym same) (answer.answers.certain certain)))

  pub held_untold : result ≢ 0 → result ≢ 1 → IsUntold old new needed
  held_untold zero one = put_nothing bytes old new needed (answer.answers.untold (λ e. zero (same ∙ e)) (λ e. one (same ∙ e))) put

-- a prefix that is none
pub held_no_prefix : (value : Option Kept) (path : List ℕ) (document : SourceText) (status : ℕ) → status ≡ 8 → IfSome value (λ k. IsCertainOver k.schema path document → IsDoneOrMemoryOrPrefix status)
held_no_prefix None path document status is = tt
held_no_prefix (Some k) path document status is = λ _. inr is

-- accepted, where no bytes go with that
module _ (json : Bool) (value : Option Kept) (path : List ℕ) (document : SourceText) (status result : ℕ) (bytes old new : List ℕ) (needed : ℕ)
    (answer : AnswersKept json (IsYesAlone document) value path document status bytes) (put : IsPut bytes old new needed) (same : result ≡ status) where
  pub check_yes : result ≡ 0 → IfSome value (λ k. IsYesOver k.schema document)
  check_yes zero = some_is value answer.kept (λ k. IsYesOver k.schema document) answer.is (answer.answers.done (sym same ∙ zero)).0

  pub check_untold : result ≢ 1 → IsUntold old new needed
  check_untold not = put_nothing bytes old new needed (nothing_told answer.answers.known) put
    where
      nothing_told : IsStatus status → bytes ≡ []
      nothing_told (inl is) = (answer.answers.done is).1
      nothing_told (inr (inl is)) = absurd (not (same ∙ is))
      nothing_told (inr (inr others)) = answer.answers.untold (far status others) (λ e. not (same ∙ e))

-- its text
pub document_told : (json : Bool) (l : Layout) (lines : Bool) (prefix : List ℕ) (value : Option Kept) (path : List ℕ) (document : SourceText) (status result : ℕ) (bytes old new : List ℕ) (needed : ℕ)
    → AnswersKept json (λ k. IsDocumentText l k.schema document) value path document status bytes → IsPut bytes old new needed → result ≡ status
    → l ≡ layout_of lines prefix → result ≡ 0 → IfSome value (λ k. IsToldIn old new needed (IsDocumentText (layout_of lines prefix) k.schema document))
document_told json l lines prefix value path document status result bytes old new needed answer put same layout zero =
    some_is value answer.kept (λ k. IsToldIn old new needed (IsDocumentText (layout_of lines prefix) k.schema document)) answer.is
    (bytes, (subst (λ l. IsDocumentText l answer.kept.schema document bytes) layout (answer.answers.done (sym same ∙ zero)), put))
