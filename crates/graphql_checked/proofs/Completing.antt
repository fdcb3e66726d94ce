-- A certain pair is answered so, where memory suffices and no device fails; and what is out where the writer fails.
use Rattle.std.proofs.Common.{inl, inr, ◌≡◌, ℕ, zero, suc, List, [], ◌∷◌, length, map, get_or, Option, ap, sym, subst, refl, ◌∙◌, arith}
use Rattle.std.proofs.lemmas.List.{length-map}
use Rattle.std.proofs.lemmas.Str.{IsUtf8-string_bytes}
use Rattle.std.specs.Prelude.{Err, Ok, IfSome, IsUtf8}
use Rattle.std.specs.Rc.{rc_str_bytes}
use Rattle.std.specs.declared.rc.RcStr.{RcStr}
use Rattle.std.specs.List.{All, AllZip}
use Rattle.graphql_names.specs.declared.device.Device.{Device}
use Rattle.graphql_names.specs.Device.{device_failed}
use Rattle.book_validity.specs.in_verdict_definitions.Texts.{SourceText, Terms}
use Rattle.book_validity.specs.in_verdict_definitions.Judge.{IsCertain}
use Rattle.book_validity.specs.in_verdict_definitions.Out.{Layout}
use Rattle.book_validity.specs.in_verdict_definitions.Answer.{Answer}
use Rattle.checker_calls.specs.Devices.{IsTextOf, TellsText, AreTextsOf, IsNotUtf8Of, IsNotUtf8At, HaveNotFailed}
use Rattle.checker_calls.specs.ReadFaults.{IsTextFault, numbered_fault, IsReadFault, IsPutFault}
use Rattle.checker_calls.specs.declared.read_device.TextFault.{TextFault}
use Rattle.checker_calls.specs.declared.read_device.TextFault.TheVariants as text
use Rattle.checker_calls.specs.declared.parts.Parts.{Parts}
use Rattle.checker_calls.specs.declared.run_fault.Outcome.{Outcome}
use Rattle.checker_calls.specs.declared.run_fault.Outcome.TheVariants.{Accepted, Refused}
use Rattle.checker_calls.specs.declared.run_fault.RunFault.{RunFault}
use Rattle.checker_calls.specs.declared.run_fault.RunFault.TheVariants.{Memory, Reader, NotUtf8, Writer}
use Rattle.graphql_checked.specs.Run.{BytesOf, TellCertain, IsAnswerToCertain, AreAllRead, RunFaultIsDue, AcceptsOrFails}

-- ---- what readers tell

module _ {R : Type 0} (remaining : R → Option (List ℕ)) where
  -- the text of a reader that tells its bytes
  pub text_told : (device : Device R) (text told : List ℕ) → IsTextOf remaining device text → TellsText remaining device told → text ≡ told
  text_told device text told is tells = subst (λ o. IfSome o (λ bytes. text ≡ bytes)) tells.0 is

  -- the same of each
  pub texts_told : (devices : List (Device R)) (texts told : List (List ℕ)) → AreTextsOf remaining devices texts → AllZip (TellsText remaining) devices told → texts ≡ told
  texts_told [] [] [] are tell = refl
  texts_told [] [] (t ∷ told) are tell = absurd tell
  texts_told [] (x ∷ texts) told are tell = absurd are
  texts_told (d ∷ devices) [] told are tell = absurd are
  texts_told (d ∷ devices) (x ∷ texts) [] are tell = absurd tell
  texts_told (d ∷ devices) (x ∷ texts) (t ∷ told) are tell = λ i. text_told d x t are.0 tell.0 i ∷ texts_told devices texts told are.1 tell.1 i

  -- what is told is UTF-8
  told_utf8 : (device : Device R) (told : List ℕ) → IsNotUtf8Of remaining device → TellsText remaining device told → ⊥
  told_utf8 device told (text, (is, none)) tells = none (subst IsUtf8 (sym (text_told device text told is tells)) tells.1)

  told_utf8_at : (devices : List (Device R)) (told : List (List ℕ)) (number : ℕ) → IsNotUtf8At remaining devices number → AllZip (TellsText remaining) devices told → ⊥
  told_utf8_at devices told zero h tell = h
  told_utf8_at [] told (suc before) h tell = absurd h
  told_utf8_at (d ∷ devices) [] (suc before) h tell = absurd tell
  told_utf8_at (d ∷ devices) (t ∷ told) (suc zero) h tell = told_utf8 d t h tell.0
  told_utf8_at (d ∷ devices) (t ∷ told) (suc (suc before)) h tell = told_utf8_at devices told (suc before) h tell.1

  -- the fault of readers that tell texts
  pub reader_fault : (old new : List (Device R)) (told : List (List ℕ)) (fault : RunFault) → IsReadFault remaining old new fault → AllZip (TellsText remaining) old told → IsAnswerToCertain (Err fault)
  reader_fault old new told Memory h tell = tt
  reader_fault old new told (Reader number) h tell = tt
  reader_fault old new told (NotUtf8 number) h tell = told_utf8_at old told number h tell
  reader_fault old new told (Writer count) h tell = tt

  -- the fault of the reader of the document
  pub document_reader_fault : (old new : Device R) (told : List ℕ) (fault : TextFault) (number : ℕ) → IsTextFault remaining old new fault → TellsText remaining old told → IsAnswerToCertain (Err (numbered_fault fault number))
  document_reader_fault old new told text.Memory number h tell = tt
  document_reader_fault old new told text.Reader number h tell = tt
  document_reader_fault old new told text.NotUtf8 number h tell = told_utf8 old told h tell

-- ---- what is answered of a certain pair

pub certain_outcome : (outcome : Outcome) (parts : Parts) → AcceptsOrFails (Ok (outcome, parts)) → IsAnswerToCertain (Ok outcome)
certain_outcome Accepted parts h = tt
certain_outcome Refused parts h = h

pub certain_fault : (fault : RunFault) → fault ≡ Memory → IsAnswerToCertain (Err fault)
certain_fault fault is = rw is tt

-- the texts that are read of readers that tell a certain pair
pub certain_here : {R D : Type 0} (of_schema : R → Option (List ℕ)) (of_document : D → Option (List ℕ)) (terms : Terms) (schemas : List (Device R)) (document : Device D) (texts : List SourceText) (text : SourceText)
    → AreTextsOf of_schema schemas texts → IsTextOf of_document document text → TellCertain of_schema of_document terms schemas document → IsCertain terms texts text
certain_here of_schema of_document terms schemas document texts text are is tell =
    subst (λ t. IsCertain terms t text) (sym (texts_told of_schema schemas texts tell.texts are tell.schemas_tell))
    (subst (IsCertain terms tell.texts) (sym (text_told of_document document text tell.text is tell.document_tells)) tell.certain)

-- the texts that are shared are UTF-8
pub all_utf8 : {Z : Type 0} (texts : List (RcStr Z)) → All IsUtf8 (map rc_str_bytes texts)
all_utf8 [] k d h = absurd (omega (arith, h))
all_utf8 (text ∷ texts) zero d h = IsUtf8-string_bytes text.text.value
all_utf8 (text ∷ texts) (suc k) d h = all_utf8 texts k d (omega (arith, h))

-- ---- a writer that fails

answer_of : (layout : Layout) (terms : Terms) (texts : List SourceText) (text : SourceText) (outcome : Outcome) (bytes : List ℕ) → BytesOf terms layout outcome texts text bytes → Answer terms layout texts text bytes
answer_of layout terms texts text Accepted bytes h = inl h.1
answer_of layout terms texts text Refused bytes h = inr h

pub put_due : {R D W : Type 0} (of_schema : R → Option (List ℕ)) (of_document : D → Option (List ℕ)) (contents : W → Option (List ℕ)) (layout : Layout) (terms : Terms)
    → (schemas schemas' : List (Device R)) (document document' : Device D) (out out' : Device W) (texts : List SourceText) (text : SourceText) (outcome : Outcome) (bytes : List ℕ) (fault : RunFault)
    → AreTextsOf of_schema schemas texts → IsTextOf of_document document text → All IsUtf8 texts → IsUtf8 text → AreAllRead of_schema of_document schemas' document' → BytesOf terms layout outcome texts text bytes → IsPutFault contents out out' bytes fault
    → RunFaultIsDue of_schema of_document contents layout terms schemas schemas' document document' out out' fault
put_due of_schema of_document contents layout terms schemas schemas' document document' out out' texts text outcome bytes (Writer count) are is utf8 text_utf8 read answers (short, failed, taken) =
    (failed, read, record { texts = texts; text = text; bytes = bytes; schemas_are = are; document_is = is; schemas_are_utf8 = utf8; document_is_utf8 = text_utf8; answers = (answer_of layout terms texts text outcome bytes answers, short); put = taken })
put_due of_schema of_document contents layout terms schemas schemas' document document' out out' texts text outcome bytes Memory are is utf8 text_utf8 read answers h = absurd h
put_due of_schema of_document contents layout terms schemas schemas' document document' out out' texts text outcome bytes (Reader number) are is utf8 text_utf8 read answers h = absurd h
put_due of_schema of_document contents layout terms schemas schemas' document document' out out' texts text outcome bytes (NotUtf8 number) are is utf8 text_utf8 read answers h = absurd h

-- ---- devices that have not failed

get_map : {X Y : Type 0} (f : X → Y) (xs : List X) (k : ℕ) (d : X) → get_or (map f xs) k (f d) ≡ f (get_or xs k d)
get_map f [] k d = refl
get_map f (x ∷ xs) zero d = refl
get_map f (x ∷ xs) (suc k) d = get_map f xs k d

pub none_failed : {R : Type 0} (old new : List (Device R)) → map device_failed new ≡ map device_failed old → HaveNotFailed old → HaveNotFailed new
none_failed old new same run k d h =
    let long : length new ≡ length old = sym (length-map new device_failed) ∙ ap length same ∙ length-map old device_failed in
    sym (get_map device_failed new k d) ∙ ap (λ l. get_or l k (device_failed d)) same ∙ get_map device_failed old k d ∙ run k d (omega (arith, h, long))
