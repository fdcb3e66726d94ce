-- Reading devices in turn.
use Rattle.std.proofs.Common.{◌≡◌, ℕ, suc, ◌+◌, ◌<◌, List, [], ◌∷◌, ◌++◌, Option, Some, length, get_or, take, drop, set, refl, sym, ap, subst, ◌∙◌, arith, drop-cons, add-one, length-set}
use Rattle.std.specs.Prelude.{slice_get, slice_set}
use Rattle.std.specs.List.{AllZip}
use Rattle.std.proofs.Math.Seq.{take-add}
use Rattle.std.proofs.lemmas.List.{drop-set-lt, drop-drop, length-drop, get_or-set_same}
use Rattle.std.proofs.lemmas.Option.{slice_get-get_or}
use Rattle.std.proofs.lemmas.Grind.{common_steps}
use Rattle.graphql_names.specs.declared.device.Device.{Device}
use Rattle.checker_calls.specs.declared.read_device.TextFault.{TextFault}
use Rattle.checker_calls.specs.declared.read_device.TextFault.TheVariants.{Memory, Reader, NotUtf8}
use Rattle.checker_calls.specs.ReadFaults.{IsTextFault, IsReadFault, numbered_fault}

AllZip-both : {A B : Type 0} (P : A → B → Type 0) (xs : List A) (ys : List B) (x : A) (y : B) → AllZip P xs ys → P x y → AllZip P (xs ++ x ∷ []) (ys ++ y ∷ [])
AllZip-both P [] [] x y h p = (p, tt)
AllZip-both P [] (b ∷ ys) x y h p = absurd h
AllZip-both P (a ∷ xs) [] x y h p = absurd h
AllZip-both P (a ∷ xs) (b ∷ ys) x y h p = (h.0, AllZip-both P xs ys x y h.1 p)

module _ {D : Type 0} (old now : List D) (i : ℕ) (d r : D) (inside : i < length now) (rest : drop i now ≡ drop i old) (is : d ≡ get_or now i r) where
  for_documents : drop i old ≡ d ∷ drop (i + 1) now
  for_documents = sym rest ∙ (drop-cons now i r inside ∙ rw (is, add-one) refl)

  -- one more device is read
  pub read_on : {T : Type 0} (P : D → T → Type 0) (texts : List T) (t : T) → AllZip P (take i old) texts → P d t → AllZip P (take (i + 1) old) (texts ++ t ∷ [])
  read_on P texts t h p = subst (λ xs. AllZip P xs (texts ++ t ∷ [])) (sym (take-add i 1 old ∙ ap (λ l. take i old ++ take 1 l) for_documents)) (AllZip-both P (take i old) texts d t h p)

  -- the devices after it are unchanged
  pub rest_on : (e : D) → drop (i + 1) (set now i e) ≡ drop (i + 1) old
  rest_on e = drop-set-lt (i + 1) now i e (omega arith) ∙ following where
    following : drop (i + 1) now ≡ drop (i + 1) old
    following = sym (drop-drop 1 i now) ∙ ap (drop 1) rest ∙ drop-drop 1 i old

  -- the current device in the whole list
  pub at_old : slice_get old i ≡ Some d
  at_old =
      let read : get_or (drop i old) 0 r ≡ d = ap (λ l. get_or l 0 r) for_documents in
      let same : get_or old i r ≡ d = grind (arith, common_steps, read) in
      slice_get-get_or old i r (omega (arith, ap length for_documents, length-drop i old)) ∙ ap (λ x. Some x) same

-- a written place reads as what was written
pub at_set : {D : Type 0} (xs : List D) (i : ℕ) (e : D) → i < length xs → slice_get (slice_set xs i e) i ≡ Some e
at_set xs i e h = slice_get-get_or (slice_set xs i e) i e (omega (arith, length-set xs i e)) ∙ ap (λ x. Some x) (get_or-set_same xs i e e h)

module _ {R : Type 0} (remaining : R → Option (List ℕ)) (old now : List (Device R)) (i : ℕ) (d e : Device R) where
  -- the fault after `i` texts, by its number
  next_due : (fault : TextFault) → slice_get old i ≡ Some d → slice_get now i ≡ Some e → IsTextFault remaining d e fault → IsReadFault remaining old now (numbered_fault fault (suc i))
  next_due Memory before after h = tt
  next_due Reader before after h = rw after h
  next_due NotUtf8 before after h = rw before h

  -- a text's fault is that of its number
  pub numbered_due : (fault : TextFault) → slice_get old i ≡ Some d → slice_get now i ≡ Some e → IsTextFault remaining d e fault → IsReadFault remaining old now (numbered_fault fault (i + 1))
  numbered_due fault before after h = subst (λ n. IsReadFault remaining old now (numbered_fault fault n)) (sym (add-one i)) (next_due fault before after h)
