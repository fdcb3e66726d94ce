-- What is read of sets as the program has them: of typed sets, and of the fields and spreads that are found in them.
use Rattle.std.proofs.Common.{◌≡◌, ◌∙◌, ℕ, false, List, [], ◌∷◌, ◌++◌, map, Some, None, refl, sym, ap, ap₂, subst}
use Rattle.std.specs.Prelude.{flat_map}
use Rattle.std.specs.List.{AllZip}
use Rattle.std.proofs.lemmas.List.{map-append}
use Rattle.graphql_names.specs.Placed.{Text}
use Rattle.document_typed_selections.specs.TypedTree.{TypedSelection, TypedField, TypedSpread, TypedInline, TypedSet, typed_set, TypedSelections, no_typed, typed_then, typed_set_tree}
use Rattle.document_typed_selections.specs.declared.selection.SelectionSet.{SelectionSet}
use Rattle.document_typed_operations.specs.Reached.{Member, members_of, members_in, members_along, selections_of, selections_in, selections_along, spread_names}
use Rattle.rule_document_definitions.specs.in_spec_document.MeantTree.{meant, meant_of_set, meant_of_all}
use Rattle.rule_document_definitions.specs.Selected.{HasNone}
use Rattle.rule_document_definitions.specs.Written.{Written, written_at, written_in, written_along, spread_written, spreads_written}
use Rattle.rule_document_definitions.proofs.FieldsWritten.{field_written, fields_written}
use Rattle.rule_document_definitions.specs.ReadFields.{listed, fields_read, field_read, set_read, list_read}
use Rattle.rule_document_definitions.proofs.ReadFacts.{flat_map-append, read_written, listed_read, nothing_read_of}
use Rattle.rule_field_sets.specs.Fields.{fields_of}
use Rattle.rule_reach.specs.Lent.{field_lent, fields_lent}
use Rattle.rule_reach.specs.declared.field_selection.FieldSelection.{FieldSelection}
use Rattle.rule_field_sets.specs.Tables.{Tables, MeansField, MeansSet, IsSetNumber, ReadsAs}
use Rattle.rule_field_sets.specs.Numbered.{read_of, meant_of}

module _ {P : Type 0} where
  -- ---- a typed set is written as what it means is

  abbrev written : Member P → Written P
  written e = (e.0.it, meant e.1)

  mutual
    written_of : (ty : Text P) (x : TypedSelection P) → map written (members_of false ty x) ≡ written_at ty.it (meant x)
    written_of ty (TypedField p d h s) = refl
    written_of ty (TypedSpread p n ds) = refl
    written_of ty (TypedInline p c ds s) = ap (λ l. (ty.it, meant (TypedInline p c ds s)) ∷ l) (written_set s)

    written_set : (s : TypedSet P) → map written (members_in false s) ≡ written_in (meant_of_set s)
    written_set (typed_set ty ss) = written_all ty ss

    written_all : (ty : Text P) (ss : TypedSelections P) → map written (members_along false ty ss) ≡ written_along ty.it (meant_of_all ss)
    written_all ty no_typed = refl
    written_all ty (typed_then s ss) = map-append written (members_of false ty s) (members_along false ty ss) ∙ ap₂ (λ k l. k ++ l) (written_of ty s) (written_all ty ss)

  lent_written : (es : List (Member P)) → flat_map field_lent es ≡ flat_map field_written (map written es)
  lent_written [] = refl
  lent_written (e ∷ es) = ap (λ l. field_lent e ++ l) (lent_written es)

  -- the fields that are found in it
  pub fields_as_written : (s : TypedSet P) → fields_lent (members_in false s) ≡ fields_written (meant_of_set s)
  fields_as_written s = lent_written (members_in false s) ∙ ap (flat_map field_written) (written_set s)

  mutual
    spreads_of : (t : List ℕ) (x : TypedSelection P) → flat_map spread_names (selections_of false x) ≡ flat_map spread_written (written_at t (meant x))
    spreads_of t (TypedField p d h s) = refl
    spreads_of t (TypedSpread p n ds) = refl
    spreads_of t (TypedInline p c ds s) = spreads_as_written s

    -- the names that are spread in it
    pub spreads_as_written : (s : TypedSet P) → flat_map spread_names (selections_in false s) ≡ spreads_written (meant_of_set s)
    spreads_as_written (typed_set ty ss) = spreads_along ty.it ss

    spreads_along : (t : List ℕ) (ss : TypedSelections P) → flat_map spread_names (selections_along false ss) ≡ flat_map spread_written (written_along t (meant_of_all ss))
    spreads_along t no_typed = refl
    spreads_along t (typed_then s ss) =
        flat_map-append spread_names (selections_of false s) (selections_along false ss)
        ∙ (ap₂ (λ k l. k ++ l) (spreads_of t s) (spreads_along t ss)
        ∙ sym (flat_map-append spread_written (written_at t (meant s)) (written_along t (meant_of_all ss))))

-- ---- numbers of what is read

zip_to_map : {X Y Z : Type 0} (R : X → Z → Type 0) (g : Y → Z) (xs : List X) (ys : List Y) → AllZip (λ x y. R x (g y)) xs ys → AllZip R xs (map g ys)
zip_to_map R g [] [] h = tt
zip_to_map R g [] (y ∷ ys) h = absurd h
zip_to_map R g (x ∷ xs) [] h = absurd h
zip_to_map R g (x ∷ xs) (y ∷ ys) h = (h.0, zip_to_map R g xs ys h.1)

read_each : (fields : List FieldSelection) → map field_read (fields_of fields) ≡ map read_of fields
read_each [] = refl
read_each (x ∷ xs) = ap (λ l. read_of x ∷ l) (read_each xs)

module _ (t : Tables) (s : SelectionSet) where
  -- where these are all fields and spreads of a set, and the numbers mean what is read of the fields, the set is read so
  pub reads_as : (numbers : List ℕ) (names : List (List ℕ)) (fields : List FieldSelection) → fields_of fields ≡ fields_lent (members_in false (typed_set_tree s))
      → names ≡ flat_map spread_names (selections_in false (typed_set_tree s)) → AllZip (λ n x. MeansField t n (read_of x)) numbers fields → ReadsAs t numbers names (meant_of s)
  reads_as numbers names fields found spread zip =
      let all : listed (fields_read (meant_of s)) ≡ map read_of fields =
      read_written (meant_of s) ∙ (ap (map field_read) (sym (found ∙ fields_as_written (typed_set_tree s))) ∙ read_each fields) in
      record {
        numbers = subst (AllZip (MeansField t) numbers) (sym all) (zip_to_map (MeansField t) read_of numbers fields zip);
        names = spread ∙ spreads_as_written (typed_set_tree s);
      }

  -- a set without selections has no number, any other one that means what is read of it
  pub no_set_number : HasNone (meant_of s) → IsSetNumber t None (set_read (meant_of s))
  no_set_number none = nothing_read_of (meant_of s) none

  pub set_has_number : (n : ℕ) → (HasNone (meant_of s) → ⊥) → MeansSet t n (list_read (meant_of s)) → IsSetNumber t (Some n) (set_read (meant_of s))
  set_has_number n some means = subst (MeansSet t n) (sym (listed_read (meant_of s) some)) means
