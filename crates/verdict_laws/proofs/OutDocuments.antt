-- Lemmas on what is written of a document: written again it is the same, typing keeps the same of it, and no rule of typing is broken.
use Rattle.std.proofs.Common.{◌≡◌, ◌+◌, ◌<◌, Bool, true, false, not, List, [], ◌∷◌, ◌++◌, map, flat_map, length, Contains, refl, sym, ap, subst, ◌∙◌, if◌then◌else◌, inl, inr, option_to_list, slice_get, arith, true≢false}
use Rattle.std.specs.List.{filter}
use Rattle.std.specs.Option.{option_map}
use Rattle.std.proofs.lemmas.List.{append-nil, length-append}
use Rattle.std.proofs.lemmas.Grind.{flat_map-append}
use Rattle.tree_operations.specs.OperationLayout.{is_none}
use Rattle.tree_definitions.specs.DefinitionTree as tree
use Rattle.tree_definitions.specs.DefinitionTree.{DefinitionTree}
use Rattle.schema_components.specs.Lists.{StandsAfter, firsts, has_name}
use Rattle.document_typing.specs.OutDoc.{is_anonymous, is_named_operation, is_fragment_definition, out_doc}
use Rattle.document_typing.specs.Meanings.{Meanings}
use Rattle.document_typing.specs.KeptDocument.{based_operation, anonymous_here, named_here, fragment_here, operation_name, fragment_name, kept_named, kept_operations, kept_fragments, meant_operation, named_entry, fragment_entry, kept_document, is_operation}
use Rattle.document_typing.specs.TypingFaults as typing
use Rattle.document_typing.specs.TypingFaults.{TypingFault, AmbiguousAnonymousOperationAt, OperationNameCollisionAt, FragmentNameCollisionAt, DefinitionBreaks, TypingFails, TypingRules}
use Rattle.verdict_laws.proofs.Order.{not_true}
use Rattle.verdict_laws.proofs.Passing.{all_pass, none_passes, three_passing, three_giving, given_by_passing, none_given, StandsAfterEither, stands_after_either, stands_passing}

-- ---- a definition is of one sort

module _ {P : Type 0} where
  named_is_not_anonymous : (d : DefinitionTree P) → is_named_operation d ≡ true → is_anonymous d ≡ false
  named_is_not_anonymous (tree.Operation p o) h = not_true (is_none o.name) h
  named_is_not_anonymous _ h = refl

  anonymous_is_not_named : (d : DefinitionTree P) → is_anonymous d ≡ true → is_named_operation d ≡ false
  anonymous_is_not_named (tree.Operation p o) h = ap not h
  anonymous_is_not_named _ h = refl

  anonymous_is_no_fragment : (d : DefinitionTree P) → is_anonymous d ≡ true → is_fragment_definition d ≡ false
  anonymous_is_no_fragment (tree.Fragment p f) h = sym h
  anonymous_is_no_fragment _ h = refl

  named_is_no_fragment : (d : DefinitionTree P) → is_named_operation d ≡ true → is_fragment_definition d ≡ false
  named_is_no_fragment (tree.Fragment p f) h = sym h
  named_is_no_fragment _ h = refl

  fragment_is_not_anonymous : (d : DefinitionTree P) → is_fragment_definition d ≡ true → is_anonymous d ≡ false
  fragment_is_not_anonymous (tree.Operation p o) h = absurd (true≢false (sym h))
  fragment_is_not_anonymous _ h = refl

  fragment_is_not_named : (d : DefinitionTree P) → is_fragment_definition d ≡ true → is_named_operation d ≡ false
  fragment_is_not_named (tree.Operation p o) h = absurd (true≢false (sym h))
  fragment_is_not_named _ h = refl

  anonymous_is_operation : (d : DefinitionTree P) → is_anonymous d ≡ true → is_operation d ≡ true
  anonymous_is_operation (tree.Operation p o) h = refl
  anonymous_is_operation _ h = h

  named_is_operation : (d : DefinitionTree P) → is_named_operation d ≡ true → is_operation d ≡ true
  named_is_operation (tree.Operation p o) h = refl
  named_is_operation _ h = h

  fragment_is_no_operation : (d : DefinitionTree P) → is_fragment_definition d ≡ true → is_operation d ≡ false
  fragment_is_no_operation (tree.Operation p o) h = sym h
  fragment_is_no_operation _ h = refl

module _ {P : Type 0} (ds : List (DefinitionTree P)) where
  -- the parts of what is written
  abbrev anonymous : List (DefinitionTree P)
  anonymous = filter is_anonymous ds

  abbrev named : List (DefinitionTree P)
  named = filter is_named_operation ds

  abbrev fragments : List (DefinitionTree P)
  fragments = filter is_fragment_definition ds

  -- ---- written again it is the same

  anonymous_again : filter is_anonymous (out_doc ds) ≡ anonymous
  anonymous_again =
      three_passing is_anonymous anonymous named fragments
      ∙ (λ i. all_pass is_anonymous is_anonymous (λ d h. h) ds i ++ none_passes is_named_operation is_anonymous named_is_not_anonymous ds i ++ none_passes is_fragment_definition is_anonymous fragment_is_not_anonymous ds i)
      ∙ append-nil (anonymous ++ []) ∙ append-nil anonymous

  named_again : filter is_named_operation (out_doc ds) ≡ named
  named_again =
      three_passing is_named_operation anonymous named fragments
      ∙ (λ i. none_passes is_anonymous is_named_operation anonymous_is_not_named ds i ++ all_pass is_named_operation is_named_operation (λ d h. h) ds i ++ none_passes is_fragment_definition is_named_operation fragment_is_not_named ds i)
      ∙ append-nil named

  fragments_again : filter is_fragment_definition (out_doc ds) ≡ fragments
  fragments_again =
      three_passing is_fragment_definition anonymous named fragments
      ∙ (λ i. none_passes is_anonymous is_fragment_definition anonymous_is_no_fragment ds i ++ none_passes is_named_operation is_fragment_definition named_is_no_fragment ds i ++ all_pass is_fragment_definition is_fragment_definition (λ d h. h) ds i)

  pub out_twice : out_doc (out_doc ds) ≡ out_doc ds
  out_twice = λ i. anonymous_again i ++ named_again i ++ fragments_again i

  -- ---- as many operations are written

  operations_counted : (es : List (DefinitionTree P)) → length (filter is_operation es) ≡ length (filter is_anonymous es) + length (filter is_named_operation es)
  operations_counted [] = refl
  operations_counted (e ∷ es) = one e (operations_counted es)
    where
      one : (d : DefinitionTree P) → length (filter is_operation es) ≡ length (filter is_anonymous es) + length (filter is_named_operation es)
          → length (filter is_operation (d ∷ es)) ≡ length (filter is_anonymous (d ∷ es)) + length (filter is_named_operation (d ∷ es))
      one (tree.Operation p o) h = by (is_none o.name)
        where
          by : (b : Bool) → length (tree.Operation p o ∷ filter is_operation es)
              ≡ length (if b then tree.Operation p o ∷ filter is_anonymous es else filter is_anonymous es) + length (if not b then tree.Operation p o ∷ filter is_named_operation es else filter is_named_operation es)
          by true = omega (arith, h)
          by false = omega (arith, h)
      one _ h = h

  operations_again : length (filter is_operation (out_doc ds)) ≡ length (filter is_operation ds)
  operations_again =
      ap length (three_passing is_operation anonymous named fragments
      ∙ (λ i. all_pass is_anonymous is_operation anonymous_is_operation ds i ++ all_pass is_named_operation is_operation named_is_operation ds i ++ none_passes is_fragment_definition is_operation fragment_is_no_operation ds i)
      ∙ append-nil (anonymous ++ named))
      ∙ length-append anonymous named ∙ sym (operations_counted ds)

-- ---- what is kept

module _ {P : Type 0} (m : Meanings) where
  none_anonymous : (d : DefinitionTree P) → is_anonymous d ≡ false → anonymous_here m d ≡ []
  none_anonymous (tree.Operation p o) h = ap (λ b. if b then based_operation m p o else []) h
  none_anonymous _ h = refl

  none_named : (d : DefinitionTree P) → is_named_operation d ≡ false → named_here m d ≡ []
  none_named (tree.Operation p o) h = by (is_none o.name) h
    where
      by : (b : Bool) → not b ≡ false → (if b then [] else based_operation m p o) ≡ []
      by true k = refl
      by false k = absurd (true≢false k)
  none_named _ h = refl

  none_fragment : (d : DefinitionTree P) → is_fragment_definition d ≡ false → fragment_here m d ≡ []
  none_fragment (tree.Fragment p f) h = absurd (true≢false h)
  none_fragment _ h = refl

module _ {P : Type 0} (m : Meanings) (ds : List (DefinitionTree P)) where
  anonymous_given : flat_map (anonymous_here m) (out_doc ds) ≡ flat_map (anonymous_here m) ds
  anonymous_given =
      three_giving (anonymous_here m) (anonymous ds) (named ds) (fragments ds)
      ∙ (λ i. given_by_passing (anonymous_here m) is_anonymous (none_anonymous m) ds i
      ++ none_given (anonymous_here m) is_named_operation (λ d h. none_anonymous m d (named_is_not_anonymous d h)) ds i
      ++ none_given (anonymous_here m) is_fragment_definition (λ d h. none_anonymous m d (fragment_is_not_anonymous d h)) ds i)
      ∙ append-nil (flat_map (anonymous_here m) ds ++ []) ∙ append-nil (flat_map (anonymous_here m) ds)

  named_given : flat_map (named_here m) (out_doc ds) ≡ flat_map (named_here m) ds
  named_given =
      three_giving (named_here m) (anonymous ds) (named ds) (fragments ds)
      ∙ (λ i. none_given (named_here m) is_anonymous (λ d h. none_named m d (anonymous_is_not_named d h)) ds i
      ++ given_by_passing (named_here m) is_named_operation (none_named m) ds i
      ++ none_given (named_here m) is_fragment_definition (λ d h. none_named m d (fragment_is_not_named d h)) ds i)
      ∙ append-nil (flat_map (named_here m) ds)

  fragments_given : flat_map (fragment_here m) (out_doc ds) ≡ flat_map (fragment_here m) ds
  fragments_given =
      three_giving (fragment_here m) (anonymous ds) (named ds) (fragments ds)
      ∙ (λ i. none_given (fragment_here m) is_anonymous (λ d h. none_fragment m d (anonymous_is_no_fragment d h)) ds i
      ++ none_given (fragment_here m) is_named_operation (λ d h. none_fragment m d (named_is_no_fragment d h)) ds i
      ++ given_by_passing (fragment_here m) is_fragment_definition (none_fragment m) ds i)

  -- places too
  pub kept_of_out : kept_document m (out_doc ds) ≡ kept_document m ds
  kept_of_out = λ i. record {
    anonymous = option_map (meant_operation m) (slice_get (anonymous_given i) 0);
    named = map (named_entry m) (firsts operation_name (named_given i));
    fragments = map (fragment_entry m) (firsts fragment_name (fragments_given i));
  }

  operations_kept : kept_operations m (out_doc ds) ≡ kept_operations m ds
  operations_kept = λ i. option_to_list (slice_get (anonymous_given i) 0) ++ firsts operation_name (named_given i)

  fragments_kept : kept_fragments m (out_doc ds) ≡ kept_fragments m ds
  fragments_kept = ap (firsts fragment_name) fragments_given

  -- ---- where a definition that is written stood, and that the same of its sort was kept of those before it

  record Stood (before : List (DefinitionTree P)) (d : DefinitionTree P) : Type 0 where
    front : List (DefinitionTree P)
    stands : StandsAfter ds front d
    names : is_named_operation d ≡ true → kept_named m before ≡ kept_named m front
    fragment_names : is_fragment_definition d ≡ true → kept_fragments m before ≡ kept_fragments m front

  anonymous_stood : (before : List (DefinitionTree P)) (d : DefinitionTree P) → StandsAfter (anonymous ds) before d → Stood before d
  anonymous_stood before d at =
      let s = stands_passing is_anonymous ds before d at in
      let is : is_anonymous d ≡ true = s.1.1.1 in
      record {
        front = s.0;
        stands = s.1.0;
        names = λ h. absurd (true≢false (sym h ∙ anonymous_is_not_named d is));
        fragment_names = λ h. absurd (true≢false (sym h ∙ anonymous_is_no_fragment d is));
      }

  named_stood : (before front : List (DefinitionTree P)) (d : DefinitionTree P) → before ≡ anonymous ds ++ front → StandsAfter (named ds) front d → Stood before d
  named_stood before front d e at =
      let s = stands_passing is_named_operation ds front d at in
      let is : is_named_operation d ≡ true = s.1.1.1 in
      record {
        front = s.0;
        stands = s.1.0;
        names = λ h.
            ap (kept_named m) e
            ∙ ap (firsts operation_name) (flat_map-append (named_here m) (anonymous ds) front
            ∙ (λ i. none_given (named_here m) is_anonymous (λ d h. none_named m d (anonymous_is_not_named d h)) ds i ++ flat_map (named_here m) (sym s.1.1.0 i))
            ∙ given_by_passing (named_here m) is_named_operation (none_named m) s.0);
        fragment_names = λ h. absurd (true≢false (sym h ∙ named_is_no_fragment d is));
      }

  fragment_stood : (before front : List (DefinitionTree P)) (d : DefinitionTree P) → before ≡ anonymous ds ++ named ds ++ front → StandsAfter (fragments ds) front d → Stood before d
  fragment_stood before front d e at =
      let s = stands_passing is_fragment_definition ds front d at in
      let is : is_fragment_definition d ≡ true = s.1.1.1 in
      record {
        front = s.0;
        stands = s.1.0;
        names = λ h. absurd (true≢false (sym h ∙ fragment_is_not_named d is));
        fragment_names = λ h.
            ap (kept_fragments m) e
            ∙ ap (firsts fragment_name) (three_giving (fragment_here m) (anonymous ds) (named ds) front
            ∙ (λ i. none_given (fragment_here m) is_anonymous (λ d h. none_fragment m d (anonymous_is_no_fragment d h)) ds i
            ++ none_given (fragment_here m) is_named_operation (λ d h. none_fragment m d (named_is_no_fragment d h)) ds i ++ flat_map (fragment_here m) (sym s.1.1.0 i))
            ∙ given_by_passing (fragment_here m) is_fragment_definition (none_fragment m) s.0);
      }

  stood : (before : List (DefinitionTree P)) (d : DefinitionTree P) → StandsAfter (out_doc ds) before d → Stood before d
  stood before d at = by (stands_after_either (anonymous ds ++ named ds) (fragments ds) before d at)
    where
      operation : StandsAfterEither (anonymous ds) (named ds) before d → Stood before d
      operation (inl here) = anonymous_stood before d here
      operation (inr (front, (e, here))) = named_stood before front d e here

      by : StandsAfterEither (anonymous ds ++ named ds) (fragments ds) before d → Stood before d
      by (inl here) = operation (stands_after_either (anonymous ds) (named ds) before d here)
      by (inr (front, (e, here))) = fragment_stood before front d e here

  -- ---- what breaks a rule there breaks it here

  module _ (before front : List (DefinitionTree P)) where
    ambiguous_too : (d : DefinitionTree P) (fault : TypingFault P) → AmbiguousAnonymousOperationAt (out_doc ds) d fault → AmbiguousAnonymousOperationAt ds d fault
    ambiguous_too (tree.Operation p o) fault (nameless, more, is) = (nameless, subst (λ n. 1 < n) (operations_again ds) more, is)
    ambiguous_too _ fault h = absurd h

    name_too : (d : DefinitionTree P) (fault : TypingFault P) → (is_named_operation d ≡ true → kept_named m before ≡ kept_named m front) → OperationNameCollisionAt m before d fault → OperationNameCollisionAt m front d fault
    name_too (tree.Operation p o) fault same (n, (called, has, is)) =
        (n, (called, subst (λ os. has_name operation_name n.it os ≡ true) (same (ap (λ x. not (is_none x)) called)) has, is))
    name_too _ fault same h = absurd h

    fragment_name_too : (d : DefinitionTree P) (fault : TypingFault P) → (is_fragment_definition d ≡ true → kept_fragments m before ≡ kept_fragments m front) → FragmentNameCollisionAt m before d fault → FragmentNameCollisionAt m front d fault
    fragment_name_too (tree.Fragment p f) fault same (has, is) = (subst (λ fs. has_name fragment_name f.name.it fs ≡ true) (same refl) has, is)
    fragment_name_too _ fault same h = absurd h

    breaks_too : (d : DefinitionTree P) (fault : TypingFault P) → (is_named_operation d ≡ true → kept_named m before ≡ kept_named m front) → (is_fragment_definition d ≡ true → kept_fragments m before ≡ kept_fragments m front)
        → DefinitionBreaks m (out_doc ds) before d fault → DefinitionBreaks m ds front d fault
    breaks_too d fault same same' (typing.type_system_definition h) = typing.type_system_definition h
    breaks_too d fault same same' (typing.ambiguous_anonymous_operation h) = typing.ambiguous_anonymous_operation (ambiguous_too d fault h)
    breaks_too d fault same same' (typing.operation_name_collision h) = typing.operation_name_collision (name_too d fault same h)
    breaks_too d fault same same' (typing.fragment_name_collision h) = typing.fragment_name_collision (fragment_name_too d fault same' h)
    breaks_too d fault same same' (typing.undefined_root_operation h) = typing.undefined_root_operation h
    breaks_too d fault same same' (typing.undefined_type_in_named_fragment_type_condition h) = typing.undefined_type_in_named_fragment_type_condition h

  fails_too : (fault : TypingFault P) → TypingFails m (out_doc ds) fault → TypingFails m ds fault
  fails_too fault (typing.in_definition (before, (d, (at, breaks)))) =
      let s = stood before d at in
      typing.in_definition (s.front, (d, (s.stands, breaks_too before s.front d fault s.names s.fragment_names breaks)))
  fails_too fault (typing.in_operation o c h) = typing.in_operation o (subst (λ os. Contains os o) operations_kept c) h
  fails_too fault (typing.in_named_fragment f c h) = typing.in_named_fragment f (subst (λ fs. Contains fs f) fragments_kept c) h

  pub rules_of_out : TypingRules m ds → TypingRules m (out_doc ds)
  rules_of_out rules fault fails = rules fault (fails_too fault fails)
