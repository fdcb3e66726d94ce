-- Merging, by small documents: what does not merge, and what next to it does (rows 6, 7 and 8 of the worked rows).
use Rattle.std.proofs.Common.{◌≡◌, ℕ, List, [], ◌∷◌, codes, bytes_eq, None, Some, Contains, ◌⊎◌, refl, sym, ap, inl, inr, true, true≢false, ◌∙◌, arith}
use Rattle.std.specs.List.{flat_map}
use Rattle.std.specs.Option.{option_map_or}
use Rattle.tree_literals.specs.TypeTree.{NonNullNamedTree}
use Rattle.tree_literals.specs.TypeQueries.{has_mark}
use Rattle.tree_literals.specs.ValueTree.{ValueTree, ItemTrees, IntTree, ListTree, no_items, item_then, unplaced_value}
use Rattle.tree_directives.specs.DirectiveTree.{Arguments}
use Rattle.rule_definitions.specs.in_schema_types.SchemaTree.{same_kind}
use Rattle.rule_definitions.specs.in_schema_types.Looks.{TypeLooks}
use Rattle.rule_definitions.specs.in_schema_types.declared.type_kind.TypeKind.TheVariants as kind
use Rattle.fault_document_errors.specs.DocumentBreaches.{ConflictingFieldName, ConflictingFieldArgument, ConflictingFieldType}
use Rattle.spec_document.specs.MeantTree.{Definition, MeantSelection, MeantField, MeantOperation}
use Rattle.rule_definitions.proofs.Lists.{Contains-first, given_in}
use Rattle.rule_document_definitions.specs.DocumentFaults.{broken}
use Rattle.rule_document_definitions.specs.Selected.{Standing, StandingField, as_field, own}
use Rattle.rule_document_definitions.specs.Reached.{first}
use Rattle.rule_document_definitions.specs.SameValues.{Plain, SameValue, SameItems, SameGiven, neither, both, same_list, both_then}
use Rattle.rule_document_definitions.specs.Merging.{FieldsMerge, IsAbstract, SameKey, SameShape, MayShare, SameNameAndArguments, ConflictingFieldNameAt, ConflictingFieldArgumentAt, ConflictingFieldTypeAt, telling, telling_argument}
use Rattle.rule_document_definitions.proofs.Levels.{up_to, in_selection, reached_in, present_given}
use Rattle.rule_document_definitions.proofs.MergingFacts.{IsReachedField, merge_if_all_agree}
use Rattle.rule_document_definitions.proofs.RowWords.{of_present, Each, of_each}
use Rattle.rule_document_definitions.proofs.RowParts.{small, query_name, int_name, a_name, f_name, c_type, d_type, headed, nothing_on, aliased, leaf_with, p_field, inline_on, query_of, alone, given, at, at_root, leaf_at, root}

abbrev x_name : List ℕ
x_name = codes "x"

-- ---- ConflictingFieldName: `{ x: a x: b }` (row 6)

abbrev x_a_x_b : MeantOperation ℕ
x_a_x_b = query_of (aliased 2 x_name a_name ∷ aliased 3 x_name (codes "b") ∷ [])

abbrev x_is_a : StandingField ℕ
x_is_a = leaf_at root 0 query_name 2 (Some (at 2 x_name)) a_name [] []

abbrev x_is_b : StandingField ℕ
x_is_b = leaf_at root 1 query_name 3 (Some (at 3 x_name)) (codes "b") [] []

b_conflicts_with_a : ConflictingFieldNameAt small (alone x_a_x_b) x_a_x_b (broken 3 (ConflictingFieldName x_name (telling x_is_a tt) (telling x_is_b tt)))
b_conflicts_with_a = (
  x_is_a,
  (
    x_is_b,
    (
      (
        [],
        (
          [],
          (
            ((at_root 0 (aliased 2 x_name a_name), (first (0, omega arith, refl), refl)), tt),
            (((at_root 1 (aliased 3 x_name (codes "b")), (first (1, omega arith, refl), refl)), tt), ((refl, inl refl), tt)),
          ),
        ),
      ),
      ((λ e. true≢false (ap (λ n. bytes_eq n a_name) e)), refl),
    ),
  ),
)

-- ---- ConflictingFieldArgument: `{ F(x: [1]) F(x: [1, 2]) }` (row 7)

abbrev just_one : ValueTree ℕ
just_one = ListTree (item_then 3 (IntTree (codes "1")) no_items)

abbrev one_and_two : ValueTree ℕ
one_and_two = ListTree (item_then 5 (IntTree (codes "1")) (item_then 6 (IntTree (codes "2")) no_items))

abbrev x_is : ℕ → ValueTree ℕ → Arguments ℕ
x_is p w = given p x_name w ∷ []

no_more_on_one_side : (w : Plain) (ws : ItemTrees (Unit {0})) → SameItems no_items (item_then tt w ws) → ⊥
no_more_on_one_side w ws e = elim e [ ]

lengths_differ : SameValue (unplaced_value just_one) (unplaced_value one_and_two) → ⊥
lengths_differ (same_list a b (both_then v w vs ws s t)) = no_more_on_one_side _ _ t

abbrev f_f : MeantOperation ℕ
f_f = query_of (leaf_with 2 f_name (x_is 3 just_one) [] ∷ leaf_with 4 f_name (x_is 5 one_and_two) [] ∷ [])

abbrev first_f : StandingField ℕ
first_f = leaf_at root 0 query_name 2 None f_name (x_is 3 just_one) []

abbrev second_f : StandingField ℕ
second_f = leaf_at root 1 query_name 4 None f_name (x_is 5 one_and_two) []

x_conflicts : ConflictingFieldArgumentAt small (alone f_f) f_f (broken 4 (ConflictingFieldArgument f_name (telling_argument x_name first_f) (telling_argument x_name second_f)))
x_conflicts = (
  x_name,
  (
    first_f,
    (
      second_f,
      (
        (
          [],
          (
            [],
            (
              ((at_root 0 (leaf_with 2 f_name (x_is 3 just_one) []), (first (0, omega arith, refl), refl)), tt),
              (((at_root 1 (leaf_with 4 f_name (x_is 5 one_and_two) []), (first (1, omega arith, refl), refl)), tt), ((refl, inl refl), tt)),
            ),
          ),
        ),
        (differ, refl),
      ),
    ),
  ),
)
  where
    differ : SameGiven (Some (unplaced_value just_one)) (Some (unplaced_value one_and_two)) → ⊥
    differ (both v w s) = lengths_differ s

-- ---- ConflictingFieldType: `{ x: a x: b }` with `a: Int` and `b: Int!`

abbrev of_strict : Definition
of_strict = record { description = None; name = record { it = codes "b"; place = tt }; arguments = []; ty = NonNullNamedTree (record { it = int_name; place = tt }); directives = [] }

abbrev strict : MeantSelection ℕ
strict = MeantField 3 of_strict (headed 3 (Some (at 3 x_name)) (codes "b") [] []) (nothing_on int_name)

abbrev with_strict : MeantOperation ℕ
with_strict = query_of (aliased 2 x_name a_name ∷ strict ∷ [])

abbrev strict_there : StandingField ℕ
strict_there = record x_is_b { definition = of_strict }

types_conflict : ConflictingFieldTypeAt small (alone with_strict) with_strict (broken 3 (ConflictingFieldType x_name (telling x_is_a x_is_a.definition.ty) (telling strict_there of_strict.ty)))
types_conflict = (
  x_is_a,
  (
    strict_there,
    (
      (
        [],
        (
          [],
          (
            ((at_root 0 (aliased 2 x_name a_name), (first (0, omega arith, refl), refl)), tt),
            (((at_root 1 strict, (first (1, omega arith, refl), refl)), tt), (refl, tt)),
          ),
        ),
      ),
      ((λ e. true≢false (sym (ap has_mark e.0))), refl),
    ),
  ),
)

-- ---- what merges: `{ p { ... on D { x: a } ... on C { x: n } } }` (row 8)

abbrev x_a_in_d : MeantSelection ℕ
x_a_in_d = inline_on 3 (codes "D") (aliased 4 x_name a_name ∷ [])

abbrev x_n_in_c : MeantSelection ℕ
x_n_in_c = inline_on 5 (codes "C") (aliased 6 x_name (codes "n") ∷ [])

abbrev apart : MeantOperation ℕ
apart = query_of (p_field 2 (x_a_in_d ∷ x_n_in_c ∷ []) ∷ [])

abbrev here : Standing ℕ → List (StandingField ℕ)
here x = option_map_or (λ f. f ∷ []) (as_field x) []

abbrev all_fields : List (StandingField ℕ)
all_fields = flat_map here (up_to (in_selection (alone apart)) (own apart) 3)

is_among : (f : StandingField ℕ) → IsReachedField (alone apart) apart f → Contains all_fields f
is_among f (x, (r, e)) = given_in here f (up_to (in_selection (alone apart)) (own apart) 3) x (reached_in (alone apart) apart 3 refl x r)
    (present_given (λ g. g ∷ []) f (as_field x) (f, (e, Contains-first f [] f refl)))

for_all : (Together Agree : StandingField ℕ → StandingField ℕ → Type 0) → Each (λ f. Each (λ g. Together f g → Agree f g) all_fields) all_fields
    → (f g : StandingField ℕ) → IsReachedField (alone apart) apart f → IsReachedField (alone apart) apart g → Together f g → Agree f g
for_all Together Agree each f g a b = of_each (λ h. Together f h → Agree f h) all_fields (of_each (λ h. Each (λ k. Together h k → Agree h k) all_fields) all_fields each f (is_among f a)) g (is_among g b)

p_is_not_x : {R : Type 0} → codes "p" ≡ x_name → R
p_is_not_x e = absurd (true≢false (sym (ap (λ n. bytes_eq n x_name) e)))

x_is_not_p : {R : Type 0} → x_name ≡ codes "p" → R
x_is_not_p e = absurd (true≢false (sym (ap (λ n. bytes_eq n (codes "p")) e)))

object_is_not_abstract : (t : TypeLooks) → same_kind t.kind kind.Object ≡ true → (t.kind ≡ kind.Interface) ⊎ (t.kind ≡ kind.Union) → ⊥
object_is_not_abstract t k (inl interface) = true≢false (sym k ∙ ap (λ x. same_kind x kind.Object) interface)
object_is_not_abstract t k (inr union) = true≢false (sym k ∙ ap (λ x. same_kind x kind.Object) union)

d_and_c : {R : Type 0} → (codes "D" ≡ codes "C") ⊎ (IsAbstract small (codes "D") ⊎ IsAbstract small (codes "C")) → R
d_and_c (inl e) = absurd (true≢false (sym (ap (λ n. bytes_eq n (codes "C")) e)))
d_and_c (inr (inl a)) = absurd (object_is_not_abstract d_type refl (of_present d_type a))
d_and_c (inr (inr a)) = absurd (object_is_not_abstract c_type refl (of_present c_type a))

c_and_d : {R : Type 0} → (codes "C" ≡ codes "D") ⊎ (IsAbstract small (codes "C") ⊎ IsAbstract small (codes "D")) → R
c_and_d (inl e) = absurd (true≢false (sym (ap (λ n. bytes_eq n (codes "D")) e)))
c_and_d (inr (inl a)) = absurd (object_is_not_abstract c_type refl (of_present c_type a))
c_and_d (inr (inr a)) = absurd (object_is_not_abstract d_type refl (of_present d_type a))

fields_merge : FieldsMerge small (alone apart) apart
fields_merge = record {
  shapes = merge_if_all_agree (alone apart) apart SameKey (SameShape small) (for_all SameKey (SameShape small) (
    ((λ e. (refl, inl refl)), (p_is_not_x, (p_is_not_x, tt))),
    (
      (x_is_not_p, ((λ e. (refl, inl refl)), ((λ e. (refl, inl refl)), tt))),
      (
        (x_is_not_p, ((λ e. (refl, inl refl)), ((λ e. (refl, inl refl)), tt))),
        tt,
      ),
    ),
  ));
  selections = merge_if_all_agree (alone apart) apart (MayShare small) SameNameAndArguments (for_all (MayShare small) SameNameAndArguments (
    ((λ h. (refl, λ n. neither)), ((λ h. p_is_not_x h.0), ((λ h. p_is_not_x h.0), tt))),
    (
      ((λ h. x_is_not_p h.0), ((λ h. (refl, λ n. neither)), ((λ h. d_and_c h.1), tt))),
      (
        ((λ h. x_is_not_p h.0), ((λ h. c_and_d h.1), ((λ h. (refl, λ n. neither)), tt))),
        tt,
      ),
    ),
  ));
}
