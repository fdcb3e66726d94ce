-- A field more of a node that is being added.
use Rattle.std.proofs.Common.{◌≡◌, ◌⊎◌, ◌↔◌, ◌∙◌, ◌++◌, ◌∷◌, [], ℕ, ◌-◌, ◌<◌, ◌≤◌, Bool, true, false, IsTrue, List, map, length, Contains, get_or, slice_get, Option, Some, None, Result, Ok, Err, refl, sym, ap, subst, inl, inr, true≢false, arith}
use Rattle.std.specs.Prelude.{MatchOption, OnOk}
use Rattle.std.specs.List.{AllZip}
use Rattle.std.proofs.lemmas.Bool.{cases_eq}
use Rattle.std.proofs.lemmas.List.{map-append}
use Rattle.std.proofs.lemmas.List.Elements.{Contains-append_left, Contains-append_right, Contains-push, Contains-push_cases}
use Rattle.std.proofs.lemmas.Option.{slice_get_within, slice_get-get_or}
use Rattle.graphql_names.specs.Node.{content}
use Rattle.graphql_names.specs.Placed.{Place}
use Rattle.document_typed_selections.specs.TypedTree.{TypedSet}
use Rattle.document_typed_selections.specs.declared.selection.SelectionSet.{SelectionSet}
use Rattle.spec_document.specs.MeantTree.{meant_of_set}
use Rattle.document_typed_operations.specs.Reached.{Fragments}
use Rattle.rule_cycle_search.specs.Paths.{HasNoRepeat}
use Rattle.rule_definitions.specs.Judged.{Judged}
use Rattle.document_typed_operations.proofs.Finding.{Contains-cons, Contains-first, not_in_nil}
use Rattle.rule_document_definitions.specs.Selected.{HasNone, StandingField}
use Rattle.rule_document_definitions.specs.ReadFields.{set_of, field_read, list_read}
use Rattle.rule_reach.specs.Fields.{field_of}
use Rattle.rule_field_sets.specs.Fields.{fields_of}
use Rattle.rule_reach.specs.declared.field_selection.FieldSelection.{FieldSelection}
use Rattle.rule_field_sets.specs.declared.member.Member.{Member}
use Rattle.rule_field_sets.specs.declared.member.SetNode.{SetNode}
use Rattle.rule_field_sets.specs.Tables.{Tables, MeansField, MeansSet, IsSetNumber, TablesGrow}
use Rattle.rule_field_sets.specs.Numbered.{read_of, read_list, IsMember, NotesNode}
use Rattle.rule_field_sets.specs.Nodes.{own_set, typed_at, IsNodeOf, IsNodeBelow, AreMembers, AreNodes}
use Rattle.rule_field_sets.specs.Added.{node_at, IsFoundBelow, IsSetBelow, with_new, AreAdded}
use Rattle.rule_field_sets.proofs.Growing.{apart_more, none_twice, zip_map, contains_at}
use Rattle.rule_field_sets.proofs.Adding.{means_on}
use Rattle.rule_field_sets.proofs.Comparing.{member_on}
use Rattle.rule_field_sets.proofs.Once.{inside, one_content}
use Rattle.rule_field_sets.proofs.Reading.{no_set_number, set_has_number}

-- ---- the set of a field

module _ (s : Judged) (fragments : Fragments Place) (t : Tables) (met : List ℕ) (begun : ℕ) (nodes : List SetNode) (starts : List ℕ) (are : AreNodes s fragments t met begun nodes starts) where
  -- its number, where its node is there
  pub number_is : (last : ℕ) (x : FieldSelection) (below number : Option ℕ) → IsFoundBelow nodes last (own_set x) below → IsSetBelow nodes (node_at last below) number → IsSetNumber t number (set_of (read_of x))
  number_is last x None number none is = subst (λ n. IsSetNumber t n (set_of (read_of x))) (sym is) (no_set_number t (content x.field.now).selection_set none)
  number_is last x (Some p) number (some, (within, (v, (at, same)))) (u, (there, is)) =
      let one : u ≡ v = inside u v (sym there ∙ at) in
      let means : MeansSet t v.number (list_read (meant_of_set (own_set x))) = subst (λ d. MeansSet t v.number (list_read (meant_of_set d))) same (are.nodes (last - p) v at).number in
      subst (λ n. IsSetNumber t n (set_of (read_of x))) (sym (is ∙ ap (λ (k : SetNode). Some k.number) one)) (set_has_number t (content x.field.now).selection_set v.number some means)

pub node_is_there : (nodes : List SetNode) (last : ℕ) (s : TypedSet Place) (below : Option ℕ) → IsFoundBelow nodes last s below → MatchOption (node_at last below) (Unit {0}) (λ n. n < length nodes)
node_is_there nodes last s None none = tt
node_is_there nodes last s (Some p) (some, (within, (v, (at, same)))) = slice_get_within nodes (last - p) v at

pub place_is_there : (nodes : List SetNode) (last : ℕ) (s : TypedSet Place) (below : Option ℕ) → IsFoundBelow nodes last s below → MatchOption below (Unit {0}) (λ p. p ≤ last)
place_is_there nodes last s None none = tt
place_is_there nodes last s (Some p) (some, (within, is)) = within

pub node_is_below : (nodes : List SetNode) (last : ℕ) (s : TypedSet Place) (below : Option ℕ) → IsFoundBelow nodes last s below → IsNodeBelow nodes (length nodes) s (node_at last below)
node_is_below nodes last s None none = none
node_is_below nodes last s (Some p) (some, (within, (v, (at, same)))) = (some, (slice_get_within nodes (last - p) v at, (v, (at, same))))

-- the number of the set of a node
pub within_is : (nodes : List SetNode) (below : Option ℕ) (n : ℕ) → below ≡ Some n → MatchOption below (Unit {0}) (λ k. k < length nodes) → n < length nodes
within_is nodes below n is within = subst (λ o. MatchOption o (Unit {0}) (λ k. k < length nodes)) is within

pub some_set_below : (nodes : List SetNode) (below : Option ℕ) (n : ℕ) (v : SetNode) → below ≡ Some n → MatchOption below (Unit {0}) (λ k. k < length nodes) → v ≡ get_or nodes n v → IsSetBelow nodes below (Some v.number)
some_set_below nodes below n v is within at =
    subst (λ o. IsSetBelow nodes o (Some v.number)) (sym is) (v, (slice_get-get_or nodes n v (within_is nodes below n is within) ∙ ap (λ (u : SetNode). Some u) (sym at), refl))

pub no_set_below : (nodes : List SetNode) (below : Option ℕ) → below ≡ None → IsSetBelow nodes below None
no_set_below nodes below is = subst (λ o. IsSetBelow nodes o None) (sym is) refl

-- ---- lists with one more

zip_push : {X Y : Type 0} (R : X → Y → Type 0) (xs : List X) (ys : List Y) (x : X) (y : Y) → AllZip R xs ys → R x y → AllZip R (xs ++ x ∷ []) (ys ++ y ∷ [])
zip_push R [] [] x y h r = (r, tt)
zip_push R [] (b ∷ ys) x y h r = absurd h
zip_push R (a ∷ xs) [] x y h r = absurd h
zip_push R (a ∷ xs) (b ∷ ys) x y h r = (h.0, zip_push R xs ys x y h.1 r)

abbrev number_of : Member → ℕ
number_of m = m.number

-- a member of this number
member_with : (ms : List Member) (n : ℕ) → Contains (map number_of ms) n → (m : Member) × (Contains ms m × (m.number ≡ n))
member_with [] n c = absurd (not_in_nil n c)
member_with (m ∷ ms) n c = elim (Contains-cons m.number (map number_of ms) n c) [
  | inl e ↦ (m, (Contains-first m ms m refl, e))
  | inr r ↦ let k = member_with ms n r in (k.0, (Contains-append_right (m ∷ []) ms k.0 k.1.0, k.1.1))
]

-- ---- members

module _ (fs : List (StandingField Place)) (f : StandingField Place) (ms : List Member) (are : AreMembers fs ms) where
  -- a field of a number that is there
  repeated : (m : Member) → Contains ms m → read_of m.selection ≡ field_read f → AreMembers (fs ++ f ∷ []) ms
  repeated m c e = record {
    within = λ k d. Contains-append_left fs (f ∷ []) (field_of k.selection) (are.within k d);
    covers = λ g d. elim (Contains-push_cases fs f g d) [
      | inl a ↦ are.covers g a
      | inr b ↦ (m, (c, e ∙ ap field_read b))
    ];
    apart = are.apart;
  }

  -- one of a new number
  added : (m : Member) → field_of m.selection ≡ f → (Contains (map number_of ms) m.number → ⊥) → AreMembers (fs ++ f ∷ []) (ms ++ m ∷ [])
  added m is new = record {
    within = λ k d. elim (Contains-push_cases ms m k d) [
      | inl a ↦ Contains-append_left fs (f ∷ []) (field_of k.selection) (are.within k a)
      | inr b ↦ subst (λ (j : Member). Contains (fs ++ f ∷ []) (field_of j.selection)) b (subst (Contains (fs ++ f ∷ [])) (sym is) (Contains-push fs f))
    ];
    covers = λ g d. elim (Contains-push_cases fs f g d) [
      | inl a ↦ let k = are.covers g a in (k.0, (Contains-append_left ms (m ∷ []) k.0 k.1.0, k.1.1))
      | inr b ↦ (m, (Contains-push ms m, ap field_read (is ∙ b)))
    ];
    apart = subst HasNoRepeat (sym (map-append number_of ms (m ∷ []))) (apart_more (map number_of ms) m.number are.apart new);
  }

-- ---- the step

-- what follows where two things hold of what went well
pub both_ok : {T E A B C : Type 0} (r : Result T E) → OnOk r A → OnOk r B → (A → B → C) → OnOk r C
both_ok (Ok t) a b f = f a b
both_ok (Err e) a b f = tt

-- none was passed
pub none_passed : (t : Tables) (met : List ℕ) (begun : ℕ) (nodes : List SetNode) (numbers : List ℕ) (members : List Member) → ((n : ℕ) → slice_get met n ≡ Some begun → ⊥) → numbers ≡ [] → members ≡ [] → AreAdded t met begun nodes [] numbers members
none_passed t met begun nodes numbers members fresh e d =
    subst (λ l. AreAdded t met begun nodes [] l members) (sym e) (subst (AreAdded t met begun nodes [] []) (sym d) (record {
      numbers = tt;
      members = record { within = λ m c. absurd (not_in_nil m c); covers = λ f c. absurd (not_in_nil f c); apart = none_twice };
      each = λ m c. absurd (not_in_nil m c);
      below = λ m c. absurd (not_in_nil m c);
      met = λ n. (λ h. absurd (fresh n h), λ c. absurd (not_in_nil n c));
    }))

module _ (t u : Tables) (old new : List ℕ) (begun : ℕ) (nodes : List SetNode) (x : FieldSelection) (below : Option ℕ) (m : Member) (grow : TablesGrow t u) (is : IsMember u x below m) (there : IsNodeBelow nodes (length nodes) (own_set x) below) where
  own : IsMember u m.selection m.below m
  own = record { selection = refl; number = is.number; parts = is.parts; below = refl }

  own_below : IsNodeBelow nodes (length nodes) (own_set m.selection) m.below
  own_below = subst (λ y. IsNodeBelow nodes (length nodes) (own_set y) m.below) (sym is.selection) (subst (IsNodeBelow nodes (length nodes) (own_set x)) (sym is.below) there)

  means : MeansField u m.number (read_of x)
  means = subst (λ y. MeansField u m.number (read_of y)) is.selection is.number

  module _ (xs : List FieldSelection) (numbers : List ℕ) (members : List Member) (so_far : AreAdded t old begun nodes xs numbers members) where
    zipped : AllZip (λ n y. MeansField u n (read_of y)) (numbers ++ m.number ∷ []) (xs ++ x ∷ [])
    zipped = zip_push (λ n y. MeansField u n (read_of y)) numbers xs m.number x (zip_map (λ n y. MeansField t n (read_of y)) (λ n y. MeansField u n (read_of y)) (λ n y h. means_on t u grow n (read_of y) h) numbers xs so_far.numbers) means

    one_longer : fields_of (xs ++ x ∷ []) ≡ fields_of xs ++ field_of x ∷ []
    one_longer = map-append field_of xs (x ∷ [])

    passed_again : NotesNode old m.number begun true new → AreAdded u new begun nodes (xs ++ x ∷ []) (numbers ++ m.number ∷ []) members
    passed_again notes =
        let here : Contains (map number_of members) m.number = (so_far.met m.number).0 (notes.told.0 refl) in
        let k = member_with members m.number here in
        let first : MeansField u m.number (read_of k.0.selection) = subst (λ n. MeansField u n (read_of k.0.selection)) k.1.1 (means_on t u grow k.0.number (read_of k.0.selection) (so_far.each k.0 k.1.0).number) in
        record {
          numbers = zipped;
          members = subst (λ l. AreMembers l members) (sym one_longer) (repeated (fields_of xs) (field_of x) members so_far.members k.0 k.1.0 (one_content u m.number (read_of k.0.selection) (read_of x) first means));
          each = λ j c. member_on t u j.selection j.below j grow (so_far.each j c);
          below = so_far.below;
          met = λ n. elim (cases_eq n m.number) [
            | inl e ↦ (λ h. subst (Contains (map number_of members)) (sym e) here, λ c. ap (slice_get new) e ∙ notes.noted)
            | inr differ ↦ (λ h. (so_far.met n).0 (sym (notes.others n differ) ∙ h), λ c. notes.others n differ ∙ (so_far.met n).1 c)
          ];
        }

    passed_first : NotesNode old m.number begun false new → AreAdded u new begun nodes (xs ++ x ∷ []) (numbers ++ m.number ∷ []) (members ++ m ∷ [])
    passed_first notes =
        let more : map number_of (members ++ m ∷ []) ≡ map number_of members ++ m.number ∷ [] = map-append number_of members (m ∷ []) in
        let absent : Contains (map number_of members) m.number → ⊥ = λ c. true≢false (sym (notes.told.1 ((so_far.met m.number).1 c))) in
        record {
          numbers = zipped;
          members = subst (λ l. AreMembers l (members ++ m ∷ [])) (sym one_longer) (added (fields_of xs) (field_of x) members so_far.members m (ap field_of is.selection) absent);
          each = λ j c. elim (Contains-push_cases members m j c) [
            | inl a ↦ member_on t u j.selection j.below j grow (so_far.each j a)
            | inr b ↦ subst (λ (k : Member). IsMember u k.selection k.below k) b own
          ];
          below = λ j c. elim (Contains-push_cases members m j c) [
            | inl a ↦ so_far.below j a
            | inr b ↦ subst (λ (k : Member). IsNodeBelow nodes (length nodes) (own_set k.selection) k.below) b own_below
          ];
          met = λ n. subst (λ l. (slice_get new n ≡ Some begun) ↔ Contains l n) (sym more) (elim (cases_eq n m.number) [
            | inl e ↦ (λ h. subst (Contains (map number_of members ++ m.number ∷ [])) (sym e) (Contains-push (map number_of members) m.number), λ c. ap (slice_get new) e ∙ notes.noted)
            | inr differ ↦ (
              λ h. Contains-append_left (map number_of members) (m.number ∷ []) n ((so_far.met n).0 (sym (notes.others n differ) ∙ h)),
              λ c. elim (Contains-push_cases (map number_of members) m.number n c) [
                | inl a ↦ notes.others n differ ∙ (so_far.met n).1 a
                | inr b ↦ absurd (differ (sym b))
              ],
            )
          ]);
        }

    passed : (b : Bool) → NotesNode old m.number begun b new → AreAdded u new begun nodes (xs ++ x ∷ []) (numbers ++ m.number ∷ []) (with_new b m members)
    passed true notes = passed_again notes
    passed false notes = passed_first notes

    -- one field more
    pub field_passed : (b : Bool) (more_numbers : List ℕ) (more_members : List Member) → NotesNode old m.number begun b new → more_numbers ≡ numbers ++ m.number ∷ [] → more_members ≡ with_new b m members
        → AreAdded u new begun nodes (xs ++ x ∷ []) more_numbers more_members
    field_passed b more_numbers more_members notes e d = subst (λ l. AreAdded u new begun nodes (xs ++ x ∷ []) l more_members) (sym e) (subst (AreAdded u new begun nodes (xs ++ x ∷ []) (numbers ++ m.number ∷ [])) (sym d) (passed b notes))
