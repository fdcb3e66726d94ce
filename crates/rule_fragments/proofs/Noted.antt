-- Names that are noted under names, one after another.
use Rattle.std.proofs.Common.{◌≡◌, ◌↔◌, ◌⊎◌, inl, inr, ◌+◌, ◌<◌, ◌++◌, ◌∙◌, ℕ, Bool, true, false, ◌||◌, List, [], ◌∷◌, map, take, length, get_or, Option, None, Some, refl, ap, sym, subst, append_assoc, append-nil, true≢false, Contains, bytes_eq, if◌then◌else◌}
use Rattle.std.specs.List.{list_any, flat_map}
use Rattle.std.specs.Map.{lookup}
use Rattle.std.specs.Prelude.{unwrap_or}
use Rattle.std.proofs.lemmas.Grind.{flat_map-append}
use Rattle.std.proofs.lemmas.List.{map-append}
use Rattle.std.proofs.lemmas.List.Elements.{Contains-append_left, Contains-append_right, Contains-append_cases}
use Rattle.std.proofs.lemmas.Slice.Eq.{bytes_eq-Decides}
use Rattle.indexmap.specs.IndexMap.{IndexMap, insert_entry}
use Rattle.indexmap.specs.IndexSet.{IndexSet, insert_key}
use Rattle.graphql_names.specs.NameValue.{NameValue}
use Rattle.schema_components.specs.Given.{component_name_tree, given_name}
use Rattle.schema_components.specs.Lists.{is_among}
use Rattle.schema_components.specs.Names.{same_text}
use Rattle.schema_components.specs.declared.component_name.ComponentName.{ComponentName}
use Rattle.schema_types.specs.TypeView.{name_text}
use Rattle.rule_definitions.proofs.Lists.{not_in_nil, Contains-cons, Contains-first}
use Rattle.rule_definitions.proofs.Lookups.{text_given}
use Rattle.rule_definitions.proofs.Listing.{mapped_more}
use Rattle.rule_fragments.specs.Held.{texts_of, noted_in, AddsEntries, AddsNotes}
use Rattle.rule_fragments.specs.Noting.{Notes}

-- ---- a lookup by text, after a write

one_test : {A : Type 0} (a b : Bool) (x y z : A) → a ≡ b → (if b then x else z) ≡ (if a then x else (if b then y else z))
one_test true true x y z e = refl
one_test true false x y z e = absurd (true≢false e)
one_test false true x y z e = absurd (true≢false (sym e))
one_test false false x y z e = refl

two_tests : {A : Type 0} (a b : Bool) (w x y z : A) → (a ≡ true → b ≡ true → ⊥) → w ≡ (if a then x else z) → (if b then y else w) ≡ (if a then x else (if b then y else z))
two_tests true true w x y z apart e = absurd (apart refl refl)
two_tests true false w x y z apart e = e
two_tests false true w x y z apart e = refl
two_tests false false w x y z apart e = e

module _ {V : Type 0} where
  abbrev look : List ℕ → List (NameValue × V) → Option V
  look n es = lookup (λ (a : NameValue). bytes_eq n a.text) es

  look_inserted : (n : List ℕ) (es : List (NameValue × V)) (k : NameValue) (v : V) → look n (insert_entry (same_text name_text) es k v) ≡ (if bytes_eq n k.text then Some v else look n es)
  look_inserted n [] k v = refl
  look_inserted n (e ∷ es) k v = by (bytes_eq k.text e.0.text) refl (look_inserted n es k v)
    where
      by : (b : Bool) → bytes_eq k.text e.0.text ≡ b → look n (insert_entry (same_text name_text) es k v) ≡ (if bytes_eq n k.text then Some v else look n es)
          → look n (if b then (e.0, v) ∷ es else e ∷ insert_entry (same_text name_text) es k v) ≡ (if bytes_eq n k.text then Some v else (if bytes_eq n e.0.text then Some e.1 else look n es))
      by true is rest = one_test (bytes_eq n k.text) (bytes_eq n e.0.text) (Some v) (Some e.1) (look n es) (ap (bytes_eq n) ((bytes_eq-Decides k.text e.0.text).0 is))
      by false is rest = two_tests (bytes_eq n k.text) (bytes_eq n e.0.text) (look n (insert_entry (same_text name_text) es k v)) (Some v) (Some e.1) (look n es)
          (λ a b. true≢false (sym ((bytes_eq-Decides k.text e.0.text).1 (sym ((bytes_eq-Decides n k.text).0 a) ∙ (bytes_eq-Decides n e.0.text).0 b)) ∙ is)) rest

-- ---- a name more in a set

pub any_text : (n : NameValue) (ks : List NameValue) → list_any (same_text name_text n) ks ≡ is_among n.text (map name_text ks)
any_text n [] = refl
any_text n (k ∷ ks) = ap (λ b. bytes_eq n.text k.text || b) (any_text n ks)

in_set : (ks : List NameValue) (k : NameValue) (x : List ℕ) → Contains (map name_text (insert_key (same_text name_text) ks k)) x ↔ (Contains (map name_text ks) x ⊎ (k.text ≡ x))
in_set ks k x = by (list_any (same_text name_text k) ks) refl
  where
    last : Contains (map name_text ks ++ k.text ∷ []) x ↔ (Contains (map name_text ks) x ⊎ (k.text ≡ x))
    last = (
      λ c. elim (Contains-append_cases (map name_text ks) (k.text ∷ []) x c) [
        | inl d ↦ inl d
        | inr d ↦ elim (Contains-cons k.text [] x d) [ inl e ↦ inr e | inr none ↦ not_in_nil x none ]
      ],
      λ q. elim q [ inl c ↦ Contains-append_left (map name_text ks) (k.text ∷ []) x c | inr e ↦ Contains-append_right (map name_text ks) (k.text ∷ []) x (Contains-first k.text [] x e) ],
    )

    by : (b : Bool) → list_any (same_text name_text k) ks ≡ b → Contains (map name_text (if b then ks else ks ++ k ∷ [])) x ↔ (Contains (map name_text ks) x ⊎ (k.text ≡ x))
    by true is = (λ c. inl c, λ q. elim q [ inl c ↦ c | inr e ↦ subst (Contains (map name_text ks)) e (text_given (map name_text ks) k.text (sym (any_text k ks) ∙ is)) ])
    by false is = subst (λ l. Contains l x ↔ (Contains (map name_text ks) x ⊎ (k.text ≡ x))) (sym (map-append name_text ks (k ∷ []))) last

-- ---- one note

-- the names that a map holds under a name
abbrev noted_under : {S T : Type 0} → IndexMap NameValue (IndexSet NameValue S) T → List ℕ → List (List ℕ)
noted_under m n = noted_in m.entries n

module _ {S : Type 0} where
  or_none : (o : Option (IndexSet NameValue S)) (none : IndexSet NameValue S) → none.keys ≡ [] → map name_text (unwrap_or o none).keys ≡ texts_of o
  or_none None none e = ap (map name_text) e
  or_none (Some s) none e = refl

module _ {S T : Type 0} where
  pub one_note : (old new : IndexMap NameValue (IndexSet NameValue S) T) (k object : NameValue) (o : Option (IndexSet NameValue S)) (none v : IndexSet NameValue S)
      → new.entries ≡ insert_entry (same_text name_text) old.entries k v → o ≡ look k.text old.entries → none.keys ≡ [] → v.keys ≡ insert_key (same_text name_text) (unwrap_or o none).keys object
      → AddsNotes old new ((k.text, object.text) ∷ [])
  one_note old new k object o none v written was empty added n x = by (bytes_eq n k.text) refl
    where
      under_new : (b : Bool) → bytes_eq n k.text ≡ b → noted_under new n ≡ texts_of (if b then Some v else look n old.entries)
      under_new b is = ap texts_of (ap (look n) written ∙ look_inserted n old.entries k v ∙ ap (λ (b : Bool). if b then Some v else look n old.entries) is)

      -- what is noted under that name
      here : n ≡ k.text → Contains (map name_text v.keys) x ↔ (Contains (noted_under old n) x ⊎ (object.text ≡ x))
      here same =
          let before : map name_text (unwrap_or o none).keys ≡ noted_under old n = or_none o none empty ∙ ap texts_of (was ∙ ap (λ t. look t old.entries) (sym same)) in
          subst (λ l. Contains (map name_text v.keys) x ↔ (Contains l x ⊎ (object.text ≡ x))) before
          (subst (λ ks. Contains (map name_text ks) x ↔ (Contains (map name_text (unwrap_or o none).keys) x ⊎ (object.text ≡ x))) (sym added) (in_set (unwrap_or o none).keys object x))

      the_pair : n ≡ k.text → (object.text ≡ x) ↔ Contains {X = List ℕ × List ℕ} ((k.text, object.text) ∷ []) (n, x)
      the_pair same = (
        λ e. Contains-first (k.text, object.text) [] (n, x) (λ i. (sym same i, e i)),
        λ c. elim (Contains-cons (k.text, object.text) [] (n, x) c) [ inl e ↦ ap (λ (p : List ℕ × List ℕ). p.1) e | inr none ↦ not_in_nil (n, x) none ],
      )

      by : (b : Bool) → bytes_eq n k.text ≡ b → Contains (noted_under new n) x ↔ (Contains (noted_under old n) x ⊎ Contains {X = List ℕ × List ℕ} ((k.text, object.text) ∷ []) (n, x))
      by true is =
          let same = (bytes_eq-Decides n k.text).0 is in
          let pair = the_pair same in
          let set = here same in (
            λ c. elim (set.0 (subst (λ l. Contains l x) (under_new true is) c)) [ inl d ↦ inl d | inr e ↦ inr (pair.0 e) ],
            λ q. subst (λ l. Contains l x) (sym (under_new true is)) (set.1 (elim q [ inl d ↦ inl d | inr c ↦ inr (pair.1 c) ])),
          )
      by false is = (
        λ c. inl (subst (λ l. Contains l x) (under_new false is) c),
        λ q. elim q [
          | inl d ↦ subst (λ l. Contains l x) (sym (under_new false is)) d
          | inr c ↦ elim (Contains-cons (k.text, object.text) [] (n, x) c) [
            | inl e ↦ absurd (true≢false (sym ((bytes_eq-Decides n k.text).1 (ap (λ (p : List ℕ × List ℕ). p.0) (sym e))) ∙ is))
            | inr none ↦ not_in_nil (n, x) none
          ]
        ],
      )

-- ---- one after another

-- sets under names, as a map holds them
abbrev pub Noted : Type 0 → Type 0
Noted S = List (NameValue × IndexSet NameValue S)

module _ {S : Type 0} where
  pub no_notes : (es : Noted S) → AddsEntries es es []
  no_notes es n x = (λ c. inl c, λ q. elim q [ inl c ↦ c | inr none ↦ not_in_nil (n, x) none ])

  -- nothing is noted in an empty map
  pub none_yet : (es : Noted S) → es ≡ [] → AddsEntries [] es []
  none_yet es empty = subst (λ (l : Noted S). AddsEntries [] l []) (sym empty) (no_notes [])

  pub all_noted : (es : Noted S) (notes : Notes) → AddsEntries [] es notes → (n x : List ℕ) → Contains (noted_in es n) x ↔ Contains notes (n, x)
  all_noted es notes added n x = (λ c. elim ((added n x).0 c) [ inl none ↦ not_in_nil x none | inr d ↦ d ], λ d. (added n x).1 (inr d))

  pub both_notes : (a b c : Noted S) (l r : Notes) → AddsEntries a b l → AddsEntries b c r → AddsEntries a c (l ++ r)
  both_notes a b c l r first second n x = (
    λ h. elim ((second n x).0 h) [
      | inl d ↦ elim ((first n x).0 d) [ inl e ↦ inl e | inr e ↦ inr (Contains-append_left l r (n, x) e) ]
      | inr d ↦ inr (Contains-append_right l r (n, x) d)
    ],
    λ q. elim q [
      | inl h ↦ (second n x).1 (inl ((first n x).1 (inl h)))
      | inr h ↦ elim (Contains-append_cases l r (n, x) h) [ inl d ↦ (second n x).1 (inl ((first n x).1 (inr d))) | inr d ↦ (second n x).1 (inr d) ]
    ],
  )

  -- of the next element of a list too
  pub more_notes : {X : Type 0} (notes : X → Notes) (a b c : Noted S) (before : Notes) (xs ys : List X) (x : X) → ys ≡ xs ++ x ∷ []
      → AddsEntries a b (before ++ flat_map notes xs) → AddsEntries b c (notes x) → AddsEntries a c (before ++ flat_map notes ys)
  more_notes notes a b c before xs ys x more so_far step =
      subst (AddsEntries a c)
      (append_assoc before (flat_map notes xs) (notes x)
      ∙ ap (λ l. before ++ l) (sym (ap (flat_map notes) more ∙ flat_map-append notes xs (x ∷ []) ∙ ap (λ l. flat_map notes xs ++ l) (append-nil (notes x)))))
      (both_notes a b c (before ++ flat_map notes xs) (notes x) so_far step)

-- names that are listed, up to one more
pub names_more : (xs : List ComponentName) (i : ℕ) (x : ComponentName) → i < length xs → x ≡ get_or xs i x → map given_name (map component_name_tree (take (i + 1) xs)) ≡ map given_name (map component_name_tree (take i xs)) ++ x.name.text ∷ []
names_more xs i x h e = ap (map given_name) (mapped_more component_name_tree xs i x h e) ∙ map-append given_name (map component_name_tree (take i xs)) (component_name_tree x ∷ [])
