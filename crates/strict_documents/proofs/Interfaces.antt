-- The names of the interfaces that objects implement, one by one.
use Rattle.std.proofs.Common.{◌≡◌, ◌∙◌, ◌+◌, ◌<◌, ◌++◌, ◌||◌, ℕ, Bool, true, false, List, [], ◌∷◌, length, get_or, map, take, refl, ap, sym, subst, bytes_eq, if◌then◌else◌}
use Rattle.std.specs.Borrow.{Bor}
use Rattle.std.specs.List.{list_any}
use Rattle.std.proofs.lemmas.List.{map-append}
use Rattle.std.proofs.lemmas.Slice.Eq.{bytes_eq-Decides}
use Rattle.indexmap.specs.IndexSet.{IndexSet, insert_key}
use Rattle.graphql_names.specs.NameValue.{NameValue}
use Rattle.graphql_names.specs.Placed.{Place}
use Rattle.schema_components.specs.Given.{component_name_tree, given_name}
use Rattle.schema_components.specs.Lists.{is_among}
use Rattle.schema_components.specs.declared.component_name.ComponentName.{ComponentName}
use Rattle.schema_types.specs.SchemaTree.{SchemaType}
use Rattle.schema_types.specs.TypeView.{extended_type, name_text}
use Rattle.schema_types.specs.declared.extended_type.ExtendedType.{ExtendedType}
use Rattle.rule_definitions.proofs.Listing.{mapped_more}
use Rattle.rule_reach.specs.NotedNames.{noted_names}
use Rattle.strict_documents.specs.Implemented.{AddsNames, is_implemented_among, is_implemented_by}

-- ---- tests

or_false : (b : Bool) → b ≡ (b || false)
or_false true = refl
or_false false = refl

or_assoc : (a b c : Bool) → ((a || b) || c) ≡ (a || (b || c))
or_assoc true b c = refl
or_assoc false b c = refl

pub any_push : {X : Type 0} (p : X → Bool) (xs : List X) (x : X) → list_any p (xs ++ x ∷ []) ≡ (list_any p xs || p x)
any_push p [] x = sym (or_false (p x))
any_push p (y ∷ xs) x = ap (λ b. p y || b) (any_push p xs x) ∙ sym (or_assoc (p y) (list_any p xs) (p x))

-- ---- a name more

already : (n m : List ℕ) (ks : List (List ℕ)) (e : Bool) → bytes_eq n m ≡ e → is_among m ks ≡ true → is_among n ks ≡ (is_among n ks || e)
already n m ks true h is = let there : is_among n ks ≡ true = ap (λ k. is_among k ks) ((bytes_eq-Decides n m).0 h) ∙ is in subst (λ b. b ≡ (b || true)) (sym there) refl
already n m ks false h is = or_false (is_among n ks)

noted_one : (n m : List ℕ) (ks : List (List ℕ)) → is_among n (insert_key bytes_eq ks m) ≡ (is_among n ks || bytes_eq n m)
noted_one n m ks = by (list_any (bytes_eq m) ks) refl
  where
    by : (b : Bool) → list_any (bytes_eq m) ks ≡ b → is_among n (if b then ks else ks ++ m ∷ []) ≡ (is_among n ks || bytes_eq n m)
    by true is = already n m ks (bytes_eq n m) refl is
    by false is = any_push (bytes_eq n) ks m

-- ---- interfaces

abbrev pub names_of : List ComponentName → List (List ℕ)
names_of xs = map given_name (map component_name_tree xs)

names_more : (xs : List ComponentName) (i : ℕ) (x : ComponentName) → i < length xs → x ≡ get_or xs i x → names_of (take (i + 1) xs) ≡ names_of (take i xs) ++ x.name.text ∷ []
names_more xs i x h is = ap (map given_name) (mapped_more component_name_tree xs i x h is) ∙ map-append given_name (map component_name_tree (take i xs)) (component_name_tree x ∷ [])

-- ---- types that are lent

abbrev pub lent_types : List (Bor NameValue × Bor ExtendedType) → List (List ℕ × SchemaType Place)
lent_types es = map (λ (e : NameValue × ExtendedType). (name_text e.0, extended_type e.1)) (map (λ e. (e.0.now, e.1.now)) es)

types_more : (es : List (Bor NameValue × Bor ExtendedType)) (e : Bor NameValue × Bor ExtendedType) → lent_types (es ++ e ∷ []) ≡ lent_types es ++ (name_text e.0.now, extended_type e.1.now) ∷ []
types_more [] e = refl
types_more (x ∷ es) e = ap (λ l. (name_text x.0.now, extended_type x.1.now) ∷ l) (types_more es e)

module _ {S : Type 0} where
  pub adds_one : (old new : IndexSet NameValue S) (m : List ℕ) → noted_names new ≡ insert_key bytes_eq (noted_names old) m → AddsNames old new (λ n. bytes_eq n m)
  adds_one old new m is n = ap (is_among n) is ∙ noted_one n m (noted_names old)

  pub adds_none : (old : IndexSet NameValue S) → AddsNames old old (λ n. false)
  adds_none old n = or_false (is_among n (noted_names old))

  pub adds_same : (old new : IndexSet NameValue S) (p q : List ℕ → Bool) → ((n : List ℕ) → p n ≡ q n) → AddsNames old new p → AddsNames old new q
  adds_same old new p q same h n = h n ∙ ap (λ b. is_among n (noted_names old) || b) (same n)

  pub adds_both : (old mid new : IndexSet NameValue S) (p q : List ℕ → Bool) → AddsNames old mid p → AddsNames mid new q → AddsNames old new (λ n. p n || q n)
  adds_both old mid new p q one two n = two n ∙ ap (λ b. b || q n) (one n) ∙ or_assoc (is_among n (noted_names old)) (p n) (q n)

  pub interface_more : (old mid new : IndexSet NameValue S) (xs : List ComponentName) (i : ℕ) (x : ComponentName) → i < length xs → x ≡ get_or xs i x
      → noted_names new ≡ insert_key bytes_eq (noted_names mid) x.name.text → AddsNames old mid (λ n. is_among n (names_of (take i xs))) → AddsNames old new (λ n. is_among n (names_of (take (i + 1) xs)))
  interface_more old mid new xs i x h is noted before =
      adds_same old new (λ n. is_among n (names_of (take i xs)) || bytes_eq n x.name.text) (λ n. is_among n (names_of (take (i + 1) xs)))
      (λ n. sym (ap (is_among n) (names_more xs i x h is) ∙ any_push (bytes_eq n) (names_of (take i xs)) x.name.text))
      (adds_both old mid new (λ n. is_among n (names_of (take i xs))) (λ n. bytes_eq n x.name.text) before (adds_one mid new x.name.text noted))

  -- ---- types

  pub type_more : (old mid new : IndexSet NameValue S) (es : List (Bor NameValue × Bor ExtendedType)) (e : Bor NameValue × Bor ExtendedType) → AddsNames old mid (is_implemented_among (lent_types es)) → AddsNames mid new (is_implemented_by (extended_type e.1.now))
      → AddsNames old new (is_implemented_among (lent_types (es ++ e ∷ [])))
  type_more old mid new es e before one =
      adds_same old new (λ n. is_implemented_among (lent_types es) n || is_implemented_by (extended_type e.1.now) n) (is_implemented_among (lent_types (es ++ e ∷ [])))
      (λ n. sym (ap (λ l. is_implemented_among l n) (types_more es e) ∙ any_push (λ (e : List ℕ × SchemaType Place). is_implemented_by e.1 n) (lent_types es) (name_text e.0.now, extended_type e.1.now)))
      (adds_both old mid new (is_implemented_among (lent_types es)) (is_implemented_by (extended_type e.1.now)) before one)
