-- What is written folds to types that are equal, apart from places, origins and the order of what has names.
use Rattle.std.proofs.Common.{◌≡◌, ℕ, suc, ◌+◌, ◌≤◌, Bool, true, false, ◌||◌, not, cond, List, [], ◌∷◌, ◌++◌, map, flat_map, length, Option, Some, None, refl, sym, ap, subst, ◌∙◌, append_assoc, arith, true≢false}
use Rattle.std.specs.List.{filter, list_any}
use Rattle.std.specs.Option.{option_map}
use Rattle.std.specs.Str.{bytes_eq}
use Rattle.std.specs.Ordering.{eq_by_cmp}
use Rattle.std.specs.Cmp.Lexicographic.{nat_list_cmp_total}
use Rattle.std.specs.FinMap as fin
use Rattle.std.specs.FinSet as set
use Rattle.std.proofs.lemmas.List.{append-nil, map-append, length-append}
use Rattle.std.proofs.lemmas.List.Elements.{filter-append}
use Rattle.std.proofs.lemmas.Grind.{flat_map-append}
use Rattle.std.proofs.lemmas.Simd.{map-map}
use Rattle.std.proofs.lemmas.Slice.Eq.{bytes_eq-Decides}
use Rattle.std.proofs.lemmas.Map.Text.{is_eq-slice_cmp}
use Rattle.graphql_names.specs.Placed.{Placed, Place, unplaced_text}
use Rattle.tree_directives.specs.DirectiveTree.{DirectiveTree, unplaced_directive, unplaced_input_value}
use Rattle.tree_definitions.specs.in_type_members.TypeSystemTree.{unplaced_field_definition, unplaced_enum_value}
use Rattle.schema_components.specs.Lists.{firsts}
use Rattle.schema_components.specs.Names.{by_bytes, named, names}
use Rattle.schema_components.specs.Given.{Given, ExtensionTree, given_name, plain_given}
use Rattle.schema_components.proofs.NamedEquality.{by_bytes-IsAntisymmetric}
use Rattle.schema_components.proofs.NamedFacts.{same_under}
use Rattle.schema_types.specs.TypeParts.{TypeParts, TypeDefinition}
use Rattle.schema_types.specs.Plain.{plain_type}
use Rattle.schema_types.specs.Out.{is_empty}
use Rattle.schema_fold.specs.NumberedDefinition.{Definitions, numbered}
use Rattle.schema_fold.specs.Components.{all_given, components, keyed_firsts, field_key, value_key, input_key}
use Rattle.schema_fold.specs.Fold.{folded_type}
use Rattle.verdict_laws.specs.Arranged.{arranged}
use Rattle.verdict_laws.specs.Whole.{Extension, classes, extensions_in}
use Rattle.verdict_laws.proofs.Order.{Each, Each-map, Each-arranged, AreApart, IsApart, passed, not_true}
use Rattle.verdict_laws.proofs.Whole.{Numbered}
use Rattle.verdict_laws.proofs.Numbering.{placed, without_numbers}
use Rattle.verdict_laws.proofs.Types.{HasNoRepeats, es_of, components_all}
use Rattle.verdict_laws.proofs.Again.{renamed, named_as, firsts_apart}
use Rattle.verdict_laws.proofs.Names.{IsSilent, no_repeats_again, every}

nothing_mapped : {A B : Type 0} (h : A → B) (xs : List A) → not (is_empty xs) ≡ false → map h xs ≡ []
nothing_mapped h [] e = refl
nothing_mapped h (x ∷ xs) e = absurd (true≢false e)

pub one_named : {X : Type 0} (key : X → List ℕ) (n : List ℕ) (xs : List X) → AreApart key (λ x. x) xs → length (filter (λ x. bytes_eq n (key x)) xs) ≤ 1
one_named key n [] h = omega arith
one_named {X} key n (x ∷ xs) h = by (bytes_eq n (key x)) refl (one_named key n xs h.1)
  where
    none : bytes_eq n (key x) ≡ true → (ys : List X) → Each (IsApart key (λ x. x) x) ys → filter (λ x. bytes_eq n (key x)) ys ≡ []
    none e [] k = refl
    none e (y ∷ ys) k = ap (λ b. cond b (y ∷ filter (λ x. bytes_eq n (key x)) ys) (filter (λ x. bytes_eq n (key x)) ys)) (ap (λ m. bytes_eq m (key y)) ((bytes_eq-Decides n (key x)).0 e) ∙ k.0.0) ∙ none e ys k.1

    by : (b : Bool) → bytes_eq n (key x) ≡ b → length (filter (λ x. bytes_eq n (key x)) xs) ≤ 1 → length (cond b (x ∷ filter (λ x. bytes_eq n (key x)) xs) (filter (λ x. bytes_eq n (key x)) xs)) ≤ 1
    by true e k = let none_left = ap length (none e xs h.0) in omega (arith, none_left)
    by false e k = k

-- ---- of things of which at most one passes, the order does not matter

module _ {X Y : Type 0} (f : X → List Y) (p : Y → Bool) where
  abbrev passing : List X → List Y
  passing xs = filter p (flat_map f xs)

  passing-append : (xs ys : List X) → passing (xs ++ ys) ≡ passing xs ++ passing ys
  passing-append xs ys = ap (filter p) (flat_map-append f xs ys) ∙ filter-append p (flat_map f xs) (flat_map f ys)

  passing-cons : (x : X) (xs : List X) → passing (x ∷ xs) ≡ filter p (f x) ++ passing xs
  passing-cons x xs = filter-append p (f x) (flat_map f xs)

  none_left : (as' bs : List Y) → as' ++ bs ≡ [] → as' ≡ []
  none_left [] bs h = refl
  none_left (a ∷ as') bs h = cc

  empty_of : (ys : List Y) → length ys ≤ 0 → ys ≡ []
  empty_of [] h = refl
  empty_of (y ∷ ys) h = absurd (omega (arith, h))

  split : (c : X → Bool) (xs : List X) → length (passing xs) ≤ 1 → passing (filter c xs) ++ passing (filter (λ x. not (c x)) xs) ≡ passing xs
  split c [] h = refl
  split c (x ∷ xs) h =
      by (c x) (filter p (f x)) refl (let k = ap length (passing-cons x xs ∙ refl) in let l = length-append (filter p (f x)) (passing xs) in omega (arith, k, l, h))
      (split c xs (let k = ap length (passing-cons x xs ∙ refl) in let l = length-append (filter p (f x)) (passing xs) in omega (arith, k, l, h)))
      ∙ sym (passing-cons x xs)
    where
      by : (b : Bool) (here : List Y) → filter p (f x) ≡ here → length here + length (passing xs) ≤ 1 → passing (filter c xs) ++ passing (filter (λ x. not (c x)) xs) ≡ passing xs
          → passing (cond b (x ∷ filter c xs) (filter c xs)) ++ passing (cond (not b) (x ∷ filter (λ x. not (c x)) xs) (filter (λ x. not (c x)) xs)) ≡ filter p (f x) ++ passing xs
      by true here e k rest =
          ap (λ l. l ++ passing (filter (λ x. not (c x)) xs)) (passing-cons x (filter c xs)) ∙ append_assoc (filter p (f x)) (passing (filter c xs)) (passing (filter (λ x. not (c x)) xs)) ∙ ap (λ l. filter p (f x) ++ l) rest
      by false [] e k rest =
          ap (λ l. passing (filter c xs) ++ l) (passing-cons x (filter (λ x. not (c x)) xs) ∙ ap (λ l. l ++ passing (filter (λ x. not (c x)) xs)) e)
          ∙ rest ∙ sym (ap (λ l. l ++ passing xs) e)
      by false (y ∷ ys) e k rest =
          let none : passing xs ≡ [] = empty_of (passing xs) (omega (arith, k)) in
          let first : passing (filter c xs) ≡ [] = none_left (passing (filter c xs)) (passing (filter (λ x. not (c x)) xs)) (rest ∙ none) in
          ap (λ l. l ++ passing (x ∷ filter (λ x. not (c x)) xs)) first ∙ passing-cons x (filter (λ x. not (c x)) xs)
          ∙ ap (λ l. filter p (f x) ++ l) (sym (ap (λ l. l ++ passing (filter (λ x. not (c x)) xs)) first) ∙ rest)

  others : (c : X → Bool) (cs : List (X → Bool)) (xs : List X) → Each (IsSilent (c ∷ cs) f) xs → Each (IsSilent cs f) (filter (λ x. not (c x)) xs)
  others c cs [] h = tt
  others c cs (x ∷ xs) h = by (c x) refl (others c cs xs h.1)
    where
      by : (b : Bool) → c x ≡ b → Each (IsSilent cs f) (filter (λ x. not (c x)) xs) → Each (IsSilent cs f) (cond (not b) (x ∷ filter (λ x. not (c x)) xs) (filter (λ x. not (c x)) xs))
      by true e rest = rest
      by false e rest = (h.0 e, rest)

  nothing : (xs : List X) → Each (λ x. f x ≡ []) xs → flat_map f xs ≡ []
  nothing [] h = refl
  nothing (x ∷ xs) h = λ i. h.0 i ++ nothing xs h.1 i

  pub same_passing : (cs : List (X → Bool)) (xs : List X) → Each (IsSilent cs f) xs → length (passing xs) ≤ 1 → passing (arranged cs xs) ≡ passing xs
  same_passing [] xs h k = sym (ap (filter p) (nothing xs h))
  same_passing (c ∷ cs) xs h k =
      let ys = filter (λ x. not (c x)) xs in
      let parts = split c xs k in
      passing-append (filter c xs) (arranged cs ys)
      ∙ ap (λ l. passing (filter c xs) ++ l) (same_passing cs ys (others c cs xs h) (let e = ap length parts in let l = length-append (passing (filter c xs)) (passing ys) in omega (arith, e, l, k)))
      ∙ parts

-- ---- a class without numbers

module _ {A B : Type 0} (of : TypeParts Place → List A) (h : Given Place A → B) (inner : A → B) (same : (e : Option (ExtensionTree Place)) (x : A) → h (record { extension = e; it = x }) ≡ inner x) (t : TypeDefinition Place) where
  abbrev of_extension : Extension → List B
  of_extension x = map inner (of x.it)

  abbrev whole_class : List Extension → List B
  whole_class xs = map inner (of t.parts) ++ flat_map of_extension xs

  given_inner : (e : Option (ExtensionTree Place)) (xs : List A) → map h (all_given e xs) ≡ map inner xs
  given_inner e [] = refl
  given_inner e (x ∷ xs) = λ i. same e x i ∷ given_inner e xs i

  extension_inner : (es : List Numbered) → map h (flat_map (λ x. all_given (Some x.0) (of x.1)) es) ≡ flat_map of_extension (map placed es)
  extension_inner [] = refl
  extension_inner (x ∷ xs) = map-append h (all_given (Some x.0) (of x.1)) (flat_map (λ x. all_given (Some x.0) (of x.1)) xs) ∙ (λ i. given_inner (Some x.0) (of x.1) i ++ extension_inner xs i)

  pub class_is : (first : ℕ) (ds : Definitions) → map h (components of (numbered first ds) t) ≡ whole_class (extensions_in ds t.parts)
  class_is first ds =
      ap (map h) (components_all first ds t of)
      ∙ map-append h (all_given None (of t.parts)) (flat_map (λ x. all_given (Some x.0) (of x.1)) (es_of first ds t))
      ∙ (λ i. given_inner None (of t.parts) i ++ (extension_inner (es_of first ds t) ∙ ap (flat_map of_extension) (without_numbers t.parts first ds)) i)

  module _ (kept : (p : TypeParts Place) → of (named_as t.parts p) ≡ of p) where
    renames : (ys : List Extension) → flat_map of_extension (map (renamed t) ys) ≡ flat_map of_extension ys
    renames [] = refl
    renames (y ∷ ys) = λ i. map inner (kept y.it i) ++ renames ys i

    -- what passes is the same, where at most one does
    pub passing_again : (p : B → Bool) → ((x : Extension) → IsSilent classes of_extension x) → (xs : List Extension) → length (filter p (whole_class xs)) ≤ 1
        → filter p (whole_class (map (renamed t) (arranged classes xs))) ≡ filter p (whole_class xs)
    passing_again p silent xs few =
        let base = map inner (of t.parts) in
        ap (λ l. filter p (base ++ l)) (renames (arranged classes xs))
        ∙ filter-append p base (flat_map of_extension (arranged classes xs))
        ∙ ap (λ l. filter p base ++ l) (same_passing of_extension p classes xs (every (IsSilent classes of_extension) silent xs)
        (let e = ap length (filter-append p base (flat_map of_extension xs)) in let l = length-append (filter p base) (filter p (flat_map of_extension xs)) in omega (arith, e, l, few)))
        ∙ sym (filter-append p base (flat_map of_extension xs))

-- ---- maps and sets

same_test : (q n : List ℕ) → eq_by_cmp by_bytes q n ≡ bytes_eq q n
same_test q n = is_eq-slice_cmp q n

length-map : {X Y : Type 0} (f : X → Y) (xs : List X) → length (map f xs) ≡ length xs
length-map f [] = refl
length-map f (x ∷ xs) = ap suc (length-map f xs)

filter_map : {X Y : Type 0} (f : X → Y) (p : Y → Bool) (xs : List X) → filter p (map f xs) ≡ map f (filter (λ x. p (f x)) xs)
filter_map f p [] = refl
filter_map f p (x ∷ xs) = by (p (f x)) (filter_map f p xs)
  where
    by : (b : Bool) → filter p (map f xs) ≡ map f (filter (λ x. p (f x)) xs) → cond b (f x ∷ filter p (map f xs)) (filter p (map f xs)) ≡ map f (cond b (x ∷ filter (λ x. p (f x)) xs) (filter (λ x. p (f x)) xs))
    by true rest = ap (λ l. f x ∷ l) rest
    by false rest = rest

any_filter : {X : Type 0} (p : X → Bool) (xs : List X) → list_any p xs ≡ not (is_empty (filter p xs))
any_filter p [] = refl
any_filter p (x ∷ xs) = by (p x) (any_filter p xs)
  where
    by : (b : Bool) → list_any p xs ≡ not (is_empty (filter p xs)) → (b || list_any p xs) ≡ not (is_empty (cond b (x ∷ filter p xs) (filter p xs)))
    by true rest = refl
    by false rest = rest

few : {X : Type 0} (key : X → List ℕ) (q : List ℕ) (xs : List X) → firsts key xs ≡ xs → length (filter (λ x. eq_by_cmp by_bytes q (key x)) xs) ≤ 1
few key q xs none = subst (λ test. length (filter test xs) ≤ 1) (λ i. λ x. sym (same_test q (key x)) i) (one_named key q xs (subst (AreApart key (λ x. x)) none (firsts_apart key xs)))

module _ (t : TypeDefinition Place) (first again_first : ℕ) (ds again : Definitions) (are : extensions_in again t.parts ≡ map (renamed t) (arranged classes (extensions_in ds t.parts))) where
  module _ {A : Type 0} (of : TypeParts Place → List A) (key : Given Place A → List ℕ) (inner : A → List ℕ) (keyed : (e : Option (ExtensionTree Place)) (x : A) → key (record { extension = e; it = x }) ≡ inner x)
      (kept : (p : TypeParts Place) → of (named_as t.parts p) ≡ of p) (none : firsts key (components of (numbered first ds) t) ≡ components of (numbered first ds) t) (none_again : firsts key (components of (numbered again_first again) t) ≡ components of (numbered again_first again) t) where
    abbrev here : List (Given Place A)
    here = components of (numbered first ds) t

    abbrev there : List (Given Place A)
    there = components of (numbered again_first again) t

    same_set : ((x : Extension) → IsSilent classes (λ x. map inner (of x.it)) x) → names key (firsts key there) ≡ names key (firsts key here)
    same_set silent =
        ap (names key) none_again ∙ set.same_set nat_list_cmp_total by_bytes-IsAntisymmetric _ _ (λ q.
        set.contains-from_list nat_list_cmp_total (map key there) q ∙ any_filter (eq_by_cmp by_bytes q) (map key there)
        ∙ ap (λ l. not (is_empty l)) (ap (filter (eq_by_cmp by_bytes q)) (class_is of key inner keyed t again_first again ∙ ap (λ xs. map inner (of t.parts) ++ flat_map (λ x. map inner (of x.it)) xs) are)
        ∙ passing_again of key inner keyed t kept (eq_by_cmp by_bytes q) silent (extensions_in ds t.parts)
        (subst (λ l. length (filter (eq_by_cmp by_bytes q) l) ≤ 1) (class_is of key inner keyed t first ds)
        (subst (λ n. n ≤ 1) (sym (ap length (filter_map key (eq_by_cmp by_bytes q) here) ∙ length-map key (filter (λ x. eq_by_cmp by_bytes q (key x)) here))) (few key q here none)))
        ∙ ap (filter (eq_by_cmp by_bytes q)) (sym (class_is of key inner keyed t first ds)))
        ∙ sym (any_filter (eq_by_cmp by_bytes q) (map key here)) ∙ sym (set.contains-from_list nat_list_cmp_total (map key here) q))
        ∙ ap (names key) (sym none)

    same_map : {V : Type 0} (g : Given Place A → V) (inside : A → V) → ((e : Option (ExtensionTree Place)) (x : A) → g (record { extension = e; it = x }) ≡ inside x)
        → ((x : Extension) → IsSilent classes (λ x. map {B = List ℕ × V} (λ a. (inner a, inside a)) (of x.it)) x) → named g (keyed_firsts key there) ≡ named g (keyed_firsts key here)
    same_map {V} g inside valued silent =
        ap fin.from_entries (flat there ∙ ap (map entry) none_again)
        ∙ same_under (map entry there) (map entry here) (λ q.
        ap (filter (λ e. eq_by_cmp by_bytes q e.0)) (class_is of entry inner_entry both t again_first again ∙ ap (λ xs. map inner_entry (of t.parts) ++ flat_map (λ x. map inner_entry (of x.it)) xs) are)
        ∙ passing_again of entry inner_entry both t kept (λ e. eq_by_cmp by_bytes q e.0) silent (extensions_in ds t.parts)
        (subst (λ l. length (filter (λ e. eq_by_cmp by_bytes q e.0) l) ≤ 1) (class_is of entry inner_entry both t first ds)
        (subst (λ n. n ≤ 1) (sym (ap length (filter_map entry (λ e. eq_by_cmp by_bytes q e.0) here) ∙ length-map entry (filter (λ x. eq_by_cmp by_bytes q (key x)) here))) (few key q here none)))
        ∙ ap (filter (λ e. eq_by_cmp by_bytes q e.0)) (sym (class_is of entry inner_entry both t first ds)))
        ∙ ap fin.from_entries (sym (flat here ∙ ap (map entry) none))
      where
        entry : Given Place A → List ℕ × V
        entry x = (key x, g x)

        inner_entry : A → List ℕ × V
        inner_entry a = (inner a, inside a)

        both : (e : Option (ExtensionTree Place)) (x : A) → entry (record { extension = e; it = x }) ≡ inner_entry x
        both e x = λ i. (keyed e x i, valued e x i)

        flat : (xs : List (Given Place A)) → map {B = List ℕ × V} (λ e. (e.0, g e.1)) (keyed_firsts key xs) ≡ map entry (firsts key xs)
        flat xs = map-map (λ e. (e.0, g e.1)) (λ x. (key x, x)) (firsts key xs)

-- ---- what the first class gives stays in order

module _ {X Y : Type 0} (f : X → List Y) where
  some_give : (c : X → Bool) → ((x : X) → c x ≡ false → f x ≡ []) → (xs : List X) → flat_map f (filter c xs) ≡ flat_map f xs
  some_give c h [] = refl
  some_give c h (x ∷ xs) = by (c x) refl (some_give c h xs)
    where
      by : (b : Bool) → c x ≡ b → flat_map f (filter c xs) ≡ flat_map f xs → flat_map f (cond b (x ∷ filter c xs) (filter c xs)) ≡ f x ++ flat_map f xs
      by true e rest = ap (λ l. f x ++ l) rest
      by false e rest = rest ∙ sym (ap (λ l. l ++ flat_map f xs) (h x e))

  none_give : (xs : List X) → Each (λ x. f x ≡ []) xs → flat_map f xs ≡ []
  none_give [] h = refl
  none_give (x ∷ xs) h = λ i. h.0 i ++ none_give xs h.1 i

  pub in_order : (c : X → Bool) (cs : List (X → Bool)) → ((x : X) → c x ≡ false → f x ≡ []) → (xs : List X) → flat_map f (arranged (c ∷ cs) xs) ≡ flat_map f xs
  in_order c cs h xs =
      let others = filter (λ x. not (c x)) xs in
      flat_map-append f (filter c xs) (arranged cs others)
      ∙ (λ i. some_give c h xs i ++ none_give (arranged cs others) (Each-map (λ x e. h x (not_true (c x) e)) (arranged cs others) (Each-arranged (λ x. not (c x) ≡ true) cs others (passed (λ x. not (c x)) xs))) i)
      ∙ append-nil (flat_map f xs)

-- a type that is folded again is equal
pub plain_again : (t : TypeDefinition Place) (first again_first : ℕ) (ds again : Definitions) → extensions_in again t.parts ≡ map (renamed t) (arranged classes (extensions_in ds t.parts))
    → HasNoRepeats (numbered first ds) t → plain_type (folded_type (numbered again_first again) t) ≡ plain_type (folded_type (numbered first ds) t)
plain_again t first again_first ds again are h =
    let k = no_repeats_again t first again_first ds again are h in
    λ i. record {
      kind = t.parts.kind;
      description = option_map unplaced_text t.description;
      name = unplaced_text t.parts.name;
      directives = applied i;
      interfaces = same_set t first again_first ds again are (λ p. p.interfaces) given_name (λ x. x.it) (λ e x. refl) (λ p. refl) h.interfaces k.interfaces (λ x d n f m v u. nothing_mapped (λ x. x.it) x.it.interfaces n) i;
      fields = same_map t first again_first ds again are (λ p. p.fields) field_key (λ x. x.it.name.it) (λ e x. refl) (λ p. refl) h.fields k.fields (plain_given unplaced_field_definition) (λ x. unplaced_field_definition x.it) (λ e x. refl)
          (λ x d n f m v u. nothing_mapped _ x.it.fields f) i;
      members = same_set t first again_first ds again are (λ p. p.members) given_name (λ x. x.it) (λ e x. refl) (λ p. refl) h.members k.members (λ x d n f m v u. nothing_mapped (λ x. x.it) x.it.members m) i;
      values = same_map t first again_first ds again are (λ p. p.values) value_key (λ x. x.it.value.it) (λ e x. refl) (λ p. refl) h.values k.values (plain_given unplaced_enum_value) (λ x. unplaced_enum_value x.it) (λ e x. refl)
          (λ x d n f m v u. nothing_mapped _ x.it.values v) i;
      inputs = same_map t first again_first ds again are (λ p. p.inputs) input_key (λ x. x.it.name.it) (λ e x. refl) (λ p. refl) h.inputs k.inputs (plain_given unplaced_input_value) (λ x. unplaced_input_value x.it) (λ e x. refl)
          (λ x d n f m v u. nothing_mapped _ x.it.inputs u) i;
    }
  where
    h_of : Given Place (Placed Place (DirectiveTree Place)) → DirectiveTree (Unit {0})
    h_of = plain_given unplaced_directive

    inner : Placed Place (DirectiveTree Place) → DirectiveTree (Unit {0})
    inner d = unplaced_directive d.it

    given : Extension → List (DirectiveTree (Unit {0}))
    given x = map inner x.it.directives

    kept_all : (ys : List Extension) → flat_map given (map (renamed t) ys) ≡ flat_map given ys
    kept_all [] = refl
    kept_all (y ∷ ys) = ap (λ l. given y ++ l) (kept_all ys)

    applied : map h_of (components (λ p. p.directives) (numbered again_first again) t) ≡ map h_of (components (λ p. p.directives) (numbered first ds) t)
    applied =
        class_is (λ p. p.directives) h_of inner (λ e x. refl) t again_first again
        ∙ ap (λ l. map inner t.parts.directives ++ l) (ap (flat_map given) are ∙ kept_all (arranged classes (extensions_in ds t.parts)) ∙ in_order given (λ x. not (is_empty x.it.directives)) ((λ x. not (is_empty x.it.interfaces)) ∷ (λ x. not (is_empty x.it.fields)) ∷ (λ x. not (is_empty x.it.members)) ∷ (λ x. not (is_empty x.it.values)) ∷ (λ x. not (is_empty x.it.inputs)) ∷ []) (λ x e. nothing_mapped inner x.it.directives e) (extensions_in ds t.parts))
        ∙ sym (class_is (λ p. p.directives) h_of inner (λ e x. refl) t first ds)
