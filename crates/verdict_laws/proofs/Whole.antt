-- Where no component is repeated, the schema's type is written unchanged, as it is in the list.
use Rattle.std.proofs.Common.{◌≡◌, ℕ, ◌+◌, ◌≤◌, ◌==◌, Bool, true, false, cond, List, [], ◌∷◌, ◌++◌, map, flat_map, length, Option, Some, None, refl, ap, ◌∙◌, if◌then◌else◌, arith, option_to_list}
use Rattle.std.specs.List.{filter}
use Rattle.std.specs.Str.{bytes_eq}
use Rattle.std.proofs.lemmas.List.{append-nil, map-append}
use Rattle.std.proofs.lemmas.List.Elements.{filter-append}
use Rattle.std.proofs.lemmas.Grind.{flat_map-append}
use Rattle.std.proofs.lemmas.Slice.Eq.{bytes_eq-Decides}
use Rattle.std.proofs.lemmas.Bool.Decides.{Decides-eqb}
use Rattle.graphql_names.specs.Placed.{Place}
use Rattle.schema_components.specs.Names.{Entries}
use Rattle.schema_components.specs.Given.{Given, ExtensionTree}
use Rattle.schema_types.specs.TypeParts.{TypeParts}
use Rattle.schema_types.specs.Out.{givers, entries_givers, given_by, entries_given_by, same_giver}
use Rattle.schema_fold.specs.Components.{all_given}
use Rattle.verdict_laws.proofs.Order.{Each, repeated, blocks, AreApart, IsApart}

-- ---- numbered extensions

-- an extension with its number and place, and what it gives
abbrev pub NumberedOf : Type 0 → Type 0
NumberedOf Q = ExtensionTree Place × Q

abbrev pub Numbered : Type 0
Numbered = NumberedOf (TypeParts Place)

abbrev pub number_key : ExtensionTree Place → List ℕ
number_key e = e.number ∷ []

eq_false : (a b : ℕ) → (a ≡ b → ⊥) → (a == b) ≡ false
eq_false a b ne = by (a == b) refl
  where
    by : (c : Bool) → (a == b) ≡ c → c ≡ false
    by true e = absurd (ne ((Decides-eqb a b).0 e))
    by false e = refl

key_false : (a b : ℕ) → (a ≡ b → ⊥) → bytes_eq (a ∷ []) (b ∷ []) ≡ false
key_false a b ne = by (bytes_eq (a ∷ []) (b ∷ [])) refl
  where
    head : List ℕ → ℕ
    head [] = 0
    head (x ∷ xs) = x

    by : (c : Bool) → bytes_eq (a ∷ []) (b ∷ []) ≡ c → c ≡ false
    by true e = absurd (ne (ap head ((bytes_eq-Decides (a ∷ []) (b ∷ [])).0 e)))
    by false e = refl

-- ---- what one giver gave

module _ {A : Type 0} where
  given_by-append : (giver : Option (ExtensionTree Place)) (xs ys : List (Given Place A)) → given_by giver (xs ++ ys) ≡ given_by giver xs ++ given_by giver ys
  given_by-append giver xs ys = ap (map (λ g. g.it)) (filter-append (λ g. same_giver giver g.extension) xs ys) ∙ map-append (λ g. g.it) (filter (λ g. same_giver giver g.extension) xs) (filter (λ g. same_giver giver g.extension) ys)

  given_all : (giver e : Option (ExtensionTree Place)) (xs : List A) → given_by giver (all_given e xs) ≡ (if same_giver giver e then xs else [])
  given_all giver e [] = by (same_giver giver e)
    where
      by : (b : Bool) → ◌≡◌ {A = List A} [] (cond b [] [])
      by true = refl
      by false = refl
  given_all giver e (x ∷ xs) = by (same_giver giver e) refl (given_all giver e xs)
    where
      by : (b : Bool) → same_giver giver e ≡ b → given_by giver (all_given e xs) ≡ cond b xs []
          → map (λ g. g.it) (cond b (record { extension = e; it = x } ∷ filter (λ g. same_giver giver g.extension) (all_given e xs)) (filter (λ g. same_giver giver g.extension) (all_given e xs))) ≡ cond b (x ∷ xs) []
      by true s rest = ap (λ l. x ∷ l) rest
      by false s rest = rest

  -- ---- who gave

  givers-append : (xs ys : List (Given Place A)) → givers (xs ++ ys) ≡ givers xs ++ givers ys
  givers-append xs ys = flat_map-append (λ g. option_to_list g.extension) xs ys

  no_givers : (xs : List A) → givers (all_given None xs) ≡ []
  no_givers [] = refl
  no_givers (x ∷ xs) = no_givers xs

  givers_same : (e : ExtensionTree Place) (xs : List A) → givers (all_given (Some e) xs) ≡ repeated (length xs) e
  givers_same e [] = refl
  givers_same e (x ∷ xs) = ap (λ l. e ∷ l) (givers_same e xs)

  -- ---- under names

  abbrev pub under : (Given Place A → List ℕ) → List (Given Place A) → Entries (Given Place A)
  under key xs = map (λ x. (key x, x)) xs

  pub givers_under : (key : Given Place A → List ℕ) (xs : List (Given Place A)) → entries_givers (under key xs) ≡ givers xs
  givers_under key [] = refl
  givers_under key (x ∷ xs) = ap (λ l. option_to_list x.extension ++ l) (givers_under key xs)

  pub given_under : (key : Given Place A → List ℕ) (giver : Option (ExtensionTree Place)) (xs : List (Given Place A)) → entries_given_by giver (under key xs) ≡ given_by giver xs
  given_under key giver [] = refl
  given_under key giver (x ∷ xs) = by (same_giver giver x.extension) (given_under key giver xs)
    where
      by : (b : Bool) → entries_given_by giver (under key xs) ≡ given_by giver xs
          → map (λ e. e.1.it) (cond b ((key x, x) ∷ filter (λ e. same_giver giver e.1.extension) (under key xs)) (filter (λ e. same_giver giver e.1.extension) (under key xs)))
          ≡ map (λ g. g.it) (cond b (x ∷ filter (λ g. same_giver giver g.extension) xs) (filter (λ g. same_giver giver g.extension) xs))
      by true rest = ap (λ l. x.it ∷ l) rest
      by false rest = rest

module _ {Q : Type 0} where
  abbrev pub as_given : NumberedOf Q → Given Place (Q)
  as_given x = record { extension = Some x.0; it = x.1 }

  abbrev pub giver_of : NumberedOf Q → ExtensionTree Place
  giver_of x = x.0

  abbrev pub AscendFrom : ℕ → List (NumberedOf Q) → Type 0
  AscendFrom n [] = Unit {0}
  AscendFrom n (x ∷ xs) = (n ≤ x.0.number) × AscendFrom (x.0.number + 1) xs

  pub lower : (n m : ℕ) → n ≤ m → (xs : List (NumberedOf Q)) → AscendFrom m xs → AscendFrom n xs
  lower n m le [] h = tt
  lower n m le (x ∷ xs) h = let a = h.0 in (omega arith, h.1)

  -- the numbers differ
  abbrev Differ : NumberedOf Q → NumberedOf Q → Type 0
  Differ x y = ((x.0.number == y.0.number) ≡ false) × ((y.0.number == x.0.number) ≡ false)

  abbrev AllDiffer : List (NumberedOf Q) → Type 0
  AllDiffer [] = Unit {0}
  AllDiffer (x ∷ xs) = Each (Differ x) xs × AllDiffer xs

  less_differ : (x : NumberedOf Q) (ys : List (NumberedOf Q)) (n : ℕ) → x.0.number + 1 ≤ n → AscendFrom n ys → Each (Differ x) ys
  less_differ x [] n le h = tt
  less_differ x (y ∷ ys) n le h =
      let a = h.0 in
      ((eq_false x.0.number y.0.number (λ e. absurd (omega (arith, e, a, le))), eq_false y.0.number x.0.number (λ e. absurd (omega (arith, e, a, le)))), less_differ x ys (y.0.number + 1) (omega arith) h.1)

  less_apart : (x : NumberedOf Q) (ys : List (NumberedOf Q)) (n : ℕ) → x.0.number + 1 ≤ n → AscendFrom n ys → Each (IsApart number_key giver_of x) ys
  less_apart x [] n le h = tt
  less_apart x (y ∷ ys) n le h =
      let a = h.0 in
      ((key_false x.0.number y.0.number (λ e. absurd (omega (arith, e, a, le))), key_false y.0.number x.0.number (λ e. absurd (omega (arith, e, a, le)))), less_apart x ys (y.0.number + 1) (omega arith) h.1)

  pub all_differ : (n : ℕ) (xs : List (NumberedOf Q)) → AscendFrom n xs → AllDiffer xs
  all_differ n [] h = tt
  all_differ n (x ∷ xs) h = (less_differ x xs (x.0.number + 1) (omega arith) h.1, all_differ (x.0.number + 1) xs h.1)

  pub all_apart : (n : ℕ) (xs : List (NumberedOf Q)) → AscendFrom n xs → AreApart number_key giver_of xs
  all_apart n [] h = tt
  all_apart n (x ∷ xs) h = (less_apart x xs (x.0.number + 1) (omega arith) h.1, all_apart (x.0.number + 1) xs h.1)

  module _ {A : Type 0} where
    -- the components of one class: those of the definition, and those of the extensions
    abbrev pub all_of : (Q → List A) → Q → List (NumberedOf Q) → List (Given Place A)
    all_of of defined es = all_given None (of defined) ++ flat_map (λ x. all_given (Some x.0) (of x.1)) es

    none_by_definition : (of : Q → List A) (es : List (NumberedOf Q)) → given_by None (flat_map (λ x. all_given (Some x.0) (of x.1)) es) ≡ []
    none_by_definition of [] = refl
    none_by_definition of (x ∷ xs) =
        given_by-append None (all_given (Some x.0) (of x.1)) (flat_map (λ x. all_given (Some x.0) (of x.1)) xs)
        ∙ (λ i. given_all None (Some x.0) (of x.1) i ++ none_by_definition of xs i)

    pub by_definition : (of : Q → List A) (defined : Q) (es : List (NumberedOf Q)) → given_by None (all_of of defined es) ≡ of defined
    by_definition of defined es =
        given_by-append None (all_given None (of defined)) (flat_map (λ x. all_given (Some x.0) (of x.1)) es)
        ∙ (λ i. given_all None None (of defined) i ++ none_by_definition of es i) ∙ append-nil (of defined)

    none_by : (of : Q → List A) (x : NumberedOf Q) (ys : List (NumberedOf Q)) → Each (Differ x) ys → given_by (Some x.0) (flat_map (λ x. all_given (Some x.0) (of x.1)) ys) ≡ []
    none_by of x [] h = refl
    none_by of x (y ∷ ys) h =
        given_by-append (Some x.0) (all_given (Some y.0) (of y.1)) (flat_map (λ x. all_given (Some x.0) (of x.1)) ys)
        ∙ (λ i. (given_all (Some x.0) (Some y.0) (of y.1) ∙ ap (λ b. cond b (of y.1) []) h.0.0) i ++ none_by of x ys h.1 i)

    by_extensions : (of : Q → List A) (es : List (NumberedOf Q)) → AllDiffer es → Each (λ x. given_by (Some x.0) (flat_map (λ x. all_given (Some x.0) (of x.1)) es) ≡ of x.1) es
    by_extensions of [] h = tt
    by_extensions of (x ∷ xs) h = (
      given_by-append (Some x.0) (all_given (Some x.0) (of x.1)) (flat_map (λ x. all_given (Some x.0) (of x.1)) xs)
          ∙ (λ i. (given_all (Some x.0) (Some x.0) (of x.1) ∙ ap (λ b. cond b (of x.1) []) ((Decides-eqb x.0.number x.0.number).1 refl)) i ++ none_by of x xs h.0 i) ∙ append-nil (of x.1),
      both xs h.0 (by_extensions of xs h.1),
    )
      where
        both : (ys : List (NumberedOf Q)) → Each (Differ x) ys → Each (λ y. given_by (Some y.0) (flat_map (λ x. all_given (Some x.0) (of x.1)) xs) ≡ of y.1) ys
            → Each (λ y. given_by (Some y.0) (flat_map (λ x. all_given (Some x.0) (of x.1)) (x ∷ xs)) ≡ of y.1) ys
        both [] d k = tt
        both (y ∷ ys) d k = (
          given_by-append (Some y.0) (all_given (Some x.0) (of x.1)) (flat_map (λ x. all_given (Some x.0) (of x.1)) xs)
              ∙ (λ i. (given_all (Some y.0) (Some x.0) (of x.1) ∙ ap (λ b. cond b (of x.1) []) d.0.1) i ++ k.0 i),
          both ys d.1 k.1,
        )

    pub by_extension : (of : Q → List A) (defined : Q) (es : List (NumberedOf Q)) → AllDiffer es → Each (λ x. given_by (Some x.0) (all_of of defined es) ≡ of x.1) es
    by_extension of defined es h = go es (by_extensions of es h)
      where
        go : (ys : List (NumberedOf Q)) → Each (λ y. given_by (Some y.0) (flat_map (λ x. all_given (Some x.0) (of x.1)) es) ≡ of y.1) ys → Each (λ y. given_by (Some y.0) (all_of of defined es) ≡ of y.1) ys
        go [] k = tt
        go (y ∷ ys) k = (
          given_by-append (Some y.0) (all_given None (of defined)) (flat_map (λ x. all_given (Some x.0) (of x.1)) es)
              ∙ (λ i. given_all (Some y.0) None (of defined) i ++ k.0 i),
          go ys k.1,
        )

    pub all_givers : (of : Q → List A) (defined : Q) (es : List (NumberedOf Q)) → givers (all_of of defined es) ≡ blocks number_key giver_of (λ x. length (of x.1)) es
    all_givers of defined es = givers-append (all_given None (of defined)) (flat_map (λ x. all_given (Some x.0) (of x.1)) es) ∙ (λ i. no_givers (of defined) i ++ go es i)
      where
        go : (ys : List (NumberedOf Q)) → givers (flat_map (λ x. all_given (Some x.0) (of x.1)) ys) ≡ blocks number_key giver_of (λ x. length (of x.1)) ys
        go [] = refl
        go (y ∷ ys) = givers-append (all_given (Some y.0) (of y.1)) (flat_map (λ x. all_given (Some x.0) (of x.1)) ys) ∙ (λ i. givers_same y.0 (of y.1) i ++ go ys i)

    -- what a type has of a class is all that is given
    pub given_numbered : (of : Q → List A) (es : List (NumberedOf Q)) → flat_map (λ g. all_given g.extension (of g.it)) (map as_given es) ≡ flat_map (λ x. all_given (Some x.0) (of x.1)) es
    given_numbered of [] = refl
    given_numbered of (x ∷ xs) = ap (λ l. all_given (Some x.0) (of x.1) ++ l) (given_numbered of xs)
