-- Lemmas on definitions that are added to a list.
use Rattle.std.proofs.Common.{◌≡◌, ℕ, ◌+◌, ◌<◌, ◌≤◌, ◌^◌, Bool, true, false, [], ◌∷◌, ◌++◌, None, Some, refl, sym, ap, subst, ◌∙◌, cond, if◌then◌else◌, true≢false, arith}
use Rattle.std.proofs.lemmas.List.{append_assoc, append-nil}
use Rattle.graphql_names.specs.Placed.{Place}
use Rattle.schema_built_in.specs.in_definitions.DefinitionTree.{DefinitionTree}
use Rattle.schema_built_in.specs.in_definitions.Queries.{is_extension, definition_place}
use Rattle.schema_components.proofs.Places.{each_place-push}
use Rattle.schema_built_in.specs.in_fold.NumberedDefinition.{Definitions, NumberedDefinition, listed_after}
use Rattle.schema_building.specs.Numbers.{extension_count, HaveNumbers}
use Rattle.schema_building.specs.TextsView.{TextsView}
use Rattle.schema_building.specs.TextsList.{IsListOf, AddsDefinitions, IsListRefusal}
use Rattle.schema_building.specs.declared.refusal.BuilderRefusal.{BuilderRefusal}
use Rattle.schema_building.specs.declared.refusal.BuilderRefusal.TheVariants as refusal
use Rattle.schema_building.proofs.Numbering.{count_append, count_one, count_none}

module _ (d : DefinitionTree Place) (old new : TextsView) where
  -- what comes after the others once d is added, and the number after its own
  abbrev added_here : NumberedDefinition
  added_here = record { definition = d; extension = if is_extension d then Some (record { number = old.next; place = definition_place d }) else None }

  abbrev next_number : ℕ
  next_number = if is_extension d then old.next + 1 else old.next

  numbers_more : (b : Bool) (first n m : ℕ) (ds : Definitions) → is_extension d ≡ b → n ≡ first + extension_count ds → HaveNumbers first ds → (b ≡ true → n + 1 < 2 ^ 64)
      → m ≡ cond b (n + 1) n → (m ≡ first + extension_count (ds ++ d ∷ [])) × HaveNumbers first (ds ++ d ∷ [])
  numbers_more true first n m ds e is have within step =
      let count : extension_count (ds ++ d ∷ []) ≡ extension_count ds + 1 = count_append ds (d ∷ []) ∙ ap (λ k. extension_count ds + k) (count_one d e) in
      let w : n + 1 < 2 ^ 64 = within refl in
      (omega (arith, count, is, step), λ some. omega (arith, count, is, w))
  numbers_more false first n m ds e is have within step =
      let count : extension_count (ds ++ d ∷ []) ≡ extension_count ds = count_append ds (d ∷ []) ∙ ap (λ k. extension_count ds + k) (count_none d e) ∙ omega arith in
      (step ∙ is ∙ ap (λ k. first + k) (sym count), λ some. subst (λ k. first + k < 2 ^ 64) (sym count) (have (subst (λ k. 0 < k) count some)))

  adds_one : new.list ≡ old.list ++ added_here ∷ [] → new.next ≡ next_number → (is_extension d ≡ true → old.next + 1 < 2 ^ 64) → AddsDefinitions (d ∷ []) old new
  adds_one list next within first ds is =
      let numbers = numbers_more (is_extension d) first old.next new.next ds refl is.next is.numbers within next in
      record {
        list = list ∙ (λ i. is.list i ++ record { definition = d; extension = if is_extension d then Some (record { number = is.next i; place = definition_place d }) else None } ∷ [])
            ∙ sym (each_place-push (λ before x. listed_after first before x ∷ []) ds d);
        next = numbers.0;
        numbers = numbers.1;
      }

  -- a definition that is no extension, and one that is
  pub adds_unnumbered : is_extension d ≡ false → new.list ≡ old.list ++ record { definition = d; extension = None } ∷ [] → new.next ≡ old.next → AddsDefinitions (d ∷ []) old new
  adds_unnumbered unnumbered list next =
      adds_one (list ∙ ap (λ b. old.list ++ record { definition = d; extension = if b then Some (record { number = old.next; place = definition_place d }) else None } ∷ []) (sym unnumbered))
      (next ∙ ap (λ b. if b then old.next + 1 else old.next) (sym unnumbered)) (λ h. absurd (true≢false (sym h ∙ unnumbered)))

  pub adds_numbered : is_extension d ≡ true → new.list ≡ old.list ++ record { definition = d; extension = Some (record { number = old.next; place = definition_place d }) } ∷ [] → new.next ≡ old.next + 1 → old.next + 1 < 2 ^ 64 → AddsDefinitions (d ∷ []) old new
  adds_numbered extends list next within =
      adds_one (list ∙ ap (λ b. old.list ++ record { definition = d; extension = if b then Some (record { number = old.next; place = definition_place d }) else None } ∷ []) (sym extends))
      (next ∙ ap (λ b. if b then old.next + 1 else old.next) (sym extends)) (λ _. within)

-- ---- in a loop

pub adds_none : (t : TextsView) → AddsDefinitions [] t t
adds_none t first ds is = subst (λ l. IsListOf first l t) (sym (append-nil ds)) is

pub adds_then : (a b c : TextsView) (xs ys : Definitions) → AddsDefinitions xs a b → AddsDefinitions ys b c → AddsDefinitions (xs ++ ys) a c
adds_then a b c xs ys one two first ds is = subst (λ l. IsListOf first l c) (append_assoc ds xs ys) (two first (ds ++ xs) (one first ds is))

have_fewer : (first : ℕ) (xs ys : Definitions) → extension_count xs ≤ extension_count ys → HaveNumbers first ys → HaveNumbers first xs
have_fewer first xs ys h have some = let within = have (omega (arith, h, some)) in omega (arith, h, within)

-- what is refused after others of a list is refused of the list
pub refusal_more : (start now : TextsView) (before : Definitions) (d : DefinitionTree Place) (rest : Definitions) → AddsDefinitions before start now
    → (r : BuilderRefusal) → IsListRefusal (d ∷ []) now r → IsListRefusal (before ++ d ∷ rest) start r
refusal_more start now before d rest adds refusal.Memory h = tt
refusal_more start now before d rest adds refusal.Failed h = h
refusal_more start now before d rest adds refusal.Spent h = λ first ds is have.
    let fewer : extension_count ((ds ++ before) ++ d ∷ []) ≤ extension_count (ds ++ (before ++ d ∷ rest)) =
    let a = count_append (ds ++ before) (d ∷ []) in
    let b = count_append ds before in
    let e = count_append ds (before ++ d ∷ rest) in
    let f = count_append before (d ∷ rest) in
    let g = count_append (d ∷ []) rest in
    omega (arith, a, b, e, f, g) in
    h first (ds ++ before) (adds first ds is) (have_fewer first ((ds ++ before) ++ d ∷ []) (ds ++ (before ++ d ∷ rest)) fewer have)
