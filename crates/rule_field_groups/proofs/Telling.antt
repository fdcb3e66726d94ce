-- What is told of a group, field by field; how often shapes are compared for it.
use Rattle.std.proofs.Common.{◌≡◌, ◌⊎◌, ◌++◌, ◌∙◌, ◌≤◌, ◌<◌, ◌+◌, ℕ, List, [], ◌∷◌, map, take, drop, length, get_or, min, Vec, Global, Option, None, Some, Contains, refl, sym, ap, subst, append-nil, append_assoc, inl, inr, arith}
use Rattle.std.specs.Prelude.{option_to_list, MatchOption}
use Rattle.std.specs.List.{AllByRecursion}
use Rattle.std.proofs.lemmas.List.{map-append, take_more, take_all}
use Rattle.std.proofs.lemmas.List.Elements.{Contains-append_left, Contains-append_right, Contains-append_cases, Contains-get_or}
use Rattle.graphql_names.specs.Placed.{Place}
use Rattle.fault_document_errors.specs.declared.build_error.BuildError.{BuildError}
use Rattle.rule_selection_queries.proofs.in_definitions.in_schema_types.in_components.Places.{not_in_nil, only, Contains-cons, Contains-first, Contains-rest}
use Rattle.rule_selection_queries.specs.in_definitions.Judged.{Judged}
use Rattle.rule_selection_queries.specs.in_document_definitions.DocumentFaults.{Broken}
use Rattle.rule_selection_queries.specs.in_document_definitions.Selected.{StandingField}
use Rattle.rule_selection_queries.specs.in_document_definitions.Groups.{AgreeWithHead}
use Rattle.rule_selection_queries.proofs.in_document_definitions.Unplaced.{contains_map, contains_unmap}
use Rattle.rule_selection_queries.proofs.Equivalences.{arguments_refl}
use Rattle.rule_field_sets.specs.in_reach.Broken.{brokens_of}
use Rattle.rule_field_groups.specs.Members.{field_of, fields_of}
use Rattle.rule_field_sets.specs.declared.member.Member.{Member}
use Rattle.rule_field_groups.specs.declared.pass.Pass.{Pass}
use Rattle.rule_field_groups.specs.declared.pass.Pass.TheVariants.{Shapes, Selections}
use Rattle.rule_field_groups.specs.Passes.{Agree, Conflict, AddsTwo, TellsGroup, AddsGroup, TellsEach, AddsEach}
use Rattle.rule_field_groups.specs.KeyGroups.{with_own}
use Rattle.rule_field_groups.proofs.Counts.{front_with}
use Rattle.rule_field_groups.proofs.Parts.{part_of_shared, part_of_own, of_parts, own_fields_parts}
use Rattle.rule_field_groups.specs.Compared.{compared, compared_once, greatest_count, CountsUp}

-- a field agrees with itself
agree_refl : {P : Type 0} (pass : Pass) (s : Judged) (f : StandingField P) → Agree pass s f f
agree_refl Shapes s f = (refl, inl refl)
agree_refl Selections s f = (refl, arguments_refl f.head.arguments)

-- ---- a group

all_more : {X : Type 0} (Q : X → Type 0) (xs : List X) (x : X) → AllByRecursion Q xs → Q x → AllByRecursion Q (xs ++ x ∷ [])
all_more Q [] x all q = (q, tt)
all_more Q (y ∷ xs) x all q = (all.0, all_more Q xs x all.1 q)

left_empty : {X : Type 0} (xs ys : List X) → xs ++ ys ≡ [] → xs ≡ []
left_empty [] ys e = refl
left_empty (x ∷ xs) ys e = cc

right_empty : {X : Type 0} (xs ys : List X) → xs ++ ys ≡ [] → ys ≡ []
right_empty [] ys e = e
right_empty (x ∷ xs) ys e = cc

-- as far as the further fields of a group were compared with the first
pub record SoFar (pass : Pass) (s : Judged) (group : List (StandingField Place)) (first : StandingField Place) (taken : List (StandingField Place)) (added : List (Broken Place)) : Type 0 where
  pub right : (fault : Broken Place) → Contains added fault
      → (f : StandingField Place) × ((g : StandingField Place) × (Contains group f × (Contains group g × Conflict pass s fault f g)))
  pub agree : added ≡ [] → AllByRecursion (Agree pass s first) taken

module _ (pass : Pass) (s : Judged) (group : List (StandingField Place)) (first : StandingField Place) where
  none_taken : SoFar pass s group first [] []
  none_taken = record { right = λ fault c. absurd (not_in_nil fault c); agree = λ e. tt }

  -- a breach about two of the group, in one order or the other
  abbrev EitherWay : Broken Place → StandingField Place → Type 0
  EitherWay fault g = Conflict pass s fault first g ⊎ Conflict pass s fault g first

  two_of : Contains group first → (g : StandingField Place) → Contains group g → (fault : Broken Place) → EitherWay fault g
      → (f : StandingField Place) × ((k : StandingField Place) × (Contains group f × (Contains group k × Conflict pass s fault f k)))
  two_of here g there fault (inl conflict) = (first, (g, (here, (there, conflict))))
  two_of here g there fault (inr conflict) = (g, (first, (there, (here, conflict))))

  one_more : Contains group first → (taken : List (StandingField Place)) (added : List (Broken Place)) (g : StandingField Place) (told : Option (Broken Place)) → Contains group g
      → SoFar pass s group first taken added → MatchOption told (Agree pass s first g) (λ b. EitherWay b g) → SoFar pass s group first (taken ++ g ∷ []) (added ++ option_to_list told)
  one_more here taken added g None there so_far agrees = record {
    right = λ fault c. so_far.right fault (subst (λ l. Contains l fault) (append-nil added) c);
    agree = λ e. all_more (Agree pass s first) taken g (so_far.agree (left_empty added [] e)) agrees;
  }
  one_more here taken added g (Some b) there so_far conflict = record {
    right = λ fault c. elim (Contains-append_cases added (b ∷ []) fault c) [
      | inl a ↦ so_far.right fault a
      | inr r ↦ two_of here g there fault (subst (λ t. EitherWay t g) (sym (only b fault r)) conflict)
    ];
    agree = λ e. let no : b ∷ [] ≡ [] = right_empty added (b ∷ []) e in cc;
  }

  all_taken : (rest : List (StandingField Place)) → group ≡ first ∷ rest → (added : List (Broken Place)) → SoFar pass s group first rest added → TellsGroup pass s group added
  all_taken rest is added so_far = record {
    right = so_far.right;
    agree = λ e. subst (AgreeWithHead (Agree pass s)) (sym is) (agree_refl pass s first, so_far.agree e);
  }

-- a group without fields
nothing_told : (pass : Pass) (s : Judged) (group : List (StandingField Place)) → group ≡ [] → TellsGroup pass s group []
nothing_told pass s group is = record { right = λ fault c. absurd (not_in_nil fault c); agree = λ e. subst (AgreeWithHead (Agree pass s)) (sym is) tt }

-- ---- the same, in lists of breaches

abbrev Breaches : Type 0
Breaches = Vec (Place × BuildError) Global

-- what was added for the fields that were taken
abbrev pub Taken : Pass → Judged → List Member → Member → List Member → Breaches → Breaches → Type 0
Taken pass s group first taken old now = (added : List (Broken Place)) × ((brokens_of now ≡ brokens_of old ++ added) × SoFar pass s (fields_of group) (field_of first) (fields_of taken) added)

empty_is : {X : Type 0} (xs : List X) → length xs ≡ 0 → xs ≡ []
empty_is [] e = refl
empty_is (x ∷ xs) e = cc

module _ (pass : Pass) (s : Judged) (group : List Member) where
  pub no_group : length group ≡ 0 → (breaches : Breaches) → AddsGroup pass s (fields_of group) breaches breaches
  no_group e breaches = ([], (sym (append-nil (brokens_of breaches)), nothing_told pass s (fields_of group) (ap fields_of (empty_is group e))))

  module _ (first : Member) (others : List Member) (is : group ≡ first ∷ others) where
    in_first : Contains (fields_of group) (field_of first)
    in_first = subst (λ l. Contains (fields_of l) (field_of first)) (sym is) (Contains-first (field_of first) (fields_of others) (field_of first) refl)

    in_others : (k : ℕ) (x : Member) → k < length others → x ≡ get_or others k x → Contains (fields_of group) (field_of x)
    in_others k x h e =
        subst (λ l. Contains (fields_of l) (field_of x)) (sym is)
        (Contains-rest (field_of first) (fields_of others) (field_of x) (contains_map field_of others x (subst (Contains others) (sym e) (Contains-get_or others k x h))))

    pub begun : (breaches : Breaches) → Taken pass s group first (take 0 others) breaches breaches
    begun breaches = ([], (sym (append-nil (brokens_of breaches)), none_taken pass s (fields_of group) (field_of first)))

    pub compared_more : (k : ℕ) (x : Member) → k < length others → x ≡ get_or others k x → (old now new : Breaches) → AddsTwo pass s (field_of first) (field_of x) now new
        → Taken pass s group first (take k others) old now → Taken pass s group first (take (k + 1) others) old new
    compared_more k x h e old now new (told, (adds, compares)) so_far =
        let more = option_to_list told in
        let longer : fields_of (take k others) ++ field_of x ∷ [] ≡ fields_of (take (k + 1) others) =
        sym (ap fields_of (take_more others k x h) ∙ map-append field_of (take k others) (get_or others k x ∷ []) ∙ ap (λ y. fields_of (take k others) ++ field_of y ∷ []) (sym e)) in (
          so_far.0 ++ more,
          (
            adds ∙ ap (λ l. l ++ more) so_far.1.0 ∙ append_assoc (brokens_of old) so_far.0 more,
            subst (λ l. SoFar pass s (fields_of group) (field_of first) l (so_far.0 ++ more)) longer
                (one_more pass s (fields_of group) (field_of first) in_first (fields_of (take k others)) so_far.0 (field_of x) told (in_others k x h e) so_far.1.1 compares),
          ),
        )

    pub all_compared : (k : ℕ) → length others ≤ k → (old now : Breaches) → Taken pass s group first (take k others) old now → AddsGroup pass s (fields_of group) old now
    all_compared k h old now so_far = (
      so_far.0,
      (
        so_far.1.0,
        all_taken pass s (fields_of group) (field_of first) (fields_of others) (ap fields_of is) so_far.0
            (subst (λ l. SoFar pass s (fields_of group) (field_of first) (fields_of l) so_far.0) (take_all k others h) so_far.1.1),
      ),
    )

-- ---- comparisons

-- so many, at most, for so many fields
abbrev pub most : Pass → ℕ → ℕ
most Shapes n = n
most Selections n = 0

pub counts_none : (n : ℕ) → CountsUp n 0 n
counts_none n = (omega arith, (omega arith, λ low. omega arith))

pub counts_zero : (pass : Pass) (n : ℕ) → CountsUp n (most pass 0) n
counts_zero Shapes n = counts_none n
counts_zero Selections n = counts_none n

pub count_none : {X : Type 0} (pass : Pass) (group : List X) → length group ≡ 0 → (n : ℕ) → CountsUp n (compared pass (drop 1 group)) n
count_none Shapes [] e n = counts_none n
count_none Shapes (x ∷ xs) e n = absurd (omega (arith, e))
count_none Selections group e n = counts_none n

pub counts_one : (old new : ℕ) → new ≡ min (old + 1) greatest_count → old ≤ greatest_count → CountsUp old 1 new
counts_one old new is within = (omega (arith, is, within), (omega (arith, is), λ low. omega (arith, is, low)))

counts_on : (a b old now new : ℕ) → CountsUp old a now → CountsUp now b new → CountsUp old (a + b) new
counts_on a b old now new (low, (high, exact)) (low_too, (high_too, exact_too)) = (
  omega (arith, low, low_too),
  (
    omega (arith, high, high_too),
    λ under.
        let e = exact_too under in
        let i = exact (omega (arith, low_too, under)) in
        omega (arith, e, i),
  ),
)

pub count_more : (pass : Pass) (k old now new : ℕ) → CountsUp old (most pass k) now → CountsUp now (compared_once pass) new → CountsUp old (most pass (k + 1)) new
count_more Shapes k old now new so_far more = counts_on k 1 old now new so_far more
count_more Selections k old now new so_far more = counts_on 0 0 old now new so_far more

pub count_within : {X : Type 0} (pass : Pass) (others : List X) (k old now : ℕ) → k ≤ length others → CountsUp old (most pass k) now → (old ≤ now) × (now ≤ old + compared pass others)
count_within Shapes others k old now h (low, (high, exact)) = (low, omega (arith, high, h))
count_within Selections others k old now h (low, (high, exact)) = (low, high)

-- with the next one, whatever comes of it
pub count_next : {X : Type 0} (pass : Pass) (others : List X) (k old now new : ℕ) → k < length others → CountsUp old (most pass k) now → CountsUp now (compared_once pass) new
    → (old ≤ new) × (new ≤ old + compared pass others)
count_next pass others k old now new h so_far more = count_within pass others (k + 1) old new (omega (arith, h)) (count_more pass k old now new so_far more)

pub count_all : {X : Type 0} (pass : Pass) (others : List X) (k old now : ℕ) → k ≤ length others → length others ≤ k → CountsUp old (most pass k) now → CountsUp old (compared pass others) now
count_all Shapes others k old now low high so_far =
    let same : k ≡ length others = omega (arith, low, high) in
    subst (λ n. CountsUp old n now) same so_far
count_all Selections others k old now low high so_far = so_far

-- a group of a first one and others
pub count_group : {X : Type 0} (pass : Pass) (first : X) (others group : List X) (old now : ℕ) → group ≡ first ∷ others → now ≤ old + compared pass others → now ≤ old + compared pass group
count_group Shapes first others group old now is h = omega (arith, h, ap length is)
count_group Selections first others group old now is h = h

pub exact_group : {X : Type 0} (pass : Pass) (first : X) (others group : List X) (old now : ℕ) → group ≡ first ∷ others → CountsUp old (compared pass others) now → CountsUp old (compared pass (drop 1 group)) now
exact_group pass first others group old now is h = subst (λ l. CountsUp old (compared pass (drop 1 l)) now) (sym is) h

-- ---- several lists, one after the other

module _ (pass : Pass) (s : Judged) where
  all_on : (Q : StandingField Place → Type 0) (xs ys : List (StandingField Place)) → AllByRecursion Q xs → AllByRecursion Q ys → AllByRecursion Q (xs ++ ys)
  all_on Q [] ys a b = b
  all_on Q (x ∷ xs) ys a b = (a.0, all_on Q xs ys a.1 b)

  -- where none is shared, and where one is
  pub adds_unshared : (shared own : List Member) → length shared ≡ 0 → (old new : Breaches) → AddsGroup pass s (fields_of own) old new → AddsGroup pass s (fields_of (take 1 shared ++ own)) old new
  adds_unshared shared own e old new h = subst (λ (l : List Member). AddsGroup pass s (fields_of (take 1 l ++ own)) old new) (sym (empty_is shared e)) h

  pub adds_shared_first : (first : Member) (rest shared own : List Member) → shared ≡ first ∷ rest → (old new : Breaches) → AddsGroup pass s (fields_of (first ∷ own)) old new
      → AddsGroup pass s (fields_of (take 1 shared ++ own)) old new
  adds_shared_first first rest shared own is old new h = subst (λ (l : List Member). AddsGroup pass s (fields_of (take 1 l ++ own)) old new) (sym is) h

  -- ---- each of some lists

  each_one : (group : List (StandingField Place)) (added : List (Broken Place)) → TellsGroup pass s group added → TellsEach pass s (group ∷ []) added
  each_one group added t = record {
    right = λ fault c. (group, (Contains-first group [] group refl, t.right fault c));
    agree = λ e g c. subst (AgreeWithHead (Agree pass s)) (sym (only group g c)) (t.agree e);
  }

  each_more : (groups : List (List (StandingField Place))) (group : List (StandingField Place)) (a b : List (Broken Place)) → TellsEach pass s groups a → TellsGroup pass s group b → TellsEach pass s (groups ++ group ∷ []) (a ++ b)
  each_more groups group a b so_far here = record {
    right = λ fault c. elim (Contains-append_cases a b fault c) [
      | inl h ↦ let t = so_far.right fault h in (t.0, (Contains-append_left groups (group ∷ []) t.0 t.1.0, t.1.1))
      | inr h ↦ (group, (Contains-append_right groups (group ∷ []) group (Contains-first group [] group refl), here.right fault h))
    ];
    agree = λ e g c. elim (Contains-append_cases groups (group ∷ []) g c) [
      | inl h ↦ so_far.agree (left_empty a b e) g h
      | inr h ↦ subst (AgreeWithHead (Agree pass s)) (sym (only group g h)) (here.agree (right_empty a b e))
    ];
  }

  -- the list of shared fields, and the fields of each type after the first shared one
  abbrev pub with_first : List (StandingField Place) → List (List (StandingField Place)) → List (List (StandingField Place))
  with_first shared owns = shared ∷ map (λ l. take 1 shared ++ l) owns

  pub adds_shared : (shared : List (StandingField Place)) (old new : Breaches) → AddsGroup pass s shared old new → AddsEach pass s (with_first shared []) old new
  adds_shared shared old new (a, (is, p)) = (a, (is, each_one shared a p))

  pub adds_own : (shared own : List (StandingField Place)) (owns : List (List (StandingField Place))) (old mid new : Breaches) → AddsEach pass s (with_first shared owns) old mid → AddsGroup pass s (take 1 shared ++ own) mid new
      → AddsEach pass s (with_first shared (owns ++ own ∷ [])) old new
  adds_own shared own owns old mid new (a, (is, p)) (b, (is_too, q)) = (
    a ++ b,
    (
      is_too ∙ ap (λ l. l ++ b) is ∙ append_assoc (brokens_of old) a b,
      subst (λ l. TellsEach pass s (shared ∷ l) (a ++ b)) (sym (map-append (λ l. take 1 shared ++ l) owns (own ∷ []))) (each_more (with_first shared owns) (take 1 shared ++ own) a b p q),
    ),
  )

  agree_all : (shared own : List (StandingField Place)) → AgreeWithHead (Agree pass s) shared → AgreeWithHead (Agree pass s) (take 1 shared ++ own) → AgreeWithHead (Agree pass s) (shared ++ own)
  agree_all [] own a b = b
  agree_all (x ∷ xs) own a b = (a.0, all_on (Agree pass s x) xs own a.1 b.1)

  in_own : (shared own : List (StandingField Place)) (x : StandingField Place) → Contains (take 1 shared ++ own) x → Contains (shared ++ own) x
  in_own [] own x c = c
  in_own (y ∷ ys) own x c = elim (Contains-cons y own x c) [
    | inl e ↦ Contains-first y (ys ++ own) x e
    | inr r ↦ Contains-rest y (ys ++ own) x (Contains-append_right ys own x r)
  ]

  -- so are the whole parts
  whole_parts : (shared : List (StandingField Place)) (owns : List (List (StandingField Place))) (added : List (Broken Place)) → TellsEach pass s (with_first shared owns) added → TellsEach pass s (with_own shared owns) added
  whole_parts shared owns added t = record { right = right; agree = agree }
    where
      right : (fault : Broken Place) → Contains added fault → (group : List (StandingField Place)) × (Contains (with_own shared owns) group
          × ((f : StandingField Place) × ((g : StandingField Place) × (Contains group f × (Contains group g × Conflict pass s fault f g)))))
      right fault c =
          let r = t.right fault c in
          let f = r.1.1.0 in
          let g = r.1.1.1.0 in
          elim (Contains-cons shared (map (λ l. take 1 shared ++ l) owns) r.0 r.1.0) [
            | inl e ↦
                let part = part_of_shared shared owns in
                (part.0, (part.1.0, (f, (g, (part.1.1 f (subst (λ l. Contains l f) (sym e) r.1.1.1.1.0), (part.1.1 g (subst (λ l. Contains l g) (sym e) r.1.1.1.1.1.0), r.1.1.1.1.1.1))))))
            | inr m ↦
                let own = contains_unmap (λ l. take 1 shared ++ l) owns r.0 m in (
                  shared ++ own.0,
                  (
                    part_of_own shared owns own.0 own.1.0,
                    (f, (g, (in_own shared own.0 f (subst (λ l. Contains l f) (sym own.1.1) r.1.1.1.1.0), (in_own shared own.0 g (subst (λ l. Contains l g) (sym own.1.1) r.1.1.1.1.1.0), r.1.1.1.1.1.1)))),
                  ),
                )
          ]

      agree : added ≡ [] → (group : List (StandingField Place)) → Contains (with_own shared owns) group → AgreeWithHead (Agree pass s) group
      agree e group c =
          let first = t.agree e shared (Contains-first shared (map (λ l. take 1 shared ++ l) owns) shared refl) in
          elim (of_parts shared owns group c) [
            | inl is ↦ subst (AgreeWithHead (Agree pass s)) (sym is) first
            | inr (own, (there, is)) ↦
                subst (AgreeWithHead (Agree pass s)) (sym is) (agree_all shared own first
                (t.agree e (take 1 shared ++ own) (Contains-rest shared (map (λ l. take 1 shared ++ l) owns) (take 1 shared ++ own) (contains_map (λ l. take 1 shared ++ l) owns own there))))
          ]

  pub adds_parts : (shared : List (StandingField Place)) (owns : List (List (StandingField Place))) (old new : Breaches) → AddsEach pass s (with_first shared owns) old new → AddsEach pass s (with_own shared owns) old new
  adds_parts shared owns old new (a, (is, p)) = (a, (is, whole_parts shared owns a p))

one_fields : (shared own : List Member) → fields_of (take 1 shared ++ own) ≡ take 1 (fields_of shared) ++ fields_of own
one_fields [] own = refl
one_fields (x ∷ xs) own = refl

-- one type more, and all types
module _ (pass : Pass) (s : Judged) (shared : List Member) where
  pub own_step : (owns : List (Vec Member Global)) (i : ℕ) (x : Vec Member Global) → i < length owns → x ≡ get_or owns i x → (old mid new : Breaches)
      → AddsEach pass s (with_first pass s (fields_of shared) (map (λ o. fields_of o.items) (take i owns))) old mid → AddsGroup pass s (fields_of (take 1 shared ++ x.items)) mid new
      → AddsEach pass s (with_first pass s (fields_of shared) (map (λ o. fields_of o.items) (take (i + 1) owns))) old new
  own_step owns i x h e old mid new so_far here =
      subst (λ ls. AddsEach pass s (with_first pass s (fields_of shared) ls) old new) (sym (front_with (λ (o : Vec Member Global). fields_of o.items) owns i x h e))
      (adds_own pass s (fields_of shared) (fields_of x.items) (map (λ o. fields_of o.items) (take i owns)) old mid new so_far
      (subst (λ l. AddsGroup pass s l mid new) (one_fields shared x.items) here))

  pub all_parts : (owns : List (Vec Member Global)) (old new : Breaches) → AddsEach pass s (with_first pass s (fields_of shared) (map (λ o. fields_of o.items) owns)) old new
      → AddsEach pass s (map fields_of (with_own shared (map (λ o. o.items) owns))) old new
  all_parts owns old new h =
      subst (λ ls. AddsEach pass s ls old new) (sym (own_fields_parts shared owns)) (adds_parts pass s (fields_of shared) (map (λ o. fields_of o.items) owns) old new h)
