-- Labels of `@defer`: those of a document in order, and what is told of one after another.
use Rattle.std.proofs.Common.{◌≡◌, ◌↔◌, ◌<◌, ◌+◌, ℕ, suc, Bool, true, false, List, [], ◌∷◌, ◌++◌, take, length, get_or, find, codes, bytes_eq, Option, None, Some, refl, sym, ap, subst, ◌∙◌, inl, inr, append-nil, if◌then◌else◌, cond, Contains}
use Rattle.std.specs.Prelude.{String, option_to_list}
use Rattle.std.specs.HashMap.{Updates}
use Rattle.std.specs.String.{string_bytes, string_eq}
use Rattle.std.specs.List.{flat_map, filter, filter_map, cons_option}
use Rattle.std.specs.Map.{values_of}
use Rattle.std.specs.Option.{option_map, option_map_or, option_or}
use Rattle.std.proofs.lemmas.Grind.{flat_map-append}
use Rattle.std.proofs.lemmas.List.Elements.{filter_map-append, Contains-append_left, Contains-append_right, Contains-append_cases}
use Rattle.std.proofs.lemmas.Map.Text.{hash_map_updates_text}
use Rattle.std.proofs.lemmas.Slice.Eq.{bytes_eq-Decides}
use Rattle.indexmap.specs.IndexMap.{IndexMap, get_by_text}
use Rattle.graphql_names.specs.Placed.{Placed, Place, Text, node_tree}
use Rattle.graphql_names.specs.declared.node.Node.{Node}
use Rattle.tree_literals.specs.ValueTree.{ValueTree, value_tree}
use Rattle.tree_literals.specs.ValueQueries.{variable_name, string_text}
use Rattle.tree_literals.specs.declared.value.Value.{Value}
use Rattle.tree_directives.specs.DirectiveTree.{DirectiveTree, Directives}
use Rattle.tree_directives.specs.DirectiveQueries.{given_value}
use Rattle.schema_components.specs.Lists.{each_place_after, each_place}
use Rattle.schema_components.proofs.Places.{found_at, given_at, found_among, given_among}
use Rattle.spec_document.specs.MeantTree.{MeantSelection, MeantField, MeantSpread, MeantInline, MeantSet, meant_set, MeantSelections, no_meant, meant_then, MeantOperation, MeantFragment, MeantDocument}
use Rattle.document_typed_operations.specs.declared.document.ExecutableDocument.{ExecutableDocument}
use Rattle.rule_selection_queries.specs.in_reach.in_typed_operations.DocumentView.{document_meant}
use Rattle.fault_document_errors.specs.DocumentBreaches.{DeferLabelMustNotBeVariable, DuplicateDeferLabel}
use Rattle.rule_definitions.specs.Words.{Present, AtSomeIndex, FirstNamed, Repeats}
use Rattle.rule_document_definitions.specs.DocumentFaults.{Broken, broken}
use Rattle.rule_document_definitions.specs.Selected.{Position, InOperation, InFragment, SelectionAt, Standing, all_in, all_from, all_below, all_selections, operation_name, operations, fragments, selection_directives}
use Rattle.rule_document_definitions.specs.DeferUses.{defers, labels, string_labels}
use Rattle.rule_document_definitions.specs.Defer.{LabelsBreak}
use Rattle.rule_definitions.proofs.Firsts.{earlier_is_found}
use Rattle.rule_definitions.proofs.Listing.{Lists, lists_same, lists_both, lists_one, lists_present, lists_index, lists_places, mapped_more}
use Rattle.rule_definitions.specs.Room.{◌⊕◌}
use Rattle.rule_definitions.proofs.Room.{room_both}
use Rattle.rule_definitions.proofs.Adding.{places_more}
use Rattle.rule_selection_queries.specs.Inside.{contents_along, contents_below}
use Rattle.rule_fragments.specs.Labels.{values_meant, label_of, labels_of, labels_in, text_label, string_label, variable_label, label_again, first_place, duplicate_label, label_breaks, AreFirstPlaces, NotesFirst, NotesLabel, told_again}
use Rattle.rule_selection_queries.specs.Stays.{is_directive, all_stay}
use Rattle.rule_fragments.specs.Rooted.{operation_set, fragment_set, alone_told}
use Rattle.rule_selection_queries.proofs.Sets.{flat_map-flat_map}
use Rattle.rule_fragments.proofs.DocumentSets.{document_told}

-- what is given of some elements, piece by piece
pieces : {X Y : Type 0} (h : X → Option Y) (xs : List X) → filter_map h xs ≡ flat_map (λ x. option_to_list (h x)) xs
pieces h [] = refl
pieces {X} {Y} h (x ∷ xs) = by (h x) ∙ ap (λ l. option_to_list (h x) ++ l) (pieces h xs)
  where
    by : (o : Option Y) → cons_option o (filter_map h xs) ≡ option_to_list o ++ filter_map h xs
    by None = refl
    by (Some y) = refl

-- ---- the labels of a document

module _ {P : Type 0} where
  abbrev given : Placed P (DirectiveTree P) → Option (Placed P (ValueTree P))
  given e = given_value (codes "label") e.it.arguments

  -- of some directives
  of_directives : (ds : Directives P) → filter_map given (filter (is_directive (codes "defer")) ds) ≡ flat_map label_of ds
  of_directives [] = refl
  of_directives (e ∷ ds) = by (is_directive (codes "defer") e) (of_directives ds)
    where
      added : (o : Option (Placed P (ValueTree P))) (l : List (Placed P (ValueTree P))) → cons_option o l ≡ option_to_list o ++ l
      added None l = refl
      added (Some v) l = refl

      by : (b : Bool) → filter_map given (filter (is_directive (codes "defer")) ds) ≡ flat_map label_of ds
          → filter_map given (cond b (e ∷ filter (is_directive (codes "defer")) ds) (filter (is_directive (codes "defer")) ds)) ≡ (if b then option_to_list (given e) else []) ++ flat_map label_of ds
      by true rest = added (given e) (filter_map given (filter (is_directive (codes "defer")) ds)) ∙ ap (λ l. option_to_list (given e) ++ l) rest
      by false rest = rest

  abbrev labels_there : Standing P → List (Placed P (ValueTree P))
  labels_there x = labels_of x.it

  of_selections : (xs : List (Standing P)) → filter_map given (flat_map defers xs) ≡ flat_map labels_there xs
  of_selections [] = refl
  of_selections (x ∷ xs) = filter_map-append given (defers x) (flat_map defers xs) ∙ (λ i. of_directives (selection_directives x.it) i ++ of_selections xs i)

  -- at all in a set
  mutual
    in_set : (h : Position) (s : MeantSet P) → flat_map labels_there (all_in h s) ≡ labels_in s
    in_set h (meant_set t ss) = in_all h t 0 ss

    in_all : (h : Position) (t : List ℕ) (i : ℕ) (ss : MeantSelections P) → flat_map labels_there (all_from h t i ss) ≡ flat_map labels_of (contents_along true all_stay ss)
    in_all h t i no_meant = refl
    in_all h t i (meant_then s ss) =
        ap (λ l. labels_of s ++ l)
        (flat_map-append labels_there (all_below (SelectionAt h i) s) (all_from h t (suc i) ss) ∙ (λ k. in_below (SelectionAt h i) s k ++ in_all h t (suc i) ss k)
        ∙ sym (flat_map-append labels_of (contents_below true all_stay s) (contents_along true all_stay ss)))

    in_below : (at : Position) (s : MeantSelection P) → flat_map labels_there (all_below at s) ≡ flat_map labels_of (contents_below true all_stay s)
    in_below at (MeantField p d h s) = in_set at s
    in_below at (MeantSpread p n ds) = refl
    in_below at (MeantInline p c ds s) = in_set at s

  abbrev in_operation : MeantOperation P → List (Standing P)
  in_operation o = all_in (InOperation (operation_name o)) o.set

  abbrev in_fragment : MeantFragment P → List (Standing P)
  in_fragment f = all_in (InFragment f.name.it) f.set

  in_document : (d : MeantDocument P) → labels d ≡ flat_map (λ (o : MeantOperation P). labels_in o.set) (operations d) ++ flat_map (λ (f : MeantFragment P). labels_in f.set) (fragments d)
  in_document d =
      of_selections (all_selections d) ∙ flat_map-append labels_there (flat_map in_operation (operations d)) (flat_map in_fragment (fragments d))
      ∙ (λ i. flat_map-flat_map labels_there in_operation (operations d) i ++ flat_map-flat_map labels_there in_fragment (fragments d) i)
      ∙ (λ i. flat_map (λ (o : MeantOperation P). in_set (InOperation (operation_name o)) o.set i) (operations d) ++ flat_map (λ (f : MeantFragment P). in_set (InFragment f.name.it) f.set i) (fragments d))

-- of its operations, and then of its fragments
pub labels_are : (d : ExecutableDocument) → labels (document_meant d)
    ≡ (alone_told labels_in d.operations.anonymous ++ flat_map (λ n. labels_in (operation_set n)) (values_of d.operations.named.entries)) ++ flat_map (λ n. labels_in (fragment_set n)) (values_of d.fragments.entries)
labels_are d = in_document (document_meant d) ∙ document_told labels_in d

-- ---- what is told of labels

module _ {P : Type 0} where
  abbrev text_of : Text P → List ℕ
  text_of t = t.it

  -- of texts
  abbrev text_again : List (Text P) → Text P → List (Broken P)
  text_again before t = label_again t.place t.it (first_place before t.it)

  abbrev strings : P → Option (List ℕ) → List (Text P)
  strings place o = option_to_list (option_map (λ t. record { it = t; place = place }) o)

  by_texts : (before vs : List (Placed P (ValueTree P))) → each_place_after duplicate_label before vs ≡ each_place_after text_again (flat_map string_label before) (flat_map string_label vs)
  by_texts before [] = refl
  by_texts before (v ∷ vs) =
      by (string_text v.it)
      (by_texts (before ++ v ∷ []) vs ∙ ap (λ b. each_place_after text_again b rest) (flat_map-append string_label before (v ∷ []) ∙ ap (λ l. front ++ l) (append-nil (string_label v))))
    where
      front : List (Text P)
      front = flat_map string_label before

      rest : List (Text P)
      rest = flat_map string_label vs

      further : List (Broken P)
      further = each_place_after duplicate_label (before ++ v ∷ []) vs

      by : (o : Option (List ℕ)) → further ≡ each_place_after text_again (front ++ strings v.place o) rest
          → option_map_or (λ t. label_again v.place t (first_place front t)) o [] ++ further ≡ each_place_after text_again front (strings v.place o ++ rest)
      by None e = e ∙ ap (λ b. each_place_after text_again b rest) (append-nil front)
      by (Some t) e = ap (λ l. label_again v.place t (first_place front t) ++ l) e

  abbrev told_twice : Text P → Text P → Broken P
  told_twice first later = broken later.place (DuplicateDeferLabel later.it first.place)

  again_found : (later : Text P) (o : Option (Text P)) → label_again later.place later.it (option_map (λ t. t.place) o) ≡ option_map_or (λ first. told_twice first later ∷ []) o []
  again_found later None = refl
  again_found later (Some t) = refl

  lists_again : (ts : List (Text P)) → Lists (each_place text_again ts) (λ f. Repeats text_of ts (λ i first j later. f ≡ told_twice first later))
  lists_again ts =
      lists_places text_again ts
      (λ j later f. FirstNamed text_of ts later.it (λ i first. (i < j) × (f ≡ told_twice first later)))
      (λ j later there. lists_same (text_again (take j ts) later)
      (λ f. let found = earlier_is_found text_of ts later.it j (λ first. f ≡ told_twice first later) in (found.1, found.0))
      (subst (λ l. Lists l (λ f. Present (find (λ (t : Text P). bytes_eq t.it later.it) (take j ts)) (λ first. f ≡ told_twice first later)))
      (sym (again_found later (find (λ (t : Text P). bytes_eq t.it later.it) (take j ts))))
      (lists_present (find (λ (t : Text P). bytes_eq t.it later.it) (take j ts)) (λ first. told_twice first later ∷ []) (λ first f. f ≡ told_twice first later) (λ first e. lists_one (told_twice first later)))))

  abbrev told_variable : Placed P (ValueTree P) → Broken P
  told_variable v = broken v.place DeferLabelMustNotBeVariable

  lists_variables : (vs : List (Placed P (ValueTree P))) → Lists (flat_map variable_label vs) (λ f. AtSomeIndex vs (λ i v. Present (variable_name v.it) (λ n. f ≡ told_variable v)))
  lists_variables vs =
      lists_index vs variable_label (λ i v f. Present (variable_name v.it) (λ n. f ≡ told_variable v))
      (λ i v e. lists_present (variable_name v.it) (λ n. told_variable v ∷ []) (λ n f. f ≡ told_variable v) (λ n q. lists_one (told_variable v)))

  -- the two rules apart
  apart : (vs : List (Placed P (ValueTree P))) (f : Broken P) → Contains (flat_map variable_label vs ++ each_place duplicate_label vs) f ↔ Contains (each_place label_breaks vs) f
  apart vs f = (
    λ c. elim (Contains-append_cases (flat_map variable_label vs) (each_place duplicate_label vs) f c) [
      | inl a ↦ let p = found_among variable_label vs f a in
          given_at label_breaks vs f (p.0, (p.1.0, (p.1.1.0, Contains-append_left (variable_label p.1.0) (duplicate_label p.0 p.1.0) f p.1.1.1)))
      | inr b ↦ let p = found_at duplicate_label vs f b in
          given_at label_breaks vs f (p.0, (p.1.0, (p.1.1.0, Contains-append_right (variable_label p.1.0) (duplicate_label p.0 p.1.0) f p.1.1.1)))
    ],
    λ c. let p = found_at label_breaks vs f c in
        elim (Contains-append_cases (variable_label p.1.0) (duplicate_label p.0 p.1.0) f p.1.1.1) [
          | inl a ↦ Contains-append_left (flat_map variable_label vs) (each_place duplicate_label vs) f (given_among variable_label vs f (p.0, (p.1.0, (p.1.1.0, a))))
          | inr b ↦ Contains-append_right (flat_map variable_label vs) (each_place duplicate_label vs) f (given_at duplicate_label vs f (p.0, (p.1.0, (p.1.1.0, b))))
        ],
  )

  strings_are : (d : MeantDocument P) → string_labels d ≡ flat_map string_label (labels d)
  strings_are d = pieces text_label (labels d)

  lists_labels : (d : MeantDocument P) → Lists (each_place label_breaks (labels d)) (LabelsBreak d)
  lists_labels d f =
      let vs = labels d in
      let two = lists_both (flat_map variable_label vs) (each_place duplicate_label vs) (lists_variables vs)
      (subst (λ l. Lists l (λ f. Repeats text_of (string_labels d) (λ i first j later. f ≡ told_twice first later))) (sym (by_texts [] vs ∙ ap (each_place text_again) (sym (strings_are d)))) (lists_again (string_labels d))) f in
      let same = apart vs f in
      (λ c. two.0 (same.1 c), λ r. same.0 (two.1 r))

  -- of the labels of a document
  pub labels_told : (d : MeantDocument P) (vs : List (Placed P (ValueTree P))) → vs ≡ labels d → (fault : Broken P) → Contains (each_place label_breaks vs) fault ↔ LabelsBreak d fault
  labels_told d vs e fault = subst (λ l. Contains (each_place label_breaks l) fault ↔ LabelsBreak d fault) (sym e) (lists_labels d fault)

-- ---- first places

or_none : {X : Type 0} (o : Option X) → option_or o None ≡ o
or_none None = refl
or_none (Some x) = refl

module _ {P : Type 0} where
  first_push : (text : List ℕ) (ts : List (Text P)) (t : Text P) → first_place (ts ++ t ∷ []) text ≡ option_or (first_place ts text) (if bytes_eq t.it text then Some t.place else None)
  first_push text [] t = by (bytes_eq t.it text)
    where
      by : (b : Bool) → option_map (λ (u : Text P). u.place) (if b then Some t else None) ≡ (if b then Some t.place else None)
      by true = refl
      by false = refl
  first_push text (u ∷ ts) t = by (bytes_eq u.it text) (first_push text ts t)
    where
      by : (b : Bool) → first_place (ts ++ t ∷ []) text ≡ option_or (first_place ts text) (if bytes_eq t.it text then Some t.place else None)
          → option_map (λ (u : Text P). u.place) (if b then Some u else find (λ u. bytes_eq u.it text) (ts ++ t ∷ []))
          ≡ option_or (option_map (λ (u : Text P). u.place) (if b then Some u else find (λ u. bytes_eq u.it text) ts)) (if bytes_eq t.it text then Some t.place else None)
      by true rest = refl
      by false rest = rest

  module _ {S Y : Type 0} where
    -- a text whose place is noted
    pub stays_noted : (places : IndexMap (String Y) P S) (text : List ℕ) (place first : P) → Some first ≡ get_by_text places text → NotesFirst places places text place
    stays_noted places text place first e t = by (bytes_eq text t) refl
      where
        by : (b : Bool) → bytes_eq text t ≡ b → get_by_text places t ≡ option_or (get_by_text places t) (if b then Some place else None)
        by true is =
            let here : Some first ≡ get_by_text places t = e ∙ ap (get_by_text places) ((bytes_eq-Decides text t).0 is) in
            sym here ∙ ap (λ o. option_or o (Some place)) here
        by false is = sym (or_none (get_by_text places t))

    -- a new text
    pub notes_new : (old new : IndexMap (String Y) P S) (key : String Y) (text : List ℕ) (place : P) → string_bytes key ≡ text → None ≡ get_by_text old text → Updates string_eq old new key (Some place) → NotesFirst old new text place
    notes_new old new key text place is none updates t =
        hash_map_updates_text (string_bytes key) old new (Some place) updates t ∙ ap (λ k. cond (bytes_eq k t) (Some place) (get_by_text old t)) is ∙ by (bytes_eq text t) refl
      where
        by : (b : Bool) → bytes_eq text t ≡ b → cond b (Some place) (get_by_text old t) ≡ option_or (get_by_text old t) (if b then Some place else None)
        by true is = ap (λ o. option_or o (Some place)) (none ∙ ap (get_by_text old) ((bytes_eq-Decides text t).0 is))
        by false is = sym (or_none (get_by_text old t))

    -- ---- of a label

    abbrev again_at : IndexMap (String Y) P S → P → Option (List ℕ) → List (Broken P)
    again_at places place o = option_map_or (λ t. label_again place t (get_by_text places t)) o []

    -- that is no string
    pub none_again : (places : IndexMap (String Y) P S) (v : Placed P (ValueTree P)) (old : List (Broken P)) → None ≡ string_text v.it → old ≡ old ⊕ told_again places v
    none_again places v old e = ap (λ o. old ⊕ again_at places v.place o) e

    pub none_noted : (places : IndexMap (String Y) P S) (v : Placed P (ValueTree P)) → None ≡ string_text v.it → NotesLabel places places v
    none_noted places v e ts are = subst (AreFirstPlaces places) (sym (append-nil ts) ∙ ap (λ o. ts ++ strings v.place o) e) are

    -- that is one
    pub some_again : (places : IndexMap (String Y) P S) (v : Placed P (ValueTree P)) (text : List ℕ) (place : P) (first : Option P) (old new told : List (Broken P)) → Some text ≡ string_text v.it → place ≡ v.place
        → first ≡ get_by_text places text → told ≡ label_again place text first → new ≡ old ⊕ told → new ≡ old ⊕ told_again places v
    some_again places v text place first old new told e at is tells step =
        step ∙ ap (λ l. old ⊕ l) (tells ∙ (λ i. label_again (at i) text (is i)) ∙ ap (again_at places v.place) e)

    pub some_noted : (old new : IndexMap (String Y) P S) (v : Placed P (ValueTree P)) (text : List ℕ) (place : P) → Some text ≡ string_text v.it → place ≡ v.place → NotesFirst old new text place → NotesLabel old new v
    some_noted old new v text place e at notes ts are =
        let t : Text P = record { it = text; place = place } in
        subst (AreFirstPlaces new) (ap (λ p. ts ++ strings p (Some text)) at ∙ ap (λ o. ts ++ strings v.place o) e)
        (λ q. notes q ∙ ap (λ o. option_or o (if bytes_eq text q then Some place else None)) (are q) ∙ sym (first_push q ts t))

-- ---- along the labels

module _ {S Y : Type 0} (xs : List (Node Value)) (i : ℕ) (x : Node Value) (h : i < length xs) (e : x ≡ get_or xs i x) where
  pub told_next : (places : IndexMap (String Y) Place S) (old now mid new : List (Broken Place)) → now ≡ old ⊕ each_place label_breaks (values_meant (take i xs)) → AreFirstPlaces places (flat_map string_label (values_meant (take i xs)))
      → mid ≡ now ⊕ variable_label (node_tree value_tree x) → new ≡ mid ⊕ told_again places (node_tree value_tree x) → new ≡ old ⊕ each_place label_breaks (values_meant (take (i + 1) xs))
  told_next places old now mid new so_far are one two =
      let v = node_tree value_tree x in
      let before = values_meant (take i xs) in
      places_more (node_tree value_tree) label_breaks old now new (variable_label v ++ told_again places v) xs i x h e so_far
      (two ∙ ap (λ l. l ⊕ told_again places v) one ∙ room_both now (variable_label v) (told_again places v))
      (ap (λ l. variable_label v ++ l) (λ k. option_map_or (λ t. label_again v.place t (are t k)) (string_text v.it) []))

  pub noted_next : (old new : IndexMap (String Y) Place S) → AreFirstPlaces old (flat_map string_label (values_meant (take i xs))) → NotesLabel old new (node_tree value_tree x) → AreFirstPlaces new (flat_map string_label (values_meant (take (i + 1) xs)))
  noted_next old new are notes =
      let v = node_tree value_tree x in
      let before = values_meant (take i xs) in
      subst (AreFirstPlaces new)
      (sym (ap (flat_map string_label) (mapped_more (node_tree value_tree) xs i x h e) ∙ flat_map-append string_label before (v ∷ []) ∙ ap (λ l. flat_map string_label before ++ l) (append-nil (string_label v))))
      (notes (flat_map string_label before) are)
