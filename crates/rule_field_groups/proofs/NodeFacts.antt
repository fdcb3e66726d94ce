-- What merging reads of a node's set: its own fields and the sets that it spreads are those of its members and of its spreads, and what
-- it selects comes from the nodes to which spreads lead.
use Rattle.std.proofs.Common.{◌≡◌, ◌↔◌, ◌∙◌, ℕ, ◌<◌, Bool, true, false, List, [], ◌∷◌, map, length, get_or, slice_get, Contains, refl, sym, ap, subst, arith, if◌then◌else◌}
use Rattle.std.specs.Prelude.{Option, None, Some, IsSome, option_map, find}
use Rattle.std.specs.Option.{option_map_or}
use Rattle.std.specs.Str.{bytes_eq}
use Rattle.std.proofs.lemmas.Option.{slice_get-get_or, slice_get_within}
use Rattle.graphql_names.specs.NameValue.{NameValue}
use Rattle.graphql_names.specs.Node.{content}
use Rattle.graphql_names.specs.Placed.{Place, Placed, node_tree}
use Rattle.graphql_names.specs.declared.node.Node.{Node}
use Rattle.schema_types.specs.TypeView.{name_text}
use Rattle.rule_selection_queries.specs.in_spec_document.MeantTree.{MeantSet, MeantFragment, MeantDocument, meant_of_set}
use Rattle.rule_field_sets.specs.in_reach.in_typed_operations.DocumentView.{meant_by_fragment}
use Rattle.rule_field_sets.specs.in_reach.in_typed_operations.TypedDocument.{TypedFragment, typed_fragment_tree}
use Rattle.rule_field_sets.specs.in_reach.in_typed_operations.declared.operation.Fragment.{Fragment}
use Rattle.document_typed_selections.specs.TypedTree.{TypedSet, typed_set_tree}
use Rattle.rule_selection_queries.specs.in_definitions.in_schema_types.Addresses.{under}
use Rattle.rule_selection_queries.proofs.in_definitions.Lists.{not_in_nil, Contains-first, only, mapped_some}
use Rattle.rule_selection_queries.specs.in_document_definitions.Selected.{InOperation, StandingField}
use Rattle.rule_selection_queries.specs.in_document_definitions.Reached.{Closed, first, next}
use Rattle.rule_selection_queries.specs.in_document_definitions.Written.{spreads_written}
use Rattle.rule_selection_queries.proofs.in_document_definitions.FieldsWritten.{fields_written, SpreadsSet, IsSetFrom, HasContent}
use Rattle.rule_selection_queries.specs.in_document_definitions.PlainFields.{IsSelected}
use Rattle.rule_selection_queries.specs.in_document_definitions.ReadFields.{ReadField, ReadSet, listed, fields_read, fields_in, spreads_in, field_read, list_read}
use Rattle.rule_selection_queries.proofs.in_document_definitions.Unplaced.{contains_map, contains_unmap, closed_map, closed_unmap}
use Rattle.rule_selection_queries.proofs.in_document_definitions.ReadFacts.{read_written}
use Rattle.rule_selection_queries.proofs.in_document_definitions.WrittenFacts.{written_from}
use Rattle.rule_field_sets.specs.in_reach.Fields.{meant_fragments}
use Rattle.rule_field_sets.specs.declared.field_sets.FieldSets.{FieldSets}
use Rattle.rule_field_sets.specs.declared.member.Member.{Member}
use Rattle.rule_field_sets.specs.declared.member.SetNode.{SetNode}
use Rattle.rule_field_sets.specs.Nodes.{typed_at, fields_at, names_at, AreSets, HasAllStarts, set_nodes, fragment_nodes, fragments_in}
use Rattle.rule_field_sets.specs.Read.{set_at, no_selections}
use Rattle.rule_field_sets.proofs.Meaning.{set_of_node}
use Rattle.rule_field_sets.proofs.Once.{inside}
use Rattle.rule_field_sets.proofs.Reading.{fields_as_written, spreads_as_written}
use Rattle.rule_field_groups.specs.Members.{field_of, content_of}
use Rattle.rule_field_groups.specs.NodeWalk.{SpreadsNode, IsNodeFrom}

-- ---- fragments by name

-- a fragment's name with its set, and the one of a name, as the nodes of fragments are told of
abbrev NamedSet : Type 0
NamedSet = List ℕ × TypedSet Place

abbrev fragment_named : List NamedSet → List ℕ → Option NamedSet
fragment_named fragments n = find (λ f. bytes_eq n f.0) fragments

abbrev fragment_set : Node Fragment → TypedSet Place
fragment_set n = typed_set_tree (content {A = Fragment} n).selection_set

abbrev meant_in : List (NameValue × Node Fragment) → List (List ℕ × MeantFragment Place)
meant_in es = map (λ (e : List ℕ × Placed Place (TypedFragment Place)). (e.0, meant_by_fragment e.1)) (map (λ (e : NameValue × Node Fragment). (name_text e.0, node_tree typed_fragment_tree e.1)) es)

abbrev sets_in : List (NameValue × Node Fragment) → List NamedSet
sets_in es = map (λ (e : NameValue × Node Fragment). (e.0.text, fragment_set e.1)) es

-- the set that is meant by a fragment's name
found_set : (n : List ℕ) (es : List (NameValue × Node Fragment)) → option_map (λ (f : MeantFragment Place). f.set) (under n (meant_in es)) ≡ option_map (λ (f : NamedSet). meant_of_set f.1) (fragment_named (sets_in es) n)
found_set n [] = refl
found_set n (e ∷ es) = by (bytes_eq n e.0.text) (found_set n es)
  where
    by : (b : Bool) → option_map (λ (f : MeantFragment Place). f.set) (under n (meant_in es)) ≡ option_map (λ (f : NamedSet). meant_of_set f.1) (fragment_named (sets_in es) n)
        → option_map (λ (f : MeantFragment Place). f.set) (option_map (λ (x : List ℕ × MeantFragment Place). x.1) (if b then Some (e.0.text, meant_by_fragment (node_tree typed_fragment_tree e.1)) else find (λ (x : List ℕ × MeantFragment Place). bytes_eq n x.0) (meant_in es)))
        ≡ option_map (λ (f : NamedSet). meant_of_set f.1) (if b then Some (e.0.text, fragment_set e.1) else fragment_named (sets_in es) n)
    by true rest = refl
    by false rest = rest

-- ---- what leads on from what leads here

module _ {X : Type 0} {Step : X → X → Type 0} where
  pub closed_from : (x y : X) → Closed (λ z. z ≡ x) Step y → (z : X) → Closed (λ z. z ≡ y) Step z → Closed (λ z. z ≡ x) Step z
  closed_from x y r z (first e) = subst (Closed (λ z. z ≡ x) Step) (sym e) r
  closed_from x y r z (next before step) = next (closed_from x y r _ before) step

module _ (w : FieldSets) (are : AreSets w) (starts : HasAllStarts w) where
  -- ---- the fields and the names of a node's set

  module _ (n : ℕ) (v : SetNode) (at : slice_get (set_nodes w) n ≡ Some v) where
    pub fields_of_node : fields_written (set_at w n) ≡ fields_at v.set.now
    fields_of_node = ap fields_written (set_of_node w n v at) ∙ sym (fields_as_written (typed_at v))

    pub names_of_node : spreads_written (set_at w n) ≡ names_at v.set.now
    names_of_node = ap spreads_written (set_of_node w n v at) ∙ sym (spreads_as_written (typed_at v))

    -- each member is one of its fields, and each of its fields is read as a member is
    pub member_written : (m : Member) → Contains v.members.items m → Contains (fields_written (set_at w n)) (field_of m)
    member_written m c = subst (λ l. Contains l (field_of m)) (sym fields_of_node) ((are.nodes n v at).members.within m c)

    pub written_member : (f : StandingField Place) → Contains (fields_written (set_at w n)) f → (m : Member) × (Contains v.members.items m × (content_of m ≡ field_read f))
    written_member f c = (are.nodes n v at).members.covers f (subst (λ l. Contains l f) fields_of_node c)

  -- a place without a node has a set without selections
  no_node : (n : ℕ) → slice_get (set_nodes w) n ≡ None → set_at w n ≡ no_selections
  no_node n at = ap (λ o. option_map_or (λ (u : SetNode). meant_of_set (typed_at u)) o no_selections) at

  -- so a set in which something is written is that of a node
  has_node : {X : Type 0} (n : ℕ) (given : MeantSet Place → List X) → given no_selections ≡ [] → (x : X) → Contains (given (set_at w n)) x → (v : SetNode) × (slice_get (set_nodes w) n ≡ Some v)
  has_node n given none x c = by (slice_get (set_nodes w) n) refl
    where
      by : (o : Option SetNode) → slice_get (set_nodes w) n ≡ o → (v : SetNode) × (slice_get (set_nodes w) n ≡ Some v)
      by None at = not_in_nil x (subst (λ l. Contains l x) (ap given (no_node n at) ∙ none) c)
      by (Some v) at = (v, at)

  -- ---- the fragments that it spreads

  -- the node of a fragment has its set
  start_set : (p m : ℕ) → slice_get (fragment_nodes w) p ≡ Some m → (f : NamedSet) → slice_get (fragments_in w) p ≡ Some f → set_at w m ≡ meant_of_set f.1
  start_set p m start f stands =
      let g = are.starts.each p m start in
      let same : g.0 ≡ f = inside g.0 f (sym g.1.0 ∙ stands) in
      let u = g.1.1 in
      set_of_node w m u.0 u.1.0 ∙ ap meant_of_set (u.1.1 ∙ ap (λ (h : NamedSet). h.1) same)

  -- each fragment has a node
  has_start : (p : ℕ) (f : NamedSet) → slice_get (fragments_in w) p ≡ Some f → (m : ℕ) × (slice_get (fragment_nodes w) p ≡ Some m)
  has_start p f stands =
      let within : p < length (fragments_in w) = slice_get_within (fragments_in w) p f stands in
      let here : p < length (fragment_nodes w) = omega (arith, within, starts) in
      (get_or (fragment_nodes w) p 0, slice_get-get_or (fragment_nodes w) p 0 here)

  module _ (d : MeantDocument Place) (same : meant_fragments w.fragments.now ≡ d.fragments) where
    set_named : (n : List ℕ) (f : NamedSet) → fragment_named (fragments_in w) n ≡ Some f → option_map (λ (g : MeantFragment Place). g.set) (under n d.fragments) ≡ Some (meant_of_set f.1)
    set_named n f named =
        ap (λ es. option_map (λ (g : MeantFragment Place). g.set) (under n es)) (sym same)
        ∙ (found_set n w.fragments.now.entries ∙ ap (option_map (λ (g : NamedSet). meant_of_set g.1)) named)

    named_set : (n : List ℕ) (t : MeantSet Place) → option_map (λ (g : MeantFragment Place). g.set) (under n d.fragments) ≡ Some t → (f : NamedSet) × ((fragment_named (fragments_in w) n ≡ Some f) × (meant_of_set f.1 ≡ t))
    named_set n t is =
        let back = sym (ap (λ es. option_map (λ (g : MeantFragment Place). g.set) (under n es)) (sym same) ∙ found_set n w.fragments.now.entries) ∙ is in
        let f = mapped_some (λ (g : NamedSet). meant_of_set g.1) (fragment_named (fragments_in w) n) t back in
        (f.0, (f.1.0, sym f.1.1))

    module _ (n : ℕ) (v : SetNode) (at : slice_get (set_nodes w) n ≡ Some v) where
      -- what is read of its own fields
      pub read_own : (x : ReadField) → Contains (fields_in (list_read (set_at w n))) x ↔ ((m : Member) × (Contains v.members.items m × (content_of m ≡ x)))
      read_own x =
          let all : listed (fields_read (set_at w n)) ≡ map field_read (fields_written (set_at w n)) = read_written (set_at w n) in (
            λ c.
                let f = contains_unmap field_read (fields_written (set_at w n)) x (subst (λ l. Contains l x) all c) in
                let m = written_member n v at f.0 f.1.0 in
                (m.0, (m.1.0, m.1.1 ∙ f.1.1)),
            λ h. subst (λ l. Contains l x) (sym all)
                (subst (Contains (map field_read (fields_written (set_at w n)))) h.1.1 (contains_map field_read (fields_written (set_at w n)) (field_of h.0) (member_written n v at h.0 h.1.0))),
          )

      -- the set of the fragment at a place that the node spreads is spread by its set, and each one that its set spreads is such
      place_spread : (p k : ℕ) → Contains v.spreads.items p → slice_get (fragment_nodes w) p ≡ Some k
          → (a : List ℕ) × (Contains (spreads_written (set_at w n)) a × (option_map (λ (g : MeantFragment Place). g.set) (under a d.fragments) ≡ Some (set_at w k)))
      place_spread p k c start =
          let a = (are.nodes n v at).spreads.within p c in
          let is = a.1.1 in (
            a.0,
            (
              subst (λ l. Contains l a.0) (sym (names_of_node n v at)) a.1.0,
              set_named a.0 is.fragment is.named ∙ ap (λ z. Some z) (sym (start_set p k start is.fragment is.stands)),
            ),
          )

      spread_place : (a : List ℕ) (t : MeantSet Place) → Contains (spreads_written (set_at w n)) a → option_map (λ (g : MeantFragment Place). g.set) (under a d.fragments) ≡ Some t
          → (p : ℕ) × (Contains v.spreads.items p × ((k : ℕ) × ((slice_get (fragment_nodes w) p ≡ Some k) × (set_at w k ≡ t))))
      spread_place a t c is =
          let f = named_set a t is in
          let p = (are.nodes n v at).spreads.covers a (subst (λ l. Contains l a) (names_of_node n v at) c) (subst IsSome (sym f.1.0) refl) in
          let its = p.1.1 in
          let g : its.fragment ≡ f.0 = inside its.fragment f.0 (sym its.named ∙ f.1.0) in
          let k = has_start p.0 its.fragment its.stands in
          (p.0, (p.1.0, (k.0, (k.1, start_set p.0 k.0 k.1 its.fragment its.stands ∙ (ap (λ (h : NamedSet). meant_of_set h.1) g ∙ f.1.1)))))

      -- what is read of the sets that it spreads
      pub read_spreads : (b : ReadSet) → ((a : List ℕ) × (Contains (spreads_in (list_read (set_at w n))) a × (option_map (λ (g : MeantFragment Place). list_read g.set) (under a d.fragments) ≡ Some b)))
          ↔ ((p : ℕ) × (Contains v.spreads.items p × ((k : ℕ) × ((slice_get (fragment_nodes w) p ≡ Some k) × (list_read (set_at w k) ≡ b)))))
      read_spreads b = (
        λ h.
            let f = mapped_some (λ (g : MeantFragment Place). list_read g.set) (under h.0 d.fragments) b h.1.1 in
            let p = spread_place h.0 f.0.set h.1.0 (ap (option_map (λ (g : MeantFragment Place). g.set)) f.1.0) in
            (p.0, (p.1.0, (p.1.1.0, (p.1.1.1.0, ap list_read p.1.1.1.1 ∙ sym f.1.1)))),
        λ h.
            let a = place_spread h.0 h.1.1.0 h.1.0 h.1.1.1.0 in
            let f = mapped_some (λ (g : MeantFragment Place). g.set) (under a.0 d.fragments) (set_at w h.1.1.0) a.1.1 in
            (a.0, (a.1.0, ap (option_map (λ (g : MeantFragment Place). list_read g.set)) f.1.0 ∙ ap (λ z. Some z) (ap list_read (sym f.1.1) ∙ h.1.1.1.1))),
      )

    -- ---- spreads lead from node to node as they do from set to set

    spreads_down : (n m : ℕ) → SpreadsNode w n m → SpreadsSet d.fragments (set_at w n) (set_at w m)
    spreads_down n m (v, (at, (p, (c, start)))) = place_spread n v at p m c start

    spreads_up : (n : ℕ) (t : MeantSet Place) → SpreadsSet d.fragments (set_at w n) t → (m : ℕ) × (SpreadsNode w n m × (set_at w m ≡ t))
    spreads_up n t (a, (c, is)) =
        let v = has_node n spreads_written refl a c in
        let p = spread_place n v.0 v.1 a t c is in
        (p.1.1.0, ((v.0, (v.1, (p.0, (p.1.0, p.1.1.1.0)))), p.1.1.1.1))

    from_down : (n m : ℕ) → IsNodeFrom w n m → IsSetFrom d.fragments (set_at w n) (set_at w m)
    from_down n m r = closed_map (set_at w) (λ k e. ap (set_at w) e) spreads_down m r

    from_up : (n : ℕ) (t : MeantSet Place) → IsSetFrom d.fragments (set_at w n) t → (m : ℕ) × (IsNodeFrom w n m × (set_at w m ≡ t))
    from_up n t r = closed_unmap (set_at w) (λ s e. (n, (refl, sym e))) spreads_up t r

    -- ---- what it selects

    -- the members of the nodes to which spreads lead are selected
    pub selected_from : (n m : ℕ) (u : SetNode) (x : Member) → IsNodeFrom w n m → slice_get (set_nodes w) m ≡ Some u → Contains u.members.items x → IsSelected d (set_at w n ∷ []) (field_of x)
    selected_from n m u x r at c =
        (set_at w n, (Contains-first (set_at w n) [] (set_at w n) refl, (written_from d (InOperation None) (set_at w n) (field_of x)).1 (set_at w m, (from_down n m r, member_written m u at x c))))

    -- and what is selected is read as one of them
    pub selects_from : (n : ℕ) (x : StandingField Place) → IsSelected d (set_at w n ∷ []) x
        → (m : ℕ) × ((u : SetNode) × ((y : Member) × (IsNodeFrom w n m × ((slice_get (set_nodes w) m ≡ Some u) × (Contains u.members.items y × (content_of y ≡ field_read x))))))
    selects_from n x (s, (c, has)) =
        let t = (written_from d (InOperation None) (set_at w n) x).0 (subst (λ z. HasContent d (InOperation None) z x) (only (set_at w n) s c) has) in
        let m = from_up n t.0 t.1.0 in
        let here = subst (λ z. Contains (fields_written z) x) (sym m.1.1) t.1.1 in
        let u = has_node m.0 fields_written refl x here in
        let y = written_member m.0 u.0 u.1 x here in
        (m.0, (u.0, (y.0, (m.1.0, (u.1, (y.1.0, y.1.1))))))

    -- it is selected by any sets of which that one is
    pub selected_among : (sets : List (MeantSet Place)) (n : ℕ) (x : StandingField Place) → Contains sets (set_at w n) → IsSelected d (set_at w n ∷ []) x → IsSelected d sets x
    selected_among sets n x c (s, (i, has)) = (s, (subst (Contains sets) (sym (only (set_at w n) s i)) c, has))

    -- the set of a node selects each of its members
    pub member_selected : (n : ℕ) (v : SetNode) → slice_get (set_nodes w) n ≡ Some v → (m : Member) → Contains v.members.items m → IsSelected d (set_at w n ∷ []) (field_of m)
    member_selected n v at m c = selected_from n n v m (first refl) at c

    -- what the set of a fragment that it spreads selects, it selects
    pub spread_selects : (n k : ℕ) → SpreadsNode w n k → (x : StandingField Place) → IsSelected d (set_at w k ∷ []) x → IsSelected d (set_at w n ∷ []) x
    spread_selects n k leads x (s, (c, has)) =
        let t = (written_from d (InOperation None) (set_at w k) x).0 (subst (λ z. HasContent d (InOperation None) z x) (only (set_at w k) s c) has) in
        let m = from_up k t.0 t.1.0 in
        let r = closed_from n k (next (first refl) leads) m.0 m.1.0 in (
          set_at w n,
          (
            Contains-first (set_at w n) [] (set_at w n) refl,
            (written_from d (InOperation None) (set_at w n) x).1 (set_at w m.0, (from_down n m.0 r, subst (λ z. Contains (fields_written z) x) (sym m.1.1) t.1.1)),
          ),
        )
