-- What is reached in a typed document, or in a typed field set, is typed by its place.
use Rattle.std.proofs.Common.{◌≡◌, ℕ, suc, List, map, refl, sym, ap, subst, inl, inr, Option, Some, None, Contains, true≢false, is_some}
use Rattle.std.specs.List.{cons_option}
use Rattle.std.proofs.lemmas.Option.{same_Some}
use Rattle.schema_components.proofs.Places.{not_in_nil, only, Contains-cons}
use Rattle.rule_document_definitions.specs.in_spec_document.MeantTree.{MeantSelection, MeantField, MeantSpread, MeantInline, MeantSet, meant_set, MeantSelections, no_meant, meant_then, MeantOperation, MeantFragment, MeantDocument}
use Rattle.document_typing.specs.Meanings.{Meanings, inner_type}
use Rattle.document_typing.specs.TypedByPlace.{IsTyped, IsSetOn, AreTyped, IsOnRoot, IsOnCondition, IsTypedDocument}
use Rattle.rule_document_definitions.specs.Selected.{Position, InFragment, SelectionAt, Standing, StandingField, stand, standing_in, operations, fragment_named, own}
use Rattle.rule_document_definitions.specs.Reached.{Closed, first, next, LeadsInto, Reached}
use Rattle.rule_document_definitions.specs.FieldSets.{document_of_set}
use Rattle.rule_definitions.proofs.Lookups.{under_given}
use Rattle.rule_document_definitions.proofs.Unplaced.{contains_unmap}

module _ {P : Type 0} (m : Meanings) where
  -- it is typed where it stands
  abbrev pub IsTypedThere : Standing P → Type 0
  IsTypedThere x = IsTyped m x.parent x.it

  typed_in_all : (q : Position) (t : List ℕ) (i : ℕ) (ss : MeantSelections P) → AreTyped m t ss → (x : Standing P) → Contains (stand q t i ss) x → IsTypedThere x
  typed_in_all q t i no_meant h x c = absurd (not_in_nil x c)
  typed_in_all q t i (meant_then s ss) h x c = elim (Contains-cons (record { position = SelectionAt q i; parent = t; it = s }) (stand q t (suc i) ss) x c) [
    | inl e ↦ subst IsTypedThere e h.0
    | inr r ↦ typed_in_all q t (suc i) ss h.1 x r
  ]

  -- a selection of a set
  pub typed_in_set : (q : Position) (t : List ℕ) (s : MeantSet P) → IsSetOn m t s → (x : Standing P) → Contains (standing_in q s) x → IsTypedThere x
  typed_in_set q t (meant_set u ss) (e, h) x c = typed_in_all q u 0 ss (subst (λ v. AreTyped m v ss) (sym e) h) x c

  module _ (d : MeantDocument P) (conditions : (n : List ℕ) (f : MeantFragment P) → fragment_named d n ≡ Some f → IsOnCondition m f) where
    typed_next : (q : Position) (n : List ℕ) (s : MeantSelection P) (y : Standing P) → IsTyped m n s → LeadsInto d (record { position = q; parent = n; it = s }) y → IsTypedThere y
    typed_next q n (MeantField p df h v) y typed (inl (f, (is, c))) =
        let field : StandingField P = record { position = q; parent = n; place = p; definition = df; head = h; set = v } in
        typed_in_set q (inner_type df) v typed.1.0 y (subst (λ (g : StandingField P). Contains (standing_in g.position g.set) y) (sym (same_Some field f is)) c)
    typed_next q n (MeantField p df h v) y typed (inr (inl c)) = absurd (not_in_nil y c)
    typed_next q n (MeantField p df h v) y typed (inr (inr (k, (is, c)))) = absurd (true≢false (sym (ap is_some is)))
    typed_next q n (MeantSpread p k ds) y typed (inl (f, (is, c))) = absurd (true≢false (sym (ap is_some is)))
    typed_next q n (MeantSpread p k ds) y typed (inr (inl c)) = absurd (not_in_nil y c)
    typed_next q n (MeantSpread p k ds) y typed (inr (inr (k', (is, (f, (named, c)))))) = typed_in_set (InFragment f.name.it) f.type_condition.it f.set (conditions k' f named).1 y c
    typed_next q n (MeantInline p None ds v) y typed (inr (inl c)) = typed_in_set q n v typed y c
    typed_next q n (MeantInline p (Some t) ds v) y typed (inr (inl c)) = typed_in_set q t.it v typed.1 y c
    typed_next q n (MeantInline p o ds v) y typed (inl (f, (is, c))) = absurd (true≢false (sym (ap is_some is)))
    typed_next q n (MeantInline p o ds v) y typed (inr (inr (k, (is, c)))) = absurd (true≢false (sym (ap is_some is)))

    -- what is reached from typed selections
    pub typed_from : (start : List (Standing P)) → ((x : Standing P) → Contains start x → IsTypedThere x) → (x : Standing P) → Closed (Contains start) (LeadsInto d) x → IsTypedThere x
    typed_from start typed x (first c) = typed x c
    typed_from start typed y (next {x} r leads) = typed_next x.position x.parent x.it y (typed_from start typed x r) leads

  -- ---- in a document

  module _ (d : MeantDocument P) (typed : IsTypedDocument m d) where
    -- its fragments, under their own names
    pub typed_fragment : (n : List ℕ) (f : MeantFragment P) → fragment_named d n ≡ Some f → (f.name.it ≡ n) × IsOnCondition m f
    typed_fragment n f is = let t = typed.fragments (n, f) (under_given n d.fragments f is) in (sym t.0, t.1)

    on_root : (o : MeantOperation P) → Contains (operations d) o → IsOnRoot m o
    on_root o c = by d.anonymous refl c
      where
        named : Contains (map (λ e. e.1) d.named) o → IsOnRoot m o
        named k = let e = contains_unmap (λ e. e.1) d.named o k in subst (IsOnRoot m) e.1.1 (typed.named e.0 e.1.0).1.1

        by : (a : Option (MeantOperation P)) → d.anonymous ≡ a → Contains (cons_option a (map (λ e. e.1) d.named)) o → IsOnRoot m o
        by None is k = named k
        by (Some a) is k = elim (Contains-cons a (map (λ e. e.1) d.named) o k) [
          | inl e ↦ subst (IsOnRoot m) e (typed.anonymous a is).1
          | inr r ↦ named r
        ]

    -- what an operation reaches, by itself and as a member of its list
    pub typed_reached : (o : MeantOperation P) → Contains (operations d) o → (x : Standing P) → Reached d o x → IsTypedThere x
    typed_reached o c =
        let root = on_root o c in
        typed_from d (λ n f is. (typed_fragment n f is).1) (own o) (typed_in_set _ root.0 o.set root.1.1)

  -- ---- in a field set

  pub typed_in_field_set : (place : P) (t : List ℕ) (set : MeantSet P) → IsSetOn m t set → (o : MeantOperation P) → Contains (operations (document_of_set place set)) o → (x : Standing P) → Reached (document_of_set place set) o x → IsTypedThere x
  typed_in_field_set place t set typed o c =
      typed_from (document_of_set place set) (λ n f is. absurd (true≢false (sym (ap is_some is)))) (own o)
      (typed_in_set _ t o.set (subst (λ (a : MeantOperation P). IsSetOn m t a.set) (sym (only _ o c)) typed))
