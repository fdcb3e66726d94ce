-- What some sets select, all of it, is compared two by two: so these sets are left no more.
use Rattle.std.proofs.Common.{◌≡◌, ◌∙◌, List, [], ◌∷◌, ◌++◌, Contains, refl, sym, ap, subst, inl, inr}
use Rattle.std.proofs.lemmas.List.Elements.{Contains-append_left, Contains-append_right}
use Rattle.graphql_names.specs.Placed.{Place}
use Rattle.rule_field_groups.proofs.in_definitions.Lists.{only, Contains-cons, Contains-first}
use Rattle.rule_field_groups.specs.in_spec_document.MeantTree.{MeantOperation, MeantDocument}
use Rattle.rule_field_groups.specs.in_definitions.Judged.{Judged}
use Rattle.rule_field_groups.specs.in_document_definitions.DocumentFaults.{Broken}
use Rattle.rule_field_groups.specs.in_document_definitions.Selected.{StandingField}
use Rattle.rule_field_groups.specs.in_document_definitions.ReadFields.{ReadField, ReadSet, field_read}
use Rattle.rule_field_groups.specs.in_document_definitions.PlainFields.{IsSelected}
use Rattle.rule_field_groups.specs.in_document_definitions.Settled.{AreInOne}
use Rattle.rule_field_groups.proofs.in_document_definitions.Unplaced.{contains_map, contains_unmap}
use Rattle.rule_field_groups.specs.in_sets.declared.member.Member.{Member}
use Rattle.rule_field_groups.specs.declared.pass.Pass.{Pass}
use Rattle.rule_field_groups.specs.Members.{field_of, fields_of, content_of, read_sets}
use Rattle.rule_field_groups.specs.Below.{IsMergedIn}
use Rattle.rule_field_groups.specs.Passes.{ReadTogether}
use Rattle.rule_field_groups.specs.MergeState.{Kept}
use Rattle.rule_merging.specs.Counted.{IsLast, AreListed}
use Rattle.rule_merging.specs.Examined.{Sets, all_read, AreLookedAt, ReadSelected, IsLeft, AreUnderWay, SetsExamined}
use Rattle.rule_merging.specs.Twos.{are_of, both_of, FieldsPaired}
use Rattle.rule_merging.proofs.Passing.{together_read}
use Rattle.rule_merging.proofs.Examining.{SetsStand, moved_lists, in_merged, together_more, all_of_one, left_on, left_wider, done_more}

module _ (pass : Pass) (s : Judged) (d : MeantDocument Place) (sets : Sets) (list : List Member) (merged : IsMergedIn d sets list) where
  member_selected : (p : Member) → Contains list p → IsSelected d sets (field_of p)
  member_selected p c = merged.within (field_of p) (contains_map field_of list p c)

  both_selected : (p q : Member) → are_of list list p q → (f : StandingField Place) → Contains (both_of p q) f → IsSelected d sets f
  both_selected p q (c, e) f k = elim (Contains-cons (field_of p) (field_of q ∷ []) f k) [
    | inl i ↦ subst (IsSelected d sets) i (member_selected p c)
    | inr r ↦ subst (IsSelected d sets) (sym (only (field_of q) f r)) (member_selected q e)
  ]

  -- what is read as selected is read of one of the list
  read_of : (x : ReadField) → ReadSelected d (read_sets sets) x → (p : Member) × (Contains list p × (content_of p ≡ x))
  read_of x h =
      let f = contains_unmap field_read (fields_of list) x (in_merged pass s d sets list merged x h) in
      let p = contains_unmap field_of list f.0 f.1.0 in
      (p.0, (p.1.0, ap field_read p.1.1 ∙ f.1.1))

  -- the fields of the list are last fields of chains, if what the sets select is
  pub two_listed : (os : List (MeantOperation Place)) → AreListed d os (sets ∷ []) → (p q : Member) → are_of list list p q → IsLast d os (content_of p) × IsLast d os (content_of q)
  two_listed os listed p q (c, e) = (
    listed sets (Contains-first sets [] sets refl) (field_of p) (member_selected p c),
    listed sets (Contains-first sets [] sets refl) (field_of q) (member_selected q e),
  )

  module _ (old new : Kept) (added : List (Broken Place)) (next : List Sets) (paired : FieldsPaired pass s d (are_of list list) old new added next) where
    stand : added ≡ [] → SetsStand pass s d sets new.lists
    stand none x y a b t =
        let p = read_of x a in
        let q = read_of y b in
        let go : ReadTogether pass s (content_of p.0) (content_of q.0) = subst (λ v. ReadTogether pass s v (content_of q.0)) (sym p.1.1) (subst (ReadTogether pass s x) (sym q.1.1) t) in
        let here = paired.stand none p.0 q.0 ((p.1.0, q.1.0), (together_read pass s (field_of p.0) (field_of q.0)).1 go) in
        subst (λ v. AreInOne new.lists v y) p.1.1 (subst (AreInOne new.lists (content_of p.0)) q.1.1 here)

    settled : added ≡ [] → (o : MeantOperation Place) (left : List (List ReadSet)) → AreUnderWay d pass s o [] (read_sets sets ∷ left) old → AreUnderWay d pass s o [] (left ++ all_read next) new
    settled none o left under = record {
      fields = moved_lists pass s d o (IsLeft d (read_sets sets ∷ left)) (IsLeft d (left ++ all_read next)) old.lists new.lists paired.more
          (left_on pass s d sets left (left ++ all_read next) new.lists (stand none) (λ l c. Contains-append_left left (all_read next) l c))
          (λ f g h. elim (paired.fresh none h.0 h.1.0) [
            | inl was ↦ inl (h.0, (was, h.1.1))
            | inr now ↦ inr (λ t.
                let r = now f g h.1.1.0 h.1.1.1 t in
                (r.0, λ x y a b. left_wider pass s d (all_read next) (left ++ all_read next) (λ l c. Contains-append_right left (all_read next) l c) x y (r.1 x y a b)))
          ])
          under.fields;
      sets = λ vs c x y a b. together_more pass s d old.lists new.lists paired.more x y (under.sets vs (subst (λ (l : List (List ReadSet)). Contains l vs) (ap (λ (k : Kept). k.expanded) paired.same) c) x y a b);
      pairs = λ a b h. elim (under.pairs a b (subst (λ (l : List (List ReadSet)). AreLookedAt l a b) (ap (λ (k : Kept). k.looked) paired.same) h)) [
        | inl left ↦ inl left
        | inr is ↦ inr (done_more pass s d old new paired.more (λ l c. subst (λ (k : List (List ReadSet)). Contains k l) (sym (ap (λ (k : Kept). k.looked) paired.same)) c) a b is)
      ];
    }

    pub sets_paired : SetsExamined pass s d (sets ∷ []) old new added next
    sets_paired = record {
      right = λ fault c.
          let t = paired.right fault c in
          let f = t.1.1.1.0 in
          let g = t.1.1.1.1.0 in
          (sets, (Contains-first sets [] sets refl, (f, (g, (both_selected t.0 t.1.0 t.1.1.0 f t.1.1.1.1.1.0, (both_selected t.0 t.1.0 t.1.1.0 g t.1.1.1.1.1.1.0, t.1.1.1.1.1.1.1))))));
      under = λ vs c.
          let u = paired.under vs c in
          (sets, (Contains-first sets [] sets refl, (u.1.1.1.0, ((λ f g i j. let w = u.1.1.1.1.0 f g i j in (both_selected u.0 u.1.0 u.1.1.0 f w.0, w.1)), u.1.1.1.1.1))));
      more = paired.more;
      settled = λ none o left under. (settled none o left under, all_of_one pass s d sets new.lists (stand none));
    }
