-- Fields that go together, by their numbers: they are one group.
use Rattle.std.proofs.Common.{◌≡◌, ◌⊎◌, ◌∙◌, ◌==◌, Bool, true, false, cond, List, [], ◌∷◌, IsTrue, Contains, true≢false, refl, sym, ap, subst, take, inl, inr}
use Rattle.std.proofs.lemmas.Bool.Decides.{Decides-eqb}
use Rattle.graphql_names.specs.Placed.{Place}
use Rattle.rule_field_groups.proofs.in_definitions.Lists.{only, Contains-cons, Contains-first}
use Rattle.rule_field_groups.specs.in_spec_document.MeantTree.{MeantDocument}
use Rattle.rule_field_groups.specs.in_definitions.Judged.{Judged}
use Rattle.rule_field_groups.specs.in_document_definitions.DocumentFaults.{Broken}
use Rattle.rule_field_groups.specs.in_document_definitions.Selected.{StandingField}
use Rattle.rule_field_groups.specs.in_document_definitions.Merging.{IsAbstract}
use Rattle.rule_field_groups.specs.in_sets.declared.member.Member.{Member}
use Rattle.rule_field_groups.specs.in_sets.declared.field_sets.FieldSets.{FieldSets}
use Rattle.rule_field_groups.specs.in_sets.Nodes.{AreSets, HasMember, schema_in}
use Rattle.rule_field_groups.proofs.in_sets.Among.{member_shared, one_key, one_parent}
use Rattle.rule_field_groups.specs.Members.{field_of, fields_of}
use Rattle.rule_field_groups.specs.Passes.{Together, Agree, TellsGroup}
use Rattle.rule_field_groups.specs.in_document_definitions.Groups.{AgreeWithHead}
use Rattle.rule_field_groups.specs.Under.{Sets, AreListsBelow}
use Rattle.rule_field_groups.specs.declared.pass.Pass.{Pass}
use Rattle.rule_field_groups.specs.declared.pass.Pass.TheVariants.{Shapes, Selections}
use Rattle.rule_merging.specs.Examined.{ListExamined}
use Rattle.rule_merging.specs.Twos.{IsListOfTwo, GoTogetherByNumbers, GoAllTogether}

-- ---- two fields, by their numbers

module _ (w : FieldSets) (are : AreSets w) (s : Judged) (schema : schema_in w ≡ s) where
  shared_so : (p : Member) → HasMember w p → IsTrue p.is_shared → IsAbstract s (field_of p).parent
  shared_so p has h = subst (λ (j : Judged). IsAbstract j (field_of p).parent) schema ((member_shared w are p has).0 h)

  so_shared : (p : Member) → HasMember w p → IsAbstract s (field_of p).parent → IsTrue p.is_shared
  so_shared p has h = (member_shared w are p has).1 (subst (λ (j : Judged). IsAbstract j (field_of p).parent) (sym schema) h)

  module _ (p q : Member) (a : HasMember w p) (b : HasMember w q) where
    pub together_so : (pass : Pass) → GoTogetherByNumbers pass p q → Together pass s (field_of p) (field_of q)
    together_so Shapes (key, h) = (one_key w are p q a b).0 key
    together_so Selections (key, inl e) = ((one_key w are p q a b).0 key, inl ((one_parent w are p q a b).0 e))
    together_so Selections (key, inr (inl h)) = ((one_key w are p q a b).0 key, inr (inl (shared_so p a h)))
    together_so Selections (key, inr (inr h)) = ((one_key w are p q a b).0 key, inr (inr (shared_so q b h)))

    pub so_together : (pass : Pass) → Together pass s (field_of p) (field_of q) → GoTogetherByNumbers pass p q
    so_together Shapes key = ((one_key w are p q a b).1 key, tt)
    so_together Selections (key, inl e) = ((one_key w are p q a b).1 key, inl ((one_parent w are p q a b).1 e))
    so_together Selections (key, inr (inl h)) = ((one_key w are p q a b).1 key, inr (inl (so_shared p a h)))
    so_together Selections (key, inr (inr h)) = ((one_key w are p q a b).1 key, inr (inr (so_shared q b h)))

-- ---- a list of them

together_refl : (pass : Pass) (s : Judged) (f : StandingField Place) → Together pass s f f
together_refl Shapes s f = refl
together_refl Selections s f = (refl, inl refl)

together_sym : (pass : Pass) (s : Judged) (f g : StandingField Place) → Together pass s f g → Together pass s g f
together_sym Shapes s f g t = sym t
together_sym Selections s f g (key, inl e) = (sym key, inl (sym e))
together_sym Selections s f g (key, inr (inl a)) = (sym key, inr (inr a))
together_sym Selections s f g (key, inr (inr b)) = (sym key, inr (inl b))

-- the list is of both, or of one where the numbers are one
pub is_list_of_two : (one other : Member) (list : List Member) → list ≡ cond (one.number == other.number) (take 1 (one ∷ other ∷ [])) (one ∷ other ∷ []) → IsListOfTwo one other list
is_list_of_two one other list is = by (one.number == other.number) refl
  where
    by : (b : Bool) → (one.number == other.number) ≡ b → IsListOfTwo one other list
    by true e = inl ((Decides-eqb one.number other.number).0 e, is ∙ ap (λ c. cond c (take 1 (one ∷ other ∷ [])) (one ∷ other ∷ [])) e)
    by false e = inr ((λ same. true≢false (sym ((Decides-eqb one.number other.number).1 same) ∙ e)), is ∙ ap (λ c. cond c (take 1 (one ∷ other ∷ [])) (one ∷ other ∷ [])) e)

-- any two of it go together where the two do
pub all_together : (pass : Pass) (s : Judged) (one other : Member) (list : List Member) → IsListOfTwo one other list → Together pass s (field_of one) (field_of other) → GoAllTogether pass s list
all_together pass s one other list (inl (e, is)) t f g a b =
    let at : (h : StandingField Place) → Contains (fields_of list) h → field_of one ≡ h = λ h c. sym (only (field_of one) h (subst (λ (l : List Member). Contains (fields_of l) h) is c)) in
    subst (Together pass s f) (at g b) (subst (λ h. Together pass s h (field_of one)) (at f a) (together_refl pass s (field_of one)))
all_together pass s one other list (inr (e, is)) t f g a b = by (at f a) (at g b)
  where
    at : (h : StandingField Place) → Contains (fields_of list) h → (field_of one ≡ h) ⊎ (field_of other ≡ h)
    at h c = elim (Contains-cons (field_of one) (field_of other ∷ []) h (subst (λ (l : List Member). Contains (fields_of l) h) is c)) [
      | inl i ↦ inl i
      | inr r ↦ inr (sym (only (field_of other) h r))
    ]

    by : (field_of one ≡ f) ⊎ (field_of other ≡ f) → (field_of one ≡ g) ⊎ (field_of other ≡ g) → Together pass s f g
    by (inl i) (inl j) = subst (Together pass s f) j (subst (λ h. Together pass s h (field_of one)) i (together_refl pass s (field_of one)))
    by (inl i) (inr j) = subst (Together pass s f) j (subst (λ h. Together pass s h (field_of other)) i t)
    by (inr i) (inl j) = subst (Together pass s f) j (subst (λ h. Together pass s h (field_of one)) i (together_sym pass s (field_of one) (field_of other) t))
    by (inr i) (inr j) = subst (Together pass s f) j (subst (λ h. Together pass s h (field_of other)) i (together_refl pass s (field_of other)))

-- so it is one group
pub together_examined : (pass : Pass) (s : Judged) (d : MeantDocument Place) (list : List Member) (added : List (Broken Place)) (lists : List Sets) → GoAllTogether pass s list
    → TellsGroup pass s (fields_of list) added → AreListsBelow (fields_of list ∷ []) lists → ListExamined pass s d list added lists
together_examined pass s d list added lists together tells are = record {
  groups = fields_of list ∷ [];
  are = record {
    covered = λ f g a b t. (fields_of list, (Contains-first (fields_of list) [] (fields_of list) refl, (a, b)));
    within = λ group f g c a b.
        let is = only (fields_of list) group c in
        let in_list = subst (λ (l : List (StandingField Place)). Contains l f) is a in
        (in_list, together f g in_list (subst (λ (l : List (StandingField Place)). Contains l g) is b));
  };
  examined = record {
    right = λ fault c. (fields_of list, (Contains-first (fields_of list) [] (fields_of list) refl, tells.right fault c));
    under = are.under;
    agree = λ e group c. subst (AgreeWithHead (Agree pass s)) (sym (only (fields_of list) group c)) (tells.agree e);
    below = are.below;
  };
}
