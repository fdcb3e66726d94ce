-- Groups by keys, and by keys and parents, cover what goes together.
use Rattle.std.proofs.Common.{◌≡◌, ◌⊎◌, ℕ, List, Contains, refl, sym, ◌∙◌, inl, inr}
use Rattle.rule_definitions.specs.Judged.{Judged}
use Rattle.rule_document_definitions.specs.Selected.{StandingField}
use Rattle.rule_document_definitions.specs.Groups.{AreGroups}
use Rattle.rule_document_definitions.specs.Merging.{SameKey, MayShare, IsAbstract}
use Rattle.rule_document_definitions.specs.Sharing.{AreKeyGroups, IsOn, AreShareGroups}

module _ {P : Type 0} (list : List (StandingField P)) (groups : List (List (StandingField P))) where
  -- groups of keys are groups of fields that have one key
  pub key_groups : AreKeyGroups list groups → AreGroups SameKey list groups
  key_groups are = record {
    covered = λ f g in_f in_g t. let p = are.has f in_f in (p.0, (p.1.0, (p.1.1 f in_f refl, p.1.1 g in_g (sym t))));
    within = λ group f g here in_f in_g.
        let k = are.only group here in
        let v = k.1 f in_f in
        (v.0, v.1 ∙ sym (k.1 g in_g).1);
  }

  module _ (s : Judged) where
    -- two fields of which each is on one parent or on an abstract one
    on_one : (parent : List ℕ) (f g : StandingField P) → IsOn s parent f → IsOn s parent g → (f.parent ≡ g.parent) ⊎ (IsAbstract s f.parent ⊎ IsAbstract s g.parent)
    on_one parent f g (inl e) (inl i) = inl (e ∙ sym i)
    on_one parent f g (inl e) (inr b) = inr (inr b)
    on_one parent f g (inr a) q = inr (inl a)

    -- two fields that one object may have are in one group
    share_covered : AreShareGroups s list groups → (f g : StandingField P) → Contains list f → Contains list g → MayShare s f g
        → (group : List (StandingField P)) × (Contains groups group × (Contains group f × Contains group g))
    share_covered are f g in_f in_g (key, inl e) = let p = are.has f in_f in (p.0, (p.1.0, (p.1.1 f in_f refl (inl refl), p.1.1 g in_g (sym key) (inl (sym e)))))
    share_covered are f g in_f in_g (key, inr (inl a)) = let p = are.has g in_g in (p.0, (p.1.0, (p.1.1 f in_f key (inr a), p.1.1 g in_g refl (inl refl))))
    share_covered are f g in_f in_g (key, inr (inr b)) = let p = are.has f in_f in (p.0, (p.1.0, (p.1.1 f in_f refl (inl refl), p.1.1 g in_g (sym key) (inr b))))

    -- groups of keys and parents are groups of fields that one object may have
    pub share_groups : AreShareGroups s list groups → AreGroups (MayShare s) list groups
    share_groups are = record {
      covered = share_covered are;
      within = λ group f g here in_f in_g.
          let k = are.only group here in
          let v = k.1.1 f in_f in
          let w = k.1.1 g in_g in
          (v.0, (v.1.0 ∙ sym w.1.0, on_one k.1.0 f g v.1.1 w.1.1));
    }
