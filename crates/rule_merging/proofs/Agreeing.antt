-- Fields agree if their numbers show it: then nothing is told of them.
use Rattle.std.proofs.Common.{◌≡◌, List, [], ◌∷◌, refl, sym, subst, append-nil}
use Rattle.std.specs.List.{AllByRecursion}
use Rattle.rule_field_groups.proofs.in_definitions.Lists.{Contains-first}
use Rattle.rule_field_groups.proofs.in_definitions.in_schema_types.in_components.Places.{not_in_nil, Contains-rest}
use Rattle.rule_field_groups.specs.in_definitions.Judged.{Judged}
use Rattle.rule_field_groups.specs.in_document_definitions.Groups.{AgreeWithHead}
use Rattle.rule_field_groups.specs.in_document_definitions.Merging.{SameShape}
use Rattle.rule_field_groups.specs.in_sets.declared.member.Member.{Member}
use Rattle.rule_field_groups.specs.in_sets.declared.field_sets.FieldSets.{FieldSets}
use Rattle.rule_field_groups.specs.in_sets.Nodes.{AreSets, schema_in, HasMember}
use Rattle.rule_field_groups.specs.in_sets.in_reach.Broken.{brokens_of}
use Rattle.rule_field_groups.specs.declared.pass.Pass.{Pass}
use Rattle.rule_field_groups.specs.declared.pass.Pass.TheVariants.{Shapes, Selections}
use Rattle.rule_field_groups.specs.Members.{field_of, fields_of, AreMembersOf}
use Rattle.rule_field_groups.specs.Passes.{Agree, AddsGroup}
use Rattle.rule_field_groups.proofs.in_sets.Among.{one_call, one_type}
use Rattle.rule_merging.specs.Examined.{Breaches}
use Rattle.rule_merging.specs.Twos.{AgreeByNumbers, AllAgreeByNumbers}

same_numbers : (pass : Pass) (p : Member) → AgreeByNumbers pass p p
same_numbers Shapes p = refl
same_numbers Selections p = refl

module _ (w : FieldSets) (are : AreSets w) (s : Judged) (of_schema : schema_in w ≡ s) (pass : Pass) where
  two_agree : (pass' : Pass) (p q : Member) → HasMember w p → HasMember w q → AgreeByNumbers pass' p q → Agree pass' s (field_of p) (field_of q)
  two_agree Shapes p q has so e = subst (λ j. SameShape j (field_of p) (field_of q)) of_schema (one_type w are p q has so e)
  two_agree Selections p q has so e = one_call w are p q has so e

  one_agrees : (p : Member) → HasMember w p → Agree pass s (field_of p) (field_of p)
  one_agrees p has = two_agree pass p p has has (same_numbers pass p)

  all_agree_with : (p : Member) → HasMember w p → (ps : List Member) → AreMembersOf w ps → AllByRecursion (AgreeByNumbers pass p) ps → AllByRecursion (Agree pass s (field_of p)) (fields_of ps)
  all_agree_with p has [] are_members all = tt
  all_agree_with p has (q ∷ qs) are_members (e, all) = (
    two_agree pass p q has (are_members q (Contains-first q qs q refl)) e,
    all_agree_with p has qs (λ m c. are_members m (Contains-rest q qs m c)) all,
  )

  agree_with_first : (ps : List Member) → AreMembersOf w ps → AllAgreeByNumbers pass ps → AgreeWithHead (Agree pass s) (fields_of ps)
  agree_with_first [] are_members all = tt
  agree_with_first (p ∷ ps) are_members all =
      let has = are_members p (Contains-first p ps p refl) in
      (one_agrees p has, all_agree_with p has ps (λ m c. are_members m (Contains-rest p ps m c)) all)

  -- so nothing is told of them
  pub nothing_told : (ps : List Member) → AreMembersOf w ps → AllAgreeByNumbers pass ps → (breaches : Breaches) → AddsGroup pass s (fields_of ps) breaches breaches
  nothing_told ps are_members all breaches = (
    [],
    (
      sym (append-nil (brokens_of breaches)),
      record { right = λ fault c. absurd (not_in_nil fault c); agree = λ e. agree_with_first ps are_members all },
    ),
  )
