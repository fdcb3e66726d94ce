-- Fields that stand together in a list that is kept.
use Rattle.std.proofs.Common.{◌≡◌, ℕ, ◌<◌, ◌+◌, List, ◌∷◌, [], get_or, length, map, take, Contains, sym, subst, inl, inr}
use Rattle.std.proofs.lemmas.List.Elements.{Contains-append_cases}
use Rattle.rule_cycle_search.proofs.Lists.{only}
use Rattle.list_interner.specs.NumberLists.{lists_kept, list_at}
use Rattle.list_interner.specs.declared.lists.NumberLists.{NumberLists}
use Rattle.list_interner.proofs.Found.{kept_at}
use Rattle.list_interner.proofs.Standing.{in_map, of_map}
use Rattle.rule_selection_queries.specs.in_document_definitions.ReadFields.{ReadField, field_read}
use Rattle.rule_field_sets.specs.Nodes.{AreSets}
use Rattle.rule_field_sets.specs.Read.{content_at}
use Rattle.rule_field_sets.specs.declared.member.Member.{Member}
use Rattle.rule_field_sets.specs.declared.field_sets.FieldSets.{FieldSets}
use Rattle.rule_field_sets.proofs.Meaning.{content_of_member}
use Rattle.rule_field_groups.specs.Members.{field_of, fields_of, content_of, contents_of, AreMembersOf}
use Rattle.rule_field_groups.specs.MergeState.{AllAreInOne}
use Rattle.rule_field_groups.proofs.Lists.{taken_more}

-- the list at a place has the number of each of these members
abbrev pub HasNumbers : NumberLists → ℕ → List Member → Type 0
HasNumbers lists place ms = (m : Member) → Contains ms m → Contains (list_at lists place) m.number

-- one more
pub numbers_more : (lists : NumberLists) (place : ℕ) (ms : List Member) (i : ℕ) (m : Member) → i < length ms → m ≡ get_or ms i m → HasNumbers lists place (take i ms) → Contains (list_at lists place) m.number → HasNumbers lists place (take (i + 1) ms)
numbers_more lists place ms i m h e all here n c = elim (Contains-append_cases (take i ms) (m ∷ []) n (subst (λ (l : List Member). Contains l n) (taken_more ms i m h e) c)) [
  | inl a ↦ all n a
  | inr b ↦ subst (λ (k : Member). Contains (list_at lists place) k.number) (sym (only m n b)) here
]

module _ (w : FieldSets) (are : AreSets w) (lists : NumberLists) (place : ℕ) where
  -- what is read of one of them is read of its number
  in_list : (ms : List Member) → AreMembersOf w ms → HasNumbers lists place ms → (x : ReadField) → Contains (contents_of ms) x → Contains (map (content_at w) (list_at lists place)) x
  in_list ms all has x c =
      let f = of_map field_read (fields_of ms) x c in
      let m = of_map field_of ms f.0 f.1.0 in
      let reads : content_at w m.0.number ≡ content_of m.0 = content_of_member w are m.0 (all m.0 m.1.0) in
      let said : content_of m.0 ≡ x = subst (λ g. field_read g ≡ x) (sym m.1.1) f.1.1 in
      subst (Contains (map (content_at w) (list_at lists place))) said
      (subst (Contains (map (content_at w) (list_at lists place))) reads (in_map (content_at w) (list_at lists place) m.0.number (has m.0 m.1.0)))

  pub stand_kept : (ones others : List Member) → AreMembersOf w ones → AreMembersOf w others → HasNumbers lists place ones → HasNumbers lists place others
      → AllAreInOne (map (map (content_at w)) (lists_kept lists)) (contents_of ones) (contents_of others)
  stand_kept ones others all so has too x y a b =
      let list = list_at lists place in
      let x_there = in_list ones all has x a in
      let n = of_map (content_at w) list x x_there in
      (map (content_at w) list, (in_map (map (content_at w)) (lists_kept lists) list (kept_at lists place n.0 n.1.0), (x_there, in_list others so too y b)))
