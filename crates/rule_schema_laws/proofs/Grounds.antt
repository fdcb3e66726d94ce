-- What literals rest on, of a schema that keeps the rules: from this alone they are made.
use Rattle.std.proofs.Common.{◌≡◌, ℕ, Bool, true, false, ◌||◌, cond, List, [], ◌∷◌, reverse, refl, sym, ap, ◌∙◌, ◌⊎◌, inl, inr, Option, None, Some, Contains, true≢false, is_some}
use Rattle.std.specs.List.{list_any}
use Rattle.std.specs.FinMap as fin
use Rattle.std.specs.Ordering.{eq_by_cmp}
use Rattle.std.specs.Cmp.Lexicographic.{nat_list_eq_equiv, texts_ties}
use Rattle.std.proofs.lemmas.List.Elements.{Contains-append_right}
use Rattle.graphql_names.specs.Placed.{Place}
use Rattle.tree_literals.specs.ValueWritable.{can_be_enum}
use Rattle.rule_definitions.specs.in_schema_types.in_operations.DirectiveTree.{InputValueTree}
use Rattle.rule_definitions.specs.in_schema_types.in_type_members.TypeSystemTree.{EnumValueTree}
use Rattle.rule_definitions.specs.in_components.Names.{NamedMap, by_bytes}
use Rattle.schema_types.proofs.in_components.NamedLookups.{tied}
use Rattle.rule_definitions.specs.in_schema_types.SchemaTree.{SchemaTree, is_input_kind, kind_words}
use Rattle.rule_definitions.specs.in_schema_types.Plain.{plain}
use Rattle.rule_definitions.specs.in_schema_types.Looks.{TypeLooks, type_looks}
use Rattle.rule_definitions.specs.in_schema_types.Addresses.{TypeAt, InputAt, TypeReferenceAt}
use Rattle.rule_definitions.specs.in_schema_types.declared.type_kind.TypeKind.TheVariants as kind
use Rattle.rule_definitions.specs.Diagnostics.{EmptyValueSet, InputType, RecursiveInputObjectDefinition}
use Rattle.rule_definitions.specs.Spots.{At}
use Rattle.rule_definitions.specs.Faults.{told, wrong}
use Rattle.rule_definitions.specs.Judged.{judged}
use Rattle.rule_definitions.specs.Cycles.{Referring, RefersToInput}
use Rattle.rule_definitions.specs.Rules.{SchemaRules}
use Rattle.rule_cycle_search.specs.Paths.{Leads}
use Rattle.rule_cycle_search.proofs.Lists.{Contains-first, mapped_some}
use Rattle.rule_schema_laws.specs.Literals.{HasNoKeywordValue}
use Rattle.rule_schema_laws.specs.Named.{HasNames}
use Rattle.rule_schema_laws.proofs.Given.{IsInput, HasValue}

tied_itself : (q : List ℕ) → eq_by_cmp by_bytes q q ≡ true
tied_itself q = sym (texts_ties q q) ∙ nat_list_eq_equiv.refl q

-- ---- finite maps are finite

module _ {V : Type 0} (m : NamedMap V) where
  any_given : (n : List ℕ) (ks : List (List ℕ)) → list_any (eq_by_cmp by_bytes n) ks ≡ true → Contains ks n
  any_given n [] e = absurd (true≢false (sym e))
  any_given n (k ∷ ks) e = by (eq_by_cmp by_bytes n k) refl e (any_given n ks)
    where
      by : (b : Bool) → eq_by_cmp by_bytes n k ≡ b → (b || list_any (eq_by_cmp by_bytes n) ks) ≡ true → (list_any (eq_by_cmp by_bytes n) ks ≡ true → Contains ks n) → Contains (k ∷ ks) n
      by true t e rest = Contains-first k ks n (sym (tied n k t))
      by false t e rest = Contains-append_right (k ∷ []) ks n (rest e)

  has_key : (n : List ℕ) (v : V) → fin.get m n ≡ Some v → Contains (fin.keys m) n
  has_key n v e = any_given n (fin.keys m) (sym (fin.contains_key-keys m n) ∙ ap is_some e)

  empty_or_not : ((n : List ℕ) → fin.get m n ≡ None) ⊎ ((n : List ℕ) × (is_some (fin.get m n) ≡ true))
  empty_or_not = by (fin.entries m) refl
    where
      by : (es : List (List ℕ × V)) → fin.entries m ≡ es → ((n : List ℕ) → fin.get m n ≡ None) ⊎ ((n : List ℕ) × (is_some (fin.get m n) ≡ true))
      by [] e = inl (λ n. fin.get-entries m n ∙ ap (fin.find by_bytes n) e)
      by (x ∷ es) e = inr (x.0, ap is_some (fin.get-entries m x.0 ∙ ap (fin.find by_bytes x.0) e ∙ ap (λ b. cond b (Some x.1) (fin.find by_bytes x.0 es)) (tied_itself x.0)))

-- ---- what is used of a schema

module _ (s : SchemaTree Place) where
  -- the names of the types, and of a type's input fields
  pub covers : (n : List ℕ) (t : TypeLooks) → (judged s).type_named n ≡ Some t → Contains (fin.keys (plain s).types) n
  covers n t there = let (p, (at, same)) = mapped_some type_looks (fin.get (plain s).types n) t there in has_key (plain s).types n p at

  pub fields : (n : List ℕ) (t : TypeLooks) → (judged s).type_named n ≡ Some t → (ks : List (List ℕ)) × ((m : List ℕ) (v : InputValueTree (Unit {0})) → t.input m ≡ Some v → Contains ks m)
  fields n t there =
      let (p, (at, same)) = mapped_some type_looks (fin.get (plain s).types n) t there in
      (fin.keys p.inputs, λ m v has. has_key p.inputs m v (sym (ap (λ (u : TypeLooks). u.input m) same) ∙ has))

module _ (s : SchemaTree Place) (rules : SchemaRules (judged s)) where
  pub inputs : (n : List ℕ) (t : TypeLooks) → (judged s).type_named n ≡ Some t → (m : List ℕ) (v : InputValueTree (Unit {0})) → t.input m ≡ Some v → IsInput (judged s) v.ty.it
  inputs n t there m v has u there' = by (is_input_kind u.kind) refl
    where
      by : (b : Bool) → is_input_kind u.kind ≡ b → is_input_kind u.kind ≡ true
      by true e = e
      by false e = absurd (rules (told (InputAt n m) (InputType v.name.it (kind_words u.kind) (TypeReferenceAt (InputAt n m))))
          (inl (inr (inr (inr (inr (inr (inr (inr (inr (inr (inl (inr (n, (t, (there, (m, (v, (has, (u, (there', (e, refl))))))))))))))))))))))

  pub acyclic : (n : List ℕ) (by : Referring (InputValueTree (Unit {0}))) (rest : List (Referring (InputValueTree (Unit {0})))) → Leads (RefersToInput (judged s)) n (by ∷ rest) n → ⊥
  acyclic n by rest leads = rules (wrong (At (TypeAt n)) (RecursiveInputObjectDefinition n (reverse (by ∷ rest)))) (inr (inr (inr (inl (inl (n, (by, (rest, (leads, refl)))))))))

  pub values : HasNames (judged s) → HasNoKeywordValue (judged s) → (n : List ℕ) (t : TypeLooks) → (judged s).type_named n ≡ Some t → t.kind ≡ kind.Enum → HasValue (judged s) t
  values names keywords n t there is =
      let (p, (at, same)) = mapped_some type_looks (fin.get (plain s).types n) t there in
      elim (empty_or_not p.values) [
        | inl empty ↦ absurd (rules (told (TypeAt n) (EmptyValueSet n (TypeAt n) (TypeAt n)))
            (inr (inl (inr (inl (n, (t, (there, (is, (λ m. ap (λ (u : TypeLooks). u.value m) same ∙ empty m, refl))))))))))
        | inr has ↦ by has.0 (ap (λ (u : TypeLooks). is_some (u.value has.0)) same ∙ has.1)
      ]
    where
      can : (m : List ℕ) → is_some (t.value m) ≡ true → (o : Option (EnumValueTree (Unit {0}))) → t.value m ≡ o → (b : Bool) → can_be_enum m ≡ b → can_be_enum m ≡ true
      can m has o e true c = c
      can m has None e false c = absurd (true≢false (sym has ∙ ap is_some e))
      can m has (Some v) e false c = absurd (keywords n m (t, (there, (is, (v, (e, c))))))

      by : (m : List ℕ) → is_some (t.value m) ≡ true → HasValue (judged s) t
      by m has = (m, (has, (can m has (t.value m) refl (can_be_enum m) refl, names.values n t there m has)))
