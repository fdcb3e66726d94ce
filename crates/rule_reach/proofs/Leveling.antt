-- How levels lead to levels.
use Rattle.std.proofs.Common.{◌≡◌, ◌++◌, List, [], ◌∷◌, Contains, refl, subst, inl, inr}
use Rattle.std.proofs.lemmas.List.Elements.{Contains-append_left, Contains-append_right, Contains-append_cases}
use Rattle.rule_definitions.proofs.Lists.{not_in_nil, Contains-first}
use Rattle.rule_document_definitions.specs.in_spec_document.in_components.Names.{Entries}
use Rattle.rule_document_definitions.specs.ReadFields.{ReadField, ReadSet, set_of, SelectsRead}
use Rattle.rule_reach.specs.LoneKeys.{HasOneOfEachKey, AreKeysLone}
use Rattle.rule_reach.specs.Passed.{IsNext, IsPassed, IsOpen, IsLed}
use Rattle.rule_reach.proofs.Selecting.{nothing_selected}

module _ (fragments : Entries ReadSet) where
  -- no set is passed
  pub none_passed : (next : List ReadSet) → IsPassed fragments [] next
  none_passed next = (
    [],
    record {
      selected = λ s x c h. not_in_nil s c;
      keys = λ s c. not_in_nil s c;
      below = λ x c. not_in_nil x c;
    },
  )

  -- the first level
  pub level_begun : (start : ReadSet) → IsLed fragments start (start ∷ [])
  level_begun start = (
    [],
    record {
      start = inl (Contains-first start [] start refl);
      below = λ x c. not_in_nil x c;
    },
  )

  -- the next one
  pub level_passed : (start : ReadSet) (level next : List ReadSet) → IsPassed fragments level next → IsLed fragments start level → IsLed fragments start next
  level_passed start level next (more, passed) (fields, led) =
      let still : (s : ReadSet) → IsOpen fragments level fields s → IsOpen fragments next (fields ++ more) s = λ s open_set. elim open_set [
        | inl c ↦ inr (passed.keys s c, λ x h. Contains-append_right fields more x (passed.selected s x c h))
        | inr settled ↦ inr (settled.0, λ x h. Contains-append_left fields more x (settled.1 x h))
      ] in
      let comes : (s : ReadSet) → IsNext next s → IsOpen fragments next (fields ++ more) s = λ s is. elim is [
        | inl nothing ↦ inr (
          λ x y h k same. nothing_selected fragments x (subst (λ t. SelectsRead fragments t x) nothing h),
          λ x h. nothing_selected fragments x (subst (λ t. SelectsRead fragments t x) nothing h),
        )
        | inr c ↦ inl c
      ] in (
        fields ++ more,
        record {
          start = still start led.start;
          below = λ x c. elim (Contains-append_cases fields more x c) [
            | inl a ↦ still (set_of x) (led.below x a)
            | inr b ↦ comes (set_of x) (passed.below x b)
          ];
        },
      )

  -- the last one
  pub levels_ended : (start : ReadSet) (level : List ReadSet) → level ≡ [] → IsLed fragments start level → AreKeysLone fragments start
  levels_ended start level none (fields, led) =
      let settled : (s : ReadSet) → IsOpen fragments level fields s → HasOneOfEachKey fragments s × ((x : ReadField) → SelectsRead fragments s x → Contains fields x) = λ s open_set. elim open_set [
        | inl c ↦ not_in_nil s (subst (λ l. Contains l s) none c)
        | inr is ↦ is
      ] in (
        fields,
        record {
          starts = (settled start led.start).1;
          below = λ x y c h. (settled (set_of x) (led.below x c)).1 y h;
          start = (settled start led.start).0;
          sets = λ x c. (settled (set_of x) (led.below x c)).0;
        },
      )
