-- Implementing is a strict order where the rules hold.
use Rattle.std.proofs.Common.{◌≡◌, ℕ, Bool, true, false, List, refl, sym, ap, ◌∙◌, ◌⊎◌, inl, inr, Option, None, Some}
use Rattle.std.proofs.lemmas.Option.{same_Some}
use Rattle.rule_definitions.specs.in_schema_types.Looks.{TypeLooks}
use Rattle.rule_definitions.specs.in_schema_types.Addresses.{TypeAt, ImplementsAt}
use Rattle.rule_definitions.specs.in_schema_types.declared.type_kind.TypeKind.{TypeKind}
use Rattle.rule_definitions.specs.in_schema_types.declared.type_kind.TypeKind.TheVariants as kind
use Rattle.rule_definitions.specs.Diagnostics.{UndefinedDefinition, RecursiveInterfaceDefinition, TransitiveImplementedInterfaces}
use Rattle.rule_definitions.specs.Faults.{told}
use Rattle.rule_definitions.specs.Judged.{Judged}
use Rattle.rule_definitions.specs.Rules.{SchemaRules}
use Rattle.rule_schema_laws.specs.Implementing.{IsInterface, Implements}
use Rattle.rule_schema_laws.specs.Laws.{OrderedWhereRulesHold}

interface_or_not : (k : TypeKind) → (k ≡ kind.Interface) ⊎ (k ≡ kind.Interface → ⊥)
interface_or_not kind.Interface = inl refl
interface_or_not _ = inr (λ e. cc)

module _ (s : Judged) (rules : SchemaRules s) where
  interfaces : (n i : List ℕ) → Implements s n i → IsInterface s i
  interfaces n i (t, (at, has)) = by (s.type_named i) refl
    where
      undefined : (IsInterface s i → ⊥) → IsInterface s i
      undefined none = absurd (rules (told (ImplementsAt n i) (UndefinedDefinition i)) (inr (inr (inl (inl (n, (t, (at, (i, (has, (none, refl)))))))))))

      by : (o : Option TypeLooks) → s.type_named i ≡ o → IsInterface s i
      by None e = undefined (λ p. cc (e, p.1.0))
      by (Some over) e = elim (interface_or_not over.kind) [
        | inl is ↦ (over, (e, is))
        | inr other ↦ undefined (λ p. other (ap (λ (u : TypeLooks). u.kind) (same_Some over p.0 (sym e ∙ p.1.0)) ∙ p.1.1))
      ]

  irreflexive : (n : List ℕ) → Implements s n n → ⊥
  irreflexive n (t, (at, has)) =
      let (u, (at', is)) = interfaces n n (t, (at, has)) in
      rules (told (ImplementsAt n n) (RecursiveInterfaceDefinition n)) (inr (inr (inl (inr (inl (n, (t, (at, (ap (λ (u : TypeLooks). u.kind) (same_Some t u (sym at ∙ at')) ∙ is, (has, refl))))))))))

  transitive : (n i k : List ℕ) → Implements s n i → Implements s i k → Implements s n k
  transitive n i k (t, (at, has)) (u, (at', has')) = by (t.implements k) refl (interfaces n i (t, (at, has)))
    where
      by : (b : Bool) → t.implements k ≡ b → IsInterface s i → Implements s n k
      by true e over = (t, (at, e))
      by false e (over, (at'', is)) = absurd (rules (told (TypeAt n) (TransitiveImplementedInterfaces n i (ImplementsAt i k) k))
          (inr (inr (inl (inr (inr (inl (n, (t, (at, (i, (has, (u, (at', (ap (λ (w : TypeLooks). w.kind) (same_Some u over (sym at' ∙ at'')) ∙ is, (k, (has', (e, refl))))))))))))))))))

pub ordered : OrderedWhereRulesHold
ordered s rules = record { interfaces = interfaces s rules; irreflexive = irreflexive s rules; transitive = transitive s rules }
