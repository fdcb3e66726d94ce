-- The rules on uses at the parts of a schema, one after another.
use Rattle.std.proofs.Common.{◌≡◌, ℕ, ◌↔◌, Bool, true, false, ◌&&◌, List, [], ◌∷◌, ◌++◌, map, refl, sym, ap, ◌∙◌, inl, inr, slice_get, true≢false, is_some}
use Rattle.std.proofs.lemmas.List.{map-append}
use Rattle.graphql_names.specs.Placed.{Placed, Place}
use Rattle.graphql_names.specs.Places.{is_built_in}
use Rattle.tree_directives.specs.DirectiveTree.{DirectiveDefinitionTree}
use Rattle.tree_directives.specs.declared.directive_location.DirectiveLocation.TheVariants as location
use Rattle.rule_values.specs.in_schema.in_schema_types.SchemaTree.{SchemaType, SchemaTree}
use Rattle.rule_values.specs.in_schema.in_schema_types.Addresses.{applied}
use Rattle.rule_values.specs.in_rule_definitions.Words.{AtSomeIndex}
use Rattle.rule_values.specs.in_rule_definitions.Judged.{is_built_in_scalar, type_location}
use Rattle.rule_values.specs.in_rule_definitions.PlacedFaults.{PlacedFault}
use Rattle.rule_arguments.specs.SchemaUses.{FieldsUses, ValuesUses, InputsUses, OwnUses, PartsUses, OwnDefinitionUses, UsesAt}

nowhere : {X A : Type 0} (xs : List X) (R : ℕ → X → Type 0) → xs ≡ [] → AtSomeIndex xs R → A
nowhere xs R e h = absurd (true≢false (sym (ap is_some (ap (λ l. slice_get l h.0) (sym e) ∙ h.1.1.0))))

-- the entries of a map with the next
pub pairs_more : {X Y Z : Type 0} (g : Y → Z) (d : X → Y) (xs : List X) (x : X) → map g (map d (xs ++ x ∷ [])) ≡ map g (map d xs) ++ g (d x) ∷ []
pairs_more g d xs x = ap (map g) (map-append d xs (x ∷ [])) ∙ map-append g (map d xs) (d x ∷ [])

-- of two tests one fails
pub first_fails : (a b : Bool) → a ≡ false → (a && b) ≡ false
first_fails true b e = absurd (true≢false e)
first_fails false b e = refl

pub second_fails : (a b : Bool) → b ≡ false → (a && b) ≡ false
second_fails true b e = e
second_fails false b e = refl

module _ (s : SchemaTree Place) (t : SchemaType Place) where
  pub only_fields : t.values ≡ [] → t.inputs ≡ [] → (f : PlacedFault) → FieldsUses s t.fields f ↔ PartsUses s t f
  only_fields v i f = (λ h. inl h, λ h. elim h [ inl a ↦ a | inr r ↦ elim r [ inl b ↦ nowhere t.values _ v b | inr b ↦ nowhere t.inputs _ i b ] ])

  pub only_values : t.fields ≡ [] → t.inputs ≡ [] → (f : PlacedFault) → ValuesUses s t.values f ↔ PartsUses s t f
  only_values v i f = (λ h. inr (inl h), λ h. elim h [ inl a ↦ nowhere t.fields _ v a | inr r ↦ elim r [ inl b ↦ b | inr b ↦ nowhere t.inputs _ i b ] ])

  pub only_inputs : t.fields ≡ [] → t.values ≡ [] → (f : PlacedFault) → InputsUses s t.inputs f ↔ PartsUses s t f
  only_inputs v i f = (λ h. inr (inr h), λ h. elim h [ inl a ↦ nowhere t.fields _ v a | inr r ↦ elim r [ inl b ↦ nowhere t.values _ i b | inr b ↦ b ] ])

  pub no_parts : t.fields ≡ [] → t.values ≡ [] → t.inputs ≡ [] → (f : PlacedFault) → PartsUses s t f → ⊥
  no_parts v i n f h = elim h [ inl a ↦ nowhere t.fields _ v a | inr r ↦ elim r [ inl b ↦ nowhere t.values _ i b | inr b ↦ nowhere t.inputs _ n b ] ]

  pub own_unjudged : is_built_in_scalar t ≡ true → (f : PlacedFault) → OwnUses s t f → ⊥
  own_unjudged e f h = true≢false (sym e ∙ h.0)

  pub own_judged : is_built_in_scalar t ≡ false → (f : PlacedFault) → UsesAt s (type_location t.kind) (applied s t.directives) f ↔ OwnUses s t f
  own_judged e f = (λ h. (e, h), λ h. h.1)

module _ (s : SchemaTree Place) (d : Placed Place (DirectiveDefinitionTree Place)) where
  pub definition_unjudged : is_built_in d.place ≡ true → (f : PlacedFault) → OwnDefinitionUses s d f → ⊥
  definition_unjudged e f h = true≢false (sym e ∙ h.0)

  pub definition_judged : is_built_in d.place ≡ false → (f : PlacedFault) → UsesAt s location.DirectiveDefinition d.it.directives f ↔ OwnDefinitionUses s d f
  definition_judged e f = (λ h. (e, h), λ h. h.1)
