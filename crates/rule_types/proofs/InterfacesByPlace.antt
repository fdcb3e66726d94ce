-- The rules on interfaces, place by place: what a walk over a schema tells at each.
use Rattle.std.proofs.Common.{◌≡◌, ◌≢◌, ℕ, ◌⊎◌, inl, inr, true, false, List, None, refl, subst}
use Rattle.graphql_names.specs.Placed.{Placed}
use Rattle.tree_directives.specs.DirectiveTree.{InputValueTree}
use Rattle.tree_directives.specs.DirectiveQueries.{is_required_input}
use Rattle.tree_type_members.specs.TypeSystemTree.{FieldDefinitionTree}
use Rattle.schema_types.specs.Looks.{TypeLooks}
use Rattle.schema_types.specs.Addresses.{TypeAt, FieldAt, ImplementsAt, ArgumentAt}
use Rattle.schema_types.specs.declared.type_kind.TypeKind.TheVariants as kind
use Rattle.fault_data.specs.in_rule_definitions.Diagnostics.{UndefinedDefinition, RecursiveInterfaceDefinition, TransitiveImplementedInterfaces, MissingInterfaceField, InvalidImplementationFieldType, MissingInterfaceFieldArgument, InvalidImplementationFieldArgumentType, ExtraRequiredImplementationFieldArgument}
use Rattle.fault_data.specs.in_rule_definitions.Words.{Present, Somewhere, Among, AtSomeIndex, FirstNamed, Lacks}
use Rattle.fault_data.specs.in_rule_definitions.Faults.{SchemaFault, told}
use Rattle.fault_data.specs.in_rule_definitions.Judged.{Judged, AtType}
use Rattle.fault_data.specs.in_rule_definitions.Subtypes.{is_valid_type}
use Rattle.fault_data.specs.in_rule_definitions.Interfaces.{AtImplemented, AtImplementation}
use Rattle.fault_data.specs.in_rule_definitions.Rules.{InterfacesBreak}

abbrev pub Argument : Type 0
Argument = Placed (Unit {0}) (InputValueTree (Unit {0}))

abbrev pub FieldSeen : Type 0
FieldSeen = FieldDefinitionTree (Unit {0})

module _ (s : Judged) (fault : SchemaFault) where
  -- ---- one rule at one place: a type n over an interface i, and a field m of both

  module _ (n i m : List ℕ) (wanted field : FieldSeen) where
    abbrev pub HasOtherType : Type 0
    HasOtherType = (is_valid_type s wanted.ty field.ty ≡ false) × (fault ≡ told (FieldAt n m) (InvalidImplementationFieldType n i m wanted.ty field.ty (FieldAt n m) (FieldAt i m)))

    abbrev pub LacksArgument : ℕ → Argument → Type 0
    LacksArgument k w = Lacks (λ v. v.it.name.it) field.arguments w.it.name.it
        × (fault ≡ told (FieldAt n m) (MissingInterfaceFieldArgument n i m w.it.name.it (FieldAt n m) (ArgumentAt (FieldAt i m) k)))

    abbrev pub HasOtherArgument : ℕ → Argument → Type 0
    HasOtherArgument k w = FirstNamed (λ v. v.it.name.it) field.arguments w.it.name.it (λ j v. (w.it.ty.it ≢ v.it.ty.it)
        × (fault ≡ told (ArgumentAt (FieldAt n m) j) (InvalidImplementationFieldArgumentType n i m w.it.name.it w.it.ty.it v.it.ty.it (ArgumentAt (FieldAt n m) j) (ArgumentAt (FieldAt i m) k))))

    abbrev pub HasExtraArgument : ℕ → Argument → Type 0
    HasExtraArgument j v = Lacks (λ w. w.it.name.it) wanted.arguments v.it.name.it × ((is_required_input v.it ≡ true)
        × (fault ≡ told (ArgumentAt (FieldAt n m) j) (ExtraRequiredImplementationFieldArgument n i m v.it.name.it (ArgumentAt (FieldAt n m) j) (FieldAt i m))))

    abbrev pub ImplementationBreaks : Type 0
    ImplementationBreaks = HasOtherType ⊎ (AtSomeIndex wanted.arguments (λ k w. LacksArgument k w ⊎ HasOtherArgument k w) ⊎ AtSomeIndex field.arguments HasExtraArgument)

  module _ (n : List ℕ) (t : TypeLooks) (i : List ℕ) where
    abbrev pub ImplementsItself : Type 0
    ImplementsItself = (t.kind ≡ kind.Interface) × ((i ≡ n) × (fault ≡ told (ImplementsAt n n) (RecursiveInterfaceDefinition n)))

    abbrev pub IsNoInterface : Type 0
    IsNoInterface = (Present (s.type_named i) (λ over. over.kind ≡ kind.Interface) → ⊥) × (fault ≡ told (ImplementsAt n i) (UndefinedDefinition i))

    abbrev pub LacksInterface : TypeLooks → List ℕ → Type 0
    LacksInterface over missing = (t.implements missing ≡ false) × (fault ≡ told (TypeAt n) (TransitiveImplementedInterfaces n i (ImplementsAt i missing) missing))

    abbrev pub LacksField : List ℕ → Type 0
    LacksField m = (t.field m ≡ None) × (fault ≡ told (TypeAt n) (MissingInterfaceField n (ImplementsAt n i) i m (FieldAt i m)))

    abbrev pub FieldBreaks : List ℕ → FieldSeen → Type 0
    FieldBreaks m wanted = LacksField m ⊎ Present (t.field m) (λ field. ImplementationBreaks n i m wanted field)

    abbrev pub OverBreaks : TypeLooks → Type 0
    OverBreaks over = Among over.implements (λ missing. LacksInterface over missing) ⊎ Somewhere over.field (λ m wanted. FieldBreaks m wanted)

    abbrev pub InterfaceBreaks : Type 0
    InterfaceBreaks = ImplementsItself ⊎ (IsNoInterface ⊎ Present (s.type_named i) (λ over. (over.kind ≡ kind.Interface) × OverBreaks over))

  abbrev pub PlacesBreak : Type 0
  PlacesBreak = AtType s (λ n t. Among t.implements (λ i. InterfaceBreaks n t i))

  -- ---- from rules to places

  over_so : (P : List ℕ → TypeLooks → List ℕ → TypeLooks → Type 0) → ((n : List ℕ) (t : TypeLooks) (i : List ℕ) (over : TypeLooks) → P n t i over → OverBreaks n t i over) → AtImplemented s P → PlacesBreak
  over_so P so (n, (t, (there, (i, (lists, (over, (is_there, (is, p)))))))) = (n, (t, (there, (i, (lists, inr (inr (over, (is_there, (is, so n t i over p)))))))))

  implementation_so : (P : List ℕ → List ℕ → List ℕ → FieldSeen → FieldSeen → Type 0) → ((n i m : List ℕ) (wanted field : FieldSeen) → P n i m wanted field → ImplementationBreaks n i m wanted field) → AtImplementation s P → PlacesBreak
  implementation_so P so q =
      over_so (λ n t i over. Somewhere over.field (λ m wanted. Present (t.field m) (λ field. P n i m wanted field)))
      (λ n t i over r. inr (r.0, (r.1.0, (r.1.1.0, inr (r.1.1.1.0, (r.1.1.1.1.0, so n i r.0 r.1.0 r.1.1.1.0 r.1.1.1.1.1)))))) q

  pub to_places : InterfacesBreak s fault → PlacesBreak
  to_places (inl (n, (t, (there, (i, (lists, p)))))) = (n, (t, (there, (i, (lists, inr (inl p))))))
  to_places (inr (inl (n, (t, (there, (is, (lists, p))))))) = (n, (t, (there, (n, (lists, inl (is, (refl, p)))))))
  to_places (inr (inr (inl q))) = over_so _ (λ n t i over p. inl p) q
  to_places (inr (inr (inr (inl q)))) = over_so (λ n t i over. Somewhere over.field (λ m wanted. LacksField n t i m)) (λ n t i over p. inr (p.0, (p.1.0, (p.1.1.0, inl p.1.1.1)))) q
  to_places (inr (inr (inr (inr (inl q))))) = implementation_so _ (λ n i m w f p. inl p) q
  to_places (inr (inr (inr (inr (inr (inl q)))))) = implementation_so _ (λ n i m w f p. inr (inl (p.0, (p.1.0, (p.1.1.0, inl p.1.1.1))))) q
  to_places (inr (inr (inr (inr (inr (inr (inl q))))))) = implementation_so _ (λ n i m w f p. inr (inl (p.0, (p.1.0, (p.1.1.0, inr p.1.1.1))))) q
  to_places (inr (inr (inr (inr (inr (inr (inr q))))))) = implementation_so _ (λ n i m w f p. inr (inr p)) q

  -- ---- from places to rules

  from_implementation : (n i m : List ℕ) (wanted field : FieldSeen) → ((P : List ℕ → List ℕ → List ℕ → FieldSeen → FieldSeen → Type 0) → P n i m wanted field → AtImplementation s P) → ImplementationBreaks n i m wanted field → InterfacesBreak s fault
  from_implementation n i m wanted field lift (inl p) = inr (inr (inr (inr (inl (lift _ p)))))
  from_implementation n i m wanted field lift (inr (inl (k, (w, (there, inl p))))) = inr (inr (inr (inr (inr (inl (lift (λ n i m wanted field. AtSomeIndex wanted.arguments (λ k w. LacksArgument n i m wanted field k w)) (k, (w, (there, p)))))))))
  from_implementation n i m wanted field lift (inr (inl (k, (w, (there, inr p))))) = inr (inr (inr (inr (inr (inr (inl (lift (λ n i m wanted field. AtSomeIndex wanted.arguments (λ k w. HasOtherArgument n i m wanted field k w)) (k, (w, (there, p))))))))))
  from_implementation n i m wanted field lift (inr (inr p)) = inr (inr (inr (inr (inr (inr (inr (lift (λ n i m wanted field. AtSomeIndex field.arguments (λ j v. HasExtraArgument n i m wanted field j v)) p)))))))

  pub from_places : PlacesBreak → InterfacesBreak s fault
  from_places (n, (t, (there, (i, (lists, inl (is, (same, p))))))) = inr (inl (n, (t, (there, (is, (subst (λ x. t.implements x ≡ true) same lists, p))))))
  from_places (n, (t, (there, (i, (lists, inr (inl p)))))) = inl (n, (t, (there, (i, (lists, p)))))
  from_places (n, (t, (there, (i, (lists, inr (inr (over, (is_there, (is, inl p))))))))) = inr (inr (inl (n, (t, (there, (i, (lists, (over, (is_there, (is, p))))))))))
  from_places (n, (t, (there, (i, (lists, inr (inr (over, (is_there, (is, inr (m, (wanted, (has, inl p)))))))))))) = inr (inr (inr (inl (n, (t, (there, (i, (lists, (over, (is_there, (is, (m, (wanted, (has, p))))))))))))))
  from_places (n, (t, (there, (i, (lists, inr (inr (over, (is_there, (is, inr (m, (wanted, (has, inr (field, (own, p)))))))))))))) =
      from_implementation n i m wanted field (λ P q. (n, (t, (there, (i, (lists, (over, (is_there, (is, (m, (wanted, (has, (field, (own, q)))))))))))))) p
