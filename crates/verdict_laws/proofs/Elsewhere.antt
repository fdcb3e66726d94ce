-- What the settings of a builder add stands elsewhere than in the file of what is built in; and where that holds, no type or directive is
-- built in.
use Rattle.std.proofs.Common.{◌≡◌, Bool, true, false, not, cond, List, [], ◌∷◌, ◌++◌, map, filter, refl, sym, subst, ◌∙◌, inl, inr, None, Some, Contains, if◌then◌else◌}
use Rattle.std.proofs.lemmas.Option.{same_Some}
use Rattle.std.proofs.lemmas.List.Elements.{Contains-append_right, Contains-append_cases}
use Rattle.graphql_names.specs.Placed.{Place}
use Rattle.graphql_names.specs.Places.{is_built_in}
use Rattle.schema_fold.specs.in_definitions.DefinitionTree.{DefinitionTree}
use Rattle.schema_fold.specs.in_components.Lists.{firsts}
use Rattle.schema_fold.specs.in_schema_types.TypeParts.{TypeParts, TypeDefinition, type_here, type_extension_here, bare, definition_by}
use Rattle.schema_fold.specs.in_schema_types.declared.type_kind.TypeKind.{TypeKind}
use Rattle.schema_fold.specs.in_schema_types.declared.type_kind.TypeKind.TheVariants as kind
use Rattle.schema_fold.specs.NumberedDefinition.{Definitions, directive_here}
use Rattle.schema_fold.specs.Adoption.{is_redefinition, without_redefinitions, parts_name, orphans, empty_type, with_types, empty_schema, has_orphan_schema, settled}
use Rattle.rule_definitions.proofs.Lists.{not_in_nil, Contains-cons, Contains-first, only}
use Rattle.verdict_laws.specs.Elsewhere.{ArePartsElsewhere, IsElsewhere, AreAllElsewhere}
use Rattle.verdict_laws.specs.Adopting.{SettledStandElsewhere}

-- ---- one definition

-- of a type
pub type_elsewhere : (d : DefinitionTree Place) (x : TypeDefinition Place) → type_here d ≡ Some x → type_extension_here d ≡ None → directive_here d ≡ None → is_built_in x.place ≡ false → ArePartsElsewhere x.parts → IsElsewhere d
type_elsewhere d x here extends directs own parts = record {
  type = λ t e. subst (λ (y : TypeDefinition Place). (is_built_in y.place ≡ false) × ArePartsElsewhere y.parts) (same_Some x t (sym here ∙ e)) (own, parts);
  extension = λ e h. cc (extends, h);
  directive = λ y h. cc (directs, h);
}

-- which has none of these
pub other_elsewhere : (d : DefinitionTree Place) → type_here d ≡ None → type_extension_here d ≡ None → directive_here d ≡ None → IsElsewhere d
other_elsewhere d defines extends directs = record { type = λ t h. cc (defines, h); extension = λ e h. cc (extends, h); directive = λ y h. cc (directs, h) }

-- ---- what is adopted

adopted : (k : TypeKind) (e : TypeParts Place) → IsElsewhere (definition_by k None None (bare k e.name []))
adopted kind.Scalar e = type_elsewhere _ _ refl refl refl refl (record { fields = tt; values = tt; inputs = tt })
adopted kind.Object e = type_elsewhere _ _ refl refl refl refl (record { fields = tt; values = tt; inputs = tt })
adopted kind.Interface e = type_elsewhere _ _ refl refl refl refl (record { fields = tt; values = tt; inputs = tt })
adopted kind.Union e = type_elsewhere _ _ refl refl refl refl (record { fields = tt; values = tt; inputs = tt })
adopted kind.Enum e = type_elsewhere _ _ refl refl refl refl (record { fields = tt; values = tt; inputs = tt })
adopted kind.InputObject e = type_elsewhere _ _ refl refl refl refl (record { fields = tt; values = tt; inputs = tt })

module _ (built_in : Definitions) where
  types_adopted : (es : List (TypeParts Place)) → AreAllElsewhere (map (empty_type built_in) es)
  types_adopted [] d c = not_in_nil d c
  types_adopted (e ∷ es) d c = elim (Contains-cons (empty_type built_in e) (map (empty_type built_in) es) d c) [ inl is ↦ subst IsElsewhere is (adopted e.kind e) | inr r ↦ types_adopted es d r ]

  schema_adopted : (b : Bool) → AreAllElsewhere (if b then empty_schema built_in ∷ [] else [])
  schema_adopted true d c = subst IsElsewhere (sym (only (empty_schema built_in) d c)) (other_elsewhere (empty_schema built_in) refl refl refl)
  schema_adopted false d c = not_in_nil d c

  joined : (ds es : Definitions) → AreAllElsewhere ds → AreAllElsewhere es → AreAllElsewhere (ds ++ es)
  joined ds es h k d c = elim (Contains-append_cases ds es d c) [ inl a ↦ h d a | inr b ↦ k d b ]

  stood : (keep : DefinitionTree Place → Bool) (ds : Definitions) (d : DefinitionTree Place) → Contains (filter keep ds) d → Contains ds d
  stood keep [] d c = not_in_nil d c
  stood keep (e ∷ ds) d c = by (keep e) c (stood keep ds d)
    where
      by : (b : Bool) → Contains (cond b (e ∷ filter keep ds) (filter keep ds)) d → (Contains (filter keep ds) d → Contains ds d) → Contains (e ∷ ds) d
      by true c rest = elim (Contains-cons e (filter keep ds) d c) [ inl is ↦ Contains-first e ds d is | inr r ↦ Contains-append_right (e ∷ []) ds d (rest r) ]
      by false c rest = Contains-append_right (e ∷ []) ds d (rest c)

  adopting : (adopts : Bool) (ds : Definitions) → AreAllElsewhere ds → AreAllElsewhere (settled built_in (record { adopts = adopts; ignores = false }) ds)
  adopting true ds h = joined (with_types built_in ds) _ (joined ds _ h (types_adopted (firsts (parts_name built_in) (orphans built_in ds)))) (schema_adopted (has_orphan_schema built_in (with_types built_in ds)))
  adopting false ds h = h

pub settled_elsewhere : SettledStandElsewhere
settled_elsewhere built_in settings ds h = by settings.ignores
  where
    by : (ignores : Bool) → AreAllElsewhere (settled built_in (record { adopts = settings.adopts; ignores = ignores }) ds)
    by true = adopting built_in settings.adopts (without_redefinitions built_in ds) (λ d c. h d (stood built_in (λ e. not (is_redefinition built_in e)) ds d c))
    by false = adopting built_in settings.adopts ds h
