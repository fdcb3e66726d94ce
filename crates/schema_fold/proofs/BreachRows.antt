-- Lists that break a folding rule, with the fault, by computation.
use Rattle.std.proofs.Common.{ℕ, List, [], ◌∷◌, codes, refl, None}
use Rattle.schema_fold.specs.BuiltIn.{built_in_scalars}
use Rattle.schema_fold.specs.BuildErrors.{Fails, orphan_type_extension, OrphanTypeExtension}
use Rattle.schema_fold.proofs.Samples.{field, object, extend_object, parts}
use Rattle.schema_types.specs.TypeParts.{with_fields}
use Rattle.schema_types.specs.declared.type_kind.TypeKind.TheVariants as kind

abbrev int : List ℕ
int = codes "Int"

abbrev query : List ℕ
query = codes "Query"

orphan : Fails built_in_scalars 1 (object query [] [] (field (codes "a") int ∷ []) ∷ extend_object (codes "T") [] [] (field (codes "a") int ∷ []) ∷ [])
    (record { place = None; breach = OrphanTypeExtension (codes "T") })
orphan = orphan_type_extension (object query [] [] (field (codes "a") int ∷ []) ∷ [], (_, (([], refl), (with_fields kind.Object (parts (codes "T") [] [] (field (codes "a") int ∷ [])), (refl, refl, refl)))))
