-- What is built in breaks no folding rule.
use Rattle.std.proofs.Common.{◌≡◌, ℕ, [], ◌++◌, refl}
use Rattle.std.proofs.lemmas.List.{append-nil}
use Rattle.schema_fold.proofs.in_components.Places.{not_in_nil}
use Rattle.schema_fold.specs.NumberedDefinition.{numbered}
use Rattle.schema_fold.specs.BuildErrors.{FoldingRules}
use Rattle.schema_built_in.specs.Table.{built_in_definitions}
use Rattle.schema_fold_roots.specs.ListFold.{parts_given, roots_from, root_faults}
use Rattle.schema_fold_roots.proofs.FoldedSchema.{tells_roots}
use Rattle.schema_fold_roots.proofs.DirectiveFaults.{tells_directives}
use Rattle.schema_fold_types.specs.ListTypes.{faults_from, ExtendsNone}
use Rattle.schema_fold_types.proofs.FoldedTypes.{tells_types}
use Rattle.schema_fold_types.proofs.TellingMisplaced.{tells_misplaced}
use Rattle.schema_fold_lists.proofs.Folding.{told}

-- by computation over the table: it has no root, and each component of its types has a name of its own
no_roots : (first : ℕ) → [] ≡ root_faults (roots_from (parts_given (numbered first (built_in_definitions ++ []))))
unfolding built_in_definitions
no_roots first = refl

no_repeats : (first : ℕ) → [] ≡ faults_from (numbered first (built_in_definitions ++ [])) []
unfolding built_in_definitions
no_repeats first = refl

extends_none : (first : ℕ) → ExtendsNone (numbered first (built_in_definitions ++ []))
unfolding built_in_definitions
extends_none first = refl

pub built_in_rules : (first : ℕ) → FoldingRules built_in_definitions first []
built_in_rules first fault fails =
    let list = numbered first (built_in_definitions ++ []) in
    not_in_nil fault ((told built_in_definitions first [] fault [] [] [] []
    (tells_misplaced built_in_definitions [] [] [] refl fault)
    (tells_roots list [] [] (no_roots first) first built_in_definitions [] refl fault)
    (tells_directives built_in_definitions [] [] [] refl fault)
    (tells_types list [] [] [] (no_repeats first) (extends_none first) first built_in_definitions [] (append-nil list) fault)).1 fails)
