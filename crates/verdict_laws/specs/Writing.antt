-- What is written of lists that are rearranged is rearranged: the same definitions and extensions, apart from places, in some order
-- (GraphQL, October 2021, section 3).
use Rattle.std.specs.Prelude.{ℕ}
use Rattle.schema_fold.specs.NumberedDefinition.{Definitions}
use Rattle.verdict_laws.specs.Table.{AreOwn}
use Rattle.verdict_laws.specs.Twice.{WrittenOf}
use Rattle.verdict_laws.specs.RearrangedLists.{IsRearranged}
use Rattle.verdict_laws.specs.Permuting.{IsPermuted}

-- no folding rule need hold
abbrev pub RearrangedWritesAlike : Type 0
RearrangedWritesAlike = (built_in : Definitions) (i j : ℕ) (ds es : Definitions) → IsRearranged ds es → AreOwn ds → AreOwn es
    → IsRearranged (WrittenOf built_in i ds) (WrittenOf built_in j es)

-- since no operation or fragment is written, what is written is permuted
abbrev pub RearrangedWritesPermuted : Type 0
RearrangedWritesPermuted = (built_in : Definitions) (i j : ℕ) (ds es : Definitions) → IsRearranged ds es → AreOwn ds → AreOwn es
    → IsPermuted (WrittenOf built_in i ds) (WrittenOf built_in j es)
