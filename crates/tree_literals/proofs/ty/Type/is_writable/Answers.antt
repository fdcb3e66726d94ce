use Rattle.std.proofs.Common.{sym}
use Rattle.tree_literals.specs.TypeTree.{type_tree}
use Rattle.tree_literals.proofs.TypeLaws.{types_are_writable}
use Rattle.tree_literals.proofs.ty.«Type».is_writable.Goals as goal

pub returns-clause-value : goal.returns-clause-value
returns-clause-value c = sym (types_are_writable (type_tree c.args.self.now))
