use Rattle.std.proofs.Common.{sym, ◌∙◌}
use Rattle.schema_fold_types.proofs.Seeing.{lookup_entry}
use Rattle.schema_fold_types.proofs.defined_kinds.DefinedKinds.kind.Goals as goal

pub returns-in-None : goal.returns-in-None
returns-in-None c = c.in-None.ensures.value ∙ sym (lookup_entry c.args.name.now.text c.args.self.now.kinds.entries)

pub returns-in-Some : goal.returns-in-Some
returns-in-Some c = c.in-Some.ensures.value ∙ sym (lookup_entry c.args.name.now.text c.args.self.now.kinds.entries)
