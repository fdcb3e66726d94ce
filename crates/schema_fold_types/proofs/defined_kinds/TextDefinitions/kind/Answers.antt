use Rattle.std.proofs.Common.{sym, ap, ◌∙◌}
use Rattle.std.specs.Option.{option_map}
use Rattle.schema_fold_index.proofs.FiledKinds.{lookup_kind}
use Rattle.schema_fold_types.proofs.defined_kinds.TextDefinitions.kind.Goals as goal

pub returns-in-None : goal.returns-in-None
returns-in-None c = ap (option_map (λ f. f.kind)) c.in-None.ensures.value ∙ sym (lookup_kind c.args.name.now.text c.args.self.now.defined.now.entries)

pub returns-in-Some : goal.returns-in-Some
returns-in-Some c = ap (option_map (λ f. f.kind)) c.in-Some.ensures.value ∙ sym (lookup_kind c.args.name.now.text c.args.self.now.defined.now.entries)
