use Rattle.std.proofs.Common.{◌&&◌, is_some, refl, sym, ap, ◌∙◌}
use Rattle.tree_directives.specs.declared.operation_type.OperationType.TheVariants as operation
use Rattle.schema_types.specs.Out.{is_implicit_root}
use Rattle.schema_writing.specs.SchemaParts.{schema_and_types}
use Rattle.schema_writing.proofs.Written.{left_out}
use Rattle.schema_writing.proofs.implicit.is_left_out.Goals as goal

pub returns-then-not-is_bare : goal.returns-then-not-is_bare
returns-then-not-is_bare c =
    let n = c.args.definition.now in
    let s = schema_and_types n c.args.types.now in
    let d = s.definition in
    let implicit = is_implicit_root s.types operation.Query d.query && is_implicit_root s.types operation.Mutation d.mutation && is_implicit_root s.types operation.Subscription d.subscription && is_some d.query in
    sym (left_out n s c.args.extensions.now c.is_bare.result implicit refl c.requires c.is_bare.ensures refl ∙ ap (λ b. b && implicit) c.if-not-is_bare.true)

pub returns : goal.returns
returns c =
    let n = c.args.definition.now in
    let s = schema_and_types n c.args.types.now in
    sym (left_out n s c.args.extensions.now c.is_bare.result c.has_implicit_roots.result refl c.requires c.is_bare.ensures c.has_implicit_roots.ensures
    ∙ ap (λ b. b && c.has_implicit_roots.result) c.if-not-is_bare.false)
