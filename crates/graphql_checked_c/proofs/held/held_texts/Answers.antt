use Rattle.graphql_checked_c.proofs.Named.{as_many}
use Rattle.graphql_checked_c.proofs.held.held_texts.Goals as goal

pub with_lines-requires : goal.with_lines-requires
with_lines-requires c =
    as_many c.args.names.now c.args.name_ends.now c.args.texts.now c.args.ends.now c.in_ok-names.names.items c.in_ok-texts.texts.items c.deref.result.now c.deref-2.result.now
    c.in_ok-names.ensures.texts c.in_ok-texts.ensures.texts c.if-name_ends-ends.false c.deref.ensures.value c.deref-2.ensures.value
