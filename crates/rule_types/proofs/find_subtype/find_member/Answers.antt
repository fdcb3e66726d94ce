use Rattle.std.proofs.Common.{ap, ◌∙◌, map}
use Rattle.graphql_names.specs.NameValue.{NameValue}
use Rattle.schema_components.specs.Lists.{is_among}
use Rattle.schema_components.specs.Given.{component_name_tree, given_name}
use Rattle.rule_types.proofs.Listed.{among_listed}
use Rattle.rule_types.proofs.find_subtype.find_member.Goals as goal

pub returns : goal.returns
returns c =
    c.contains.ensures
    ∙ among_listed c.in_ok-member.member.name c.args.union.now.members.keys
    ∙ ap (λ (n : NameValue). is_among n.text (map given_name (map component_name_tree c.args.union.now.members.keys))) c.in_ok-member.ensures
