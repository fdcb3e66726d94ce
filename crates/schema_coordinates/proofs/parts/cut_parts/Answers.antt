use Rattle.std.proofs.Common.{arith, sym, ◌∙◌, ap}
use Rattle.std.proofs.lemmas.Str.Pattern.{strip_prefix_char}
use Rattle.schema_coordinates.proofs.CoordinateReads.{stripped, stripped_cut}
use Rattle.schema_coordinates.proofs.parts.cut_parts.Goals as goal

pub returns-in-None : goal.returns-in-None
returns-in-None c = c.type_parts.ensures ∙ sym (stripped c.args.text.now c.strip_prefix.result (strip_prefix_char 64 c.args.text.now c.strip_prefix.result c.strip_prefix.ensures.cases (omega arith)) ∙ ap (stripped_cut c.args.text.now) c.in-None.is)

pub returns-in-Some : goal.returns-in-Some
returns-in-Some c = c.directive_parts.ensures ∙ sym (stripped c.args.text.now c.strip_prefix.result (strip_prefix_char 64 c.args.text.now c.strip_prefix.result c.strip_prefix.ensures.cases (omega arith)) ∙ ap (stripped_cut c.args.text.now) c.in-Some.is)
