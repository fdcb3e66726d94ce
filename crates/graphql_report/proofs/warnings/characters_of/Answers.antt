use Rattle.std.proofs.Common.{refl, sym, ap, ◌∙◌, [], take_all}
use Rattle.fault_data.specs.in_rule_definitions.Room.{◌⊕◌}
use Rattle.fault_data.proofs.in_rule_definitions.Room.{room_first}
use Rattle.report_forms.specs.declared.source.Source.{Source}
use Rattle.strict_documents.specs.Characters.{stretches_of}
use Rattle.graphql_report.specs.Warnings.{texts_departures}
use Rattle.graphql_report.proofs.Spelled.{text_more}
use Rattle.graphql_report.proofs.warnings.characters_of.Goals as goal

pub loop-index-preserved : goal.loop-index-preserved
loop-index-preserved c =
    text_more c.args.sources.now c.loop-index.index c.index-sources-index.result _ _ (stretches_of c.loop-index.characters) (stretches_of c.tell_characters.new.departures) c.loop-index-test.true refl
    (c.text.ensures ∙ ap (λ (s : Source). s.lines.now) c.index-sources-index.is) c.loop-index.invariant c.in_ok-tell_characters.ensures

pub returns : goal.returns
returns c =
    c.loop-index.invariant ∙ ap (λ l. [] ⊕ texts_departures 1 l) (take_all c.loop-index.index c.args.sources.now c.loop-index-test.false)
    ∙ room_first (texts_departures 1 c.args.sources.now)
