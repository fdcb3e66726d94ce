-- Private: leads to `specs/Messages.antt`. The text of a template with its gaps filled.
use Rattle.std.specs.Prelude.{ℕ, List, ◌++◌}
use Rattle.std.specs.Option.{option_map}
use Rattle.graphql_names.specs.Node.{content}
use Rattle.tree_literals.specs.ValueLayout.{type_text}
use Rattle.tree_literals.specs.ValueTree.{value_tree, unplaced_value}
use Rattle.tree_literals.specs.ValueQueries.{value_description}
use Rattle.tree_directives.specs.DirectivePlaces.{location_keyword}
use Rattle.schema_coordinates.specs.Coordinate.{printed}
use Rattle.schema_coordinates.specs.CoordinateView.{schema_coordinate, attribute_coordinate}
use Rattle.fault_data.specs.DiagnosticView.{plain_reference}
use Rattle.fault_data.specs.Messages.{dotted, fragment_words}
use Rattle.fault_data.specs.declared.template.Gap.{Gap}
use Rattle.fault_data.specs.declared.template.Gap.TheVariants as gap
use Rattle.fault_data.specs.declared.template.Template.{Template}
use Rattle.fault_data.specs.declared.template.Template.TheVariants.{Whole, One, Two, Three, Four, Five}

abbrev pub gap_text : Gap → List ℕ
gap_text (gap.Name n) = n.now.text
gap_text (gap.Words w) = w.now
gap_text (gap.«Type» t) = type_text (plain_reference t.now)
gap_text (gap.TypeNode t) = type_text (plain_reference (content t.now))
gap_text (gap.Kind v) = value_description (unplaced_value (value_tree (content v.now)))
gap_text (gap.Location l) = location_keyword l
gap_text (gap.Coordinate c) = printed (schema_coordinate c.now)
gap_text (gap.Attribute c) = printed (attribute_coordinate c.now)
gap_text (gap.FieldOf t f) = dotted t.now.text f.now.text
gap_text (gap.Fragment n) = fragment_words (option_map (λ m. m.text) n.now)

abbrev pub filled : Template → List ℕ
filled (Whole a) = a.now
filled (One a x b) = a.now ++ (gap_text x ++ b.now)
filled (Two a x b y c) = a.now ++ (gap_text x ++ (b.now ++ (gap_text y ++ c.now)))
filled (Three a x b y c z d) = a.now ++ (gap_text x ++ (b.now ++ (gap_text y ++ (c.now ++ (gap_text z ++ d.now)))))
filled (Four a x b y c z d u e) = a.now ++ (gap_text x ++ (b.now ++ (gap_text y ++ (c.now ++ (gap_text z ++ (d.now ++ (gap_text u ++ e.now)))))))
filled (Five a x b y c z d u e v g) = a.now ++ (gap_text x ++ (b.now ++ (gap_text y ++ (c.now ++ (gap_text z ++ (d.now ++ (gap_text u ++ (e.now ++ (gap_text v ++ g.now)))))))))
