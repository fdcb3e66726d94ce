-- The written schema text leads back.
use Rattle.std.proofs.Common.{◌≡◌, ◌≢◌, ◌≤◌, true, List, [], ◌∷◌, sym, ap, ◌∙◌, arith}
use Rattle.std.specs.List.{list_all}
use Rattle.graphql_names.specs.Placed.{Place}
use Rattle.tree_definitions.specs.DefinitionTree.{unplaced_document}
use Rattle.round_trip.specs.Definitions.{definition_well_formed}
use Rattle.round_trip.specs.TreeDepth.{document_depth}
use Rattle.schema_types.specs.SchemaTree.{SchemaTree}
use Rattle.schema_built_in.specs.Table.{built_in_definitions}
use Rattle.schema_fold.specs.NumberedDefinition.{Definitions}
use Rattle.schema_fold.specs.Fold.{fold}
use Rattle.schema_fold.specs.BuildErrors.{FoldingRules}
use Rattle.schema_building.specs.Numbers.{extension_count}
use Rattle.rule_definitions.specs.Laws.{AreEqual}
use Rattle.rule_definitions.proofs.Same as rules
use Rattle.verdict_laws.specs.Table.{AreOwn}
use Rattle.verdict_laws.proofs.RealTable.{real_table}
use Rattle.verdict_laws.proofs.Depth.{out_fits}
use Rattle.verdict_laws.proofs.Twice.{written_twice}
use Rattle.verdict_laws.proofs.AcceptedAgain.{accepted_again}
use Rattle.verdict_laws.specs.Elsewhere.{AreAllElsewhere}
use Rattle.verdict_laws.proofs.RearrangedLists.{cut}
use Rattle.verdict_laws.proofs.Faults.{keep_the_rules}
use Rattle.verdict_laws.proofs.Marks.{are_equal}
use Rattle.verdict_laws.proofs.EqualAfter.{equal_after}
use Rattle.rule_schema_laws.proofs.Distinct.{folds_distinct}
use Rattle.verdict_laws.proofs.Cut.{writes_alike}
use Rattle.verdict_laws.proofs.ReadTexts.{is_own_list}
use Rattle.verdict_definitions.specs.Texts.{SourceText, Tree, Terms}
use Rattle.verdict_definitions.specs.Meaning.{all_definitions, schema_of, document_schema}
use Rattle.verdict_definitions.specs.Judge.{AreSchemasAccepted}
use Rattle.verdict_definitions.specs.Out.{Out, Layout}
use Rattle.verdict_laws.proofs.Schemas.{schemas}
use Rattle.verdict_laws.specs.RoadBack.{IsPlainLayout, IsLaidOutText, IsSameTree, SchemaLeadsBack, SchemaRoadBack}
use Rattle.verdict_laws.proofs.SomeBracket.{some_nesting, first_left}
use Rattle.verdict_laws.proofs.FormedDocuments.{all_formed}
use Rattle.verdict_laws.proofs.StaysSo.{out_formed, out_elsewhere}
use Rattle.verdict_laws.proofs.SameMarks.{out_equal}
use Rattle.verdict_laws.proofs.Counting.{no_more, same_count, numbers_suffice}
use Rattle.verdict_laws.proofs.ReadBack.{ReadsBack, reads_back, written_alike, texts_depth, read_elsewhere, one_tree}

abbrev pub joined : (a b c : SchemaTree Place) → AreEqual a b → AreEqual b c → AreEqual a c
joined a b c one two = record { same = one.same ∙ two.same; marks = λ at. one.marks at ∙ two.marks at }

-- where schemas are equal, their schemas for documents are too
hands_equal : (terms : Terms) (trees other_trees : List Tree) → AreEqual (schema_of terms trees) (schema_of terms other_trees) → AreEqual (document_schema terms trees) (document_schema terms other_trees)
hands_equal terms trees other_trees equal =
    equal_after (schema_of terms trees) (schema_of terms other_trees)
    (folds_distinct built_in_definitions terms.first_extension (all_definitions trees)) (folds_distinct built_in_definitions terms.first_extension (all_definitions other_trees)) equal

module _ (terms : Terms) (texts : List SourceText) (other : terms.first_text ≢ 0) (first : AreSchemasAccepted terms texts) where
  abbrev ds : Definitions
  ds = all_definitions first.judged.trees

  abbrev out : Definitions
  out = Out terms first.judged.trees

  pub elsewhere : AreAllElsewhere ds
  elsewhere = read_elsewhere terms.first_text texts first.judged.trees other first.judged.read

  pub own : AreOwn ds
  own = is_own_list ds elsewhere

  pub away : AreAllElsewhere out
  away = out_elsewhere built_in_definitions terms.first_extension ds real_table own first.judged.folds elsewhere

  pub formed : list_all definition_well_formed out ≡ true
  formed = out_formed built_in_definitions terms.first_extension ds real_table own first.judged.folds (all_formed terms.first_text texts first.judged.trees first.judged.read)

  module _ (layout : Layout) (plain : IsPlainLayout layout) (text : SourceText) (is : IsLaidOutText layout out text) where
    back : ReadsBack terms.first_text text out
    back = reads_back terms.first_text layout plain out formed (schemas terms texts other first) text is

    abbrev trees : List Tree
    trees = back.tree ∷ []

    abbrev again : Definitions
    again = all_definitions trees

    same : IsSameTree again out
    same = ap unplaced_document (one_tree back.tree) ∙ back.same

    there : AreAllElsewhere again
    there = read_elsewhere terms.first_text (text ∷ []) trees other (back.read, tt)

    folds : FoldingRules built_in_definitions terms.first_extension again
    folds =
        (keep_the_rules built_in_definitions terms.first_extension terms.first_extension out again (cut out again (sym same))).0
        (accepted_again built_in_definitions terms.first_extension terms.first_extension ds real_table own first.judged.folds)

    equal : AreEqual (schema_of terms first.judged.trees) (schema_of terms trees)
    equal =
        joined (schema_of terms first.judged.trees) (fold built_in_definitions terms.first_extension out) (schema_of terms trees)
        (out_equal built_in_definitions terms.first_extension terms.first_extension ds first.judged.folds real_table own elsewhere away)
        (are_equal built_in_definitions terms.first_extension terms.first_extension out again (cut out again (sym same)) away there)

    deep : document_depth out ≤ terms.nesting
    deep = out_fits terms.nesting (some_nesting terms texts first) built_in_definitions terms.first_extension ds real_table own first.judged.folds (texts_depth terms.nesting terms.first_text texts first.judged.trees first.judged.read first.within)

    fewer : extension_count again ≤ extension_count ds
    fewer = let a = same_count again out same in let b = no_more terms.first_extension ds own first.judged.folds in omega (arith, a, b)

    abbrev accepted : AreSchemasAccepted terms (text ∷ [])
    accepted = record {
      judged = record {
        trees = trees;
        read = (back.read, tt);
        folds = folds;
        holds = (rules.same_verdict (schema_of terms first.judged.trees) (schema_of terms trees) equal).0 first.judged.holds;
      };
      within = (record { nests = back.nests terms.nesting deep; numbered = first_left terms texts first }, tt);
      numbered = numbers_suffice terms.first_extension ds again fewer first.numbered;
    }

    written : IsSameTree (Out terms trees) out
    written =
        writes_alike built_in_definitions terms.first_extension terms.first_extension again out same (is_own_list again there) (is_own_list out away)
        ∙ ap unplaced_document (written_twice built_in_definitions terms.first_extension terms.first_extension ds real_table own first.judged.folds)

    pub leads_back : SchemaLeadsBack terms texts first text
    leads_back = record {
      accepted = accepted;
      read_back = same;
      equal = equal;
      for_documents = hands_equal terms first.judged.trees trees equal;
      written = written_alike (Out terms trees) out written;
    }

pub schema_road_back : SchemaRoadBack
schema_road_back terms texts other first layout plain text is = leads_back terms texts other first layout plain text is
