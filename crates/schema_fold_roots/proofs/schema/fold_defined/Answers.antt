use Rattle.std.proofs.Common.{◌≡◌, ◌∷◌, None, map, ap, ◌∙◌}
use Rattle.std.specs.List.{flat_map}
use Rattle.std.specs.Option.{option_map}
use Rattle.std.proofs.lemmas.Result.{IfOk-weaker}
use Rattle.graphql_names.specs.Node.{content, place}
use Rattle.graphql_names.specs.Placed.{text_tree}
use Rattle.schema_fold.specs.in_definitions.DefinitionTree.{schema_parts}
use Rattle.schema_fold.specs.in_schema_types.TypeView.{schema_roots}
use Rattle.schema_fold.specs.SchemaFold.{extends_schema}
use Rattle.schema_fold.specs.ListedView.{listed_view}
use Rattle.schema_fold_roots.specs.ListFold.{schema_from}
use Rattle.schema_fold_roots.specs.RootFold.{all_from, made_from}
use Rattle.schema_fold_roots.specs.RootsView.{all_of_schema}
use Rattle.schema_fold_roots.proofs.schema.fold_defined.Goals as goal

pub returns-clause-folded : goal.returns-clause-folded
returns-clause-folded c =
    let defined = c.args.defined.now in
    let description_is = c.in_ok-description.ensures ∙ ap (λ s. s.description) c.content-2.ensures in
    let all_is = c.in_ok-all.ensures ∙ ap (λ s. all_from (record { extension = None; it = schema_parts s } ∷ flat_map extends_schema (map listed_view c.args.list.now))) c.content.ensures in
    IfOk-weaker c.make_schema.result (λ n. schema_roots n ≡ made_from c.location.result (option_map text_tree c.in_ok-description.description) (all_of_schema c.in_ok-all.all))
    (λ n. schema_roots n ≡ schema_from (place defined) (option_map text_tree (content defined).description) (record { extension = None; it = schema_parts (content defined) } ∷ flat_map extends_schema (map listed_view c.args.list.now)))
    (λ n h. h ∙ (λ i. made_from (c.location.ensures i) (option_map text_tree (description_is i)) (all_is i))) c.make_schema.ensures.made
