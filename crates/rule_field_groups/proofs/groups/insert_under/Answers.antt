use Rattle.std.proofs.Common.{◌≡◌, [], ◌∷◌, ◌++◌, ap, ◌∙◌}
use Rattle.indexmap.specs.IndexMap.{insert_entry}
use Rattle.indexmap.proofs.CallerLemmas.{insert_entry-new}
use Rattle.rule_selection_queries.specs.in_definitions.in_components.Names.{same_text}
use Rattle.schema_types.specs.TypeView.{name_text}
use Rattle.schema_fold_index.proofs.Under.{under_new}
use Rattle.rule_field_groups.proofs.Filing.{count_new}
use Rattle.rule_field_groups.proofs.groups.insert_under.Goals as goal

-- the list has the field alone, and the entry goes last
added : (c : goal.Joined-branch-4) → c.push.new.self.items ≡ c.args.field ∷ []
added c = c.in_ok-push.ensures.items ∙ ap (λ xs. xs ++ c.args.field ∷ []) c.new-fields.ensures.items

last : (c : goal.Joined-branch-4) → c.insert.new.self.entries ≡ c.args.index.now.entries ++ (c.args.name.now, c.push.new.self) ∷ []
last c =
    let old = c.args.index.now in
    c.in_ok-insert.ensures.entries ∙ ap (λ n. insert_entry (same_text name_text) old.entries n c.push.new.self) c.in_ok-name.ensures.same
    ∙ insert_entry-new (same_text name_text) old c.args.name.now c.push.new.self c.requires

pub returns-clause-under : goal.returns-clause-under
returns-clause-under c = under_new c.args.index.now.entries c.insert.new.self.entries c.args.field c.args.name.now c.push.new.self c.requires (added c) (last c)

pub returns-clause-counted : goal.returns-clause-counted
returns-clause-counted c = count_new c.args.name.now c.push.new.self c.args.field (added c) c.args.index.now.entries c.insert.new.self.entries (last c)
