use Rattle.std.proofs.Common.{[], ◌∷◌, map, sym, ap, ◌∙◌}
use Rattle.std.proofs.lemmas.List.{map-append}
use Rattle.std.proofs.lemmas.Result.{IfOk-weaker}
use Rattle.schema_fold_types.proofs.Seeing.{kind_entry, type_seen, type_new}
use Rattle.schema_fold_types.proofs.defined_kinds.DefinedKinds.add_type.Goals as goal

pub returns-then-contains_key-clause-kinds : goal.returns-then-contains_key-clause-kinds
returns-then-contains_key-clause-kinds c = type_seen c.args.self.now.kinds.entries c.args.name.now.text c.args.kind (sym c.contains_key.ensures ∙ c.if-contains_key.true)

pub returns-clause-kinds : goal.returns-clause-kinds
returns-clause-kinds c =
    let es = c.args.self.now.kinds.entries in
    let name = c.args.name.now in
    let kind = c.args.kind in
    IfOk-weaker _ _ _ (λ _ h. type_new es name.text kind (map kind_entry c.insert_new.new.map.entries) (sym c.contains_key.ensures ∙ c.if-contains_key.false)
    (ap (map kind_entry) h ∙ map-append kind_entry es ((name, kind) ∷ []))) c.insert_new.ensures
