use Rattle.std.proofs.Common.{[], sym, ◌∙◌, if◌then◌else◌}
use Rattle.schema_building.specs.Building.{orphan_names}
use Rattle.schema_building.specs.KeptView.{definitions}
use Rattle.schema_building.specs.Waiting.{left_kinds}
use Rattle.schema_building.proofs.Keeping.{from_kept, lent_are}
use Rattle.schema_building.proofs.state.Building.iter_orphan_extension_types.Goals as goal

pub returns : goal.returns
returns c =
    let b = c.args.self.now in
    let ds = definitions b.texts in
    lent_are ds b.texts.index (from_kept b.texts (b.kept c.if-self.false)).1 (left_kinds c.of.result) c.of.ensures
    ∙ (λ i. if sym c.if-self.false i then [] else orphan_names ds)
