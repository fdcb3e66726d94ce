use Rattle.std.proofs.Common.{◌≡◌, map, drop}
use Rattle.schema_types.specs.TypeView.{name_text}
use Rattle.rule_fragments.specs.Held.{share_one}
use Rattle.rule_fragments.proofs.possible_types.some_is_in.Given as goal

abbrev pub invariant-loop-name : goal.invariant-loop-name
invariant-loop-name l = share_one (map name_text l.names.keys) (map name_text l.set.keys) ≡ share_one (map name_text (drop l.name-index l.name-items)) (map name_text l.set.keys)
