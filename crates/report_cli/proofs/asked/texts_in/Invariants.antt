use Rattle.std.proofs.Common.{◌≡◌, ◌++◌, map, drop, string_bytes}
use Rattle.std.specs.Prelude.{option_map}
use Rattle.serde_json.specs.View.{items_view}
use Rattle.report_cli.specs.Asked.{texts_in}
use Rattle.report_cli.proofs.asked.texts_in.Given as goal

abbrev pub invariant-loop-value : goal.invariant-loop-value
invariant-loop-value l = option_map (λ ts. map string_bytes l.texts.items ++ ts) (texts_in (items_view (drop l.value-index l.values))) ≡ texts_in (items_view l.values)
