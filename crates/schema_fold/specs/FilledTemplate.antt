-- Private: leads to `specs/Messages.antt`. The text of a template with its gaps filled.
use Rattle.std.specs.Prelude.{ℕ, List, ◌++◌}
use Rattle.schema_fold.specs.declared.build_error_text.Template.{Template}

abbrev pub filled : Template → List ℕ
filled t = t.front.now ++ (t.first.now ++ (t.middle.now ++ (t.second.now ++ t.back.now)))
