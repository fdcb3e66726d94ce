-- The program's arguments, as clap reads them: [--indent LAYOUT] [--nesting N] DOCUMENT SCHEMA...
use Rattle.std.specs.Prelude.{◌≡◌, true, [], ◌∷◌, map, codes, Some}
use Rattle.clap.specs.Lexer.{usize_max}
use Rattle.clap.specs.Words.{App, Rule, new_app, new_rule, with_rule}
use Rattle.clap.specs.declared.builder.action.ArgAction.TheVariants.{Set}
use Rattle.clap.specs.declared.builder.value_parser.ValueParser.{ValueParser}
use Rattle.clap.specs.declared.builder.value_parser.ValueParser.TheVariants.{Names, Unsigned}

-- the words for layouts, as clap holds them
abbrev pub AreLayoutNames : ValueParser → Type 0
AreLayoutNames names = (words : _) × (names ≡ Names words)
    × (map (λ word. word.now) words.now ≡ codes "line" ∷ codes "two" ∷ codes "four" ∷ codes "tab" ∷ [])

abbrev pub layout_rule : ValueParser → Rule
layout_rule names = record (new_rule (codes "indent")) {
  long = Some (codes "indent");
  value_names = 1;
  parser = Some names;
}

abbrev pub nesting_rule : Rule
nesting_rule = record (new_rule (codes "nesting")) {
  long = Some (codes "nesting");
  value_names = 1;
  parser = Some (Unsigned 1 1000);
}

abbrev pub document_rule : Rule
document_rule = record (new_rule (codes "DOCUMENT")) { action = Some Set; required = true }

abbrev pub schemas_rule : Rule
schemas_rule = record (new_rule (codes "SCHEMA")) {
  action = Some Set;
  range = Some (record { start_inclusive = 1; end_inclusive = usize_max });
  required = true;
}

abbrev pub program : ValueParser → App
program names = with_rule (with_rule (with_rule (with_rule (new_app (codes "graphql-checked"))
    (layout_rule names)) nesting_rule) document_rule) schemas_rule
