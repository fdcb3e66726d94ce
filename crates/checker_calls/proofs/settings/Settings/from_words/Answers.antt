-- The command is the program's, so its matches are those of the words, with a value for each argument that has to be there.
use Rattle.std.proofs.Common.{◌∙◌, ◌≡◌, ap, map, sym, string_bytes}
use Rattle.clap.specs.Words.{App, app_of, fault_of, is_simple, is_simple_and_free, found_of, matches_of}
use Rattle.checker_calls.specs.Program.{program}
use Rattle.checker_calls.specs.ReadSettings.{IsReadOf}
use Rattle.checker_calls.proofs.Arguments.{document_there, nesting_accepted, schemas_there}
use Rattle.checker_calls.proofs.Taken.{memory_out, nesting_in_range, read_of, some_names, some_schemas}
use Rattle.checker_calls.proofs.settings.Settings.from_words.Goals as goal

pub returns-in_err-program_command-clause-read : goal.returns-in_err-program_command-clause-read
returns-in_err-program_command-clause-read c =
    let words = map string_bytes c.args.words.now in
    let out = memory_out c.from_residual.result (fault_of (program some_names.0) words) (IsReadOf (matches_of (program some_names.0) words)) c.from_residual.ensures.1 in
    (some_names.0, some_names.1, out.0, out.1)

pub returns-clause-read : goal.returns-clause-read
returns-clause-read c =
    let made = c.in_ok-program_command.field-0 in
    let names = c.in_ok-program_command.ensures.0 in
    let is : app_of made ≡ program names = c.in_ok-program_command.ensures.2 in
    let m = c.in_ok-matches.matches in
    let p = c.in_ok-matches.ensures.parsed in
    let words = map string_bytes c.args.words.now in
    let rows = (c.in_ok-matches.ensures.matches (ap is_simple is)).0 in (
      names,
      c.in_ok-program_command.ensures.1,
      sym (ap (λ (a : App). fault_of a words) is) ∙ c.in_ok-matches.ensures.kinds (ap is_simple_and_free is),
      read_of (found_of m) c.in_ok-read_settings.field-0 (matches_of (program names) words) (rows ∙ ap (λ (a : App). matches_of a words) is)
          c.in_ok-read_settings.ensures (document_there made names is m p) (schemas_there made names is m p) (nesting_accepted made names is m p),
    )

pub returns-clause-schemas : goal.returns-clause-schemas
returns-clause-schemas c =
    some_schemas (found_of c.in_ok-matches.matches) c.in_ok-read_settings.field-0 c.in_ok-read_settings.ensures
    (schemas_there c.in_ok-program_command.field-0 c.in_ok-program_command.ensures.0 c.in_ok-program_command.ensures.2 c.in_ok-matches.matches c.in_ok-matches.ensures.parsed)

pub returns-clause-nesting : goal.returns-clause-nesting
returns-clause-nesting c =
    nesting_in_range (found_of c.in_ok-matches.matches) c.in_ok-read_settings.field-0 c.in_ok-read_settings.ensures
    (nesting_accepted c.in_ok-program_command.field-0 c.in_ok-program_command.ensures.0 c.in_ok-program_command.ensures.2 c.in_ok-matches.matches c.in_ok-matches.ensures.parsed)
