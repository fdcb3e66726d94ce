-- The text reads as what is built in.
use Rattle.std.proofs.Common.{◌≡◌, true, Ok, Err, refl}
use Rattle.graphql_names.specs.declared.span.FileId.{FileId}
use Rattle.read_operations.specs.in_tokens.Lex.{Lex}
use Rattle.read_operations.specs.in_grammar.Meaning.{start}
use Rattle.read_operations.specs.Meanings.{in_file}
use Rattle.read_operations.proofs.in_grammar.Laws.{document_found, document_within}
use Rattle.schema_built_in.specs.Table.{built_in_definitions}
use Rattle.rule_schema_laws.specs.BuiltInText.{built_in_text}
use Rattle.rule_schema_laws.specs.BuiltInTextReads.{TextReads}
use Rattle.rule_schema_laws.proofs.BuiltInPieces.{pieces, pieces_are}
use Rattle.rule_schema_laws.proofs.BuiltInParsing.{Answer, trees, following, is_read, tokens, answer, answer_read, same_trees}

read_as : (a : Answer) → is_read a ≡ true → a ≡ Ok (trees a, following a)
read_as (Ok p) e = refl
read_as (Err f) e = absurd cc

lexed : Lex built_in_text tokens
lexed = record { pieces = pieces; are = pieces_are; found = refl }

pub text_reads : (file : FileId) → TextReads file
unfolding built_in_definitions
text_reads file =
    let found : answer file ≡ Ok (trees (answer file), following (answer file)) = read_as (answer file) (answer_read file) in
    record {
      tokens = tokens;
      tree = trees (answer file);
      lexed = lexed;
      derived = document_found (in_file file) 2 (start tokens) refl (trees (answer file)) (following (answer file)) found;
      within = document_within (in_file file) 2 (start tokens) refl (trees (answer file)) (following (answer file)) found;
      same = same_trees file;
    }
