-- What is written of accepted texts, and under which layout.
use Rattle.std.specs.Prelude.{ℕ, List, ◌++◌, codes, Option, None, Some}
use Rattle.schema_types.specs.Out.{written}
use Rattle.document_typing.specs.OutDoc.{out_doc}
use Rattle.tree_definitions.specs.DocumentLayout.{document_text}
use Rattle.verdict_definitions.specs.Texts.{Tree, Terms}
use Rattle.verdict_definitions.specs.Meaning.{schema_of}

-- The written schema, as it was built: its definition unless it is implicit, the definitions of directives, and each type with
-- its extensions, without what is built in.
abbrev pub Out : Terms → List Tree → Tree
Out terms trees = written (schema_of terms trees)

-- The written document: its operations, one without a name first, and then its fragments, each in the order read.
abbrev pub OutDoc : Tree → Tree
OutDoc tree = out_doc tree

-- A layout is all on one line, or has a prefix that each level puts before its lines.
abbrev pub Layout : Type 0
Layout = Option (List ℕ)

-- the text of definitions under a layout
abbrev pub layout_text : Layout → Tree → List ℕ
layout_text layout tree = document_text layout 0 tree

-- the text with a line feed at its end: under a prefix it already has one
abbrev pub as_lines : Layout → List ℕ → List ℕ
as_lines None text = text ++ codes "\n"
as_lines (Some prefix) text = text
