-- Lines of JSON, one after another.
use Rattle.std.proofs.Common.{◌≡◌, ℕ, suc, ◌+◌, ◌≤◌, Bool, List, ◌++◌, length, map, subst, arith}
use Rattle.report_forms.specs.Forms.{IsOneLine}
use Rattle.report_forms.specs.declared.entry.Entry.{Entry}
use Rattle.report_forms.specs.declared.source.Source.{Source}
use Rattle.verdict_definitions.specs.Says.{AnyFault}
use Rattle.graphql_checked_c.specs.declared.held.HeldText.{HeldText}
use Rattle.graphql_checked_c.specs.HeldTexts.{path_of, text_of}
use Rattle.graphql_checked_c.specs.Json.{AreLines, AreEntries, IsJson}

-- one more
pub lines_more : (count : ℕ) (bytes line new : List ℕ) → AreLines count bytes → IsOneLine line → new ≡ bytes ++ line → AreLines (count + 1) new
lines_more count bytes line new before one is =
    let e : suc count ≡ count + 1 = omega arith in
    let more : AreLines (suc count) new = (bytes, (line, (is, (before, one)))) in
    subst (λ n. AreLines n new) e more

-- all
pub lines_all : (count all : ℕ) (bytes : List ℕ) → all ≤ count → count ≤ all → AreLines count bytes → AreLines all bytes
lines_all count all bytes above below lines = let e : count ≡ all = omega (arith, above, below) in subst (λ n. AreLines n bytes) e lines

-- the report of the lines of its entries
pub json_told : (is_document : Bool) (held : List HeldText) (path document : List ℕ) (faults : List AnyFault) (sources given : List Source) (report entries : List Entry) (bytes : List ℕ)
    → map (λ (s : Source). s.path.now) sources ≡ map path_of held → map (λ (s : Source). s.lines.now) sources ≡ map text_of held → given ≡ sources
    → AreEntries is_document given path document faults report → entries ≡ report
    → AreLines (length entries) bytes → IsJson is_document held path document faults bytes
json_told is_document held path document faults sources given report entries bytes paths texts as_given told same lines = record {
  sources = sources;
  paths = paths;
  texts = texts;
  entries = report;
  told = subst (λ (all : List Source). AreEntries is_document all path document faults report) as_given told;
  lines = subst (λ (es : List Entry). AreLines (length es) bytes) same lines;
}
