-- The laws of the texts of a log.
use Rattle.std.proofs.Common.{◌≡◌, ℕ, ◌+◌, ◌<◌, List, ◌++◌, codes, drop, get_or, length, sym, ap, ◌∙◌, add-one}
use Rattle.std.proofs.lemmas.List.{append_assoc, at_drop_more}
use Rattle.report_forms.specs.declared.entry.Related.{Related}
use Rattle.report_forms.specs.declared.entry.Entry.{Entry}
use Rattle.report_cli.specs.Sarif.{related_text, related_from, result_text, results_text}

-- a text and what is left, after one more piece
one_more : (old new piece left left_before all : List ℕ) → new ≡ old ++ piece → left_before ≡ piece ++ left → old ++ left_before ≡ all → new ++ left ≡ all
one_more old new piece left left_before all n b h = ap (λ l. l ++ left) n ∙ append_assoc old piece left ∙ ap (λ l. old ++ l) (sym b) ∙ h

-- one more of the other places
pub related_more : (rs : List Related) (id : ℕ) (d : Related) (before old new all : List ℕ) → id < length rs
    → new ≡ old ++ (before ++ related_text id (get_or rs id d)) → old ++ related_from before id (drop id rs) ≡ all
    → new ++ related_from (codes ",") (id + 1) (drop (id + 1) rs) ≡ all
related_more rs id d before old new all l n h =
    let piece = before ++ related_text id (get_or rs id d) in
    one_more old new piece (related_from (codes ",") (id + 1) (drop (id + 1) rs)) (related_from before id (drop id rs)) all n
    (at_drop_more (related_from before id) rs id d l ∙ ap (λ k. piece ++ related_from (codes ",") k (drop (id + 1) rs)) (sym (add-one id))) h

-- one more result
pub results_more : (es : List Entry) (k : ℕ) (d : Entry) (before old new all : List ℕ) → k < length es
    → new ≡ old ++ (before ++ result_text (get_or es k d)) → old ++ results_text before (drop k es) ≡ all
    → new ++ results_text (codes ",\n") (drop (k + 1) es) ≡ all
results_more es k d before old new all l n h =
    one_more old new (before ++ result_text (get_or es k d)) (results_text (codes ",\n") (drop (k + 1) es)) (results_text before (drop k es)) all n
    (at_drop_more (results_text before) es k d l) h

-- a result from its parts
abbrev pub result_of : List ℕ → List ℕ → List ℕ → List ℕ → List ℕ → List ℕ
result_of rule level message location related =
    codes "{\"ruleId\":" ++ (rule ++ (codes ",\"level\":\"" ++ (level ++ (codes "\",\"message\":{\"text\":" ++ (message
    ++ (codes "},\"locations\":[{" ++ (location ++ (codes "}],\"relatedLocations\":[" ++ (related ++ codes "]}")))))))))

pub result_made : (rule level message location related : List ℕ) {rule' level' message' location' related' : List ℕ}
    → rule ≡ rule' → level ≡ level' → message ≡ message' → location ≡ location' → related ≡ related'
    → result_of rule level message location related ≡ result_of rule' level' message' location' related'
result_made rule level message location related {rule'} {level'} {message'} {location'} r l m p o =
    ap (λ x. result_of x level message location related) r ∙ ap (λ x. result_of rule' x message location related) l
    ∙ ap (λ x. result_of rule' level' x location related) m ∙ ap (λ x. result_of rule' level' message' x related) p
    ∙ ap (λ x. result_of rule' level' message' location' x) o
