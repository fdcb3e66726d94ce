-- Texts that are made of parts.
use Rattle.std.proofs.Common.{◌≡◌, ℕ, List, ◌++◌, String, codes, decimal, string_bytes, refl, sym, ap, ◌∙◌}
use Rattle.std.specs.Prelude.{Option, None, Some, option_map, Result, Ok, Err, IfOk, OnOk}
use Rattle.std.specs.Borrow.{Bor}
use Rattle.std.specs.Option.{unwrap_or}
use Rattle.std.proofs.lemmas.List.{append_assoc}
use Rattle.json.specs.Print.{quoted}
use Rattle.report_cli.specs.Answers.{begun_text, accepted_text, refused_text, schema_accepted_text, schema_refused_text, id_or_null, unread_text}
use Rattle.report_cli.specs.declared.tally.Tally.{Tally}

-- parts, grouped from the end and from the front
pub three : (a b c : List ℕ) → a ++ (b ++ c) ≡ (a ++ b) ++ c
three a b c = sym (append_assoc a b c)

pub four : (a b c d : List ℕ) → a ++ (b ++ (c ++ d)) ≡ ((a ++ b) ++ c) ++ d
four a b c d = three a b (c ++ d) ∙ three (a ++ b) c d

five : (a b c d e : List ℕ) → a ++ (b ++ (c ++ (d ++ e))) ≡ (((a ++ b) ++ c) ++ d) ++ e
five a b c d e = three a b (c ++ (d ++ e)) ∙ four (a ++ b) c d e

six : (a b c d e f : List ℕ) → a ++ (b ++ (c ++ (d ++ (e ++ f)))) ≡ ((((a ++ b) ++ c) ++ d) ++ e) ++ f
six a b c d e f = three a b (c ++ (d ++ (e ++ f))) ∙ five (a ++ b) c d e f

seven : (a b c d e f g : List ℕ) → a ++ (b ++ (c ++ (d ++ (e ++ (f ++ g))))) ≡ (((((a ++ b) ++ c) ++ d) ++ e) ++ f) ++ g
seven a b c d e f g = three a b (c ++ (d ++ (e ++ (f ++ g)))) ∙ six (a ++ b) c d e f g

pub eight : (a b c d e f g h : List ℕ) → a ++ (b ++ (c ++ (d ++ (e ++ (f ++ (g ++ h)))))) ≡ ((((((a ++ b) ++ c) ++ d) ++ e) ++ f) ++ g) ++ h
eight a b c d e f g h = three a b (c ++ (d ++ (e ++ (f ++ (g ++ h))))) ∙ seven (a ++ b) c d e f g h

nine : (a b c d e f g h i : List ℕ) → a ++ (b ++ (c ++ (d ++ (e ++ (f ++ (g ++ (h ++ i))))))) ≡ (((((((a ++ b) ++ c) ++ d) ++ e) ++ f) ++ g) ++ h) ++ i
nine a b c d e f g h i = three a b (c ++ (d ++ (e ++ (f ++ (g ++ (h ++ i)))))) ∙ eight (a ++ b) c d e f g h i

ten : (a b c d e f g h i j : List ℕ)
    → a ++ (b ++ (c ++ (d ++ (e ++ (f ++ (g ++ (h ++ (i ++ j)))))))) ≡ ((((((((a ++ b) ++ c) ++ d) ++ e) ++ f) ++ g) ++ h) ++ i) ++ j
ten a b c d e f g h i j = three a b (c ++ (d ++ (e ++ (f ++ (g ++ (h ++ (i ++ j))))))) ∙ nine (a ++ b) c d e f g h i j

-- the lines that answer, and the records
pub accepted_made : (id written members : List ℕ)
    → codes "{\"id\":" ++ (id ++ (codes ",\"accepted\":true,\"written\":" ++ (quoted written ++ (members ++ codes "}\n")))) ≡ accepted_text id written members
accepted_made id written members = seven (codes "{\"id\":") id (codes ",\"accepted\":") (codes "true,\"written\":") (quoted written) members (codes "}\n")

pub refused_made : (id faults : List ℕ) (left_out : ℕ)
    → codes "{\"id\":" ++ (id ++ (codes ",\"accepted\":false,\"faults\":[" ++ (faults ++ (codes "],\"left_out\":" ++ (decimal left_out ++ codes "}\n"))))) ≡ refused_text id faults left_out
refused_made id faults left_out = eight (codes "{\"id\":") id (codes ",\"accepted\":") (codes "false,\"faults\":[") faults (codes "],\"left_out\":") (decimal left_out) (codes "}\n")

pub schema_accepted_made : (id members : List ℕ)
    → codes "{\"id\":" ++ (id ++ (codes ",\"schema\":\"accepted\"" ++ (members ++ codes "}\n"))) ≡ schema_accepted_text id members
schema_accepted_made id members = six (codes "{\"id\":") id (codes ",\"schema\":") (codes "\"accepted\"") members (codes "}\n")

pub schema_refused_made : (id faults : List ℕ) (left_out : ℕ)
    → codes "{\"id\":" ++ (id ++ (codes ",\"schema\":\"refused\",\"faults\":[" ++ (faults ++ (codes "],\"left_out\":" ++ (decimal left_out ++ codes "}\n")))))
    ≡ schema_refused_text id faults left_out
schema_refused_made id faults left_out =
    eight (codes "{\"id\":") id (codes ",\"schema\":") (codes "\"refused\",\"faults\":[") faults (codes "],\"left_out\":") (decimal left_out) (codes "}\n")

pub wrong_made : (id : List ℕ) (number : ℕ) (why : List ℕ)
    → codes "{\"id\":" ++ (id ++ (codes ",\"accepted\":false,\"line\":" ++ (decimal number ++ (codes ",\"error\":\"" ++ (why ++ codes "\"}\n")))))
    ≡ begun_text id ++ codes "false,\"line\":" ++ decimal number ++ codes ",\"error\":\"" ++ why ++ codes "\"}\n"
wrong_made id number why = eight (codes "{\"id\":") id (codes ",\"accepted\":") (codes "false,\"line\":") (decimal number) (codes ",\"error\":\"") why (codes "\"}\n")

pub unread_made : (kind path reason : List ℕ)
    → codes "{\"" ++ (kind ++ (codes "\":" ++ (quoted path ++ (codes ",\"read\":false,\"error\":" ++ (quoted reason ++ codes "}\n"))))) ≡ unread_text kind path reason
unread_made kind path reason = seven (codes "{\"") kind (codes "\":") (quoted path) (codes ",\"read\":false,\"error\":") (quoted reason) (codes "}\n")

-- whether it is accepted, and its faults, between other parts
judged_between : (front accepted faults back : List ℕ)
    → front ++ (codes ",\"accepted\":" ++ (accepted ++ (codes ",\"faults\":" ++ (faults ++ back)))) ≡ front ++ (codes ",\"accepted\":" ++ accepted ++ codes ",\"faults\":" ++ faults) ++ back
judged_between front accepted faults back =
    ap (λ l. front ++ l) (five (codes ",\"accepted\":") accepted (codes ",\"faults\":") faults back) ∙ three front (codes ",\"accepted\":" ++ accepted ++ codes ",\"faults\":" ++ faults) back

pub schema_made : (paths accepted : List ℕ) (faults : ℕ) (warnings : List ℕ)
    → codes "{\"schema\":[" ++ (paths ++ (codes "],\"accepted\":" ++ (accepted ++ (codes ",\"faults\":" ++ (decimal faults ++ (warnings ++ codes "}\n"))))))
    ≡ codes "{\"schema\":[" ++ paths ++ codes "]" ++ (codes ",\"accepted\":" ++ accepted ++ codes ",\"faults\":" ++ decimal faults) ++ warnings ++ codes "}\n"
schema_made paths accepted faults warnings =
    let front = codes "{\"schema\":[" ++ paths ++ codes "]" in
    four (codes "{\"schema\":[") paths (codes "]") (codes ",\"accepted\":" ++ (accepted ++ (codes ",\"faults\":" ++ (decimal faults ++ (warnings ++ codes "}\n")))))
    ∙ judged_between front accepted (decimal faults) (warnings ++ codes "}\n")
    ∙ three (front ++ (codes ",\"accepted\":" ++ accepted ++ codes ",\"faults\":" ++ decimal faults)) warnings (codes "}\n")

pub document_made : (path accepted : List ℕ) (faults : ℕ) (warnings : List ℕ)
    → codes "{\"document\":" ++ (path ++ (codes ",\"accepted\":" ++ (accepted ++ (codes ",\"faults\":" ++ (decimal faults ++ (warnings ++ codes "}\n"))))))
    ≡ codes "{\"document\":" ++ path ++ (codes ",\"accepted\":" ++ accepted ++ codes ",\"faults\":" ++ decimal faults) ++ warnings ++ codes "}\n"
document_made path accepted faults warnings =
    let front = codes "{\"document\":" ++ path in
    three (codes "{\"document\":") path (codes ",\"accepted\":" ++ (accepted ++ (codes ",\"faults\":" ++ (decimal faults ++ (warnings ++ codes "}\n")))))
    ∙ judged_between front accepted (decimal faults) (warnings ++ codes "}\n")
    ∙ three (front ++ (codes ",\"accepted\":" ++ accepted ++ codes ",\"faults\":" ++ decimal faults)) warnings (codes "}\n")

pub summary_made : (t : Tally) (warnings : List ℕ)
    → codes "{\"summary\":{\"documents\":" ++ (decimal t.documents ++ (codes ",\"refused\":" ++ (decimal t.refused ++ (codes ",\"unread\":"
    ++ (decimal t.unread ++ (codes ",\"faults\":" ++ (decimal t.faults ++ (warnings ++ codes "}}\n"))))))))
    ≡ codes "{\"summary\":{\"documents\":" ++ decimal t.documents ++ codes ",\"refused\":" ++ decimal t.refused ++ codes ",\"unread\":" ++ decimal t.unread
    ++ codes ",\"faults\":" ++ decimal t.faults ++ warnings ++ codes "}}\n"
summary_made t warnings =
    ten (codes "{\"summary\":{\"documents\":") (decimal t.documents) (codes ",\"refused\":") (decimal t.refused) (codes ",\"unread\":") (decimal t.unread)
    (codes ",\"faults\":") (decimal t.faults) warnings (codes "}}\n")

-- the id that is shown
pub shown_id : (id : Option (Bor (List ℕ))) (null : Bor (List ℕ)) → null.now ≡ codes "null" → (unwrap_or id null).now ≡ id_or_null (option_map (λ text. text.now) id)
shown_id None null e = e
shown_id (Some id) null e = refl

-- a text that is made, by other words for its bytes
pub made_as : {Z E : Type 0} (made : Result (String Z) E) (bytes other : List ℕ) → bytes ≡ other → IfOk made (λ text. string_bytes text ≡ bytes) → IfOk made (λ text. string_bytes text ≡ other)
made_as (Ok text) bytes other same h = h ∙ same
made_as (Err refused) bytes other same h = tt

-- a text that is written, by other words for it
pub written_as : {T E : Type 0} (r : Result T E) (old new bytes other : List ℕ) → bytes ≡ other → OnOk r (new ≡ old ++ bytes) → OnOk r (new ≡ old ++ other)
written_as (Ok x) old new bytes other same e = e ∙ ap (λ l. old ++ l) same
written_as (Err x) old new bytes other same e = tt
