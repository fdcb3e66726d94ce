-- A text has one tree, and is not both read and unread.
use Rattle.std.proofs.Common.{inl, inr, ◌≡◌, ◌≢◌, ℕ, ◌+◌, List, [], ◌∷◌, Contains, refl, ap, ◌∙◌, subst, Some}
use Rattle.graphql_names.specs.declared.span.SourceSpan.{SourceSpan}
use Rattle.schema_components.proofs.Places.{not_in_nil, Contains-cons, Contains-first}
use Rattle.verdict_definitions.specs.in_tokens.Input.{Token}
use Rattle.verdict_definitions.proofs.in_tokens.Lexed.{lex_unique}
use Rattle.verdict_definitions.specs.in_grammar.Faults as read
use Rattle.verdict_definitions.proofs.in_grammar.Laws.{one_document}
use Rattle.verdict_definitions.specs.in_read_operations.Meanings.{in_file}
use Rattle.verdict_definitions.specs.in_read.Reads.{IsDue, NestingBound}
use Rattle.verdict_definitions.specs.in_read.ReadFaults.{fault_at}
use Rattle.verdict_definitions.specs.in_read.declared.fault.SyntaxFaultKind.{SyntaxFaultKind}
use Rattle.verdict_definitions.specs.in_read.declared.fault.SyntaxFaultKind.TheVariants.{NoToken, Unexpected, End}
use Rattle.verdict_definitions.proofs.in_read.Bounds.{memory_alone}
use Rattle.verdict_definitions.specs.in_faults.DetailsTree.{Syntax}
use Rattle.verdict_definitions.specs.Texts.{SourceText, Tree, DerivesIn, ReadsText, ReadsAll, IsWithin, AreWithin, IsRead, AreRead}
use Rattle.verdict_definitions.specs.Says.{AnyFault, TellsReadFault, IsFaultOfText, UnreadFault, UnreadFaultFrom}
use Rattle.verdict_definitions.specs.Answer.{UnreadFaults, AllSay}
use Rattle.checker_calls.specs.Unread.{IsUnread, TellsUnread}
use Rattle.checker_calls.specs.declared.reading.Unread.{Unread}
use Rattle.checker_calls.specs.declared.reading.Unread.TheVariants as unread

-- ---- lists of faults

-- an empty list has no member
pub no_member : {X : Type 0} (xs : List X) (x : X) → xs ≡ [] → Contains xs x → ⊥
no_member xs x e h = not_in_nil x (subst (λ l. Contains l x) e h)

-- where no fault is so, none is told
pub none_told : (says : AnyFault → Type 0) (faults : List AnyFault) → faults ≢ [] → AllSay says faults → ((fault : AnyFault) → says fault → ⊥) → ⊥
none_told says [] some are none = some refl
none_told says (fault ∷ faults) some are none = none fault (are fault (Contains-first fault faults fault refl))

-- ---- the trees of texts

-- a text has one tree
pub one_tree : (number : ℕ) (text : SourceText) (tree other : Tree) → ReadsText number text tree → ReadsText number text other → tree ≡ other
one_tree number text tree other r s =
    let same : r.tokens ≡ s.tokens = lex_unique text r.tokens s.tokens r.lexed s.lexed in
    one_document (in_file (record { 0 = number })) s.tokens tree other (subst (λ (ts : List Token). DerivesIn number ts tree) same r.derived) s.derived

-- texts have one list of trees
pub one_list : (first : ℕ) (texts : List SourceText) (trees others : List Tree) → ReadsAll first texts trees → ReadsAll first texts others → trees ≡ others
one_list first [] [] [] r s = refl
one_list first [] [] (b ∷ bs) r s = absurd s
one_list first [] (a ∷ trees) others r s = absurd r
one_list first (text ∷ texts) [] others r s = absurd r
one_list first (text ∷ texts) (a ∷ trees) [] r s = absurd s
one_list first (text ∷ texts) (a ∷ trees) (b ∷ bs) r s =
    ap (λ t. t ∷ trees) (one_tree first text a b r.0 s.0)
    ∙ ap (λ ts. b ∷ ts) (one_list (first + 1) texts trees bs r.1 s.1)

-- ---- faults

-- out of memory is never told of a text
memory_told : (number : ℕ) (fault : read.Fault) (told : AnyFault) → fault ≡ read.Memory → TellsReadFault number fault told → ⊥
memory_told number read.Memory told same tells = tells
memory_told number (read.NoToken offset) told same tells = absurd cc
memory_told number (read.Unexpected offset) told same tells = absurd cc
memory_told number (read.End offset) told same tells = absurd cc
memory_told number (read.Nesting offset) told same tells = absurd cc

-- what is told of tokens that are wrong at an offset
pub syntax_tells : (number : ℕ) (kind : SyntaxFaultKind) (span : SourceSpan) → span.file_id.0 ≡ number → span.length ≡ 0
    → TellsReadFault number (fault_at kind span.offset) (record { place = Some span; details = Syntax kind })
syntax_tells number NoToken span f l = (refl, record { span = span; is = refl; of_file = f; at = refl; long = l })
syntax_tells number Unexpected span f l = (refl, record { span = span; is = refl; of_file = f; at = refl; long = l })
syntax_tells number End span f l = (refl, record { span = span; is = refl; of_file = f; at = refl; long = l })

-- what is told of a fault that is due of a text
pub unread_due : (nesting number : ℕ) (text : SourceText) (fault : read.Fault) (told : Unread) → IsDue (DerivesIn number) nesting text fault → TellsUnread number fault told → IsUnread nesting number text told
unread_due nesting number text fault unread.Memory due tells = tt
unread_due nesting number text fault (unread.Fault place details) due tells = record { read = fault; due = due; tells = tells }

-- of a text that has a tree and nests within the limit no fault is due
pub no_fault : (nesting number : ℕ) (text : SourceText) (fault : AnyFault) (tree : Tree) → IsFaultOfText nesting number text fault → ReadsText number text tree → (NestingBound nesting text → ⊥) → ⊥
no_fault nesting number text fault tree is reads nests = memory_told number is.read fault (memory_alone (DerivesIn number) nesting text is.read is.due tree reads nests) is.tells

-- a text of which a fault says that it is unread is not read
pub unread_not_read : (nesting number : ℕ) (text : SourceText) (fault : AnyFault) → UnreadFault nesting number text fault → IsRead nesting number text → ⊥
unread_not_read nesting number text fault (inl u) r = no_fault nesting number text fault r.tree u r.reads r.within.nests
unread_not_read nesting number text fault (inr u) r = r.within.numbered u.1

-- ---- bounds

-- a text with a tree within the bounds is read
pub is_read : (nesting number : ℕ) (text : SourceText) (tree : Tree) → ReadsText number text tree → IsWithin nesting number text → IsRead nesting number text
is_read nesting number text tree reads within = record { tree = tree; reads = reads; within = within }

-- texts with trees within the bounds are read
pub are_read : (nesting first : ℕ) (texts : List SourceText) (trees : List Tree) → ReadsAll first texts trees → AreWithin nesting first texts → AreRead nesting first texts
are_read nesting first [] trees reads within = tt
are_read nesting first (text ∷ texts) [] reads within = absurd reads
are_read nesting first (text ∷ texts) (tree ∷ trees) reads within = (is_read nesting first text tree reads.0 within.0, are_read nesting (first + 1) texts trees reads.1 within.1)

-- texts that are read pass no bound
pub are_within : (nesting first : ℕ) (texts : List SourceText) → AreRead nesting first texts → AreWithin nesting first texts
are_within nesting first [] read = tt
are_within nesting first (text ∷ texts) read = (read.0.within, are_within nesting (first + 1) texts read.1)

-- texts that are read have no such faults
pub no_unread : (nesting first : ℕ) (texts : List SourceText) (faults : List AnyFault) → AreRead nesting first texts → UnreadFaults nesting first texts faults → faults ≡ []
no_unread nesting first [] faults read none = none
no_unread nesting first (text ∷ texts) faults read (inl (here, others)) = no_unread nesting (first + 1) texts faults read.1 others
no_unread nesting first (text ∷ texts) faults read (inr (fault, (others, (is, unread, more)))) = absurd (unread_not_read nesting first text fault unread read.0)

pub not_unread_from : (nesting first : ℕ) (texts : List SourceText) (fault : AnyFault) → AreRead nesting first texts → UnreadFaultFrom nesting first texts fault → ⊥
not_unread_from nesting first [] fault read h = h
not_unread_from nesting first (text ∷ texts) fault read (inl unread) = unread_not_read nesting first text fault unread read.0
not_unread_from nesting first (text ∷ texts) fault read (inr others) = not_unread_from nesting (first + 1) texts fault read.1 others

-- without a fault each text is read
pub read_unread : (nesting first : ℕ) (texts : List SourceText) → UnreadFaults nesting first texts [] → AreRead nesting first texts
read_unread nesting first [] h = tt
read_unread nesting first (text ∷ texts) (inl h) = (h.0, read_unread nesting (first + 1) texts h.1)
read_unread nesting first (text ∷ texts) (inr h) = let e : [] ≡ h.0 ∷ h.1.0 = h.1.1.0 in absurd cc

-- each of such faults says that a text is unread
pub says_unread : (nesting first : ℕ) (texts : List SourceText) (faults : List AnyFault) → UnreadFaults nesting first texts faults → AllSay (UnreadFaultFrom nesting first texts) faults
says_unread nesting first [] faults none fault h = no_member faults fault none h
says_unread nesting first (text ∷ texts) faults (inl (read, rest)) fault h = inr (says_unread nesting (first + 1) texts faults rest fault h)
says_unread nesting first (text ∷ texts) faults (inr (here, (others, (is, unread, rest)))) fault h =
    elim (Contains-cons here others fault (subst (λ l. Contains l fault) is h)) [
      | inl same ↦ inl (subst (UnreadFault nesting first text) same unread)
      | inr following ↦ inr (says_unread nesting (first + 1) texts others rest fault following)
    ]
