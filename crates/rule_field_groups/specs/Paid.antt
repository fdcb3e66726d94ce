-- What is counted of the lists that are examined, and how much the fields that were met pay for.
use Rattle.std.specs.Prelude.{◌≡◌, ◌≤◌, ◌+◌, ◌*◌, ◌⊎◌, ℕ, Bool, List, [], length, IsTrue, Contains}
use Rattle.rule_cycle_search.specs.Paths.{HasNoRepeat}
use Rattle.rule_selection_queries.specs.in_document_definitions.ReadFields.{ReadField}

-- what is counted: the lists that were examined, the fields that were met, how many members of lists these were asked to pay for, and
-- how often shapes were compared
pub record Account : Type 0 where
  pub lists : List (List ReadField)
  pub met : List ReadField
  pub spent : ℕ
  pub comparisons : ℕ

abbrev pub no_account : Account
no_account = record { lists = []; met = []; spent = 0; comparisons = 0 }

-- how many members the lists of more than two fields may have in all, for so many fields
abbrev pub most_members : ℕ → ℕ
most_members n = 200 + 4 * n

abbrev pub IsWithin : Account → Type 0
IsWithin a = a.spent ≤ most_members (length a.met)

-- only fields of the list are met, each content once; no shapes are compared
pub record Meets (list : List ReadField) (old new : Account) : Type 0 where
  pub only : (x : ReadField) → Contains new.met x → Contains old.met x ⊎ Contains list x
  pub once : HasNoRepeat new.met
  pub more : length old.met ≤ length new.met
  pub same : new.comparisons ≡ old.comparisons

-- the same, and nothing is spent
abbrev pub OnlyMeets : List ReadField → Account → Account → Type 0
OnlyMeets list old new = Meets list old new × (new.spent ≡ old.spent)

-- the fields are asked to pay for a list, whether they can or not
pub record Pays (list : List ReadField) (old new : Account) : Type 0 where
  pub meets : Meets list old new
  pub spends : old.spent ≤ new.spent
  pub within : IsWithin old → IsWithin new

-- if the list is paid, at least its length is spent
abbrev pub IsPaidIf : Bool → List ReadField → Account → Account → Type 0
IsPaidIf is_paid list old new = IsTrue is_paid → old.spent + length list ≤ new.spent
