-- The text of a label (docs/PROFILE.md, "Labels").
use Rattle.std.specs.Prelude.{◌≡◌, ℕ, ◌≤◌, ◌&&◌, ◌==◌, if◌then◌else◌, List, ◌++◌, map, length, take, Option, Some, None}
use Rattle.std.specs.List.{join_with_byte, slice_split}
use Rattle.std.specs.Str.{bytes_eq}
use Rattle.std.specs.Str.Parse.{digits_value}
use Rattle.std.specs.Fmt.{decimal}
use Rattle.dewey_labels.specs.Labels.{Label, is_label_within, IsLabel}
use Rattle.dewey_labels.specs.declared.label_text.LabelTextError.{LabelTextError}
use Rattle.dewey_labels.specs.declared.label_text.LabelTextError.TheVariants.{NotALabel, NoMemory}

-- the divisions in decimal, joined by points
abbrev pub label_text : Label → List ℕ
label_text l = join_with_byte 46 (map decimal l)

-- t is the text of a label
abbrev pub IsLabelText : List ℕ → Type 0
IsLabelText t = (l : Label) × IsLabel l × (t ≡ label_text l)

-- the numbers that the parts of a text between its points write in decimal
abbrev pub numbers_in : List ℕ → List ℕ
numbers_in t = map (digits_value 10) (slice_split (λ b. b == 46) t)

-- a label, where this is its text
abbrev pub if_text_of : List ℕ → Label → Option Label
if_text_of t l = if is_label_within l && bytes_eq (label_text l) t then Some l else None

-- the label whose text t is, if there is one; its divisions are the numbers in the text
abbrev pub label_of : List ℕ → Option Label
label_of t = if_text_of t (numbers_in t)

-- t is a prefix of some label's text
abbrev pub BeginsLabelText : List ℕ → Type 0
BeginsLabelText t = (rest : List ℕ) × IsLabelText (t ++ rest)

-- t is no label's text, and its longest prefix that is one of some label's text has this length
pub record IsNoLabelText (t : List ℕ) (place : ℕ) : Type 0 where
  pub none : ¬ (IsLabelText t)
  pub within : place ≤ length t
  pub begins : BeginsLabelText (take place t)
  pub longest : (n : ℕ) → n ≤ length t → BeginsLabelText (take n t) → n ≤ place

-- the cause of each refusal to read t
abbrev pub HasCause : List ℕ → LabelTextError → Type 0
HasCause t (NotALabel place) = IsNoLabelText t place
HasCause t NoMemory = Unit {0}
