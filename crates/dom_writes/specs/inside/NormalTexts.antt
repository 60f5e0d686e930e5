-- Adjacent texts joined, among the entries below a node.
use Rattle.std.specs.Prelude.{◌≡◌, ℕ, Bool, true, false, cond, ◌&&◌, ◌==◌, List, [], ◌∷◌, ◌++◌, map, IfOk, IsTrue, Result, Some}
use Rattle.std.specs.List.{AllByRecursion}
use Rattle.dewey_labels.specs.Labels.{level}
use Rattle.tree_model.specs.Changes.{drop_change, put_unless, same_record}
use Rattle.tree_model.specs.Entries.{Entries}
use Rattle.tree_model.specs.NodeKinds.{is_text_record}
use Rattle.tree_model.specs.declared.change.Change.{Change}
use Rattle.tree_model.specs.declared.key.Key.{Key}
use Rattle.tree_model.specs.declared.record.Record.{Record}
use Rattle.tree_model.specs.declared.record.Record.TheVariants.{Text}
use Rattle.node_seq.specs.Reads.{IsValidEntry}
use Rattle.dom_reads.specs.inside.Gathered.{texts_in}

-- ---- runs

-- both are texts, on one level: where nothing stands between them they are siblings
abbrev pub joins : Key × Record → Key × Record → Bool
joins a b = (is_text_record (Some a.1) && is_text_record (Some b.1)) && (level a.0.label == level b.0.label)

-- an entry joins the first one of some
abbrev pub joins_first : Key × Record → Entries → Bool
joins_first e [] = false
joins_first e (x ∷ xs) = joins e x

-- one more entry before runs: in the first of them, or in one of its own
abbrev pub before_runs : Key × Record → List Entries → List Entries
before_runs e [] = (e ∷ []) ∷ []
before_runs e (r ∷ rs) = cond (joins_first e r) ((e ∷ r) ∷ rs) ((e ∷ []) ∷ r ∷ rs)

-- entries in runs: texts that stand side by side, and each other entry alone
abbrev pub runs : Entries → List Entries
runs [] = []
runs (e ∷ es) = before_runs e (runs es)

-- the entries are in one run
abbrev pub IsRun : Entries → Type 0
IsRun [] = Unit {0}
IsRun (e ∷ es) = AllByRecursion (λ x. joins e x ≡ true) es

-- the entries that join one before them, and those behind these
abbrev pub joining : Key × Record → Entries → Entries
joining e [] = []
joining e (x ∷ xs) = cond (joins e x) (x ∷ joining e xs) []

abbrev pub past_joining : Key × Record → Entries → Entries
past_joining e [] = []
past_joining e (x ∷ xs) = cond (joins e x) (past_joining e xs) (x ∷ xs)

-- the first run, and the entries behind it
abbrev pub first_run : Entries → Entries
first_run [] = []
first_run (e ∷ es) = e ∷ joining e es

abbrev pub behind_run : Entries → Entries
behind_run [] = []
behind_run (e ∷ es) = past_joining e es

-- ---- runs joined

-- a text with data; none without
abbrev pub text_at : Key → List ℕ → Entries
text_at k [] = []
text_at k (b ∷ d) = (k, Text (b ∷ d)) ∷ []

-- the first text with the data of all; what is no text stays
abbrev pub joined_run : Entries → Entries
joined_run [] = []
joined_run (e ∷ es) = cond (is_text_record (Some e.1)) (text_at e.0 (texts_in (e ∷ es))) (e ∷ es)

abbrev pub joined_runs : List Entries → Entries
joined_runs [] = []
joined_runs (r ∷ rs) = joined_run r ++ joined_runs rs

-- adjacent texts joined into the first ones; a run without data goes
abbrev pub joined : Entries → Entries
joined es = joined_runs (runs es)

-- a tree may have it, if it is a text
abbrev pub IsValidText : Key × Record → Type 0
IsValidText e = IsTrue (is_text_record (Some e.1)) → IsValidEntry e

-- a record put at a key, unless the one that stands there is the same
abbrev pub put_unless_same : Key → Record → Record → List Change
put_unless_same k old r = put_unless (same_record r old) (k, r)

-- the changes of a run, by the data of all its texts: those of the first one and of the others
abbrev pub run_changes : Key × Record → Entries → List ℕ → List Change
run_changes e r [] = map drop_change (e ∷ r)
run_changes e r (b ∷ d) = put_unless_same e.0 e.1 (Text (b ∷ d)) ++ map drop_change r

-- where the answer is that a tree may have the text, these changes stand behind those from before
abbrev pub AddsIfValid : {E : Type 0} → Result Bool E → List Change → List Change → List Change → Type 0
AddsIfValid result before after more = IfOk result (λ valid. IsTrue valid → after ≡ before ++ more)
