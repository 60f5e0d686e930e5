-- The entries of a subtree: a node's own, and those of all that lies under it.
use Rattle.std.specs.Prelude.{List, [], ◌∷◌, ◌++◌, ℕ}
use Rattle.dewey_labels.specs.Labels.{Label, root}
use Rattle.dewey_labels.specs.LabelText.{label_text}
use Rattle.dewey_labels.specs.NewLabels.{first_division}
use Rattle.tree_model.specs.Documents.{document_at}
use Rattle.tree_model.specs.Entries.{Entries}
use Rattle.tree_model.specs.Fragments.{Fragments}
use Rattle.tree_model.specs.Graft.{graft}
use Rattle.tree_model.specs.Names.{Name}
use Rattle.tree_model.specs.Texts.{text_below}
use Rattle.tree_model.specs.Tree.{Forest, none, node, Tree, at, own, attr_entry, entries_of}

-- those of a forest's first tree
abbrev pub entries_within : Forest → Entries
entries_within none = []
entries_within (node l r ats ch nx) = own l r ats ++ entries_of ch

-- entries between those before them and those behind them
abbrev pub amid : Entries → Entries → Entries → Entries
amid before behind es = before ++ (es ++ behind)

-- those of a fragment at a label
abbrev pub fragment_entries : Fragments → Label → Entries
fragment_entries f l = entries_of (graft l f none)

-- those of a new document at a label, and its name's in the catalogue
abbrev pub new_document_entries : Name → Fragments → Label → Entries
new_document_entries n f l = attr_entry root (n, label_text l) ∷ entries_of (document_at l f)

-- those of a document that the tree has at a label, and its name's in the catalogue
abbrev pub document_entries : Name → Label → Tree → Entries
document_entries n l t = attr_entry root (n, label_text l) ∷ entries_within (at l t.documents)

-- the text that an element has once its text content is set; none where that is empty
abbrev pub text_alone : Label → List ℕ → Forest
text_alone l d = graft (l ++ (first_division ∷ [])) (text_below d) none
