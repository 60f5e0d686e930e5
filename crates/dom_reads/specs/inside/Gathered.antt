-- What the calls gather of a subtree's entries.
use Rattle.std.specs.Prelude.{Bool, false, ℕ, List, [], ◌∷◌, ◌++◌, if◌then◌else◌}
use Rattle.dewey_labels.specs.Labels.{Label}
use Rattle.tree_model.specs.Entries.{Entries}
use Rattle.tree_model.specs.Names.{Name}
use Rattle.tree_model.specs.Navigation.{asks_for}
use Rattle.tree_model.specs.declared.record.Record.{Record}
use Rattle.tree_model.specs.declared.record.Record.TheVariants.{Element, Text}

-- the data of a text; nothing of any other record
abbrev pub data_of : Record → List ℕ
data_of (Text d) = d
data_of r = []

-- the data of texts among entries, joined
abbrev pub texts_in : Entries → List ℕ
texts_in [] = []
texts_in (e ∷ es) = data_of e.1 ++ texts_in es

-- the record is an element's whose name is asked for
abbrev pub has_tag : Name → Record → Bool
has_tag n (Element m) = asks_for n m
has_tag n r = false

-- the labels of such elements among entries
abbrev pub labels_in : Name → Entries → List Label
labels_in n [] = []
labels_in n (e ∷ es) = (if has_tag n e.1 then e.0.label ∷ [] else []) ++ labels_in n es
