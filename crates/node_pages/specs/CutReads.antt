-- The pages of a cut, read again (docs/FILE_FORMAT.md, "The page file").
use Rattle.std.specs.Prelude.{◌≡◌, ◌≤◌, ℕ, List, [], length, get_or, Ok}
use Rattle.tree_model.specs.declared.key.Key.{Key}
use Rattle.tree_model.specs.declared.record.Record.{Record}
use Rattle.tree_model.specs.Entries.{Entries}
use Rattle.tree_model.specs.Records.{HasText}
use Rattle.node_records.specs.Keys.{key_bytes, IsWritable}
use Rattle.node_records.specs.Records.{record_bytes}
use Rattle.node_pages.specs.Cuts.{cut_of, data_of}
use Rattle.node_pages.specs.PagesIn.{pages_in}
use Rattle.node_pages.specs.declared.cut.Cut.TheVariants.{Pages}

-- the page with this number among pages of which the first has the number 0; it has no byte behind the last one
abbrev pub page_among : List (List ℕ) → ℕ → List ℕ
page_among pages n = get_or pages n []

-- a record that its entries tell: its text is UTF-8, its key is read again and fits on a page with a chunk, and two bytes number the chunks
pub record IsCuttable (e : Key × Record) : Type 0 where
  pub key : IsWritable e.0
  pub short : length (key_bytes e.0) ≤ 7_161
  pub text : HasText e.1
  pub chunks : length (record_bytes e.1) ≤ 67_108_864

-- a map that is cut into these pages is read from them again, with its number
abbrev pub ReadsBack : ℕ → Entries → List (List ℕ) → Type 0
ReadsBack number es pages = cut_of number (data_of es) ≡ Pages pages → pages_in (page_among pages) ≡ Ok (es, number)
