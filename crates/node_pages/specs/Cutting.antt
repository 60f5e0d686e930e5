-- Pages that are cut entry by entry, with their directory.
use Rattle.std.specs.Prelude.{◌≤◌, ℕ, ◌==◌, nat_le, Bool, not, ◌||◌, if◌then◌else◌, List, [], ◌∷◌, ◌++◌, length}
use Rattle.tree_model.specs.declared.key.Key.{Key}
use Rattle.tree_model.specs.declared.record.Record.{Record}
use Rattle.dewey_labels.specs.Labels.{root}
use Rattle.tree_model.specs.Keys.{node_key}
use Rattle.tree_model.specs.Entries.{Above}
use Rattle.node_seq.specs.Reads.{IsValidEntry}
use Rattle.node_records.specs.Keys.{key_bytes}
use Rattle.node_records.specs.declared.entries.Entry.{Entry}
use Rattle.node_pages.specs.Cuts.{most_pages}
use Rattle.node_pages.specs.EntryForm.{entry_behind}
use Rattle.node_pages.specs.Filling.{Fill, IsSized, no_items, fits, with_item, page_count, all_pages}
use Rattle.node_pages.specs.PageStarts.{start_of, start_behind}
use Rattle.node_pages.specs.PageZero.{Header, count_of, page_zero}
use Rattle.node_pages.specs.declared.page_start.PageStart.{PageStart}
use Rattle.node_pages.specs.declared.cut.Cut.{Cut}
use Rattle.node_pages.specs.declared.cut.Cut.TheVariants.{Pages, TooMany}

-- the data pages and the directory pages, each as they are filled
pub record Cutting : Type 0 where
  pub data_pages : Fill Entry
  pub directory : Fill PageStart

abbrev pub nothing_cut : Cutting
nothing_cut = record { data_pages = no_items most_pages; directory = no_items most_pages }

pub record IsSizedCut (c : Cutting) : Type 0 where
  pub data_pages : IsSized c.data_pages
  pub directory : IsSized c.directory

-- an entry begins a page
abbrev pub begins : Fill Entry → Entry → Bool
begins f e = (f.count == 0) || not (fits entry_behind (length f.bytes) f.last e)

-- one entry more; where it begins a page the directory has one start more
abbrev pub with_entry : Cutting → Entry → Cutting
with_entry c e = record {
  data_pages = with_item entry_behind c.data_pages e;
  directory = if begins c.data_pages e then with_item start_behind c.directory (start_of (page_count (with_item entry_behind c.data_pages e)) e) else c.directory;
}

abbrev pub with_entries : Cutting → List Entry → Cutting
with_entries c [] = c
with_entries c (e ∷ es) = with_entries (with_entry c e) es

-- the counts of the pages that were cut
abbrev pub header_now : ℕ → Cutting → Header
header_now number c = record { base = number; data_pages = page_count c.data_pages; directory_pages = page_count c.directory }

-- the bytes of the pages that were cut, page 0 first
abbrev pub pages_now : ℕ → Cutting → List (List ℕ)
pages_now number c = page_zero (header_now number c) ∷ (all_pages c.data_pages ++ all_pages c.directory)

-- the pages that were cut, or how many they would be
abbrev pub finished : ℕ → Cutting → Cut
finished number c = if nat_le (count_of (header_now number c)) most_pages then Pages (pages_now number c) else TooMany (count_of (header_now number c))

-- an entry with a key and bytes that fit on a page together
pub record IsShort (e : Entry) : Type 0 where
  pub key : length (key_bytes e.key) ≤ 2_301
  pub bytes : length e.bytes ≤ 1_024

-- an entry of a map that stands for a valid tree: it lies above the root's own key, and a valid tree may have it
abbrev pub IsStored : Key × Record → Type 0
IsStored e = Above (node_key root) e × IsValidEntry e
