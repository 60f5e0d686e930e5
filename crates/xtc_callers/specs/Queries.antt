-- What a query over a store is answered, and that it leaves both files (docs/MANUAL.md, "Commands").
use Rattle.std.specs.Prelude.{◌≡◌, ℕ, List, Some, Ok, String}
use Rattle.std.specs.declared.alloc.Global.{Global}
use Rattle.dewey_labels.specs.Labels.{Label}
use Rattle.outside_kinds.specs.MemoryDisks.{DiskInMemory}
use Rattle.tree_model.specs.DomCalls.{dom}
use Rattle.tree_model.specs.Names.{Name}
use Rattle.tree_model.specs.Tree.{Tree}
use Rattle.tree_model.specs.declared.dom_call.DomCall.TheVariants.{Doc}
use Rattle.tree_model.specs.declared.fragment.Fragment.{Fragment}
use Rattle.tree_model.specs.declared.reply.Hit.{Hit}
use Rattle.tree_model.specs.declared.reply.Reply.TheVariants as reply
use Rattle.path_model.specs.Finds.{found_at}
use Rattle.path_model.specs.PlainPaths.{plain_path}
use Rattle.path_model.specs.declared.path.XPath.{XPath}
use Rattle.xpath_parser.specs.Parse.{parsed}
use Rattle.recovery.specs.Openings.{HasImages, journal_made}
use Rattle.store_contents.specs.StoredTrees.{StandFor}
use Rattle.command_words.specs.Commands.{command_of, put, query}
use Rattle.xtc.specs.Documents.{element_in}
use Rattle.xtc.specs.declared.status.Status.TheVariants.{Done}
use Rattle.xtc_callers.specs.NewDocuments.{tree_of_document}
use Rattle.xtc_callers.specs.NewStores.{file_reads}
use Rattle.xtc_callers.specs.declared.new_store.MemRun.{MemRun}
use Rattle.xtc_callers.specs.declared.queries.PutAndQueried.{PutAndQueried}

-- the tree has a document with this name, and in it the path finds these nodes
pub record FindsIn (t : Tree) (name : Name) (path : XPath) (hits : List Hit) : Type 0 where
  pub at : Label
  pub document : (dom (Doc name) t).0 ≡ reply.Place (Some at)
  pub found : found_at at (plain_path path) t ≡ reply.Found hits

-- so it is of what the path finds in a tree that two files stand for, where the words are `query NAME PATH`
abbrev pub WhereQueried : List (String Global) → (journal pages : DiskInMemory) → (List Hit → Type 0) → Type 0
WhereQueried words journal pages Q = (name : Name) (text : List ℕ) (path : XPath) (t : Tree) (n : ℕ) (hits : List Hit)
    → command_of words ≡ Some (query name text) → parsed text ≡ Ok path → StandFor (file_reads journal) (file_reads pages) t n → FindsIn t name path hits → Q hits

-- the files have the bytes that they were handed in with; a fresh journal has nine
pub record KeepsBoth (old_journal old_pages : DiskInMemory) (run : MemRun) : Type 0 where
  pub journal : file_reads run.journal ≡ journal_made (file_reads old_journal)
  pub pages : file_reads run.pages ≡ file_reads old_pages

-- so it is where the words are `query NAME PATH`
abbrev pub WhereQuery : List (String Global) → Type 0 → Type 0
WhereQuery words P = (name : Name) (text : List ℕ) → command_of words ≡ Some (query name text) → P

-- so it is where no images are open in the journal
abbrev pub UnlessImagesOpen : DiskInMemory → Type 0 → Type 0
UnlessImagesOpen journal P = (HasImages (file_reads journal) → ⊥) → P

-- so it is of what the path finds in a document, where the whole input was put as one, and its store asked by its name
abbrev pub WherePutAndQueried : (put_words query_words : List (String Global)) (input : List ℕ) → PutAndQueried → (List Hit → Type 0) → Type 0
WherePutAndQueried put_words query_words input run Q = (name : Name) (element : Fragment) (text : List ℕ) (path : XPath) (hits : List Hit)
    → command_of put_words ≡ Some (put name) → command_of query_words ≡ Some (query name text) → element_in input ≡ Ok element → parsed text ≡ Ok path
    → run.put ≡ Done → run.queried ≡ Done → FindsIn (tree_of_document name element) name path hits
    → Q hits
