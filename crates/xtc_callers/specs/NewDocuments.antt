-- What `put` of a document into a new store is answered, and what it leaves (docs/MANUAL.md, "Commands").
use Rattle.std.specs.Prelude.{◌≡◌, ◌≤◌, ◌⊎◌, ℕ, List, [], ◌++◌, length, Option, Some, Ok, Err, String}
use Rattle.std.specs.declared.alloc.Global.{Global}
use Rattle.dewey_labels.specs.Labels.{Label}
use Rattle.outside_traits.specs.DiskPairs.{PairsHave, pair_of}
use Rattle.outside_traits.specs.Moments.{History}
use Rattle.tree_model.specs.DomCalls.{dom}
use Rattle.tree_model.specs.Names.{Name}
use Rattle.tree_model.specs.Tree.{Tree, empty_tree}
use Rattle.tree_model.specs.declared.dom_call.DomCall.TheVariants.{Create, Doc, Dump}
use Rattle.tree_model.specs.declared.fragment.Fragment.{Fragment}
use Rattle.tree_model.specs.declared.reply.Reply.TheVariants as reply
use Rattle.jsonml_io.specs.declared.fragment_error.FragmentError.{FragmentError}
use Rattle.call_contract.specs.Books.{commits}
use Rattle.call_contract.specs.SerialRuns.{serial}
use Rattle.session_driver.specs.Asking.{BookCall}
use Rattle.command_words.specs.Commands.{command_of, get, put}
use Rattle.session_driver.specs.Lines.{Asked}
use Rattle.session_driver.specs.Progress.{Progress}
use Rattle.store_calls.specs.StoreCalls.{store_meaning}
use Rattle.xtc.specs.Book.{after_asked}
use Rattle.xtc.specs.Documents.{element_in, label_in, label_line, put_asks}
use Rattle.xtc.specs.TopCall.{OpenAfterAsked, tx_limit, whole_limit}
use Rattle.xtc.specs.declared.status.Status.{Status}
use Rattle.xtc.specs.declared.status.Status.TheVariants.{Done, ReadFault, DiskFault, NoMemory, NotJsonMl}
use Rattle.xtc_callers.specs.NewStores.{StandForCommits, new_store}
use Rattle.xtc_callers.specs.declared.new_document.PutAndGot.{PutAndGot}

-- so it is where the words are `put NAME`
abbrev pub WherePut : List (String Global) → (Name → Type 0) → Type 0
WherePut words Q = (name : Name) → command_of words ≡ Some (put name) → Q name

-- so it is of each error that an input may have, where the words are `put NAME`
abbrev pub WherePutOfError : List (String Global) → (FragmentError → Type 0) → Type 0
WherePutOfError words Q = (name : Name) (why : FragmentError) → command_of words ≡ Some (put name) → Q why

-- so it is where no call failed, and there was memory
abbrev pub UnlessFailed : Status → Type 0 → Type 0
UnlessFailed ReadFault P = Unit {0}
UnlessFailed DiskFault P = Unit {0}
UnlessFailed NoMemory P = Unit {0}
UnlessFailed status P = P

-- an input that is no element, for this reason, and no longer than one may be, is answered so
abbrev pub TellsNoElement : List ℕ → Status → FragmentError → Type 0
TellsNoElement input status why = element_in input ≡ Err why → length input ≤ whole_limit → UnlessFailed status (status ≡ NotJsonMl why)

-- what `put` of this element into a new store does
abbrev pub put_new : Name → Fragment → Progress BookCall
put_new name element = after_asked new_store (put_asks name element)

-- the tree with the document alone
abbrev pub tree_of_document : Name → Fragment → Tree
tree_of_document name element = (dom (Create name (Some element)) empty_tree).1

-- The whole input was put as a document of a new store: this text is its label's line, and the files stand for the tree with it alone.
pub record PutDone (name : Name) (input text : List ℕ) (journal pages : History) : Type 0 where
  pub element : Fragment
  pub of_input : element_in input ≡ Ok element
  pub answered : text ≡ label_line (label_in (put_new name element).lines)
  -- as `create` on the plain tree has it
  pub tree : (serial store_meaning (commits (put_new name element).book) empty_tree).tree ≡ tree_of_document name element
  -- as they read and as a crash leaves them
  pub stored : StandForCommits (put_new name element).book journal.now.reads pages.now.reads
  pub durable : PairsHave (StandForCommits (put_new name element).book) (pair_of journal pages)

-- these are the first of what `put` of the whole input asks, if any
abbrev pub OfWholeInput : Name → List ℕ → List (Asked BookCall) → Type 0
OfWholeInput name input asked = (asked ≡ []) ⊎ ((element : Fragment) × (element_in input ≡ Ok element) × (rest : List (Asked BookCall)) × (asked ++ rest ≡ put_asks name element))

-- `put` was begun, whatever its end: the files stand for nothing, or for what the commit of the whole input leaves
pub record PutBegun (name : Name) (input : List ℕ) (journal pages : List ℕ) : Type 0 where
  pub asked : List (Asked BookCall)
  pub of_input : OfWholeInput name input asked
  pub stored : OpenAfterAsked empty_tree 0 tx_limit 0 asked journal pages

-- so it is of the document that the plain tree dumps, where the whole input was put as a document, and got by its name
abbrev pub WherePutAndGot : (put_words get_words : List (String Global)) (input : List ℕ) → PutAndGot → (Option Fragment → Type 0) → Type 0
WherePutAndGot put_words get_words input run Q = (name : Name) (element : Fragment) (at : Label) (document : Option Fragment)
    → command_of put_words ≡ Some (put name) → command_of get_words ≡ Some (get name) → element_in input ≡ Ok element
    → run.put ≡ Done → run.got ≡ Done
    → (dom (Doc name) (tree_of_document name element)).0 ≡ reply.Place (Some at)
    → (dom (Dump at) (tree_of_document name element)).0 ≡ reply.Tree document
    → Q document
