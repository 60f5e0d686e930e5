-- What the clauses of `xtc` say of a document that is put into two empty files, and then got.
use Rattle.std.proofs.Common.{◌≡◌, ◌≢◌, ◌⊎◌, ⊎_elim, inl, inr, ℕ, ◌+◌, ◌≤◌, List, [], ◌++◌, length, take, Option, Some, None, Result, Ok, Err, refl, sym, ap, subst, ◌∙◌, arith}
use Rattle.std.proofs.lemmas.List.{length-append, take_all}
use Rattle.std.proofs.lemmas.Option.{same_Some}
use Rattle.outside_traits.specs.Bytes.{Gave}
use Rattle.outside_traits.specs.CrashImages.{IsImage}
use Rattle.outside_traits.specs.DiskPairs.{Pair}
use Rattle.outside_traits.specs.Disks.{DiskState, all_synced}
use Rattle.outside_traits.specs.Moments.{History}
use Rattle.dewey_labels.specs.Labels.{Label}
use Rattle.tree_model.specs.DomCalls.{dom}
use Rattle.tree_model.specs.Names.{Name}
use Rattle.tree_model.specs.Tree.{Tree, empty_tree}
use Rattle.tree_model.specs.declared.dom_call.DomCall.TheVariants.{Doc, Dump}
use Rattle.tree_model.specs.declared.fragment.Fragment.{Fragment}
use Rattle.tree_model.specs.declared.reply.Reply.TheVariants as reply
use Rattle.node_records.specs.declared.open_error.Place.{Place}
use Rattle.jsonml_io.specs.declared.fragment_error.FragmentError.{FragmentError}
use Rattle.store_contents.specs.StoredTrees.{StandFor}
use Rattle.call_contract.specs.Books.{Book, commits}
use Rattle.call_contract.specs.SerialRuns.{serial}
use Rattle.call_contract.specs.States.{State, start}
use Rattle.session_driver.specs.Asking.{BookCall}
use Rattle.session_driver.specs.Lines.{Asked}
use Rattle.session_driver.specs.Progress.{Progress}
use Rattle.store_calls.specs.StoreCalls.{store_meaning}
use Rattle.xtc.specs.Book.{after_asked}
use Rattle.command_words.specs.Commands.{Command, put, get}
use Rattle.xtc.specs.Documents.{asks_of, element_in, end_by, end_of, get_asks, label_in, label_line, put_asks, put_asks_of, tree_in, tree_line}
use Rattle.xtc.specs.DocumentsOnTree.{GetOnTree, PutOnTree}
use Rattle.xtc.specs.TopCall.{AreFirst, DocumentRan, IsWhole, Leaves, OpenAfterAsked, OpenedStoreLeaves, Outcome, UnopenedStoreLeaves, tx_limit, whole_limit}
use Rattle.durable_sessions.specs.Reasons.{reason_in}
use Rattle.durable_sessions.specs.declared.reasons.Reason.{Reason}
use Rattle.xtc.specs.declared.status.Status.{Status}
use Rattle.xtc.specs.declared.status.Status.TheVariants.{Done, Usage, LineTooLong, Damaged, ReadFault, WriteFault, DiskFault, NoMemory, NotJsonMl, DocumentRefused}
use Rattle.xtc_callers.specs.NewDocuments.{OfWholeInput, PutBegun, PutDone, UnlessFailed, put_new, tree_of_document}
use Rattle.xtc_callers.specs.NewStores.{StandForCommits, new_store}
use Rattle.xtc_callers.proofs.NewStoreLaws.{all_read, alone, one_tree, stands_unopened, took_all}

-- ---- what is asked, by the element that the input is

abbrev an_element : Fragment → Result Fragment FragmentError
an_element element = Ok element

abbrev no_asks : FragmentError → Result (List (Asked BookCall)) Status
no_asks why = Err (NotJsonMl why)

-- what isn't asked for isn't an element
no_element_asked : (name : Name) (r : Result Fragment FragmentError) (why : FragmentError) → put_asks_of name r ≡ no_asks why → r ≡ Err why
no_element_asked name (Ok element) why is = absurd cc
no_element_asked name (Err e) why is = let same : e ≡ why = cc in ap Err same

-- what is asked for is
record HasElement (name : Name) (r : Result Fragment FragmentError) (asked : List (Asked BookCall)) : Type 0 where
  element : Fragment
  is : r ≡ Ok element
  asks : asked ≡ put_asks name element

element_asked : (name : Name) (r : Result Fragment FragmentError) (asked : List (Asked BookCall)) → put_asks_of name r ≡ Ok asked → HasElement name r asked
element_asked name (Ok element) asked is = record { element = element; is = refl; asks = let same : put_asks name element ≡ asked = cc in sym same }
element_asked name (Err e) asked is = absurd cc

-- the same cause
same_error : {e f : FragmentError} → no_asks e ≡ no_asks f → e ≡ f
same_error is = cc

-- what was asked
abbrev pub asked_in : Result (List (Asked BookCall)) Status → List (Asked BookCall)
asked_in (Ok asked) = asked
asked_in (Err why) = []

pub none_is_no_reason : (r : Option Reason) (why : Reason) → r ≡ None → r ≡ Some why → ⊥
none_is_no_reason r why none some = let no : None ≡ Some why = sym none ∙ some in cc

-- no reason was found where it ends well
pub no_reason : (r : Option Reason) → end_by r ≡ Done → r ≡ None
no_reason None is = refl
no_reason (Some why) is = absurd cc

-- these are the first of what the element's input asks
of_first : (name : Name) (input : List ℕ) (asked : List (Asked BookCall)) (r : Result Fragment FragmentError) → element_in input ≡ r → AreFirst asked (put_asks_of name r) → OfWholeInput name input asked
of_first name input asked (Ok element) is first = inr (element, is, first.0, first.1)
of_first name input asked (Err why) is first = inl first

-- ---- a document that is put into two empty files

module _ (empty : StandFor [] [] empty_tree 0) (name : Name) (every : ℕ) (o : Outcome) (input text : List ℕ) (left_before : Option (List ℕ)) (input_is : left_before ≡ Some input) (gave_so : Gave left_before o.left o.read)
    (before : o.before ≡ Some []) (now : o.now ≡ Some text) (old_journal : o.old.journal.now ≡ all_synced []) (old_pages : o.old.pages.now ≡ all_synced []) where
  gave : Gave (Some input) o.left o.read
  gave = subst (λ (l : Option (List ℕ)). Gave l o.left o.read) input_is gave_so

  -- what was read to its end is the input
  read_all : IsWhole o.left o.read → o.read ≡ input
  read_all whole = all_read input o.read o.left gave whole.0

  read_some : (left : Option (List ℕ)) → Gave (Some input) left o.read → length o.read ≤ length input
  read_some None so = absurd cc
  read_some (Some rest) so = let parts : input ≡ o.read ++ rest = same_Some _ _ so in omega (arith, ap length parts, length-append o.read rest)

  -- it ran over the empty tree
  ran_new : (status : Status) (leaves : OpenedStoreLeaves tx_limit (Some (put name)) every status o) → DocumentRan empty_tree 0 tx_limit (put name) status leaves.opening o
  ran_new status leaves =
      let stood : StandFor [] [] leaves.tree leaves.number
      = subst (λ (x : DiskState × DiskState). StandFor x.0.reads x.1.reads leaves.tree leaves.number) (λ i. (old_journal i, old_pages i)) leaves.stood in
      let is = alone empty leaves.tree leaves.number stood in
      subst (λ (x : Tree × ℕ). DocumentRan x.0 x.1 tx_limit (put name) status leaves.opening o) (λ i. (is.0 i, is.1 i)) leaves.ran

  pub put_not_json : (command : Option Command) (status : Status) (why : FragmentError) → command ≡ Some (put name) → status ≡ NotJsonMl why → Leaves tx_limit command every status o → element_in input ≡ Err why
  put_not_json command status why named is leaves_so =
      let leaves : OpenedStoreLeaves tx_limit (Some (put name)) every (NotJsonMl why) o = subst (λ (x : Option Command × Status). Leaves tx_limit x.0 every x.1 o) (λ i. (named i, is i)) leaves_so in
      let ran = ran_new (NotJsonMl why) leaves in
      ap element_in (sym (read_all (ran.whole refl))) ∙ no_element_asked name (element_in o.read) why ran.end

  module _ (why : FragmentError) (none : element_in input ≡ Err why) (short : length input ≤ whole_limit) where
    asks_none : IsWhole o.left o.read → asks_of (put name) new_store o.read ≡ no_asks why
    asks_none whole = ap (λ (read : List ℕ). put_asks_of name (element_in read)) (read_all whole) ∙ ap (put_asks_of name) none

    -- then nothing was asked
    not_asked : (asked : List (Asked BookCall)) → IsWhole o.left o.read → asks_of (put name) new_store o.read ≡ Ok asked → ⊥
    not_asked asked whole is = let no : no_asks why ≡ Ok asked = sym (asks_none whole) ∙ is in cc

    judged : (status : Status) → OpenedStoreLeaves tx_limit (Some (put name)) every status o → UnlessFailed status (status ≡ NotJsonMl why)
    judged ReadFault leaves = tt
    judged DiskFault leaves = tt
    judged NoMemory leaves = tt
    judged Done leaves = let ran = ran_new Done leaves in absurd (not_asked ran.asked (ran.whole refl) ran.end.0)
    judged WriteFault leaves = let ran = ran_new WriteFault leaves in absurd (not_asked ran.asked (ran.whole refl) ran.end.0)
    judged (LineTooLong line) leaves = let ran = ran_new (LineTooLong line) leaves in absurd (omega (arith, ran.short.past, read_some o.left gave, short))
    judged (NotJsonMl other) leaves =
        let ran = ran_new (NotJsonMl other) leaves in
        ap NotJsonMl (same_error (sym ran.end ∙ asks_none (ran.whole refl)))
    judged (DocumentRefused reason) leaves =
        let ran = ran_new (DocumentRefused reason) leaves in
        let no : NotJsonMl why ≡ DocumentRefused reason = ap (end_of (put name) new_store) (sym (asks_none (ran.whole refl))) ∙ ran.end.end in absurd cc
    judged Usage leaves = absurd (ran_new Usage leaves).end
    judged (Damaged place) leaves = absurd (ran_new (Damaged place) leaves).end

    by_status : (status : Status) → (status ≡ Usage → ⊥) → ((place : Place) → status ≡ Damaged place → ⊥) → Leaves tx_limit (Some (put name)) every status o → UnlessFailed status (status ≡ NotJsonMl why)
    by_status ReadFault not_usage not_place leaves = tt
    by_status DiskFault not_usage not_place leaves = tt
    by_status NoMemory not_usage not_place leaves = tt
    by_status Usage not_usage not_place leaves = absurd (not_usage refl)
    by_status (Damaged place) not_usage not_place leaves = absurd (not_place place refl)
    by_status Done not_usage not_place leaves = judged Done leaves
    by_status WriteFault not_usage not_place leaves = judged WriteFault leaves
    by_status (LineTooLong line) not_usage not_place leaves = judged (LineTooLong line) leaves
    by_status (NotJsonMl other) not_usage not_place leaves = judged (NotJsonMl other) leaves
    by_status (DocumentRefused reason) not_usage not_place leaves = judged (DocumentRefused reason) leaves

    pub put_no_element : (command : Option Command) (status : Status) → command ≡ Some (put name) → (status ≡ Usage → ⊥) → ((place : Place) → status ≡ Damaged place → ⊥) → Leaves tx_limit command every status o
        → UnlessFailed status (status ≡ NotJsonMl why)
    put_no_element command status named not_usage not_place leaves = by_status status not_usage not_place (subst (λ (c : Option Command). Leaves tx_limit c every status o) named leaves)

  -- ---- at Done

  module _ (ran_at : Pair) (ran : DocumentRan empty_tree 0 tx_limit (put name) Done ran_at o) (element : Fragment) (asks : ran.asked ≡ put_asks name element) where
    did : after_asked new_store ran.asked ≡ put_new name element
    did = ap (after_asked new_store) asks

    -- all commits are there
    all_stand : (journal pages : List ℕ) → OpenAfterAsked empty_tree 0 tx_limit ran.answered ran.asked journal pages → StandForCommits (put_new name element).book journal pages
    all_stand journal pages after =
        let all : after_asked new_store (take after.count ran.asked) ≡ put_new name element = ap (after_asked new_store) (take_all after.count ran.asked (omega (arith, ran.all_but, after.enough))) ∙ did in
        let count : 0 + length (commits (after_asked new_store (take after.count ran.asked)).book) ≡ length (commits (put_new name element).book)
        = omega (arith, ap (λ (p : Progress BookCall). length (commits p.book)) all) in
        subst (λ (x : Book BookCall × ℕ). StandFor journal pages (serial store_meaning (commits x.0) empty_tree).tree x.1) (λ i. ((all i).book, count i)) after.opens

    unrefused : reason_in (put_new name element).lines ≡ None
    unrefused = ap (λ (p : Progress BookCall). reason_in p.lines) (sym did) ∙ no_reason _ ran.end.1

    document_put : PutOnTree empty_tree 0 tx_limit name element (put_new name element) → element_in input ≡ Ok element → PutDone name input text o.new.journal o.new.pages
    document_put law is = record {
      element = element;
      of_input = is;
      answered = took_all o text before now _ ran.wrote ∙ ap (λ (p : Progress BookCall). label_line (label_in p.lines)) did;
      tree = ap (λ (p : Progress BookCall). (serial store_meaning (commits p.book) empty_tree).tree) (sym did) ∙ ran.sound.book.serial.tree ∙ ap (λ (s : State BookCall). s.tree) ran.sound.state
          ∙ ap (λ (p : Progress BookCall). p.state.tree) did ∙ law.tree unrefused;
      stored = all_stand o.new.journal.now.reads o.new.pages.now.reads ran.reads;
      durable = λ journal pages of_journal of_pages. all_stand journal pages (ran.left journal pages of_journal of_pages);
    }

  pub put_done : ((element : Fragment) → PutOnTree empty_tree 0 tx_limit name element (put_new name element)) → (command : Option Command) (status : Status) → command ≡ Some (put name) → status ≡ Done → Leaves tx_limit command every status o
      → PutDone name input text o.new.journal o.new.pages
  put_done law command status named is leaves_so =
      let leaves : OpenedStoreLeaves tx_limit (Some (put name)) every Done o = subst (λ (x : Option Command × Status). Leaves tx_limit x.0 every x.1 o) (λ i. (named i, is i)) leaves_so in
      let ran = ran_new Done leaves in
      let found = element_asked name (element_in o.read) ran.asked ran.end.0 in
      document_put leaves.opening ran found.element found.asks (law found.element) (ap element_in (sym (read_all (ran.whole refl))) ∙ found.is)

  -- ---- where there was no memory

  module _ (of_journal : IsImage o.new.journal.now o.new.journal.now.reads) (of_pages : IsImage o.new.pages.now o.new.pages.now.reads) where
    either_begun : UnopenedStoreLeaves o ⊎ OpenedStoreLeaves tx_limit (Some (put name)) every NoMemory o → PutBegun name input o.new.journal.now.reads o.new.pages.now.reads
    either_begun (inl leaves) = record {
      asked = [];
      of_input = inl refl;
      stored = record {
        count = 0;
        enough = omega arith;
        within = omega arith;
        opens = let stands = stands_unopened empty o.old old_journal old_pages _ _ (leaves.left _ _ of_journal of_pages) in record { is_valid_tree = stands.is_valid_tree; opens = stands.opens };
      };
    }
    either_begun (inr leaves) =
        let ran = ran_new NoMemory leaves in
        record {
          asked = ran.asked;
          of_input = ⊎_elim (λ none. inl none)
              (λ whole. of_first name input ran.asked (element_in input) refl (subst (λ (read : List ℕ). AreFirst ran.asked (put_asks_of name (element_in read))) (read_all whole) ran.first)) (ran.whole refl);
          stored = record { count = ran.reads.count; enough = omega arith; within = ran.reads.within; opens = ran.reads.opens };
        }

    pub put_begun : (command : Option Command) (status : Status) → command ≡ Some (put name) → status ≡ NoMemory → Leaves tx_limit command every status o → PutBegun name input o.new.journal.now.reads o.new.pages.now.reads
    put_begun command status named is leaves = either_begun (subst (λ (x : Option Command × Status). Leaves tx_limit x.0 every x.1 o) (λ i. (named i, is i)) leaves)

-- ---- and then got

ok_of : {e f : Fragment} → an_element e ≡ an_element f → e ≡ f
ok_of is = cc

-- what was put is the element of the input
pub put_of : (name : Name) (element : Fragment) (input text : List ℕ) (journal pages : History) → element_in input ≡ Ok element → PutDone name input text journal pages
    → StandForCommits (put_new name element).book journal.now.reads pages.now.reads × ((serial store_meaning (commits (put_new name element).book) empty_tree).tree ≡ tree_of_document name element)
put_of name element input text journal pages is done =
    subst (λ (e : Fragment). StandForCommits (put_new name e).book journal.now.reads pages.now.reads × ((serial store_meaning (commits (put_new name e).book) empty_tree).tree ≡ tree_of_document name e))
    (ok_of (sym done.of_input ∙ is)) (done.stored, done.tree)

pub got_document : ((t : Tree) (n limit : ℕ) (name : Name) → GetOnTree t n limit name (after_asked (start t n limit) (get_asks (start t n limit) name)))
    → (name : Name) (element : Fragment) (at : Label) (document : Option Fragment) (command : Option Command) (status : Status) (every : ℕ) (o : Outcome) (text : List ℕ)
    → StandForCommits (put_new name element).book o.old.journal.now.reads o.old.pages.now.reads → (serial store_meaning (commits (put_new name element).book) empty_tree).tree ≡ tree_of_document name element
    → command ≡ Some (get name) → status ≡ Done → Leaves tx_limit command every status o → o.before ≡ Some [] → o.now ≡ Some text
    → (dom (Doc name) (tree_of_document name element)).0 ≡ reply.Place (Some at) → (dom (Dump at) (tree_of_document name element)).0 ≡ reply.Tree document → text ≡ tree_line document
got_document law name element at document command status every o text stands tree_is named is leaves_so before now doc dump =
    let leaves : OpenedStoreLeaves tx_limit (Some (get name)) every Done o = subst (λ (x : Option Command × Status). Leaves tx_limit x.0 every x.1 o) (λ i. (named i, is i)) leaves_so in
    let t : Tree = leaves.tree in
    let here : t ≡ tree_of_document name element = one_tree _ _ t _ leaves.number _ leaves.stood stands ∙ tree_is in
    let st : State BookCall = start t leaves.number tx_limit in
    let ran : DocumentRan t leaves.number tx_limit (get name) Done leaves.opening o = leaves.ran in
    let asks : get_asks st name ≡ ran.asked = ap asked_in ran.end.0 in
    let got : after_asked st (get_asks st name) ≡ after_asked st ran.asked = ap (after_asked st) asks in
    let none : reason_in (after_asked st (get_asks st name)).lines ≡ None = ap (λ (p : Progress BookCall). reason_in p.lines) got ∙ no_reason _ ran.end.1 in
    let on_tree = law t leaves.number tx_limit name in
    let left : leaves.number ≢ tx_limit = λ spent. none_is_no_reason _ _ none (on_tree.limited spent) in
    let found = on_tree.dumped at document left (ap (λ (u : Tree). (dom (Doc name) u).0) here ∙ doc) (ap (λ (u : Tree). (dom (Dump at) u).0) here ∙ dump) in
    took_all o text before now _ ran.wrote ∙ ap (λ (p : Progress BookCall). tree_line (tree_in p.lines)) (sym got) ∙ ap tree_line found.1
