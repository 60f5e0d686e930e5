-- What the clauses of `xtc` say of a query over two files.
use Rattle.std.proofs.Common.{◌≡◌, ◌≢◌, ℕ, List, [], length, Option, Some, None, Ok, refl, sym, ap, subst, ◌∙◌}
use Rattle.tree_model.specs.DomCalls.{dom}
use Rattle.tree_model.specs.Names.{Name}
use Rattle.tree_model.specs.Tree.{Tree, empty_tree}
use Rattle.tree_model.specs.declared.dom_call.DomCall.TheVariants.{Doc}
use Rattle.tree_model.specs.declared.fragment.Fragment.{Fragment}
use Rattle.tree_model.specs.declared.reply.Hit.{Hit}
use Rattle.path_model.specs.Finds.{found_at}
use Rattle.path_model.specs.PlainPaths.{plain_path}
use Rattle.path_model.specs.declared.path.XPath.{XPath}
use Rattle.xpath_parser.specs.Parse.{parsed}
use Rattle.recovery.specs.Openings.{HasImages}
use Rattle.store_contents.specs.StoredTrees.{StandFor}
use Rattle.call_contract.specs.Books.{commits}
use Rattle.call_contract.specs.SerialRuns.{serial}
use Rattle.call_contract.specs.States.{State, start}
use Rattle.session_driver.specs.Asking.{BookCall}
use Rattle.command_words.specs.Commands.{Command, query}
use Rattle.durable_sessions.specs.Reasons.{reason_in}
use Rattle.session_driver.specs.Progress.{Progress}
use Rattle.store_calls.specs.StoreCalls.{store_meaning}
use Rattle.xtc.specs.Book.{after_asked}
use Rattle.xtc.specs.Documents.{hits_in, hits_line, query_asks, query_asks_of}
use Rattle.xtc.specs.DocumentsOnTree.{QueryOnTree, query_done}
use Rattle.xtc.specs.Promises.{EachReading, KeepBytes}
use Rattle.xtc.specs.TopCall.{DocumentRan, Leaves, OpenedStoreLeaves, Outcome, tx_limit}
use Rattle.xtc.specs.declared.status.Status.{Status}
use Rattle.xtc.specs.declared.status.Status.TheVariants.{Done}
use Rattle.xtc_callers.specs.NewDocuments.{put_new, tree_of_document}
use Rattle.xtc_callers.specs.NewStores.{StandForCommits}
use Rattle.xtc_callers.specs.Queries.{FindsIn}
use Rattle.xtc_callers.proofs.NewDocumentLaws.{asked_in, no_reason, none_is_no_reason}
use Rattle.xtc_callers.proofs.NewStoreLaws.{one_tree, took_all}

-- files that stand for the commit of a document stand for the tree with it alone
pub document_stands : (name : Name) (element : Fragment) (journal pages : List ℕ)
    → StandForCommits (put_new name element).book journal pages × ((serial store_meaning (commits (put_new name element).book) empty_tree).tree ≡ tree_of_document name element)
    → StandFor journal pages (tree_of_document name element) (length (commits (put_new name element).book))
document_stands name element journal pages put = subst (λ (t : Tree). StandFor journal pages t (length (commits (put_new name element).book))) put.1 put.0

module _ (name : Name) (text : List ℕ) (every : ℕ) (o : Outcome) (command : Option Command) (status : Status) (named : command ≡ Some (query name text)) (is : status ≡ Done)
    (leaves_so : Leaves tx_limit command every status o) where
  opened : OpenedStoreLeaves tx_limit (Some (query name text)) every Done o
  opened = subst (λ (x : Option Command × Status). Leaves tx_limit x.0 every x.1 o) (λ i. (named i, is i)) leaves_so

  -- a query leaves the bytes of both files
  pub query_keeps : EachReading KeepBytes → (HasImages o.old.journal.now.reads → ⊥) → KeepBytes o
  query_keeps law shut = law tx_limit (query name text) every Done o opened refl shut

  -- what was found in a tree that the files stand for
  pub query_found : ((t : Tree) (n limit : ℕ) (name : Name) (path : XPath) → QueryOnTree t n limit name path (query_done t n limit name path)) → (path : XPath) (t : Tree) (n : ℕ) (hits : List Hit) (held : List ℕ)
      → parsed text ≡ Ok path → StandFor o.old.journal.now.reads o.old.pages.now.reads t n → FindsIn t name path hits → o.before ≡ Some [] → o.now ≡ Some held → held ≡ hits_line (Some hits)
  query_found law path t n hits held is_path stands finds before now =
      let leaves = opened in
      let ran : DocumentRan leaves.tree leaves.number tx_limit (query name text) Done leaves.opening o = leaves.ran in
      let here : leaves.tree ≡ t = one_tree _ _ leaves.tree _ leaves.number _ leaves.stood stands in
      let st : State BookCall = start leaves.tree leaves.number tx_limit in
      let asks : query_asks st name path ≡ ran.asked = ap asked_in (ap (query_asks_of st name) (sym is_path) ∙ ran.end.0) in
      let queried : after_asked st (query_asks st name path) ≡ after_asked st ran.asked = ap (after_asked st) asks in
      let none : reason_in (after_asked st (query_asks st name path)).lines ≡ None = ap (λ (p : Progress BookCall). reason_in p.lines) queried ∙ no_reason _ ran.end.1 in
      let on_tree = law leaves.tree leaves.number tx_limit name path in
      let left : leaves.number ≢ tx_limit = λ spent. none_is_no_reason _ _ none (on_tree.limited spent) in
      let found = on_tree.found finds.at hits left (ap (λ (u : Tree). (dom (Doc name) u).0) here ∙ finds.document) (ap (λ (u : Tree). found_at finds.at (plain_path path) u) here ∙ finds.found) in
      took_all o held before now _ ran.wrote ∙ ap (λ (p : Progress BookCall). hits_line (hits_in p.lines)) (sym queried) ∙ ap hits_line found.1
