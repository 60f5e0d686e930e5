-- What a run over a group commit tells of the core that was put into it.
use Rattle.std.proofs.Common.{◌≡◌, ◌∙◌, sym, subst, List, []}
use Rattle.std.specs.Prelude.{IfErr, IfOk, Ok, Err, Option, Result, ℕ}
use Rattle.tree_model.specs.Entries.{Entries}
use Rattle.tree_model.specs.Tree.{Tree}
use Rattle.node_seq.specs.Trees.{StandsFor}
use Rattle.call_contract.specs.Books.{Book, IsBookFrom, IsRun}
use Rattle.call_contract.specs.Calls.{CallMeaning}
use Rattle.call_contract.specs.States.{start}
use Rattle.command_lines.specs.declared.command.Command.{Command}
use Rattle.command_lines.specs.declared.command.StoreCall.{StoreCall}
use Rattle.command_lines.specs.declared.line_reply.LineReply.{LineReply}
use Rattle.tx_core.specs.Cores.{CoreView}
use Rattle.shared_store.specs.Lists.{list_of}
use Rattle.shared_store.specs.declared.desk.Entry.{Entry}
use Rattle.worker_run.specs.declared.port.PortFault.{PortFault}
use Rattle.group_commit.specs.OwnLines.{own_doings, own_printed}
use Rattle.group_commit.specs.Cores.{IsFrom}
use Rattle.session_driver.specs.Sessions.{Does, DoesSome}
use Rattle.group_commit.specs.StorePorts.{IsOpenedOver}
use Rattle.group_commit.proofs.Runs.{does_none}
use Rattle.group_commit.proofs.Started.{begun_over}

pub if_ok_to : {A E : Type 0} (P Q : A → Type 0) (r : Result A E) → ((x : A) → P x → Q x) → IfOk r P → IfOk r Q
if_ok_to P Q (Ok x) on h = on x h
if_ok_to P Q (Err e) on h = tt

-- what holds where there is an answer holds of the answer that it was made of
pub if_ok_of : {A E : Type 0} (P : A → Type 0) (r s : Result A E) → IfOk r (λ x. s ≡ Ok x) → IfOk s P → IfOk r P
if_ok_of P (Ok x) s is h = subst (λ t. IfOk t P) is h
if_ok_of P (Err e) s is h = tt

pub if_err_so : {A E : Type 0} (P : Type 0) (r : Result A E) → P → IfErr r (λ _. P)
if_err_so P (Ok x) h = tt
if_err_so P (Err e) h = h

module _ {C B : Type 0} (unchanged : B → B → Type 0) (told : B → Option Entries) (m : CallMeaning C) (is_valid : C → Type 0) (first core : CoreView C B) (from : IsFrom unchanged first core)
    (legal : (t : Tree) → StandsFor (told core.opening) t → IsBookFrom is_valid m t core.number core.limit core.book) where
  pub legal_from : (t : Tree) → StandsFor (told first.opening) t → IsBookFrom is_valid m t first.number first.limit core.book
  legal_from t stands =
      let at = legal t (subst (λ (b : B). StandsFor (told b) t) (sym from.opening) stands) in
      subst (λ (l : ℕ). IsBookFrom is_valid m t first.number l core.book) from.limit (subst (λ (n : ℕ). IsBookFrom is_valid m t n core.limit core.book) from.number at)

  module _ (made : StoreCall → C) (lines : List Command) (empty : first.book ≡ []) where
    module _ (seen : List (Entry C B)) (is : seen ≡ list_of first first.book []) where
      -- what the run tells of each tree that its list is opened over, it tells of the tree that the core was opened over
      of_tree : (P : Tree → ℕ → ℕ → Type 0) → ((t : Tree) (n l : ℕ) → IsOpenedOver told seen t n l → IsRun m (start t n l) core.book → P t n l) → (t : Tree) → StandsFor (told first.opening) t → P t first.number first.limit
      of_tree P h t stands = h t first.number first.limit (begun_over first empty seen is told t stands) (legal_from t stands).legal.run

      pub does_from : (replies : Result (List LineReply) PortFault)
          → IfOk replies (λ rs. (t : Tree) (n l : ℕ) → IsOpenedOver told seen t n l → IsRun m (start t n l) core.book → (s : ℕ) → Does m s (start t n l) core.book (own_printed made s lines rs))
          → IfOk replies (λ rs. (t : Tree) → StandsFor (told first.opening) t → (s : ℕ) → Does m s (start t first.number first.limit) core.book (own_printed made s lines rs))
      does_from replies h =
          if_ok_to (λ rs. (t : Tree) (n l : ℕ) → IsOpenedOver told seen t n l → IsRun m (start t n l) core.book → (s : ℕ) → Does m s (start t n l) core.book (own_printed made s lines rs))
          (λ rs. (t : Tree) → StandsFor (told first.opening) t → (s : ℕ) → Does m s (start t first.number first.limit) core.book (own_printed made s lines rs))
          replies (λ rs d. of_tree (λ t n l. (s : ℕ) → Does m s (start t n l) core.book (own_printed made s lines rs)) d) h

      pub stops_from : ((t : Tree) (n l : ℕ) → IsOpenedOver told seen t n l → IsRun m (start t n l) core.book → (s : ℕ) → DoesSome m s (start t n l) core.book (own_doings made s lines))
          → (t : Tree) → StandsFor (told first.opening) t → (s : ℕ) → DoesSome m s (start t first.number first.limit) core.book (own_doings made s lines)
      stops_from d = of_tree (λ t n l. (s : ℕ) → DoesSome m s (start t n l) core.book (own_doings made s lines)) d

-- an empty book has nothing of any line
pub stops_at_once : {C B : Type 0} (m : CallMeaning C) (told : B → Option Entries) (made : StoreCall → C) (lines : List Command) (t : Tree) (n l : ℕ) (book : Book C) → book ≡ [] → (s : ℕ) → DoesSome m s (start t n l) book (own_doings made s lines)
stops_at_once m told made lines t n l book none s = subst (λ bk. DoesSome m s (start t n l) bk (own_doings made s lines)) (sym none) (does_none told m made lines t n l [] s tt)
