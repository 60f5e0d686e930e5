-- One session alone on a store: each of its calls is answered as the tree answers it.
use Rattle.std.proofs.Common.{◌≡◌, ◌==◌, ℕ, ◌+◌, Bool, true, false, if◌then◌else◌, cond, List, [], ◌∷◌, ◌++◌, refl, sym, ap, subst, ◌∙◌, arith}
use Rattle.std.specs.Prelude.{◌≢◌, Option, None, Some}
use Rattle.std.specs.List.{AllByRecursion}
use Rattle.std.specs.Option.{option_or}
use Rattle.std.proofs.lemmas.Bool.Decides.{nat_tests}
use Rattle.lock_resources.specs.declared.request.Request.{Request}
use Rattle.dewey_labels.specs.Labels.{Label}
use Rattle.tree_model.specs.DomCalls.{dom}
use Rattle.path_model.specs.declared.path.XPath.{XPath}
use Rattle.tree_model.specs.Names.{Name}
use Rattle.tree_model.specs.Tree.{Tree}
use Rattle.tree_model.specs.declared.dom_call.DomCall.TheVariants.{Create, Doc}
use Rattle.tree_model.specs.declared.fragment.Fragment.{Fragment}
use Rattle.tree_model.specs.declared.refusal.Refusal.{Refusal}
use Rattle.tree_model.specs.declared.reply.Reply.{Reply}
use Rattle.tree_model.specs.declared.reply.Reply.TheVariants as reply
use Rattle.call_contract.specs.Attempts.{granted}
use Rattle.call_contract.specs.Books.{entry}
use Rattle.call_contract.specs.States.{Answered, Live, State, start, view}
use Rattle.call_contract.specs.Steps.{begun_by, committed}
use Rattle.call_contract.specs.declared.events.Answer.TheVariants as event_answer
use Rattle.call_contract.specs.declared.events.Event.TheVariants as event
use Rattle.call_contract.specs.declared.events.EventAnswer.TheVariants as said
use Rattle.session_driver.specs.Asking.{BookCall}
use Rattle.command_lines.specs.declared.command.StoreCall.TheVariants.{Dom}
use Rattle.command_lines.specs.declared.line_reply.LineAnswer.TheVariants as answer
use Rattle.command_lines.specs.declared.line_reply.LineReply.{LineReply}
use Rattle.command_lines.specs.declared.line_reply.LineReply.TheVariants.{Said}
use Rattle.command_lines.specs.declared.line_reply.SessionRefusal.TheVariants.{TxLimit, CommitLimit}
use Rattle.tx_core.specs.Commits.{is_past_limit}
use Rattle.session_driver.specs.Lines.{Asked, after_line, stepped, unless_refused}
use Rattle.session_driver.specs.Progress.{Progress, and_then, stays}
use Rattle.session_driver.specs.declared.doing.Doing.TheVariants.{Begin, Commit, Abort, Call}
use Rattle.store_calls.specs.StoreCalls.{IsValidStoreCall, store_meaning}
use Rattle.xtc.specs.Book.{after_asked}
use Rattle.durable_sessions.specs.Reasons.{reason_in, reason_of}
use Rattle.durable_sessions.proofs.LoneLaws.{lone_line}
use Rattle.xtc.specs.Documents.{asks, call_of, calls, put_asks, find_asks, question_asks, show_asks, label_in, tree_in, hits_in}
use Rattle.xtc.specs.declared.question.Question.{Question}
use Rattle.xtc.specs.declared.question.Question.TheVariants.{Whole, FoundBy}
use Rattle.xtc.specs.inside.Asking.{AreValidAsks}
use Rattle.xtc.specs.inside.Showing.{AreLinesOf, said_line}
use Rattle.xtc.specs.DocumentsOnTree.{PutOnTree, GetOnTree, QueryOnTree, IsAtOnce, label_shown}
use Rattle.durable_sessions.specs.declared.reasons.Reason.TheVariants as reason

or_none : {A : Type 0} (x : Option A) → option_or x None ≡ x
or_none None = refl
or_none (Some y) = refl

never_none : {A : Type 0} (x : Option A) (y : A) → option_or x (Some y) ≡ None → ⊥
never_none None y is = cc
never_none (Some z) y is = cc

module _ (t : Tree) (n limit : ℕ) where
  abbrev opened : State BookCall
  opened = start t n limit

  -- session 1 has been answered these
  abbrev alone : List (Answered BookCall) → List Request → Live BookCall
  alone cs gs = record { session = 1; ordinal = 1; calls = cs; grants = gs; waits = None }

  abbrev at_work : List (Answered BookCall) → List Request → State BookCall
  at_work cs gs = record (begun_by opened 1) { live = alone cs gs ∷ []; waiting = [] }

  pub same_numbers : n ≡ limit → (n + 0 == limit) ≡ true
  same_numbers is = grind (arith, nat_tests, is)

  other_numbers : n ≢ limit → (n + 0 == limit) ≡ false
  other_numbers apart = go (n + 0 == limit) refl
    where
      go : (b : Bool) → (n + 0 == limit) ≡ b → (n + 0 == limit) ≡ false
      go false is = is
      go true is = absurd (apart (let same : n ≡ limit = grind (arith, nat_tests, is) in same))

  -- ---- its lines

  abbrev begun : Progress BookCall
  begun = record { state = at_work [] []; book = entry 1 event.Begin (said.Number 1) ∷ []; lines = Said 1 false (answer.Reply (reply.Number 1)) ∷ [] }

  begin_is : (n + 0 == limit) ≡ false → after_line store_meaning opened (asks Begin) ≡ begun
  begin_is some_left =
      ap (λ b. unless_refused store_meaning opened 1 Begin (cond b (Some TxLimit) None)) some_left
      ∙ ap (λ b. stepped store_meaning opened 1 Begin (if b then None else Some (record { state = begun_by opened 1; answer = said.Number 1 }))) some_left

  begin_refused : (n + 0 == limit) ≡ true → after_line store_meaning opened (asks Begin) ≡ record { state = opened; book = []; lines = Said 1 false (answer.Session TxLimit) ∷ [] }
  begin_refused spent = ap (λ b. unless_refused store_meaning opened 1 Begin (cond b (Some TxLimit) None)) spent

  abbrev answer_of : List (Answered BookCall) → BookCall → Reply
  answer_of cs c = store_meaning.reply c (view store_meaning cs t)

  abbrev called : List (Answered BookCall) → List Request → BookCall → Progress BookCall
  called cs gs c = record {
    state = at_work (cs ++ record { call = c; reply = answer_of cs c } ∷ []) (gs ++ granted store_meaning (at_work cs gs) (alone cs gs) c);
    book = entry 1 (event.Call c) (said.Call (event_answer.Answered (answer_of cs c))) ∷ [];
    lines = Said 1 false (answer.Reply (answer_of cs c)) ∷ [];
  }

  call_is : (cs : List (Answered BookCall)) (gs : List Request) (c : BookCall) → after_line store_meaning (at_work cs gs) (asks (Call c)) ≡ called cs gs c
  call_is cs gs c = lone_line store_meaning (at_work cs gs) (alone cs gs) c (record { only = refl; ready = refl })

  abbrev made : List (Answered BookCall) → List Request → Progress BookCall
  made cs gs = record {
    state = committed store_meaning (at_work cs gs) (alone cs gs);
    book = entry 1 event.Commit (said.Number (n + 1)) ∷ [];
    lines = Said 1 false (answer.Reply (reply.Number (n + 1))) ∷ [];
  }

  commit_is : (cs : List (Answered BookCall)) (gs : List Request) → is_past_limit store_meaning (at_work cs gs) (alone cs gs) ≡ false → after_line store_meaning (at_work cs gs) (asks Commit) ≡ made cs gs
  commit_is cs gs some_left = ap (λ b. unless_refused store_meaning (at_work cs gs) 1 Commit (cond b (Some CommitLimit) None)) some_left

  commit_refused : (cs : List (Answered BookCall)) (gs : List Request) → is_past_limit store_meaning (at_work cs gs) (alone cs gs) ≡ true
      → after_line store_meaning (at_work cs gs) (asks Commit) ≡ record { state = at_work cs gs; book = []; lines = Said 1 false (answer.Session CommitLimit) ∷ [] }
  commit_refused cs gs spent = ap (λ b. unless_refused store_meaning (at_work cs gs) 1 Commit (cond b (Some CommitLimit) None)) spent

  -- ---- `put`

  module _ (name : Name) (element : Fragment) where
    abbrev create : BookCall
    create = Dom (Create name (Some element))

    abbrev created : Progress BookCall
    created = called [] [] create

    abbrev whole : Progress BookCall
    whole = after_asked opened (put_asks name element)

    abbrev last_line : Progress BookCall
    last_line = after_line store_meaning created.state (asks Commit)

    -- a transaction is begun, and the tree's own call answered
    put_is : (n + 0 == limit) ≡ false → whole ≡ and_then begun (and_then created (and_then last_line (stays last_line.state)))
    put_is some_left =
        ap (λ (p : Progress BookCall). and_then p (after_asked p.state (calls (Create name (Some element)) ∷ asks Commit ∷ []))) (begin_is some_left)
        ∙ ap (λ (p : Progress BookCall). and_then begun (and_then p (after_asked p.state (asks Commit ∷ [])))) (call_is [] [] create)

    limited : (n + 0 == limit) ≡ true → reason_in whole.lines ≡ Some reason.Limit
    limited spent = ap (λ (p : Progress BookCall). reason_in (and_then p (after_asked p.state (calls (Create name (Some element)) ∷ asks Commit ∷ []))).lines) (begin_refused spent)

    refused : (why : Refusal) → (n + 0 == limit) ≡ false → (dom (Create name (Some element)) t).0 ≡ reply.Refused why → reason_in whole.lines ≡ Some (reason.Call why)
    refused why some_left is =
        ap (λ (p : Progress BookCall). reason_in p.lines) (put_is some_left)
        ∙ ap (λ (r : Reply). option_or (reason_of (Said 1 false (answer.Reply r))) (reason_in (last_line.lines ++ []))) is

    abbrev cs : List (Answered BookCall)
    cs = record { call = create; reply = answer_of [] create } ∷ []

    abbrev gs : List Request
    gs = granted store_meaning (at_work [] []) (alone [] []) create

    -- whatever the commit comes to
    put_ends : (p : Progress BookCall) → (n + 0 == limit) ≡ false → last_line ≡ p → whole ≡ and_then begun (and_then created (and_then p (stays p.state)))
    put_ends p some_left is = put_is some_left ∙ ap (λ (q : Progress BookCall). and_then begun (and_then created (and_then q (stays q.state)))) is

    record Made : Type 0 where
      label : label_in whole.lines ≡ label_shown (dom (Create name (Some element)) t).0
      state : whole.state ≡ committed store_meaning (at_work cs gs) (alone cs gs)

    put_done : reason_in whole.lines ≡ None → Made
    put_done none = go (n + 0 == limit) refl (is_past_limit store_meaning (at_work cs gs) (alone cs gs)) refl
      where
        go : (b : Bool) → (n + 0 == limit) ≡ b → (p : Bool) → is_past_limit store_meaning (at_work cs gs) (alone cs gs) ≡ p → Made
        go true spent p past = let some_left : Some reason.Limit ≡ None = sym (limited spent) ∙ none in cc
        go false some_left true past =
            let said_why : option_or (reason_of (Said 1 false (answer.Reply (answer_of [] create)))) (Some reason.Limit) ≡ None
            = sym (ap (λ (p : Progress BookCall). reason_in p.lines) (put_ends _ some_left (commit_refused cs gs past))) ∙ none in
            absurd (never_none (reason_of (Said 1 false (answer.Reply (answer_of [] create)))) reason.Limit said_why)
        go false some_left false past =
            let all = put_ends (made cs gs) some_left (commit_is cs gs past) in
            record { label = ap (λ (p : Progress BookCall). label_in p.lines) all ∙ or_none (label_shown (answer_of [] create)); state = ap (λ (p : Progress BookCall). p.state) all }

    pub put_on_tree : PutOnTree t n limit name element whole
    put_on_tree = record {
      limited = λ is. limited (same_numbers is);
      refused = λ why apart is. refused why (other_numbers apart) is;
      label = λ none. (put_done none).label;
      tree = λ none. ap (λ (u : State BookCall). u.tree) (put_done none).state;
      number = λ none. ap (λ (u : State BookCall). u.number) (put_done none).state;
    }

  -- ---- `get` and `query`

  module _ (name : Name) (q : Question) where
    abbrev doc : BookCall
    doc = Dom (Doc name)

    abbrev found : Progress BookCall
    found = called [] [] doc

    abbrev found_calls : List (Answered BookCall)
    found_calls = record { call = doc; reply = answer_of [] doc } ∷ []

    abbrev found_grants : List Request
    found_grants = granted store_meaning (at_work [] []) (alone [] []) doc

    abbrev got : Progress BookCall
    got = after_asked opened (show_asks opened name q)

    -- a transaction is begun, and the tree's own call answered, whatever is asked behind it
    found_is : (n + 0 == limit) ≡ false → (more : List (Asked BookCall)) → after_asked opened (find_asks name ++ more) ≡ and_then begun (and_then found (after_asked found.state more))
    found_is some_left more =
        ap (λ (p : Progress BookCall). and_then p (after_asked p.state (calls (Doc name) ∷ more))) (begin_is some_left)
        ∙ ap (λ (p : Progress BookCall). and_then begun (and_then p (after_asked p.state more))) (call_is [] [] doc)

    -- what is asked behind it goes by the label that was found
    got_by : (n + 0 == limit) ≡ false → (place : Option Label) → label_shown (answer_of [] doc) ≡ place
        → got ≡ and_then begun (and_then found (after_asked found.state (question_asks q place)))
    got_by some_left place is =
        ap (λ (at : Option Label). after_asked opened (find_asks name ++ question_asks q at))
        (ap (λ (p : Progress BookCall). label_in p.lines) (found_is some_left []) ∙ or_none (label_shown (answer_of [] doc)) ∙ is)
        ∙ found_is some_left (question_asks q place)

    -- no label is found where no transaction can be begun
    got_nothing : (n + 0 == limit) ≡ true → got ≡ and_then (record { state = opened; book = []; lines = Said 1 false (answer.Session TxLimit) ∷ [] }) (after_asked opened (calls (Doc name) ∷ []))
    got_nothing spent =
        ap (λ (at : Option Label). after_asked opened (find_asks name ++ question_asks q at))
        (ap (λ (p : Progress BookCall). label_in (and_then p (after_asked p.state (calls (Doc name) ∷ []))).lines) (begin_refused spent))
        ∙ ap (λ (p : Progress BookCall). and_then p (after_asked p.state (calls (Doc name) ∷ []))) (begin_refused spent)

    module _ (at : Label) where
      abbrev asked_of : BookCall
      asked_of = call_of q at

      abbrev shown : Progress BookCall
      shown = called found_calls found_grants asked_of

      shown_is : after_asked found.state (question_asks q (Some at)) ≡ and_then shown (after_asked shown.state (asks Abort ∷ []))
      shown_is = ap (λ (p : Progress BookCall). and_then p (after_asked p.state (asks Abort ∷ []))) (call_is found_calls found_grants asked_of)

      abbrev lines_by : Reply → Reply → List LineReply
      lines_by r p = begun.lines ++ Said 1 false (answer.Reply r) ∷ Said 1 false (answer.Reply p) ∷ Said 1 false (answer.Reply reply.Nothing) ∷ []

      -- the lines, by what the tree's own calls answer
      got_lines : (r : Reply) → (n + 0 == limit) ≡ false → (dom (Doc name) t).0 ≡ reply.Place (Some at) → answer_of found_calls asked_of ≡ r → got.lines ≡ lines_by (reply.Place (Some at)) r
      got_lines r some_left is_found is_shown =
          ap (λ (p : Progress BookCall). p.lines) (got_by some_left (Some at) (ap label_shown is_found))
          ∙ ap (λ (p : Progress BookCall). begun.lines ++ (found.lines ++ p.lines)) shown_is
          ∙ ap (λ (p : Reply). lines_by p (answer_of found_calls asked_of)) is_found
          ∙ ap (λ (p : Reply). lines_by (reply.Place (Some at)) p) is_shown

    -- ---- the lines of one that isn't asked, since what it would be answered is known

    -- it begins, and this is answered to finding the document
    abbrev found_lines : Reply → List LineReply
    found_lines r = said_line (reply.Number 1) ∷ said_line r ∷ []

    place_is : (r : Reply) (place : Option Label) → r ≡ answer_of [] doc → place ≡ label_in (found_lines r) → label_shown (answer_of [] doc) ≡ place
    place_is r place is at = ap label_shown (sym is) ∙ sym (or_none (label_shown r)) ∙ sym at

    asks_by : (n + 0 == limit) ≡ false → (place : Option Label) → label_shown (answer_of [] doc) ≡ place → show_asks opened name q ≡ find_asks name ++ question_asks q place
    asks_by some_left place is =
        ap (λ (at : Option Label). find_asks name ++ question_asks q at)
        (ap (λ (p : Progress BookCall). label_in p.lines) (found_is some_left []) ∙ or_none (label_shown (answer_of [] doc)) ∙ is)

    pub lines_without : (r : Reply) → n ≢ limit → r ≡ answer_of [] doc → None ≡ label_in (found_lines r) → IsValidStoreCall doc → AreLinesOf opened name q (found_lines r)
    lines_without r apart is none valid =
        let some_left = other_numbers apart in
        let place = place_is r None is none in
        record {
          valid = subst AreValidAsks (sym (asks_by some_left None place)) (tt, (valid, tt));
          same = ap found_lines is ∙ sym (ap (λ (p : Progress BookCall). p.lines) (got_by some_left None place));
        }

    pub lines_with : (r p : Reply) (at : Label) → n ≢ limit → r ≡ answer_of [] doc → Some at ≡ label_in (found_lines r) → p ≡ answer_of found_calls (call_of q at)
        → IsValidStoreCall doc → IsValidStoreCall (call_of q at) → AreLinesOf opened name q (found_lines r ++ said_line p ∷ said_line reply.Nothing ∷ [])
    lines_with r p at apart is label_is shown_is_this valid valid_question =
        let some_left = other_numbers apart in
        let place = place_is r (Some at) is label_is in
        let last : Reply → List LineReply = λ x. said_line x ∷ said_line reply.Nothing ∷ [] in
        record {
          valid = subst AreValidAsks (sym (asks_by some_left (Some at) place)) (tt, (valid, (valid_question, (tt, tt))));
          same =
              ap (λ (x : Reply). found_lines x ++ last p) is
              ∙ ap (λ (x : Reply). found_lines (answer_of [] doc) ++ last x) shown_is_this
              ∙ sym (ap (λ (x : Progress BookCall). x.lines) (got_by some_left (Some at) place) ∙ ap (λ (x : Progress BookCall). begun.lines ++ (found.lines ++ x.lines)) (shown_is at));
        }

    missing : (why : Refusal) → (n + 0 == limit) ≡ false → (dom (Doc name) t).0 ≡ reply.Refused why → reason_in got.lines ≡ Some (reason.Call why)
    missing why some_left is =
        ap (λ (p : Progress BookCall). reason_in p.lines) (got_by some_left None (ap label_shown is))
        ∙ ap (λ (r : Reply). option_or (reason_of (Said 1 false (answer.Reply r))) None) is

    abbrev IsKept : Progress BookCall → Type 0
    IsKept p = (p.state.tree ≡ t) × (p.state.number ≡ n)

    pub kept : IsKept got
    kept = go (n + 0 == limit) refl (label_shown (answer_of [] doc)) refl
      where
        go : (b : Bool) → (n + 0 == limit) ≡ b → (place : Option Label) → label_shown (answer_of [] doc) ≡ place → IsKept got
        go true spent place is = (ap (λ (p : Progress BookCall). p.state.tree) (got_nothing spent), ap (λ (p : Progress BookCall). p.state.number) (got_nothing spent))
        go false some_left None is = (ap (λ (p : Progress BookCall). p.state.tree) (got_by some_left None is), ap (λ (p : Progress BookCall). p.state.number) (got_by some_left None is))
        go false some_left (Some at) is =
            let all = got_by some_left (Some at) is in (
              ap (λ (p : Progress BookCall). p.state.tree) all ∙ ap (λ (p : Progress BookCall). p.state.tree) (shown_is at),
              ap (λ (p : Progress BookCall). p.state.number) all ∙ ap (λ (p : Progress BookCall). p.state.number) (shown_is at),
            )

    -- each line is answered at once
    at_once : AllByRecursion IsAtOnce got.lines
    at_once = go (n + 0 == limit) refl (label_shown (answer_of [] doc)) refl
      where
        go : (b : Bool) → (n + 0 == limit) ≡ b → (place : Option Label) → label_shown (answer_of [] doc) ≡ place → AllByRecursion IsAtOnce got.lines
        go true spent place is = subst (λ (p : Progress BookCall). AllByRecursion IsAtOnce p.lines) (sym (got_nothing spent)) (tt, (tt, tt))
        go false some_left None is = subst (λ (p : Progress BookCall). AllByRecursion IsAtOnce p.lines) (sym (got_by some_left None is)) (tt, (tt, tt))
        go false some_left (Some at) is =
            subst (λ (p : Progress BookCall). AllByRecursion IsAtOnce p.lines) (sym (got_by some_left (Some at) is ∙ ap (λ (p : Progress BookCall). and_then begun (and_then found p)) (shown_is at)))
            (tt, (tt, (tt, (tt, tt))))

    pub spent_limit : (n + 0 == limit) ≡ true → reason_in got.lines ≡ Some reason.Limit
    spent_limit spent = ap (λ (p : Progress BookCall). reason_in p.lines) (got_nothing spent)

  pub get_on_tree : (name : Name) → GetOnTree t n limit name (got name Whole)
  get_on_tree name = record {
    limited = λ is. spent_limit name Whole (same_numbers is);
    missing = λ why apart is. missing name Whole why (other_numbers apart) is;
    refused = λ at why apart is_found is_shown. ap reason_in (got_lines name Whole at (reply.Refused why) (other_numbers apart) is_found is_shown);
    dumped = λ at document apart is_found is_shown.
        let lines = got_lines name Whole at (reply.Tree document) (other_numbers apart) is_found is_shown in
        (ap reason_in lines, ap tree_in lines ∙ or_none document);
    tree = (kept name Whole).0;
    number = (kept name Whole).1;
  }

  pub query_on_tree : (name : Name) (path : XPath) → QueryOnTree t n limit name path (got name (FoundBy path))
  query_on_tree name path = record {
    limited = λ is. spent_limit name (FoundBy path) (same_numbers is);
    missing = λ why apart is. missing name (FoundBy path) why (other_numbers apart) is;
    refused = λ at why apart is_found is_shown. ap reason_in (got_lines name (FoundBy path) at (reply.Refused why) (other_numbers apart) is_found is_shown);
    found = λ at hits apart is_found is_shown.
        let lines = got_lines name (FoundBy path) at (reply.Found hits) (other_numbers apart) is_found is_shown in
        (ap reason_in lines, ap hits_in lines);
    at_once = at_once name (FoundBy path);
    tree = (kept name (FoundBy path)).0;
    number = (kept name (FoundBy path)).1;
  }
