-- What `get` and `query` show: the lines of a session that would be alone, each answered by the tree that a map stands for.
use Rattle.std.proofs.Common.{◌≡◌, ◌≤◌, ◌∙◌, ℕ, Bool, List, [], ◌∷◌, ◌++◌, inl, inr, refl, sym, ap, subst, arith}
use Rattle.std.specs.Prelude.{◌≢◌, Option, Some, None, Result, Ok, Err}
use Rattle.std.proofs.lemmas.Bool.{cases_eq}
use Rattle.outside_traits.specs.Faults.{FaultCounted, HasCause}
use Rattle.outside_traits.specs.Moments.{History}
use Rattle.dewey_labels.specs.Labels.{Label}
use Rattle.tree_model.specs.Entries.{Entries}
use Rattle.tree_model.specs.Names.{Name}
use Rattle.tree_model.specs.Tree.{Tree}
use Rattle.tree_model.specs.declared.dom_call.DomCall.TheVariants.{Doc}
use Rattle.tree_model.specs.declared.reply.Reply.{Reply}
use Rattle.tree_model.specs.declared.reply.Reply.TheVariants as reply
use Rattle.node_seq.specs.Trees.{OnTree, StandsFor}
use Rattle.call_contract.specs.States.{State, start}
use Rattle.session_driver.specs.Asking.{BookCall}
use Rattle.command_lines.specs.declared.command.StoreCall.TheVariants.{Dom}
use Rattle.command_lines.specs.declared.line_reply.LineReply.{LineReply}
use Rattle.store_calls.specs.StoreCalls.{IsValidStoreCall, store_meaning}
use Rattle.command_words.specs.Commands.{Command, query}
use Rattle.path_model.specs.declared.path.XPath.{XPath}
use Rattle.xpath_parser.specs.Parse.{parsed}
use Rattle.durable_sessions.specs.Reasons.{first_reason, reason_in}
use Rattle.durable_sessions.specs.declared.in_turn.Stop.{Stop}
use Rattle.durable_sessions.specs.declared.in_turn.Stop.TheVariants as stop
use Rattle.durable_sessions.specs.declared.reasons.Reason.{Reason}
use Rattle.durable_sessions.specs.declared.reasons.Reason.TheVariants.{Limit}
use Rattle.xtc.specs.Documents.{answer_line, call_of, label_in, query_asks_of, show_asks, stops_at}
use Rattle.xtc.specs.Statuses.{status_of_stop}
use Rattle.xtc.specs.TopCall.{tx_limit}
use Rattle.xtc.specs.declared.question.Question.{Question}
use Rattle.xtc.specs.declared.question.Question.TheVariants.{FoundBy}
use Rattle.xtc.specs.declared.status.Status.TheVariants.{DiskFault, DocumentRefused, NoMemory}
use Rattle.xtc.specs.inside.Asking.{DocumentWent, HasText, said}
use Rattle.xtc.specs.inside.Showing.{AddsAnswer, AreLinesOf, IsHalt, said_line, Shows}
use Rattle.xtc.specs.inside.Stores.{Counts}
use Rattle.xtc.proofs.DocumentLaws.{document_alone, document_refused, nothing_asked}
use Rattle.xtc.proofs.OnTreeLaws.{kept, lines_with, lines_without, same_numbers, spent_limit}

-- what is so of the tree that a map stands for after a read is so of the one that it stood for before
pub moved : {A : Type 0} (old now : Option Entries) (r : Result A Stop) (P Q : Tree → A → Type 0) → now ≡ old → ((t : Tree) (a : A) → StandsFor old t → P t a → Q t a) → OnTree now r P → OnTree old r Q
moved old now (Ok a) P Q same step h = λ t stands. step t a stands (h t (subst (λ (c : Option Entries). StandsFor c t) (sym same) stands))
moved old now (Err e) P Q same step h = tt

-- what is never some is none
pub never_some : {A : Type 0} (o : Option A) → ((x : A) → o ≡ Some x → ⊥) → o ≡ None
never_some None never = refl
never_some (Some x) never = absurd (never x refl)

-- a count that is another one than before rose
pub rose : (before now : ℕ) → before ≤ now → (now ≡ before → ⊥) → FaultCounted before now
rose before now later other = omega (arith, later, other)

-- where a fault comes first that was counted, what is so of the answer and of that fault is so of what is answered
pub first_has : {T : Type 0} (P : Result T Stop → Type 0) (answer given : Result T Stop) (before now : ℕ) → (now ≡ before → given ≡ answer) → (now ≢ before → given ≡ Err stop.DiskFault) → P answer → P (Err stop.DiskFault) → P given
first_has P answer given before now same fault there failed = elim (cases_eq now before) [
  | inl stays ↦ subst P (sym (same stays)) there
  | inr other ↦ subst P (sym (fault other)) failed
]

-- and it is answered exactly where it was counted
pub counted_first : {T : Type 0} (answer given : Result T Stop) (before now : ℕ) → HasCause stop.DiskFault before now answer → (now ≡ before → given ≡ answer) → (now ≢ before → given ≡ Err stop.DiskFault)
    → Counts (given ≡ Err stop.DiskFault) before now
counted_first answer given before now cause same fault = record {
  cause = record {
    counted = λ is. elim (cases_eq now before) [
      | inl stays ↦ cause.failed (sym (same stays) ∙ is)
      | inr other ↦ rose before now cause.later other
    ];
    exact = λ never. elim (cases_eq now before) [
      | inl stays ↦ stays
      | inr other ↦ absurd (never (fault other))
    ];
  };
  later = cause.later;
}

-- a path that was read is asked for
pub query_shows : (s : State BookCall) (name : Name) (text : List ℕ) (path : XPath) → parsed text ≡ Ok path → Shows (query name text) s name (FoundBy path)
query_shows s name text path is = record { asks = ap (query_asks_of s name) is; stops = refl; text = λ asked. refl; uncommitted = refl }

-- ---- the lines

module _ (t : Tree) (n : ℕ) (name : Name) (q : Question) where
  abbrev s : State BookCall
  s = start t n tx_limit

  module _ (call : BookCall) (r : Reply) (lines : List LineReply) (apart : n ≢ tx_limit) (is : call ≡ Dom (Doc name)) (valid : IsValidStoreCall call)
      (answered : r ≡ store_meaning.reply call t) (lines_are : lines ≡ said_line (reply.Number 1) ∷ said_line r ∷ []) where
    found : r ≡ store_meaning.reply (Dom (Doc name)) t
    found = answered ∙ ap (λ (c : BookCall). store_meaning.reply c t) is

    -- no document has the name
    pub lone_without : None ≡ label_in lines → AreLinesOf s name q lines
    lone_without none =
        subst (AreLinesOf s name q) (sym lines_are)
        (lines_without t n tx_limit name q r apart found (none ∙ ap label_in lines_are) (subst IsValidStoreCall is valid))

    -- one has, and is asked this
    pub lone_with : (at : Label) (now : List LineReply) → Some at ≡ label_in lines → AddsAnswer q at t lines now → AreLinesOf s name q now
    lone_with at now some adds =
        let p = store_meaning.reply (call_of q at) t in
        subst (AreLinesOf s name q) (sym (adds.lines ∙ ap (λ (l : List LineReply). l ++ said_line p ∷ said_line reply.Nothing ∷ []) lines_are))
        (lines_with t n tx_limit name q r p at apart found (some ∙ ap label_in lines_are) refl (subst IsValidStoreCall is valid) adds.valid)

  -- ---- the command

  module _ (is_known : Bool) (c : Command) (shows : Shows c s name q) (journal : History) where
    reasons : first_reason (stops_at c) (said s (show_asks s name q)) ≡ reason_in (said s (show_asks s name q))
    reasons = ap (λ by. first_reason by (said s (show_asks s name q))) shows.stops

    pub lone_done : (lines : List LineReply) (text : List ℕ) → AreLinesOf s name q lines → reason_in lines ≡ None → text ≡ answer_line q lines → HasText is_known s c [] journal journal text
    lone_done lines text are none text_is =
        document_alone is_known s c [] (show_asks s name q) shows.asks (omega arith) journal text are.valid (reasons ∙ sym (ap reason_in are.same) ∙ none) (kept t n tx_limit name q).0 (kept t n tx_limit name q).1
        (text_is ∙ ap (answer_line q) are.same ∙ sym (shows.text (show_asks s name q)))

    pub lone_refused : (lines : List LineReply) (why : Reason) → AreLinesOf s name q lines → reason_in lines ≡ Some why → DocumentWent is_known s c [] journal journal (DocumentRefused why)
    lone_refused lines why are some = document_refused is_known s c [] (show_asks s name q) shows.asks (omega arith) shows.uncommitted journal why (reasons ∙ sym (ap reason_in are.same) ∙ some)

    -- no number is left
    pub lone_limited : n ≡ tx_limit → DocumentWent is_known s c [] journal journal (DocumentRefused Limit)
    lone_limited is = document_refused is_known s c [] (show_asks s name q) shows.asks (omega arith) shows.uncommitted journal Limit (reasons ∙ spent_limit t n tx_limit name q (same_numbers t n tx_limit is))

-- a disk failed, or memory was wanting
pub lone_halted : (is_known : Bool) (s : State BookCall) (c : Command) (journal : History) (why : Stop) → IsHalt why → DocumentWent is_known s c [] journal journal (status_of_stop why)
lone_halted is_known s c journal (stop.Refused why) halts = absurd halts
lone_halted is_known s c journal stop.DiskFault halts = nothing_asked is_known s c [] journal DiskFault tt (omega arith)
lone_halted is_known s c journal stop.NoMemory halts = nothing_asked is_known s c [] journal NoMemory tt (omega arith)
