-- That a text of replies in their places is shown by its book.
use Rattle.std.proofs.Common.{◌≡◌, ℕ, true, false, cond, eqb, List, [], ◌∷◌, ◌++◌, length, map, refl, sym, ap, ◌∙◌, subst, arith}
use Rattle.std.specs.Prelude.{Result, Ok, Err, IfErr, IfOk}
use Rattle.call_contract.specs.Books.{Book, IsLegal}
use Rattle.call_contract.specs.Calls.{CallMeaning}
use Rattle.call_contract.specs.States.{State, start}
use Rattle.command_lines.specs.declared.command.Command.{Command}
use Rattle.command_lines.specs.declared.command.StoreCall.{StoreCall}
use Rattle.command_lines.specs.declared.line_reply.LineReply.{LineReply}
use Rattle.tree_model.specs.Tree.{Tree}
use Rattle.worker_run.specs.Workers.{own_exchanges, own_lines}
use Rattle.workers_text.specs.Entries.{commands_in, in_places}
use Rattle.workers_text.specs.declared.entry.Entry.{Entry}
use Rattle.workers_text.specs.declared.entry.Entry.TheVariants.{Asked, Bad}
use Rattle.session_driver.specs.Asking.{BookCall, doing_of}
use Rattle.group_commit.specs.OwnLines.{own_doings, own_printed, printed}
use Rattle.session_driver.specs.Sessions.{Does, DoesSome, Printed, doings_of}
use Rattle.workers_text.specs.WorkersText.{HasReplies, asked_of, order_of, printed_of}
use Rattle.session_driver.proofs.InPart.{done_in_part}
use Rattle.workers_text.specs.Shown.{IsShownBy, lines_in}

-- ---- replies in their places

-- each line has its reply, and a bad one its own
pub all_have_replies : (es : List Entry) (rs : List LineReply) → length rs ≡ length (commands_in es) → HasReplies (lines_in es) (in_places es rs)
all_have_replies [] rs all = tt
all_have_replies (Bad b ∷ es) rs all = (refl, all_have_replies es rs all)
all_have_replies (Asked c ∷ es) [] all = absurd (omega arith)
all_have_replies (Asked c ∷ es) (r ∷ rs) all = all_have_replies es rs (omega arith)

abbrev as_it_is : StoreCall → BookCall
as_it_is call = call

-- the lines of a session have the replies that its commands have
pub printed_in_places : (s : ℕ) (es : List Entry) (rs : List LineReply) → length rs ≡ length (commands_in es)
    → printed_of s (lines_in es) (in_places es rs) ≡ own_printed (λ call. call) s (commands_in es) rs
printed_in_places s [] rs all = refl
printed_in_places s (Bad b ∷ es) rs all = printed_in_places s es rs all
printed_in_places s (Asked c ∷ es) [] all = absurd (omega arith)
printed_in_places s (Asked c ∷ es) (r ∷ rs) all =
    let there = printed_in_places s es rs (omega arith) in
    let x : Printed BookCall = record { doing = doing_of as_it_is c.what; reply = r } in
    let lines = printed_of s (lines_in es) (in_places es rs) in
    let own = own_exchanges s (commands_in es) rs in
    elim (eqb c.session s) as (λ v. cond v (x ∷ lines) lines ≡ map (printed as_it_is) (cond v ((c, r) ∷ own) own)) [ true ↦ ap (λ ps. x ∷ ps) there | false ↦ there ]

-- ---- a book

module _ (m : CallMeaning BookCall) (t : Tree) (number limit : ℕ) (book : Book BookCall) (es : List Entry) where
  -- the text of replies in their places, and of the order line behind them
  abbrev pub whole_text : List LineReply → List LineReply
  whole_text rs = in_places es rs ++ order_of book ∷ []

  pub shown : IsLegal m t number limit book → (rs : List LineReply) → length rs ≡ length (commands_in es)
      → ((s : ℕ) → Does m s (start t number limit) book (own_printed (λ call. call) s (commands_in es) rs)) → IsShownBy m t number limit book (lines_in es) (whole_text rs)
  shown legal rs all does = record {
    legal = legal;
    replies = in_places es rs;
    text_is = refl;
    each = all_have_replies es rs all;
    does = λ s. subst (Does m s (start t number limit) book) (sym (printed_in_places s es rs all)) (does s);
  }

-- ---- what was asked

-- what the lines ask of a session is what their commands do
asked_in : (s : ℕ) (es : List Entry) → asked_of s (lines_in es) ≡ own_doings (λ call. call) s (commands_in es)
asked_in s [] = refl
asked_in s (Bad b ∷ es) = asked_in s es
asked_in s (Asked c ∷ es) =
    let there = asked_in s es in
    let d = doing_of as_it_is c.what in
    let asked = asked_of s (lines_in es) in
    let own = own_lines s (commands_in es) in
    elim (eqb c.session s) as (λ v. cond v (d ∷ asked) asked ≡ map (λ (k : Command). doing_of as_it_is k.what) (cond v (c ∷ own) own)) [ true ↦ ap (λ ds. d ∷ ds) there | false ↦ there ]

-- and what the commands with their replies were asked
doings_in : (s : ℕ) (cs : List Command) (rs : List LineReply) → length rs ≡ length cs → doings_of (own_printed (λ call. call) s cs rs) ≡ own_doings (λ call. call) s cs
doings_in s [] rs all = refl
doings_in s (c ∷ cs) [] all = absurd (omega arith)
doings_in s (c ∷ cs) (r ∷ rs) all =
    let there = doings_in s cs rs (omega arith) in
    let d = doing_of as_it_is c.what in
    let given = own_exchanges s cs rs in
    let own = own_lines s cs in
    elim (eqb c.session s) as (λ v. doings_of (map (printed as_it_is) (cond v ((c, r) ∷ given) given)) ≡ map (λ (k : Command). doing_of as_it_is k.what) (cond v (c ∷ own) own)) [ true ↦ ap (λ ds. d ∷ ds) there | false ↦ there ]

-- where there are replies, all lines are done, and so are the first of them
pub stops_in : {E : Type 0} (m : CallMeaning BookCall) (first : Tree → State BookCall) (stands : Tree → Type 0) (book : Book BookCall) (es : List Entry) (replies : Result (List LineReply) E) → IfOk replies (λ rs. length rs ≡ length (commands_in es))
    → IfOk replies (λ rs. (t : Tree) → stands t → (s : ℕ) → Does m s (first t) book (own_printed (λ call. call) s (commands_in es) rs))
    → IfErr replies (λ _. (t : Tree) → stands t → (s : ℕ) → DoesSome m s (first t) book (own_doings (λ call. call) s (commands_in es)))
    → (t : Tree) → stands t → (s : ℕ) → DoesSome m s (first t) book (asked_of s (lines_in es))
stops_in m first stands book es (Ok rs) all does stops t is s =
    let done = done_in_part m s (first t) book (own_printed (λ call. call) s (commands_in es) rs) (does t is s) in
    subst (DoesSome m s (first t) book) (doings_in s (commands_in es) rs all ∙ sym (asked_in s es)) done
stops_in m first stands book es (Err e) all does stops t is s = subst (DoesSome m s (first t) book) (sym (asked_in s es)) (stops t is s)

-- ---- answers that rest on others

both_hold : {U E : Type 0} (r : Result U E) (P Q : U → Type 0) → IfOk r P → IfOk r Q → IfOk r (λ u. P u × Q u)
both_hold (Ok u) P Q p q = (p, q)
both_hold (Err e) P Q p q = tt

module _ {T U E : Type 0} where
  -- where there is an answer that was made of another, what holds of that one leads on to it
  leads_on : (r : Result T E) (x : Result U E) (M : T → U → Type 0) (P : U → Type 0) (R : T → Type 0) → IfOk r (λ t. (u : U) × (x ≡ Ok u) × M t u) → IfOk x P
      → ((t : T) (u : U) → M t u → P u → R t) → IfOk r R
  leads_on (Ok t) x M P R made holds on = on t made.0 made.2 (subst (λ y. IfOk y P) made.1 holds)
  leads_on (Err e) x M P R made holds on = tt

  pub rests : (r : Result T E) (x : Result U E) (M : T → U → Type 0) (R : Type 0) → IfOk r (λ t. (u : U) × (x ≡ Ok u) × M t u) → IfOk x (λ _. R) → IfOk r (λ _. R)
  rests (Ok t) x M R made holds = subst (λ y. IfOk y (λ _. R)) made.1 holds
  rests (Err e) x M R made holds = tt

  pub leads_on_both : (r : Result T E) (x : Result U E) (M : T → U → Type 0) (P Q : U → Type 0) (R : T → Type 0) → IfOk r (λ t. (u : U) × (x ≡ Ok u) × M t u) → IfOk x P → IfOk x Q
      → ((t : T) (u : U) → M t u → P u → Q u → R t) → IfOk r R
  leads_on_both r x M P Q R made p q on = leads_on r x M (λ u. P u × Q u) R made (both_hold x P Q p q) (λ t u is pq. on t u is pq.0 pq.1)

-- where there is no answer
pub if_err_so : {T E : Type 0} (P : Type 0) (r : Result T E) → P → IfErr r (λ _. P)
if_err_so P (Ok t) h = tt
if_err_so P (Err e) h = h
