-- Lines of the generator's script, one behind another: what they ask, what is counted of them, and what they leave of a store.
use Rattle.std.proofs.Common.{◌≡◌, ◌≢◌, ◌==◌, ℕ, Bool, false, List, [], ◌∷◌, ◌++◌, length, Less, is_lt, nat_cmp, inl, refl, sym, ap, subst, ◌∙◌, append-nil, arith}
use Rattle.std.specs.Prelude.{Option, None, Some, Result, Ok, Err, OnOk, cond, is_some, not, option_map}
use Rattle.std.specs.Result.{IsErrAnd}
use Rattle.std.proofs.lemmas.Bool.{ne_eqb}
use Rattle.std.proofs.lemmas.List.{append_assoc}
use Rattle.std.specs.Cmp.Lexicographic.{slice_cmp}
use Rattle.std.specs.List.{AllByRecursion}
use Rattle.std.specs.declared.cmp.Ordering.{Ordering}
use Rattle.dewey_labels.specs.Labels.{root}
use Rattle.outside_traits.specs.Moments.{History}
use Rattle.tree_model.specs.declared.key.Key.{Key}
use Rattle.tree_model.specs.Entries.{Above, Entries, first_above}
use Rattle.tree_model.specs.Keys.{node_key}
use Rattle.tree_model.specs.Names.{Name}
use Rattle.tree_model.specs.Tree.{Catalogue, Tree, entries_of, map_of}
use Rattle.tree_model.specs.ValidTrees.{IsValidTree, NamesRise}
use Rattle.tree_model.proofs.Lists.{all_append}
use Rattle.tree_model.proofs.WholeTree.{catalogue_entries, documents_above}
use Rattle.node_seq.specs.Reads.{key_above}
use Rattle.call_contract.specs.Books.{Book}
use Rattle.call_contract.specs.States.{State}
use Rattle.session_driver.specs.Asking.{BookCall}
use Rattle.command_lines.specs.declared.line_reply.LineReply.{LineReply}
use Rattle.session_driver.specs.Lines.{Asked, IsValidDoing, after_line as after_asked_line}
use Rattle.session_driver.specs.declared.doing.Doing.TheVariants.{Commit}
use Rattle.store_calls.specs.StoreCalls.{IsValidStoreCall, store_meaning}
use Rattle.tx_core.specs.Cores.{CoreView}
use Rattle.workload_gen.specs.LineTexts.{line_text}
use Rattle.workload_gen.specs.Scripts.{script}
use Rattle.workload_gen.specs.Summaries.{after_line}
use Rattle.workload_gen.specs.declared.line.Line.{Line}
use Rattle.workload_gen.specs.declared.summary.Summary.{Summary}
use Rattle.command_words.specs.Commands.{gen}
use Rattle.durable_sessions.specs.Asked.{LeadsTo, LeavesEither}
use Rattle.durable_sessions.specs.InTurn.{AllAnswered, stop_of}
use Rattle.durable_sessions.specs.Reasons.{first_reason, limit_of}
use Rattle.durable_sessions.specs.Standing.{Stands}
use Rattle.durable_sessions.specs.declared.halt.Halt.{Halt}
use Rattle.durable_sessions.specs.declared.in_turn.Stop.TheVariants.{Refused}
use Rattle.durable_sessions.proofs.InTurnLists.{after_on}
use Rattle.durable_sessions.proofs.InTurnLaws.{image_holds, step_moments, step_lines, step_stopped}
use Rattle.xtc.specs.Book.{after_asked}
use Rattle.xtc.specs.Documents.{asks_of, gen_asks_of, has_documents}
use Rattle.xtc.specs.Generated.{asked_in, counted, generated, generated_line}
use Rattle.xtc.specs.ScriptLine.{Line as Read, line_of}
use Rattle.durable_sessions.specs.declared.reasons.Reason.{Reason}
use Rattle.xtc.specs.inside.Asking.{AreValidAsks, LeavesFirst, Stopped, after, said}
use Rattle.xtc.specs.inside.Counting.{AskedLine, Made}

-- ---- lists

pub generated_on : (xs ys : List Line) → generated (xs ++ ys) ≡ generated xs ++ generated ys
generated_on [] ys = refl
generated_on (x ∷ xs) ys =
    ap (λ (l : List (Asked BookCall)). generated_line x ++ l) (generated_on xs ys) ∙ sym (append_assoc (generated_line x) (generated xs) (generated ys))

pub generated_one : (front : List Line) (line : Line) → generated (front ++ line ∷ []) ≡ generated front ++ generated_line line
generated_one front line = generated_on front (line ∷ []) ∙ ap (λ (l : List (Asked BookCall)). generated front ++ l) (append-nil (generated_line line))

pub counted_on : (s : State BookCall) (before : Summary) (xs ys : List Line) → counted s before (xs ++ ys) ≡ counted (after s (generated xs)) (counted s before xs) ys
counted_on s before [] ys = refl
counted_on s before (x ∷ xs) ys =
    let first : Summary = after_line before x.step (said s (generated_line x)) in
    counted_on (after s (generated_line x)) first xs ys
    ∙ ap (λ (u : State BookCall). counted u (counted (after s (generated_line x)) first xs) ys) (sym (after_on store_meaning s (generated_line x) (generated xs)))

-- ---- one line

-- what a line that was read asks
pub line_asks : (line : Line) (read : Read) → read ≡ line_of (line_text line) → asked_in read ≡ generated_line line
line_asks line read is = ap asked_in is

module _ {B : Type 0} (contents : B → Option Entries) where
  -- something is
  pub made_one : (is_known : Bool) (s : State BookCall) (a : Asked BookCall) → IsValidDoing IsValidStoreCall a.doing → (old new : History) → (a.doing ≢ Commit → new ≡ old) → (core : CoreView BookCall B) (now : List LineReply)
      → LeadsTo store_meaning contents is_known old core new s (after_asked_line store_meaning s a).state → LeavesEither is_known old new s (after_asked_line store_meaning s a).state → now ≡ (after_asked_line store_meaning s a).lines
      → Made contents is_known s (a ∷ []) old core new now
  made_one is_known s a valid old new still core now leads leaves replies = record {
    few = omega arith;
    valid = (valid, tt);
    leads = leads;
    moments = step_moments IsValidStoreCall store_meaning contents limit_of is_known s a valid old new still leaves;
    still = λ asks_none. still asks_none.0;
    replies = replies ∙ sym (step_lines IsValidStoreCall store_meaning contents limit_of is_known s a valid old new still);
  }

  -- it stopped
  pub line_err : {T : Type 0} (r : Result T Halt) (h : Halt) (is_known : Bool) (s : State BookCall) (all : List (Asked BookCall)) (old : History) (core : CoreView BookCall B) (new : History) (now : List LineReply)
      → IsErrAnd r (λ e. e ≡ h) → Stopped limit_of is_known s all old new (stop_of h) → AskedLine contents is_known s all old core new now r
  line_err (Ok x) h is_known s all old core new now none stopped = absurd none
  line_err (Err e) h is_known s all old core new now is stopped = subst (λ (k : Halt). Stopped limit_of is_known s all old new (stop_of k)) (sym is) stopped

  -- something was asked, or it stopped in that
  pub line_done : {T : Type 0} (r : Result T Halt) (is_known : Bool) (s : State BookCall) (a : Asked BookCall) → IsValidDoing IsValidStoreCall a.doing → (old new : History) → (a.doing ≢ Commit → new ≡ old) → (first core : CoreView BookCall B)
      (before now : List LineReply) → before ≡ [] → Stands store_meaning contents first s → OnOk r ((u : State BookCall) → Stands store_meaning contents first u → LeadsTo store_meaning contents is_known old core new u (after_asked_line store_meaning u a).state)
      → OnOk r ((u : State BookCall) → Stands store_meaning contents first u → now ≡ before ++ (after_asked_line store_meaning u a).lines)
      → LeavesEither is_known old new s (after_asked_line store_meaning s a).state → AskedLine contents is_known s (a ∷ []) old core new now r
  line_done (Ok x) is_known s a valid old new still first core before now none stands leads replies leaves =
      made_one is_known s a valid old new still core now (leads s stands) leaves (replies s stands ∙ ap (λ (l : List LineReply). l ++ (after_asked_line store_meaning s a).lines) none)
  line_done (Err e) is_known s a valid old new still first core before now none stands leads replies leaves = step_stopped IsValidStoreCall store_meaning contents limit_of is_known s a valid old new still [] e leaves

  -- then it was answered, or refused by the numbers that are left
  pub line_answered : (is_known : Bool) (s : State BookCall) (all : List (Asked BookCall)) (old : History) (core : CoreView BookCall B) (new : History) (now : List LineReply)
      → Made contents is_known s all old core new now → first_reason limit_of now ≡ None → AllAnswered IsValidStoreCall store_meaning contents limit_of is_known s all old core new [] now
  line_answered is_known s all old core new now made none = record {
    valid = made.valid;
    leads = made.leads;
    moments = made.moments;
    still = made.still;
    replies = made.replies;
    unrefused = ap (first_reason limit_of) (sym made.replies) ∙ none;
  }

  pub line_refused : (is_known : Bool) (s : State BookCall) (all : List (Asked BookCall)) (old : History) (core : CoreView BookCall B) (new : History) (now : List LineReply) (why : Reason)
      → Made contents is_known s all old core new now → first_reason limit_of now ≡ Some why → Stopped limit_of is_known s all old new (Refused why)
  line_refused is_known s all old core new now why made refused =
      let whole : all ++ [] ≡ all = append-nil all in
      record {
        answered = all;
        more = [];
        rest = [];
        parts = whole;
        one = omega arith;
        valid = subst AreValidAsks (sym whole) made.valid;
        moments = subst (λ (l : List (Asked BookCall)). LeavesFirst is_known s l old new) (sym whole) made.moments;
        left = λ known pages holds image is. inl (image_holds (after s all) pages new (made.leads.settled known pages holds) image is);
        still = made.still;
        stops = record { front = []; last = all; parts = sym whole; one = made.few; unrefused = refl };
        cause = (ap (first_reason limit_of) (sym made.replies) ∙ refused, refl);
      }

  -- ---- the book

  -- its entries are those of what is asked
  pub book_asked : {T : Type 0} (r : Result T Halt) (line : Line) (a : Asked BookCall) (first core : CoreView BookCall B) → a ∷ [] ≡ generated_line line
      → OnOk r ((u : State BookCall) → Stands store_meaning contents first u → core.book ≡ first.book ++ (after_asked_line store_meaning u a).book)
      → OnOk r ((u : State BookCall) → Stands store_meaning contents first u → core.book ≡ first.book ++ (after_asked u (generated_line line)).book)
  book_asked (Ok x) line a first core is book = λ u stands.
      subst (λ (l : List (Asked BookCall)). core.book ≡ first.book ++ (after_asked u l).book) is
      (book u stands ∙ ap (λ (b : Book BookCall). first.book ++ b) (sym (append-nil (after_asked_line store_meaning u a).book)))
  book_asked (Err e) line a first core is book = tt

-- ---- a store with documents

-- all entries of a valid tree's map lie above the root's own key, so the least one above it is the first
name_above : (lo n : Name) → slice_cmp nat_cmp lo n ≡ Less → slice_cmp nat_cmp [] n ≡ Less
name_above [] [] h = h
name_above (y ∷ ys) [] h = cc
name_above lo (x ∷ xs) h = refl

catalogue_above : (lo : Name) (cat : Catalogue) → NamesRise lo cat → AllByRecursion (Above (node_key root)) (catalogue_entries cat)
catalogue_above lo [] w = tt
catalogue_above lo (c ∷ cat) w = (name_above lo c.0 w.0, catalogue_above c.0 cat w.2)

all_above : (t : Tree) → IsValidTree t → AllByRecursion (Above (node_key root)) (map_of t)
all_above t w = all_append (Above (node_key root)) (catalogue_entries t.catalogue) (entries_of t.documents) (catalogue_above [] t.catalogue w.catalogue.names) (documents_above [] t w)

-- there is a key exactly where there is an entry
first_is : (k : Key) (es : Entries) → AllByRecursion (Above k) es → is_some (key_above k es) ≡ not (length es == 0)
first_is k [] all = refl
first_is k (e ∷ es) all = ap (λ (o : Ordering). is_some (option_map (λ x. x.0) (cond (is_lt o) (Some e) (first_above k es)))) all.0 ∙ sym (ap not (ne_eqb (length (e ∷ es)) 0 (λ is. omega (arith, is))))

-- so a store has documents exactly where it has a key above the root's
pub documents_seen : (t : Tree) → IsValidTree t → is_some (key_above (node_key root) (map_of t)) ≡ has_documents t
documents_seen t valid = first_is (node_key root) (map_of t) (all_above t valid)

pub script_asked : (s : State BookCall) (seed count : ℕ) → has_documents s.tree ≡ false → asks_of (gen seed count) s [] ≡ Ok (generated (script seed count))
script_asked s seed count none = ap (λ (b : Bool). gen_asks_of b seed count) none
