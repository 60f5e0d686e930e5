-- A call on two trees, step by step: as long as they agree on what was asked for, it goes the same way on both.
use Rattle.std.proofs.Common.{◌≡◌, ℕ, suc, Bool, true, false, List, [], ◌++◌, take, append_assoc, append-nil, refl, sym, subst, true≢false}
use Rattle.dewey_labels.specs.Labels.{is_label}
use Rattle.lock_modes.specs.declared.ask.Ask.{Ask}
use Rattle.lock_resources.specs.declared.resource.Resource.{Resource}
use Rattle.lock_resources.specs.declared.request.Request.{Request}
use Rattle.lock_resources.specs.Resources.{label_of}
use Rattle.lock_resources.specs.Intentions.{has_row, with_intentions}
use Rattle.tree_model.specs.declared.reply.Reply.{Reply}
use Rattle.tree_model.specs.Tree.{Tree}
use Rattle.tree_model.specs.Outcomes.{Outcome}
use Rattle.tree_cells.specs.Cells.{Cell, value_at}
use Rattle.tree_cells.specs.Covers.{writes, Agree}
use Rattle.tree_cells.specs.Forms.{AreRows}
use Rattle.tree_cells.proofs.Coverage.{written_is_read}
use Rattle.tree_cells.proofs.Agreement.{agree_left, agree_moved, no_rows, one_row_more, block_same}
use Rattle.lock_plans.specs.Plans.{Run, Step, ends, in_turn, asks, answers, where_so}

-- ---- a call on two trees

-- acc was asked for before
pub record Same (acc : List Request) (t u : Tree) (P Q : Run) : Type 0 where
  pub form : Agree (acc ++ P.requests) t u → AreRows P.requests
  pub next : (k : ℕ) → Agree (acc ++ take k P.requests) t u → take (suc k) P.requests ≡ take (suc k) Q.requests
  pub reply : Agree (acc ++ P.requests) t u → P.outcome.0 ≡ Q.outcome.0
  pub written : Agree (acc ++ P.requests) t u → (x : Cell) → writes (acc ++ P.requests) x ≡ true → value_at P.outcome.1 x ≡ value_at Q.outcome.1 x
  pub kept : Agree (acc ++ P.requests) t u → (x : Cell) → writes (acc ++ P.requests) x ≡ false → value_at P.outcome.1 x ≡ value_at t x

module _ (acc : List Request) (t u : Tree) where
  -- what the trees agree on may be used
  pub given : (P Q : Run) → (Agree acc t u → Same acc t u P Q) → Same acc t u P Q
  given P Q h = record {
    form = λ a. (h (agree_left acc P.requests t u a)).form a;
    next = λ k a. (h (agree_left acc (take k P.requests) t u a)).next k a;
    reply = λ a. (h (agree_left acc P.requests t u a)).reply a;
    written = λ a. (h (agree_left acc P.requests t u a)).written a;
    kept = λ a. (h (agree_left acc P.requests t u a)).kept a;
  }

  -- a request
  pub same_asks : (r : Resource) (a : Ask) (P Q : Run) → has_row r a ≡ true → is_label (label_of r) ≡ true
      → (Agree (acc ++ with_intentions r a) t u → Same (acc ++ with_intentions r a) t u P Q) → Same acc t u (asks r a P) (asks r a Q)
  same_asks r a P Q row label rest =
      let b = with_intentions r a in
      let move : Agree (acc ++ (b ++ P.requests)) t u → Agree ((acc ++ b) ++ P.requests) t u = agree_moved acc b P.requests t u in
      let inner : Agree (acc ++ (b ++ P.requests)) t u → Same (acc ++ b) t u P Q = λ h. rest (agree_left (acc ++ b) P.requests t u (move h)) in
      record {
        form = λ h. one_row_more r a P.requests row label ((inner h).form (move h));
        next = λ k h. block_same b acc P.requests Q.requests t u k (λ j g. (rest (agree_left (acc ++ b) (take j P.requests) t u g)).next j g) h;
        reply = λ h. (inner h).reply (move h);
        written = λ h x on. (inner h).written (move h) x (subst (λ (gs : List Request). writes gs x ≡ true) (sym (append_assoc acc b P.requests)) on);
        kept = λ h x off. (inner h).kept (move h) x (subst (λ (gs : List Request). writes gs x ≡ false) (sym (append_assoc acc b P.requests)) off);
      }

  -- the end of a call that changes nothing
  pub same_reading : (r s : Reply) → r ≡ s → Same acc t u (ends (r, t)) (ends (s, u))
  same_reading r s e = record {
    form = λ _. no_rows;
    next = λ k _. refl;
    reply = λ _. e;
    written = λ a x on. a x (written_is_read (acc ++ []) x on);
    kept = λ _ x _. refl;
  }

  -- the end of a call that changes a tree
  pub same_change : (o p : Outcome) → o.0 ≡ p.0 → ((x : Cell) → writes acc x ≡ true → value_at o.1 x ≡ value_at p.1 x)
      → ((x : Cell) → writes acc x ≡ false → value_at o.1 x ≡ value_at t x) → Same acc t u (ends o) (ends p)
  same_change o p e written kept = record {
    form = λ _. no_rows;
    next = λ k _. refl;
    reply = λ _. e;
    written = λ _ x on. written x (subst (λ (gs : List Request). writes gs x ≡ true) (append-nil acc) on);
    kept = λ _ x off. kept x (subst (λ (gs : List Request). writes gs x ≡ false) (append-nil acc) off);
  }

  -- a test that may end the call
  pub same_answers : (b c : Bool) (r : Reply) (P Q : Run) → b ≡ c → (b ≡ false → c ≡ false → Same acc t u P Q)
      → Same acc t u (answers b r t P) (answers c r u Q)
  same_answers true true r P Q e rest = same_reading r r refl
  same_answers true false r P Q e rest = absurd (true≢false e)
  same_answers false true r P Q e rest = absurd (true≢false (sym e))
  same_answers false false r P Q e rest = rest refl refl

  -- steps that are made where a test holds
  pub same_where : (b c : Bool) (ss qs : List Step) (P Q : Run) → b ≡ c → (b ≡ true → c ≡ true → Same acc t u (in_turn ss P) (in_turn qs Q))
      → (b ≡ false → c ≡ false → Same acc t u P Q) → Same acc t u (where_so b ss P) (where_so c qs Q)
  same_where true true ss qs P Q e so else_ = so refl refl
  same_where true false ss qs P Q e so else_ = absurd (true≢false e)
  same_where false true ss qs P Q e so else_ = absurd (true≢false (sym e))
  same_where false false ss qs P Q e so else_ = else_ refl refl
