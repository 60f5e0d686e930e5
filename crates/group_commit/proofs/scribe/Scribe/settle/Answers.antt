use Rattle.std.proofs.Common.{◌≡◌, ◌<◌, ◌≤◌, ℕ, false, IsTrue, Result, Ok, Err, ap, sym, subst, ◌∙◌}
use Rattle.std.proofs.lemmas.Result.{err_from_is_err_and}
use Rattle.outside_traits.specs.Moments.{IsAllSynced}
use Rattle.shared_store.specs.declared.errors.StoreError.{StoreError}
use Rattle.group_commit.specs.Members.{IsAnswered, IsMadeDurable}
use Rattle.group_commit.specs.inside.Scribes.{IsScribe, marks_in, ScribeView}
use Rattle.group_commit.proofs.Scribing.{answered_at_once, answered_err, answered_ok, unchanged}
use Rattle.group_commit.proofs.scribe.Scribe.settle.Goals as goal

-- the number is durable already
pub returns-then-number-self-clause-answer : goal.returns-then-number-self-clause-answer
returns-then-number-self-clause-answer g c =
    let is = subst (λ (v : ScribeView _ _). IsScribe g.C.TreeCall.meaning g.B.NodeRead.contents g.J.Disk.is_known v) c.self.view_is c.self.invariant in
    let at = subst (λ (k : ℕ). c.args.number ≤ k) (ap (λ (v : ScribeView _ _). v.durable) c.self.view_is) c.if-number-self.true in
    answered_at_once g.C.TreeCall.meaning g.B.NodeRead.contents g.J.Disk.is_known c.args.self.now is c.args.session.now.under c.args.number at

pub returns-then-number-self-clause-moments : goal.returns-then-number-self-clause-moments
returns-then-number-self-clause-moments g c is_known =
    unchanged g.C.TreeCall.meaning g.B.NodeRead.contents g.J.Disk.is_known c.args.self.now (subst (λ (v : ScribeView _ _). IsScribe g.C.TreeCall.meaning g.B.NodeRead.contents g.J.Disk.is_known v) c.self.view_is c.self.invariant)
    (subst (λ (v : ScribeView _ _). IsTrue g.J.Disk.is_known → v.journal.failed ≡ false → IsAllSynced v.journal.history) c.self.view_is c.is_usable.ensures.settled) is_known

-- it is as all that are visible
pub returns-in_err-settle_all-clause-answer : goal.returns-in_err-settle_all-clause-answer
returns-in_err-settle_all-clause-answer g c =
    let s = c.args.self.now in
    let is = subst (λ (v : ScribeView _ _). IsScribe g.C.TreeCall.meaning g.B.NodeRead.contents g.J.Disk.is_known v) c.self.view_is c.self.invariant in
    let later = subst (λ (k : ℕ). k < c.args.number) (ap (λ (v : ScribeView _ _). v.durable) c.self.view_is) c.if-number-self.false in
    let under = c.args.session.now.under in
    let after = marks_in c.settle_all.new.self in
    let e = c.in_err-settle_all.field-0.0 in
    let p = err_from_is_err_and c.from_residual.result c.from_residual.ensures.1 in
    subst (λ (r : Result ℕ StoreError). IsAnswered (marks_in s) under c.args.number r after) (sym (p.1 ∙ ap Err p.2))
    (answered_err g.C.TreeCall.meaning g.B.NodeRead.contents g.J.Disk.is_known s is under c.args.number e after later
    (subst (λ (k : ℕ). IsMadeDurable (marks_in s) under k (Err e) after) (sym c.requires.number.0) c.in_err-settle_all.ensures.answer))

pub returns-clause-answer : goal.returns-clause-answer
returns-clause-answer g c =
    let s = c.args.self.now in
    let under = c.args.session.now.under in
    let after = marks_in c.settle_all.new.self in
    answered_ok s under c.args.number tt after c.requires.number.1 (subst (λ (k : ℕ). IsMadeDurable (marks_in s) under k (Ok tt) after) (sym c.requires.number.0) c.in_ok-settle_all.ensures.answer)
