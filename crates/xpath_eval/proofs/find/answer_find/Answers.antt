use Rattle.std.proofs.Common.{sym, subst}
use Rattle.std.specs.BTreeMap.{values}
use Rattle.path_model.specs.Finds.{find}
use Rattle.path_model.specs.PlainPaths.{plain_path}
use Rattle.path_model.specs.Programs.{looked}
use Rattle.xpath_eval.specs.inside.Memos.{IsRight, IsRightAt}
use Rattle.xpath_eval.proofs.Memos.{none_kept}
use Rattle.xpath_eval.proofs.find.answer_find.Goals as goal

pub returns-clause-reply : goal.returns-clause-reply
returns-clause-reply g c = λ t stands.
    let saw = g.W.Notes.saw in
    let memo = c.in_ok-memo.memo in
    let right : IsRight saw t memo = none_kept (IsRightAt saw t memo.tests memo.notes) (values memo.kept) c.in_ok-memo.ensures.1 in
    ((c.in_ok-reply.ensures.run t stands).run (right, g.met.W.Notes.saw_nothing memo.notes, right)).is

pub returns-clause-looked : goal.returns-clause-looked
returns-clause-looked g c = λ t stands.
    let saw = g.W.Notes.saw in
    let memo = c.in_ok-memo.memo in
    let os = looked t (find c.args.at.now (plain_path c.args.path.now)) in
    let right : IsRight saw t memo = none_kept (IsRightAt saw t memo.tests memo.notes) (values memo.kept) c.in_ok-memo.ensures.1 in
    let run = (c.in_ok-reply.ensures.run t stands).run (right, g.met.W.Notes.saw_nothing memo.notes, right) in
    subst (λ w. saw w os c.into_notes.result) c.in_ok-memo.ensures.0 (subst (λ w. saw memo.notes os w) (sym c.into_notes.ensures) run.went.noted.1)

pub returns-clause-reads : goal.returns-clause-reads
returns-clause-reads g c = λ t stands.
    let saw = g.W.Notes.saw in
    let memo = c.in_ok-memo.memo in
    let right : IsRight saw t memo = none_kept (IsRightAt saw t memo.tests memo.notes) (values memo.kept) c.in_ok-memo.ensures.1 in
    ((c.in_ok-reply.ensures.run t stands).run (right, g.met.W.Notes.saw_nothing memo.notes, right)).went.read
