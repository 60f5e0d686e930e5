use Rattle.std.proofs.Common.{Err, Some, refl, sym, ap, ◌∙◌}
use Rattle.session_driver.proofs.Committing.{prepared_book, prepared_by, commit_free, commit_refuses}
use Rattle.session_driver.proofs.Driven.{book_same, entries_kept}
use Rattle.session_driver.proofs.Left.{grown_none, grown_lines}
use Rattle.session_driver.proofs.driver.prepare.Goals as goal

pub returns-in-Ok-clause-line : goal.returns-in-Ok-clause-line
returns-in-Ok-clause-line g c = λ t stands.
    let old = c.args.core.now in
    let new = c.prepare-prepared.new.self in
    let has = c.in-Ok.ensures.changes t stands in (
      refl,
      commit_free g.C.TreeCall.is_valid g.C.TreeCall.meaning g.B.NodeRead.contents old new (prepared_book old new (prepared_by old new (Some c.args.session) c.in-Ok.ensures.ok)) c.is_legal.ensures.book
          c.args.session c.in-Ok.prepared (sym c.in-Ok.ensures.refused) c.in-Ok.ensures.commit t stands has,
      has,
    )

pub returns-in_ok-refuse-in-Err-clause-line : goal.returns-in_ok-refuse-in-Err-clause-line
returns-in_ok-refuse-in-Err-clause-line g c = λ t stands.
    let old = c.args.core.now in
    let new = c.prepare-prepared.new.self in
    let is = c.in_ok-refuse-in-Err.ensures.ok in
    commit_refuses g.C.TreeCall.is_valid g.C.TreeCall.meaning g.B.NodeRead.contents old new (book_same old new c.in-Err.ensures.err) c.is_legal.ensures.book c.args.session c.in-Err.error is.0
    c.args.out.now.items c.refuse.new.out.items is.1 c.in-Err.ensures.refused is.2 t stands (λ e. c.prepare-prepared.ensures.limit (c.in-Err.is ∙ ap Err e) t stands)

pub returns-in-Ok-clause-later : goal.returns-in-Ok-clause-later
returns-in-Ok-clause-later g c =
    let old = c.args.core.now in
    let new = c.prepare-prepared.new.self in
    grown_none old new c.args.out.now.items c.args.out.now.items (entries_kept old new (prepared_book old new (prepared_by old new (Some c.args.session) c.in-Ok.ensures.ok))) refl

pub returns-in_ok-refuse-in-Err-clause-later : goal.returns-in_ok-refuse-in-Err-clause-later
returns-in_ok-refuse-in-Err-clause-later g c =
    let old = c.args.core.now in
    let new = c.prepare-prepared.new.self in
    grown_lines old new c.args.out.now.items c.refuse.new.out.items _ (entries_kept old new (book_same old new c.in-Err.ensures.err)) c.in_ok-refuse-in-Err.ensures.ok.2

pub returns-in_err-refuse-in-Err-clause-later : goal.returns-in_err-refuse-in-Err-clause-later
returns-in_err-refuse-in-Err-clause-later g c =
    let old = c.args.core.now in
    let new = c.prepare-prepared.new.self in
    grown_none old new c.args.out.now.items c.refuse.new.out.items (entries_kept old new (book_same old new c.in-Err.ensures.err)) c.in_err-refuse-in-Err.ensures.err.1
