use Rattle.std.proofs.Common.{IsTrue, sym, subst}
use Rattle.std.proofs.lemmas.Result.{on_ok_weaker}
use Rattle.lock_table.specs.inside.Rows.{is_listed}
use Rattle.lock_table.proofs.Listing.{listed_last, listed_more, either}
use Rattle.lock_table.proofs.owned.push.Goals as goal

pub returns-clause-noted : goal.returns-clause-noted
returns-clause-noted c = on_ok_weaker c.push.result (λ is. subst (λ xs. IsTrue (is_listed c.args.resource xs)) (sym is) (listed_last c.args.list.now c.args.resource)) c.push.ensures.ok

pub returns-clause-grows : goal.returns-clause-grows
returns-clause-grows c = λ r on. either c.push.result (λ is. subst (λ xs. IsTrue (is_listed r xs)) (sym is) (listed_more r c.args.list.now c.args.resource on)) (λ is. subst (λ xs. IsTrue (is_listed r xs)) (sym is) on) c.push.ensures.ok c.push.ensures.err
