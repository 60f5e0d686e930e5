use Rattle.std.proofs.Common.{◌≡◌, [], ◌∷◌, ◌++◌, ap, ◌∙◌, append_assoc}
use Rattle.lock_resources.specs.Intentions.{request, intentions, with_intentions}
use Rattle.lock_resources.specs.inside.Gained.{GoesOn}
use Rattle.lock_resources.proofs.Ways.{goes_on_by, on_ok_then, on_err_then}
use Rattle.lock_resources.proofs.intentions.push_row.Goals as goal

pub returns-clause-ok : goal.returns-clause-ok
returns-clause-ok c =
    let old = c.args.out.now in
    let whole = intentions c.args.resource c.args.ask in
    let own = request c.args.resource c.args.ask ∷ [] in
    on_ok_then c.push_own.result (c.push_own.new.out ≡ c.push_intentions.new.out ++ own) (c.push_own.new.out ≡ old ++ with_intentions c.args.resource c.args.ask)
    (λ e. e ∙ ap (λ v. v ++ own) c.in_ok-push_intentions.ensures.ok ∙ append_assoc old whole own)
    c.push_own.ensures.ok

pub returns-clause-err : goal.returns-clause-err
returns-clause-err c =
    on_err_then c.push_own.result (c.push_own.new.out ≡ c.push_intentions.new.out) (GoesOn c.args.out.now c.push_own.new.out)
    (λ e. goes_on_by _ _ _ (e ∙ c.in_ok-push_intentions.ensures.ok))
    c.push_own.ensures.err
