use Rattle.std.proofs.Common.{◌&&◌, ◌==◌, cond, IsSome, Some, sym, ap, subst, ◌∙◌}
use Rattle.std.proofs.lemmas.Result.{on_ok_weaker}
use Rattle.lock_table.specs.Resources.{same_resource}
use Rattle.lock_table.specs.inside.Rows.{held_in}
use Rattle.lock_table.proofs.Listing.{listed_put, listed_same, either}
use Rattle.lock_table.proofs.Together.{together_put, together_same}
use Rattle.lock_table.proofs.table.grant.Goals as goal

pub make_listed-requires : goal.make_listed-requires
make_listed-requires c = λ some. c.requires.kept.listed c.args.owner c.args.request.now.resource (subst IsSome c.requires.before (sym c.is_some.ensures ∙ some))

pub returns-clause-kept : goal.returns-clause-kept
returns-clause-kept c =
    either c.put.result
    (λ is. record {
      listed = listed_put c.args.rows.now c.put.new.rows c.args.owned.now c.make_listed.new.owned c.args.owner c.args.request.now.resource c.join_held-ask.result c.requires.kept.listed c.make_listed.ensures.grows c.in_ok-make_listed.ensures.noted is;
      together = together_put c.args.rows.now c.put.new.rows c.args.owner c.args.request.now.resource c.args.request.now.ask c.args.before c.requires.kept.together c.requires.before c.requires.free
          (λ o r. is o r ∙ ap (λ a. cond ((c.args.owner == o) && same_resource c.args.request.now.resource r) (Some a) (held_in c.args.rows.now o r)) c.join_held-ask.ensures);
    })
    (λ is. record {
      listed = listed_same c.args.rows.now c.put.new.rows c.args.owned.now c.make_listed.new.owned c.requires.kept.listed c.make_listed.ensures.grows is;
      together = together_same c.args.rows.now c.put.new.rows c.requires.kept.together is;
    })
    c.put.ensures.ok c.put.ensures.err

pub returns-clause-ok : goal.returns-clause-ok
returns-clause-ok c = on_ok_weaker c.put.result (λ is o r. is o r
    ∙ ap (λ a. cond ((c.args.owner == o) && same_resource c.args.request.now.resource r) (Some a) (held_in c.args.rows.now o r)) c.join_held-ask.ensures) c.put.ensures.ok
