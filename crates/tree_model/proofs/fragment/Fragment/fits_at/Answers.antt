use Rattle.std.proofs.Common.{length, ap, sym, ◌∙◌}
use Rattle.dewey_labels.proofs.Limits.{test_of_within}
use Rattle.tree_model.specs.Fragments.{plain}
use Rattle.tree_model.specs.GraftLimits.{fit_at}
use Rattle.tree_model.proofs.Grafts.{fits-graft}
use Rattle.tree_model.proofs.fragment.Fragment.fits_at.Goals as goal

pub returns : goal.returns
returns c =
    let f = plain c.args.self.now in
    c.fits_behind.ensures ∙ ap (λ l. fit_at (length l) f) c.divisions.ensures.divisions ∙ sym (fits-graft c.args.at.now f (test_of_within c.args.at.now c.divisions.ensures.label.1))
