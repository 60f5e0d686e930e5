use Rattle.std.proofs.Common.{◌≡◌, List, Ok, sym, ap, subst, ◌∙◌}
use Rattle.std.specs.List.{AllByRecursion}
use Rattle.dewey_labels.specs.Labels.{Label}
use Rattle.tree_model.specs.Entries.{Sorted}
use Rattle.tree_model.specs.Fragments.{Fragments, plain}
use Rattle.tree_model.specs.Placing.{replace}
use Rattle.tree_model.specs.Subtrees.{fragment_of}
use Rattle.tree_model.specs.Tree.{at}
use Rattle.tree_model.specs.declared.change.Change.{Change}
use Rattle.node_seq.specs.Reads.{IsValidEntry}
use Rattle.dom_reads.proofs.ReplyLaws.{later}
use Rattle.dom_writes.specs.inside.NewPlaces.{Suits, SuitsOrRefused}
use Rattle.dom_writes.specs.inside.Outcomes.{placed_instead}
use Rattle.dom_writes.proofs.ReplacementLaws.{graft_fits, nothing_is_some, old_is, refused_instead, replaced}
use Rattle.dom_writes.proofs.ReadLaws.{replace_all, replace_four}
use Rattle.dom_writes.proofs.removals.replacement.Goals as goal

pub graft_entries-requires : goal.graft_entries-requires
graft_entries-requires g c =
    let suits : Suits c.args.at.now (plain c.args.fragment.now) c.in-Ok.new = subst (SuitsOrRefused c.args.at.now (plain c.args.fragment.now)) c.in-Ok.is c.in_ok-place.ensures.suits in
    record { within = suits.within }

pub returns-in_default-clause-outcome : goal.returns-in_default-clause-outcome
returns-in_default-clause-outcome g c t stands =
    let p : Label = c.args.at.now in
    let k : Label = c.args.old.now in
    let f : Fragments = plain c.args.fragment.now in
    let new : Label = c.in-Ok.new in
    let e : placed_instead k f t (Ok new) ≡ replace p k f t = ap (placed_instead k f t) (sym c.in-Ok.is) ∙ c.in_ok-place.ensures.place t stands in
    let are = c.in_ok-entries-in-Ok.ensures.entries t (later _ _ t (g.met.S.NodeRead.unchanged_contents _ _ c.in_ok-place.ensures.unchanged) stands) in
    nothing_is_some c.in_ok-gone-in-Ok.gone (fragment_of (at k t.documents)) c.in_default.is
    (c.in_ok-gone-in-Ok.ensures.fragment k t stands.valid are ∙ old_is p k f t stands.valid c.requires.fragment new e)

pub returns-in-Some-clause-outcome : goal.returns-in-Some-clause-outcome
returns-in-Some-clause-outcome g c t stands =
    let p : Label = c.args.at.now in
    let k : Label = c.args.old.now in
    let f : Fragments = plain c.args.fragment.now in
    let new : Label = c.in-Ok.new in
    let e : placed_instead k f t (Ok new) ≡ replace p k f t = ap (placed_instead k f t) (sym c.in-Ok.is) ∙ c.in_ok-place.ensures.place t stands in
    let are = c.in_ok-entries-in-Ok.ensures.entries t (later _ _ t (g.met.S.NodeRead.unchanged_contents _ _ c.in_ok-place.ensures.unchanged) stands) in
    replaced p k f t stands.valid c.requires.fragment new e c.in_ok-entries-in-Ok.entries c.in_ok-new_entries-in-Ok.new_entries c.differences_between.new.out c.in-Some.old are c.in_ok-new_entries-in-Ok.ensures
    c.in_ok-differences_between-in-Ok.ensures.ok (sym c.in-Some.is ∙ c.in_ok-gone-in-Ok.ensures.fragment k t stands.valid are)

pub returns-in-Some-clause-rise : goal.returns-in-Some-clause-rise
returns-in-Some-clause-rise g c =
    let p : Label = c.args.at.now in
    let f : Fragments = plain c.args.fragment.now in
    let suits : Suits p f c.in-Ok.new = subst (SuitsOrRefused p f) c.in-Ok.is c.in_ok-place.ensures.suits in
    let fits = graft_fits p c.in-Ok.new f c.divisions-divisions.ensures.label c.requires.fragment suits in
    c.in_ok-differences_between-in-Ok.ensures.rise (subst Sorted (sym c.in_ok-new_entries-in-Ok.ensures) fits.0) (subst (AllByRecursion IsValidEntry) (sym c.in_ok-new_entries-in-Ok.ensures) fits.1)

pub returns-in-Err-clause-outcome : goal.returns-in-Err-clause-outcome
returns-in-Err-clause-outcome g c t stands =
    let p : Label = c.args.at.now in
    let k : Label = c.args.old.now in
    let f : Fragments = plain c.args.fragment.now in
    ap (λ (cs : List Change). (c.in-Err.refusal, cs)) c.new-in-Err.ensures
    ∙ refused_instead p k f t c.in-Err.refusal stands.valid (ap (placed_instead k f t) (sym c.in-Err.is) ∙ c.in_ok-place.ensures.place t stands)

pub returns-in_err-place-clause-reads : goal.returns-in_err-place-clause-reads
returns-in_err-place-clause-reads g c t stands =
    replace_four _ t _ c.args.at.now c.args.old.now (plain c.args.fragment.now) c.in_err-place.ensures.reads

pub returns-in_err-entries-in-Ok-clause-reads : goal.returns-in_err-entries-in-Ok-clause-reads
returns-in_err-entries-in-Ok-clause-reads g c t stands =
    let p : Label = c.args.at.now in
    let k : Label = c.args.old.now in
    let f : Fragments = plain c.args.fragment.now in
    let e : placed_instead k f t (Ok c.in-Ok.new) ≡ replace p k f t = ap (placed_instead k f t) (sym c.in-Ok.is) ∙ c.in_ok-place.ensures.place t stands in
    replace_all _ t _ _ p k f c.in-Ok.new e c.in_ok-place.ensures.reads (c.in_err-entries-in-Ok.ensures.reads_of_tree t (later _ _ t (g.met.S.NodeRead.unchanged_contents _ _ c.in_ok-place.ensures.unchanged) stands))

pub returns-in_err-new_entries-in-Ok-clause-reads : goal.returns-in_err-new_entries-in-Ok-clause-reads
returns-in_err-new_entries-in-Ok-clause-reads g c t stands =
    let p : Label = c.args.at.now in
    let k : Label = c.args.old.now in
    let f : Fragments = plain c.args.fragment.now in
    let e : placed_instead k f t (Ok c.in-Ok.new) ≡ replace p k f t = ap (placed_instead k f t) (sym c.in-Ok.is) ∙ c.in_ok-place.ensures.place t stands in
    replace_all _ t _ _ p k f c.in-Ok.new e c.in_ok-place.ensures.reads (c.in_ok-entries-in-Ok.ensures.reads_of_tree t (later _ _ t (g.met.S.NodeRead.unchanged_contents _ _ c.in_ok-place.ensures.unchanged) stands))

pub returns-in_err-differences_between-in-Ok-clause-reads : goal.returns-in_err-differences_between-in-Ok-clause-reads
returns-in_err-differences_between-in-Ok-clause-reads g c t stands =
    let p : Label = c.args.at.now in
    let k : Label = c.args.old.now in
    let f : Fragments = plain c.args.fragment.now in
    let e : placed_instead k f t (Ok c.in-Ok.new) ≡ replace p k f t = ap (placed_instead k f t) (sym c.in-Ok.is) ∙ c.in_ok-place.ensures.place t stands in
    replace_all _ t _ _ p k f c.in-Ok.new e c.in_ok-place.ensures.reads (c.in_ok-entries-in-Ok.ensures.reads_of_tree t (later _ _ t (g.met.S.NodeRead.unchanged_contents _ _ c.in_ok-place.ensures.unchanged) stands))

pub returns-in_err-gone-in-Ok-clause-reads : goal.returns-in_err-gone-in-Ok-clause-reads
returns-in_err-gone-in-Ok-clause-reads g c t stands =
    let p : Label = c.args.at.now in
    let k : Label = c.args.old.now in
    let f : Fragments = plain c.args.fragment.now in
    let e : placed_instead k f t (Ok c.in-Ok.new) ≡ replace p k f t = ap (placed_instead k f t) (sym c.in-Ok.is) ∙ c.in_ok-place.ensures.place t stands in
    replace_all _ t _ _ p k f c.in-Ok.new e c.in_ok-place.ensures.reads (c.in_ok-entries-in-Ok.ensures.reads_of_tree t (later _ _ t (g.met.S.NodeRead.unchanged_contents _ _ c.in_ok-place.ensures.unchanged) stands))

pub returns-in_default-clause-reads : goal.returns-in_default-clause-reads
returns-in_default-clause-reads g c t stands =
    let p : Label = c.args.at.now in
    let k : Label = c.args.old.now in
    let f : Fragments = plain c.args.fragment.now in
    let e : placed_instead k f t (Ok c.in-Ok.new) ≡ replace p k f t = ap (placed_instead k f t) (sym c.in-Ok.is) ∙ c.in_ok-place.ensures.place t stands in
    replace_all _ t _ _ p k f c.in-Ok.new e c.in_ok-place.ensures.reads (c.in_ok-entries-in-Ok.ensures.reads_of_tree t (later _ _ t (g.met.S.NodeRead.unchanged_contents _ _ c.in_ok-place.ensures.unchanged) stands))

pub returns-in-Some-clause-reads : goal.returns-in-Some-clause-reads
returns-in-Some-clause-reads g c t stands =
    let p : Label = c.args.at.now in
    let k : Label = c.args.old.now in
    let f : Fragments = plain c.args.fragment.now in
    let e : placed_instead k f t (Ok c.in-Ok.new) ≡ replace p k f t = ap (placed_instead k f t) (sym c.in-Ok.is) ∙ c.in_ok-place.ensures.place t stands in
    replace_all _ t _ _ p k f c.in-Ok.new e c.in_ok-place.ensures.reads (c.in_ok-entries-in-Ok.ensures.reads_of_tree t (later _ _ t (g.met.S.NodeRead.unchanged_contents _ _ c.in_ok-place.ensures.unchanged) stands))

pub returns-in-Err-clause-reads : goal.returns-in-Err-clause-reads
returns-in-Err-clause-reads g c t stands =
    replace_four _ t _ c.args.at.now c.args.old.now (plain c.args.fragment.now) c.in_ok-place.ensures.reads
