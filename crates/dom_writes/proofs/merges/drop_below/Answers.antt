use Rattle.std.proofs.Common.{◌≡◌, false, ◌++◌, is_ge, is_lt, map, slice_index_or, sym, ap, subst, ◌∙◌, append-nil}
use Rattle.tree_model.specs.declared.key.Key.{Key}
use Rattle.tree_model.specs.declared.record.Record.{Record}
use Rattle.tree_model.specs.Changes.{drop_change}
use Rattle.tree_model.specs.Entries.{Entries}
use Rattle.tree_model.specs.Keys.{key_cmp}
use Rattle.dom_writes.specs.inside.Merges.{BeginsAt}
use Rattle.dom_writes.proofs.MergeLaws.{not_less, stops, with_first}
use Rattle.dom_writes.proofs.merges.drop_below.Goals as goal

pub returns-then-is_ge-clause-changes : goal.returns-then-is_ge-clause-changes
returns-then-is_ge-clause-changes c =
    let k = c.args.key.now in
    let es : Entries = c.loop-rest.rest.now in
    let e : Key × Record = slice_index_or es 0 c.index-rest-0.result in
    let behind : is_lt (key_cmp e.0 k) ≡ false = not_less (key_cmp e.0 k) (sym (c.is_ge.ensures ∙ ap is_ge c.cmp.ensures) ∙ c.if-is_ge.true) in
    let begins : BeginsAt k es = subst (BeginsAt k) (sym (with_first es c.index-rest-0.result c.in-len1-up.len_at_least)) behind in
    sym (append-nil c.loop-rest.changes)
    ∙ ap (λ v. c.loop-rest.changes ++ map drop_change v) (sym (stops k es c.loop-rest.invariant.sorted begins))
    ∙ c.loop-rest.invariant.changes
