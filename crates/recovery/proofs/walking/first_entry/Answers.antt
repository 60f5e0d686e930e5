use Rattle.std.proofs.Common.{◌≡◌, ◌∙◌, None, Option, ap, sym}
use Rattle.outside_traits.specs.Moments.{History}
use Rattle.tree_model.specs.Entries.{first_above, get, last_below}
use Rattle.tree_model.specs.Keys.{node_key}
use Rattle.tree_model.specs.declared.key.Key.{Key}
use Rattle.tree_model.specs.declared.record.Record.{Record}
use Rattle.node_seq.specs.WalkSteps.{from_entry}
use Rattle.paged_seq.specs.PagedMaps.{file_entries}
use Rattle.recovery.proofs.WalkLaws.{starts_above, starts_at}
use Rattle.recovery.proofs.walking.first_entry.Goals as goal

pub none_below-requires : goal.none_below-requires
none_below-requires g c = record {
  root = c.in_ok-root.ensures ∙ ap node_key c.in_ok-label.ensures;
  below = c.in_ok-below.ensures.below;
}

pub returns-in-Some-clause-first : goal.returns-in-Some-clause-first
returns-in-Some-clause-first g c known =
    let es = file_entries (g.P.Disk.history c.args.seq.now.disk).now.reads in
    let low : last_below c.in_ok-root.root es ≡ None = sym (c.in_ok-below.ensures.value known) ∙ c.none_below.ensures in
    let found : c.in_ok-found.found ≡ get c.in_ok-root.root es =
    c.in_ok-found.ensures.value known ∙ ap (λ (h : History). get c.in_ok-root.root (file_entries h.now.reads)) (c.entry_below.ensures.same known) in
    starts_at c.in_ok-root.root c.in-Some.record es (c.requires.sorted known) low (sym found ∙ c.in-Some.is)

pub returns-clause-first : goal.returns-clause-first
returns-clause-first g c known =
    let es = file_entries (g.P.Disk.history c.args.seq.now.disk).now.reads in
    let low : last_below c.in_ok-root.root es ≡ None = sym (c.in_ok-below.ensures.value known) ∙ c.none_below.ensures in
    let found : c.in_ok-found.found ≡ get c.in_ok-root.root es =
    c.in_ok-found.ensures.value known ∙ ap (λ (h : History). get c.in_ok-root.root (file_entries h.now.reads)) (c.entry_below.ensures.same known) in
    let next : c.in_ok-next-in-None.next ≡ first_above c.in_ok-root.root es =
    c.in_ok-next-in-None.ensures.value known ∙ ap (λ (h : History). first_above c.in_ok-root.root (file_entries h.now.reads)) (c.record_at.ensures.same known ∙ c.entry_below.ensures.same known) in
    starts_above c.in_ok-root.root es (c.requires.sorted known) low (sym found ∙ c.in-None.is) ∙ ap (λ (o : Option (Key × Record)). from_entry o es) (sym next)
