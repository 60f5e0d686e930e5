use Rattle.std.proofs.Common.{◌≡◌, option_copied, option_map, sym, ap, subst, ◌∙◌, unwrap_or}
use Rattle.tree_model.specs.Entries.{get, changed}
use Rattle.tree_model.specs.Changes.{now_at, laid, seen}
use Rattle.overlays.specs.Directions.{Ahead}
use Rattle.overlays.specs.inside.Nearest.{IsNearest, as_pair, entry_beside, key_beside}
use Rattle.overlays.specs.inside.Passing.{IsSettled, NoneGone}
use Rattle.overlays.proofs.StretchLaws.{some_on}
use Rattle.overlays.proofs.SeenLaws.{if_ok, unknown_below, known_found, answer_is}
use Rattle.overlays.proofs.Laying.{list_laid}
use Rattle.overlays.proofs.PassLaws.{none_open, nearest_seen}
use Rattle.overlays.proofs.view.key_seen_beside.Goals as goal

pub returns-clause-value : goal.returns-clause-value
returns-clause-value g c =
    let law = g.met.S.NodeRead in
    let w = c.args.toward in
    let k = c.args.key.now in
    let own = c.args.own.now in
    let low = c.args.layers.now.changes in
    let cs = laid own low in
    let come = c.in_ok-at.ensures.come in
    let sorted = c.faults-faults.ensures.in_order in
    if_ok c.key_behind.result c.key_behind.ensures.value
    (λ found h. known_found own low (g.S.NodeRead.contents c.args.base.now) (λ fs. found ≡ key_beside w k fs) (λ es t.
    let near = subst (λ v. IsNearest w v (λ j. now_at j cs) (as_pair (option_copied c.in_ok-at.field-0.next))) (sym c.place.ensures) c.in_ok-at.ensures.next in
    let here = h cs es near (law.unchanged_contents _ _ c.in_ok-at.ensures.unchanged ∙ t) (subst (λ v. IsSettled w v cs es) (sym c.place.ensures) (come.settled es t)) in
    let o = entry_beside w c.place.result.now (changed own (changed low es)) in
    let is = nearest_seen w k c.place.result.now own low es c.note_gone.ensures.own.rise c.note_gone.ensures.layers.rise (sorted es t) in
    here.nearest o is ∙ ap (option_map (λ e. e.0)) (answer_is w k own low es o c.note_gone.ensures.own.rise c.note_gone.ensures.layers.rise (sorted es t)
    (come.goes_on es t o (subst (λ v. IsNearest w v (λ j. seen (now_at j cs) (get j es)) o) c.place.ensures is)))))

pub returns-clause-noted : goal.returns-clause-noted
returns-clause-noted g c =
    let law = g.met.S.NodeRead in
    let w = c.args.toward in
    let k = c.args.key.now in
    let own = c.args.own.now in
    let low = c.args.layers.now.changes in
    let cs = laid own low in
    let come = c.in_ok-at.ensures.come in
    if_ok c.key_behind.result c.key_behind.ensures.value (λ found h es t.
    let near = subst (λ v. IsNearest w v (λ j. now_at j cs) (as_pair (option_copied c.in_ok-at.field-0.next))) (sym c.place.ensures) c.in_ok-at.ensures.next in
    let here = h cs es near (law.unchanged_contents _ _ c.in_ok-at.ensures.unchanged ∙ t) (subst (λ v. IsSettled w v cs es) (sym c.place.ensures) (come.settled es t)) in
    none_open w k (unwrap_or c.in_ok-at.field-0.at k) found cs c.args.gaps.now c.note_gone.new.gaps (g.S.NodeRead.reads c.args.base.now) (g.S.NodeRead.reads c.note_gone.new.base) (g.S.NodeRead.reads c.key_behind.new.base)
    c.in_ok-at.ensures.noted c.key_behind.ensures.reads (subst (λ v. NoneGone w v found cs) c.place.ensures here.none_gone))

pub returns-clause-valid : goal.returns-clause-valid
returns-clause-valid g c = λ u.
    let law = g.met.S.NodeRead in
    let own = c.args.own.now in
    let low = c.args.layers.now.changes in
    let cs = laid own low in
    c.key_behind.ensures.valid cs (subst (λ v. IsNearest c.args.toward v (λ j. now_at j cs) (as_pair (option_copied c.in_ok-at.field-0.next))) (sym c.place.ensures) c.in_ok-at.ensures.next)
    (list_laid own low c.note_gone.ensures.own c.note_gone.ensures.layers)
    (law.unchanged_contents _ _ c.in_ok-at.ensures.unchanged ∙ unknown_below own low (g.S.NodeRead.contents c.args.base.now) u)

pub returns-clause-ahead : goal.returns-clause-ahead
returns-clause-ahead g c =
    let w = c.args.toward in
    let k = c.args.key.now in
    let cs = laid c.args.own.now c.args.layers.now.changes in
    if_ok c.key_behind.result (c.key_behind.ensures.ahead cs (subst (λ v. IsNearest w v (λ j. now_at j cs) (as_pair (option_copied c.in_ok-at.field-0.next))) (sym c.place.ensures) c.in_ok-at.ensures.next))
    (λ found h. some_on (λ e. Ahead w c.place.result.now e) (λ e. Ahead w k e) found (λ e a. c.in_ok-at.ensures.come.beyond e (subst (λ v. Ahead w v e) c.place.ensures a)) h)
