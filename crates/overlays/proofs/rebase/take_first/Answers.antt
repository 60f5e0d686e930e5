use Rattle.std.proofs.Common.{Option, drop, refl, sym, subst}
use Rattle.tree_model.specs.declared.change.Change.{Change}
use Rattle.tree_model.specs.declared.key.Key.{Key}
use Rattle.tree_model.specs.declared.record.Record.{Record}
use Rattle.tree_model.specs.Entries.{changed}
use Rattle.overlays.proofs.Fronts.{popped_first, first_parts, none_first}
use Rattle.overlays.proofs.RebaseLaws.{Remains, change_first, change_over_none, both_first, entry_first}
use Rattle.overlays.proofs.rebase.take_first.Goals as goal

pub returns-in-Less-clause-first : goal.returns-in-Less-clause-first
returns-in-Less-clause-first c =
    let cs = c.args.changes.now.items in
    let es = c.args.entries.now.items in
    let d = c.in-Some-Some.change.now in
    let e : Key × Record = c.in-Some-Some.field-0-1.now in
    let over = c.in-Some-Some.ensures in
    let under = c.in-Some-Some.ensures' in
    let pop = c.pop_front in
    change_first cs pop.new.self.items es (drop 1 es) c.requires.rising pop.result d e c.requires.sorted
    (popped_first cs pop.new.self.items pop.result d pop.ensures.items (pop.ensures.value d (over.variant.0 refl)) over.lookup)
    (first_parts es e under.item.3.0 under.lookup)
    (sym c.in-Less.ensures)

pub returns-in-Equal-clause-first : goal.returns-in-Equal-clause-first
returns-in-Equal-clause-first c =
    let cs = c.args.changes.now.items in
    let es = c.args.entries.now.items in
    let d = c.in-Some-Some.change.now in
    let e : Key × Record = c.in-Some-Some.field-0-1.now in
    let over = c.in-Some-Some.ensures in
    let under = c.in-Some-Some.ensures' in
    let pop = c.pop_front-in-Equal in
    let hidden = c.pop_front-changed in
    both_first cs pop.new.self.items es hidden.new.self.items c.requires.rising pop.result hidden.result d e
    (popped_first cs pop.new.self.items pop.result d pop.ensures.items (pop.ensures.value d (over.variant.0 refl)) over.lookup)
    (popped_first es hidden.new.self.items hidden.result e hidden.ensures.items (hidden.ensures.value e (under.variant.0 refl)) under.lookup)
    (sym c.in-Equal.ensures)

pub returns-in-Greater-clause-first : goal.returns-in-Greater-clause-first
returns-in-Greater-clause-first c =
    let cs = c.args.changes.now.items in
    let es = c.args.entries.now.items in
    let d = c.in-Some-Some.change.now in
    let e : Key × Record = c.in-Some-Some.field-0-1.now in
    let over = c.in-Some-Some.ensures in
    let under = c.in-Some-Some.ensures' in
    let pop = c.pop_front-in-Greater in
    subst (λ (o : Option Change). Remains (changed cs es) (changed cs pop.new.self.items) o) (sym c.as_change.ensures)
    (entry_first cs (drop 1 cs) es pop.new.self.items c.requires.rising pop.result d e
    (first_parts cs d over.item.3.0 over.lookup)
    (popped_first es pop.new.self.items pop.result e pop.ensures.items (pop.ensures.value e (under.variant.0 refl)) under.lookup)
    (sym c.in-Greater.ensures))

pub returns-in-Some-None-clause-first : goal.returns-in-Some-None-clause-first
returns-in-Some-None-clause-first c =
    let cs = c.args.changes.now.items in
    let es = c.args.entries.now.items in
    let d = c.in-Some-None.field-0-0.now in
    let over = c.in-Some-None.ensures in
    let pop = c.pop_front-in-Some-None in
    change_over_none cs pop.new.self.items es es c.requires.rising pop.result d
    (popped_first cs pop.new.self.items pop.result d pop.ensures.items (pop.ensures.value d (over.variant.0 refl)) over.lookup)
    (none_first es c.in-Some-None.ensures'.item.3)
