use Rattle.std.proofs.Common.{refl, sym, drop}
use Rattle.tree_model.proofs.FirstChanges.{popped_first, first_parts, none_first, over_taken, under_taken, both_taken, taken_over_none}
use Rattle.tree_model.proofs.laying.take_first.Goals as goal

pub returns-in-Less-clause-first : goal.returns-in-Less-clause-first
returns-in-Less-clause-first c =
    let up = c.args.upper.now.items in
    let low = c.args.lower.now.items in
    let u = c.in-Some-Some.over.now in
    let l = c.in-Some-Some.under.now in
    let over = c.in-Some-Some.ensures in
    let under = c.in-Some-Some.ensures' in
    let pop = c.pop_front in
    over_taken up low pop.new.self.items (drop 1 low) u l c.requires.rising.0 pop.result
    (popped_first up pop.new.self.items pop.result u pop.ensures.items (pop.ensures.value u (over.variant.0 refl)) over.lookup)
    (first_parts low l under.item.3.0 under.lookup)
    (sym c.in-Less.ensures)

pub returns-in-Equal-clause-first : goal.returns-in-Equal-clause-first
returns-in-Equal-clause-first c =
    let up = c.args.upper.now.items in
    let low = c.args.lower.now.items in
    let u = c.in-Some-Some.over.now in
    let l = c.in-Some-Some.under.now in
    let over = c.in-Some-Some.ensures in
    let under = c.in-Some-Some.ensures' in
    let pop = c.pop_front-in-Equal in
    let hidden = c.pop_front-hidden in
    both_taken up low pop.new.self.items hidden.new.self.items u l c.requires.rising.0 pop.result
    (popped_first up pop.new.self.items pop.result u pop.ensures.items (pop.ensures.value u (over.variant.0 refl)) over.lookup)
    (popped_first low hidden.new.self.items hidden.result l hidden.ensures.items (hidden.ensures.value l (under.variant.0 refl)) under.lookup)
    (sym c.in-Equal.ensures)

pub returns-in-Greater-clause-first : goal.returns-in-Greater-clause-first
returns-in-Greater-clause-first c =
    let up = c.args.upper.now.items in
    let low = c.args.lower.now.items in
    let u = c.in-Some-Some.over.now in
    let l = c.in-Some-Some.under.now in
    let over = c.in-Some-Some.ensures in
    let under = c.in-Some-Some.ensures' in
    let pop = c.pop_front-in-Greater in
    under_taken up low (drop 1 up) pop.new.self.items u l c.requires.rising.0 pop.result
    (first_parts up u over.item.3.0 over.lookup)
    (popped_first low pop.new.self.items pop.result l pop.ensures.items (pop.ensures.value l (under.variant.0 refl)) under.lookup)
    (sym c.in-Greater.ensures)

pub returns-in-Some-None-clause-first : goal.returns-in-Some-None-clause-first
returns-in-Some-None-clause-first c =
    let up = c.args.upper.now.items in
    let low = c.args.lower.now.items in
    let u = c.in-Some-None.field-0-0.now in
    let over = c.in-Some-None.ensures in
    let pop = c.pop_front-in-Some-None in
    taken_over_none up low pop.new.self.items low u u c.requires.rising.0 pop.result
    (popped_first up pop.new.self.items pop.result u pop.ensures.items (pop.ensures.value u (over.variant.0 refl)) over.lookup)
    (none_first low c.in-Some-None.ensures'.item.3)
