use Rattle.std.proofs.Common.{◌≡◌, ◌-◌, ◌∷◌, length, take, drop, sym, ap, ◌∙◌}
use Rattle.tree_model.specs.declared.key.Key.{Key}
use Rattle.tree_model.specs.declared.record.Record.{Record}
use Rattle.tree_model.specs.Entries.{Entries}
use Rattle.dom_writes.proofs.MergeLaws.{with_first}
use Rattle.dom_writes.proofs.NormalRuns.{cut_back, cut_front, cut_within}
use Rattle.dom_writes.proofs.normal_texts.split_run.Goals as goal

pub overflow_sub-entries : goal.overflow_sub-entries
overflow_sub-entries c =
    let es : Entries = c.args.entries.now in
    let others : Entries = take (length es - 1) (drop 1 es) in
    let whole : es ≡ c.first-item.result ∷ others = with_first es c.first-item.result c.in-len1-up.len_at_least ∙ ap (λ (x : Key × Record). x ∷ others) (sym c.first-item.is) in
    cut_within es c.first-item.result others c.past_joining-behind.result.now whole c.past_joining-behind.ensures

pub returns-clause-run : goal.returns-clause-run
returns-clause-run c =
    let es : Entries = c.args.entries.now in
    let others : Entries = take (length es - 1) (drop 1 es) in
    let whole : es ≡ c.first-item.result ∷ others = with_first es c.first-item.result c.in-len1-up.len_at_least ∙ ap (λ (x : Key × Record). x ∷ others) (sym c.first-item.is) in
    c.split_at.ensures.front ∙ cut_front es c.first-item.result others c.past_joining-behind.result.now whole c.past_joining-behind.ensures

pub returns-clause-behind : goal.returns-clause-behind
returns-clause-behind c =
    let es : Entries = c.args.entries.now in
    let others : Entries = take (length es - 1) (drop 1 es) in
    let whole : es ≡ c.first-item.result ∷ others = with_first es c.first-item.result c.in-len1-up.len_at_least ∙ ap (λ (x : Key × Record). x ∷ others) (sym c.first-item.is) in
    c.split_at.ensures.back ∙ cut_back es c.first-item.result others c.past_joining-behind.result.now whole c.past_joining-behind.ensures
