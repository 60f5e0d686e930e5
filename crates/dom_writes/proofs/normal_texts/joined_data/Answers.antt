use Rattle.std.proofs.Common.{◌≡◌, ◌+◌, ◌++◌, [], ◌∷◌, take, sym, ap, ◌∙◌, append_assoc, append-nil, arith}
use Rattle.std.proofs.lemmas.List.{take_more}
use Rattle.tree_model.specs.declared.key.Key.{Key}
use Rattle.tree_model.specs.declared.record.Record.{Record}
use Rattle.tree_model.specs.Entries.{Entries}
use Rattle.dom_reads.specs.inside.Gathered.{data_of, texts_in}
use Rattle.dom_reads.proofs.GatheredLaws.{texts_in-append}
use Rattle.dom_writes.proofs.normal_texts.joined_data.Goals as goal

pub loop-record-preserved : goal.loop-record-preserved
loop-record-preserved c =
    let es : Entries = c.args.others.now in
    let i = c.loop-record.record-index in
    let x : Key × Record = c.loop-record-item.result in
    let first = c.args.first.now in
    let so_far : Entries = take i es in
    let more : take (i + 1) es ≡ so_far ++ x ∷ [] = take_more es i x (omega arith) ∙ ap (λ y. so_far ++ y ∷ []) (sym c.loop-record-item.is) in
    c.in_ok-push_data.ensures
    ∙ ap (λ v. v ++ data_of x.1) c.loop-record.invariant
    ∙ append_assoc first (texts_in so_far) (data_of x.1)
    ∙ ap (λ v. first ++ (texts_in so_far ++ v)) (sym (append-nil (data_of x.1)))
    ∙ ap (λ v. first ++ v) (sym (texts_in-append so_far (x ∷ [])) ∙ sym (ap texts_in more))
