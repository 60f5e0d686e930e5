use Rattle.std.proofs.Common.{◌≡◌, true, false, IfSome, [], ◌∷◌, ◌++◌, Some, Less, nat_cmp, sym, ap, subst, ◌∙◌, true≢false}
use Rattle.std.specs.Cmp.Lexicographic.{slice_cmp}
use Rattle.dewey_labels.specs.Labels.{IsLabel, level}
use Rattle.tree_model.specs.declared.record.Record.TheVariants.{Text}
use Rattle.tree_model.specs.Changes.{put_change}
use Rattle.tree_model.specs.Keys.{IsValidKey, node_key}
use Rattle.tree_model.specs.Records.{is_data}
use Rattle.tree_model.specs.Texts.{in_text, is_past, data_before, data_from, split_text_in}
use Rattle.tree_model.specs.Tree.{at, record_of}
use Rattle.tree_changes.specs.KeyChanges.{change_at}
use Rattle.tree_changes.proofs.Cases.{not_false, not_true}
use Rattle.dom_reads.proofs.ReplyLaws.{later, there}
use Rattle.dom_writes.proofs.DataOutcomes.{text_nowhere, no_text_there}
use Rattle.dom_writes.proofs.InPlaceOutcomes.{at_none, at_no_text}
use Rattle.dom_writes.proofs.SplitOutcomes.{beside_valid, left_fits, right_fits, data_there, split_past, split_no_label_reply, split_no_label, split_reply, split_changes}
use Rattle.dom_writes.proofs.splits.split_text.Goals as goal

pub returns-in_default-clause-reply : goal.returns-in_default-clause-reply
returns-in_default-clause-reply g c = λ t stands.
    let l = c.args.at.now in
    c.not_found.ensures ∙ sym (ap (λ o. o.0) (at_none t (in_text t (split_text_in l c.args.offset t)) (at l t.documents) (sym c.in_default.is ∙ c.in_ok-found.ensures.found t stands)))

pub returns-in_default-clause-changes : goal.returns-in_default-clause-changes
returns-in_default-clause-changes g c = λ t stands.
    c.requires.empty ∙ text_nowhere c.args.at.now t stands.valid (split_text_in c.args.at.now c.args.offset t) (sym c.in_default.is ∙ c.in_ok-found.ensures.found t stands)

pub returns-in_default-found-clause-reply : goal.returns-in_default-found-clause-reply
returns-in_default-found-clause-reply g c = λ t stands.
    let l = c.args.at.now in
    c.not_supported.ensures
    ∙ sym (ap (λ o. o.0) (at_no_text t (split_text_in l c.args.offset t) (at l t.documents) c.in-Some.found (sym c.in-Some.is ∙ c.in_ok-found.ensures.found t stands) c.in_default-found.not-Text))

pub returns-in_default-found-clause-changes : goal.returns-in_default-found-clause-changes
returns-in_default-found-clause-changes g c = λ t stands.
    c.requires.empty ∙ no_text_there c.args.at.now t stands.valid (split_text_in c.args.at.now c.args.offset t) c.in-Some.found (sym c.in-Some.is ∙ c.in_ok-found.ensures.found t stands) c.in_default-found.not-Text

pub returns-then-is_too_long-clause-reply : goal.returns-then-is_too_long-clause-reply
returns-then-is_too_long-clause-reply g c = λ t stands.
    let l = c.args.at.now in
    let old = c.in-Text.data in
    let e : Some (Text old) ≡ record_of (at l t.documents) = ap Some (sym c.in-Text.is) ∙ sym c.in-Some.is ∙ c.in_ok-found.ensures.found t stands in
    absurd (true≢false (sym (data_there l t old stands.valid e) ∙ not_true (is_data old) (sym c.is_too_long.ensures.data ∙ c.if-is_too_long.true)))

pub returns-then-is_too_long-clause-changes : goal.returns-then-is_too_long-clause-changes
returns-then-is_too_long-clause-changes g c = λ t stands.
    let l = c.args.at.now in
    let old = c.in-Text.data in
    let e : Some (Text old) ≡ record_of (at l t.documents) = ap Some (sym c.in-Text.is) ∙ sym c.in-Some.is ∙ c.in_ok-found.ensures.found t stands in
    absurd (true≢false (sym (data_there l t old stands.valid e) ∙ not_true (is_data old) (sym c.is_too_long.ensures.data ∙ c.if-is_too_long.true)))

pub returns-in_default-cut-clause-changes : goal.returns-in_default-cut-clause-changes
returns-in_default-cut-clause-changes g c = λ t stands.
    let l = c.args.at.now in
    let old = c.in-Text.data in
    let e : Some (Text old) ≡ record_of (at l t.documents) = ap Some (sym c.in-Text.is) ∙ sym c.in-Some.is ∙ c.in_ok-found.ensures.found t stands in
    c.requires.empty ∙ split_past l c.args.offset t stands.valid old e (sym (ap (is_past c.args.offset) c.as_str.ensures.bytes) ∙ c.in_default-cut.ensures)

pub returns-in_default-2-clause-reply : goal.returns-in_default-2-clause-reply
returns-in_default-2-clause-reply g c = λ t stands.
    let l = c.args.at.now in
    let old = c.in-Text.data in
    let e : Some (Text old) ≡ record_of (at l t.documents) = ap Some (sym c.in-Text.is) ∙ sym c.in-Some.is ∙ c.in_ok-found.ensures.found t stands in
    let within : is_past c.args.offset old ≡ false = sym (ap (is_past c.args.offset) c.as_str.ensures.bytes) ∙ c.in-Some-cut.ensures.0 in
    let label = c.in_ok-new.ensures.label t (later _ _ t (g.met.S.NodeRead.unchanged_contents _ _ c.node_at.ensures.unchanged) stands) (there (at l t.documents) (Text old) e) in
    c.label_limit.ensures ∙ split_no_label_reply l c.args.offset t stands.valid old e within (sym c.in_default-2.is ∙ label)

pub returns-in_default-2-clause-changes : goal.returns-in_default-2-clause-changes
returns-in_default-2-clause-changes g c = λ t stands.
    let l = c.args.at.now in
    let old = c.in-Text.data in
    let e : Some (Text old) ≡ record_of (at l t.documents) = ap Some (sym c.in-Text.is) ∙ sym c.in-Some.is ∙ c.in_ok-found.ensures.found t stands in
    let within : is_past c.args.offset old ≡ false = sym (ap (is_past c.args.offset) c.as_str.ensures.bytes) ∙ c.in-Some-cut.ensures.0 in
    let label = c.in_ok-new.ensures.label t (later _ _ t (g.met.S.NodeRead.unchanged_contents _ _ c.node_at.ensures.unchanged) stands) (there (at l t.documents) (Text old) e) in
    c.requires.empty ∙ split_no_label l c.args.offset t stands.valid old e within (sym c.in_default-2.is ∙ label)

pub put_parts-requires-clause-order : goal.put_parts-requires-clause-order
put_parts-requires-clause-order g c = subst (λ o. IfSome o (λ n. slice_cmp nat_cmp c.args.at.now n ≡ Less)) c.in-Some-2.is c.in_ok-new.ensures.behind

pub put_parts-requires-clause-left : goal.put_parts-requires-clause-left
put_parts-requires-clause-left g c =
    let old = c.in-Text.data in
    let key = subst (λ o. IfSome o (λ _. IsValidKey (node_key c.args.at.now))) c.in-Some.is c.in_ok-found.ensures.key in
    let fits : is_data old ≡ true = not_false (is_data old) (sym c.is_too_long.ensures.data ∙ c.if-is_too_long.false) in
    (key, left_fits c.args.offset old c.in_ok-before.before fits (c.in_ok-before.ensures ∙ c.in-Some-cut.ensures.1 ∙ ap (data_before c.args.offset) c.as_str.ensures.bytes))

pub put_parts-requires-clause-right : goal.put_parts-requires-clause-right
put_parts-requires-clause-right g c =
    let old = c.in-Text.data in
    let key = subst (λ o. IfSome o (λ _. IsValidKey (node_key c.args.at.now))) c.in-Some.is c.in_ok-found.ensures.key in
    let fits : is_data old ≡ true = not_false (is_data old) (sym c.is_too_long.ensures.data ∙ c.if-is_too_long.false) in
    let label = subst (λ o. IfSome o (λ n. IsLabel n × (level n ≡ level c.args.at.now))) c.in-Some-2.is c.in_ok-new.ensures.level in
    (beside_valid c.args.at.now c.in-Some-2.new key label.0 label.1, right_fits c.args.offset old c.in_ok-behind.behind fits (c.in_ok-behind.ensures ∙ c.in-Some-cut.ensures.2 ∙ ap (data_from c.args.offset) c.as_str.ensures.bytes))

pub returns-clause-reply : goal.returns-clause-reply
returns-clause-reply g c = λ t stands.
    let l = c.args.at.now in
    let old = c.in-Text.data in
    let e : Some (Text old) ≡ record_of (at l t.documents) = ap Some (sym c.in-Text.is) ∙ sym c.in-Some.is ∙ c.in_ok-found.ensures.found t stands in
    let within : is_past c.args.offset old ≡ false = sym (ap (is_past c.args.offset) c.as_str.ensures.bytes) ∙ c.in-Some-cut.ensures.0 in
    let label = c.in_ok-new.ensures.label t (later _ _ t (g.met.S.NodeRead.unchanged_contents _ _ c.node_at.ensures.unchanged) stands) (there (at l t.documents) (Text old) e) in
    split_reply l c.args.offset t stands.valid old e within c.in-Some-2.new (sym c.in-Some-2.is ∙ label)

pub returns-clause-changes : goal.returns-clause-changes
returns-clause-changes g c = λ t stands.
    let l = c.args.at.now in
    let old = c.in-Text.data in
    let e : Some (Text old) ≡ record_of (at l t.documents) = ap Some (sym c.in-Text.is) ∙ sym c.in-Some.is ∙ c.in_ok-found.ensures.found t stands in
    let within : is_past c.args.offset old ≡ false = sym (ap (is_past c.args.offset) c.as_str.ensures.bytes) ∙ c.in-Some-cut.ensures.0 in
    let label = c.in_ok-new.ensures.label t (later _ _ t (g.met.S.NodeRead.unchanged_contents _ _ c.node_at.ensures.unchanged) stands) (there (at l t.documents) (Text old) e) in
    let before = c.in_ok-before.ensures ∙ c.in-Some-cut.ensures.1 ∙ ap (data_before c.args.offset) c.as_str.ensures.bytes in
    let behind = c.in_ok-behind.ensures ∙ c.in-Some-cut.ensures.2 ∙ ap (data_from c.args.offset) c.as_str.ensures.bytes in
    c.in_ok-put_parts.ensures.ok
    ∙ (λ i. change_at (node_key l) (Some (Text old)) (Some (Text (before i))) ++ (put_change (node_key c.in-Some-2.new, Text (behind i)) ∷ []))
    ∙ split_changes l c.args.offset t stands.valid old e within c.in-Some-2.new (sym c.in-Some-2.is ∙ label)
