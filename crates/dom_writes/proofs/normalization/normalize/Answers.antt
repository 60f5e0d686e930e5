use Rattle.std.proofs.Common.{◌≡◌, ◌↔◌, ◌∙◌, [], if◌then◌else◌, false, IsTrue, Some, sym, ap, subst}
use Rattle.std.specs.List.{AllByRecursion}
use Rattle.tree_model.specs.declared.record.Record.{Record}
use Rattle.tree_model.specs.declared.refusal.Refusal.TheVariants.{TextLimit}
use Rattle.tree_model.specs.declared.reply.Reply.TheVariants.{Nothing, Refused}
use Rattle.tree_model.specs.Changes.{differences}
use Rattle.tree_model.specs.Entries.{Entries}
use Rattle.tree_model.specs.Outcomes.{is_refused}
use Rattle.tree_model.specs.Texts.{normal, texts_fit}
use Rattle.tree_model.specs.Tree.{at, below, entries_of}
use Rattle.tree_model.specs.NodeKinds.{is_text_record}
use Rattle.dom_reads.proofs.ReplyLaws.{later}
use Rattle.dom_reads.proofs.SubtreeEntries.{missing}
use Rattle.dom_writes.specs.inside.NormalTexts.{IsValidText, joined}
use Rattle.dom_writes.proofs.NormalReplies.{fit_is, missing_reply, other_changes, other_reply, refused_changes, text_changes}
use Rattle.dom_writes.proofs.ReadLaws.{normalize_all, normalize_one}
use Rattle.dom_writes.proofs.normalization.normalize.Goals as goal

pub returns-in_default-clause-changes : goal.returns-in_default-clause-changes
returns-in_default-clause-changes g c t stands =
    let l = c.args.at.now in
    let none = missing c.in_ok-found.field-0 c.in_default.not-Some ∙ c.in_ok-found.ensures.found t stands in
    c.requires.empty ∙ refused_changes l t stands.valid (ap is_refused (sym (missing_reply l t stands.valid none)))

pub returns-then-is_text-clause-changes : goal.returns-then-is_text-clause-changes
returns-then-is_text-clause-changes g c t stands =
    c.requires.empty ∙ text_changes c.args.at.now t stands.valid c.in-Some.found (sym c.in-Some.is ∙ c.in_ok-found.ensures.found t stands) (sym c.is_text.ensures ∙ c.if-is_text.true)

pub returns-then-branch-clause-reply : goal.returns-then-branch-clause-reply
returns-then-branch-clause-reply g c t stands =
    let law = g.met.S.NodeRead in
    let l = c.args.at.now in
    let fit = c.in_ok-join_texts.field-0 in
    let r : Record = c.in-Some.found in
    let found = sym c.in-Some.is ∙ c.in_ok-found.ensures.found t stands in
    let other : is_text_record (Some r) ≡ false = sym c.is_text.ensures ∙ c.if-is_text.false in
    let below_is : c.as_slice.result.now ≡ entries_of (below (at l t.documents)) =
    c.as_slice.ensures ∙ c.in_ok-entries.ensures.entries t (later _ _ t (law.unchanged_contents _ _ c.in_ok-found.ensures.unchanged) stands) in
    let is : fit ≡ texts_fit (normal (below (at l t.documents))) =
    fit_is l t stands.valid fit (subst (λ (v : Entries). IsTrue fit ↔ AllByRecursion IsValidText (joined v)) below_is c.in_ok-join_texts.ensures.fit) in
    ap (λ b. if b then Nothing else Refused TextLimit) (sym c.if-branch.true) ∙ other_reply l t stands.valid r fit found other is

pub returns-then-branch-clause-changes : goal.returns-then-branch-clause-changes
returns-then-branch-clause-changes g c t stands =
    let law = g.met.S.NodeRead in
    let l = c.args.at.now in
    let fit = c.in_ok-join_texts.field-0 in
    let r : Record = c.in-Some.found in
    let found = sym c.in-Some.is ∙ c.in_ok-found.ensures.found t stands in
    let other : is_text_record (Some r) ≡ false = sym c.is_text.ensures ∙ c.if-is_text.false in
    let below_is : c.as_slice.result.now ≡ entries_of (below (at l t.documents)) =
    c.as_slice.ensures ∙ c.in_ok-entries.ensures.entries t (later _ _ t (law.unchanged_contents _ _ c.in_ok-found.ensures.unchanged) stands) in
    let is : fit ≡ texts_fit (normal (below (at l t.documents))) =
    fit_is l t stands.valid fit (subst (λ (v : Entries). IsTrue fit ↔ AllByRecursion IsValidText (joined v)) below_is c.in_ok-join_texts.ensures.fit) in
    c.in_ok-join_texts.ensures.changes ∙ ap (λ (v : Entries). if fit then differences v (joined v) else []) below_is ∙ other_changes l t stands.valid r fit found other is

pub returns-clause-reply : goal.returns-clause-reply
returns-clause-reply g c t stands =
    let law = g.met.S.NodeRead in
    let l = c.args.at.now in
    let fit = c.in_ok-join_texts.field-0 in
    let r : Record = c.in-Some.found in
    let found = sym c.in-Some.is ∙ c.in_ok-found.ensures.found t stands in
    let other : is_text_record (Some r) ≡ false = sym c.is_text.ensures ∙ c.if-is_text.false in
    let below_is : c.as_slice.result.now ≡ entries_of (below (at l t.documents)) =
    c.as_slice.ensures ∙ c.in_ok-entries.ensures.entries t (later _ _ t (law.unchanged_contents _ _ c.in_ok-found.ensures.unchanged) stands) in
    let is : fit ≡ texts_fit (normal (below (at l t.documents))) =
    fit_is l t stands.valid fit (subst (λ (v : Entries). IsTrue fit ↔ AllByRecursion IsValidText (joined v)) below_is c.in_ok-join_texts.ensures.fit) in
    c.text_limit.ensures ∙ ap (λ b. if b then Nothing else Refused TextLimit) (sym c.if-branch.false) ∙ other_reply l t stands.valid r fit found other is

pub returns-clause-changes : goal.returns-clause-changes
returns-clause-changes g c t stands =
    let law = g.met.S.NodeRead in
    let l = c.args.at.now in
    let fit = c.in_ok-join_texts.field-0 in
    let r : Record = c.in-Some.found in
    let found = sym c.in-Some.is ∙ c.in_ok-found.ensures.found t stands in
    let other : is_text_record (Some r) ≡ false = sym c.is_text.ensures ∙ c.if-is_text.false in
    let below_is : c.as_slice.result.now ≡ entries_of (below (at l t.documents)) =
    c.as_slice.ensures ∙ c.in_ok-entries.ensures.entries t (later _ _ t (law.unchanged_contents _ _ c.in_ok-found.ensures.unchanged) stands) in
    let is : fit ≡ texts_fit (normal (below (at l t.documents))) =
    fit_is l t stands.valid fit (subst (λ (v : Entries). IsTrue fit ↔ AllByRecursion IsValidText (joined v)) below_is c.in_ok-join_texts.ensures.fit) in
    c.in_ok-join_texts.ensures.changes ∙ ap (λ (v : Entries). if fit then differences v (joined v) else []) below_is ∙ other_changes l t stands.valid r fit found other is

pub returns-in_err-found-clause-reads : goal.returns-in_err-found-clause-reads
returns-in_err-found-clause-reads g c t stands =
    normalize_one _ t _ c.args.at.now c.in_err-found.ensures.reads

pub returns-in_default-clause-reads : goal.returns-in_default-clause-reads
returns-in_default-clause-reads g c t stands =
    normalize_one _ t _ c.args.at.now c.in_ok-found.ensures.reads

pub returns-then-is_text-clause-reads : goal.returns-then-is_text-clause-reads
returns-then-is_text-clause-reads g c t stands =
    normalize_one _ t _ c.args.at.now c.in_ok-found.ensures.reads

pub returns-in_err-entries-clause-reads : goal.returns-in_err-entries-clause-reads
returns-in_err-entries-clause-reads g c t stands =
    normalize_all _ t _ _ c.args.at.now c.in-Some.found (sym c.in-Some.is ∙ c.in_ok-found.ensures.found t stands) (sym c.is_text.ensures ∙ c.if-is_text.false)
    c.in_ok-found.ensures.reads (c.in_err-entries.ensures.reads t (later _ _ t (g.met.S.NodeRead.unchanged_contents _ _ c.in_ok-found.ensures.unchanged) stands))

pub returns-in_err-join_texts-clause-reads : goal.returns-in_err-join_texts-clause-reads
returns-in_err-join_texts-clause-reads g c t stands =
    normalize_all _ t _ _ c.args.at.now c.in-Some.found (sym c.in-Some.is ∙ c.in_ok-found.ensures.found t stands) (sym c.is_text.ensures ∙ c.if-is_text.false)
    c.in_ok-found.ensures.reads (c.in_ok-entries.ensures.reads t (later _ _ t (g.met.S.NodeRead.unchanged_contents _ _ c.in_ok-found.ensures.unchanged) stands))

pub returns-then-branch-clause-reads : goal.returns-then-branch-clause-reads
returns-then-branch-clause-reads g c t stands =
    normalize_all _ t _ _ c.args.at.now c.in-Some.found (sym c.in-Some.is ∙ c.in_ok-found.ensures.found t stands) (sym c.is_text.ensures ∙ c.if-is_text.false)
    c.in_ok-found.ensures.reads (c.in_ok-entries.ensures.reads t (later _ _ t (g.met.S.NodeRead.unchanged_contents _ _ c.in_ok-found.ensures.unchanged) stands))

pub returns-clause-reads : goal.returns-clause-reads
returns-clause-reads g c t stands =
    normalize_all _ t _ _ c.args.at.now c.in-Some.found (sym c.in-Some.is ∙ c.in_ok-found.ensures.found t stands) (sym c.is_text.ensures ∙ c.if-is_text.false)
    c.in_ok-found.ensures.reads (c.in_ok-entries.ensures.reads t (later _ _ t (g.met.S.NodeRead.unchanged_contents _ _ c.in_ok-found.ensures.unchanged) stands))
