use Rattle.std.proofs.Common.{◌≡◌, [], Some, refl, ap, ◌∙◌}
use Rattle.std.proofs.lemmas.Option.{same_Some}
use Rattle.outside_traits.specs.Moments.{History}
use Rattle.node_records.specs.declared.open_error.Place.{Place}
use Rattle.outside_kinds.specs.Memory.{SinkInMemory, SourceInMemory}
use Rattle.outside_kinds.specs.MemoryDisks.{history_of, start}
use Rattle.xtc.specs.Commands.{reads_input}
use Rattle.xtc.specs.declared.status.Status.TheVariants.{Damaged}
use Rattle.xtc_callers.proofs.NewStoreLaws.{script_done, script_begun, not_damaged, silent_at_usage}
use Rattle.xtc_callers.proofs.new_store.run_new_store.Goals as goal

pub returns : goal.returns
returns g c =
    let run = c.xtc-status.ensures.leaves in
    let empty = c.empty_files_stand_for_the_empty_tree.ensures in
    let script_is = ap (λ (s : SourceInMemory). Some s.left) c.new-source.ensures in
    let held_is = ap (λ (s : SinkInMemory). Some s.held) c.new-sink.ensures in
    let journal_is : history_of c.new-journal.result ≡ start [] = ap history_of c.new-journal.ensures ∙ ap start c.new-no_journal.ensures in
    let pages_is : history_of c.new-pages.result ≡ start [] = ap history_of c.new-pages.ensures ∙ ap start c.new-no_pages.ensures in
    let not_place : (place : Place) → c.xtc-status.result.status ≡ Damaged place → ⊥
    = λ place is. not_damaged empty _ _ place (ap (λ (h : History). h.now) journal_is) (ap (λ (h : History). h.now) pages_is) (c.xtc-status.ensures.damaged place is refl refl) in
    record {
      done = λ named done.
          script_done empty _ _ _ _ c.args.script _ _ named done (run.3 refl refl) script_is run.1 (c.xtc-status.ensures.input.whole (ap reads_input named) done) held_is refl
          (ap (λ (h : History). h.now.reads) journal_is) (ap (λ (h : History). h.now.reads) pages_is);
      begun = λ named not_usage.
          script_begun empty _ _ c.args.script _ _ script_is run.1 held_is refl (ap (λ (h : History). h.now) journal_is) (ap (λ (h : History). h.now) pages_is)
          c.faults.ensures.reads_an_image c.faults-2.ensures.reads_an_image _ c.xtc-status.result.status named not_usage not_place (run.3 refl refl);
      not_damaged = not_place;
      usage = c.xtc-status.ensures.usage.0;
      other_words = λ none. (c.xtc-status.ensures.usage.1 none).0;
      untouched = λ is.
          let files = c.xtc-status.ensures.usage.1 (c.xtc-status.ensures.usage.0 is) in (
            same_Some _ _ (silent_at_usage _ _ _ _ is c.xtc-status.ensures.silent ∙ held_is),
            ap history_of files.1 ∙ journal_is,
            ap history_of files.2 ∙ pages_is,
          );
    }
