use Rattle.std.proofs.Common.{◌≡◌, [], Some, refl, ap, ◌∙◌}
use Rattle.outside_traits.specs.Moments.{History}
use Rattle.outside_kinds.specs.Memory.{SinkInMemory, SourceInMemory}
use Rattle.outside_kinds.specs.MemoryDisks.{history_of, start}
use Rattle.xtc.specs.Commands.{reads_input}
use Rattle.xtc_callers.proofs.NewWorkersLaws.{workers_done}
use Rattle.xtc_callers.proofs.new_workers.work_in_new_store.Goals as goal

pub returns : goal.returns
returns g c =
    let run = c.xtc-status.ensures.leaves in
    let empty = c.empty_files_stand_for_the_empty_tree.ensures in
    let script_is = ap (λ (s : SourceInMemory). Some s.left) c.new-source.ensures in
    let held_is = ap (λ (s : SinkInMemory). Some s.held) c.new-sink.ensures in
    let journal_is : history_of c.new-journal.result ≡ start [] = ap history_of c.new-journal.ensures ∙ ap start c.new-no_journal.ensures in
    let pages_is : history_of c.new-pages.result ≡ start [] = ap history_of c.new-pages.ensures ∙ ap start c.new-no_pages.ensures in
    record {
      done = λ named done.
          workers_done empty _ _ _ _ c.args.script _ _ named done (run.3 refl refl) script_is run.1 (c.xtc-status.ensures.input.whole (ap reads_input named) done) held_is refl
          (ap (λ (h : History). h.now.reads) journal_is) (ap (λ (h : History). h.now.reads) pages_is);
    }
