use Rattle.std.proofs.Common.{◌≡◌, [], Some, refl, ap, ◌∙◌}
use Rattle.outside_traits.specs.Moments.{History}
use Rattle.outside_kinds.specs.Memory.{SinkInMemory}
use Rattle.outside_kinds.specs.MemoryDisks.{history_of, start}
use Rattle.command_words.specs.Commands.{command_of}
use Rattle.xtc_callers.proofs.NewGeneratedLaws.{gen_done, gen_refused}
use Rattle.xtc_callers.proofs.new_generated.generate_in_new_store.Goals as goal

pub returns : goal.returns
returns g c =
    let run = c.xtc-status.ensures.leaves in
    let empty = c.empty_files_stand_for_the_empty_tree.ensures in
    let held_is = ap (λ (s : SinkInMemory). Some s.held) c.new-sink.ensures in
    let journal_is : history_of c.new-journal.result ≡ start [] = ap history_of c.new-journal.ensures ∙ ap start c.new-no_journal.ensures in
    let pages_is : history_of c.new-pages.result ≡ start [] = ap history_of c.new-pages.ensures ∙ ap start c.new-no_pages.ensures in
    let no_journal = ap (λ (h : History). h.now.reads) journal_is in
    let no_pages = ap (λ (h : History). h.now.reads) pages_is in
    let command = command_of c.args.words.now.items in
    record {
      done = λ seed count named is. gen_done empty seed count _ _ _ held_is refl no_journal no_pages command c.xtc-status.result.status named is (run.3 refl refl);
      refused = λ seed count why named is. gen_refused empty seed count _ _ _ held_is refl no_journal no_pages command c.xtc-status.result.status why named is (run.3 refl refl);
    }
