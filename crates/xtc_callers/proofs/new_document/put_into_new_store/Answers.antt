use Rattle.std.proofs.Common.{◌≡◌, [], Some, None, refl, sym, ap, ◌∙◌}
use Rattle.outside_traits.specs.Moments.{History}
use Rattle.tree_model.specs.Names.{Name}
use Rattle.tree_model.specs.Tree.{empty_tree}
use Rattle.node_records.specs.declared.open_error.Place.{Place}
use Rattle.outside_kinds.specs.Memory.{SinkInMemory, SourceInMemory}
use Rattle.outside_kinds.specs.MemoryDisks.{history_of, start}
use Rattle.command_words.specs.Commands.{command_of, put}
use Rattle.xtc.specs.TopCall.{tx_limit}
use Rattle.xtc.specs.declared.status.Status.TheVariants.{Damaged, Usage}
use Rattle.xtc_callers.proofs.NewDocumentLaws.{put_begun, put_done, put_no_element, put_not_json}
use Rattle.xtc_callers.proofs.NewStoreLaws.{not_damaged}
use Rattle.xtc_callers.proofs.new_document.put_into_new_store.Goals as goal

pub returns : goal.returns
returns g c =
    let run = c.xtc-status.ensures.leaves in
    let empty = c.empty_files_stand_for_the_empty_tree.ensures in
    let input_is = ap (λ (s : SourceInMemory). Some s.left) c.new-source.ensures in
    let held_is = ap (λ (s : SinkInMemory). Some s.held) c.new-sink.ensures in
    let journal_is : history_of c.new-journal.result ≡ start [] = ap history_of c.new-journal.ensures ∙ ap start c.new-no_journal.ensures in
    let pages_is : history_of c.new-pages.result ≡ start [] = ap history_of c.new-pages.ensures ∙ ap start c.new-no_pages.ensures in
    let empty_journal = ap (λ (h : History). h.now) journal_is in
    let empty_pages = ap (λ (h : History). h.now) pages_is in
    let command = command_of c.args.words.now.items in
    let status = c.xtc-status.result.status in
    let not_place : (place : Place) → status ≡ Damaged place → ⊥
    = λ place is. not_damaged empty _ _ place empty_journal empty_pages (c.xtc-status.ensures.damaged place is refl refl) in
    let not_usage : (name : Name) → command ≡ Some (put name) → status ≡ Usage → ⊥
    = λ name named is. let no : Some (put name) ≡ None = sym named ∙ c.xtc-status.ensures.usage.0 is in cc in
    record {
      not_json = λ name why named is. put_not_json empty name _ _ c.args.input _ _ input_is run.1 held_is refl empty_journal empty_pages command status why named is (run.3 refl refl);
      no_element = λ name why named none short.
          put_no_element empty name _ _ c.args.input _ _ input_is run.1 held_is refl empty_journal empty_pages why none short command status named (not_usage name named) not_place (run.3 refl refl);
      done = λ name named is.
          put_done empty name _ _ c.args.input _ _ input_is run.1 held_is refl empty_journal empty_pages (λ element. c.put_is_create.ensures empty_tree 0 tx_limit name element) command status named is (run.3 refl refl);
      once = λ name named is.
          put_begun empty name _ _ c.args.input _ _ input_is run.1 held_is refl empty_journal empty_pages c.faults.ensures.reads_an_image c.faults-2.ensures.reads_an_image command status named is (run.3 refl refl);
    }
