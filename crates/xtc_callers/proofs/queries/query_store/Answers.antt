use Rattle.std.proofs.Common.{Some, refl, ap}
use Rattle.outside_kinds.specs.Memory.{SinkInMemory}
use Rattle.command_words.specs.Commands.{command_of}
use Rattle.xtc_callers.proofs.QueriesLaws.{query_found, query_keeps}
use Rattle.xtc_callers.proofs.queries.query_store.Goals as goal

pub returns : goal.returns
returns g c =
    let run = c.xtc-status.ensures.leaves in
    let held_is = ap (λ (s : SinkInMemory). Some s.held) c.new-sink.ensures in
    let command = command_of c.args.words.now.items in
    let status = c.xtc-status.result.status in
    record {
      found = λ name text path t n hits named is_path stands finds is.
          query_found name text _ _ command status named is (run.3 refl refl) c.query_is_find.ensures path t n hits _ is_path stands finds held_is refl;
      kept = λ name text named is shut.
          let bytes = query_keeps name text _ _ command status named is (run.3 refl refl) c.reading_leaves_both_files.ensures shut in
          record { journal = bytes.journal; pages = bytes.pages };
    }
