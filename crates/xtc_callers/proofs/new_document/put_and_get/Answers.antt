use Rattle.std.proofs.Common.{Some, refl, ap}
use Rattle.outside_kinds.specs.Memory.{SinkInMemory}
use Rattle.command_words.specs.Commands.{command_of}
use Rattle.xtc_callers.proofs.NewDocumentLaws.{got_document, put_of}
use Rattle.xtc_callers.proofs.new_document.put_and_get.Goals as goal

pub returns : goal.returns
returns g c = record {
  kept = λ name element at document put_named get_named is put_done got_done doc dump.
      let run = c.xtc-got.ensures.leaves in
      let done = put_of name element c.args.input _ _ _ is (c.put_into_new_store-put.ensures.done name put_named put_done) in
      got_document c.get_is_dump.ensures name element at document (command_of c.args.get_words.now.items) c.xtc-got.result.status _ _ _ done.0 done.1 get_named got_done (run.3 refl refl)
      (ap (λ (s : SinkInMemory). Some s.held) c.new-sink.ensures) refl doc dump;
}
