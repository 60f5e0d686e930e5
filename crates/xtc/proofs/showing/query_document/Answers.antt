use Rattle.std.proofs.Common.{[]}
use Rattle.call_contract.specs.States.{start}
use Rattle.command_words.specs.Commands.{query}
use Rattle.xtc.specs.Statuses.{status_of_path}
use Rattle.xtc.specs.TopCall.{tx_limit}
use Rattle.xtc.proofs.DocumentLaws.{done_err}
use Rattle.xtc.proofs.LoneLines.{query_shows}
use Rattle.xtc.proofs.RefusedPaths.{path_went}
use Rattle.xtc.proofs.showing.query_document.Goals as goal

pub returns-in_err-path-clause-done : goal.returns-in_err-path-clause-done
returns-in_err-path-clause-done g c = λ is_known journal t is.
    done_err c.from_residual.result (status_of_path c.in_err-path.field-0.0) is_known (start t c.args.number tx_limit) (query c.args.name.now c.args.path.now) [] journal journal (λ text. text.items) c.from_residual.ensures.1
    (path_went is_known (start t c.args.number tx_limit) c.args.name.now c.args.path.now c.in_err-path.field-0.0 journal c.in_err-path.ensures.path)

pub returns-clause-done : goal.returns-clause-done
returns-clause-done g c = λ is_known journal t is.
    c.show_document.ensures.done is_known journal (query c.args.name.now c.args.path.now) t is
    (query_shows (start t c.args.number tx_limit) c.args.name.now c.args.path.now c.in_ok-path.path c.in_ok-path.ensures.path)
