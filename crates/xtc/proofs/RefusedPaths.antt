-- A path that is refused: nothing was asked.
use Rattle.std.proofs.Common.{List, ℕ, Bool, false, IsTrue, [], ◌≡◌, ◌≢◌, ap, arith}
use Rattle.std.specs.Prelude.{Err}
use Rattle.outside_traits.specs.Moments.{History}
use Rattle.tree_model.specs.Names.{Name}
use Rattle.call_contract.specs.States.{State}
use Rattle.session_driver.specs.Asking.{BookCall}
use Rattle.command_words.specs.Commands.{query}
use Rattle.xpath_parser.specs.Parse.{parsed}
use Rattle.xpath_parser.specs.declared.path_error.PathError.{PathError}
use Rattle.xpath_parser.specs.declared.path_error.PathError.TheVariants as error
use Rattle.xtc.specs.Documents.{end_of, query_asks_of}
use Rattle.xtc.specs.Statuses.{status_of_path}
use Rattle.durable_sessions.specs.declared.reasons.Reason.TheVariants.{Path}
use Rattle.xtc.specs.declared.status.Status.TheVariants.{DocumentRefused, NoMemory}
use Rattle.xtc.specs.inside.Asking.{DocumentWent}
use Rattle.xtc.proofs.DocumentLaws.{nothing_asked}

pub path_went : (is_known : Bool) (s : State BookCall) (name : Name) (path : List ℕ) (e : PathError) (journal : History) → (e ≢ error.NoMemory → parsed path ≡ Err e)
    → DocumentWent is_known s (query name path) [] journal journal (status_of_path e)
path_went is_known s name path error.NoMemory journal refused = nothing_asked is_known s (query name path) [] journal NoMemory tt (omega arith)
path_went is_known s name path (error.Syntax place) journal refused =
    nothing_asked is_known s (query name path) [] journal (DocumentRefused (Path (error.Syntax place))) (record { end = ap (λ r. end_of (query name path) s (query_asks_of s name r)) (refused (λ is. cc)); behind = λ may. absurd (let no : IsTrue false = may in cc) }) (omega arith)
path_went is_known s name path (error.Unsupported place what) journal refused =
    nothing_asked is_known s (query name path) [] journal (DocumentRefused (Path (error.Unsupported place what))) (record { end = ap (λ r. end_of (query name path) s (query_asks_of s name r)) (refused (λ is. cc)); behind = λ may. absurd (let no : IsTrue false = may in cc) }) (omega arith)
path_went is_known s name path (error.Deep place) journal refused =
    nothing_asked is_known s (query name path) [] journal (DocumentRefused (Path (error.Deep place))) (record { end = ap (λ r. end_of (query name path) s (query_asks_of s name r)) (refused (λ is. cc)); behind = λ may. absurd (let no : IsTrue false = may in cc) }) (omega arith)
