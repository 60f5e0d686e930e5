use Rattle.call_contract.proofs.Appends.{last_append, run_append, run_first, run_rest, faults_append, faults_first, faults_rest, live_append, queue_append, begins_append, begins_of_append, commits_append}
use Rattle.call_contract.proofs.serial_laws.books_append.Goals as goal

pub returns : goal.returns
returns g c = record {
  last = λ st b d. last_append g.C.TreeCall.meaning st b d;
  run = λ st b d. (λ is. (run_first g.C.TreeCall.meaning st b d is, run_rest g.C.TreeCall.meaning st b d is), λ both. run_append g.C.TreeCall.meaning st b d both.0 both.1);
  faults = λ f b d. (λ is. (faults_first f b d is, faults_rest f b d is), λ both. faults_append f b d both.0 both.1);
  live = λ ts b d. live_append ts b d;
  queue = λ ss b d. queue_append ss b d;
  begun = λ b d. begins_append b d;
  ordinals = λ b d s. begins_of_append b d s;
  commits = λ b d. commits_append b d;
}
