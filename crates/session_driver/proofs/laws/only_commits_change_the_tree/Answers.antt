use Rattle.std.specs.Prelude.{Some}
use Rattle.std.proofs.Common.{refl}
use Rattle.session_driver.proofs.OnlyCommits.{retries_keep, unless_commit, refused_keeps, commit_commits}
use Rattle.session_driver.proofs.laws.only_commits_change_the_tree.Goals as goal

pub returns : goal.returns
returns g c = record {
  retries = λ st. retries_keep g.C.TreeCall.meaning st;
  others = λ st line apart. unless_commit g.C.TreeCall.meaning st line.session line.doing apart;
  refused = λ st line why is. refused_keeps g.C.TreeCall.meaning st line.session line.doing (Some why) is refl;
  commit = λ st s free. commit_commits g.C.TreeCall.meaning st s free;
}
