use Rattle.std.proofs.Common.{◌≡◌, ◌<◌, ◌^◌, ℕ, sym, subst, length}
use Rattle.std.specs.Prelude.{IfErr, IfOk}
use Rattle.call_contract.specs.Books.{IsBookFrom}
use Rattle.call_contract.specs.States.{start}
use Rattle.node_seq.specs.Trees.{StandsFor}
use Rattle.tree_model.specs.Tree.{Tree}
use Rattle.shared_store.specs.Lists.{SessionsFit}
use Rattle.group_commit.specs.OwnLines.{own_doings, own_printed}
use Rattle.group_commit.specs.Cores.{IsFrom}
use Rattle.group_commit.specs.Journals.{WroteAll, WroteCommits, WroteFirst}
use Rattle.session_driver.specs.Sessions.{Does, DoesSome}
use Rattle.group_commit.specs.inside.Handing.{IsAllHandedOut}
use Rattle.group_commit.proofs.Handed.{given_all, given_first, wrote_nothing}
use Rattle.group_commit.proofs.Started.{from_opened}
use Rattle.group_commit.proofs.Told.{does_from, if_err_so, if_ok_to, legal_from, stops_at_once, stops_from}
use Rattle.group_commit.proofs.run.run_lines.Goals as goal
use Rattle.group_commit.proofs.run.run_lines.Goals.{in-Ok, in-Err}

pub returns-clause-opened : goal.returns-clause-opened
returns-clause-opened g c =
    elim c.match-open.branch [
      | in-Ok w ↦
          let from = from_opened c.args.core c.requires.begin.book w.in-Ok.main.session.seen w.in-Ok.ensures.seen g.B.NodeRead.unchanged w.run_over-ran.result.core w.run_over-ran.ensures.opened in
          subst (λ r. IsFrom g.B.NodeRead.unchanged c.args.core r.core) (sym w.ran-is) from
      | in-Err w ↦ subst (λ r. IsFrom g.B.NodeRead.unchanged c.args.core r.core) (sym w.ran-is) w.in-Err.ensures.err.0
    ]

pub returns-clause-book : goal.returns-clause-book
returns-clause-book g c =
    let from : IsFrom g.B.NodeRead.unchanged c.args.core c.match-open.ran.core = elim c.match-open.branch [
      | in-Ok w ↦
          let from = from_opened c.args.core c.requires.begin.book w.in-Ok.main.session.seen w.in-Ok.ensures.seen g.B.NodeRead.unchanged w.run_over-ran.result.core w.run_over-ran.ensures.opened in
          subst (λ r. IsFrom g.B.NodeRead.unchanged c.args.core r.core) (sym w.ran-is) from
      | in-Err w ↦ subst (λ r. IsFrom g.B.NodeRead.unchanged c.args.core r.core) (sym w.ran-is) w.in-Err.ensures.err.0
    ] in
    let fit : SessionsFit c.match-open.ran.core.book = elim c.match-open.branch [
      | in-Ok w ↦ subst (λ r. SessionsFit r.core.book) (sym w.ran-is) w.run_over-ran.ensures.sessions
      | in-Err w ↦ subst (λ r. SessionsFit r.core.book) (sym w.ran-is) (subst SessionsFit (sym w.in-Err.ensures.err.1) tt)
    ] in
    record {
      legal = legal_from g.B.NodeRead.unchanged g.B.NodeRead.contents g.C.TreeCall.meaning g.C.TreeCall.is_valid c.args.core c.match-open.ran.core from c.is_legal.ensures.book;
      sessions = fit;
    }

pub returns-clause-written : goal.returns-clause-written
returns-clause-written g c =
    let unchanged = g.B.NodeRead.unchanged in
    let told = g.B.NodeRead.contents in
    let m = g.C.TreeCall.meaning in
    let is_known = g.J.Disk.is_known in
    let journal = c.args.journal in
    let fits = subst (λ (k : ℕ). k < 2 ^ 64) c.faults-faults.ensures.count c.has_64_bits.ensures in
    elim c.match-open.branch [
      | in-Ok w ↦
          let ran = w.run_over-ran in
          let wrote = given_first m told is_known w.in-Ok.group w.in-Ok.main w.in-Ok.ensures.ok journal w.in-Ok.ensures.journal fits unchanged ran.result.core ran.result.journal ran.ensures.opened ran.ensures.out in
          let all = if_ok_to (λ _. IsAllHandedOut m told is_known w.in-Ok.main.pass ran.result.core ran.result.journal) (λ _. WroteAll m told is_known journal ran.result.core ran.result.journal) ran.result.replies
          (λ _ h. given_all m told is_known w.in-Ok.group w.in-Ok.main w.in-Ok.ensures.ok journal w.in-Ok.ensures.journal fits unchanged ran.result.core ran.result.journal ran.ensures.opened h) ran.ensures.durable in
          subst (λ r. WroteCommits m told is_known journal r.replies r.core r.journal) (sym w.ran-is) (record { wrote = wrote; durable = all })
      | in-Err w ↦
          let core = w.in-Err.core in
          let same = w.in-Err.ensures.err.2 in
          let nothing = wrote_nothing m told is_known core journal c.requires.begin.takes c.is_usable.ensures.settled c.is_usable.ensures.groups c.is_usable.ensures.commits c.faults-faults.ensures.reads_an_image in
          let wrote = subst (WroteFirst m told is_known journal 0 core) (sym same) nothing in
          subst (λ r. WroteCommits m told is_known journal r.replies r.core r.journal) (sym w.ran-is) (record { wrote = wrote; durable = tt })
    ]

pub returns-clause-all : goal.returns-clause-all
returns-clause-all g c =
    elim c.match-open.branch [
      | in-Ok w ↦ subst (λ r. IfOk r.replies (λ rs. length rs ≡ length c.args.lines.now)) (sym w.ran-is) w.run_over-ran.ensures.all
      | in-Err w ↦ subst (λ r. IfOk r.replies (λ rs. length rs ≡ length c.args.lines.now)) (sym w.ran-is) tt
    ]

pub returns-clause-does : goal.returns-clause-does
returns-clause-does g c =
    let unchanged = g.B.NodeRead.unchanged in
    let told = g.B.NodeRead.contents in
    let m = g.C.TreeCall.meaning in
    let made = g.C.LineCall.made in
    let is_known = g.J.Disk.is_known in
    let first = c.args.core in
    let journal = c.args.journal in
    let lines = c.args.lines.now in
    elim c.match-open.branch [
      | in-Ok w ↦
          let ran = w.run_over-ran in
          let seen = w.in-Ok.main.session.seen in
          let from = from_opened first c.requires.begin.book seen w.in-Ok.ensures.seen unchanged ran.result.core ran.ensures.opened in
          let legal = subst (λ r. (t : Tree) → StandsFor (told r.core.opening) t → IsBookFrom g.C.TreeCall.is_valid m t r.core.number r.core.limit r.core.book) w.ran-is c.is_legal.ensures.book in
          let does = does_from unchanged told m g.C.TreeCall.is_valid first ran.result.core from legal made lines c.requires.begin.book seen w.in-Ok.ensures.seen ran.result.replies ran.ensures.does in
          subst (λ r. IfOk r.replies (λ replies. (t : Tree) → StandsFor (told first.opening) t → (s : ℕ) → Does m s (start t first.number first.limit) r.core.book (own_printed made s lines replies))) (sym w.ran-is) does
      | in-Err w ↦ subst (λ r. IfOk r.replies (λ replies. (t : Tree) → StandsFor (told first.opening) t → (s : ℕ) → Does m s (start t first.number first.limit) r.core.book (own_printed made s lines replies))) (sym w.ran-is) tt
    ]

pub returns-clause-stops : goal.returns-clause-stops
returns-clause-stops g c =
    let unchanged = g.B.NodeRead.unchanged in
    let told = g.B.NodeRead.contents in
    let m = g.C.TreeCall.meaning in
    let made = g.C.LineCall.made in
    let is_known = g.J.Disk.is_known in
    let first = c.args.core in
    let journal = c.args.journal in
    let lines = c.args.lines.now in
    elim c.match-open.branch [
      | in-Ok w ↦
          let ran = w.run_over-ran in
          let seen = w.in-Ok.main.session.seen in
          let from = from_opened first c.requires.begin.book seen w.in-Ok.ensures.seen unchanged ran.result.core ran.ensures.opened in
          let legal = subst (λ r. (t : Tree) → StandsFor (told r.core.opening) t → IsBookFrom g.C.TreeCall.is_valid m t r.core.number r.core.limit r.core.book) w.ran-is c.is_legal.ensures.book in
          let stops = stops_from unchanged told m g.C.TreeCall.is_valid first ran.result.core from legal made lines c.requires.begin.book seen w.in-Ok.ensures.seen ran.ensures.stops in
          let P = (t : Tree) → StandsFor (told first.opening) t → (s : ℕ) → DoesSome m s (start t first.number first.limit) ran.result.core.book (own_doings made s lines) in
          subst (λ r. IfErr r.replies (λ _. (t : Tree) → StandsFor (told first.opening) t → (s : ℕ) → DoesSome m s (start t first.number first.limit) r.core.book (own_doings made s lines))) (sym w.ran-is) (if_err_so P ran.result.replies stops)
      | in-Err w ↦
          let none = w.in-Err.ensures.err.1 in
          let stops = λ (t : Tree) (stands : StandsFor (told first.opening) t) (s : ℕ). stops_at_once m told made lines t first.number first.limit w.in-Err.core.book none s in
          subst (λ r. IfErr r.replies (λ _. (t : Tree) → StandsFor (told first.opening) t → (s : ℕ) → DoesSome m s (start t first.number first.limit) r.core.book (own_doings made s lines))) (sym w.ran-is) stops
    ]
