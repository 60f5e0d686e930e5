use Rattle.std.proofs.Common.{rules, ◌≡◌, ◌≢◌, ◌∙◌, ◌<◌, true, length, slice_index_or, sym, ap, subst, inl, inr}
use Rattle.turn_lock.specs.Turns.{has_number}
use Rattle.shared_store.specs.Sessions.{SessionView}
use Rattle.command_lines.specs.declared.command.Command.{Command}
use Rattle.group_commit.specs.StorePorts.{IsSessionNumber, store_ports}
use Rattle.group_commit.specs.inside.Joining.{IsServed, SplitSoFar}
use Rattle.group_commit.proofs.Splits.{at_line, split_nothing, split_of, split_one_more, split_opened, split_passed}
use Rattle.group_commit.proofs.joining.split_ports.Goals as goal
use Rattle.group_commit.proofs.joining.split_ports.Goals.{then-number-own+then-has+else-is_err, else-number-own, else-number-own-via-then-number-own+else-has, else-number-own-via-else-number-own}

pub loop-command-init : goal.loop-command-init
loop-command-init g c =
    let told = g.B.NodeRead.contents in
    let m = g.C.TreeCall.meaning in
    let made = g.C.LineCall.made in
    subst (SplitSoFar (store_ports told m made) c.args.lines.now 0 c.args.main.now c.args.main.now) (sym c.requires.none) (split_nothing told m made c.args.group.now c.args.lines.now c.args.main.now c.requires.first)

pub split_port-requires-clause-group : goal.split_port-requires-clause-group
split_port-requires-clause-group g c = split_of c.args.group.now c.args.main.now c.loop-command.main c.requires.first c.loop-command.invariant.same

pub split_port-requires-clause-opened : goal.split_port-requires-clause-opened
split_port-requires-clause-opened g c = split_opened c.args.group.now c.args.main.now c.loop-command.main c.requires.first c.loop-command.invariant.same

pub loop-command-preserved : goal.loop-command-preserved
loop-command-preserved g c =
    let told = g.B.NodeRead.contents in
    let m = g.C.TreeCall.meaning in
    let made = g.C.LineCall.made in
    let lines = c.args.lines.now in
    let i = c.loop-command.command-index in
    let first = c.args.main.now in
    let now = c.loop-command.main in
    let line = c.command-item.result in
    let far = c.loop-command.invariant in
    let lt : c.loop-command.command-index < length c.args.lines.now = search rules in
    let at : c.command-item.result ≡ slice_index_or c.args.lines.now c.loop-command.command-index c.command-item.result = search rules in
    let under : now.session.under ≡ c.args.own = ap (λ (v : SessionView _ _). v.under) far.same.session ∙ sym c.requires.own in
    elim c.if-number-own.branch [
      | then-number-own+then-has+else-is_err w ↦
          let there : has_number c.loop-command.main.session.has c.command-item.result.session ≡ true = search rules in
          let differs : c.command-item.result.session ≢ c.args.own = search rules in
          let kept : w.reserve.new.self.items ≡ c.loop-command.ports.items = search rules in
          let next = split_one_more told m made lines i first now c.loop-command.ports.items line lt at there (λ e. differs (sym e ∙ under)) (at_line (λ (d : Command). IsSessionNumber d.session) lines i line lt at c.requires.lines) far in
          rw (w.main-is, w.ports-is, w.split_port.ensures.main, w.split_port.ensures.ports, kept) next
      | else-number-own w ↦
          let served : IsServed c.loop-command.main.session c.command-item.result = elim w.else-number-own.branch [
            | else-number-own-via-then-number-own+else-has v ↦ inr (search rules)
            | else-number-own-via-else-number-own v ↦ let same : c.command-item.result.session ≡ c.args.own = search rules in inl (same ∙ sym under)
          ] in
          rw (w.main-is, w.ports-is) (split_passed told m made lines i first now c.loop-command.ports.items line lt at served far)
    ]
