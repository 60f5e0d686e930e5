use Rattle.std.proofs.Common.{rules, arith, ◌≡◌, [], ◌++◌, length, ap, sym, ◌∙◌, append-nil, length-append, refl, subst, Ok, Err}
use Rattle.outside_traits.proofs.Laws.{took_nothing}
use Rattle.script_runs.specs.Lines.{ended, line_limit}
use Rattle.script_runs.specs.inside.Feeding.{with_state}
use Rattle.script_runs.specs.declared.feeding.Stop.TheVariants.{LineTooLong, Halted}
use Rattle.script_runs.specs.declared.halt.Halt.TheVariants.{NoMemory}
use Rattle.script_runs.proofs.FeedingLaws.{fed_none, fed_in_line, ended_in_line}
use Rattle.script_runs.proofs.LogLaws.{does_still}
use Rattle.script_runs.proofs.feeding.Script.extend.Goals as goal

pub returns-then-len-part-clause-leaves : goal.returns-then-len-part-clause-leaves
returns-then-len-part-clause-leaves g c = λ held s stands.
    let m = g.M.LineMachine.machine in
    let line : c.self.inside.unended.items ≡ c.args.self.now.unended = ap (λ k. k.unended) c.self.view_is in
    record {
      comes = (
        s,
        stands,
        record {
          done = [];
          part = c.args.part.now;
          more = [];
          cut = sym (append-nil c.args.part.now);
          fed = fed_none m line_limit (with_state m c.args.self.now s) held;
          in_line = c.requires.in_line;
          long = omega (arith, length-append c.args.self.now.unended c.args.part.now, ap length line);
        },
      );
      does = does_still m line_limit (with_state m c.args.self.now s) held held c.args.self.now.machine c.args.self.now (ended c.args.self.now.unended c.args.part.now) (Err LineTooLong) refl refl tt (_, took_nothing held c.args.self.now.pending);
    }

pub returns-then-is_err-clause-leaves : goal.returns-then-is_err-clause-leaves
returns-then-is_err-clause-leaves g c = λ held s stands.
    let m = g.M.LineMachine.machine in
    record {
      comes = tt;
      does = does_still m line_limit (with_state m c.args.self.now s) held held c.args.self.now.machine _ (ended c.args.self.now.unended c.args.part.now) (Err (Halted NoMemory)) (ap (λ k. k.machine) c.self.view_is) (ap (λ k. k.lines) c.self.view_is) tt (_, took_nothing held c.args.self.now.pending);
    }

pub returns-clause-leaves : goal.returns-clause-leaves
returns-clause-leaves g c = λ held s stands.
    let m = g.M.LineMachine.machine in
    let line : c.extend_from_slice.new.self.items ≡ c.self.inside.unended.items ++ c.args.part.now = search rules in
    record {
      comes = (
        s,
        subst (λ k. m.stands k s) (sym (ap (λ k. k.machine) c.self.view_is)) stands,
        fed_in_line m line_limit (with_state m c.args.self.now s) (record { state = s; lines = c.self.inside.lines; unended = c.extend_from_slice.new.self.items; pending = c.self.inside.pending.items }) held c.args.part.now c.requires.in_line refl (ap (λ k. k.lines) c.self.view_is) (line ∙ ap (λ k. k.unended ++ c.args.part.now) c.self.view_is) (ap (λ k. k.pending) c.self.view_is),
      );
      does = does_still m line_limit (with_state m c.args.self.now s) held held c.args.self.now.machine _ (ended c.args.self.now.unended c.args.part.now) (Ok tt) (ap (λ k. k.machine) c.self.view_is) (ap (λ k. k.lines) c.self.view_is) (sym (ap length (ended_in_line c.args.self.now.unended c.args.part.now c.requires.in_line))) (_, took_nothing held c.args.self.now.pending);
    }
