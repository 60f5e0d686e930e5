use Rattle.std.proofs.Common.{rules, ◌≡◌, [], refl, ap, subst, sym, Ok, Err}
use Rattle.outside_traits.specs.Bytes.{Took, TookAllBut, TookPrefix}
use Rattle.outside_traits.proofs.Laws.{took_whole}
use Rattle.script_runs.specs.inside.Feeding.{with_state}
use Rattle.script_runs.specs.Lines.{line_limit}
use Rattle.script_runs.specs.declared.feeding.Stop.TheVariants.{WriteFault}
use Rattle.script_runs.proofs.FeedingLaws.{fed_written}
use Rattle.script_runs.proofs.LogLaws.{does_still}
use Rattle.script_runs.proofs.feeding.Script.flush.Goals as goal

pub returns-then-is_err-clause-leaves : goal.returns-then-is_err-clause-leaves
returns-then-is_err-clause-leaves g c = λ s stands.
    let m = g.M.LineMachine.machine in
    let h = g.K.Sink.held c.args.sink.now in
    let i = g.K.Sink.held c.write_all.new.sink in
    let wrote : TookPrefix h i c.args.self.now.pending = search rules in
    record {
      comes = tt;
      does = does_still m line_limit (with_state m c.args.self.now s) h i c.args.self.now.machine c.args.self.now [] (Err WriteFault) refl refl tt wrote;
    }

pub returns-clause-leaves : goal.returns-clause-leaves
returns-clause-leaves g c = λ s stands.
    let m = g.M.LineMachine.machine in
    let h = g.K.Sink.held c.args.sink.now in
    let i = g.K.Sink.held c.write_all.new.sink in
    let took : Took h i c.args.self.now.pending = search rules in
    let empty : c.clear.new.self.items ≡ [] = search rules in
    let all : TookAllBut h i c.args.self.now.pending c.clear.new.self.items = subst (TookAllBut h i c.args.self.now.pending) (sym empty) (took_whole h i c.args.self.now.pending took) in
    record {
      comes = (
        s,
        subst (λ k. m.stands k s) (sym (ap (λ k. k.machine) c.self.view_is)) stands,
        fed_written m line_limit (with_state m c.args.self.now s) (record { state = s; lines = c.self.inside.lines; unended = c.self.inside.unended.items; pending = c.clear.new.self.items }) h i refl (ap (λ k. k.lines) c.self.view_is) (ap (λ k. k.unended) c.self.view_is) all,
      );
      does = does_still m line_limit (with_state m c.args.self.now s) h i c.args.self.now.machine _ [] (Ok tt) (ap (λ k. k.machine) c.self.view_is) (ap (λ k. k.lines) c.self.view_is) refl ([], took_whole h i c.args.self.now.pending took);
    }
