use Rattle.std.proofs.Common.{◌≡◌, ◌+◌, ◌-◌, [], length, ap, ◌∙◌, subst, sym, add-zero}
use Rattle.outside_traits.specs.Bytes.{Gave}
use Rattle.outside_traits.proofs.Laws.{gave_none}
use Rattle.script_runs.specs.Lines.{line_limit}
use Rattle.script_runs.proofs.RunLaws.{run_as, run_nothing}
use Rattle.script_runs.proofs.running.run.Goals as goal
use Rattle.script_runs.proofs.running.run.Goals.{in-Ok, in-Err}

pub returns-clause-ran : goal.returns-clause-ran
returns-clause-ran g c =
    let m = g.M.LineMachine.machine in
    let given = g.S.Source.given c.args.source.now in
    let left = g.S.Source.left c.args.source.now in
    let before = c.new-script.ensures.machine in
    elim c.match-buffer.branch [
      | in-Ok w ↦
          let run = w.run_script-end.ensures.ran in (
            run.0,
            subst (λ source. Gave left (g.S.Source.left source) run.0) (sym w.source-is) run.1,
            subst (λ source. g.S.Source.given source ≡ given + length run.0) (sym w.source-is) run.2,
            λ s stands. run_as m line_limit s run.0 _ _ _ _ _ _ _ _ _ _ _ _ _ (sym w.end-is) (ap (λ source. g.S.Source.asked source - given) (sym w.source-is)) (ap g.S.Source.left (sym w.source-is)) (ap g.K.Sink.held (sym w.sink-is)) before (ap (λ k. k.machine) (sym w.script-is) ∙ sym c.into_machine.ensures) (run.3 s (subst (λ k. m.stands k s) (sym before) stands)),
          )
      | in-Err w ↦ (
        [],
        subst (λ source. Gave left (g.S.Source.left source) []) (sym w.source-is) (gave_none left),
        subst (λ source. g.S.Source.given source ≡ given + 0) (sym w.source-is) (sym (add-zero given)),
        λ s stands. run_as m line_limit s [] _ _ _ _ _ _ _ _ _ _ _ _ _ (sym w.end-is) (ap (λ source. g.S.Source.asked source - given) (sym w.source-is)) (ap g.S.Source.left (sym w.source-is)) (ap g.K.Sink.held (sym w.sink-is)) before (ap (λ k. k.machine) (sym w.script-is) ∙ sym c.into_machine.ensures) (run_nothing m line_limit s _ left (g.K.Sink.held c.args.sink.now) c.new-script.result.machine),
      )
    ]
