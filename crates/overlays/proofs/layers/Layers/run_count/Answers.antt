use Rattle.std.proofs.Common.{rules, ◌≡◌, ◌+◌, ◌/◌, length, sym, subst, ◌∙◌}
use Rattle.std.specs.Vec.{vec_len}
use Rattle.overlays.specs.Layered.{IsFewFor, Layered}
use Rattle.overlays.proofs.CountLaws.{few_both}
use Rattle.overlays.proofs.layers.Layers.run_count.Goals as goal

pub returns : goal.returns
returns c =
    let older = c.self.inside.older in
    let pushed = c.self.inside.pushed in
    let first : vec_len older ≡ length older.items = search rules in
    let last : vec_len pushed ≡ length pushed.items = search rules in
    record {
      few = subst (λ n. IsFewFor (n / 2) c.args.self.now.changes) (sym (λ i. (c.len.ensures ∙ first) i + (c.len-2.ensures ∙ last) i))
          (subst (λ (l : Layered). IsFewFor ((length older.items + length pushed.items) / 2) l.changes) c.self.view_is (few_both older.items pushed.items c.self.invariant.3 c.self.invariant.4 c.self.invariant.0 c.self.invariant.1));
    }
