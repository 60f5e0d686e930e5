use Rattle.std.proofs.Common.{sym, ap, ◌∙◌, ◌++◌, ◌∷◌, []}
use Rattle.wait_graph.specs.inside.Search.{reached, unreached}
use Rattle.wait_graph.proofs.Layers.{reached_more, unreached_more}
use Rattle.wait_graph.proofs.search.next_layer.Goals as goal

pub loop-waiter-preserved : goal.loop-waiter-preserved
loop-waiter-preserved c =
    let layer = c.args.layer.now in
    let one = c.in-Some.waiter in (
      c.in_ok-place.ensures.walks ∙ ap (λ ws. ws ++ reached layer (one ∷ [])) c.loop-waiter.invariant.0 ∙ sym (reached_more layer c.loop-waiter.yielded one),
      c.in_ok-place.ensures.farther ∙ ap (λ xs. xs ++ unreached layer (one ∷ [])) c.loop-waiter.invariant.1 ∙ sym (unreached_more layer c.loop-waiter.yielded one),
    )
