use Rattle.std.proofs.lemmas.Result.{IfOk-weaker}
use Rattle.overlays.specs.Views.{contents_after}
use Rattle.tx_core.proofs.copying.copy_committed.Goals as goal

pub returns-clause-tree : goal.returns-clause-tree
returns-clause-tree g c =
    IfOk-weaker c.copy_view.result _ _ (λ copy h t stands. h t (record { valid = stands.valid; map = λ i. contents_after (c.new-own.ensures i) (stands.map i) })) c.copy_view.ensures.tree
