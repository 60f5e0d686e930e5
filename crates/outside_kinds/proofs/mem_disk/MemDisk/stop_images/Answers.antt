use Rattle.std.proofs.Common.{refl, ◌≤◌, ◌++◌, ℕ, List, length, sym, ap, ◌∙◌, subst}
use Rattle.std.specs.List.{All}
use Rattle.std.proofs.lemmas.List.Elements.{All-nil}
use Rattle.outside_traits.specs.Bytes.{IsBytes}
use Rattle.outside_traits.specs.CrashImages.{Remains}
use Rattle.outside_kinds.specs.MemoryDisks.{start}
use Rattle.outside_kinds.specs.StopImages.{until, behind_sync, torn, stopped_in}
use Rattle.outside_kinds.specs.declared.noted_call.NotedCall.{NotedCall}
use Rattle.outside_kinds.proofs.StopLaws.{since_stop, behind-shorter, file-synced, file-remains, images-all, gathered}
use Rattle.outside_kinds.proofs.mem_disk.MemDisk.stop_images.Goals as goal

pub slice_bounds-before-count : goal.slice_bounds-before-count
slice_bounds-before-count c =
    subst (λ (l : List NotedCall). length l ≤ length c.calls_until-calls.result.now) (sym c.calls_behind_sync-behind.ensures) (behind-shorter c.calls_until-calls.result.now)

pub returns-in_err-synced-clause-moment : goal.returns-in_err-synced-clause-moment
returns-in_err-synced-clause-moment c = since_stop c.args.call c.args.self.now.noted (start c.args.self.now.first)

pub returns-in_err-put_torn-clause-moment : goal.returns-in_err-put_torn-clause-moment
returns-in_err-put_torn-clause-moment c = since_stop c.args.call c.args.self.now.noted (start c.args.self.now.first)

pub returns-clause-moment : goal.returns-clause-moment
returns-clause-moment c = since_stop c.args.call c.args.self.now.noted (start c.args.self.now.first)

pub returns-clause-images : goal.returns-clause-images
returns-clause-images c =
    let same = gathered c.args.self.now.first (until c.args.call c.args.self.now.noted) c.calls_until-calls.result.now c.calls_behind_sync-behind.result.now _ c.first.result.now c.in_ok-synced.synced.items c.put_torn.new.images c.new-images.result
    (c.calls_until-calls.ensures ∙ ap (until c.args.call) c.noted.ensures) c.first.ensures c.calls_behind_sync-behind.ensures refl (c.in_ok-synced.ensures) c.new-images.ensures (c.in_ok-put_torn.ensures.torn ∙ ap (λ (f : List ℕ). c.new-images.result ++ torn c.calls_behind_sync-behind.result.now f) c.deref.ensures.value) in
    let remain : All (Remains (stopped_in c.args.call c.args.self.now).now) c.put_torn.new.images =
    subst (All (Remains (stopped_in c.args.call c.args.self.now).now)) (sym same) (file-remains c.args.self.now.first (until c.args.call c.args.self.now.noted)) in
    images-all (stopped_in c.args.call c.args.self.now).now c.put_torn.new.images remain (c.in_ok-put_torn.ensures.bytes (subst (All IsBytes) (sym c.new-images.ensures) (All-nil IsBytes)))

pub returns-clause-among : goal.returns-clause-among
returns-clause-among c =
    let same = gathered c.args.self.now.first (until c.args.call c.args.self.now.noted) c.calls_until-calls.result.now c.calls_behind_sync-behind.result.now _ c.first.result.now c.in_ok-synced.synced.items c.put_torn.new.images c.new-images.result
    (c.calls_until-calls.ensures ∙ ap (until c.args.call) c.noted.ensures) c.first.ensures c.calls_behind_sync-behind.ensures refl (c.in_ok-synced.ensures) c.new-images.ensures (c.in_ok-put_torn.ensures.torn ∙ ap (λ (f : List ℕ). c.new-images.result ++ torn c.calls_behind_sync-behind.result.now f) c.deref.ensures.value) in
    same ∙ ap (torn (behind_sync (until c.args.call c.args.self.now.noted) (until c.args.call c.args.self.now.noted))) (file-synced c.args.self.now.first (until c.args.call c.args.self.now.noted))
