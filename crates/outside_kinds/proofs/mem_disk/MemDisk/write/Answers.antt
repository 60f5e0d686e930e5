use Rattle.std.proofs.Common.{◌≡◌, List, [], ◌∷◌, ◌++◌, ap, sym, ◌∙◌, rules}
use Rattle.outside_traits.specs.Disks.{put_at_or_past}
use Rattle.outside_kinds.specs.MemoryDisks.{after_calls, start, bytes_of}
use Rattle.outside_kinds.specs.declared.noted_call.DiskCall.TheVariants.{Write}
use Rattle.outside_kinds.specs.declared.noted_call.NotedCall.{NotedCall}
use Rattle.outside_traits.specs.Moments.{History}
use Rattle.outside_kinds.proofs.Replay.{after_calls-push}
use Rattle.outside_kinds.proofs.mem_disk.MemDisk.write.Goals as goal

pub invariant_of-self-else-is_err : goal.invariant_of-self-else-is_err
invariant_of-self-else-is_err c =
    let first = start c.self.inside.first.items in
    let noted : NotedCall = record { number = c.calls-number.result; call = Write c.args.at c.args.bytes.now } in
    let more : c.push.new.self.items ≡ c.self.inside.noted.items ++ noted ∷ [] = search rules in
    let own : bytes_of c.copy_first.new.is_copied c.overwrite.new.file.items c.self.inside.first.items ≡ c.overwrite.new.file.items = ap (λ b. bytes_of b c.overwrite.new.file.items c.self.inside.first.items) c.in_ok-copy_first.ensures.ok.0 in
    let written : c.overwrite.new.file.items ≡ put_at_or_past c.args.at c.args.bytes.now c.copy_first.new.file.items = search rules in
    own ∙ written
    ∙ ap (put_at_or_past c.args.at c.args.bytes.now) (c.in_ok-copy_first.ensures.ok.1 ∙ c.self.invariant)
    ∙ sym (ap (λ (u : History). u.now.reads) (ap (λ (l : List NotedCall). after_calls l first) more ∙ after_calls-push c.self.inside.noted.items noted first))
