use Rattle.std.specs.Prelude.{flat_map, OnOk}
use Rattle.std.proofs.Common.{sym, ap, ◌∙◌, subst, ◌≡◌, ◌++◌, length}
use Rattle.command_lines.specs.Replies.{reply_text}
use Rattle.workers_text.specs.Entries.{Script, commands_in, in_places}
use Rattle.workers_text.specs.inside.Places.{HavePlaces, put_in}
use Rattle.workers_text.proofs.Places.{as_many, same_places}
use Rattle.workers_text.proofs.script.Script.write_replies.Goals as goal

pub write_places-requires : goal.write_places-requires
write_places-requires c =
    let i = c.self.inside in
    let rs = c.args.replies.now in
    subst (λ ps. HavePlaces ps rs) (sym c.as_slice.ensures) (as_many i.places i.commands rs c.self.invariant.places (c.requires ∙ ap (λ (s : Script). length (commands_in s.entries)) (sym c.self.view_is)))

pub returns : goal.returns
returns c =
    let i = c.self.inside in
    let rs = c.args.replies.now in
    let same : put_in c.as_slice.result.now rs ≡ in_places c.args.self.now.entries rs =
    ap (λ ps. put_in ps rs) c.as_slice.ensures ∙ same_places i.places i.commands rs c.self.invariant.places ∙ ap (λ (s : Script). in_places s.entries rs) c.self.view_is in
    subst (λ given. OnOk c.write_places.result (c.write_places.new.out ≡ c.args.out.now ++ flat_map reply_text given)) same c.write_places.ensures
