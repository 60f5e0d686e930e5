use Rattle.std.proofs.Common.{◌≡◌, ◌∷◌, ◌+◌, drop, string_bytes, arith, ap, ap₂, sym, ◌∙◌}
use Rattle.std.proofs.lemmas.List.{drop_more, drop_all}
use Rattle.serde_json.specs.Data.{no_members, string, put}
use Rattle.serde_json.specs.View.{view, members_view}
use Rattle.serde_json.proofs.Views.{members_view-insert_entry}
use Rattle.jsonml_io.specs.Written.{with_members}
use Rattle.command_lines.proofs.reply_values.members.Goals as goal

pub loop-name-preserved : goal.loop-name-preserved
loop-name-preserved c =
    let i = c.loop-name.name-index in
    let xs = c.as_slice-name-items.result.now in
    let x = c.loop-name-item.result in
    let here : drop i xs ≡ x ∷ drop (i + 1) xs = drop_more xs i x (omega arith) ∙ ap (λ y. y ∷ drop (i + 1) xs) (sym c.loop-name-item.is) in
    let before = members_view c.loop-name.members.entries in
    let inserted =
    ap members_view c.in_ok-insert.ensures.entries ∙ members_view-insert_entry c.loop-name.members.entries c.in_ok-key.key c.in_ok-string.field-0 in
    let key : string_bytes c.in_ok-key.key ≡ x.0 = c.in_ok-key.ensures.ok ∙ c.as_str.ensures.bytes in
    let value : view c.in_ok-string.field-0 ≡ string x.1 = c.in_ok-string.ensures ∙ ap string c.as_str-in-loop-name.ensures.bytes in
    ap (λ m. with_members m (drop (i + 1) xs)) (inserted ∙ ap₂ (λ k v. put k v before) key value) ∙ ap (with_members before) (sym here) ∙ c.loop-name.invariant

pub returns : goal.returns
returns c =
    let m = members_view c.loop-name.members.entries in
    let none = drop_all c.loop-name.name-index c.as_slice-name-items.result.now (omega arith) in
    ap (with_members m) (sym none) ∙ c.loop-name.invariant ∙ ap (with_members no_members) c.as_slice-name-items.ensures
