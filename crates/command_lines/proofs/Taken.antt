-- What is left of an object when a member is taken out.
use Rattle.std.proofs.Common.{◌≡◌, ℕ, ◌≢◌, length, Err, codes, Bool, true, false, cond, List, [], ◌∷◌, string_bytes, nat_cmp, bytes_eq, refl, ap, ◌∙◌}
use Rattle.std.specs.BTreeMap.{is_at}
use Rattle.std.specs.Cmp.Lexicographic.{slice_cmp}
use Rattle.std.specs.Map.{remove_entry}
use Rattle.std.proofs.lemmas.Map.Text.{is_eq-slice_cmp}
use Rattle.serde_json.specs.Data.{member}
use Rattle.command_lines.specs.declared.bad_line.BadLine.TheVariants.{Why}
use Rattle.command_lines.specs.declared.command.What.{What}
use Rattle.command_lines.specs.Lines.{finished}
use Rattle.serde_json.specs.View.{view, members_view}
use Rattle.serde_json.proofs.Views.{Entry}
use Rattle.command_lines.specs.Taking.{without}

-- the entries, seen as members, on either side of a test
either : (b c : Bool) → b ≡ c → (x y : List Entry) → members_view (cond b x y) ≡ cond c (members_view x) (members_view y)
either true true e x y = refl
either true false e x y = cc
either false true e x y = cc
either false false e x y = refl

pub members_view-remove_entry : (name : List ℕ) (es : List Entry)
    → members_view (remove_entry (is_at (λ k. slice_cmp nat_cmp name (string_bytes k))) es) ≡ without name (members_view es)
members_view-remove_entry name [] = refl
members_view-remove_entry name (e ∷ es) =
    let k = string_bytes e.0 in
    either _ _ (is_eq-slice_cmp name k) es _ ∙ ap (λ ms. cond (bytes_eq name k) (members_view es) (member k (view e.1) ms)) (members_view-remove_entry name es)

pub something_left : (session : ℕ) (what : What) (es : List Entry) → length es ≢ 0 → finished session (what, members_view es) ≡ Err (Why (codes "extra"))
something_left session what [] h = absurd (h refl)
something_left session what (m ∷ es) h = refl
