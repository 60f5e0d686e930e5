use Rattle.std.proofs.Common.{◌≡◌, ◌≤◌, ◌++◌, Ok, Some, ap, sym, subst, ◌∙◌, arith}
use Rattle.std.proofs.lemmas.Result.{on_ok_weaker}
use Rattle.serde_json.specs.View.{view}
use Rattle.serde_json.specs.Written.{has_float, compact_text}
use Rattle.std.specs.Str.{IsUtf8}
use Rattle.serde_json.specs.Data.{depth as nesting}
use Rattle.serde_json.specs.Read.{read, max_depth}
use Rattle.tree_model.specs.Fragments.{plain, depth, IsValid}
use Rattle.jsonml_io.specs.JsonMl.{most_depth, fragment_in}
use Rattle.jsonml_io.specs.Written.{json_of, fragment_text}
use Rattle.jsonml_io.proofs.Again.{text_again}
use Rattle.jsonml_io.proofs.Values.{no_float, nests}
use Rattle.jsonml_io.proofs.writing.write_fragment.Goals as goal

pub returns-clause-ok : goal.returns-clause-ok
returns-clause-ok c =
    let seen : view c.in_ok-to_value.field-0 ≡ json_of c.args.fragment.now = c.in_ok-to_value.ensures in
    let text = c.in_ok-text.ensures.text (ap has_float seen ∙ no_float c.args.fragment.now) ∙ ap compact_text seen in
    on_ok_weaker c.extend_from_slice.result (λ e. e ∙ ap (λ s. c.args.out.now ++ s) (c.deref.ensures.value ∙ text)) c.extend_from_slice.ensures.ok

pub returns-clause-read_again : goal.returns-clause-read_again
returns-clause-read_again c =
    let f = c.args.fragment.now in
    let seen : view c.in_ok-to_value.field-0 ≡ json_of f = c.in_ok-to_value.ensures in
    let text : c.in_ok-text.text.items ≡ fragment_text f = c.in_ok-text.ensures.text (ap has_float seen ∙ no_float f) ∙ ap compact_text seen in
    let again : (h : IsValid (plain f)) → depth (plain f) ≤ most_depth → fragment_in (fragment_text f) ≡ Ok f = λ valid shallow.
    let deep : nesting (view c.in_ok-to_value.field-0) ≤ max_depth = omega (arith, ap nesting seen, nests f) in
    let read : read (fragment_text f) ≡ Some (json_of f) = ap read (sym text) ∙ c.in_ok-text.ensures.reads_back deep ∙ ap Some seen in
    text_again f (fragment_text f) (subst IsUtf8 text c.in_ok-text.ensures.utf8) read valid shallow in
    on_ok_weaker c.extend_from_slice.result (λ e. again) c.extend_from_slice.ensures.ok
