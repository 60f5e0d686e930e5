use Rattle.std.proofs.Common.{◌≡◌, Ok, [], ◌∷◌, ◌++◌, string_bytes, ap, subst, sym, append-nil, ◌∙◌}
use Rattle.serde_json.specs.View.{view, members_view}
use Rattle.jsonml_io.specs.Pointers.{step_to_member}
use Rattle.jsonml_io.specs.JsonMl.{attribute, attributes, behind, below}
use Rattle.tree_model.specs.ValidTrees.{ValuesFit}
use Rattle.jsonml_io.proofs.Outcomes.{attribute_more}
use Rattle.jsonml_io.proofs.Valid.{values_more, names_rise}
use Rattle.jsonml_io.proofs.attributes.attributes.Goals as goal

pub loop-name-preserved : goal.loop-name-preserved
loop-name-preserved c =
    let name = string_bytes c.in-Some.name in
    let text = c.in_ok-value.value in
    let left = members_view c.next.new.self in
    let moved : c.from_string-name.result ≡ name = c.from_string-name.ensures in
    let read = subst (λ n. below (step_to_member n) (attribute n (view c.in-Some.value)) ≡ Ok text) moved c.in_ok-value.ensures.read in
    let more = attribute_more name (view c.in-Some.value) left text c.loop-name.attrs read in
    let pushed = c.in_ok-push.ensures.ok ∙ ap (λ n. c.loop-name.attrs ++ (n, text) ∷ []) moved in
    let fit = subst ValuesFit (sym c.in_ok-push.ensures.ok) (values_more c.loop-name.attrs c.from_string-name.result text c.loop-name.invariant.2 c.in_ok-value.ensures.fits) in
    (tt, tt, fit, c.loop-name.invariant.3 ∙ ap (λ ms. behind c.loop-name.attrs (attributes (members_view ms))) c.in-Some.ensures.steps ∙ more ∙ ap (λ l. behind l (attributes left)) (sym pushed))

pub returns-clause-names : goal.returns-clause-names
returns-clause-names c =
    let all = c.loop-name.invariant.3 ∙ ap (λ es. behind c.loop-name.attrs (attributes (members_view es))) c.in-None.ensures.steps.0 ∙ ap Ok (append-nil c.loop-name.attrs) in
    names_rise c.args.members.entries c.loop-name.attrs c.into_iter-name-iterator.ensures.into_iter_gives.5 all
