use Rattle.std.proofs.Common.{◌≡◌, [], ◌∷◌, ◌++◌, ◌+◌, map, take, arith, ap, ap₂, sym, ◌∙◌, append_assoc, append-nil}
use Rattle.std.proofs.lemmas.List.{take_more, take_all, map-append}
use Rattle.serde_json.specs.Data.{array}
use Rattle.serde_json.specs.View.{view, items_of}
use Rattle.serde_json.proofs.Views.{view-Array}
use Rattle.jsonml_io.specs.Written.{json_of}
use Rattle.jsonml_io.proofs.Values.{json_of-Element}
use Rattle.jsonml_io.proofs.writing.+to_value.Goals as goal

pub loop-child-init : goal.loop-child-init
loop-child-init t c = sym (append-nil (map view c.in_ok-items-in-Element.items.items))

pub loop-child-preserved : goal.loop-child-preserved
loop-child-preserved t c =
    let l = c.loop-child in
    let i = l.child-index in
    let xs = c.as_slice-child-items.result.now in
    let x = c.child-item.result in
    let first = map view c.in_ok-items-in-Element.items.items in
    let more : take (i + 1) xs ≡ take i xs ++ x ∷ [] = take_more xs i x (omega arith) ∙ ap (λ y. take i xs ++ y ∷ []) (sym c.child-item.is) in
    let pushed : map view c.push.new.self.items ≡ map view l.items.items ++ json_of x ∷ [] = ap (map view) c.in_ok-push-in-Element.ensures.items ∙ map-append view l.items.items (c.in_ok-to_value-in-Element.field-0 ∷ []) ∙ ap (λ d. map view l.items.items ++ d ∷ []) c.in_ok-to_value-in-Element.ensures in
    pushed ∙ ap (λ vs. vs ++ json_of x ∷ []) l.invariant ∙ append_assoc first (map json_of (take i xs)) (json_of x ∷ [])
    ∙ sym (ap (λ fs. first ++ map json_of fs) more ∙ ap (λ vs. first ++ vs) (map-append json_of (take i xs) (x ∷ [])))

pub returns-after-loop-child : goal.returns-after-loop-child
returns-after-loop-child t c =
    let l = c.loop-child in
    let xs = c.as_slice-child-items.result.now in
    let all : take l.child-index xs ≡ xs = take_all l.child-index xs (omega arith) in
    let seen = l.invariant ∙ ap (λ fs. map view c.in_ok-items-in-Element.items.items ++ map json_of fs) all in
    view-Array l.items ∙ ap (λ vs. array (items_of vs)) seen ∙ ap₂ (λ vs fs. array (items_of (vs ++ map json_of fs))) c.in_ok-items-in-Element.ensures c.as_slice-child-items.ensures ∙ sym (json_of-Element c.in-Element.name c.in-Element.attrs c.in-Element.children) ∙ ap json_of (sym c.in-Element.is)
