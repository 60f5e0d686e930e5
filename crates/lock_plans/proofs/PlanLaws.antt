-- How a plan comes to have the requests of a call: its requests so far, the tests that let the call go on, and those that stop it.
use Rattle.std.proofs.Common.{◌≡◌, ◌≤◌, ◌<◌, length, arith, Bool, true, false, not, ◌&&◌, if◌then◌else◌, List, [], ◌∷◌, ◌++◌, Option, Some, None, ℕ, is_some, refl, sym, ap, subst, ◌∙◌, append_assoc, append-nil}
use Rattle.std.proofs.lemmas.Bool.Decides.{nat_tests}
use Rattle.std.specs.List.{AllByRecursion}
use Rattle.dewey_labels.specs.Labels.{Label}
use Rattle.lock_modes.specs.declared.ask.Ask.TheVariants as ask
use Rattle.lock_modes.specs.declared.mode.Mode.{Mode}
use Rattle.lock_modes.specs.declared.mode.Mode.TheVariants.{NR}
use Rattle.lock_modes.specs.declared.edge_mode.EdgeMode.{EdgeMode}
use Rattle.lock_resources.specs.declared.resource.Resource.TheVariants.{Node, Edge}
use Rattle.lock_resources.specs.declared.resource.Resource.TheVariants as resource
use Rattle.lock_resources.specs.declared.resource.Side.{Side}
use Rattle.lock_resources.specs.declared.request.Request.{Request}
use Rattle.lock_resources.specs.Intentions.{with_intentions}
use Rattle.lock_resources.specs.Resources.{Fits}
use Rattle.tree_model.specs.declared.record.Record.{Record}
use Rattle.tree_model.specs.declared.record.Record.TheVariants.{Document, Element, Text, Attr}
use Rattle.tree_model.specs.Limits.{is_too_long, most_text_bytes}
use Rattle.tree_model.specs.NodeKinds.{is_document, is_element, is_text_node, is_text_record}
use Rattle.tree_model.specs.Outcomes.{Outcome}
use Rattle.tree_model.specs.StoredTree.{is_document_record}
use Rattle.tree_model.specs.Tree.{Attributes, Forest, none, node, found, record_of}
use Rattle.tree_model.proofs.Found.{some_is}
use Rattle.lock_plans.specs.Plans.{Run, ends, read_found, take_left, take_right}
use Rattle.lock_plans.specs.DomPlans.{data_of}
use Rattle.lock_plans.specs.inside.PlanSteps.{reads_found, takes_left, takes_right, text_data}

-- requests that fit, behind others that do
pub all_append : (rs qs : List Request) → AllByRecursion Fits rs → AllByRecursion Fits qs → AllByRecursion Fits (rs ++ qs)
all_append [] qs h g = g
all_append (r ∷ rs) qs h g = (h.0, all_append rs qs h.1 g)

-- ---- blocks of requests

-- a node that is asked a mode, and an edge
abbrev pub node_asks : Label → Mode → List Request
node_asks l m = with_intentions (Node l) (ask.Node m)

abbrev pub edge_asks : Label → Side → EdgeMode → List Request
edge_asks l s m = with_intentions (Edge l s) (ask.Edge m)

abbrev pub attribute_asks : Label → List ℕ → Mode → List Request
attribute_asks l n m = with_intentions (resource.Attr l n) (ask.Node m)

-- a node that is read
abbrev pub sees : Label → List Request
sees l = node_asks l NR

-- ---- what the plan has

-- the first requests
pub begun : {old now : List Request} (e : List Request) → old ≡ [] → now ≡ old ++ e → now ≡ e
begun e h g = g ∙ ap (λ v. v ++ e) h

-- further ones
pub grown : {old now w : List Request} (e : List Request) → old ≡ w → now ≡ old ++ e → now ≡ w ++ e
grown e h g = g ∙ ap (λ v. v ++ e) h

-- ---- what the call asks for

-- nothing more
pub ended : {now w : List Request} → now ≡ w → now ≡ w ++ []
ended {w = w} h = h ∙ sym (append-nil w)

-- requests one after another
pub joined : {now : List Request} (w r x : List Request) → now ≡ (w ++ r) ++ x → now ≡ w ++ (r ++ x)
joined w r x h = h ∙ append_assoc w r x

-- a test doesn't stop the call
pub past : {now : List Request} {b : Bool} (w rest : List Request) → b ≡ false → now ≡ w ++ rest → now ≡ w ++ (if b then [] else rest)
past w rest e h = h ∙ ap (λ c. w ++ (if c then [] else rest)) (sym e)

-- it does
pub stopped : {now w : List Request} {b : Bool} (rest : List Request) → b ≡ true → now ≡ w → now ≡ w ++ (if b then [] else rest)
stopped {w = w} rest e h = ended h ∙ ap (λ c. w ++ (if c then [] else rest)) (sym e)

-- a test behind the last request
pub last_test : {now w : List Request} (b : Bool) → now ≡ w → now ≡ w ++ (if b then [] else [])
last_test {w = w} b h = h ∙ sym (append-nil w) ∙ ap (λ v. w ++ v) (by b)
  where
    by : (b : Bool) → ◌≡◌ {A = List Request} [] (if b then [] else [])
    by true = refl
    by false = refl

-- the node that was found is read
pub reads : (o : Option Label) (rest : Run) → (read_found o rest).requests ≡ reads_found o ++ rest.requests
reads None rest = refl
reads (Some l) rest = refl

pub found_at_end : {now : List Request} (w : List Request) (o : Option Label) (end : Outcome) → now ≡ w ++ reads_found o → now ≡ w ++ (read_found o (ends end)).requests
found_at_end w o end h = h ∙ ap (λ v. w ++ v) (sym (reads o (ends end) ∙ append-nil (reads_found o)))

-- the edges of a gap
pub left_taken : (p : Label) (o : Option Label) (rest : Run) → (take_left p o rest).requests ≡ takes_left p o ++ rest.requests
left_taken p None rest = refl
left_taken p (Some l) rest = refl

pub right_taken : (p : Label) (o : Option Label) (rest : Run) → (take_right p o rest).requests ≡ takes_right p o ++ rest.requests
right_taken p None rest = refl
right_taken p (Some r) rest = refl

-- ---- what a node is

-- where it has a record
pub there : (g : Forest) (r : Record) → Some r ≡ record_of g → found g ≡ true
there none r e = cc
there (node l s ats ch nx) r e = refl

pub not_there : (g : Forest) → None ≡ record_of g → found g ≡ false
not_there none e = refl
not_there (node l s ats ch nx) e = cc

-- its kind by its record
pub document_is : (g : Forest) → is_document_record (record_of g) ≡ is_document g
document_is none = refl
document_is (node l Document ats ch nx) = refl
document_is (node l (Element n) ats ch nx) = refl
document_is (node l (Text d) ats ch nx) = refl
document_is (node l (Attr v) ats ch nx) = refl

pub text_is : (g : Forest) → is_text_record (record_of g) ≡ is_text_node g
text_is none = refl
text_is (node l Document ats ch nx) = refl
text_is (node l (Element n) ats ch nx) = refl
text_is (node l (Text d) ats ch nx) = refl
text_is (node l (Attr v) ats ch nx) = refl

-- an element, or another node, or none
pub element_there : (g : Forest) → is_element g ≡ true → found g ≡ true
element_there none h = cc
element_there (node l r ats ch nx) h = refl

pub past_element : {now : List Request} (w rest : List Request) (g : Forest) → is_element g ≡ true → now ≡ w ++ rest → now ≡ w ++ (if not (found g) then [] else (if not (is_element g) then [] else rest))
past_element w rest g y h = past w (if not (is_element g) then [] else rest) (ap not (element_there g y)) (past w rest (ap not y) h)

pub stopped_at_element : {now w : List Request} (rest : List Request) (g : Forest) → is_element g ≡ false → now ≡ w → now ≡ w ++ (if not (found g) then [] else (if not (is_element g) then [] else rest))
stopped_at_element {now} {w} rest g y h = elim (found g) as (λ b. now ≡ w ++ (if not b then [] else (if not (is_element g) then [] else rest))) [
  | true ↦ stopped rest (ap not y) h
  | false ↦ ended h
]

-- a text with its data, or another node, or none
pub text_there : (g : Forest) (d : List ℕ) → Some d ≡ text_data (record_of g) → (found g ≡ true) × (is_text_node g ≡ true) × (data_of g ≡ d)
text_there none d e = cc
text_there (node l Document ats ch nx) d e = cc
text_there (node l (Element n) ats ch nx) d e = cc
text_there (node l (Text e) ats ch nx) d h = (refl, refl, sym (some_data d e h))
  where
    some_data : (d e : List ℕ) → Some d ≡ Some e → d ≡ e
    some_data d e h = cc
text_there (node l (Attr v) ats ch nx) d e = cc

pub no_text_there : (g : Forest) → None ≡ text_data (record_of g) → is_text_node g ≡ false
no_text_there none e = refl
no_text_there (node l Document ats ch nx) e = refl
no_text_there (node l (Element n) ats ch nx) e = refl
no_text_there (node l (Text d) ats ch nx) e = cc
no_text_there (node l (Attr v) ats ch nx) e = refl

pub past_text : {now : List Request} (w rest : List Request) (g : Forest) (d : List ℕ) → Some d ≡ text_data (record_of g) → now ≡ w ++ rest → now ≡ w ++ (if not (found g) then [] else (if not (is_text_node g) then [] else rest))
past_text w rest g d e h =
    let y = text_there g d e in
    past w (if not (is_text_node g) then [] else rest) (ap not y.0) (past w rest (ap not y.1) h)

pub stopped_at_text : {now w : List Request} (rest : List Request) (g : Forest) → None ≡ text_data (record_of g) → now ≡ w → now ≡ w ++ (if not (found g) then [] else (if not (is_text_node g) then [] else rest))
stopped_at_text {now} {w} rest g e h = elim (found g) as (λ b. now ≡ w ++ (if not b then [] else (if not (is_text_node g) then [] else rest))) [
  | true ↦ stopped rest (ap not (no_text_there g e)) h
  | false ↦ ended h
]

-- ---- the limit on texts and values

pub fits_limit : (d e : List ℕ) → e ≡ d → length e ≤ most_text_bytes → is_too_long d ≡ false
fits_limit d e h n = let below : length d ≤ most_text_bytes = subst (λ v. length v ≤ most_text_bytes) h n in grind (arith, nat_tests)

pub passes_limit : (d e : List ℕ) → e ≡ d → most_text_bytes < length e → is_too_long d ≡ true
passes_limit d e h n = let above : most_text_bytes < length d = subst (λ v. most_text_bytes < length v) h n in grind (arith, nat_tests)

-- the new data of a text, by what was found
pub long_as : (make : List ℕ → List ℕ) (g : Forest) (d v : List ℕ) (r : Bool) → Some d ≡ text_data (record_of g) → r ≡ is_too_long v → v ≡ make d → r ≡ is_too_long (make (data_of g))
long_as make g d v r e h q = h ∙ ap is_too_long (q ∙ ap make (sym (text_there g d e).2))
