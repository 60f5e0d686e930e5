-- On every valid tree the program of a path answers what the path means, and so does that of the call `find`.
use Rattle.std.proofs.Common.{◌≡◌, Bool, true, false, cond, not, List, [], ◌∷◌, refl, sym, ap, ◌∙◌, true≢false}
use Rattle.std.specs.List.{filter}
use Rattle.dewey_labels.specs.Labels.{Label}
use Rattle.tree_model.specs.declared.record.Record.{Record}
use Rattle.tree_model.specs.declared.refusal.Refusal.TheVariants.{Dom}
use Rattle.tree_model.specs.declared.reply.Reply.TheVariants.{Refused}
use Rattle.tree_model.specs.Outcomes.{is_refused, not_found_err}
use Rattle.tree_model.specs.Tree.{Attributes, Forest, none, node, Tree, at, found, head_label}
use Rattle.tree_model.specs.ValidTrees.{IsValidTree}
use Rattle.tree_model.proofs.Found.{some_is, at_label}
use Rattle.path_model.specs.Evaluation.{find_from, value}
use Rattle.path_model.specs.Finds.{hits, found_below, found_at, found_by, find}
use Rattle.path_model.specs.Functions.{Context}
use Rattle.path_model.specs.Meaning.{begun, found_from, kept, reached, union, value_in}
use Rattle.path_model.specs.Axes.{on_axis}
use Rattle.path_model.specs.Paths.{Expr, Path, Steps, no_steps, step}
use Rattle.path_model.specs.Positions.{Position, a_node, positions}
use Rattle.path_model.specs.Programs.{Look, at_node, head_seen, ends, answer, looked}
use Rattle.path_model.specs.Sets.{At, AllAt, Precedes, Rises}
use Rattle.path_model.proofs.AnswerLaws.{begun_at, find_is, reached_at, value_is}
use Rattle.path_model.proofs.AxisLooks.{looks_true, node_at}
use Rattle.path_model.proofs.Members.{all_filtered}
use Rattle.path_model.proofs.OrderLaws.{positions_rise}
use Rattle.path_model.proofs.ProgramAnswers.{answer-and_then}

pub path_found : (t : Tree) (is_absolute : Bool) (ss : Steps) (n : Position) → IsValidTree t → At t n → answer t (find_from is_absolute ss n) ≡ found_from t is_absolute ss n
path_found t b ss n valid h = find_is t valid (looks_true t valid) b ss n h

pub expression_value : (t : Tree) (e : Expr) (c : Context) → IsValidTree t → At t c.at → answer t (value e c) ≡ value_in t e c
expression_value t e c valid h = value_is t valid (looks_true t valid) e c h

-- ---- the set in document order

rises_filtered : (q : Position → Bool) (ps : List Position) → Rises ps → Rises (filter q ps)
rises_filtered q [] h = tt
rises_filtered q (p ∷ ps) h = elim (q p) as (λ b. Rises (cond b (p ∷ filter q ps) (filter q ps))) [
  | true ↦ (all_filtered (Precedes p) q ps h.0, rises_filtered q ps h.1)
  | false ↦ rises_filtered q ps h.1
]

begun_rises : (t : Tree) (b : Bool) (n : Position) → IsValidTree t → Rises (begun t b n)
begun_rises t true n valid = rises_filtered _ (positions t) (positions_rise t valid)
begun_rises t false n valid = (tt, tt)

reached_rises : (t : Tree) (ss : Steps) (ns : List Position) → IsValidTree t → Rises ns → Rises (reached t ss ns)
reached_rises t no_steps ns valid h = h
reached_rises t (step a test es ss) ns valid h = reached_rises t ss (union t (λ n. kept t es (on_axis t a test n)) ns) valid (rises_filtered _ (positions t) (positions_rise t valid))

pub path_rises : (t : Tree) (is_absolute : Bool) (ss : Steps) (n : Position) → IsValidTree t → Rises (found_from t is_absolute ss n)
path_rises t b ss n valid = reached_rises t ss (begun t b n) valid (begun_rises t b n valid)

pub path_there : (t : Tree) (is_absolute : Bool) (ss : Steps) (n : Position) → At t n → AllAt t (found_from t is_absolute ss n)
path_there t b ss n h = reached_at t ss (begun t b n) (begun_at t b n h)

-- ---- the call

at_is : (l m : Label) (r : Record) (ats : Attributes) (ch nx : Forest) (t : Tree) → IsValidTree t → at l t.documents ≡ node m r ats ch nx → At t (a_node m r)
at_is l m r ats ch nx t valid e =
    let is : m ≡ l = some_is m l (sym (ap head_label e) ∙ at_label l t.documents (ap found e)) in
    node_at t valid m r (record { attributes = ats; children = ch; behind = nx; is = ap (λ k. at k t.documents) is ∙ e })

pub find_answers : (t : Tree) (l : Label) (p : Path) → IsValidTree t → answer t (find l p) ≡ found_at l p t
find_answers t l p valid = by (at l t.documents) refl
  where
    by : (g : Forest) → at l t.documents ≡ g → answer t (found_by p (head_seen g)) ≡ found_below p t g
    by none e = refl
    by (node m r ats ch nx) e =
        answer-and_then t (find_from p.is_absolute p.steps (a_node m r)) (λ ms. ends (hits ms))
        ∙ ap hits (path_found t p.is_absolute p.steps (a_node m r) valid (at_is l m r ats ch nx t valid e))

-- it is refused where no node has the label, for this cause alone, and then nothing else was looked at
pub find_refused : (t : Tree) (l : Label) (p : Path) → is_refused (answer t (find l p)) ≡ not (found (at l t.documents))
find_refused t l p = by (at l t.documents)
  where
    by : (g : Forest) → is_refused (answer t (found_by p (head_seen g))) ≡ not (found g)
    by none = refl
    by (node m r ats ch nx) = ap is_refused (answer-and_then t (find_from p.is_absolute p.steps (a_node m r)) (λ ms. ends (hits ms)))

pub find_refused_as : (t : Tree) (l : Label) (p : Path) → found (at l t.documents) ≡ false → answer t (find l p) ≡ Refused (Dom not_found_err)
find_refused_as t l p y = by (at l t.documents) y
  where
    by : (g : Forest) → found g ≡ false → answer t (found_by p (head_seen g)) ≡ Refused (Dom not_found_err)
    by none e = refl
    by (node m r ats ch nx) e = absurd (true≢false e)

pub find_looks_once : (t : Tree) (l : Label) (p : Path) → found (at l t.documents) ≡ false → looked t (find l p) ≡ at_node l ∷ []
find_looks_once t l p y = by (at l t.documents) y
  where
    by : (g : Forest) → found g ≡ false → ◌≡◌ {A = List Look} (at_node l ∷ looked t (found_by p (head_seen g))) (at_node l ∷ [])
    by none e = refl
    by (node m r ats ch nx) e = absurd (true≢false e)
