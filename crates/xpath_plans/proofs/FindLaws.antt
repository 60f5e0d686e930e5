-- `find` keeps the laws of calls, for every path.
use Rattle.std.proofs.Common.{◌≡◌, ℕ, suc, true, List, [], ◌∷◌, take, refl, sym, ◌∙◌}
use Rattle.dewey_labels.specs.Labels.{Label, IsLabel, is_label}
use Rattle.tree_model.specs.declared.reply.Reply.{Reply}
use Rattle.tree_model.specs.Tree.{Tree}
use Rattle.tree_model.specs.ValidTrees.{IsValidTree}
use Rattle.tree_cells.specs.Covers.{Agree}
use Rattle.tree_cells.specs.Forms.{AreRows}
use Rattle.tree_cells.proofs.Coverage.{written_is_read}
use Rattle.tree_cells.proofs.FormedRows.{rows_formed}
use Rattle.call_contract.specs.Calls.{CallLaws}
use Rattle.path_model.specs.Evaluation.{find_from}
use Rattle.path_model.specs.Finds.{find, found_by, found_at}
use Rattle.path_model.specs.Paths.{Path}
use Rattle.path_model.specs.Positions.{Position}
use Rattle.path_model.proofs.PathLaws.{find_answers}
use Rattle.xpath_plans.specs.Finds.{Find, find_meaning, find_requests, IsValidFind}
use Rattle.xpath_plans.proofs.LabelLists.{HaveLabels, AtLabels, labelled_then}
use Rattle.xpath_plans.proofs.PathLabels.{find_labelled}
use Rattle.xpath_plans.proofs.ProgramLaws.{rows_of, next_of, answer_of}

abbrev Any : Reply → Type 0
Any r = Unit {0}

find_at_labels : (l : Label) (p : Path) → is_label l ≡ true → AtLabels Any (find l p)
find_at_labels l p i = (i, λ s j. by s j)
  where
    by : (s : List Position) → HaveLabels s → AtLabels Any (found_by p s)
    by [] j = tt
    by (n ∷ ns) j = labelled_then HaveLabels Any (find_from p.is_absolute p.steps n) _ (find_labelled p.is_absolute p.steps n j.0) (λ found k. tt)

pub find_rows : (l : Label) (p : Path) (t : Tree) → IsLabel l → IsValidTree t → AreRows (find_requests l p t)
find_rows l p t i w = rows_of Any t w (find l p) (find_at_labels l p i.0)

pub find_reply : (l : Label) (p : Path) (t u : Tree) → IsLabel l → IsValidTree t → IsValidTree u → Agree (find_requests l p t) t u → found_at l p t ≡ found_at l p u
find_reply l p t u i w v agree = sym (find_answers t l p w) ∙ answer_of Any t u w v (find l p) (find_at_labels l p i.0) agree ∙ find_answers u l p v

pub find_next : (l : Label) (p : Path) (t u : Tree) (k : ℕ) → IsLabel l → IsValidTree t → IsValidTree u → Agree (take k (find_requests l p t)) t u
    → take (suc k) (find_requests l p t) ≡ take (suc k) (find_requests l p u)
find_next l p t u k i w v agree = next_of Any t u w v (find l p) (find_at_labels l p i.0) k agree

pub find_laws : CallLaws Find IsValidFind find_meaning
find_laws = record {
  form = λ f t i w. rows_formed (find_requests f.at f.path t) (find_rows f.at f.path t i w);
  same_reply = λ f t u i w v agree. find_reply f.at f.path t u i w v agree;
  same_written = λ f t u i w v agree x on. agree x (written_is_read (find_requests f.at f.path t) x on);
  keeps_rest = λ f t i w x off. refl;
  same_next = λ f t u k i w v agree. find_next f.at f.path t u k i w v agree;
  keeps_valid = λ f t i w. w;
  refused_keeps = λ f t i w h. refl;
}
