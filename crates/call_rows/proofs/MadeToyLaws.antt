-- The toys that are made of toys keep the laws, by the laws on calls of calls alone.
use Rattle.std.proofs.Common.{◌≡◌, suc, Bool, true, false, if◌then◌else◌, List, [], ◌++◌, take, refl, ap}
use Rattle.dewey_labels.specs.Labels.{Label, IsLabel}
use Rattle.lock_modes.specs.declared.ask.Ask.TheVariants as ask
use Rattle.lock_modes.specs.declared.mode.Mode.TheVariants.{SR}
use Rattle.lock_resources.specs.declared.resource.Resource.TheVariants.{Node}
use Rattle.lock_resources.specs.declared.request.Request.{Request}
use Rattle.lock_resources.specs.Intentions.{with_intentions}
use Rattle.tree_model.specs.Outcomes.{is_refused}
use Rattle.tree_model.specs.Tree.{Tree}
use Rattle.tree_cells.specs.Forms.{HasForm}
use Rattle.tree_cells.proofs.Coverage.{covered_left, covered_right}
use Rattle.tree_cells.proofs.FormedRows.{row_formed, formed_append}
use Rattle.call_contract.specs.Calls.{CallMeaning, CallLaws}
use Rattle.call_contract.specs.CallsOfCalls.{in_a_row}
use Rattle.call_contract.proofs.CallsOfCalls.{replaced_laws, followed_laws, in_a_row_laws}
use Rattle.call_rows.specs.Toys.{look, clear}
use Rattle.call_rows.specs.MadeToys.{widened, look_wide, all_below, look_and_hold, two_labels, AreLabels, look_then_clear, clear_both}
use Rattle.call_rows.proofs.LookLaws.{look_laws}
use Rattle.call_rows.proofs.ClearLaws.{clear_laws}
use Rattle.call_rows.proofs.WiderLaws.{is_replacement}

pub look_wide_laws : CallLaws Label IsLabel look_wide
look_wide_laws = replaced_laws IsLabel look look_laws (λ l. widened) (λ l v. is_replacement)

pub look_and_hold_laws : CallLaws Label IsLabel look_and_hold
look_and_hold_laws = followed_laws IsLabel look look_laws all_below (λ l t v w. by l v (is_refused (look.reply l t)))
  where
    by : (l : Label) → IsLabel l → (b : Bool) → HasForm (if b then [] else with_intentions (Node l) (ask.Node SR))
    by l v true = tt
    by l v false = row_formed (Node l) (ask.Node SR) refl v.0

-- a first call that asks for the same on all trees, and then `clear`
in_front_of_clear : (m : CallMeaning Label) → CallLaws Label IsLabel m → ((l : Label) (t u : Tree) → m.requests l t ≡ m.requests l u)
    → CallLaws (Label × Label) AreLabels (in_a_row (two_labels m.requests clear.requests) m clear)
in_front_of_clear m laws same =
    in_a_row_laws AreLabels IsLabel IsLabel m clear (two_labels m.requests clear.requests) laws clear_laws
    (λ c v. record { first = v.0; second = λ t w on. v.1 })
    (record {
      form = λ c t v w. formed_append (m.requests c.0 t) (clear.requests c.1 t) (laws.form c.0 t v.0 w) (clear_laws.form c.1 t v.1 w);
      same_next = λ c t u k v w x agree. ap (λ (gs : List Request). take (suc k) (gs ++ clear.requests c.1 t)) (same c.0 t u);
    })
    (record {
      first = λ c t v w. covered_left (m.requests c.0 t) (clear.requests c.1 t);
      second = λ c t v w on. covered_right (m.requests c.0 t) (clear.requests c.1 t);
      same_second = λ c t u v w x on agree. refl;
    })

pub look_then_clear_laws : CallLaws (Label × Label) AreLabels look_then_clear
look_then_clear_laws = in_front_of_clear look look_laws (λ l t u. refl)

pub clear_both_laws : CallLaws (Label × Label) AreLabels clear_both
clear_both_laws = in_front_of_clear clear clear_laws (λ l t u. refl)
