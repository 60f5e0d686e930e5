-- The wrong books aren't legal.
use Rattle.std.proofs.Common.{◌≡◌, ℕ, List, [], ◌∷◌, arith}
use Rattle.call_contract.specs.declared.events.EventAnswer.TheVariants as said
use Rattle.lock_modes.specs.declared.ask.Ask.{Ask}
use Rattle.lock_resources.specs.declared.resource.Resource.{Resource}
use Rattle.tree_model.specs.declared.reply.Reply.{Reply}
use Rattle.call_rows.specs.Rows.{IsBookOf, empty_store, store_of_one, answered, waits, deadlock}
use Rattle.call_rows.specs.Wrong.{answered_in_conflict, waits_for_nobody, holders_left_out, deadlock_without_cycle, cycle_of_another, commit_out_of_order, commit_of_a_waiting_one, fault_told_twice}

answered_is_no_wait : {r : Reply} {q : Resource} {a : Ask} {hs : List ℕ} → answered r ≡ waits q a hs → ⊥
answered_is_no_wait e = cc

wait_is_no_answer : {r : Reply} {q : Resource} {a : Ask} {hs : List ℕ} → waits q a hs ≡ answered r → ⊥
wait_is_no_answer e = cc

deadlock_is_no_wait : {cycle : List ℕ} {q : Resource} {a : Ask} {hs : List ℕ} → deadlock cycle ≡ waits q a hs → ⊥
deadlock_is_no_wait e = cc

same_holders : {q p : Resource} {a b : Ask} {hs ks : List ℕ} → waits q a hs ≡ waits p b ks → hs ≡ ks
same_holders e = cc

same_cycle : {xs ys : List ℕ} → deadlock xs ≡ deadlock ys → xs ≡ ys
same_cycle e = cc

same_number : {k n : ℕ} → said.Number k ≡ said.Number n → k ≡ n
same_number e = cc

some_are_none : {x : ℕ} {xs : List ℕ} → [] ≡ x ∷ xs → ⊥
some_are_none e = cc

same_heads : {x y : ℕ} {xs ys : List ℕ} → x ∷ xs ≡ y ∷ ys → x ≡ y
same_heads e = cc

pub not_answered_in_conflict : IsBookOf empty_store answered_in_conflict → ⊥
not_answered_in_conflict is = answered_is_no_wait is.run.1.1.1.0

pub not_waits_for_nobody : IsBookOf empty_store waits_for_nobody → ⊥
not_waits_for_nobody is = wait_is_no_answer is.run.1.1.0

pub not_holders_left_out : IsBookOf empty_store holders_left_out → ⊥
not_holders_left_out is = some_are_none (same_holders is.run.1.1.1.0)

pub not_deadlock_without_cycle : IsBookOf empty_store deadlock_without_cycle → ⊥
not_deadlock_without_cycle is = deadlock_is_no_wait is.run.1.1.1.0

pub not_cycle_of_another : IsBookOf store_of_one cycle_of_another → ⊥
not_cycle_of_another is = let same = same_heads (same_cycle is.run.1.1.1.1.1.0) in omega (arith, same)

pub not_commit_out_of_order : IsBookOf empty_store commit_out_of_order → ⊥
not_commit_out_of_order is = let same = same_number is.run.1.1.0 in omega (arith, same)

pub not_commit_of_a_waiting_one : IsBookOf empty_store commit_of_a_waiting_one → ⊥
not_commit_of_a_waiting_one is = is.run.1.1.1.1.0

pub not_fault_told_twice : IsBookOf empty_store fault_told_twice → ⊥
not_fault_told_twice is = let less = is.faults.1.1.1.0 in omega (arith, less)
