-- What DOM calls mean: what each asks for, what it is answered, and the tree after it (docs/PROFILE.md, "Calls" and "Requests of calls").
use Rattle.tree_model.specs.declared.dom_call.DomCall.{DomCall}
use Rattle.tree_model.specs.DomCalls.{dom}
use Rattle.call_contract.specs.Calls.{CallMeaning}
use Rattle.lock_plans.specs.DomPlans.{requests}

-- the meaning of every call, by its definition and its steps
abbrev pub dom_meaning : CallMeaning DomCall
dom_meaning = record { requests = requests; reply = λ c t. (dom c t).0; after = λ c t. (dom c t).1 }
