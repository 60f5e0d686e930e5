-- Calls on the store's tree by their kinds, and what they mean.
use Rattle.std.specs.Prelude.{◌≡◌, Bool, true, List, Option, Some, IsTrue}
use Rattle.dewey_labels.specs.Labels.{Label, IsLabel}
use Rattle.lock_resources.specs.declared.request.Request.{Request}
use Rattle.tree_model.specs.DomCalls.{dom}
use Rattle.tree_model.specs.Fragments.{Fragments, no_more, IsValid}
use Rattle.tree_model.specs.Tree.{Tree}
use Rattle.tree_model.specs.declared.reply.Reply.{Reply}
use Rattle.tree_changes.specs.ValidCalls.{IsValidCall, fragment_brought}
use Rattle.lock_plans.specs.DomPlans.{requests}
use Rattle.path_model.specs.declared.path.XPath.{XPath}
use Rattle.path_model.specs.Finds.{found_at}
use Rattle.path_model.specs.Lawful.{is_lawful}
use Rattle.path_model.specs.PlainPaths.{plain_path}
use Rattle.xpath_plans.specs.Finds.{find_requests}
use Rattle.call_contract.specs.Calls.{CallMeaning}
use Rattle.command_lines.specs.declared.command.StoreCall.{StoreCall}
use Rattle.session_driver.specs.Asking.{BookCall}
use Rattle.command_lines.specs.declared.command.StoreCall.TheVariants.{Dom, Find}

-- ---- what a call means

-- what it asks for on a tree
abbrev pub store_requests : StoreCall → Tree → List Request
store_requests (Dom call) t = requests call t
store_requests (Find at path) t = find_requests at (plain_path path) t

-- what it is answered
abbrev pub store_reply : StoreCall → Tree → Reply
store_reply (Dom call) t = (dom call t).0
store_reply (Find at path) t = found_at at (plain_path path) t

-- the tree after it
abbrev pub store_after : StoreCall → Tree → Tree
store_after (Dom call) t = (dom call t).1
store_after (Find at path) t = t

abbrev pub store_meaning : CallMeaning BookCall
store_meaning = record { requests = store_requests; reply = store_reply; after = store_after }

-- a find is answered by the time that all it asks for is known, so its path is evaluated once
abbrev pub KnowsFind : BookCall → Tree → Option Reply → Type 0
KnowsFind (Dom call) t known = Unit {0}
KnowsFind (Find at path) t known = known ≡ Some (found_at at (plain_path path) t)

-- ---- valid calls

-- a find's path is lawful
pub record IsLawfulFind (at : Label) (path : XPath) : Type 0 where
  pub label : IsLabel at
  pub lawful : IsTrue (is_lawful path)

abbrev pub IsValidStoreCall : BookCall → Type 0
IsValidStoreCall (Dom call) = IsValidCall call
IsValidStoreCall (Find at path) = IsLawfulFind at path

-- ---- what a call keeps of itself

-- the fragment that it brings
abbrev pub fragment_in : StoreCall → Fragments
fragment_in (Dom call) = fragment_brought call
fragment_in (Find at path) = no_more

-- its path is lawful, if it has one
abbrev pub has_lawful_path : StoreCall → Bool
has_lawful_path (Dom call) = true
has_lawful_path (Find at path) = is_lawful path

-- so it is valid, since labels are labels and texts are UTF-8 by their types
abbrev pub KeepsItself : StoreCall → Type 0
KeepsItself call = IsValid (fragment_in call) × IsTrue (has_lawful_path call)
