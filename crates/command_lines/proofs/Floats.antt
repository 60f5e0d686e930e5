-- A reply has no number that is a float, so its text is the compact one.
use Rattle.std.proofs.Common.{◌≡◌, ℕ, false, ◌||◌, List, [], ◌∷◌, map, Option, Some, None, refl, ap, ap₂, ◌∙◌, sym}
use Rattle.std.proofs.lemmas.Bool.{or_parts}
use Rattle.serde_json.specs.Data.{Data, no_members}
use Rattle.serde_json.specs.View.{items_of}
use Rattle.serde_json.specs.Written.{has_float, items_have_float, members_have_float}
use Rattle.tree_model.specs.Tree.{Attributes}
use Rattle.tree_model.specs.declared.fragment.Fragment.TheVariants.{Element}
use Rattle.tree_model.specs.declared.refusal.Refusal.{Refusal}
use Rattle.tree_model.specs.declared.refusal.Refusal.TheVariants.{Dom, DocumentExists, TooDeep, TextLimit, LabelLimit}
use Rattle.tree_model.specs.declared.reply.Reply.{Reply}
use Rattle.tree_model.specs.declared.reply.Reply.TheVariants as reply
use Rattle.jsonml_io.specs.Written.{with_members}
use Rattle.jsonml_io.proofs.Values.{no_float, json_of-Element}
use Rattle.command_lines.specs.declared.line_reply.LineAnswer.{LineAnswer}
use Rattle.command_lines.specs.declared.line_reply.LineAnswer.TheVariants as answer
use Rattle.command_lines.specs.ReplyValues.{number_value, commit_value, or_null, attributes_value, refusal_value, reply_value}
use Rattle.command_lines.specs.Replies.{answer_value, order_value}

-- ---- lists and objects

no_float_items : {A : Type 0} (value : A → Data) → ((x : A) → has_float (value x) ≡ false) → (xs : List A) → items_have_float (items_of (map value xs)) ≡ false
no_float_items value h [] = refl
no_float_items value h (x ∷ xs) = ap₂ (λ a b. a || b) (h x) (no_float_items value h xs)

-- the attributes of an element are an object in its value
no_float_attributes : (ats : Attributes) → members_have_float (with_members no_members ats) ≡ false
no_float_attributes [] = refl
no_float_attributes (a ∷ ats) = (or_parts _ _ (sym (ap has_float (json_of-Element [] (a ∷ ats) [])) ∙ no_float (Element [] (a ∷ ats) []))).0

-- ---- replies

no_float_or_null : {A : Type 0} (value : A → Data) → ((x : A) → has_float (value x) ≡ false) → (x : Option A) → has_float (or_null value x) ≡ false
no_float_or_null value h None = refl
no_float_or_null value h (Some x) = h x

no_float_refusal : (why : Refusal) → has_float (refusal_value why) ≡ false
no_float_refusal (Dom code) = refl
no_float_refusal DocumentExists = refl
no_float_refusal TooDeep = refl
no_float_refusal TextLimit = refl
no_float_refusal LabelLimit = refl

pub no_float_reply : (r : Reply) → has_float (reply_value r) ≡ false
no_float_reply reply.Nothing = refl
no_float_reply (reply.Flag b) = refl
no_float_reply (reply.Number n) = refl
no_float_reply (reply.Chars t) = refl
no_float_reply (reply.Place l) = no_float_or_null _ (λ x. refl) l
no_float_reply (reply.Places ls) = no_float_items _ (λ x. refl) ls
no_float_reply (reply.Names ds) = no_float_items _ (λ x. refl) ds
no_float_reply (reply.Attrs ats) = no_float_or_null attributes_value no_float_attributes ats
no_float_reply (reply.Node kind name value) = ap (λ b. b || false) (no_float_or_null _ (λ x. refl) value)
no_float_reply (reply.Tree f) = no_float_or_null _ no_float f
no_float_reply (reply.Replaced new old) = ap (λ b. b || false) (no_float old)
no_float_reply (reply.Found hits) = no_float_items _ (λ x. refl) hits
no_float_reply (reply.Refused why) = no_float_refusal why

pub no_float_answer : (a : LineAnswer) → has_float (answer_value a) ≡ false
no_float_answer (answer.Reply r) = no_float_reply r
no_float_answer (answer.Session why) = refl
no_float_answer (answer.Wait on asks by) = ap (λ b. b || false) (no_float_items number_value (λ x. refl) by)
no_float_answer (answer.Deadlock cycle) = no_float_items number_value (λ x. refl) cycle

pub no_float_order : (commits : List (ℕ × ℕ)) → has_float (order_value commits) ≡ false
no_float_order commits = ap (λ b. b || false) (no_float_items commit_value (λ x. refl) commits)
