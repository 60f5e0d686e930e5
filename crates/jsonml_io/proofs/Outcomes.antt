-- How what was read, or its refusal, is put together.
use Rattle.std.proofs.Common.{◌≡◌, ℕ, ◌+◌, List, [], ◌∷◌, ◌++◌, Ok, Err, Result, refl, sym, ap, ◌∙◌, append_assoc}
use Rattle.jsonml_io.specs.declared.fragment_error.FragmentError.{FragmentError}
use Rattle.serde_json.specs.Data.{Data, Items, item, Members, member}
use Rattle.tree_model.specs.declared.fragment.Fragment.{Fragment}
use Rattle.tree_model.specs.Names.{Name}
use Rattle.tree_model.specs.Tree.{Attributes}
use Rattle.jsonml_io.specs.Pointers.{step_to_member, step_to_item}
use Rattle.jsonml_io.specs.JsonMl.{◌>>=◌, behind, below, attribute, attributes, fragment_at, children}

-- both parts were read
pub bind_ok : {A B : Type 0} (r : Result A FragmentError) (f : A → Result B FragmentError) (y : B) → (r >>= f) ≡ Ok y → (x : A) × (r ≡ Ok x) × (f x ≡ Ok y)
bind_ok (Ok x) f y e = (x, refl, e)
bind_ok (Err w) f y e = cc

pub ok_same : {A : Type 0} (x y : A) → ◌≡◌ {A = Result A FragmentError} (Ok x) (Ok y) → x ≡ y
ok_same x y e = cc

-- one more item that was read
pub behind_one : {A : Type 0} (front : List A) (x : A) (read : Result (List A) FragmentError)
    → behind front (read >>= λ others. Ok (x ∷ others)) ≡ behind (front ++ x ∷ []) read
behind_one front x (Ok others) = ap Ok (sym (append_assoc front (x ∷ []) others))
behind_one front x (Err e) = refl

-- one more attribute
pub attribute_more : (name : Name) (value : Data) (ms : Members) (text : List ℕ) (front : Attributes) → below (step_to_member name) (attribute name value) ≡ Ok text
    → behind front (attributes (member name value ms)) ≡ behind (front ++ (name, text) ∷ []) (attributes ms)
attribute_more name value ms text front read =
    ap (λ r. behind front (r >>= λ t. attributes ms >>= λ others. Ok ((name, t) ∷ others))) read ∙ behind_one front (name, text) (attributes ms)

-- one more child
pub child_more : (left index : ℕ) (value : Data) (items : Items) (child : Fragment) (front : List Fragment) → below (step_to_item index) (fragment_at left value) ≡ Ok child
    → behind front (children left index (item value items)) ≡ behind (front ++ child ∷ []) (children left (index + 1) items)
child_more left index value items child front read =
    ap (λ r. behind front (r >>= λ x. children left (index + 1) items >>= λ others. Ok (x ∷ others))) read ∙ behind_one front child (children left (index + 1) items)
