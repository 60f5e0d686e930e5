-- Keys that are taken out of an object's members, one after the other.
use Rattle.std.specs.Prelude.{◌≡◌, ◌≢◌, ℕ, List, Option, Result, Ok, Err, if◌then◌else◌}
use Rattle.std.specs.Str.{bytes_eq}
use Rattle.serde_json.specs.Data.{Data, Members, no_members, member}
use Rattle.serde_json.specs.Find.{get_member}
use Rattle.command_lines.specs.declared.bad_line.BadLine.{BadLine}
use Rattle.command_lines.specs.declared.bad_line.BadLine.TheVariants.{NoMemory}
use Rattle.command_lines.specs.declared.key.Key.{Key}
use Rattle.command_lines.specs.KeyValues.{key_name}
use Rattle.command_lines.specs.Reasons.{◌>>=◌}

-- the members but the one with this name
abbrev pub without : List ℕ → Members → Members
without name no_members = no_members
without name (member k v ms) = if bytes_eq name k then ms else member k v (without name ms)

-- what is read of members, and the members that are left
abbrev pub Taking : Type 0 → Type 0
Taking A = Members → Result (A × Members) BadLine

-- a key's value by its kind, which is tried whether the key is there or not
abbrev pub take_key : {A : Type 0} → (Key → Option Data → Result A BadLine) → Key → Taking A
take_key kind key ms = kind key (get_member (key_name key) ms) >>= λ x. Ok (x, without (key_name key) ms)

-- what comes next, of the members that are left
infixl 10 ◌|>◌
abbrev pub ◌|>◌ : {A B : Type 0} → Taking A → (A → Taking B) → Taking B
(first |> next) ms = first ms >>= λ p. next p.0 p.1

-- no further key
abbrev pub done : {A : Type 0} → A → Taking A
done x ms = Ok (x, ms)

-- a call answered what is taken of the members, leaving those that are left, or the reason, unless memory was wanting
abbrev pub Takes : {A : Type 0} → Taking A → Members → Members → Result A BadLine → Type 0
Takes taking old new (Ok x) = taking old ≡ Ok (x, new)
Takes taking old new (Err e) = e ≢ NoMemory → taking old ≡ Err e
