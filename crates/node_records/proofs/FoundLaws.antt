-- What an exact read says of the grammar: what was found stands at the start, and where nothing was found nothing does.
use Rattle.std.proofs.Common.{◌≡◌, ℕ, List, ◌++◌, length, Option, Some, None, sym, ap, ◌∙◌}
use Rattle.std.proofs.lemmas.Option.{none-some}
use Rattle.std.specs.Prelude.{IfSome, IfNone}
use Rattle.tree_model.specs.declared.change.Change.{Change}
use Rattle.tree_model.specs.declared.key.Key.{Key}
use Rattle.tree_model.specs.declared.record.Record.{Record}
use Rattle.node_records.specs.Reads.{Takes}
use Rattle.outside_traits.specs.Bytes.{IsBytes}
use Rattle.node_records.specs.Keys.{key_bytes, key_in, IsWritable}
use Rattle.node_records.specs.Records.{record_bytes, record_of}
use Rattle.tree_model.specs.Records.{HasText}
use Rattle.node_records.specs.Changes.{change_bytes, change_in, IsWritableChange}
use Rattle.node_records.proofs.KeyLaws.{key_again, key_written}
use Rattle.node_records.proofs.RecordLaws.{record_again, record_written}
use Rattle.node_records.proofs.ChangeLaws.{change_again, change_written}

pub key_found : (bytes : List ℕ) → IsBytes bytes → (found : Option (Key × ℕ)) → found ≡ key_in bytes → IfSome found (λ k. Takes (key_bytes k.0) k.1 bytes × IsWritable k.0)
key_found bytes fits None e = tt
key_found bytes fits (Some y) e = key_written bytes y fits (sym e)

pub key_none : (bytes : List ℕ) (found : Option (Key × ℕ)) → found ≡ key_in bytes → IfNone found ((k : Key) (rest : List ℕ) → IsWritable k → bytes ≡ key_bytes k ++ rest → ⊥)
key_none bytes None e = λ k rest w h. none-some (k, length (key_bytes k)) (e ∙ ap key_in h ∙ key_again k rest w)
key_none bytes (Some y) e = tt

pub record_found : (bytes : List ℕ) (found : Option Record) → found ≡ record_of bytes → IfSome found (λ r. (bytes ≡ record_bytes r) × HasText r)
record_found bytes None e = tt
record_found bytes (Some r) e = record_written bytes r (sym e)

pub record_none : (bytes : List ℕ) (found : Option Record) → found ≡ record_of bytes → IfNone found ((r : Record) → HasText r → bytes ≡ record_bytes r → ⊥)
record_none bytes None e = λ r w h. none-some r (e ∙ ap record_of h ∙ record_again r w)
record_none bytes (Some r) e = tt

pub change_found : (bytes : List ℕ) → IsBytes bytes → (found : Option (Change × ℕ)) → found ≡ change_in bytes → IfSome found (λ c. Takes (change_bytes c.0) c.1 bytes × IsWritableChange c.0)
change_found bytes fits None e = tt
change_found bytes fits (Some y) e = change_written bytes y fits (sym e)

pub change_none : (bytes : List ℕ) (found : Option (Change × ℕ)) → found ≡ change_in bytes → IfNone found ((c : Change) (rest : List ℕ) → IsWritableChange c → bytes ≡ change_bytes c ++ rest → ⊥)
change_none bytes None e = λ c rest w h. none-some (c, length (change_bytes c)) (e ∙ ap change_in h ∙ change_again c rest w)
change_none bytes (Some y) e = tt
