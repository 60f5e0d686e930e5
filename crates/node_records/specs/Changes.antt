-- The bytes of changes (docs/FILE_FORMAT.md, "Changes").
use Rattle.std.specs.Prelude.{◌≡◌, ℕ, zero, suc, ◌+◌, ◌^◌, ◌<◌, nat_lt, ◌==◌, if◌then◌else◌, List, [], ◌∷◌, ◌++◌, length, take, drop, Option, Some, None}
use Rattle.std.specs.List.{flat_map, AllByRecursion}
use Rattle.byteorder.specs.Endian.{big_bytes}
use Rattle.tree_model.specs.declared.change.Change.{Change}
use Rattle.tree_model.specs.declared.key.Key.{Key}
use Rattle.tree_model.specs.declared.record.Record.{Record}
use Rattle.node_records.specs.Reads.{◌>>=◌, number_in}
use Rattle.node_records.specs.Keys.{key_bytes, key_in, IsWritable}
use Rattle.node_records.specs.Records.{record_bytes, record_of}
use Rattle.tree_model.specs.Records.{HasText}

-- the length of a record in four bytes, then the record
abbrev pub sized_record : Record → List ℕ
sized_record r = big_bytes 4 (length (record_bytes r)) ++ record_bytes r

-- a key that gets a record, or one that is deleted
abbrev pub change_at : Key → Option Record → Change
change_at k r = record { key = k; now = r }

-- 01, the key and the record for a put; 02 and the key for a delete
abbrev pub bytes_of : Key → Option Record → List ℕ
bytes_of k (Some r) = 1 ∷ (key_bytes k ++ sized_record r)
bytes_of k None = 2 ∷ key_bytes k

-- the bytes of a change
abbrev pub change_bytes : Change → List ℕ
change_bytes c = bytes_of c.key c.now

-- the record at the start, its length before it
abbrev pub sized_record_in : List ℕ → Option (Record × ℕ)
sized_record_in bytes =
    number_in 4 bytes >>= λ n.
    if nat_lt (length (drop 4 bytes)) n then None else
    (record_of (take n (drop 4 bytes)) >>= λ r. Some (r, 4 + n))

-- the put whose 01 was read
abbrev pub put_in : List ℕ → Option (Change × ℕ)
put_in bytes = key_in bytes >>= λ k. sized_record_in (drop k.1 bytes) >>= λ r. Some (change_at k.0 (Some r.0), 1 + k.1 + r.1)

-- the delete whose 02 was read
abbrev pub delete_in : List ℕ → Option (Change × ℕ)
delete_in bytes = key_in bytes >>= λ k. Some (change_at k.0 None, 1 + k.1)

-- the change at the start
abbrev pub change_in : List ℕ → Option (Change × ℕ)
change_in [] = None
change_in (b ∷ bs) = if b == 1 then put_in bs else if b == 2 then delete_in bs else None

-- none, or a record that is read again behind its length
abbrev pub Fits : Option Record → Type 0
Fits None = Unit {0}
Fits (Some r) = HasText r × (length (record_bytes r) < 2 ^ 32)

-- a change that its bytes tell
pub record IsWritableChange (c : Change) : Type 0 where
  pub key : IsWritable c.key
  pub fits : Fits c.now

-- ---- a body: changes one after another, and nothing behind them

-- the bytes of each, in order
abbrev pub changes_bytes : List Change → List ℕ
changes_bytes cs = flat_map change_bytes cs

-- changes that their bytes tell, and these bytes
abbrev pub AreWrittenAs : List Change → List ℕ → Type 0
AreWrittenAs cs bytes = (bytes ≡ changes_bytes cs) × AllByRecursion IsWritableChange cs

-- at most n changes that are all of the bytes
abbrev pub changes_from : ℕ → List ℕ → Option (List Change)
changes_from n [] = Some []
changes_from zero (b ∷ bs) = None
changes_from (suc n) (b ∷ bs) = change_in (b ∷ bs) >>= λ c. changes_from n (drop c.1 (b ∷ bs)) >>= λ cs. Some (c.0 ∷ cs)

-- the changes that all of the bytes are; each takes a byte at least
abbrev pub changes_of : List ℕ → Option (List Change)
changes_of bytes = changes_from (length bytes) bytes
