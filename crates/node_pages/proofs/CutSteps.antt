-- The steps of a cut: an entry, a chunk, a record.
use Rattle.std.proofs.Common.{◌≡◌, ◌≤◌, ◌<◌, ℕ, suc, ◌+◌, ◌*◌, ◌-◌, Bool, true, false, cond, List, [], ◌∷◌, ◌++◌, length, take, drop, Option, Some, None, refl, sym, ap, subst, ◌∙◌, arith}
use Rattle.std.proofs.lemmas.Bool.{le-leb, lt-leb}
use Rattle.std.specs.List.{AllByRecursion}
use Rattle.tree_model.specs.declared.key.Key.{Key}
use Rattle.tree_model.specs.declared.record.Record.{Record}
use Rattle.tree_model.specs.Entries.{Entries}
use Rattle.node_seq.specs.Reads.{IsValidEntry}
use Rattle.node_seq.specs.WalkSteps.{from_entry}
use Rattle.node_records.specs.declared.entries.Entry.{Entry}
use Rattle.node_records.specs.Entries.{entry_at}
use Rattle.node_pages.specs.declared.cut.Cut.TheVariants.{Pages, TooMany}
use Rattle.node_pages.specs.Chunks.{chunks_from, chunks_of, all_chunks}
use Rattle.node_pages.specs.Cuts.{most_pages, data_of, cut_of}
use Rattle.node_pages.specs.Cutting.{Cutting, with_entry, with_entries, header_now, nothing_cut, pages_now, finished, IsStored}
use Rattle.node_pages.specs.Filling.{all_pages}
use Rattle.node_pages.specs.PageZero.{count_of, page_zero}
use Rattle.node_pages.proofs.ChunkLaws.{all_short, last_chunk, next_chunk}
use Rattle.node_pages.proofs.CutLaws.{cut_is, entries_append}

-- a chunk that isn't the last
pub step_chunk : (c d old : Cutting) (all : ℕ) (k : Key) (chunk : ℕ) (rest : List ℕ) → 1_024 < length rest → 1_024 * chunk + length rest ≡ all
    → d ≡ with_entry c (entry_at k chunk false (take 1_024 rest)) → with_entries c (chunks_from (all - chunk) k chunk rest) ≡ old
    → with_entries d (chunks_from (all - (chunk + 1)) k (chunk + 1) (drop 1_024 rest)) ≡ old
step_chunk c d old all k chunk rest many sum put so_far =
    let fewer : all - chunk ≡ suc (all - (chunk + 1)) = omega (arith, many, sum) in
    ap (λ (x : Cutting). with_entries x (chunks_from (all - (chunk + 1)) k (chunk + 1) (drop 1_024 rest))) put
    ∙ ap (λ (es : List Entry). with_entries c es) (sym (next_chunk (all - (chunk + 1)) (all - chunk) k chunk rest fewer many))
    ∙ so_far

-- the last one
pub end_chunk : (c d old : Cutting) (left : ℕ) (k : Key) (chunk : ℕ) (rest : List ℕ) → length rest ≤ 1_024
    → d ≡ with_entry c (entry_at k chunk true rest) → with_entries c (chunks_from left k chunk rest) ≡ old → d ≡ old
end_chunk c d old left k chunk rest few put so_far = put ∙ sym (ap (λ (es : List Entry). with_entries c es) (last_chunk left k chunk rest few)) ∙ so_far

-- what is left of a walk is stored, behind an entry too
pub rest_stored : (e : Key × Record) (es rest : Entries) → es ≡ e ∷ rest → AllByRecursion IsStored es → AllByRecursion IsStored rest
rest_stored e es rest is stored = (subst (AllByRecursion IsStored) is stored).1

-- a record more of a walk
pub step_record : (c d all : Cutting) (e : Key × Record) (es rest : Entries) → es ≡ e ∷ rest → AllByRecursion IsStored es
    → (IsValidEntry e → d ≡ with_entries c (chunks_of e)) → with_entries c (all_chunks es) ≡ all → with_entries d (all_chunks rest) ≡ all
step_record c d all e es rest is stored put so_far =
    let first = (subst (AllByRecursion IsStored) is stored).0 in
    ap (λ (x : Cutting). with_entries x (all_chunks rest)) (put first.1)
    ∙ sym (entries_append c (chunks_of e) (all_chunks rest))
    ∙ ap (λ (l : Entries). with_entries c (all_chunks l)) (sym is)
    ∙ so_far

-- all pages, one part after another
pub pages_made : (number : ℕ) (c : Cutting) {v0 v1 v2 v3 : List (List ℕ)} {one : List ℕ} {front back : List (List ℕ)} → v0 ≡ [] → v1 ≡ v0 ++ one ∷ [] → v2 ≡ v1 ++ front → v3 ≡ v2 ++ back
    → one ≡ page_zero (header_now number c) → front ≡ all_pages c.data_pages → back ≡ all_pages c.directory → v3 ≡ pages_now number c
pages_made number c e0 e1 e2 e3 first data_pages directory =
    let p1 = e1 ∙ (λ i. e0 i ++ first i ∷ []) in
    let p2 = e2 ∙ (λ i. p1 i ++ data_pages i) in
    e3 ∙ (λ i. p2 i ++ directory i)

-- where they are few they are the pages, else their count
pub few_pages : (number : ℕ) (c : Cutting) → count_of (header_now number c) ≤ most_pages → finished number c ≡ Pages (pages_now number c)
few_pages number c few = ap (λ (b : Bool). cond b (Pages (pages_now number c)) (TooMany (count_of (header_now number c)))) (le-leb (count_of (header_now number c)) most_pages few)

pub many_pages : (number : ℕ) (c : Cutting) → most_pages < count_of (header_now number c) → finished number c ≡ TooMany (count_of (header_now number c))
many_pages number c many = ap (λ (b : Bool). cond b (Pages (pages_now number c)) (TooMany (count_of (header_now number c)))) (lt-leb (count_of (header_now number c)) most_pages many)

-- a walk that has ended has cut the whole map
pub all_cut : (number : ℕ) (c : Cutting) (found before : Option (Key × Record)) (es : Entries) → ((e : Key × Record) → found ≡ Some e → ⊥) → found ≡ before → AllByRecursion IsStored es
    → with_entries c (all_chunks (from_entry before es)) ≡ with_entries nothing_cut (all_chunks es) → finished number c ≡ cut_of number (data_of es)
all_cut number c None before es never is stored so_far =
    ap (λ (d : Cutting). finished number d) (ap (λ (o : Option (Key × Record)). with_entries c (all_chunks (from_entry o es))) is ∙ so_far)
    ∙ cut_is number (all_chunks es) (all_short es stored)
all_cut number c (Some e) before es never is stored so_far = absurd (never e refl)
