use Rattle.std.proofs.Common.{◌≡◌, ℕ, List, drop, Some, None, ◌∷◌, sym, ap, ◌∙◌, arith}
use Rattle.outside_traits.proofs.ByteLaws.{bytes_are}
use Rattle.node_pages.specs.EntryForm.{entry_read}
use Rattle.node_records.proofs.ReadLaws.{bytes_drop}
use Rattle.paged_seq.proofs.PlaceLaws.{advanced, full_entry, never_none}
use Rattle.paged_seq.proofs.search.advance.Goals as goal

pub returns-in-Some-clause-read : goal.returns-in-Some-clause-read
returns-in-Some-clause-read c =
    let p = c.args.place.now in
    let is : entry_read p.before (drop p.at c.args.bytes.now) ≡ Some (c.in-Some.entry, c.in-Some.size) =
    ap (λ (b : List ℕ). entry_read p.before b) (sym c.split_at.ensures.back) ∙ sym c.in_ok-entry.ensures.value ∙ c.in-Some.is in
    advanced p.left p.at p.before c.args.bytes.now (c.in-Some.entry, c.in-Some.size) c.requires.some is

pub returns-in-Some-clause-full : goal.returns-in-Some-clause-full
returns-in-Some-clause-full c =
    let p = c.args.place.now in
    let is : entry_read p.before (drop p.at c.args.bytes.now) ≡ Some (c.in-Some.entry, c.in-Some.size) =
    ap (λ (b : List ℕ). entry_read p.before b) (sym c.split_at.ensures.back) ∙ sym c.in_ok-entry.ensures.value ∙ c.in-Some.is in
    λ read. full_entry p.before (drop p.at c.args.bytes.now) (c.in-Some.entry, c.in-Some.size) (bytes_drop p.at c.args.bytes.now (bytes_are c.args.bytes.now (λ i. omega (arith, c.type_inv.bytes i)))) is

pub returns-in-None-clause-read : goal.returns-in-None-clause-read
returns-in-None-clause-read c =
    let p = c.args.place.now in
    let is : entry_read p.before (drop p.at c.args.bytes.now) ≡ None =
    ap (λ (b : List ℕ). entry_read p.before b) (sym c.split_at.ensures.back) ∙ sym c.in_ok-entry.ensures.value ∙ c.in-None.is in
    λ x here rest e. absurd (never_none p.left p.before (drop p.at c.args.bytes.now) (x ∷ here, rest) c.requires.some is e)
