use Rattle.std.proofs.Common.{◌≡◌, ◌≤◌, ℕ, List, drop, length, Some, IfSome}
use Rattle.node_records.specs.declared.entries.Entry.{Entry}
use Rattle.node_pages.specs.EntryForm.{entry_read}
use Rattle.node_pages.specs.Reading.{items_in}
use Rattle.paged_seq.specs.Places.{HasPassed, passes, place_at}
use Rattle.paged_seq.specs.Sizes.{SortsAs, entry_there}
use Rattle.paged_seq.proofs.search.seek.Given as goal

abbrev pub invariant-loop-left : goal.invariant-loop-left
invariant-loop-left l = record {
  within : l.at ≤ 8_192;
  sorting : IfSome l.sorting (SortsAs l.key);
  back : IfSome l.passed (λ n. n ≤ length l.bytes);
  passed : (es : List Entry) (rest : List ℕ) → items_in entry_read l.start.left l.start.before (drop l.start.at l.bytes) ≡ Some (es, rest)
      → HasPassed (passes l.key l.beyond) l.bytes l.start.before es (place_at l.start.page l.at l.left (entry_there l.bytes l.start.before l.passed));
}

abbrev pub decreases-loop-left : goal.decreases-loop-left
decreases-loop-left l = l.left
