use Rattle.std.proofs.Common.{◌≡◌, ◌+◌, ◌-◌, ℕ, List, Option, Some, None, refl, sym, ap, subst, ◌∙◌, arith}
use Rattle.std.proofs.lemmas.Option.{none-some}
use Rattle.node_records.specs.declared.entries.Entry.{Entry}
use Rattle.node_pages.specs.EntryForm.{entry_read}
use Rattle.paged_seq.specs.Places.{HasFound, passes, place_at}
use Rattle.paged_seq.specs.Sizes.{entry_there}
use Rattle.paged_seq.proofs.PlaceLaws.{at_start, one_passed, found_passing, found_end, next_entry}
use Rattle.paged_seq.proofs.SizeLaws.{sizes_told, there_read}
use Rattle.paged_seq.proofs.search.seek.Goals as goal
use Rattle.paged_seq.proofs.search.seek.Goals.{else-loop-left-test, then-loop-left-test+in_default, then-loop-left-test+in-Some+in_ok-passes_there+then-branch}

pub loop-left-init : goal.loop-left-init
loop-left-init c = record {
  within = c.requires.start;
  sorting = c.in_ok-sorting.ensures;
  back = tt;
  passed = λ es rest e. at_start (passes c.args.key.now c.args.beyond) c.args.bytes.now es rest c.args.start e;
}

pub loop-left-preserved : goal.loop-left-preserved
loop-left-preserved c =
    let test = passes c.args.key.now c.args.beyond in
    let bytes = c.args.bytes.now in
    let at = c.loop-left.at in
    let start = c.args.start in
    let p = place_at start.page at c.loop-left.left (entry_there bytes start.before c.loop-left.passed) in
    let q = place_at start.page (at + c.in-Some.size) (c.loop-left.left - 1) (entry_there bytes start.before (Some at)) in
    let within = c.in-Some.ensures.within.1 in
    let back_len = c.split_at.ensures.back_len in
    let whole = c.requires.whole in
    record {
      within = omega (arith, within, back_len, whole);
      sorting = c.loop-left.invariant.sorting;
      back = omega (arith, back_len, whole);
      passed = λ es rest e.
          let so_far = c.loop-left.invariant.passed es rest e in
          let x = next_entry test bytes start.before es p so_far c.loop-left-test.true in
          let is : entry_read None c.split_at.result.1.now ≡ Some x.0 = ap (λ (b : List ℕ). entry_read None b) c.split_at.ensures.back ∙ x.1 in
          let told = sizes_told c.entry_sizes.result (c.in-Some.key_size, c.in-Some.size) _ c.in-Some.is (c.entry_sizes.ensures.sizes x.0 is) in
          one_passed test bytes start.before es p q x.0 so_far c.loop-left-test.true x.1 (sym (c.in_ok-passes_there.ensures x.0 is told.0) ∙ c.if-branch.false) (ap (λ (n : ℕ). at + n) told.1) refl (there_read bytes start.before at x.0 x.1);
    }

pub passes_there-requires-clause-sorting : goal.passes_there-requires-clause-sorting
passes_there-requires-clause-sorting c = c.loop-left.invariant.sorting

pub returns-clause-found : goal.returns-clause-found
returns-clause-found c =
    let test = passes c.args.key.now c.args.beyond in
    let bytes = c.args.bytes.now in
    let at = c.loop-left.at in
    let left = c.loop-left.left in
    let start = c.args.start in
    let p = place_at start.page at left (entry_there bytes start.before c.loop-left.passed) in
    λ es rest e. subst (λ (b : Option Entry). HasFound test bytes start.before es (place_at start.page at left b)) (sym c.in_ok-before.ensures)
    (let so_far = c.loop-left.invariant.passed es rest e in elim c.loop-left-test.branch [
      | else-loop-left-test w ↦ let none = w.loop-left-test.false in found_end test bytes start.before es p so_far (omega (arith, none))
      | then-loop-left-test+in_default w ↦
          let x = next_entry test bytes start.before es p so_far w.loop-left-test.true in
          let is : entry_read None w.split_at.result.1.now ≡ Some x.0 = ap (λ (b : List ℕ). entry_read None b) w.split_at.ensures.back ∙ x.1 in
          absurd (none-some _ (sym w.in_default.is ∙ w.entry_sizes.ensures.sizes x.0 is))
      | then-loop-left-test+in-Some+in_ok-passes_there+then-branch w ↦
          let x = next_entry test bytes start.before es p so_far w.loop-left-test.true in
          let is : entry_read None w.split_at.result.1.now ≡ Some x.0 = ap (λ (b : List ℕ). entry_read None b) w.split_at.ensures.back ∙ x.1 in
          let told = sizes_told w.entry_sizes.result (w.in-Some.key_size, w.in-Some.size) _ w.in-Some.is (w.entry_sizes.ensures.sizes x.0 is) in
          found_passing test bytes start.before es p x.0 so_far w.loop-left-test.true x.1 (sym (w.in_ok-passes_there.ensures x.0 is told.0) ∙ w.if-branch.true)
    ])
