use Rattle.std.proofs.Common.{List, sym, ap, subst, ◌∙◌}
use Rattle.std.specs.List.{AllByRecursion}
use Rattle.node_records.specs.declared.entries.Entry.{Entry}
use Rattle.node_pages.specs.Chunks.{all_chunks}
use Rattle.node_pages.specs.Cuts.{data_of}
use Rattle.node_pages.specs.Cutting.{IsShort}
use Rattle.node_pages.specs.EntryForm.{entry_behind}
use Rattle.node_pages.specs.Filling.{filled}
use Rattle.node_pages.specs.PageStarts.{start_behind, starts_from}
use Rattle.node_pages.proofs.ChunkLaws.{all_short, entries_short, starts_short}
use Rattle.node_pages.proofs.RuleLaws.{filled_again, filled_keep, joined_filled}
use Rattle.node_pages.proofs.StoredLaws.{tree_stored}
use Rattle.node_pages.proofs.cut_laws.the_pages_of_a_map_keep_the_rule.Goals as goal

pub returns : goal.returns
returns c = record {
  stored = tree_stored;
  filled = λ es stored. filled_keep entry_behind (all_chunks es) (entries_short (all_chunks es) (all_short es stored));
  entries = λ es. joined_filled entry_behind (all_chunks es);
  no_others = λ es pages are same. sym (filled_again entry_behind pages are) ∙ ap (λ (xs : List Entry). filled entry_behind xs) same;
  directory = λ es stored. filled_keep start_behind (starts_from 1 (data_of es))
      (starts_short 1 (data_of es) (subst (AllByRecursion IsShort) (sym (joined_filled entry_behind (all_chunks es))) (all_short es stored)));
  starts = λ es. joined_filled start_behind (starts_from 1 (data_of es));
}
