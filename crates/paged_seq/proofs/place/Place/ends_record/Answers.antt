use Rattle.std.proofs.Common.{sym, ap, ◌∙◌}
use Rattle.std.specs.Ordering.{is_eq}
use Rattle.tree_model.specs.Keys.{key_cmp}
use Rattle.tree_model.proofs.Keys.{key_tied}
use Rattle.paged_seq.proofs.MapLaws.{eq_equal}
use Rattle.paged_seq.proofs.place.Place.ends_record.Goals as goal

pub returns-then-chunk : goal.returns-then-chunk
returns-then-chunk c same = record {
  chunk = c.in-Some.chunk;
  before = c.in-Some.is;
  last = c.if-chunk.true;
  key = key_tied c.in-Some.chunk.key c.args.key.now (eq_equal (key_cmp c.in-Some.chunk.key c.args.key.now) (ap is_eq (sym c.cmp.ensures) ∙ sym c.is_eq.ensures ∙ same));
}
