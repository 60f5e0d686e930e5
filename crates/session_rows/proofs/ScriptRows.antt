-- The worked scripts, by computation.
use Rattle.std.proofs.Common.{◌≡◌, refl}
use Rattle.std.specs.Fmt.{digits}
use Rattle.call_contract.specs.States.{start}
use Rattle.call_rows.specs.Rows.{row_meaning, empty_store, store_of_one, store_of_two, edge_book, deadlock_book, comes_back_book}
use Rattle.session_driver.specs.Lines.{after_lines}
use Rattle.session_rows.specs.Scripts.{edge_lines, edge_replies, deadlock_lines, deadlock_replies, comes_back_lines, comes_back_replies}

pub edge_written : (after_lines row_meaning (start empty_store 1 100) edge_lines).lines ≡ edge_replies
unfolding digits
edge_written = refl

pub deadlock_written : (after_lines row_meaning (start store_of_one 1 100) deadlock_lines).lines ≡ deadlock_replies
unfolding digits
deadlock_written = refl

pub comes_back_written : (after_lines row_meaning (start store_of_two 1 100) comes_back_lines).lines ≡ comes_back_replies
unfolding digits
comes_back_written = refl

pub edge_made : (after_lines row_meaning (start empty_store 1 100) edge_lines).book ≡ edge_book
unfolding digits
edge_made = refl

pub deadlock_made : (after_lines row_meaning (start store_of_one 1 100) deadlock_lines).book ≡ deadlock_book
unfolding digits
deadlock_made = refl

pub comes_back_made : (after_lines row_meaning (start store_of_two 1 100) comes_back_lines).book ≡ comes_back_book
unfolding digits
comes_back_made = refl
