-- The worked books are legal, and their commits serial, by computation.
use Rattle.std.proofs.Common.{refl}
use Rattle.call_contract.specs.Books.{IsSerial}
use Rattle.call_rows.specs.Rows.{row_meaning, IsBookOf, empty_store, store_of_one, store_of_two, edge_book, list_book, deadlock_book, comes_back_book}

pub edge_legal : IsBookOf empty_store edge_book
edge_legal = record { run = (refl, (refl, (refl, (refl, (refl, (refl, (refl, tt))))))); faults = (tt, (tt, (tt, (tt, (tt, (tt, (tt, tt))))))) }

pub list_legal : IsBookOf store_of_one list_book
list_legal = record { run = (refl, (refl, (refl, (refl, (refl, (refl, tt)))))); faults = (tt, (tt, (tt, (tt, (tt, (tt, tt)))))) }

pub deadlock_legal : IsBookOf store_of_one deadlock_book
deadlock_legal = record { run = (refl, (refl, (refl, (refl, (refl, (refl, (refl, tt))))))); faults = (tt, (tt, (tt, (tt, (tt, (tt, (tt, tt))))))) }

pub comes_back_legal : IsBookOf store_of_two comes_back_book
comes_back_legal = record { run = (refl, (refl, (refl, (refl, (refl, (refl, (refl, (refl, (refl, tt))))))))); faults = (tt, (tt, (tt, (tt, (tt, (tt, (tt, (tt, (tt, tt))))))))) }

-- ---- and serial

pub edge_serial : IsSerial row_meaning empty_store 1 100 edge_book
edge_serial = record { replies = refl; tree = refl }

pub list_serial : IsSerial row_meaning store_of_one 1 100 list_book
list_serial = record { replies = refl; tree = refl }

pub deadlock_serial : IsSerial row_meaning store_of_one 1 100 deadlock_book
deadlock_serial = record { replies = refl; tree = refl }

pub comes_back_serial : IsSerial row_meaning store_of_two 1 100 comes_back_book
comes_back_serial = record { replies = refl; tree = refl }
