-- Each item of a page has a byte at least.
use Rattle.std.proofs.Common.{◌≤◌, ◌++◌, length, arith, length-append}
use Rattle.byteorder.specs.Endian.{big_bytes}
use Rattle.node_records.specs.Keys.{key_bytes}
use Rattle.node_records.specs.Entries.{chunk_head, entry_bytes}
use Rattle.node_records.specs.declared.entries.Entry.{Entry}
use Rattle.node_pages.specs.PageStarts.{start_bytes}
use Rattle.node_pages.specs.declared.page_start.PageStart.{PageStart}

pub some_entry : (e : Entry) → 1 ≤ length (entry_bytes e)
some_entry e = omega (arith, length-append (key_bytes e.key) (chunk_head e ++ e.bytes), length-append (chunk_head e) e.bytes)

pub some_start : (s : PageStart) → 1 ≤ length (start_bytes s)
some_start s = omega (arith, length-append (key_bytes s.key) (big_bytes 2 s.chunk ++ big_bytes 4 s.page))
