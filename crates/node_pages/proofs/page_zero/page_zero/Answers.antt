use Rattle.std.proofs.Common.{rules, ◌≡◌, length, ◌∙◌}
use Rattle.std.specs.Vec.{vec_len}
use Rattle.node_pages.proofs.ZeroLaws.{zero_made}
use Rattle.node_pages.proofs.page_zero.page_zero.Goals as goal

pub returns : goal.returns
returns c =
    let long : vec_len c.extend_from_slice-5.new.self ≡ length c.extend_from_slice-5.new.self.items = search rules in
    c.from_vec.ensures
    ∙ zero_made (record { base = c.args.base; data_pages = c.args.data_pages; directory_pages = c.args.directory_pages })
    c.in_ok-page.ensures.items c.in_ok-extend_from_slice.ensures.items c.in_ok-extend_from_slice-2.ensures.items c.in_ok-extend_from_slice-3.ensures.items c.in_ok-extend_from_slice-4.ensures.items c.in_ok-extend_from_slice-5.ensures.items
    c.four.ensures c.four-2.ensures c.four-3.ensures c.four-4.ensures long c.in_ok-resize.ensures.items
