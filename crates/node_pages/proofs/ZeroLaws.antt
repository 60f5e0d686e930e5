-- The bytes of a first page.
use Rattle.std.proofs.Common.{◌≡◌, ℕ, ◌-◌, List, [], ◌++◌, length, take, replicate, ap, ◌∙◌}
use Rattle.byteorder.specs.Endian.{big_bytes}
use Rattle.node_pages.specs.PageZero.{Header, page_magic, count_of, page_zero}

-- a first page is its parts one after another, and zeros up to its end
pub zero_made : (h : Header) {x0 x1 x2 x3 x4 x5 base count datas directories page : List ℕ} {len : ℕ} → x0 ≡ [] → x1 ≡ x0 ++ page_magic → x2 ≡ x1 ++ base → x3 ≡ x2 ++ count → x4 ≡ x3 ++ datas → x5 ≡ x4 ++ directories
    → base ≡ big_bytes 4 h.base → count ≡ big_bytes 4 (count_of h) → datas ≡ big_bytes 4 h.data_pages → directories ≡ big_bytes 4 h.directory_pages
    → len ≡ length x5 → page ≡ take 8_192 x5 ++ replicate (8_192 - len) 0 → page ≡ page_zero h
zero_made h e0 e1 e2 e3 e4 e5 fb fc fd fe long filled =
    let p1 = e1 ∙ ap (λ (l : List ℕ). l ++ page_magic) e0 in
    let p2 = e2 ∙ (λ i. p1 i ++ fb i) in
    let p3 = e3 ∙ (λ i. p2 i ++ fc i) in
    let p4 = e4 ∙ (λ i. p3 i ++ fd i) in
    let p5 = e5 ∙ (λ i. p4 i ++ fe i) in
    filled ∙ (λ i. take 8_192 (p5 i) ++ replicate (8_192 - (long ∙ ap length p5) i) 0)
