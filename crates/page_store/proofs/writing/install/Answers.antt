use Rattle.std.proofs.Common.{rules, arith, ◌≡◌, ◌+◌, ◌*◌, ◌∷◌, [], ℕ, List, drop, length, sym, ap, subst, ◌∙◌}
use Rattle.std.proofs.lemmas.List.{drop_more}
use Rattle.std.proofs.Math.ListN.{drop_of_length-le}
use Rattle.outside_traits.specs.Disks.{OpensRange, Wrote}
use Rattle.outside_traits.specs.Moments.{History, TakesStep, Fails}
use Rattle.page_store.specs.inside.Installing.{IsInstalling}
use Rattle.page_store.proofs.InstallSteps.{one_written, one_failed, all_written, all_leave, all_failed, range_of}
use Rattle.page_store.proofs.WrittenLaws.{pages_installed, others_installed}
use Rattle.page_store.proofs.writing.install.Goals as goal

pub returns-in_err-write_at-clause-any_moment : goal.returns-in_err-write_at-clause-any_moment
returns-in_err-write_at-clause-any_moment g c known =
    let images = c.args.images.now in
    let i = c.loop-number.number-index in
    let at : drop i c.args.images.now ≡ c.loop-number-item.result ∷ drop (i + 1) c.args.images.now = drop_more c.args.images.now i c.loop-number-item.result (omega arith) ∙ ap (λ (y : ℕ × List ℕ). y ∷ drop (i + 1) c.args.images.now) (sym c.loop-number-item.is) in
    let old = g.P.Disk.history c.args.pages.now in
    let mid = g.P.Disk.history c.loop-number.pages in
    one_failed images old mid (g.P.Disk.history c.write_at.new.self) c.loop-number-item.result (drop (i + 1) images)
    (subst (λ (l : List (ℕ × List ℕ)). IsInstalling images l old mid) at (c.loop-number.invariant.so_far known)) (range_of images i c.loop-number-item.result (drop (i + 1) images) at) (subst (λ (b : List ℕ). Fails (OpensRange (8_192 * c.loop-number-item.result.0) (length b)) mid (g.P.Disk.history c.write_at.new.self)) c.as_slice.ensures (c.in_err-write_at.ensures.err known))

pub loop-number-preserved : goal.loop-number-preserved
loop-number-preserved g c =
    let images = c.args.images.now in
    let i = c.loop-number.number-index in
    let at : drop i c.args.images.now ≡ c.loop-number-item.result ∷ drop (i + 1) c.args.images.now = drop_more c.args.images.now i c.loop-number-item.result (omega arith) ∙ ap (λ (y : ℕ × List ℕ). y ∷ drop (i + 1) c.args.images.now) (sym c.loop-number-item.is) in
    let old = g.P.Disk.history c.args.pages.now in
    let mid = g.P.Disk.history c.loop-number.pages in
    record {
      so_far = λ known. one_written images old mid (g.P.Disk.history c.write_at.new.self) c.loop-number-item.result (drop (i + 1) images)
          (subst (λ (l : List (ℕ × List ℕ)). IsInstalling images l old mid) at (c.loop-number.invariant.so_far known)) (range_of images i c.loop-number-item.result (drop (i + 1) images) at) (subst (λ (b : List ℕ). TakesStep (Wrote (8_192 * c.loop-number-item.result.0) b) mid (g.P.Disk.history c.write_at.new.self)) c.as_slice.ensures (c.in_ok-write_at.ensures.ok known));
      count = search rules;
    }

pub returns-in_err-sync-clause-any_moment : goal.returns-in_err-sync-clause-any_moment
returns-in_err-sync-clause-any_moment g c known =
    let images = c.args.images.now in
    let old = g.P.Disk.history c.args.pages.now in
    let mid = g.P.Disk.history c.loop-number.pages in
    let none : drop c.loop-number.number-index c.args.images.now ≡ [] = drop_of_length-le c.args.images.now (omega arith) in
    all_failed images old mid (g.P.Disk.history c.sync.new.self) (subst (λ (l : List (ℕ × List ℕ)). IsInstalling images l old mid) none (c.loop-number.invariant.so_far known)) (c.in_err-sync.ensures.err known)

pub returns-clause-any_moment : goal.returns-clause-any_moment
returns-clause-any_moment g c known =
    let images = c.args.images.now in
    let old = g.P.Disk.history c.args.pages.now in
    let mid = g.P.Disk.history c.loop-number.pages in
    let none : drop c.loop-number.number-index c.args.images.now ≡ [] = drop_of_length-le c.args.images.now (omega arith) in
    all_leave images old mid (g.P.Disk.history c.sync.new.self) (subst (λ (l : List (ℕ × List ℕ)). IsInstalling images l old mid) none (c.loop-number.invariant.so_far known))
    (c.faults-faults.ensures.reads_an_image known) (c.in_ok-sync.ensures.ok known)

pub returns-clause-pages : goal.returns-clause-pages
returns-clause-pages g c known =
    let old = g.P.Disk.history c.args.pages.now in
    let mid = g.P.Disk.history c.loop-number.pages in
    let none : drop c.loop-number.number-index c.args.images.now ≡ [] = drop_of_length-le c.args.images.now (omega arith) in
    pages_installed c.args.images.now old mid (g.P.Disk.history c.sync.new.self) (subst (λ (l : List (ℕ × List ℕ)). IsInstalling c.args.images.now l old mid) none (c.loop-number.invariant.so_far known))
    (c.in_ok-sync.ensures.ok known) c.requires.rising (c.requires.images known)

pub returns-clause-others : goal.returns-clause-others
returns-clause-others g c known =
    let old = g.P.Disk.history c.args.pages.now in
    let mid = g.P.Disk.history c.loop-number.pages in
    let none : drop c.loop-number.number-index c.args.images.now ≡ [] = drop_of_length-le c.args.images.now (omega arith) in
    others_installed c.args.images.now old mid (g.P.Disk.history c.sync.new.self) (subst (λ (l : List (ℕ × List ℕ)). IsInstalling c.args.images.now l old mid) none (c.loop-number.invariant.so_far known))
    (c.in_ok-sync.ensures.ok known) (c.requires.images known)
