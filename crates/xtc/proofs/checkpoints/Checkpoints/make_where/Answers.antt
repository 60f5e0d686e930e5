use Rattle.std.proofs.Common.{◌≡◌, Bool, Ok, Err, sym, subst}
use Rattle.std.specs.Prelude.{option_map, unwrap_or}
use Rattle.outside_traits.specs.DiskPairs.{Pair, pair_of}
use Rattle.outside_traits.specs.Moments.{History}
use Rattle.node_records.specs.declared.open_error.OpenError.{OpenError}
use Rattle.node_records.specs.declared.open_error.OpenError.TheVariants as error
use Rattle.checkpoint.specs.Renewals.{pages_of}
use Rattle.xtc.specs.StoreMachine.{file_of}
use Rattle.xtc.specs.inside.Renewing.{IsMadeWhere, LeftStanding, StandFor, files_of, kept}
use Rattle.xtc.proofs.RenewedLaws.{file_left, left_by_error, left_standing, made_there}
use Rattle.xtc.proofs.checkpoints.Checkpoints.make_where.Goals as goal

pub returns-in-Ok-clause-made : goal.returns-in-Ok-clause-made
returns-in-Ok-clause-made g c = λ kp s stands.
    let old : History = pages_of g.P.Disk.history c.args.core.now.base in
    let new : History = pages_of g.P.Disk.history c.renew.new.core.base in
    subst (λ (b : Bool). IsMadeWhere b s old new) (sym c.if-not-due.false)
    (made_there g.P.Disk.is_known g.P.Disk.history c.args.core.now s stands old new c.in-Ok._made c.in-Ok.ensures.made (λ is. (c.in-Ok.ensures.moved is).pages kp) (λ none. (c.in-Ok.ensures.unwritten none).same_pages kp))

pub returns-in-Ok-clause-files : goal.returns-in-Ok-clause-files
returns-in-Ok-clause-files g c = λ kj kp s stands files.
    let history = g.P.Disk.history in
    let old : Pair = files_of history (kept c.args.core.now c.args.journal.now c.args.self.now) in
    let new : Pair = files_of history (kept c.renew.new.core c.renew.new.journal c.args.self.now) in
    let old_is : pair_of c.args.journal.now.history (pages_of history c.args.core.now.base) ≡ old = λ i. pair_of c.args.journal.now.history (file_of history c.args.core.now.base (sym c.requires.inside i)) in
    let new_is : pair_of c.renew.new.journal.history (pages_of history c.renew.new.core.base) ≡ new = λ i. pair_of c.renew.new.journal.history (file_of history c.renew.new.core.base (sym c.requires.inside i)) in
    subst (λ (x : Pair × Pair). LeftStanding {E = OpenError} s x.0 x.1 (Ok tt)) (λ i. (old_is i, new_is i))
    (left_standing g.P.Disk.is_known history c.args.core.now s stands (pair_of c.args.journal.now.history (pages_of history c.args.core.now.base)) (pair_of c.renew.new.journal.history (pages_of history c.renew.new.core.base))
    (λ t opened. (c.in-Ok.ensures.files kj kp t opened).phases) (subst (StandFor s) (sym old_is) files) (λ t opened. (c.in-Ok.ensures.files kj kp t opened).settled))

pub returns-then-same-clause-files : goal.returns-then-same-clause-files
returns-then-same-clause-files g c = λ kj kp s stands files.
    let history = g.P.Disk.history in
    let old : Pair = files_of history (kept c.args.core.now c.args.journal.now c.args.self.now) in
    let old_is : pair_of c.args.journal.now.history (pages_of history c.args.core.now.base) ≡ old = λ i. pair_of c.args.journal.now.history (file_of history c.args.core.now.base (sym c.requires.inside i)) in
    let new_is : pair_of c.renew.new.journal.history (unwrap_or (option_map history c.in-Err.field-0.pages) (pages_of history c.renew.new.core.base)) ≡ pair_of c.renew.new.journal.history (file_of history c.renew.new.core.base c.in-Err.field-0.pages)
    = λ i. pair_of c.renew.new.journal.history (file_left history c.renew.new.core.base c.in-Err.field-0.pages i) in
    subst (λ (x : Pair × Pair). LeftStanding {E = OpenError} s x.0 x.1 (Err c.in-Err.field-0.fault)) (λ i. (old_is i, new_is i))
    (left_by_error g.P.Disk.is_known history c.args.core.now s stands (pair_of c.args.journal.now.history (pages_of history c.args.core.now.base))
    (pair_of c.renew.new.journal.history (unwrap_or (option_map history c.in-Err.field-0.pages) (pages_of history c.renew.new.core.base)))
    (λ t opened. (c.in-Err.ensures.files kj kp t opened).phases) (subst (StandFor s) (sym old_is) files) c.in-Err.field-0.fault)

pub returns-else-same-clause-files : goal.returns-else-same-clause-files
returns-else-same-clause-files g c = λ kj kp s stands files.
    let history = g.P.Disk.history in
    let old : Pair = files_of history (kept c.args.core.now c.args.journal.now c.args.self.now) in
    let old_is : pair_of c.args.journal.now.history (pages_of history c.args.core.now.base) ≡ old = λ i. pair_of c.args.journal.now.history (file_of history c.args.core.now.base (sym c.requires.inside i)) in
    let new_is : pair_of c.renew.new.journal.history (unwrap_or (option_map history c.in-Err.field-0.pages) (pages_of history c.renew.new.core.base)) ≡ pair_of c.renew.new.journal.history (file_of history c.renew.new.core.base c.in-Err.field-0.pages)
    = λ i. pair_of c.renew.new.journal.history (file_left history c.renew.new.core.base c.in-Err.field-0.pages i) in
    subst (λ (x : Pair × Pair). LeftStanding {E = OpenError} s x.0 x.1 (Err error.DiskFault)) (λ i. (old_is i, new_is i))
    (left_by_error g.P.Disk.is_known history c.args.core.now s stands (pair_of c.args.journal.now.history (pages_of history c.args.core.now.base))
    (pair_of c.renew.new.journal.history (unwrap_or (option_map history c.in-Err.field-0.pages) (pages_of history c.renew.new.core.base)))
    (λ t opened. (c.in-Err.ensures.files kj kp t opened).phases) (subst (StandFor s) (sym old_is) files) error.DiskFault)
