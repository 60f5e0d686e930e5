use Rattle.std.proofs.Common.{◌≡◌, length, arith, [], ◌∷◌, sym, ap, subst, ◌∙◌, List}
use Rattle.journal.specs.Views.{JournalView}
use Rattle.session_driver.specs.Lines.{AreValid, Asked}
use Rattle.session_driver.specs.declared.doing.Doing.{Doing}
use Rattle.durable_sessions.specs.Asked.{asked_from}
use Rattle.durable_sessions.specs.InTurn.{all_asks, stop_of, AskedInTurn, Stopped, AllAnswered}
use Rattle.durable_sessions.specs.Reasons.{reason_in, reason_of}
use Rattle.durable_sessions.specs.declared.in_turn.Stop.TheVariants.{Refused}
use Rattle.durable_sessions.proofs.HaltLaws.{stop_counts}
use Rattle.durable_sessions.proofs.InTurnLaws.{none_asked, step_answered, step_refused, step_stopped, stopped_err, asked_behind}
use Rattle.durable_sessions.proofs.in_turn.+ask_in_turn.Goals as goal

pub returns-in_err-answer-clause-asked : goal.returns-in_err-answer-clause-asked
returns-in_err-answer-clause-asked g t c = λ s stands.
    let m = g.C.TreeCall.meaning in
    let told = g.B.NodeRead.contents in
    let doing = c.in-Some.doing in
    let a : Asked g.row.C.Denot = record { session = c.args.session; doing = doing } in
    let rest = all_asks c.args.session c.take_first.new.doings.items in
    let list : c.args.doings.items ≡ doing ∷ c.take_first.new.doings.items = c.in-Some.ensures.first in
    let valid : AreValid g.C.TreeCall.is_valid (a ∷ rest) = subst (λ (l : List (Doing g.row.C.Denot)). AreValid g.C.TreeCall.is_valid (all_asks c.args.session l)) list c.requires.valid in
    stopped_err g.C.TreeCall.is_valid m told reason_of c.from_residual.result (stop_of c.in_err-answer.field-0.0) g.J.Disk.is_known s _ _ _ _ _ _ c.from_residual.ensures.1
    (subst (λ (l : List (Doing g.row.C.Denot)). Stopped g.C.TreeCall.is_valid m reason_of g.J.Disk.is_known s (all_asks c.args.session l) c.args.journal.now.history c.answer.new.journal.history (stop_of c.in_err-answer.field-0.0)) (sym list)
    (step_stopped g.C.TreeCall.is_valid m told reason_of g.J.Disk.is_known s a valid.0 c.args.journal.now.history c.answer.new.journal.history (λ other. ap (λ (j : JournalView). j.history) (c.answer.ensures.durable_first.still other)) rest c.in_err-answer.field-0.0 (c.answer.ensures.any_moment s stands)))

pub returns-in-Some-reason_in-clause-asked : goal.returns-in-Some-reason_in-clause-asked
returns-in-Some-reason_in-clause-asked g t c = λ s stands.
    let m = g.C.TreeCall.meaning in
    let told = g.B.NodeRead.contents in
    let doing = c.in-Some.doing in
    let a : Asked g.row.C.Denot = record { session = c.args.session; doing = doing } in
    let rest = all_asks c.args.session c.take_first.new.doings.items in
    let list : c.args.doings.items ≡ doing ∷ c.take_first.new.doings.items = c.in-Some.ensures.first in
    let valid : AreValid g.C.TreeCall.is_valid (a ∷ rest) = subst (λ (l : List (Doing g.row.C.Denot)). AreValid g.C.TreeCall.is_valid (all_asks c.args.session l)) list c.requires.valid in
    subst (λ (l : List (Doing g.row.C.Denot)). Stopped g.C.TreeCall.is_valid m reason_of g.J.Disk.is_known s (all_asks c.args.session l) c.args.journal.now.history c.answer.new.journal.history (Refused c.in-Some-reason_in.why)) (sym list)
    (step_refused g.C.TreeCall.is_valid m told reason_of g.J.Disk.is_known s a valid.0 c.args.journal.now.history c.answer.new.journal.history (λ other. ap (λ (j : JournalView). j.history) (c.answer.ensures.durable_first.still other)) c.answer.new.core c.args.replies.now.items c.answer.new.replies.items rest c.in-Some-reason_in.why
    (c.in_ok-answer.ensures.does s stands).state (c.answer.ensures.any_moment s stands) (c.in_ok-answer.ensures.does s stands).replies c.requires.unrefused
    (ap reason_in (sym c.as_slice.ensures.value) ∙ sym c.reason_in.ensures ∙ c.in-Some-reason_in.is))

pub ask_in_turn-requires : goal.ask_in_turn-requires
ask_in_turn-requires g t c κs within =
    let m = g.C.TreeCall.meaning in
    let doing = c.in-Some.doing in
    let a : Asked g.row.C.Denot = record { session = c.args.session; doing = doing } in
    let rest = all_asks c.args.session c.take_first.new.doings.items in
    let list : c.args.doings.items ≡ doing ∷ c.take_first.new.doings.items = c.in-Some.ensures.first in
    let valid : AreValid g.C.TreeCall.is_valid (a ∷ rest) = subst (λ (l : List (Doing g.row.C.Denot)). AreValid g.C.TreeCall.is_valid (all_asks c.args.session l)) list c.requires.valid in
    (omega (arith, c.decreases, ap length list), (within.0, (within.1.0, (within.1.1, (c.in_ok-answer.ensures.goes_on.takes, (valid.1, ap reason_in (sym c.as_slice.ensures.value) ∙ sym c.reason_in.ensures ∙ c.in_default-reason_in.is))))))

pub returns-clause-asked : goal.returns-clause-asked
returns-clause-asked g t c = λ s stands.
    let m = g.C.TreeCall.meaning in
    let told = g.B.NodeRead.contents in
    let doing = c.in-Some.doing in
    let a : Asked g.row.C.Denot = record { session = c.args.session; doing = doing } in
    let rest = all_asks c.args.session c.take_first.new.doings.items in
    let list : c.args.doings.items ≡ doing ∷ c.take_first.new.doings.items = c.in-Some.ensures.first in
    let valid : AreValid g.C.TreeCall.is_valid (a ∷ rest) = subst (λ (l : List (Doing g.row.C.Denot)). AreValid g.C.TreeCall.is_valid (all_asks c.args.session l)) list c.requires.valid in
    let did = c.in_ok-answer.ensures.does s stands in
    let one : AllAnswered g.C.TreeCall.is_valid m told reason_of g.J.Disk.is_known s (a ∷ []) c.args.journal.now.history c.answer.new.core c.answer.new.journal.history c.args.replies.now.items c.answer.new.replies.items =
    step_answered g.C.TreeCall.is_valid m told reason_of g.J.Disk.is_known s a valid.0 c.args.journal.now.history c.answer.new.journal.history (λ other. ap (λ (j : JournalView). j.history) (c.answer.ensures.durable_first.still other)) c.answer.new.core c.args.replies.now.items c.answer.new.replies.items did.state (c.answer.ensures.any_moment s stands)
    did.replies c.requires.unrefused (ap reason_in (sym c.as_slice.ensures.value) ∙ sym c.reason_in.ensures ∙ c.in_default-reason_in.is) in
    subst (λ (l : List (Doing g.row.C.Denot)). AskedInTurn g.C.TreeCall.is_valid m told reason_of g.J.Disk.is_known s (all_asks c.args.session l) c.args.journal.now.history c.ask_in_turn.new.core c.ask_in_turn.new.journal.history c.args.replies.now.items c.ask_in_turn.new.replies.items c.ask_in_turn.result) (sym list)
    (asked_behind g.C.TreeCall.is_valid m told reason_of c.ask_in_turn.result g.J.Disk.is_known s (a ∷ []) rest _ _ _ _ _ _ _ _ one (c.ask_in_turn.ensures.asked (asked_from m s c.args.session doing).state did.state.stands))

pub returns-in_default-clause-asked : goal.returns-in_default-clause-asked
returns-in_default-clause-asked g t c = λ s stands.
    subst (λ (l : List (Doing g.row.C.Denot)). AllAnswered g.C.TreeCall.is_valid g.C.TreeCall.meaning g.B.NodeRead.contents reason_of g.J.Disk.is_known s (all_asks c.args.session l) c.args.journal.now.history c.args.core.now c.args.journal.now.history c.args.replies.now.items c.args.replies.now.items)
    (sym (c.take_first.ensures.none c.in_default.is))
    (none_asked g.C.TreeCall.is_valid g.C.TreeCall.meaning g.B.NodeRead.contents reason_of g.J.Disk.is_known s c.args.core.now c.args.journal.now.history c.args.replies.now.items stands)

pub returns-in_err-answer-clause-counts : goal.returns-in_err-answer-clause-counts
returns-in_err-answer-clause-counts g t c = stop_counts c.from_residual.result c.in_err-answer.field-0.0 _ _ c.from_residual.ensures.1 c.in_err-answer.ensures.counts

-- ---- what is left alone of the base

pub returns-clause-base : goal.returns-clause-base
returns-clause-base g t c = g.met.B.SessionBase.stays_onward c.args.core.now.base c.answer.new.core.base c.ask_in_turn.new.core.base c.answer.ensures.base c.ask_in_turn.ensures.base

pub returns-in_default-clause-base : goal.returns-in_default-clause-base
returns-in_default-clause-base g t c = g.met.B.SessionBase.unchanged_stays c.args.core.now.base c.args.core.now.base (g.met.B.NodeRead.unchanged_itself c.args.core.now.base)
