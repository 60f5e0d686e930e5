use Rattle.tx_core.specs.inside.Passed.{ArePassed}
use Rattle.std.proofs.Common.{refl, sym, ap, subst, ◌∙◌, ◌++◌, ◌∷◌, [], length, vec_capacity, arith}
use Rattle.std.specs.Ordering.{nat_cmp}
use Rattle.std.specs.BTreeMap as tree
use Rattle.call_contract.specs.States.{without}
use Rattle.tx_core.specs.inside.Sessions.{wait_in}
use Rattle.tx_core.proofs.Told.{based_seated, seated_on, has_seat, moved_seated}
use Rattle.tx_core.proofs.ToldAgain.{on_err, waits_at, waits_still, entry_room, seated_answers_again}
use Rattle.tree_model.specs.declared.reply.Reply.{Reply}
use Rattle.call_contract.specs.declared.events.Answer.TheVariants.{Answered}
use Rattle.tx_core.specs.declared.parts.Parts.{Parts}
use Rattle.tx_core.specs.inside.Goes.{unqueued, with_answer}
use Rattle.tx_core.specs.inside.Retrying.{retry_entry}
use Rattle.tx_core.specs.inside.Standing.{Stands, ordinal_in}
use Rattle.tx_core.proofs.Rested.{stands_unqueued}
use Rattle.tx_core.proofs.retries.answer_again.Goals as goal

pub returns-clause-ok : goal.returns-clause-ok
returns-clause-ok g c =
    let v = g.C.TreeCall.is_valid in
    let m = g.C.TreeCall.meaning in
    let told = g.B.NodeRead.contents in
    let p = c.args.parts.now in
    let s = c.args.session in
    let reply = c.in_ok-reply.reply in
    λ call waits. record {
      book = c.note_again.ensures.book
          ∙ ap (λ b. b.items ++ retry_entry s (Answered c.in_ok-copy.copy) ∷ []) (ap (λ (x : Parts g.row.C.Denot g.row.B.Denot). x.book) c.accept.ensures.same ∙ ap (λ (x : Parts g.row.C.Denot g.row.B.Denot). x.book) c.outcome_again.ensures.same)
          ∙ ap (λ (r : Reply). p.book.items ++ retry_entry s (Answered r) ∷ []) (c.in_ok-copy.ensures ∙ sym c.in_ok-reply.ensures.reply);
      prepared = ap (λ (x : Parts g.row.C.Denot g.row.B.Denot). x.prepared) c.note_again.ensures.same;
      reply = reply;
      is = refl;
      means = λ st t stands found. c.in_ok-reply.ensures.reply ∙ (c.in_ok-outcome.ensures.value call waits st stands).reply t found;
      state = λ st t stands found.
          subst (λ (x : Parts g.row.C.Denot g.row.B.Denot). Stands v m told x (unqueued (with_answer st t call reply) s)) (sym c.note_again.ensures.same)
          (stands_unqueued v m told c.accept.new.parts _ s (record { base = refl; layers = refl; opened = refl; limit = refl; number = refl }) refl refl refl refl c.stop_waiting.ensures (with_answer st t call reply)
          (c.in_ok-reply.ensures.ok.each st t call reply (c.outcome_again.ensures.stays.state st stands) found (c.outcome_again.ensures.valid call waits) ((c.in_ok-outcome.ensures.value call waits st stands).changes t found)));
    }

pub accept-requires-clause-seated : goal.accept-requires-clause-seated
accept-requires-clause-seated g c =
    has_seat _ (ap (λ (x : Parts g.row.C.Denot g.row.B.Denot). wait_in (tree.get nat_cmp x.places c.args.session)) c.outcome_again.ensures.same ∙ (waits_at c.args.parts.now c.args.session c.requires.waits).1)

pub returns-clause-seated : goal.returns-clause-seated
returns-clause-seated g c =
    let p = c.args.parts.now in
    let p1 = c.outcome_again.new.parts in
    let p2 = c.accept.new.parts in
    let s = c.args.session in
    let a = c.outcome_again.ensures.same in
    let b = c.accept.ensures.same in
    let e = c.note_again.ensures.same in
    let one = based_seated p p1 c.requires.seated a in
    let at = waits_at p s c.requires.waits in
    let n = retry_entry s (Answered c.in_ok-copy.copy) in
    let there = ap (λ (x : Parts _ _). wait_in (tree.get nat_cmp x.places s)) a ∙ at.1 in
    seated_on p p1 _ one
    (seated_answers_again p1 c.note_again.new.parts s at.0 c.in_ok-copy.copy one.seated there
    (record {
      ordinals = λ o. ap (λ (x : Parts _ _). ordinal_in (tree.get nat_cmp x.places o)) e ∙ c.accept.ensures.ordinals o;
      opened = ap (λ (x : Parts _ _). x.opened) e ∙ ap (λ (x : Parts _ _). x.opened) b;
      limit = ap (λ (x : Parts _ _). x.limit) e ∙ ap (λ (x : Parts _ _). x.limit) b;
      begun = ap (λ (x : Parts _ _). x.begun) e ∙ ap (λ (x : Parts _ _). x.begun) b;
      prepared = ap (λ (x : Parts _ _). x.prepared) e;
    })
    (λ o. ap (λ (x : Parts _ _). wait_in (tree.get nat_cmp x.places o)) e ∙ c.in_ok-reply.ensures.waits o)
    (ap (λ (x : Parts _ _). x.waiting.items) e ∙ c.stop_waiting.ensures ∙ ap (λ (x : Parts _ _). without s x.waiting.items) b)
    (ap (λ (x : Parts _ _). x.number) e ∙ ap (λ (x : Parts _ _). x.number) b)
    (ap (λ (x : Parts _ _). x.live) e ∙ ap (λ (x : Parts _ _). x.live) b)
    (c.note_again.ensures.book ∙ ap (λ (x : Parts _ _). x.book.items ++ n ∷ []) b)
    (omega (arith, c.note_again.ensures.capacity, ap (λ (x : Parts _ _). vec_capacity x.book) b))
    (ap (λ (x : Parts _ _). x.layers) e ∙ ap (λ (x : Parts _ _). x.layers) b))

pub note_again-requires : goal.note_again-requires
note_again-requires g c =
    let p = c.args.parts.now in
    let s = c.args.session in
    let a = c.outcome_again.ensures.same in
    let b = c.accept.ensures.same in
    let at = waits_at p s c.requires.waits in
    record {
      room = omega (
        arith,
        entry_room p s at.0 c.requires.seated at.1,
        ap (λ (x : Parts _ _). length x.book.items) a,
        ap (λ (x : Parts _ _). length x.book.items) b,
        ap (λ (x : Parts _ _). vec_capacity x.book) a,
        ap (λ (x : Parts _ _). vec_capacity x.book) b,
      );
    }

pub returns-in_err-outcome-clause-seated : goal.returns-in_err-outcome-clause-seated
returns-in_err-outcome-clause-seated g c = based_seated c.args.parts.now c.outcome_again.new.parts c.requires.seated c.outcome_again.ensures.same

pub returns-in_err-copy-clause-seated : goal.returns-in_err-copy-clause-seated
returns-in_err-copy-clause-seated g c = based_seated c.args.parts.now c.outcome_again.new.parts c.requires.seated c.outcome_again.ensures.same

pub returns-in_err-outcome-clause-still : goal.returns-in_err-outcome-clause-still
returns-in_err-outcome-clause-still g c =
    on_err c.from_residual.result
    (waits_still c.args.parts.now c.outcome_again.new.parts c.args.session (ap (λ (x : Parts _ _). wait_in (tree.get nat_cmp x.places c.args.session)) c.outcome_again.ensures.same)
    (ap (λ (x : Parts _ _). x.book.items) c.outcome_again.ensures.same) c.requires.waits)

pub returns-in_err-copy-clause-still : goal.returns-in_err-copy-clause-still
returns-in_err-copy-clause-still g c =
    on_err c.from_residual-in_err-copy.result
    (waits_still c.args.parts.now c.outcome_again.new.parts c.args.session (ap (λ (x : Parts _ _). wait_in (tree.get nat_cmp x.places c.args.session)) c.outcome_again.ensures.same)
    (ap (λ (x : Parts _ _). x.book.items) c.outcome_again.ensures.same) c.requires.waits)

pub returns-in_err-reply-clause-still : goal.returns-in_err-reply-clause-still
returns-in_err-reply-clause-still g c =
    on_err c.from_residual-in_err-reply.result
    (waits_still c.args.parts.now c.accept.new.parts c.args.session
    (c.in_err-reply.ensures.still c.args.session ∙ ap (λ (x : Parts _ _). wait_in (tree.get nat_cmp x.places c.args.session)) c.outcome_again.ensures.same)
    (ap (λ (x : Parts _ _). x.book.items) c.accept.ensures.same ∙ ap (λ (x : Parts _ _). x.book.items) c.outcome_again.ensures.same) c.requires.waits)

pub returns-in_err-reply-clause-seated : goal.returns-in_err-reply-clause-seated
returns-in_err-reply-clause-seated g c =
    let p1 = c.outcome_again.new.parts in
    let one = based_seated c.args.parts.now p1 c.requires.seated c.outcome_again.ensures.same in
    seated_on c.args.parts.now p1 _ one (moved_seated p1 c.accept.new.parts one.seated c.accept.ensures.same c.in_err-reply.ensures.still c.accept.ensures.ordinals)

pub returns-clause-passed : goal.returns-clause-passed
returns-clause-passed g c = subst (λ (x : Parts _ _). ArePassed g.B.NodeRead.contents x) (sym c.note_again.ensures.same) (c.accept.ensures.passed c.outcome_again.ensures.passed)

pub returns-in_err-reply-clause-passed : goal.returns-in_err-reply-clause-passed
returns-in_err-reply-clause-passed g c = c.accept.ensures.passed c.outcome_again.ensures.passed
