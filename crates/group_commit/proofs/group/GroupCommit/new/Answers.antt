use Rattle.std.proofs.Common.{◌≡◌, [], ◌∷◌, ap, sym, subst, ◌∙◌, refl, lit<}
use Rattle.std.specs.Prelude.{None}
use Rattle.call_contract.specs.Sessions.{live_in}
use Rattle.turn_lock.specs.Turns.{first_pass, longer, merged}
use Rattle.shared_store.specs.Lists.{book_of}
use Rattle.shared_store.specs.Sessions.{SessionView}
use Rattle.group_commit.specs.declared.mark.Mark.TheVariants as mark
use Rattle.group_commit.specs.inside.Scribes.{marks_in, ScribeView}
use Rattle.group_commit.proofs.Grouping.{first_member, longer_self, zero_back}
use Rattle.group_commit.proofs.group.GroupCommit.new.Goals as goal

pub split-drainer-requires-clause-number : goal.split-drainer-requires-clause-number
split-drainer-requires-clause-number g c = (c.requires.session.all 0 (lit< tt), c.requires.session.number)

-- `Scribe::new`'s conditions: the session as it was, by `Snapshot::of`, and the one that drains, by `given` of the split
pub new-requires-clause-drainer : goal.new-requires-clause-drainer
new-requires-clause-drainer g c =
    let first = c.of-first.ensures in
    let given = c.split-drainer.ensures.given in (
      ap (λ (v : SessionView _ _). v.lock) given ∙ sym (ap (λ (v : SessionView _ _). v.lock) first),
      ap (λ (v : SessionView _ _). v.seen) given ∙ sym (ap (λ (v : SessionView _ _). v.seen) first),
      ap (λ (v : SessionView _ _). v.has) given,
      ap (λ (v : SessionView _ _). v.under) given,
    )

pub invariant_of-result : goal.invariant_of-result
invariant_of-result g c =
    first_member c.args.session c.split-drainer.new.self c.in-Ok.pass c.in-Ok.lock c.args.journal c.number-number.ensures.opened c.number-number.ensures.small c.split-drainer.ensures.kept
    (c.in-Ok.ensures.ok ∙ (ap (λ (s : ScribeView _ _). first_pass c.in-Ok.lock (marks_in s)) c.new.ensures ∙ ap (λ (v : SessionView _ _). first_pass c.in-Ok.lock (mark.Opening v c.args.journal ∷ [])) c.of-first.ensures))

pub join-requires-clause-store : goal.join-requires-clause-store
join-requires-clause-store g c =
    let is = c.into_parts-journal.ensures.drainer ∙ (ap (λ (v : ScribeView _ _). v.drainer) (c.in-Err.ensures.err ∙ c.new.ensures) ∙ c.split-drainer.ensures.given) in
    (ap (λ (v : SessionView _ _). v.lock) c.split-drainer.ensures.kept ∙ c.requires.session.lock, ap (λ (v : SessionView _ _). v.lock) is ∙ c.requires.session.lock)

-- both pieces come back, and are one session again
pub join-requires-clause-ended : goal.join-requires-clause-ended
join-requires-clause-ended g c =
    let back = c.into_parts-journal.ensures.drainer in
    let given = c.split-drainer.ensures.given in
    let is = back ∙ (ap (λ (v : ScribeView _ _). v.drainer) (c.in-Err.ensures.err ∙ c.new.ensures) ∙ given) in
    subst (λ (v : SessionView _ _). live_in (book_of v.seen) v.under ≡ None) (sym is) c.requires.drained.idle

pub returns-in-Err-clause-err : goal.returns-in-Err-clause-err
returns-in-Err-clause-err g c =
    let first = c.args.session in
    let is = c.into_parts-journal.ensures.drainer ∙ (ap (λ (v : ScribeView _ _). v.drainer) (c.in-Err.ensures.err ∙ c.new.ensures) ∙ c.split-drainer.ensures.given) in
    let kept = c.split-drainer.ensures.kept in
    let joined = c.join.ensures.kept in (
      refl,
      joined
          ∙ ((λ i. record { lock = (kept i).lock; seen = longer (kept i).seen (is i).seen; has = merged (kept i).has (is i).has; under = (kept i).under })
          ∙ (λ i. record { lock = first.lock; seen = longer_self first.seen i; has = zero_back first.has c.requires.session.all i; under = first.under })),
      c.into_parts-journal.ensures.journal ∙ ap (λ (v : ScribeView _ _). v.journal) (c.in-Err.ensures.err ∙ c.new.ensures),
    )
