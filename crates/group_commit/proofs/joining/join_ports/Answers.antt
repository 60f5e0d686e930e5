use Rattle.std.proofs.Common.{rules, ◌≡◌, [], ◌∷◌, ◌++◌, sym, subst}
use Rattle.std.specs.List.{AllByRecursion}
use Rattle.group_commit.specs.Members.{MemberView}
use Rattle.group_commit.specs.inside.Joining.{GoesFrom, IsJoinedTo, MayJoin, member_of}
use Rattle.group_commit.proofs.Joins.{all_first, all_last, goes_from_itself, goes_further, joined_kept, joined_of, joined_other, joins_next}
use Rattle.group_commit.proofs.joining.join_ports.Goals as goal

pub join-requires-clause-group : goal.join-requires-clause-group
join-requires-clause-group g c =
    let group = c.args.group.now in
    let may = all_last (MayJoin group) c.pop.new.self.items c.in-Some.port (subst (AllByRecursion (MayJoin group)) c.in-Some.ensures.items c.loop-port.invariant.1) in
    (c.loop-port.invariant.2, subst (λ (v : MemberView _ _). (v.session.lock ≡ group.store) × (v.pass.lock ≡ group.lock)) (sym c.into_member.ensures) may.group_is)

pub loop-port-preserved : goal.loop-port-preserved
loop-port-preserved g c =
    let before = c.loop-port.invariant in
    let group = c.args.group.now in
    let main = c.loop-port.main in
    let other = c.into_member.result in
    let next = c.join.new.member in
    let rest = c.pop.new.self.items in
    let port = c.in-Some.port in
    let left : c.loop-port.ports.items ≡ rest ++ port ∷ [] = c.in-Some.ensures.items in
    let kept = joined_kept main other next c.join.ensures.kept c.join.ensures.goes_on.0 in
    let came = subst (λ (v : MemberView _ _). GoesFrom v next) c.into_member.ensures (joined_other main other next c.join.ensures.kept c.join.ensures.goes_on.1) in (
      joins_next c.args.ports.items rest main next port c.loop-port.ports.items left kept came before.0,
      all_first (MayJoin group) rest (port ∷ []) (subst (AllByRecursion (MayJoin group)) left before.1),
      joined_of group main other next c.join.ensures.kept before.2,
      goes_further c.args.main.now main next before.3 kept,
    )

pub returns-clause-ports : goal.returns-clause-ports
returns-clause-ports g c =
    let main = c.loop-port.main in
    let left : c.loop-port.ports.items ≡ [] = search rules in
    c.loop-port.invariant.0 main (goes_from_itself main) (subst (AllByRecursion (IsJoinedTo main)) (sym left) tt)
