use Rattle.std.proofs.Common.{◌≡◌, ℕ, Bool, IsTrue, ◌+◌, ◌-◌, if◌then◌else◌, List, [], ◌∷◌, ◌++◌, length, take, drop, map, slice_index_or, w64, FitsSigned, refl, sym, ap, subst, ◌∙◌, arith, rules}
use Rattle.std.proofs.lemmas.Int.{to_z-of_z}
use Rattle.std.specs.List.{filter}
use Rattle.std.proofs.lemmas.List.{drop_more, length-drop}
use Rattle.outside_traits.specs.Faults.{HasCause}
use Rattle.tree_model.specs.Tree.{Tree}
use Rattle.node_seq.specs.Trees.{StandsFor}
use Rattle.node_seq.specs.declared.node_read.SeqError.TheVariants.{DiskFault}
use Rattle.path_model.specs.declared.path.Axis.TheVariants.{Child}
use Rattle.path_model.specs.declared.path.Expr.{Expr}
use Rattle.path_model.specs.declared.path.Op.TheVariants.{Or}
use Rattle.path_model.specs.declared.path.Step.{Step}
use Rattle.path_model.specs.declared.path.XPath.{out-XPath}
use Rattle.path_model.specs.AxisPrograms.{along}
use Rattle.path_model.specs.Evaluation as program
use Rattle.path_model.specs.Evaluation.{in_order, kept_by, operands, settled, taken, filtered, start}
use Rattle.path_model.specs.Functions.{Value, Context, keeps}
use Rattle.path_model.specs.Paths as paths
use Rattle.path_model.specs.PlainPaths.{plain, plain_row, plain_way}
use Rattle.path_model.specs.Positions.{Position, passes}
use Rattle.path_model.specs.Programs.{Program, ends, and_then, gathered}
use Rattle.path_model.specs.Values.{nodes, flag, truth, same_flag}
use Rattle.xpath_axes.specs.Kept.{holds}
use Rattle.xpath_axes.specs.Positions.{all_plain}
use Rattle.xpath_axes.specs.Positions as position
use Rattle.xpath_axes.proofs.Running.{left_is, begins, no_run, goes, ended, each_goes, item_next, runs_as, and_then-ends, and_then-and_then}
use Rattle.xpath_eval.specs.Values.{meant, all_meant}
use Rattle.xpath_eval.specs.inside.Chains.{both, chain_from, chain_of, linked}
use Rattle.xpath_eval.specs.inside.Contexts.{stands}
use Rattle.xpath_axes.specs.Wholes.{IsWhole, StandsBefore}
use Rattle.xpath_eval.specs.inside.Steps.{from_node}
use Rattle.xpath_eval.proofs.Chains.{grouped_is, apply_is}
use Rattle.xpath_eval.proofs.Opened.{take_all, plain_append, plain_length, step_is, path_is, apply_opened, first_is, drop_all, chain_done, meant_pushed, operands_next, kept_next}
use Rattle.xpath_eval.proofs.Memos.{then_kept}
use Rattle.xpath_eval.proofs.Parts.{later, run_is, answer_is, made_of, one_by_one, each_starts, on_tree}
use Rattle.xpath_eval.proofs.PlacedNodes.{kept_number}
use Rattle.xpath_eval.specs.inside.Places.{at_place, place_of}
use Rattle.xpath_eval.proofs.DownSteps.{whole_after, row_taken, in_its_place}
use Rattle.xpath_eval.proofs.expressions.+evaluation.Goals as goal

pub apply-returns-in_ok-values-in_default : goal.apply-returns-in_ok-values-in_default
apply-returns-in_ok-values-in_default g t c =
    let reads = g.S.NodeRead.reads in
    let saw = g.W.Looks.saw in
    let nothing = g.met.W.Looks.saw_nothing in
    let further = g.met.W.Looks.saw_further in
    let seqs = g.met.S.NodeRead in
    let es = plain_row c.args.operands.now in
    let k = stands c.args.context.now in
    let o = c.args.op in
    let one = c.in_ok-values-in_default.ensures in
    let two = c.applied.ensures in
    record {
      run = on_tree _ _ _ _ c.applied.result (λ u a stands_for h.
          run_is reads saw u (apply_is o es k c.in_default.not-Or c.in_default.not-And)
          (one_by_one reads saw u nothing further (operands es k) (λ us. program.applied o us k) (one.run u stands_for)
          (run_is reads saw u (ap (λ vs. program.applied o (all_meant vs) k) c.as_slice.ensures) (h (later _ _ u (seqs.unchanged_contents _ _ one.unchanged) stands_for))))) two.run;
      unchanged = seqs.unchanged_onward _ _ _ one.unchanged two.unchanged;
      cause = subst (λ n. HasCause DiskFault n (g.S.NodeRead.count c.applied.new.seq) c.applied.result) one.cause.exact two.cause;
    }

pub link-returns-clause-run : goal.link-returns-clause-run
link-returns-clause-run g t c =
    let reads = g.S.NodeRead.reads in
    let saw = g.W.Looks.saw in
    let nothing = g.met.W.Looks.saw_nothing in
    let further = g.met.W.Looks.saw_further in
    let seqs = g.met.S.NodeRead in
    let v = meant c.args.left in
    let e = plain c.args.operand.now in
    let k = stands c.args.context.now in
    let o = c.args.op in
    let one = c.in_ok-right.ensures in
    on_tree _ _ _ _ c.both.result (λ u a stands_for h.
    run_is reads saw u (ap (λ b. if b then ends (flag (truth v)) else and_then (program.value e k) (λ z. both o v z k)) (sym c.if-is_decided.false ∙ c.is_decided.ensures))
    (one_by_one reads saw u nothing further (program.value e k) (λ z. both o v z k) (one.run u stands_for) (h (later _ _ u (seqs.unchanged_contents _ _ one.unchanged) stands_for)))) c.both.ensures.run

pub chain-loop-index-init : goal.chain-loop-index-init
chain-loop-index-init g t c =
    let reads = g.S.NodeRead.reads in
    let saw = g.W.Looks.saw in
    let nothing = g.met.W.Looks.saw_nothing in
    let further = g.met.W.Looks.saw_further in
    let seqs = g.met.S.NodeRead in
    let rest : List Expr = take (length c.args.operands.now - 1) (drop 1 c.args.operands.now) in
    let x = c.first-item.result in
    let k = stands c.args.context.now in
    let ops = c.args.operators.now in
    let long = c.in-len1-up.len_at_least in
    record {
      same = c.in_ok-left.ensures.unchanged;
      counted = c.in_ok-left.ensures.cause.exact;
      left = λ u stands_for.
          goes reads saw u nothing further (program.value (plain x) k) (λ v. chain_from v ops (map plain rest) k)
          (left_is reads saw u (ap (λ es. chain_of es ops k) (first_is c.args.operands.now x long c.first-item.is) ∙ grouped_is (plain x) ops (map plain rest) k)
          (begins reads saw u nothing further (chain_of c.args.operands.now ops k) c.args.seq.now c.args.looks.now)) (c.in_ok-left.ensures.run u stands_for);
    }

pub chain-loop-index-preserved : goal.chain-loop-index-preserved
chain-loop-index-preserved g t c =
    let reads = g.S.NodeRead.reads in
    let saw = g.W.Looks.saw in
    let nothing = g.met.W.Looks.saw_nothing in
    let further = g.met.W.Looks.saw_further in
    let seqs = g.met.S.NodeRead in
    let rest : List Expr = take (length c.args.operands.now - 1) (drop 1 c.args.operands.now) in
    let i = c.loop-index.index in
    let inv = c.loop-index.invariant in
    let x = c.index-rest-index.result in
    let k = stands c.args.context.now in
    let ops = c.args.operators.now in
    let o = slice_index_or ops i Or in
    let v = meant c.loop-index.left in
    record {
      same = seqs.unchanged_onward _ _ _ inv.same c.in_ok-left-2.ensures.unchanged;
      counted = c.in_ok-left-2.ensures.cause.exact ∙ inv.counted;
      left = λ u stands_for.
          goes reads saw u nothing further (linked o v (plain x) k) (λ z. chain_from z (drop (i + 1) ops) (map plain (drop (i + 1) rest)) k)
          (left_is reads saw u (ap (λ os. chain_from v os (map plain (drop i rest)) k) (drop_more ops i Or (omega arith)) ∙ ap (λ es. chain_from v (o ∷ drop (i + 1) ops) (map plain es) k) (item_next rest i x (omega arith) c.index-rest-index.is))
          (inv.left u stands_for)) (c.in_ok-left-2.ensures.run u (later _ _ u (seqs.unchanged_contents _ _ inv.same) stands_for));
    }

pub chain-returns-clause-run : goal.chain-returns-clause-run
chain-returns-clause-run g t c =
    let reads = g.S.NodeRead.reads in
    let saw = g.W.Looks.saw in
    let nothing = g.met.W.Looks.saw_nothing in
    let further = g.met.W.Looks.saw_further in
    let seqs = g.met.S.NodeRead in
    let rest : List Expr = take (length c.args.operands.now - 1) (drop 1 c.args.operands.now) in
    let i = c.loop-index.index in
    let inv = c.loop-index.invariant in
    let k = stands c.args.context.now in
    let v = meant c.loop-index.left in
    let ops = drop i c.args.operators.now in
    λ u stands_for. ended reads saw u nothing further
    (left_is reads saw u (ap (λ es. chain_from v ops (map plain es) k) (drop_all i rest (omega arith)) ∙ chain_done v ops k) (inv.left u stands_for))

pub filtered-loop-test-preserved : goal.filtered-loop-test-preserved
filtered-loop-test-preserved g t c =
    let reads = g.S.NodeRead.reads in
    let saw = g.W.Looks.saw in
    let nothing = g.met.W.Looks.saw_nothing in
    let further = g.met.W.Looks.saw_further in
    let seqs = g.met.S.NodeRead in
    let i = c.loop-test.test-index in
    let inv = c.loop-test.invariant in
    let x = c.test-item.result in
    let tests = c.args.tests.now in
    let from = all_plain c.loop-test.left in
    record {
      same = seqs.unchanged_onward _ _ _ inv.same c.in_ok-left.ensures.unchanged;
      counted = c.in_ok-left.ensures.cause.exact ∙ inv.counted;
      left = λ u stands_for.
          goes reads saw u nothing further (kept_by (λ k. program.value (plain x) k) (length from) 1 from) (λ ks. filtered (plain_row (drop (i + 1) tests)) ks)
          (left_is reads saw u (ap (λ es. filtered (plain_row es) from) (item_next tests i x (omega arith) c.test-item.is)) (inv.left u stands_for))
          (c.in_ok-left.ensures.run u (later _ _ u (seqs.unchanged_contents _ _ inv.same) stands_for));
    }

pub settled-returns-then-is_same-clause-run : goal.settled-returns-then-is_same-clause-run
settled-returns-then-is_same-clause-run g t c =
    let reads = g.S.NodeRead.reads in
    let saw = g.W.Looks.saw in
    let nothing = g.met.W.Looks.saw_nothing in
    let further = g.met.W.Looks.saw_further in
    let seqs = g.met.S.NodeRead in
    let i = c.loop-operand.operand-index in
    let inv = c.loop-operand.invariant in
    let x = c.operand-item.result in
    let es = c.args.operands.now in
    let k = stands c.args.context.now in
    let by = c.args.by in
    let v = meant c.in_ok-one.one in
    let e = ap (same_flag by) (sym c.truth.ensures) ∙ sym c.is_same.ensures ∙ c.if-is_same.true in
    λ u stands_for. ended reads saw u nothing further
    (left_is reads saw u (ap (λ b. if b then ends (flag by) else settled by (plain_row (drop (i + 1) es)) k) e) (goes reads saw u nothing further (program.value (plain x) k) (λ z. if same_flag by (truth z) then ends (flag by) else settled by (plain_row (drop (i + 1) es)) k)
    (left_is reads saw u (ap (λ ys. settled by (plain_row ys) k) (item_next es i x (omega arith) c.operand-item.is)) (inv.left u stands_for))
    (c.in_ok-one.ensures.run u (later _ _ u (seqs.unchanged_contents _ _ inv.same) stands_for))))

pub settled-loop-operand-preserved : goal.settled-loop-operand-preserved
settled-loop-operand-preserved g t c =
    let reads = g.S.NodeRead.reads in
    let saw = g.W.Looks.saw in
    let nothing = g.met.W.Looks.saw_nothing in
    let further = g.met.W.Looks.saw_further in
    let seqs = g.met.S.NodeRead in
    let i = c.loop-operand.operand-index in
    let inv = c.loop-operand.invariant in
    let x = c.operand-item.result in
    let es = c.args.operands.now in
    let k = stands c.args.context.now in
    let by = c.args.by in
    let v = meant c.in_ok-one.one in
    let e = ap (same_flag by) (sym c.truth.ensures) ∙ sym c.is_same.ensures ∙ c.if-is_same.false in
    record {
      same = seqs.unchanged_onward _ _ _ inv.same c.in_ok-one.ensures.unchanged;
      counted = c.in_ok-one.ensures.cause.exact ∙ inv.counted;
      left = λ u stands_for. left_is reads saw u (ap (λ b. if b then ends (flag by) else settled by (plain_row (drop (i + 1) es)) k) e) (goes reads saw u nothing further (program.value (plain x) k) (λ z. if same_flag by (truth z) then ends (flag by) else settled by (plain_row (drop (i + 1) es)) k)
          (left_is reads saw u (ap (λ ys. settled by (plain_row ys) k) (item_next es i x (omega arith) c.operand-item.is)) (inv.left u stands_for))
          (c.in_ok-one.ensures.run u (later _ _ u (seqs.unchanged_contents _ _ inv.same) stands_for)));
    }

pub stepped-loop-node-init : goal.stepped-loop-node-init
stepped-loop-node-init g t c =
    let reads = g.S.NodeRead.reads in
    let saw = g.W.Looks.saw in
    let nothing = g.met.W.Looks.saw_nothing in
    let further = g.met.W.Looks.saw_further in
    let seqs = g.met.S.NodeRead in
    record {
      same = seqs.unchanged_itself c.args.seq.now;
      counted = refl;
      left = λ u stands_for. each_starts reads saw u nothing further (from_node c.args.step.now) (all_plain c.args.from.now) c.args.seq.now c.args.looks.now (ap all_plain c.new-all.ensures);
    }

pub stepped-loop-node-preserved : goal.stepped-loop-node-preserved
stepped-loop-node-preserved g t c =
    let reads = g.S.NodeRead.reads in
    let saw = g.W.Looks.saw in
    let nothing = g.met.W.Looks.saw_nothing in
    let further = g.met.W.Looks.saw_further in
    let seqs = g.met.S.NodeRead in
    let i = c.loop-node.node-index in
    let inv = c.loop-node.invariant in
    let x = c.node-item.result in
    let one = c.in_ok-kept.ensures in
    record {
      same = seqs.unchanged_onward _ _ _ inv.same one.unchanged;
      counted = one.cause.exact ∙ inv.counted;
      left = λ u stands_for.
          each_goes reads saw u nothing further (from_node c.args.step.now) (position.plain x) (all_plain (drop (i + 1) c.args.from.now)) (all_plain c.loop-node.all)
          (ap all_plain (item_next c.args.from.now i x (omega arith) c.node-item.is))
          (ap all_plain c.in_ok-put_behind.ensures ∙ plain_append c.loop-node.all c.in_ok-kept.kept)
          (inv.left u stands_for)
          (one.run u (later _ _ u (seqs.unchanged_contents _ _ inv.same) stands_for));
    }

pub stepped_ahead-loop-index-init : goal.stepped_ahead-loop-index-init
stepped_ahead-loop-index-init g t c =
    let reads = g.S.NodeRead.reads in
    let saw = g.W.Looks.saw in
    let nothing = g.met.W.Looks.saw_nothing in
    let further = g.met.W.Looks.saw_further in
    let seqs = g.met.S.NodeRead in
    record {
      same = seqs.unchanged_itself c.args.seq.now;
      counted = refl;
      left = λ u stands_for _. each_starts reads saw u nothing further (from_node c.args.step.now) (all_plain c.args.whole.now) c.args.seq.now c.args.looks.now (ap all_plain c.new-all.ensures);
    }

pub stepped_ahead-loop-index-preserved : goal.stepped_ahead-loop-index-preserved
stepped_ahead-loop-index-preserved g t c =
    let reads = g.S.NodeRead.reads in
    let saw = g.W.Looks.saw in
    let nothing = g.met.W.Looks.saw_nothing in
    let further = g.met.W.Looks.saw_further in
    let seqs = g.met.S.NodeRead in
    let i = c.loop-index.index in
    let inv = c.loop-index.invariant in
    let x = c.index-whole-index.result in
    let s = c.args.step.now in
    let whole = c.args.whole.now in
    let rest = all_plain (drop (i + 1) whole) in
    let next = item_next whole i x (omega arith) c.index-whole-index.is in
    let two = c.in_ok-kept.ensures in
    let axis : s.axis ≡ Child = c.requires.child in
    record {
      same = seqs.unchanged_onward _ _ _ inv.same two.unchanged;
      counted = two.cause.exact ∙ inv.counted;
      left = λ u stands_for is_whole.
          let now = later _ _ u (seqs.unchanged_contents _ _ inv.same) stands_for in
          let behind = drop (i + 1) whole in
          let all_behind : behind ≡ take (length whole - (i + 1)) behind = sym (take_all behind (length whole - (i + 1)) (sym (length-drop (i + 1) whole))) in
          let stands_before : StandsBefore u (position.plain x) (all_plain (take (length whole - (i + 1)) behind)) = (all_plain (take i whole), subst (IsWhole u) (ap all_plain (in_its_place whole i x next) ∙ plain_append (take i whole) (x ∷ behind) ∙ ap (λ xs. all_plain (take i whole) ++ position.plain x ∷ all_plain xs) all_behind) (is_whole refl)) in
          let found = c.in_ok-found.ensures.children u stands_for.valid stands_before in
          let f : List Position → List Position = λ ms. filter (passes Child s.test) ms in
          let ways : Program (List Position) = along Child s.test (position.plain x) in
          each_goes reads saw u nothing further (from_node s) (position.plain x) rest (all_plain c.loop-index.all)
          (ap all_plain next)
          (ap all_plain c.in_ok-put_behind.ensures ∙ plain_append c.loop-index.all c.in_ok-kept.kept)
          (inv.left u stands_for is_whole)
          (run_is reads saw u (and_then-and_then ways (λ ms. ends (f ms)) (λ ms. filtered (plain_row s.tests) ms) ∙ (λ j. and_then (along (sym axis j) s.test (position.plain x)) (λ ms. filtered (plain_row s.tests) (filter (passes (sym axis j) s.test) ms))))
          (one_by_one reads saw u nothing further (and_then ways (λ ms. ends (f ms))) (λ ms. filtered (plain_row s.tests) ms)
          (row_taken u stands_for.valid reads saw s.test (position.plain x) _ _ _ _ found (c.in_ok-found.ensures.noted u))
          (run_is reads saw u (ap (λ ts. filtered (plain_row ts) (all_plain c.in_ok-found.found)) c.as_slice.ensures) (two.run u now))));
    }

pub taken-loop-step-preserved : goal.taken-loop-step-preserved
taken-loop-step-preserved g t c =
    let reads = g.S.NodeRead.reads in
    let saw = g.W.Looks.saw in
    let nothing = g.met.W.Looks.saw_nothing in
    let further = g.met.W.Looks.saw_further in
    let seqs = g.met.S.NodeRead in
    let i = c.loop-step.step-index in
    let inv = c.loop-step.invariant in
    let x : Step = c.step-item.result in
    let steps = c.args.steps.now in
    let rest = plain_way (drop (i + 1) steps) in
    let from = all_plain c.loop-step.nodes in
    let now : (u : Tree) → StandsFor (g.S.NodeRead.contents c.args.seq.now) u → StandsFor (g.S.NodeRead.contents c.loop-step.seq) u = λ u stands_for. later _ _ u (seqs.unchanged_contents _ _ inv.same) stands_for in
    let over : (u : Tree) → StandsFor (g.S.NodeRead.contents c.args.seq.now) u → saw u c.args.looks.now [] c.args.looks.now → IsTrue c.loop-step.is_whole → IsWhole u (all_plain c.as_slice-before.result.now) =
    λ u stands_for known down. subst (λ ns. IsWhole u (all_plain ns)) (sym c.as_slice-before.ensures) (inv.whole u stands_for known down) in
    record {
      same = seqs.unchanged_onward _ _ _ inv.same c.in_ok-found.ensures.unchanged;
      counted = c.in_ok-found.ensures.cause.exact ∙ inv.counted;
      left = λ u stands_for. record {
        so_far = λ known.
            (left_is reads saw u (ap (λ ns. taken rest ns) (sym c.in_ok-nodes.ensures))
            (goes reads saw u nothing further (gathered (from_node x) from) (λ all. taken rest (in_order all))
            (left_is reads saw u (ap (λ ss. taken (plain_way ss) from) (item_next steps i x (omega arith) c.step-item.is) ∙ ap (λ p. taken p from) (step_is x rest)) (inv.left u stands_for))
            (run_is reads saw u (ap (λ ns. gathered (from_node x) (all_plain ns)) c.as_slice-before.ensures) (c.in_ok-found.ensures.run u (now u stands_for) (over u stands_for known))))).so_far known;
      };
      whole = λ u stands_for known down.
          let come = (inv.left u stands_for).so_far known in
          let run = (c.in_ok-found.ensures.run u (now u stands_for) (over u stands_for known)).run (nothing u _ _ _ come.went.noted) in
          subst (IsWhole u) (sym (c.in_ok-nodes.ensures ∙ ap in_order run.is)) (whole_after u stands_for.valid x _ (c.leads_down-goes_down.ensures down));
    }

pub value-returns-in_ok-nodes-in-Path-clause-run : goal.value-returns-in_ok-nodes-in-Path-clause-run
value-returns-in_ok-nodes-in-Path-clause-run g t c =
    let reads = g.S.NodeRead.reads in
    let saw = g.W.Looks.saw in
    let nothing = g.met.W.Looks.saw_nothing in
    let further = g.met.W.Looks.saw_further in
    let seqs = g.met.S.NodeRead in
    let p = c.in-Path.path in
    let k = stands c.args.context.now in
    let from = start (out-XPath p).absolute k.at in
    let way = plain_way (out-XPath p).steps in
    let one = c.in_ok-from-in-Path.ensures in
    let two = c.in_ok-nodes-in-Path.ensures in
    λ u stands_for.
    run_is reads saw u (ap (λ z. program.value z k) (sym (path_is p)) ∙ ap (λ z. program.value (plain z) k) (sym c.in-Path.is))
    (answer_is reads saw u (ap (λ ns. nodes (all_plain ns)) (sym c.into_vec.ensures))
    (made_of reads saw u nothing further (and_then from (λ ns. taken way ns)) (λ ns. nodes ns)
    (one_by_one reads saw u nothing further from (λ ns. taken way ns) (one.run u stands_for)
    (run_is reads saw u (ap (λ ss. taken (plain_way ss) (all_plain c.in_ok-from-in-Path.from)) c.as_slice.ensures) (two.run u (later _ _ u (seqs.unchanged_contents _ _ one.unchanged) stands_for))))))

pub value-returns-in-Apply-clause-run : goal.value-returns-in-Apply-clause-run
value-returns-in-Apply-clause-run g t c =
    let reads = g.S.NodeRead.reads in
    let saw = g.W.Looks.saw in
    let nothing = g.met.W.Looks.saw_nothing in
    let further = g.met.W.Looks.saw_further in
    let seqs = g.met.S.NodeRead in
    let k = stands c.args.context.now in
    let o = c.in-Apply.op in
    runs_as reads saw g.S.NodeRead.contents meant c.args.seq.now c.args.looks.now c.apply.result c.apply.new.seq c.apply.new.looks
    (ap (λ es. program.value (paths.apply o (plain_row es)) k) c.as_slice-in-Apply.ensures ∙ ap (λ z. program.value z k) (sym (apply_opened o c.in-Apply.operands)) ∙ ap (λ z. program.value (plain z) k) (sym c.in-Apply.is)) c.apply.ensures.run

pub values_of-loop-operand-init : goal.values_of-loop-operand-init
values_of-loop-operand-init g t c =
    let reads = g.S.NodeRead.reads in
    let saw = g.W.Looks.saw in
    let nothing = g.met.W.Looks.saw_nothing in
    let further = g.met.W.Looks.saw_further in
    let seqs = g.met.S.NodeRead in
    let all = operands (plain_row c.args.operands.now) (stands c.args.context.now) in
    record {
      same = seqs.unchanged_itself c.args.seq.now;
      counted = refl;
      left = λ u stands_for. left_is reads saw u (sym (and_then-ends all) ∙ (λ i. and_then all (λ more. ends (all_meant (sym c.new-values.ensures i) ++ more)))) (begins reads saw u nothing further all c.args.seq.now c.args.looks.now);
    }

pub values_of-loop-operand-preserved : goal.values_of-loop-operand-preserved
values_of-loop-operand-preserved g t c =
    let reads = g.S.NodeRead.reads in
    let saw = g.W.Looks.saw in
    let nothing = g.met.W.Looks.saw_nothing in
    let further = g.met.W.Looks.saw_further in
    let seqs = g.met.S.NodeRead in
    let i = c.loop-operand.operand-index in
    let inv = c.loop-operand.invariant in
    let x = c.operand-item.result in
    let es = c.args.operands.now in
    let k = stands c.args.context.now in
    let so_far = all_meant c.loop-operand.values in
    let rest = plain_row (drop (i + 1) es) in
    record {
      same = seqs.unchanged_onward _ _ _ inv.same c.in_ok-value.ensures.unchanged;
      counted = c.in_ok-value.ensures.cause.exact ∙ inv.counted;
      left = λ u stands_for.
          left_is reads saw u (λ j. and_then (operands rest k) (λ more. ends (sym (ap all_meant c.in_ok-push.ensures.ok ∙ meant_pushed c.loop-operand.values c.in_ok-value.field-0) j ++ more)))
          (goes reads saw u nothing further (program.value (plain x) k) (λ v. and_then (operands rest k) (λ more. ends ((so_far ++ v ∷ []) ++ more)))
          (left_is reads saw u (ap (λ ys. and_then (operands (plain_row ys) k) (λ more. ends (so_far ++ more))) (item_next es i x (omega arith) c.operand-item.is) ∙ operands_next (plain x) rest k so_far) (inv.left u stands_for))
          (c.in_ok-value.ensures.run u (later _ _ u (seqs.unchanged_contents _ _ inv.same) stands_for)));
    }

pub kept_one_by_one-loop-index-init : goal.kept_one_by_one-loop-index-init
kept_one_by_one-loop-index-init g t c =
    let reads = g.S.NodeRead.reads in
    let saw = g.W.Looks.saw in
    let nothing = g.met.W.Looks.saw_nothing in
    let further = g.met.W.Looks.saw_further in
    let seqs = g.met.S.NodeRead in
    let ns = all_plain c.args.nodes in
    let test : Context → Program Value = λ k. program.value (plain c.args.test.now) k in
    let all = kept_by test (length ns) 1 ns in
    record {
      same = seqs.unchanged_itself c.args.seq.now;
      counted = refl;
      left = λ u stands_for. left_is reads saw u (sym (and_then-ends all) ∙ (λ i. and_then all (λ more. ends (all_plain (sym c.new-kept.ensures i) ++ more)))) (begins reads saw u nothing further all c.args.seq.now c.args.looks.now);
    }

pub kept_one_by_one-loop-index-preserved : goal.kept_one_by_one-loop-index-preserved
kept_one_by_one-loop-index-preserved g t c =
    let reads = g.S.NodeRead.reads in
    let saw = g.W.Looks.saw in
    let nothing = g.met.W.Looks.saw_nothing in
    let further = g.met.W.Looks.saw_further in
    let seqs = g.met.S.NodeRead in
    let i = c.loop-index.index in
    let inv = c.loop-index.invariant in
    let x = c.node-item.result in
    let ns = c.args.nodes in
    let xs = c.deref-node-items.result.now in
    let same : xs ≡ ns = c.deref-node-items.ensures.value ∙ c.into_vec-nodes.ensures in
    let size = length (all_plain ns) in
    let test : Context → Program Value = λ k. program.value (plain c.args.test.now) k in
    let so_far = all_plain c.loop-index.kept in
    let rest = all_plain (drop (i + 1) ns) in
    let of_size : c.len.result ≡ size = c.len.ensures ∙ sym c.deref-node-items.ensures.len ∙ ap length same ∙ sym (plain_length ns) in
    let kept : Bool → List Position = λ b. if b then position.plain x ∷ [] else [] in
    let here : ℕ → Context = λ z. record { at = position.plain x; proximity = i + 1; size = z } in
    let behind : Bool → Program (List Position) = λ b. and_then (kept_by test size (i + 1 + 1) rest) (λ more. ends ((so_far ++ kept b) ++ more)) in
    record {
      same = seqs.unchanged_onward _ _ _ inv.same c.in_ok-is_kept.ensures.unchanged;
      counted = c.in_ok-is_kept.ensures.cause.exact ∙ inv.counted;
      left = λ u stands_for.
          left_is reads saw u (λ j. and_then (kept_by test size (i + 1 + 1) rest) (λ more. ends (sym c.in_ok-keep_if.ensures j ++ more)))
          (goes reads saw u nothing further (holds (plain c.args.test.now) (here size)) behind
          (left_is reads saw u (ap (λ ys. and_then (kept_by test size (i + 1) (all_plain ys)) (λ more. ends (so_far ++ more))) (subst (λ (ys : List _). drop i ys ≡ x ∷ drop (i + 1) ys) same (item_next xs i x (omega arith) c.node-item.is))
          ∙ kept_next test size (i + 1) (position.plain x) rest so_far ∙ sym (and_then-and_then (test (here size)) (λ v. ends (keeps v (i + 1))) behind)) (inv.left u stands_for))
          (run_is reads saw u (ap (λ z. holds (plain c.args.test.now) (here z)) of_size) (c.in_ok-is_kept.ensures.run u (later _ _ u (seqs.unchanged_contents _ _ inv.same) stands_for))));
    }

pub holds-returns-clause-run : goal.holds-returns-clause-run
holds-returns-clause-run g t c =
    let reads = g.S.NodeRead.reads in
    let saw = g.W.Looks.saw in
    let nothing = g.met.W.Looks.saw_nothing in
    let further = g.met.W.Looks.saw_further in
    let again = g.met.W.Looks.saw_again in
    let e = plain c.args.test.now in
    let k = stands c.args.context.now in
    λ u stands_for. then_kept reads saw u nothing further again (holds e k) c.keeps-holds.result
    (answer_is reads saw u (sym c.keeps-holds.ensures) (made_of reads saw u nothing further (program.value e k) (λ v. keeps v k.proximity) (c.in_ok-found.ensures.run u stands_for)))
    (c.in_ok-keep.ensures u)

pub stepped_from-returns-in_default-clause-run : goal.stepped_from-returns-in_default-clause-run
stepped_from-returns-in_default-clause-run g t c =
    let reads = g.S.NodeRead.reads in
    let saw = g.W.Looks.saw in
    let nothing = g.met.W.Looks.saw_nothing in
    let further = g.met.W.Looks.saw_further in
    let seqs = g.met.S.NodeRead in
    let s = c.args.step.now in
    let f : List Position → List Position = λ ms. filter (passes s.axis s.test) ms in
    let ways : Program (List Position) = along s.axis s.test (position.plain c.args.from.now) in
    let behind : List Position → Program (List Position) = λ ms. filtered (plain_row s.tests) ms in
    let one = c.in_ok-found.ensures in
    on_tree _ _ _ _ c.filtered.result (λ u a stands_for h.
    run_is reads saw u (and_then-and_then ways (λ ms. ends (f ms)) behind)
    (one_by_one reads saw u nothing further (and_then ways (λ ms. ends (f ms))) behind (one.run u stands_for)
    (run_is reads saw u (ap (λ ts. filtered (plain_row ts) (all_plain c.in_ok-found.found)) c.as_slice-tests.ensures) (h (later _ _ u (seqs.unchanged_contents _ _ one.unchanged) stands_for))))) c.filtered.ensures.run

pub stepped_from-returns-clause-run : goal.stepped_from-returns-clause-run
stepped_from-returns-clause-run g t c =
    let reads = g.S.NodeRead.reads in
    let saw = g.W.Looks.saw in
    let nothing = g.met.W.Looks.saw_nothing in
    let further = g.met.W.Looks.saw_further in
    let seqs = g.met.S.NodeRead in
    let s = c.args.step.now in
    let f : List Position → List Position = λ ms. filter (passes s.axis s.test) ms in
    let ways : Program (List Position) = along s.axis s.test (position.plain c.args.from.now) in
    let behind : List Position → Program (List Position) = λ ms. filtered (plain_row s.tests) ms in
    let first : List Position → Program (List Position) = λ ms. ends (take c.in-Some.room (f ms)) in
    let is_enough : (ms : List Position) → behind (take c.in-Some.room ms) ≡ behind ms = λ ms. ap (λ ts. filtered (plain_row ts) (take c.in-Some.room ms)) (sym c.as_slice-tests.ensures) ∙ c.in-Some.ensures ms ∙ ap (λ ts. filtered (plain_row ts) ms) c.as_slice-tests.ensures in
    let one = c.in_ok-found-2.ensures in
    on_tree _ _ _ _ c.filtered-2.result (λ u a stands_for h.
    run_is reads saw u (and_then-and_then ways first behind ∙ (λ i. and_then ways (λ ms. is_enough (f ms) i)))
    (one_by_one reads saw u nothing further (and_then ways first) behind (one.run u stands_for)
    (run_is reads saw u (ap (λ ts. filtered (plain_row ts) (all_plain c.in_ok-found-2.found)) c.as_slice-tests.ensures) (h (later _ _ u (seqs.unchanged_contents _ _ one.unchanged) stands_for))))) c.filtered-2.ensures.run

pub kept-returns-clause-run : goal.kept-returns-clause-run
kept-returns-clause-run g t c =
    let reads = g.S.NodeRead.reads in
    let saw = g.W.Looks.saw in
    let nothing = g.met.W.Looks.saw_nothing in
    let further = g.met.W.Looks.saw_further in
    let ns = all_plain c.args.nodes in
    let z = c.in-Some.number in
    let fits : FitsSigned w64 z = search rules in
    λ u stands_for.
    run_is reads saw u (sym (c.in-Some.ensures (length ns) 1 ns ∙ kept_number z (length ns) ns))
    (answer_is reads saw u (sym (c.in_ok-at_place.ensures ∙ ap (λ p. at_place p ns) (ap place_of (to_z-of_z w64 z fits)))) (no_run reads saw u nothing further _ c.args.seq.now c.args.looks.now))
