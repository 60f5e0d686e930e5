-- Paths are read back: their steps one behind the other, alone, as operands and as arguments.
use Rattle.std.proofs.Common.{◌≡◌, ℕ, zero, suc, ◌+◌, ◌≤◌, Bool, true, false, cond, not, ◌&&◌, List, [], ◌∷◌, ◌++◌, map, length, Option, None, Some, Ok, Err, refl, ap, sym, ◌∙◌, append_assoc, append-nil, arith}
use Rattle.std.proofs.lemmas.Bool.{true≢false}
use Rattle.std.specs.List.{AllByRecursion}
use Rattle.std.specs.Prelude.{codes, encode_utf8_all}
use lib.Utf8.{scalars}
use Rattle.path_model.specs.Lawful.{deepest}
use Rattle.path_model.specs.declared.path.Expr.TheVariants as e
use Rattle.path_model.specs.declared.path.Op.TheVariants as op
use Rattle.path_model.specs.declared.path.Step.{Step}
use Rattle.path_model.specs.declared.path.XPath.{XPath}
use Rattle.xpath_parser.specs.declared.lex.Kind.{Kind}
use Rattle.xpath_parser.specs.declared.lex.Kind.TheVariants as k
use Rattle.xpath_parser.specs.declared.refusal.Refusal.TheVariants.{Unsupported}
use Rattle.xpath_parser.specs.declared.refusal.What.{What}
use Rattle.xpath_parser.specs.declared.refusal.What.TheVariants as what
use Rattle.xpath_parser.specs.Grammar.{is_foreign, is_operator, begins_expression, begins_step, make_path, any_below, open_part, step_by, named_step, step, steps_from, steps, steps_on, from_document, path_by, path, lone_path, argument_path, call, named_operand, operand_by, operand, unary, inside}
use Rattle.xpath_parser.specs.Input.{Outcome, and_then, kind, spelling, next, sees, same_kind, pure}
use Rattle.xpath_parser.specs.Lex.{Text, skip}
use Rattle.xpath_parser.specs.Words.{is_node_type}
use Rattle.xpath_parser.proofs.Rules.{goes_on}
use Rattle.xpath_parser.specs.PathText.{Written, word, behind, path_written, written_step}
use Rattle.xpath_parser.proofs.TextTokens.{Stands, stands, kind_of, slash_token}
use Rattle.xpath_parser.proofs.TextFacts.{saw, Stops, Closed}
use Rattle.xpath_parser.proofs.StepBacks.{StepBack, PathBack, Ends, ends_of, seen, longer_word}

-- a step is read back as it was written
abbrev pub BackStep : Step → Type 0
BackStep s = StepBack s (written_step s)

abbrev slash : Text
slash = codes "/"

slash_stands : (z : Text) → skip z ≡ z → Stands k.Slash slash (word slash z) z
slash_stands z start = stands k.Slash slash z slash_token start

-- ---- further steps

ways_start : (ss : List Step) (z : Text) → skip z ≡ z → skip (behind slash (map written_step ss) z) ≡ behind slash (map written_step ss) z
ways_start [] z start = start
ways_start (s ∷ ss) z start = slash_token.begins _

ways_end : (ss : List Step) (z : Text) → AllByRecursion BackStep ss → Ends z → Ends (behind slash (map written_step ss) z)
ways_end [] z all h = h
ways_end (s ∷ ss) z all h =
    let stand = slash_stands ((written_step s).before (behind slash (map written_step ss) z)) (all.0.text.start _) in
    record { start = slash_token.begins _; call = seen k.Slash slash _ _ k.Open stand; bracket = seen k.Slash slash _ _ k.OpenBracket stand }

ways_long : (ss : List Step) (z : Text) → AllByRecursion BackStep ss → length ss + length z ≤ length (behind slash (map written_step ss) z)
ways_long [] z all = omega arith
ways_long (s ∷ ss) z all =
    let y = behind slash (map written_step ss) z in
    let rest = ways_long ss z all.1 in
    let own = all.0.text.long y in
    let front = longer_word slash ((written_step s).before y) in
    omega (arith, rest, own, front)

ways_scalar : (ss : List Step) (z : Text) → AllByRecursion BackStep ss → scalars z ≡ true → scalars (behind slash (map written_step ss) z) ≡ true
ways_scalar [] z all h = h
ways_scalar (s ∷ ss) z all h = all.0.text.scalar (behind slash (map written_step ss) z) (ways_scalar ss z all.1 h)

module _ (room : ℕ) where
  on_slash : ℕ → List Step → Text → Outcome (List Step)
  on_slash n found i = and_then (step room (inside room) None (next i)) (λ s. steps_from room (inside room) n (found ++ s ∷ []))

  on_double : ℕ → List Step → Text → Outcome (List Step)
  on_double n found i = and_then (step room (inside room) None (next i)) (λ s. steps_from room (inside room) n ((found ++ any_below ∷ []) ++ s ∷ []))

  steps_from_read : (n : ℕ) (ss found : List Step) (z : Text) → AllByRecursion BackStep ss → deepest (map (λ s. s.parts) (map written_step ss)) ≤ room → length ss ≤ n → (m : ℕ) → Stops m z
      → steps_from room (inside room) n found (behind slash (map written_step ss) z) ≡ Ok (found ++ ss, z)
  unfolding steps_from on_slash on_double
  steps_from_read zero [] found z all deep many m h = ap (λ l. Ok (l, z)) (sym (append-nil found))
  steps_from_read zero (s ∷ ss) found z all deep many m h = absurd (omega (arith, many))
  steps_from_read (suc n) [] found z all deep many m h =
      ap (λ b. cond b (on_slash n found z) (cond (sees k.DoubleSlash z) (on_double n found z) (Ok (found, z)))) h.slash
      ∙ (ap (λ b. cond b (on_double n found z) (Ok (found, z))) h.double ∙ ap (λ l. Ok (l, z)) (sym (append-nil found)))
  steps_from_read (suc n) (s ∷ ss) found z all deep many m h =
      let j2 = behind slash (map written_step ss) z in
      let j1 = (written_step s).before j2 in
      let i = word slash j1 in
      let stand : Stands k.Slash slash i j1 = slash_stands j1 (all.0.text.start j2) in
      let is : step room (inside room) None (next i) ≡ Ok (s, j2) =
      ap (step room (inside room) None) stand.next_is ∙ all.0.reads room None j2 (omega (arith, deep)) (ways_end ss z all.1 (ends_of m z h)) in
      ap (λ b. cond b (on_slash n found i) (cond (sees k.DoubleSlash i) (on_double n found i) (Ok (found, i)))) (seen k.Slash slash i j1 k.Slash stand)
      ∙ (goes_on (λ s. steps_from room (inside room) n (found ++ s ∷ [])) s j2 is
      ∙ (steps_from_read n ss (found ++ s ∷ []) z all.1 (omega (arith, deep)) (omega (arith, many)) m h ∙ ap (λ l. Ok (l, z)) (append_assoc found (s ∷ []) ss)))

  steps_read : (ss found : List Step) (z : Text) → AllByRecursion BackStep ss → deepest (map (λ s. s.parts) (map written_step ss)) ≤ room → (m : ℕ) → Stops m z
      → steps room (inside room) found (behind slash (map written_step ss) z) ≡ Ok (found ++ ss, z)
  unfolding steps
  steps_read ss found z all deep m h = let long = ways_long ss z all in steps_from_read (length (behind slash (map written_step ss) z)) ss found z all deep (omega (arith, long)) m h

  -- a step and those behind it
  steps_on_read : (call : Option What) (s : Step) (ss : List Step) (z : Text) → BackStep s → AllByRecursion BackStep ss → deepest (map (λ s. s.parts) (map written_step (s ∷ ss))) ≤ room → (m : ℕ) → Stops m z
      → steps_on room (inside room) call [] ((written_step s).before (behind slash (map written_step ss) z)) ≡ Ok (s ∷ ss, z)
  unfolding steps_on
  steps_on_read call s ss z one all deep m h =
      let j = behind slash (map written_step ss) z in
      goes_on (λ s. steps room (inside room) (s ∷ [])) s j (one.reads room call j (omega (arith, deep)) (ways_end ss z all (ends_of m z h)))
      ∙ steps_read ss (s ∷ []) z all (omega (arith, deep)) m h

  from_document_read : (s : Step) (ss : List Step) (z : Text) → BackStep s → AllByRecursion BackStep ss → deepest (map (λ s. s.parts) (map written_step (s ∷ ss))) ≤ room → (m : ℕ) → Stops m z
      → from_document room (inside room) ((written_step s).before (behind slash (map written_step ss) z)) ≡ Ok (make_path true (s ∷ ss), z)
  unfolding from_document
  from_document_read s ss z one all deep m h =
      let j = (written_step s).before (behind slash (map written_step ss) z) in
      ap (λ b. cond b (and_then (steps_on room (inside room) None [] j) (λ ss. pure (make_path true ss))) (Ok (make_path true [], j))) (ap begins_step (one.name _))
      ∙ goes_on (λ ss. pure (make_path true ss)) (s ∷ ss) z (steps_on_read None s ss z one all deep m h)

  document_read : (z : Text) → begins_step (kind z) ≡ false → from_document room (inside room) z ≡ Ok (make_path true [], z)
  unfolding from_document
  document_read z h = ap (λ b. cond b (and_then (steps_on room (inside room) None [] z) (λ ss. pure (make_path true ss))) (Ok (make_path true [], z))) h

  -- ---- as an operand

  pub no_minus : (i : Text) (found : Kind) → kind i ≡ found → same_kind found k.Minus ≡ false → unary room (inside room) i ≡ operand_by room (inside room) found i
  unfolding unary operand
  no_minus i found is other =
      ap (λ b. cond b (and_then (and_then (open_part room (inside room) i) (λ _. inside room 0)) (λ x. pure (e.Apply op.Negate (x ∷ [])))) (operand_by room (inside room) (kind i) i)) (saw i found k.Minus is ∙ other)
      ∙ ap (λ kind. operand_by room (inside room) kind i) is

  slash_operand : (i z : Text) (p : XPath) → kind i ≡ k.Slash → path room (inside room) None i ≡ Ok (p, z) → unary room (inside room) i ≡ Ok (e.Path p, z)
  slash_operand i z p is reads = no_minus i k.Slash is refl ∙ goes_on (λ p. pure (e.Path p)) p z reads

  named_is_step : (i : Text) → kind i ≡ k.Name → named_step room (inside room) None (encode_utf8_all (spelling i)) (next i) ≡ step room (inside room) None i
  unfolding step
  named_is_step i is = ap (λ kind. step_by room (inside room) None kind i) (sym is)

  not_called : (name : List ℕ) (i : Text) → sees k.Open i ≡ false
      → named_operand room (inside room) name i ≡ and_then (named_step room (inside room) None name i) (λ s j. and_then (steps room (inside room) (s ∷ []) j) (λ ss. pure (e.Path (make_path false ss))))
  unfolding named_operand
  not_called name i other =
      ap (λ b. cond (b && not (is_node_type name)) (call room (inside room) name i) (and_then (named_step room (inside room) None name i) (λ s j. and_then (steps room (inside room) (s ∷ []) j) (λ ss. pure (e.Path (make_path false ss)))))) other

  step_operand : (s : Step) (ss : List Step) (z : Text) → BackStep s → AllByRecursion BackStep ss → deepest (map (λ s. s.parts) (map written_step (s ∷ ss))) ≤ room → (m : ℕ) → Stops m z
      → unary room (inside room) ((written_step s).before (behind slash (map written_step ss) z)) ≡ Ok (e.Path (make_path false (s ∷ ss)), z)
  step_operand s ss z one all deep m h =
      let j = behind slash (map written_step ss) z in
      let i = (written_step s).before j in
      no_minus i k.Name (one.name j) refl
      ∙ (not_called (encode_utf8_all (spelling i)) (next i) (one.call j)
      ∙ (goes_on (λ s j. and_then (steps room (inside room) (s ∷ []) j) (λ ss. pure (e.Path (make_path false ss)))) s j
      (named_is_step i (one.name j) ∙ one.reads room None j (omega (arith, deep)) (ways_end ss z all (ends_of m z h)))
      ∙ goes_on (λ ss. pure (e.Path (make_path false ss))) (s ∷ ss) z (steps_read ss (s ∷ []) z all (omega (arith, deep)) m h)))

  -- ---- by itself

  absolute_path : (call : Option What) (i z : Text) (p : XPath) → kind i ≡ k.Slash → from_document room (inside room) (next i) ≡ Ok (p, z) → path room (inside room) call i ≡ Ok (p, z)
  unfolding path
  absolute_path call i z p is reads = ap (λ kind. path_by room (inside room) call kind i) is ∙ reads

  relative_path : (call : Option What) (i z : Text) (ss : List Step) → kind i ≡ k.Name → steps_on room (inside room) call [] i ≡ Ok (ss, z) → path room (inside room) call i ≡ Ok (make_path false ss, z)
  unfolding path
  relative_path call i z ss is reads = ap (λ kind. path_by room (inside room) call kind i) is ∙ goes_on (λ ss. pure (make_path false ss)) ss z reads

-- where a path alone may stand
pub lone_reads : (p : XPath) (w : Written) → PathBack p w → (room : ℕ) (what : What) (z : Text) → w.parts ≤ room → Closed z → lone_path room (inside room) what (w.before z) ≡ Ok (p, z)
unfolding lone_path
lone_reads p w b room what z deep c =
    ap (λ b. cond b (Err (Unsupported what (length (w.before z)))) (path room (inside room) (Some what) (w.before z))) (b.begins z) ∙ b.reads room (Some what) z deep (c.stops 0) (λ _. c.step)

pub argument_reads : (p : XPath) (w : Written) → PathBack p w → (room : ℕ) (z : Text) → w.parts ≤ room → Closed z → argument_path room (inside room) (w.before z) ≡ Ok (e.Path p, z)
unfolding argument_path
argument_reads p w b room z deep c =
    goes_on (λ p i. cond (is_foreign i) (Err (Unsupported what.Operator (length i))) (cond (is_operator i) (Err (Unsupported what.Argument (length i))) (Ok (e.Path p, i)))) p z (lone_reads p w b room what.Argument z deep c)
    ∙ (ap (λ b. cond b (Err (Unsupported what.Operator (length z))) (cond (is_operator z) (Err (Unsupported what.Argument (length z))) (Ok (e.Path p, z)))) c.foreign
    ∙ ap (λ b. cond b (Err (Unsupported what.Argument (length z))) (Ok (e.Path p, z))) c.operator)

-- ---- the paths of steps

slash_kind : (z : Text) → kind (word slash z) ≡ k.Slash
slash_kind z = kind_of k.Slash slash z slash_token

root_is_read : PathBack (make_path true []) (path_written (record { absolute = true; steps = [] }))
root_is_read = record {
  text = record { start = λ z. slash_token.begins z; long = λ z. (let h = longer_word slash z in omega (arith, h)); scalar = λ z h. h };
  begins = λ z. ap begins_expression (slash_kind z);
  close = λ z. saw (word slash z) k.Slash k.Close (slash_kind z);
  level = refl;
  reads = reads;
  operand = λ room z deep h root. slash_operand room (word slash z) z (make_path true []) (slash_kind z) (reads room None z deep h root);
} where
  reads : (room : ℕ) (call : Option What) (z : Text) → 0 ≤ room → Stops 0 z → (true ≡ true → begins_step (kind z) ≡ false) → path room (inside room) call (word slash z) ≡ Ok (make_path true [], z)
  reads room call z deep h root =
      absolute_path room call (word slash z) z (make_path true []) (slash_kind z) (ap (from_document room (inside room)) (slash_stands z h.start).next_is ∙ document_read room z (root refl))

absolute_is_read : (s : Step) (ss : List Step) → BackStep s → AllByRecursion BackStep ss → PathBack (make_path true (s ∷ ss)) (path_written (record { absolute = true; steps = map written_step (s ∷ ss) }))
absolute_is_read s ss one all = record {
  text = record {
    start = λ z. slash_token.begins _;
    long = λ z. (let b = ways_long ss z all in let c = one.text.long (behind slash (map written_step ss) z) in let d = longer_word slash ((written_step s).before (behind slash (map written_step ss) z)) in omega (arith, b, c, d));
    scalar = λ z h. one.text.scalar _ (ways_scalar ss z all h);
  };
  begins = λ z. ap begins_expression (slash_kind _);
  close = λ z. saw _ k.Slash k.Close (slash_kind _);
  level = refl;
  reads = reads;
  operand = λ room z deep h root. slash_operand room _ z (make_path true (s ∷ ss)) (slash_kind _) (reads room None z deep h root);
} where
  reads : (room : ℕ) (call : Option What) (z : Text) → deepest (map (λ s. s.parts) (map written_step (s ∷ ss))) ≤ room → Stops 0 z → (false ≡ true → begins_step (kind z) ≡ false)
      → path room (inside room) call (word slash ((written_step s).before (behind slash (map written_step ss) z))) ≡ Ok (make_path true (s ∷ ss), z)
  reads room call z deep h root =
      let j = (written_step s).before (behind slash (map written_step ss) z) in
      absolute_path room call (word slash j) z (make_path true (s ∷ ss)) (slash_kind j) (ap (from_document room (inside room)) (slash_stands j (one.text.start _)).next_is ∙ from_document_read room s ss z one all deep 0 h)

relative_is_read : (s : Step) (ss : List Step) → BackStep s → AllByRecursion BackStep ss → PathBack (make_path false (s ∷ ss)) (path_written (record { absolute = false; steps = map written_step (s ∷ ss) }))
relative_is_read s ss one all = record {
  text = record {
    start = λ z. one.text.start _;
    long = λ z. (let b = ways_long ss z all in let c = one.text.long (behind slash (map written_step ss) z) in omega (arith, b, c));
    scalar = λ z h. one.text.scalar _ (ways_scalar ss z all h);
  };
  begins = λ z. ap begins_expression (one.name _);
  close = λ z. saw _ k.Name k.Close (one.name _);
  level = refl;
  reads = λ room call z deep h root. relative_path room call ((written_step s).before (behind slash (map written_step ss) z)) z (s ∷ ss) (one.name _) (steps_on_read room call s ss z one all deep 0 h);
  operand = λ room z deep h root. step_operand room s ss z one all deep 0 h;
}

-- a path is read back where each step is and it has one, or begins at the document
pub path_is_read : (b : Bool) (ss : List Step) → (path_written (record { absolute = b; steps = map written_step ss })).is_sayable ≡ true → AllByRecursion BackStep ss
    → PathBack (make_path b ss) (path_written (record { absolute = b; steps = map written_step ss }))
path_is_read true [] h all = root_is_read
path_is_read true (s ∷ ss) h all = absolute_is_read s ss all.0 all.1
path_is_read false [] h all = absurd (true≢false (sym h))
path_is_read false (s ∷ ss) h all = relative_is_read s ss all.0 all.1
