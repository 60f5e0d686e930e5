-- Each path that has a text is what its text is read as.
use Rattle.std.proofs.Common.{◌≡◌, ℤ, ℕ, zero, suc, ◌≤◌, Bool, true, false, cond, not, ◌||◌, ◌==◌, List, [], ◌∷◌, map, length, Ok, Err, pos, negsuc, refl, ap, ap₂, sym, ◌∙◌, ◌+◌, ◌<◌, ◌^◌, ◌++◌, Some, None, subst, arith}
use Rattle.std.proofs.lemmas.Bool.{and_parts, and_from, eqb-true, leb-true, ltb-true, true≢false}
use Rattle.std.proofs.lemmas.List.{length-map}
use Rattle.std.proofs.lemmas.Str.{chars-encodes, encodes-chars, IsUtf8-from_is_utf8, scalars-chars}
use Rattle.std.specs.List.{AllByRecursion, list_all, list_any}
use Rattle.std.specs.Prelude.{nat_le, nat_lt, decimal, is_some}
use Rattle.std.specs.Str.{chars, is_utf8}
use lib.Utf8.{scalar, scalars}
use Rattle.path_model.specs.Lawful.{form, is_formed_step, is_formed_path, precedence, links, applies, is_lawful, most_nested}
use Rattle.path_model.specs.Numbers.{bound, in_range}
use Rattle.path_model.specs.declared.path.Axis.{Axis}
use Rattle.path_model.specs.declared.path.Expr.{Expr}
use Rattle.path_model.specs.declared.path.Expr.TheVariants as e
use Rattle.path_model.specs.declared.path.NodeTest.{NodeTest}
use Rattle.path_model.specs.declared.path.Op.{Op}
use Rattle.path_model.specs.declared.path.Op.TheVariants as op
use Rattle.path_model.specs.declared.path.Step.{Step}
use Rattle.path_model.specs.declared.path.XPath.{XPath}
use Rattle.path_model.proofs.LawfulParts.{form-Path, form-Number, form-Literal, form-Chain, form-Apply, formed-step, formed-path}
use Rattle.xpath_parser.specs.declared.lex.Kind.TheVariants as k
use Rattle.xpath_parser.specs.declared.refusal.Refusal.TheVariants.{Syntax, Unsupported}
use Rattle.xpath_parser.specs.declared.refusal.What.TheVariants as what
use Rattle.xpath_parser.specs.Grammar.{make_step, make_path, is_foreign, is_operator, numbered_by, numbered, number_of, literal_of, quoted, unfiltered, whole}
use Rattle.xpath_parser.specs.Input.{kind, sees}
use Rattle.xpath_parser.specs.Lex.{Text, token, skip}
use Rattle.xpath_parser.specs.Parse.{path_in, parsed}
use Rattle.xpath_parser.proofs.Rules.{goes_on}
use Rattle.xpath_parser.specs.PathText.{Written, written, written_step, written_path, number_written, literal_written, chain_written, apply_written, literal_word, is_quotable, quote_of, is_sayable_test, all_sayable, none_of, text_of, has_text, word}
use Rattle.xpath_parser.proofs.TextTokens.{Stands, stands}
use Rattle.xpath_parser.proofs.TextValues.{number_token_is, number_is, digits_scalar, literal_token_is, literal_is}
use Rattle.xpath_parser.proofs.TextFacts.{Stops, closed_end}
use Rattle.xpath_parser.proofs.WrittenParts.{written-Path, written-Number, written-Literal, written-Chain, written-Apply, written-step, written-path, by_parts}
use Rattle.xpath_parser.proofs.StepBacks.{ReadsBack, PathBack, StepBack, Back, step_is_read, scalars_both}
use Rattle.xpath_parser.proofs.PathBacks.{BackStep, path_is_read, lone_reads}
use Rattle.xpath_parser.proofs.ExprBacks.{unfiltered_is, word_back, path_back, chain_back, apply_back}

-- ---- one level

back_as : (x : Expr) (is_path : Bool) (w : Written) → (form x).is_path ≡ is_path → written x ≡ w → ReadsBack x is_path w → Back x
back_as x is_path w same is b = subst (λ p. ReadsBack x p (written x)) (sym same) (subst (ReadsBack x is_path) (sym is) b)

number_reads : (room n : ℕ) (z : Text) → n ≤ bound → Stops 0 z → numbered (word (decimal n) z) ≡ Ok (e.Number (pos n), z)
unfolding numbered
number_reads room n z small s =
    let i = word (decimal n) z in
    let stand : Stands k.Number (decimal n) i z = stands k.Number (decimal n) z (number_token_is n small) s.start in
    ap (λ m. numbered_by m i) (ap number_of stand.spelling_is ∙ number_is n small) ∙ (ap (unfiltered (e.Number (pos n))) stand.next_is ∙ unfiltered_is 0 (e.Number (pos n)) z s)

number_back : (n : ℕ) → n ≤ bound → ReadsBack (e.Number (pos n)) false (number_written (pos n))
number_back n small = word_back (e.Number (pos n)) k.Number (decimal n) true (number_token_is n small) refl refl (digits_scalar n small) (λ room z s. number_reads room n z small s)

literal_reads : (s : List ℕ) (z : Text) → is_utf8 s ≡ true → is_quotable (chars s) ≡ true → Stops 0 z → quoted (word (literal_word (chars s)) z) ≡ Ok (e.Literal s, z)
unfolding quoted
literal_reads s z utf8 h stops =
    let stand : Stands k.Literal (literal_word (chars s)) (word (literal_word (chars s)) z) z = stands k.Literal (literal_word (chars s)) z (literal_token_is (chars s) h) stops.start in
    ap₂ (λ t j. unfiltered (e.Literal t) j) (ap literal_of stand.spelling_is ∙ (literal_is (chars s) ∙ encodes-chars s (IsUtf8-from_is_utf8 s utf8))) stand.next_is ∙ unfiltered_is 0 (e.Literal s) z stops

quoted_scalar : (q : ℕ) (cs : Text) → scalar q ≡ true → scalars cs ≡ true → scalars (q ∷ (cs ++ q ∷ [])) ≡ true
quoted_scalar q cs one all = and_from (scalar q) _ one (scalars_both cs (q ∷ []) all (and_from (scalar q) true one refl))

quote_scalar : (b : Bool) → scalar (cond b 39 34) ≡ true
quote_scalar true = refl
quote_scalar false = refl

literal_back : (s : List ℕ) → (literal_written s).is_sayable ≡ true → ReadsBack (e.Literal s) false (literal_written s)
literal_back s h =
    let p = and_parts (is_utf8 s) _ h in
    word_back (e.Literal s) k.Literal (literal_word (chars s)) (literal_written s).is_sayable (literal_token_is (chars s) p.1) refl refl
    (quoted_scalar (quote_of (chars s)) (chars s) (quote_scalar (list_any (λ c. c == 34) (chars s))) (scalars-chars s (IsUtf8-from_is_utf8 s p.0))) (λ room z stops. literal_reads s z p.0 p.1 stops)

small_number : (n : ℕ) → is_some (in_range (pos n)) ≡ true → n ≤ bound
small_number n h = elim (nat_le n bound) as (λ b. nat_le n bound ≡ b → is_some (cond b (Some (pos n)) None) ≡ true → n ≤ bound)
    [ true ↦ λ below h. leb-true n bound below | false ↦ λ above h. absurd (true≢false (sym h)) ] refl h

-- ---- all in a list

abbrev IfWritten : Expr → Type 0
IfWritten x = (form x).is_formed ≡ true → (written x).is_sayable ≡ true → Back x

all_back : (es : List Expr) → AllByRecursion IfWritten es → list_all (λ f. f.is_formed) (map form es) ≡ true → all_sayable (map written es) ≡ true → AllByRecursion Back es
all_back [] all formed sayable = tt
all_back (x ∷ es) all formed sayable =
    let p = and_parts (form x).is_formed _ formed in
    let q = and_parts (written x).is_sayable _ sayable in
    (all.0 p.0 q.0, all_back es all.1 p.1 q.1)

abbrev IfStep : Step → Type 0
IfStep s = is_formed_step s ≡ true → (written_step s).is_sayable ≡ true → BackStep s

all_steps : (ss : List Step) → AllByRecursion IfStep ss → list_all (λ b. b) (map is_formed_step ss) ≡ true → all_sayable (map written_step ss) ≡ true → AllByRecursion BackStep ss
all_steps [] all formed sayable = tt
all_steps (s ∷ ss) all formed sayable =
    let p = and_parts (is_formed_step s) _ formed in
    let q = and_parts (written_step s).is_sayable _ sayable in
    (all.0 p.0 q.0, all_steps ss all.1 p.1 q.1)

abbrev IfPath : XPath → Type 0
IfPath p = is_formed_path p ≡ true → (written_path p).is_sayable ≡ true → PathBack p (written_path p)

-- ---- all levels

expr_of_path : (p : XPath) → IfPath p → IfWritten (e.Path p)
expr_of_path p b formed sayable =
    back_as (e.Path p) true (written_path p) (ap (λ f. f.is_path) (form-Path p)) (written-Path p)
    (path_back p (written_path p) (b (sym (ap (λ f. f.is_formed) (form-Path p)) ∙ formed) (sym (ap (λ w. w.is_sayable) (written-Path p)) ∙ sayable)))

expr_of_number : (z : ℤ) → IfWritten (e.Number z)
expr_of_number (pos n) formed sayable =
    back_as (e.Number (pos n)) false (number_written (pos n)) (ap (λ f. f.is_path) (form-Number (pos n))) (written-Number (pos n)) (number_back n (small_number n (sym (ap (λ f. f.is_formed) (form-Number (pos n))) ∙ formed)))
expr_of_number (negsuc n) formed sayable = absurd (true≢false (sym sayable ∙ ap (λ w. w.is_sayable) (written-Number (negsuc n))))

expr_of_literal : (s : List ℕ) → IfWritten (e.Literal s)
expr_of_literal s formed sayable =
    back_as (e.Literal s) false (literal_written s) (ap (λ f. f.is_path) (form-Literal s)) (written-Literal s) (literal_back s (sym (ap (λ w. w.is_sayable) (written-Literal s)) ∙ sayable))

same_levels : (o : Op) (ops : List Op) → list_all (λ p. precedence p == precedence o) ops ≡ true → (n : ℕ) → precedence o ≡ n → AllByRecursion (λ p. precedence p ≡ n) ops
same_levels o [] h n is = tt
same_levels o (p ∷ ops) h n is = let q = and_parts (precedence p == precedence o) _ h in (eqb-true (precedence p) (precedence o) q.0 ∙ is, same_levels o ops q.1 n is)

chain_of_level : (x y : Expr) (es : List Expr) (o : Op) (ops : List Op) (n : ℕ) → precedence o ≡ n → 0 < n → list_all (λ p. precedence p == precedence o) ops ≡ true → length es ≡ length ops → Back x → Back y → AllByRecursion Back es
    → ReadsBack (e.Chain (x ∷ y ∷ es) (o ∷ ops)) false (chain_written (map written (x ∷ y ∷ es)) (o ∷ ops))
chain_of_level x y es o ops zero is some levels same one two all = absurd (omega (arith, some))
chain_of_level x y es o ops (suc m) is some levels same one two all = chain_back x y es o ops m is (is, same_levels o ops levels (suc m) is) same one two all

chain_of_links : (es : List Expr) (ops : List Op) → links (length (map form es)) ops ≡ true → AllByRecursion Back es → ReadsBack (e.Chain es ops) false (chain_written (map written es) ops)
chain_of_links es [] h all = absurd (true≢false (sym h))
chain_of_links [] (o ∷ ops) h all = absurd (let p = eqb-true 0 (length ops + 2) (and_parts (0 == length ops + 2) _ h).0 in omega (arith, p))
chain_of_links (x ∷ []) (o ∷ ops) h all = absurd (let p = eqb-true 1 (length ops + 2) (and_parts (1 == length ops + 2) _ h).0 in omega (arith, p))
chain_of_links (x ∷ y ∷ es) (o ∷ ops) h all =
    let p = and_parts (length (map form (x ∷ y ∷ es)) == length ops + 2) _ h in
    let q = and_parts (nat_lt 0 (precedence o)) _ p.1 in
    let many = eqb-true (length (map form (x ∷ y ∷ es))) (length ops + 2) p.0 in
    let same = length-map es form in
    chain_of_level x y es o ops (precedence o) refl (ltb-true 0 (precedence o) q.0) q.1 (omega (arith, many, same)) all.0 all.1.0 all.1.1

expr_of_chain : (es : List Expr) (ops : List Op) → AllByRecursion IfWritten es → IfWritten (e.Chain es ops)
expr_of_chain es ops all formed sayable =
    let f = and_parts (links (length (map form es)) ops) _ (sym (ap (λ f. f.is_formed) (form-Chain es ops)) ∙ formed) in
    back_as (e.Chain es ops) false (chain_written (map written es) ops) (ap (λ f. f.is_path) (form-Chain es ops)) (written-Chain es ops)
    (chain_of_links es ops f.0 (all_back es all f.1 (sym (ap (λ w. w.is_sayable) (written-Chain es ops)) ∙ sayable)))

apply_sayable : (o : Op) (es : List Expr) → (apply_written o (map written es)).is_sayable ≡ true → all_sayable (map written es) ≡ true
apply_sayable op.Or es h = (and_parts (nat_lt (length (map written es)) (2 ^ 64)) _ h).1
apply_sayable op.And es h = (and_parts (nat_lt (length (map written es)) (2 ^ 64)) _ h).1
apply_sayable op.Eq es h = (and_parts (nat_lt (length (map written es)) (2 ^ 64)) _ h).1
apply_sayable op.Ne es h = (and_parts (nat_lt (length (map written es)) (2 ^ 64)) _ h).1
apply_sayable op.Lt es h = (and_parts (nat_lt (length (map written es)) (2 ^ 64)) _ h).1
apply_sayable op.Le es h = (and_parts (nat_lt (length (map written es)) (2 ^ 64)) _ h).1
apply_sayable op.Gt es h = (and_parts (nat_lt (length (map written es)) (2 ^ 64)) _ h).1
apply_sayable op.Ge es h = (and_parts (nat_lt (length (map written es)) (2 ^ 64)) _ h).1
apply_sayable op.Add es h = (and_parts (nat_lt (length (map written es)) (2 ^ 64)) _ h).1
apply_sayable op.Sub es h = (and_parts (nat_lt (length (map written es)) (2 ^ 64)) _ h).1
apply_sayable op.Mul es h = (and_parts (nat_lt (length (map written es)) (2 ^ 64)) _ h).1
apply_sayable op.Negate es h = h
apply_sayable op.Position es h = (and_parts (nat_lt (length (map written es)) (2 ^ 64)) _ h).1
apply_sayable op.Last es h = (and_parts (nat_lt (length (map written es)) (2 ^ 64)) _ h).1
apply_sayable op.Count es h = (and_parts (nat_lt (length (map written es)) (2 ^ 64)) _ h).1
apply_sayable op.Sum es h = (and_parts (nat_lt (length (map written es)) (2 ^ 64)) _ h).1
apply_sayable op.NameOf es h = (and_parts (nat_lt (length (map written es)) (2 ^ 64)) _ h).1
apply_sayable op.StringOf es h = (and_parts (nat_lt (length (map written es)) (2 ^ 64)) _ h).1
apply_sayable op.Concat es h = (and_parts (nat_lt (length (map written es)) (2 ^ 64)) _ h).1
apply_sayable op.StartsWith es h = (and_parts (nat_lt (length (map written es)) (2 ^ 64)) _ h).1
apply_sayable op.Contains es h = (and_parts (nat_lt (length (map written es)) (2 ^ 64)) _ h).1
apply_sayable op.SubstringBefore es h = (and_parts (nat_lt (length (map written es)) (2 ^ 64)) _ h).1
apply_sayable op.SubstringAfter es h = (and_parts (nat_lt (length (map written es)) (2 ^ 64)) _ h).1
apply_sayable op.Substring es h = (and_parts (nat_lt (length (map written es)) (2 ^ 64)) _ h).1
apply_sayable op.StringLength es h = (and_parts (nat_lt (length (map written es)) (2 ^ 64)) _ h).1
apply_sayable op.NormalizeSpace es h = (and_parts (nat_lt (length (map written es)) (2 ^ 64)) _ h).1
apply_sayable op.BooleanOf es h = (and_parts (nat_lt (length (map written es)) (2 ^ 64)) _ h).1
apply_sayable op.Not es h = (and_parts (nat_lt (length (map written es)) (2 ^ 64)) _ h).1
apply_sayable op.TrueOf es h = (and_parts (nat_lt (length (map written es)) (2 ^ 64)) _ h).1
apply_sayable op.FalseOf es h = (and_parts (nat_lt (length (map written es)) (2 ^ 64)) _ h).1
apply_sayable op.NumberOf es h = (and_parts (nat_lt (length (map written es)) (2 ^ 64)) _ h).1

expr_of_apply : (o : Op) (es : List Expr) → AllByRecursion IfWritten es → IfWritten (e.Apply o es)
expr_of_apply o es all formed sayable =
    let f = and_parts (applies o (map form es)) _ (sym (ap (λ f. f.is_formed) (form-Apply o es)) ∙ formed) in
    let s = sym (ap (λ w. w.is_sayable) (written-Apply o es)) ∙ sayable in
    back_as (e.Apply o es) false (apply_written o (map written es)) (ap (λ f. f.is_path) (form-Apply o es)) (written-Apply o es)
    (apply_back o es f.0 s (all_back es all f.1 (apply_sayable o es s)))

step_of_parts : (a : Axis) (t : NodeTest) (es : List Expr) → AllByRecursion IfWritten es → IfStep (make_step a t es)
step_of_parts a t es all formed sayable =
    let h = and_parts (is_sayable_test t) _ (sym (ap (λ w. w.is_sayable) (written-step a t es)) ∙ sayable) in
    subst (StepBack (make_step a t es)) (sym (written-step a t es)) (step_is_read a t es h.0 (all_back es all (sym (formed-step a t es) ∙ formed) h.1))

path_of_steps : (b : Bool) (ss : List Step) → AllByRecursion IfStep ss → IfPath (make_path b ss)
path_of_steps b ss all formed sayable =
    let h = sym (ap (λ w. w.is_sayable) (written-path b ss)) ∙ sayable in
    subst (PathBack (make_path b ss)) (sym (written-path b ss)) (path_is_read b ss h (all_steps ss all (sym (formed-path b ss) ∙ formed) (and_parts (b || not (none_of (map written_step ss))) _ h).1))

path_back_all : (p : XPath) → IfPath p
path_back_all = by_parts IfWritten IfStep IfPath expr_of_path expr_of_number expr_of_literal expr_of_chain expr_of_apply step_of_parts path_of_steps

-- ---- whole texts

end_seen : sees k.End [] ≡ true
unfolding sees kind token
end_seen = refl

whole_reads : (p : XPath) (w : Written) → PathBack p w → w.parts ≤ most_nested → whole (w.before []) ≡ Ok (p, [])
whole_reads p w b deep =
    goes_on (λ p i. cond (sees k.End i) (Ok (p, i)) (cond (is_foreign i || is_operator i) (Err (Unsupported what.Expression (length i))) (Err (Syntax (length i))))) p [] (lone_reads p w b most_nested what.Expression [] deep closed_end)
    ∙ ap (λ b. cond b (Ok (p, [])) (cond (is_foreign [] || is_operator []) (Err (Unsupported what.Expression (length {A = ℕ} []))) (Err (Syntax (length {A = ℕ} []))))) end_seen

pub read_back : (p : XPath) → has_text p ≡ true → parsed (text_of p) ≡ Ok p
unfolding text_of
read_back p h =
    let q = and_parts (is_lawful p) _ h in
    let r = and_parts (written_path p).is_sayable _ q.1 in
    let b = path_back_all p (and_parts (is_formed_path p) _ q.0).0 r.0 in
    let cs = (written_path p).before [] in
    ap (λ z. path_in z (whole (skip z))) (chars-encodes cs (b.text.scalar [] refl))
    ∙ (ap (λ z. path_in cs (whole z)) (b.text.start []) ∙ ap (path_in cs) (whole_reads p (written_path p) b (leb-true (written_path p).parts most_nested r.1)))
