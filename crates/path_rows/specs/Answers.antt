-- Paths over the small document, and the places of the positions that libxml2 finds by each (written by `tools/path_answers | tools/path_rows`).
use Rattle.std.specs.Prelude.{true, false, List, [], ◌∷◌, codes, pos}
use Rattle.path_model.specs.declared.path.Axis.TheVariants.{Child, Descendant, Parent, Ancestor, FollowingSibling, PrecedingSibling, Following, Preceding, SelfNode, DescendantOrSelf, AncestorOrSelf, Attribute}
use Rattle.path_model.specs.declared.path.NodeTest.TheVariants as test
use Rattle.path_model.specs.declared.path.Op.TheVariants.{Or, And, Eq, Ne, Lt, Gt, Add, Sub, Mul, Negate, Position, Last, Count, Sum, NameOf, StringOf, Concat, StartsWith, Contains, SubstringBefore, SubstringAfter, Substring, StringLength, NormalizeSpace, BooleanOf, Not, TrueOf, FalseOf, NumberOf}
use Rattle.path_model.specs.Paths.{path, number, literal, apply, no_more, then_expr, no_steps, step, binary}
use Rattle.path_rows.specs.Document.{Row, row}

unfoldable pub step_rows : List Row
step_rows =
    -- /*
    row true (step Child test.Any no_more (no_steps)) (1 ∷ []) ∷
    -- //*
    row true (step DescendantOrSelf test.Node no_more (step Child test.Any no_more (no_steps))) (1 ∷ 3 ∷ 7 ∷ 8 ∷ 11 ∷ 13 ∷ 15 ∷ 19 ∷ 21 ∷ []) ∷
    -- /a/*
    row true (step Child (test.Name (codes "a")) no_more (step Child test.Any no_more (no_steps))) (3 ∷ 7 ∷ 19 ∷ 21 ∷ []) ∷
    -- /b
    row true (step Child (test.Name (codes "b")) no_more (no_steps)) ([]) ∷
    -- //b
    row true (step DescendantOrSelf test.Node no_more (step Child (test.Name (codes "b")) no_more (no_steps))) (3 ∷ 8 ∷ 13 ∷ 19 ∷ []) ∷
    -- /a/b
    row true (step Child (test.Name (codes "a")) no_more (step Child (test.Name (codes "b")) no_more (no_steps))) (3 ∷ 19 ∷ []) ∷
    -- /c
    row true (step Child (test.Name (codes "c")) no_more (no_steps)) ([]) ∷
    -- //c
    row true (step DescendantOrSelf test.Node no_more (step Child (test.Name (codes "c")) no_more (no_steps))) (7 ∷ []) ∷
    -- /a/c
    row true (step Child (test.Name (codes "a")) no_more (step Child (test.Name (codes "c")) no_more (no_steps))) (7 ∷ []) ∷
    -- /node()
    row true (step Child test.Node no_more (no_steps)) (1 ∷ []) ∷
    -- //node()
    row true (step DescendantOrSelf test.Node no_more (step Child test.Node no_more (no_steps))) (1 ∷ 3 ∷ 6 ∷ 7 ∷ 8 ∷ 10 ∷ 11 ∷ 12 ∷ 13 ∷ 15 ∷ 16 ∷ 17 ∷ 18 ∷ 19 ∷ 21 ∷ 23 ∷ []) ∷
    -- /a/node()
    row true (step Child (test.Name (codes "a")) no_more (step Child test.Node no_more (no_steps))) (3 ∷ 7 ∷ 18 ∷ 19 ∷ 21 ∷ []) ∷
    -- /text()
    row true (step Child test.Text no_more (no_steps)) ([]) ∷
    -- //text()
    row true (step DescendantOrSelf test.Node no_more (step Child test.Text no_more (no_steps))) (6 ∷ 10 ∷ 12 ∷ 16 ∷ 17 ∷ 18 ∷ 23 ∷ []) ∷
    -- /a/text()
    row true (step Child (test.Name (codes "a")) no_more (step Child test.Text no_more (no_steps))) (18 ∷ []) ∷
    -- /@k
    row true (step Attribute (test.Name (codes "k")) no_more (no_steps)) ([]) ∷
    -- //@k
    row true (step DescendantOrSelf test.Node no_more (step Attribute (test.Name (codes "k")) no_more (no_steps))) (2 ∷ 4 ∷ 9 ∷ 14 ∷ 20 ∷ 22 ∷ []) ∷
    -- /a/@k
    row true (step Child (test.Name (codes "a")) no_more (step Attribute (test.Name (codes "k")) no_more (no_steps))) (2 ∷ []) ∷
    -- /@*
    row true (step Attribute test.Any no_more (no_steps)) ([]) ∷
    -- //@*
    row true (step DescendantOrSelf test.Node no_more (step Attribute test.Any no_more (no_steps))) (2 ∷ 4 ∷ 5 ∷ 9 ∷ 14 ∷ 20 ∷ 22 ∷ []) ∷
    -- /a/@*
    row true (step Child (test.Name (codes "a")) no_more (step Attribute test.Any no_more (no_steps))) (2 ∷ []) ∷
    -- /..
    row true (step Parent test.Node no_more (no_steps)) ([]) ∷
    -- //..
    row true (step DescendantOrSelf test.Node no_more (step Parent test.Node no_more (no_steps))) (0 ∷ 1 ∷ 3 ∷ 7 ∷ 8 ∷ 13 ∷ 15 ∷ 21 ∷ []) ∷
    -- /a/..
    row true (step Child (test.Name (codes "a")) no_more (step Parent test.Node no_more (no_steps))) (0 ∷ []) ∷
    -- /.
    row true (step SelfNode test.Node no_more (no_steps)) (0 ∷ []) ∷
    -- //.
    row true (step DescendantOrSelf test.Node no_more (step SelfNode test.Node no_more (no_steps))) (0 ∷ 1 ∷ 3 ∷ 6 ∷ 7 ∷ 8 ∷ 10 ∷ 11 ∷ 12 ∷ 13 ∷ 15 ∷ 16 ∷ 17 ∷ 18 ∷ 19 ∷ 21 ∷ 23 ∷ []) ∷
    -- /a/.
    row true (step Child (test.Name (codes "a")) no_more (step SelfNode test.Node no_more (no_steps))) (1 ∷ []) ∷
    -- //node()/..
    row true (step DescendantOrSelf test.Node no_more (step Child test.Node no_more (step Parent test.Node no_more (no_steps)))) (0 ∷ 1 ∷ 3 ∷ 7 ∷ 8 ∷ 13 ∷ 15 ∷ 21 ∷ []) ∷
    -- //text()/../@k
    row true (step DescendantOrSelf test.Node no_more (step Child test.Text no_more (step Parent test.Node no_more (step Attribute (test.Name (codes "k")) no_more (no_steps))))) (2 ∷ 4 ∷ 9 ∷ 14 ∷ 22 ∷ []) ∷
    -- //@k/..
    row true (step DescendantOrSelf test.Node no_more (step Attribute (test.Name (codes "k")) no_more (step Parent test.Node no_more (no_steps)))) (1 ∷ 3 ∷ 8 ∷ 13 ∷ 19 ∷ 21 ∷ []) ∷
    -- /
    row true (no_steps) (0 ∷ []) ∷
    -- .
    row false (step SelfNode test.Node no_more (no_steps)) (0 ∷ []) ∷
    []

unfoldable pub axis_rows : List Row
axis_rows =
    -- //b/child::node()
    row true (step DescendantOrSelf test.Node no_more (step Child (test.Name (codes "b")) no_more (step Child test.Node no_more (no_steps)))) (6 ∷ 10 ∷ 15 ∷ 17 ∷ []) ∷
    -- //e/child::*
    row true (step DescendantOrSelf test.Node no_more (step Child (test.Name (codes "e")) no_more (step Child test.Any no_more (no_steps)))) ([]) ∷
    -- /a/c/child::node()[1]
    row true (step Child (test.Name (codes "a")) no_more (step Child (test.Name (codes "c")) no_more (step Child test.Node (then_expr (number (pos 1)) no_more) (no_steps)))) (8 ∷ []) ∷
    -- //b[2]/child::node()[2]
    row true (step DescendantOrSelf test.Node no_more (step Child (test.Name (codes "b")) (then_expr (number (pos 2)) no_more) (step Child test.Node (then_expr (number (pos 2)) no_more) (no_steps)))) (17 ∷ []) ∷
    -- //d/child::*[last()]
    row true (step DescendantOrSelf test.Node no_more (step Child (test.Name (codes "d")) no_more (step Child test.Any (then_expr (apply Last no_more) no_more) (no_steps)))) ([]) ∷
    -- //b/descendant::node()
    row true (step DescendantOrSelf test.Node no_more (step Child (test.Name (codes "b")) no_more (step Descendant test.Node no_more (no_steps)))) (6 ∷ 10 ∷ 15 ∷ 16 ∷ 17 ∷ []) ∷
    -- //e/descendant::*
    row true (step DescendantOrSelf test.Node no_more (step Child (test.Name (codes "e")) no_more (step Descendant test.Any no_more (no_steps)))) ([]) ∷
    -- /a/c/descendant::node()[1]
    row true (step Child (test.Name (codes "a")) no_more (step Child (test.Name (codes "c")) no_more (step Descendant test.Node (then_expr (number (pos 1)) no_more) (no_steps)))) (8 ∷ []) ∷
    -- //b[2]/descendant::node()[2]
    row true (step DescendantOrSelf test.Node no_more (step Child (test.Name (codes "b")) (then_expr (number (pos 2)) no_more) (step Descendant test.Node (then_expr (number (pos 2)) no_more) (no_steps)))) (16 ∷ []) ∷
    -- //d/descendant::*[last()]
    row true (step DescendantOrSelf test.Node no_more (step Child (test.Name (codes "d")) no_more (step Descendant test.Any (then_expr (apply Last no_more) no_more) (no_steps)))) ([]) ∷
    -- //b/parent::node()
    row true (step DescendantOrSelf test.Node no_more (step Child (test.Name (codes "b")) no_more (step Parent test.Node no_more (no_steps)))) (1 ∷ 7 ∷ []) ∷
    -- //e/parent::*
    row true (step DescendantOrSelf test.Node no_more (step Child (test.Name (codes "e")) no_more (step Parent test.Any no_more (no_steps)))) (13 ∷ []) ∷
    -- /a/c/parent::node()[1]
    row true (step Child (test.Name (codes "a")) no_more (step Child (test.Name (codes "c")) no_more (step Parent test.Node (then_expr (number (pos 1)) no_more) (no_steps)))) (1 ∷ []) ∷
    -- //b[2]/parent::node()[2]
    row true (step DescendantOrSelf test.Node no_more (step Child (test.Name (codes "b")) (then_expr (number (pos 2)) no_more) (step Parent test.Node (then_expr (number (pos 2)) no_more) (no_steps)))) ([]) ∷
    -- //d/parent::*[last()]
    row true (step DescendantOrSelf test.Node no_more (step Child (test.Name (codes "d")) no_more (step Parent test.Any (then_expr (apply Last no_more) no_more) (no_steps)))) (7 ∷ []) ∷
    -- //b/ancestor::node()
    row true (step DescendantOrSelf test.Node no_more (step Child (test.Name (codes "b")) no_more (step Ancestor test.Node no_more (no_steps)))) (0 ∷ 1 ∷ 7 ∷ []) ∷
    -- //e/ancestor::*
    row true (step DescendantOrSelf test.Node no_more (step Child (test.Name (codes "e")) no_more (step Ancestor test.Any no_more (no_steps)))) (1 ∷ 7 ∷ 13 ∷ []) ∷
    -- /a/c/ancestor::node()[1]
    row true (step Child (test.Name (codes "a")) no_more (step Child (test.Name (codes "c")) no_more (step Ancestor test.Node (then_expr (number (pos 1)) no_more) (no_steps)))) (1 ∷ []) ∷
    -- //b[2]/ancestor::node()[2]
    row true (step DescendantOrSelf test.Node no_more (step Child (test.Name (codes "b")) (then_expr (number (pos 2)) no_more) (step Ancestor test.Node (then_expr (number (pos 2)) no_more) (no_steps)))) (0 ∷ 1 ∷ []) ∷
    -- //d/ancestor::*[last()]
    row true (step DescendantOrSelf test.Node no_more (step Child (test.Name (codes "d")) no_more (step Ancestor test.Any (then_expr (apply Last no_more) no_more) (no_steps)))) (1 ∷ []) ∷
    -- //b/following-sibling::node()
    row true (step DescendantOrSelf test.Node no_more (step Child (test.Name (codes "b")) no_more (step FollowingSibling test.Node no_more (no_steps)))) (7 ∷ 11 ∷ 12 ∷ 13 ∷ 18 ∷ 19 ∷ 21 ∷ []) ∷
    -- //e/following-sibling::*
    row true (step DescendantOrSelf test.Node no_more (step Child (test.Name (codes "e")) no_more (step FollowingSibling test.Any no_more (no_steps)))) ([]) ∷
    -- /a/c/following-sibling::node()[1]
    row true (step Child (test.Name (codes "a")) no_more (step Child (test.Name (codes "c")) no_more (step FollowingSibling test.Node (then_expr (number (pos 1)) no_more) (no_steps)))) (18 ∷ []) ∷
    -- //b[2]/following-sibling::node()[2]
    row true (step DescendantOrSelf test.Node no_more (step Child (test.Name (codes "b")) (then_expr (number (pos 2)) no_more) (step FollowingSibling test.Node (then_expr (number (pos 2)) no_more) (no_steps)))) ([]) ∷
    -- //d/following-sibling::*[last()]
    row true (step DescendantOrSelf test.Node no_more (step Child (test.Name (codes "d")) no_more (step FollowingSibling test.Any (then_expr (apply Last no_more) no_more) (no_steps)))) (13 ∷ []) ∷
    -- //b/preceding-sibling::node()
    row true (step DescendantOrSelf test.Node no_more (step Child (test.Name (codes "b")) no_more (step PrecedingSibling test.Node no_more (no_steps)))) (3 ∷ 7 ∷ 8 ∷ 11 ∷ 12 ∷ 18 ∷ []) ∷
    -- //e/preceding-sibling::*
    row true (step DescendantOrSelf test.Node no_more (step Child (test.Name (codes "e")) no_more (step PrecedingSibling test.Any no_more (no_steps)))) ([]) ∷
    -- /a/c/preceding-sibling::node()[1]
    row true (step Child (test.Name (codes "a")) no_more (step Child (test.Name (codes "c")) no_more (step PrecedingSibling test.Node (then_expr (number (pos 1)) no_more) (no_steps)))) (3 ∷ []) ∷
    -- //b[2]/preceding-sibling::node()[2]
    row true (step DescendantOrSelf test.Node no_more (step Child (test.Name (codes "b")) (then_expr (number (pos 2)) no_more) (step PrecedingSibling test.Node (then_expr (number (pos 2)) no_more) (no_steps)))) (7 ∷ 11 ∷ []) ∷
    -- //d/preceding-sibling::*[last()]
    row true (step DescendantOrSelf test.Node no_more (step Child (test.Name (codes "d")) no_more (step PrecedingSibling test.Any (then_expr (apply Last no_more) no_more) (no_steps)))) (8 ∷ []) ∷
    -- //b/following::node()
    row true (step DescendantOrSelf test.Node no_more (step Child (test.Name (codes "b")) no_more (step Following test.Node no_more (no_steps)))) (7 ∷ 8 ∷ 10 ∷ 11 ∷ 12 ∷ 13 ∷ 15 ∷ 16 ∷ 17 ∷ 18 ∷ 19 ∷ 21 ∷ 23 ∷ []) ∷
    -- //e/following::*
    row true (step DescendantOrSelf test.Node no_more (step Child (test.Name (codes "e")) no_more (step Following test.Any no_more (no_steps)))) (19 ∷ 21 ∷ []) ∷
    -- /a/c/following::node()[1]
    row true (step Child (test.Name (codes "a")) no_more (step Child (test.Name (codes "c")) no_more (step Following test.Node (then_expr (number (pos 1)) no_more) (no_steps)))) (18 ∷ []) ∷
    -- //b[2]/following::node()[2]
    row true (step DescendantOrSelf test.Node no_more (step Child (test.Name (codes "b")) (then_expr (number (pos 2)) no_more) (step Following test.Node (then_expr (number (pos 2)) no_more) (no_steps)))) (19 ∷ 23 ∷ []) ∷
    -- //d/following::*[last()]
    row true (step DescendantOrSelf test.Node no_more (step Child (test.Name (codes "d")) no_more (step Following test.Any (then_expr (apply Last no_more) no_more) (no_steps)))) (21 ∷ []) ∷
    -- //b/preceding::node()
    row true (step DescendantOrSelf test.Node no_more (step Child (test.Name (codes "b")) no_more (step Preceding test.Node no_more (no_steps)))) (3 ∷ 6 ∷ 7 ∷ 8 ∷ 10 ∷ 11 ∷ 12 ∷ 13 ∷ 15 ∷ 16 ∷ 17 ∷ 18 ∷ []) ∷
    -- //e/preceding::*
    row true (step DescendantOrSelf test.Node no_more (step Child (test.Name (codes "e")) no_more (step Preceding test.Any no_more (no_steps)))) (3 ∷ 8 ∷ 11 ∷ []) ∷
    -- /a/c/preceding::node()[1]
    row true (step Child (test.Name (codes "a")) no_more (step Child (test.Name (codes "c")) no_more (step Preceding test.Node (then_expr (number (pos 1)) no_more) (no_steps)))) (6 ∷ []) ∷
    -- //b[2]/preceding::node()[2]
    row true (step DescendantOrSelf test.Node no_more (step Child (test.Name (codes "b")) (then_expr (number (pos 2)) no_more) (step Preceding test.Node (then_expr (number (pos 2)) no_more) (no_steps)))) (11 ∷ 17 ∷ []) ∷
    -- //d/preceding::*[last()]
    row true (step DescendantOrSelf test.Node no_more (step Child (test.Name (codes "d")) no_more (step Preceding test.Any (then_expr (apply Last no_more) no_more) (no_steps)))) (3 ∷ []) ∷
    -- //b/self::node()
    row true (step DescendantOrSelf test.Node no_more (step Child (test.Name (codes "b")) no_more (step SelfNode test.Node no_more (no_steps)))) (3 ∷ 8 ∷ 13 ∷ 19 ∷ []) ∷
    -- //e/self::*
    row true (step DescendantOrSelf test.Node no_more (step Child (test.Name (codes "e")) no_more (step SelfNode test.Any no_more (no_steps)))) (15 ∷ []) ∷
    -- /a/c/self::node()[1]
    row true (step Child (test.Name (codes "a")) no_more (step Child (test.Name (codes "c")) no_more (step SelfNode test.Node (then_expr (number (pos 1)) no_more) (no_steps)))) (7 ∷ []) ∷
    -- //b[2]/self::node()[2]
    row true (step DescendantOrSelf test.Node no_more (step Child (test.Name (codes "b")) (then_expr (number (pos 2)) no_more) (step SelfNode test.Node (then_expr (number (pos 2)) no_more) (no_steps)))) ([]) ∷
    -- //d/self::*[last()]
    row true (step DescendantOrSelf test.Node no_more (step Child (test.Name (codes "d")) no_more (step SelfNode test.Any (then_expr (apply Last no_more) no_more) (no_steps)))) (11 ∷ []) ∷
    -- //b/descendant-or-self::node()
    row true (step DescendantOrSelf test.Node no_more (step Child (test.Name (codes "b")) no_more (step DescendantOrSelf test.Node no_more (no_steps)))) (3 ∷ 6 ∷ 8 ∷ 10 ∷ 13 ∷ 15 ∷ 16 ∷ 17 ∷ 19 ∷ []) ∷
    -- //e/descendant-or-self::*
    row true (step DescendantOrSelf test.Node no_more (step Child (test.Name (codes "e")) no_more (step DescendantOrSelf test.Any no_more (no_steps)))) (15 ∷ []) ∷
    -- /a/c/descendant-or-self::node()[1]
    row true (step Child (test.Name (codes "a")) no_more (step Child (test.Name (codes "c")) no_more (step DescendantOrSelf test.Node (then_expr (number (pos 1)) no_more) (no_steps)))) (7 ∷ []) ∷
    -- //b[2]/descendant-or-self::node()[2]
    row true (step DescendantOrSelf test.Node no_more (step Child (test.Name (codes "b")) (then_expr (number (pos 2)) no_more) (step DescendantOrSelf test.Node (then_expr (number (pos 2)) no_more) (no_steps)))) (15 ∷ []) ∷
    -- //d/descendant-or-self::*[last()]
    row true (step DescendantOrSelf test.Node no_more (step Child (test.Name (codes "d")) no_more (step DescendantOrSelf test.Any (then_expr (apply Last no_more) no_more) (no_steps)))) (11 ∷ []) ∷
    -- //b/ancestor-or-self::node()
    row true (step DescendantOrSelf test.Node no_more (step Child (test.Name (codes "b")) no_more (step AncestorOrSelf test.Node no_more (no_steps)))) (0 ∷ 1 ∷ 3 ∷ 7 ∷ 8 ∷ 13 ∷ 19 ∷ []) ∷
    -- //e/ancestor-or-self::*
    row true (step DescendantOrSelf test.Node no_more (step Child (test.Name (codes "e")) no_more (step AncestorOrSelf test.Any no_more (no_steps)))) (1 ∷ 7 ∷ 13 ∷ 15 ∷ []) ∷
    -- /a/c/ancestor-or-self::node()[1]
    row true (step Child (test.Name (codes "a")) no_more (step Child (test.Name (codes "c")) no_more (step AncestorOrSelf test.Node (then_expr (number (pos 1)) no_more) (no_steps)))) (7 ∷ []) ∷
    -- //b[2]/ancestor-or-self::node()[2]
    row true (step DescendantOrSelf test.Node no_more (step Child (test.Name (codes "b")) (then_expr (number (pos 2)) no_more) (step AncestorOrSelf test.Node (then_expr (number (pos 2)) no_more) (no_steps)))) (1 ∷ 7 ∷ []) ∷
    -- //d/ancestor-or-self::*[last()]
    row true (step DescendantOrSelf test.Node no_more (step Child (test.Name (codes "d")) no_more (step AncestorOrSelf test.Any (then_expr (apply Last no_more) no_more) (no_steps)))) (1 ∷ []) ∷
    []

unfoldable pub predicate_rows : List Row
predicate_rows =
    -- //*[1]
    row true (step DescendantOrSelf test.Node no_more (step Child test.Any (then_expr (number (pos 1)) no_more) (no_steps))) (1 ∷ 3 ∷ 8 ∷ 15 ∷ []) ∷
    -- //*[2]
    row true (step DescendantOrSelf test.Node no_more (step Child test.Any (then_expr (number (pos 2)) no_more) (no_steps))) (7 ∷ 11 ∷ []) ∷
    -- //*[last()]
    row true (step DescendantOrSelf test.Node no_more (step Child test.Any (then_expr (apply Last no_more) no_more) (no_steps))) (1 ∷ 13 ∷ 15 ∷ 21 ∷ []) ∷
    -- //*[last()-1]
    row true (step DescendantOrSelf test.Node no_more (step Child test.Any (then_expr (binary Sub (apply Last no_more) (number (pos 1))) no_more) (no_steps))) (11 ∷ 19 ∷ []) ∷
    -- //*[position()=2]
    row true (step DescendantOrSelf test.Node no_more (step Child test.Any (then_expr (binary Eq (apply Position no_more) (number (pos 2))) no_more) (no_steps))) (7 ∷ 11 ∷ []) ∷
    -- //*[position()>1]
    row true (step DescendantOrSelf test.Node no_more (step Child test.Any (then_expr (binary Gt (apply Position no_more) (number (pos 1))) no_more) (no_steps))) (7 ∷ 11 ∷ 13 ∷ 19 ∷ 21 ∷ []) ∷
    -- //*[@k]
    row true (step DescendantOrSelf test.Node no_more (step Child test.Any (then_expr (path false (step Attribute (test.Name (codes "k")) no_more (no_steps))) no_more) (no_steps))) (1 ∷ 3 ∷ 8 ∷ 13 ∷ 19 ∷ 21 ∷ []) ∷
    -- //*[not(@k)]
    row true (step DescendantOrSelf test.Node no_more (step Child test.Any (then_expr (apply Not (then_expr (path false (step Attribute (test.Name (codes "k")) no_more (no_steps))) no_more)) no_more) (no_steps))) (7 ∷ 11 ∷ 15 ∷ []) ∷
    -- //*[@k=2]
    row true (step DescendantOrSelf test.Node no_more (step Child test.Any (then_expr (binary Eq (path false (step Attribute (test.Name (codes "k")) no_more (no_steps))) (number (pos 2))) no_more) (no_steps))) (8 ∷ []) ∷
    -- //*[@k>1]
    row true (step DescendantOrSelf test.Node no_more (step Child test.Any (then_expr (binary Gt (path false (step Attribute (test.Name (codes "k")) no_more (no_steps))) (number (pos 1))) no_more) (no_steps))) (8 ∷ 13 ∷ 19 ∷ []) ∷
    -- //*[@k='1']
    row true (step DescendantOrSelf test.Node no_more (step Child test.Any (then_expr (binary Eq (path false (step Attribute (test.Name (codes "k")) no_more (no_steps))) (literal (codes "1"))) no_more) (no_steps))) (1 ∷ 3 ∷ []) ∷
    -- //*[@k!='1']
    row true (step DescendantOrSelf test.Node no_more (step Child test.Any (then_expr (binary Ne (path false (step Attribute (test.Name (codes "k")) no_more (no_steps))) (literal (codes "1"))) no_more) (no_steps))) (8 ∷ 13 ∷ 19 ∷ 21 ∷ []) ∷
    -- //*[b]
    row true (step DescendantOrSelf test.Node no_more (step Child test.Any (then_expr (path false (step Child (test.Name (codes "b")) no_more (no_steps))) no_more) (no_steps))) (1 ∷ 7 ∷ []) ∷
    -- //*[b/@k=10]
    row true (step DescendantOrSelf test.Node no_more (step Child test.Any (then_expr (binary Eq (path false (step Child (test.Name (codes "b")) no_more (step Attribute (test.Name (codes "k")) no_more (no_steps)))) (number (pos 10))) no_more) (no_steps))) (7 ∷ []) ∷
    -- //*[b/@k!=2]
    row true (step DescendantOrSelf test.Node no_more (step Child test.Any (then_expr (binary Ne (path false (step Child (test.Name (codes "b")) no_more (step Attribute (test.Name (codes "k")) no_more (no_steps)))) (number (pos 2))) no_more) (no_steps))) (1 ∷ 7 ∷ []) ∷
    -- //*[b[@k>2]]
    row true (step DescendantOrSelf test.Node no_more (step Child test.Any (then_expr (path false (step Child (test.Name (codes "b")) (then_expr (binary Gt (path false (step Attribute (test.Name (codes "k")) no_more (no_steps))) (number (pos 2))) no_more) (no_steps))) no_more) (no_steps))) (1 ∷ 7 ∷ []) ∷
    -- //*[count(b)=2]
    row true (step DescendantOrSelf test.Node no_more (step Child test.Any (then_expr (binary Eq (apply Count (then_expr (path false (step Child (test.Name (codes "b")) no_more (no_steps))) no_more)) (number (pos 2))) no_more) (no_steps))) (1 ∷ 7 ∷ []) ∷
    -- //*[count(*)>1]
    row true (step DescendantOrSelf test.Node no_more (step Child test.Any (then_expr (binary Gt (apply Count (then_expr (path false (step Child test.Any no_more (no_steps))) no_more)) (number (pos 1))) no_more) (no_steps))) (1 ∷ 7 ∷ []) ∷
    -- //*[text()]
    row true (step DescendantOrSelf test.Node no_more (step Child test.Any (then_expr (path false (step Child test.Text no_more (no_steps))) no_more) (no_steps))) (1 ∷ 3 ∷ 7 ∷ 8 ∷ 13 ∷ 15 ∷ 21 ∷ []) ∷
    -- //*[.=7]
    row true (step DescendantOrSelf test.Node no_more (step Child test.Any (then_expr (binary Eq (path false (step SelfNode test.Node no_more (no_steps))) (number (pos 7))) no_more) (no_steps))) (15 ∷ []) ∷
    -- //*[.='12']
    row true (step DescendantOrSelf test.Node no_more (step Child test.Any (then_expr (binary Eq (path false (step SelfNode test.Node no_more (no_steps))) (literal (codes "12"))) no_more) (no_steps))) (8 ∷ []) ∷
    -- //*[. > 5]
    row true (step DescendantOrSelf test.Node no_more (step Child test.Any (then_expr (binary Gt (path false (step SelfNode test.Node no_more (no_steps))) (number (pos 5))) no_more) (no_steps))) (8 ∷ 15 ∷ []) ∷
    -- //*[name()='b']
    row true (step DescendantOrSelf test.Node no_more (step Child test.Any (then_expr (binary Eq (apply NameOf no_more) (literal (codes "b"))) no_more) (no_steps))) (3 ∷ 8 ∷ 13 ∷ 19 ∷ []) ∷
    -- //*[string-length()=1]
    row true (step DescendantOrSelf test.Node no_more (step Child test.Any (then_expr (binary Eq (apply StringLength no_more) (number (pos 1))) no_more) (no_steps))) (3 ∷ 15 ∷ []) ∷
    -- //*[string-length(.)>1]
    row true (step DescendantOrSelf test.Node no_more (step Child test.Any (then_expr (binary Gt (apply StringLength (then_expr (path false (step SelfNode test.Node no_more (no_steps))) no_more)) (number (pos 1))) no_more) (no_steps))) (1 ∷ 7 ∷ 8 ∷ 13 ∷ 21 ∷ []) ∷
    -- //*[starts-with(., 't')]
    row true (step DescendantOrSelf test.Node no_more (step Child test.Any (then_expr (apply StartsWith (then_expr (path false (step SelfNode test.Node no_more (no_steps))) (then_expr (literal (codes "t")) no_more))) no_more) (no_steps))) (1 ∷ 3 ∷ []) ∷
    -- //*[contains(., '7')]
    row true (step DescendantOrSelf test.Node no_more (step Child test.Any (then_expr (apply Contains (then_expr (path false (step SelfNode test.Node no_more (no_steps))) (then_expr (literal (codes "7")) no_more))) no_more) (no_steps))) (1 ∷ 7 ∷ 13 ∷ 15 ∷ []) ∷
    -- //*[normalize-space()='5']
    row true (step DescendantOrSelf test.Node no_more (step Child test.Any (then_expr (binary Eq (apply NormalizeSpace no_more) (literal (codes "5"))) no_more) (no_steps))) (21 ∷ []) ∷
    -- //*[number(.)=5]
    row true (step DescendantOrSelf test.Node no_more (step Child test.Any (then_expr (binary Eq (apply NumberOf (then_expr (path false (step SelfNode test.Node no_more (no_steps))) no_more)) (number (pos 5))) no_more) (no_steps))) (21 ∷ []) ∷
    -- //*[sum(b/@k)=12]
    row true (step DescendantOrSelf test.Node no_more (step Child test.Any (then_expr (binary Eq (apply Sum (then_expr (path false (step Child (test.Name (codes "b")) no_more (step Attribute (test.Name (codes "k")) no_more (no_steps)))) no_more)) (number (pos 12))) no_more) (no_steps))) (7 ∷ []) ∷
    -- //*[@k+1=3]
    row true (step DescendantOrSelf test.Node no_more (step Child test.Any (then_expr (binary Eq (binary Add (path false (step Attribute (test.Name (codes "k")) no_more (no_steps))) (number (pos 1))) (number (pos 3))) no_more) (no_steps))) (8 ∷ []) ∷
    -- //*[@k*2>4]
    row true (step DescendantOrSelf test.Node no_more (step Child test.Any (then_expr (binary Gt (binary Mul (path false (step Attribute (test.Name (codes "k")) no_more (no_steps))) (number (pos 2))) (number (pos 4))) no_more) (no_steps))) (13 ∷ 19 ∷ []) ∷
    -- //*[-@k < -2]
    row true (step DescendantOrSelf test.Node no_more (step Child test.Any (then_expr (binary Lt (apply Negate (then_expr (path false (step Attribute (test.Name (codes "k")) no_more (no_steps))) no_more)) (apply Negate (then_expr (number (pos 2)) no_more))) no_more) (no_steps))) (13 ∷ 19 ∷ []) ∷
    -- //*[@k - 1 = 0]
    row true (step DescendantOrSelf test.Node no_more (step Child test.Any (then_expr (binary Eq (binary Sub (path false (step Attribute (test.Name (codes "k")) no_more (no_steps))) (number (pos 1))) (number (pos 0))) no_more) (no_steps))) (1 ∷ 3 ∷ []) ∷
    -- //*[concat(@k,'x')='1x']
    row true (step DescendantOrSelf test.Node no_more (step Child test.Any (then_expr (binary Eq (apply Concat (then_expr (path false (step Attribute (test.Name (codes "k")) no_more (no_steps))) (then_expr (literal (codes "x")) no_more))) (literal (codes "1x"))) no_more) (no_steps))) (1 ∷ 3 ∷ []) ∷
    -- //*[substring(., 1, 1)='1']
    row true (step DescendantOrSelf test.Node no_more (step Child test.Any (then_expr (binary Eq (apply Substring (then_expr (path false (step SelfNode test.Node no_more (no_steps))) (then_expr (number (pos 1)) (then_expr (number (pos 1)) no_more)))) (literal (codes "1"))) no_more) (no_steps))) (7 ∷ 8 ∷ []) ∷
    -- //*[substring(.,2)='2']
    row true (step DescendantOrSelf test.Node no_more (step Child test.Any (then_expr (binary Eq (apply Substring (then_expr (path false (step SelfNode test.Node no_more (no_steps))) (then_expr (number (pos 2)) no_more))) (literal (codes "2"))) no_more) (no_steps))) (8 ∷ []) ∷
    -- //*[substring-before(@k,'0')='1']
    row true (step DescendantOrSelf test.Node no_more (step Child test.Any (then_expr (binary Eq (apply SubstringBefore (then_expr (path false (step Attribute (test.Name (codes "k")) no_more (no_steps))) (then_expr (literal (codes "0")) no_more))) (literal (codes "1"))) no_more) (no_steps))) (13 ∷ []) ∷
    -- //*[substring-after(@k,'1')='0']
    row true (step DescendantOrSelf test.Node no_more (step Child test.Any (then_expr (binary Eq (apply SubstringAfter (then_expr (path false (step Attribute (test.Name (codes "k")) no_more (no_steps))) (then_expr (literal (codes "1")) no_more))) (literal (codes "0"))) no_more) (no_steps))) (13 ∷ []) ∷
    -- //*[boolean(@m)]
    row true (step DescendantOrSelf test.Node no_more (step Child test.Any (then_expr (apply BooleanOf (then_expr (path false (step Attribute (test.Name (codes "m")) no_more (no_steps))) no_more)) no_more) (no_steps))) (3 ∷ []) ∷
    -- //*[true()]
    row true (step DescendantOrSelf test.Node no_more (step Child test.Any (then_expr (apply TrueOf no_more) no_more) (no_steps))) (1 ∷ 3 ∷ 7 ∷ 8 ∷ 11 ∷ 13 ∷ 15 ∷ 19 ∷ 21 ∷ []) ∷
    -- //*[false()]
    row true (step DescendantOrSelf test.Node no_more (step Child test.Any (then_expr (apply FalseOf no_more) no_more) (no_steps))) ([]) ∷
    -- //*[@k=1 or @m]
    row true (step DescendantOrSelf test.Node no_more (step Child test.Any (then_expr (binary Or (binary Eq (path false (step Attribute (test.Name (codes "k")) no_more (no_steps))) (number (pos 1))) (path false (step Attribute (test.Name (codes "m")) no_more (no_steps)))) no_more) (no_steps))) (1 ∷ 3 ∷ []) ∷
    -- //*[@k=1 and @m]
    row true (step DescendantOrSelf test.Node no_more (step Child test.Any (then_expr (binary And (binary Eq (path false (step Attribute (test.Name (codes "k")) no_more (no_steps))) (number (pos 1))) (path false (step Attribute (test.Name (codes "m")) no_more (no_steps)))) no_more) (no_steps))) (3 ∷ []) ∷
    -- //*[not(@k=1) and @k]
    row true (step DescendantOrSelf test.Node no_more (step Child test.Any (then_expr (binary And (apply Not (then_expr (binary Eq (path false (step Attribute (test.Name (codes "k")) no_more (no_steps))) (number (pos 1))) no_more)) (path false (step Attribute (test.Name (codes "k")) no_more (no_steps)))) no_more) (no_steps))) (8 ∷ 13 ∷ 19 ∷ 21 ∷ []) ∷
    -- //*[../@k=1]
    row true (step DescendantOrSelf test.Node no_more (step Child test.Any (then_expr (binary Eq (path false (step Parent test.Node no_more (step Attribute (test.Name (codes "k")) no_more (no_steps)))) (number (pos 1))) no_more) (no_steps))) (3 ∷ 7 ∷ 19 ∷ 21 ∷ []) ∷
    -- //*[../../b]
    row true (step DescendantOrSelf test.Node no_more (step Child test.Any (then_expr (path false (step Parent test.Node no_more (step Parent test.Node no_more (step Child (test.Name (codes "b")) no_more (no_steps))))) no_more) (no_steps))) (8 ∷ 11 ∷ 13 ∷ 15 ∷ []) ∷
    -- //*[preceding-sibling::b]
    row true (step DescendantOrSelf test.Node no_more (step Child test.Any (then_expr (path false (step PrecedingSibling (test.Name (codes "b")) no_more (no_steps))) no_more) (no_steps))) (7 ∷ 11 ∷ 13 ∷ 19 ∷ 21 ∷ []) ∷
    -- //*[following-sibling::*[1]=5]
    row true (step DescendantOrSelf test.Node no_more (step Child test.Any (then_expr (binary Eq (path false (step FollowingSibling test.Any (then_expr (number (pos 1)) no_more) (no_steps))) (number (pos 5))) no_more) (no_steps))) (19 ∷ []) ∷
    -- //*[@k=../@k]
    row true (step DescendantOrSelf test.Node no_more (step Child test.Any (then_expr (binary Eq (path false (step Attribute (test.Name (codes "k")) no_more (no_steps))) (path false (step Parent test.Node no_more (step Attribute (test.Name (codes "k")) no_more (no_steps))))) no_more) (no_steps))) (3 ∷ []) ∷
    -- //*[@k=//e]
    row true (step DescendantOrSelf test.Node no_more (step Child test.Any (then_expr (binary Eq (path false (step Attribute (test.Name (codes "k")) no_more (no_steps))) (path true (step DescendantOrSelf test.Node no_more (step Child (test.Name (codes "e")) no_more (no_steps))))) no_more) (no_steps))) ([]) ∷
    -- //*[@k < //e]
    row true (step DescendantOrSelf test.Node no_more (step Child test.Any (then_expr (binary Lt (path false (step Attribute (test.Name (codes "k")) no_more (no_steps))) (path true (step DescendantOrSelf test.Node no_more (step Child (test.Name (codes "e")) no_more (no_steps))))) no_more) (no_steps))) (1 ∷ 3 ∷ 8 ∷ 19 ∷ []) ∷
    -- //*[//e=7]
    row true (step DescendantOrSelf test.Node no_more (step Child test.Any (then_expr (binary Eq (path true (step DescendantOrSelf test.Node no_more (step Child (test.Name (codes "e")) no_more (no_steps)))) (number (pos 7))) no_more) (no_steps))) (1 ∷ 3 ∷ 7 ∷ 8 ∷ 11 ∷ 13 ∷ 15 ∷ 19 ∷ 21 ∷ []) ∷
    -- //*[*=7]
    row true (step DescendantOrSelf test.Node no_more (step Child test.Any (then_expr (binary Eq (path false (step Child test.Any no_more (no_steps))) (number (pos 7))) no_more) (no_steps))) (13 ∷ []) ∷
    -- //*[string(@k)='3']
    row true (step DescendantOrSelf test.Node no_more (step Child test.Any (then_expr (binary Eq (apply StringOf (then_expr (path false (step Attribute (test.Name (codes "k")) no_more (no_steps))) no_more)) (literal (codes "3"))) no_more) (no_steps))) (19 ∷ []) ∷
    -- //*[(@k=1)=(@m='x')]
    row true (step DescendantOrSelf test.Node no_more (step Child test.Any (then_expr (binary Eq (binary Eq (path false (step Attribute (test.Name (codes "k")) no_more (no_steps))) (number (pos 1))) (binary Eq (path false (step Attribute (test.Name (codes "m")) no_more (no_steps))) (literal (codes "x")))) no_more) (no_steps))) (3 ∷ 7 ∷ 8 ∷ 11 ∷ 13 ∷ 15 ∷ 19 ∷ 21 ∷ []) ∷
    -- //*[true()=@k]
    row true (step DescendantOrSelf test.Node no_more (step Child test.Any (then_expr (binary Eq (apply TrueOf no_more) (path false (step Attribute (test.Name (codes "k")) no_more (no_steps)))) no_more) (no_steps))) (1 ∷ 3 ∷ 8 ∷ 13 ∷ 19 ∷ 21 ∷ []) ∷
    -- //*[@none=1]
    row true (step DescendantOrSelf test.Node no_more (step Child test.Any (then_expr (binary Eq (path false (step Attribute (test.Name (codes "none")) no_more (no_steps))) (number (pos 1))) no_more) (no_steps))) ([]) ∷
    -- //*[@none!=1]
    row true (step DescendantOrSelf test.Node no_more (step Child test.Any (then_expr (binary Ne (path false (step Attribute (test.Name (codes "none")) no_more (no_steps))) (number (pos 1))) no_more) (no_steps))) ([]) ∷
    -- //*[@k>true()]
    row true (step DescendantOrSelf test.Node no_more (step Child test.Any (then_expr (binary Gt (path false (step Attribute (test.Name (codes "k")) no_more (no_steps))) (apply TrueOf no_more)) no_more) (no_steps))) ([]) ∷
    -- //*[position()=last()]
    row true (step DescendantOrSelf test.Node no_more (step Child test.Any (then_expr (binary Eq (apply Position no_more) (apply Last no_more)) no_more) (no_steps))) (1 ∷ 13 ∷ 15 ∷ 21 ∷ []) ∷
    []

unfoldable pub child_rows : List Row
child_rows =
    -- /a/*[1]
    row true (step Child (test.Name (codes "a")) no_more (step Child test.Any (then_expr (number (pos 1)) no_more) (no_steps))) (3 ∷ []) ∷
    -- /a/*[2]
    row true (step Child (test.Name (codes "a")) no_more (step Child test.Any (then_expr (number (pos 2)) no_more) (no_steps))) (7 ∷ []) ∷
    -- /a/*[last()]
    row true (step Child (test.Name (codes "a")) no_more (step Child test.Any (then_expr (apply Last no_more) no_more) (no_steps))) (21 ∷ []) ∷
    -- /a/*[last()-1]
    row true (step Child (test.Name (codes "a")) no_more (step Child test.Any (then_expr (binary Sub (apply Last no_more) (number (pos 1))) no_more) (no_steps))) (19 ∷ []) ∷
    -- /a/*[position()=2]
    row true (step Child (test.Name (codes "a")) no_more (step Child test.Any (then_expr (binary Eq (apply Position no_more) (number (pos 2))) no_more) (no_steps))) (7 ∷ []) ∷
    -- /a/*[position()>1]
    row true (step Child (test.Name (codes "a")) no_more (step Child test.Any (then_expr (binary Gt (apply Position no_more) (number (pos 1))) no_more) (no_steps))) (7 ∷ 19 ∷ 21 ∷ []) ∷
    -- /a/*[@k]
    row true (step Child (test.Name (codes "a")) no_more (step Child test.Any (then_expr (path false (step Attribute (test.Name (codes "k")) no_more (no_steps))) no_more) (no_steps))) (3 ∷ 19 ∷ 21 ∷ []) ∷
    -- /a/*[not(@k)]
    row true (step Child (test.Name (codes "a")) no_more (step Child test.Any (then_expr (apply Not (then_expr (path false (step Attribute (test.Name (codes "k")) no_more (no_steps))) no_more)) no_more) (no_steps))) (7 ∷ []) ∷
    -- /a/*[@k=2]
    row true (step Child (test.Name (codes "a")) no_more (step Child test.Any (then_expr (binary Eq (path false (step Attribute (test.Name (codes "k")) no_more (no_steps))) (number (pos 2))) no_more) (no_steps))) ([]) ∷
    -- /a/*[@k>1]
    row true (step Child (test.Name (codes "a")) no_more (step Child test.Any (then_expr (binary Gt (path false (step Attribute (test.Name (codes "k")) no_more (no_steps))) (number (pos 1))) no_more) (no_steps))) (19 ∷ []) ∷
    -- /a/*[@k='1']
    row true (step Child (test.Name (codes "a")) no_more (step Child test.Any (then_expr (binary Eq (path false (step Attribute (test.Name (codes "k")) no_more (no_steps))) (literal (codes "1"))) no_more) (no_steps))) (3 ∷ []) ∷
    -- /a/*[@k!='1']
    row true (step Child (test.Name (codes "a")) no_more (step Child test.Any (then_expr (binary Ne (path false (step Attribute (test.Name (codes "k")) no_more (no_steps))) (literal (codes "1"))) no_more) (no_steps))) (19 ∷ 21 ∷ []) ∷
    -- /a/*[b]
    row true (step Child (test.Name (codes "a")) no_more (step Child test.Any (then_expr (path false (step Child (test.Name (codes "b")) no_more (no_steps))) no_more) (no_steps))) (7 ∷ []) ∷
    -- /a/*[b/@k=10]
    row true (step Child (test.Name (codes "a")) no_more (step Child test.Any (then_expr (binary Eq (path false (step Child (test.Name (codes "b")) no_more (step Attribute (test.Name (codes "k")) no_more (no_steps)))) (number (pos 10))) no_more) (no_steps))) (7 ∷ []) ∷
    -- /a/*[b/@k!=2]
    row true (step Child (test.Name (codes "a")) no_more (step Child test.Any (then_expr (binary Ne (path false (step Child (test.Name (codes "b")) no_more (step Attribute (test.Name (codes "k")) no_more (no_steps)))) (number (pos 2))) no_more) (no_steps))) (7 ∷ []) ∷
    -- /a/*[b[@k>2]]
    row true (step Child (test.Name (codes "a")) no_more (step Child test.Any (then_expr (path false (step Child (test.Name (codes "b")) (then_expr (binary Gt (path false (step Attribute (test.Name (codes "k")) no_more (no_steps))) (number (pos 2))) no_more) (no_steps))) no_more) (no_steps))) (7 ∷ []) ∷
    -- /a/*[count(b)=2]
    row true (step Child (test.Name (codes "a")) no_more (step Child test.Any (then_expr (binary Eq (apply Count (then_expr (path false (step Child (test.Name (codes "b")) no_more (no_steps))) no_more)) (number (pos 2))) no_more) (no_steps))) (7 ∷ []) ∷
    -- /a/*[count(*)>1]
    row true (step Child (test.Name (codes "a")) no_more (step Child test.Any (then_expr (binary Gt (apply Count (then_expr (path false (step Child test.Any no_more (no_steps))) no_more)) (number (pos 1))) no_more) (no_steps))) (7 ∷ []) ∷
    -- /a/*[text()]
    row true (step Child (test.Name (codes "a")) no_more (step Child test.Any (then_expr (path false (step Child test.Text no_more (no_steps))) no_more) (no_steps))) (3 ∷ 7 ∷ 21 ∷ []) ∷
    -- /a/*[.=7]
    row true (step Child (test.Name (codes "a")) no_more (step Child test.Any (then_expr (binary Eq (path false (step SelfNode test.Node no_more (no_steps))) (number (pos 7))) no_more) (no_steps))) ([]) ∷
    -- /a/*[.='12']
    row true (step Child (test.Name (codes "a")) no_more (step Child test.Any (then_expr (binary Eq (path false (step SelfNode test.Node no_more (no_steps))) (literal (codes "12"))) no_more) (no_steps))) ([]) ∷
    -- /a/*[. > 5]
    row true (step Child (test.Name (codes "a")) no_more (step Child test.Any (then_expr (binary Gt (path false (step SelfNode test.Node no_more (no_steps))) (number (pos 5))) no_more) (no_steps))) ([]) ∷
    -- /a/*[name()='b']
    row true (step Child (test.Name (codes "a")) no_more (step Child test.Any (then_expr (binary Eq (apply NameOf no_more) (literal (codes "b"))) no_more) (no_steps))) (3 ∷ 19 ∷ []) ∷
    -- /a/*[string-length()=1]
    row true (step Child (test.Name (codes "a")) no_more (step Child test.Any (then_expr (binary Eq (apply StringLength no_more) (number (pos 1))) no_more) (no_steps))) (3 ∷ []) ∷
    -- /a/*[string-length(.)>1]
    row true (step Child (test.Name (codes "a")) no_more (step Child test.Any (then_expr (binary Gt (apply StringLength (then_expr (path false (step SelfNode test.Node no_more (no_steps))) no_more)) (number (pos 1))) no_more) (no_steps))) (7 ∷ 21 ∷ []) ∷
    -- /a/*[starts-with(., 't')]
    row true (step Child (test.Name (codes "a")) no_more (step Child test.Any (then_expr (apply StartsWith (then_expr (path false (step SelfNode test.Node no_more (no_steps))) (then_expr (literal (codes "t")) no_more))) no_more) (no_steps))) (3 ∷ []) ∷
    -- /a/*[contains(., '7')]
    row true (step Child (test.Name (codes "a")) no_more (step Child test.Any (then_expr (apply Contains (then_expr (path false (step SelfNode test.Node no_more (no_steps))) (then_expr (literal (codes "7")) no_more))) no_more) (no_steps))) (7 ∷ []) ∷
    -- /a/*[normalize-space()='5']
    row true (step Child (test.Name (codes "a")) no_more (step Child test.Any (then_expr (binary Eq (apply NormalizeSpace no_more) (literal (codes "5"))) no_more) (no_steps))) (21 ∷ []) ∷
    -- /a/*[number(.)=5]
    row true (step Child (test.Name (codes "a")) no_more (step Child test.Any (then_expr (binary Eq (apply NumberOf (then_expr (path false (step SelfNode test.Node no_more (no_steps))) no_more)) (number (pos 5))) no_more) (no_steps))) (21 ∷ []) ∷
    -- /a/*[sum(b/@k)=12]
    row true (step Child (test.Name (codes "a")) no_more (step Child test.Any (then_expr (binary Eq (apply Sum (then_expr (path false (step Child (test.Name (codes "b")) no_more (step Attribute (test.Name (codes "k")) no_more (no_steps)))) no_more)) (number (pos 12))) no_more) (no_steps))) (7 ∷ []) ∷
    -- /a/*[@k+1=3]
    row true (step Child (test.Name (codes "a")) no_more (step Child test.Any (then_expr (binary Eq (binary Add (path false (step Attribute (test.Name (codes "k")) no_more (no_steps))) (number (pos 1))) (number (pos 3))) no_more) (no_steps))) ([]) ∷
    -- /a/*[@k*2>4]
    row true (step Child (test.Name (codes "a")) no_more (step Child test.Any (then_expr (binary Gt (binary Mul (path false (step Attribute (test.Name (codes "k")) no_more (no_steps))) (number (pos 2))) (number (pos 4))) no_more) (no_steps))) (19 ∷ []) ∷
    -- /a/*[-@k < -2]
    row true (step Child (test.Name (codes "a")) no_more (step Child test.Any (then_expr (binary Lt (apply Negate (then_expr (path false (step Attribute (test.Name (codes "k")) no_more (no_steps))) no_more)) (apply Negate (then_expr (number (pos 2)) no_more))) no_more) (no_steps))) (19 ∷ []) ∷
    -- /a/*[@k - 1 = 0]
    row true (step Child (test.Name (codes "a")) no_more (step Child test.Any (then_expr (binary Eq (binary Sub (path false (step Attribute (test.Name (codes "k")) no_more (no_steps))) (number (pos 1))) (number (pos 0))) no_more) (no_steps))) (3 ∷ []) ∷
    -- /a/*[concat(@k,'x')='1x']
    row true (step Child (test.Name (codes "a")) no_more (step Child test.Any (then_expr (binary Eq (apply Concat (then_expr (path false (step Attribute (test.Name (codes "k")) no_more (no_steps))) (then_expr (literal (codes "x")) no_more))) (literal (codes "1x"))) no_more) (no_steps))) (3 ∷ []) ∷
    -- /a/*[substring(., 1, 1)='1']
    row true (step Child (test.Name (codes "a")) no_more (step Child test.Any (then_expr (binary Eq (apply Substring (then_expr (path false (step SelfNode test.Node no_more (no_steps))) (then_expr (number (pos 1)) (then_expr (number (pos 1)) no_more)))) (literal (codes "1"))) no_more) (no_steps))) (7 ∷ []) ∷
    -- /a/*[substring(.,2)='2']
    row true (step Child (test.Name (codes "a")) no_more (step Child test.Any (then_expr (binary Eq (apply Substring (then_expr (path false (step SelfNode test.Node no_more (no_steps))) (then_expr (number (pos 2)) no_more))) (literal (codes "2"))) no_more) (no_steps))) ([]) ∷
    -- /a/*[substring-before(@k,'0')='1']
    row true (step Child (test.Name (codes "a")) no_more (step Child test.Any (then_expr (binary Eq (apply SubstringBefore (then_expr (path false (step Attribute (test.Name (codes "k")) no_more (no_steps))) (then_expr (literal (codes "0")) no_more))) (literal (codes "1"))) no_more) (no_steps))) ([]) ∷
    -- /a/*[substring-after(@k,'1')='0']
    row true (step Child (test.Name (codes "a")) no_more (step Child test.Any (then_expr (binary Eq (apply SubstringAfter (then_expr (path false (step Attribute (test.Name (codes "k")) no_more (no_steps))) (then_expr (literal (codes "1")) no_more))) (literal (codes "0"))) no_more) (no_steps))) ([]) ∷
    -- /a/*[boolean(@m)]
    row true (step Child (test.Name (codes "a")) no_more (step Child test.Any (then_expr (apply BooleanOf (then_expr (path false (step Attribute (test.Name (codes "m")) no_more (no_steps))) no_more)) no_more) (no_steps))) (3 ∷ []) ∷
    -- /a/*[true()]
    row true (step Child (test.Name (codes "a")) no_more (step Child test.Any (then_expr (apply TrueOf no_more) no_more) (no_steps))) (3 ∷ 7 ∷ 19 ∷ 21 ∷ []) ∷
    -- /a/*[false()]
    row true (step Child (test.Name (codes "a")) no_more (step Child test.Any (then_expr (apply FalseOf no_more) no_more) (no_steps))) ([]) ∷
    -- /a/*[@k=1 or @m]
    row true (step Child (test.Name (codes "a")) no_more (step Child test.Any (then_expr (binary Or (binary Eq (path false (step Attribute (test.Name (codes "k")) no_more (no_steps))) (number (pos 1))) (path false (step Attribute (test.Name (codes "m")) no_more (no_steps)))) no_more) (no_steps))) (3 ∷ []) ∷
    -- /a/*[@k=1 and @m]
    row true (step Child (test.Name (codes "a")) no_more (step Child test.Any (then_expr (binary And (binary Eq (path false (step Attribute (test.Name (codes "k")) no_more (no_steps))) (number (pos 1))) (path false (step Attribute (test.Name (codes "m")) no_more (no_steps)))) no_more) (no_steps))) (3 ∷ []) ∷
    -- /a/*[not(@k=1) and @k]
    row true (step Child (test.Name (codes "a")) no_more (step Child test.Any (then_expr (binary And (apply Not (then_expr (binary Eq (path false (step Attribute (test.Name (codes "k")) no_more (no_steps))) (number (pos 1))) no_more)) (path false (step Attribute (test.Name (codes "k")) no_more (no_steps)))) no_more) (no_steps))) (19 ∷ 21 ∷ []) ∷
    -- /a/*[../@k=1]
    row true (step Child (test.Name (codes "a")) no_more (step Child test.Any (then_expr (binary Eq (path false (step Parent test.Node no_more (step Attribute (test.Name (codes "k")) no_more (no_steps)))) (number (pos 1))) no_more) (no_steps))) (3 ∷ 7 ∷ 19 ∷ 21 ∷ []) ∷
    -- /a/*[../../b]
    row true (step Child (test.Name (codes "a")) no_more (step Child test.Any (then_expr (path false (step Parent test.Node no_more (step Parent test.Node no_more (step Child (test.Name (codes "b")) no_more (no_steps))))) no_more) (no_steps))) ([]) ∷
    -- /a/*[preceding-sibling::b]
    row true (step Child (test.Name (codes "a")) no_more (step Child test.Any (then_expr (path false (step PrecedingSibling (test.Name (codes "b")) no_more (no_steps))) no_more) (no_steps))) (7 ∷ 19 ∷ 21 ∷ []) ∷
    -- /a/*[following-sibling::*[1]=5]
    row true (step Child (test.Name (codes "a")) no_more (step Child test.Any (then_expr (binary Eq (path false (step FollowingSibling test.Any (then_expr (number (pos 1)) no_more) (no_steps))) (number (pos 5))) no_more) (no_steps))) (19 ∷ []) ∷
    -- /a/*[@k=../@k]
    row true (step Child (test.Name (codes "a")) no_more (step Child test.Any (then_expr (binary Eq (path false (step Attribute (test.Name (codes "k")) no_more (no_steps))) (path false (step Parent test.Node no_more (step Attribute (test.Name (codes "k")) no_more (no_steps))))) no_more) (no_steps))) (3 ∷ []) ∷
    -- /a/*[@k=//e]
    row true (step Child (test.Name (codes "a")) no_more (step Child test.Any (then_expr (binary Eq (path false (step Attribute (test.Name (codes "k")) no_more (no_steps))) (path true (step DescendantOrSelf test.Node no_more (step Child (test.Name (codes "e")) no_more (no_steps))))) no_more) (no_steps))) ([]) ∷
    -- /a/*[@k < //e]
    row true (step Child (test.Name (codes "a")) no_more (step Child test.Any (then_expr (binary Lt (path false (step Attribute (test.Name (codes "k")) no_more (no_steps))) (path true (step DescendantOrSelf test.Node no_more (step Child (test.Name (codes "e")) no_more (no_steps))))) no_more) (no_steps))) (3 ∷ 19 ∷ []) ∷
    -- /a/*[//e=7]
    row true (step Child (test.Name (codes "a")) no_more (step Child test.Any (then_expr (binary Eq (path true (step DescendantOrSelf test.Node no_more (step Child (test.Name (codes "e")) no_more (no_steps)))) (number (pos 7))) no_more) (no_steps))) (3 ∷ 7 ∷ 19 ∷ 21 ∷ []) ∷
    -- /a/*[*=7]
    row true (step Child (test.Name (codes "a")) no_more (step Child test.Any (then_expr (binary Eq (path false (step Child test.Any no_more (no_steps))) (number (pos 7))) no_more) (no_steps))) ([]) ∷
    -- /a/*[string(@k)='3']
    row true (step Child (test.Name (codes "a")) no_more (step Child test.Any (then_expr (binary Eq (apply StringOf (then_expr (path false (step Attribute (test.Name (codes "k")) no_more (no_steps))) no_more)) (literal (codes "3"))) no_more) (no_steps))) (19 ∷ []) ∷
    -- /a/*[(@k=1)=(@m='x')]
    row true (step Child (test.Name (codes "a")) no_more (step Child test.Any (then_expr (binary Eq (binary Eq (path false (step Attribute (test.Name (codes "k")) no_more (no_steps))) (number (pos 1))) (binary Eq (path false (step Attribute (test.Name (codes "m")) no_more (no_steps))) (literal (codes "x")))) no_more) (no_steps))) (3 ∷ 7 ∷ 19 ∷ 21 ∷ []) ∷
    -- /a/*[true()=@k]
    row true (step Child (test.Name (codes "a")) no_more (step Child test.Any (then_expr (binary Eq (apply TrueOf no_more) (path false (step Attribute (test.Name (codes "k")) no_more (no_steps)))) no_more) (no_steps))) (3 ∷ 19 ∷ 21 ∷ []) ∷
    -- /a/*[@none=1]
    row true (step Child (test.Name (codes "a")) no_more (step Child test.Any (then_expr (binary Eq (path false (step Attribute (test.Name (codes "none")) no_more (no_steps))) (number (pos 1))) no_more) (no_steps))) ([]) ∷
    -- /a/*[@none!=1]
    row true (step Child (test.Name (codes "a")) no_more (step Child test.Any (then_expr (binary Ne (path false (step Attribute (test.Name (codes "none")) no_more (no_steps))) (number (pos 1))) no_more) (no_steps))) ([]) ∷
    -- /a/*[@k>true()]
    row true (step Child (test.Name (codes "a")) no_more (step Child test.Any (then_expr (binary Gt (path false (step Attribute (test.Name (codes "k")) no_more (no_steps))) (apply TrueOf no_more)) no_more) (no_steps))) ([]) ∷
    -- /a/*[position()=last()]
    row true (step Child (test.Name (codes "a")) no_more (step Child test.Any (then_expr (binary Eq (apply Position no_more) (apply Last no_more)) no_more) (no_steps))) (21 ∷ []) ∷
    []

unfoldable pub position_rows : List Row
position_rows =
    -- //b[1]
    row true (step DescendantOrSelf test.Node no_more (step Child (test.Name (codes "b")) (then_expr (number (pos 1)) no_more) (no_steps))) (3 ∷ 8 ∷ []) ∷
    -- /descendant::b[1]
    row true (step Descendant (test.Name (codes "b")) (then_expr (number (pos 1)) no_more) (no_steps)) (3 ∷ []) ∷
    -- //b[@k][1]
    row true (step DescendantOrSelf test.Node no_more (step Child (test.Name (codes "b")) (then_expr (path false (step Attribute (test.Name (codes "k")) no_more (no_steps))) (then_expr (number (pos 1)) no_more)) (no_steps))) (3 ∷ 8 ∷ []) ∷
    -- //*[1][self::b]
    row true (step DescendantOrSelf test.Node no_more (step Child test.Any (then_expr (number (pos 1)) (then_expr (path false (step SelfNode (test.Name (codes "b")) no_more (no_steps))) no_more)) (no_steps))) (3 ∷ 8 ∷ []) ∷
    -- //b[2][@k=10]
    row true (step DescendantOrSelf test.Node no_more (step Child (test.Name (codes "b")) (then_expr (number (pos 2)) (then_expr (binary Eq (path false (step Attribute (test.Name (codes "k")) no_more (no_steps))) (number (pos 10))) no_more)) (no_steps))) (13 ∷ []) ∷
    []
