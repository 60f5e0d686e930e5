-- Worked scripts, and how many lines one has.
use Rattle.std.proofs.Common.{◌≡◌, ◌∙◌, ◌+◌, ◌*◌, ◌/◌, ℕ, zero, suc, refl, ap, arith, [], ◌∷◌, ◌++◌, length, take, drop, length-append, codes}
use Rattle.workload_gen.specs.declared.line.Step.TheVariants.{Begin, Commit, Create, Book, Review, Children, Find, Drop}
use Rattle.workload_gen.specs.Scripts.{book, books, closing, line, opening, round, rounds, script}
use Rattle.std.specs.Fmt.{digits}
use Rattle.workload_gen.specs.LineTexts.{line_text}
use Rattle.workload_gen.specs.Summaries.{summary_text}

begins : take 6 (script 7 1) ≡ line 1 Begin ∷ line 1 Create ∷ line 1 Commit ∷ line 1 Begin ∷ line 1 (Book 1 44) ∷ line 1 Commit ∷ []
unfolding books
begins = refl

ninth_book : take 3 (drop 27 (script 7 9)) ≡ line 1 Begin ∷ line 1 (Book 9 340) ∷ line 1 Commit ∷ []
unfolding books
ninth_book = refl

one_round : take 25 (drop 27 (script 7 8)) ≡
    line 1 Begin ∷ line 2 Begin ∷ line 3 Begin ∷ line 4 Begin ∷ line 5 Begin ∷ line 6 Begin ∷ line 7 Begin ∷ line 8 Begin
    ∷ line 1 (Review 1 4) ∷ line 2 (Review 2 5) ∷ line 3 (Review 3 1) ∷ line 4 (Review 4 2) ∷ line 5 (Review 5 3) ∷ line 6 (Review 6 4) ∷ line 7 (Review 7 5) ∷ line 8 (Review 8 1)
    ∷ line 1 (Children 2) ∷ line 2 Commit ∷ line 3 Commit ∷ line 4 Commit ∷ line 5 Commit ∷ line 6 Commit ∷ line 7 Commit ∷ line 8 Commit ∷ line 1 Commit ∷ []
unfolding books rounds
one_round = refl

ends : drop 52 (script 7 8) ≡ line 1 Begin ∷ line 1 Find ∷ line 1 Drop ∷ line 1 Commit ∷ []
unfolding books rounds
ends = refl

length_books : (seed i count : ℕ) → length (books seed i count) ≡ 3 * count
unfolding books
length_books seed i zero = refl
length_books seed i (suc count) = length-append (book seed i) (books seed (i + 1) count) ∙ ap (λ n. 3 + n) (length_books seed (i + 1) count) ∙ omega arith

length_rounds : (seed r count : ℕ) → length (rounds seed r count) ≡ 25 * count
unfolding rounds
length_rounds seed r zero = refl
length_rounds seed r (suc count) = length-append (round seed r) (rounds seed (r + 1) count) ∙ ap (λ n. 25 + n) (length_rounds seed (r + 1) count) ∙ omega arith

pub length_script : (seed count : ℕ) → length (script seed count) ≡ 7 + (3 * count + 25 * (count / 8))
length_script seed count =
    length-append opening (books seed 1 count ++ (rounds seed 0 (count / 8) ++ closing))
    ∙ ap (λ n. 3 + n) (length-append (books seed 1 count) (rounds seed 0 (count / 8) ++ closing)
    ∙ ap (λ n. length (books seed 1 count) + n) (length-append (rounds seed 0 (count / 8)) closing))
    ∙ ap (λ n. 3 + (n + (length (rounds seed 0 (count / 8)) + 4))) (length_books seed 1 count)
    ∙ ap (λ n. 3 + (3 * count + (n + 4))) (length_rounds seed 0 (count / 8))
    ∙ omega arith

-- the script of the worked run has 12,257 lines
lines_of_the_run : length (script 7 2000) ≡ 12257
lines_of_the_run = length_script 7 2000

text_of_the_run : summary_text (record { books = 2000; commits = 4002; deadlocks = 0; errors = 0; found = 1200; lines = 12257; ok = 12257; waits = 250 })
    ≡ codes "{\"books\":2000,\"commits\":4002,\"deadlocks\":0,\"errors\":0,\"found\":1200,\"lines\":12257,\"ok\":12257,\"waits\":250}"
unfolding digits
text_of_the_run = refl

-- the third book's review, which session 3 of the first round appends
text_of_a_review : line_text (line 3 (Review 3 1)) ≡ codes "{\"s\":3,\"call\":\"append\",\"at\":\"1.1001.1001.1005\",\"tree\":[\"review\",{\"stars\":\"1\"},\"ok\"]}"
unfolding digits
text_of_a_review = refl
