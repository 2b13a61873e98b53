-- The words from a place on.
use Rattle.std.proofs.Common.{◌≡◌, ◌≢◌, ℕ, zero, suc, ◌+◌, ◌-◌, ◌≤◌, ◌<◌, true, false, List, [], ◌∷◌, ◌++◌, length, take, drop, get_or, refl, sym, ap, ◌∙◌, arith, eqb}
use Rattle.std.specs.Prelude.{slice_range}
use Rattle.std.proofs.lemmas.List.{drop_more, take_more, drop_all, drop-drop, get_or-drop, take_all}
use Rattle.std.proofs.lemmas.Grind.{common_steps}
use Rattle.std.proofs.lemmas.Bool.Decides.{nat_tests}
use Rattle.std.proofs.Math.ListN.{length-take, length-drop}
use Rattle.mc_text.specs.Words.{words, words_from, closed, arg}

pub is_space : (b : ℕ) → b ≡ 32 → eqb b 32 ≡ true
is_space b h = grind (arith, nat_tests)

space_is : (b : ℕ) → eqb b 32 ≡ true → b ≡ 32
space_is b h = grind (arith, nat_tests)

pub no_space : (b : ℕ) → b ≢ 32 → eqb b 32 ≡ false
no_space b h = grind (arith, nat_tests)

-- a space in front makes no difference
pub words_space : (line : List ℕ) (at : ℕ) → at < length line → get_or line at 0 ≡ 32 → words (drop (at + 1) line) ≡ words (drop at line)
unfolding words
words_space line at l e = sym (ap (words_from []) (drop_more line at 0 l) ∙ simp e)

-- a word in progress

one_more : (line : List ℕ) (from at : ℕ) → from ≤ at → at < length line → slice_range line from at ++ get_or line at 0 ∷ [] ≡ slice_range line from (at + 1)
one_more line from at o l =
    let bs = drop from line in
    let k = at - from in
    let here : get_or bs k 0 ≡ get_or line at 0 = get_or-drop from line k 0 ∙ ap (λ i. get_or line i 0) (omega arith) in
    ap (λ b. take k bs ++ b ∷ []) (sym here)
    ∙ sym (take_more bs k 0 (omega (arith, length-drop from line)))
    ∙ ap (λ n. take n bs) (omega arith)

pub word_begins : (line : List ℕ) (from : ℕ) → from < length line → get_or line from 0 ≢ 32 → words_from (slice_range line from (from + 1)) (drop (from + 1) line) ≡ words (drop from line)
unfolding words
word_begins line from l n =
    let one : slice_range line from (from + 1) ≡ get_or line from 0 ∷ [] = grind (arith, common_steps) in
    ap (λ w. words_from w (drop (from + 1) line)) one ∙ sym (ap (words_from []) (drop_more line from 0 l) ∙ simp (no_space (get_or line from 0) n) refl)

pub word_more : (line : List ℕ) (from at : ℕ) → from ≤ at → at < length line → get_or line at 0 ≢ 32 → words_from (slice_range line from at) (drop at line) ≡ words_from (slice_range line from (at + 1)) (drop (at + 1) line)
word_more line from at o l n =
    ap (words_from (slice_range line from at)) (drop_more line at 0 l)
    ∙ simp (no_space (get_or line at 0) n) (ap (λ w. words_from w (drop (at + 1) line)) (one_more line from at o l))

closed_some : (w : List ℕ) (ws : List (List ℕ)) → 0 < length w → closed w ws ≡ w ∷ ws
closed_some [] ws h = absurd (omega arith)
closed_some (b ∷ bs) ws h = refl

pub rest_of_line : (line : List ℕ) (from : ℕ) → slice_range line from (length line) ≡ drop from line
rest_of_line line from = take_all (length line - from) (drop from line) (omega (arith, length-drop from line))

some_bytes : (line : List ℕ) (from at : ℕ) → from < at → at ≤ length line → 0 < length (slice_range line from at)
some_bytes line from at o l = omega (arith, length-take (at - from) (drop from line), length-drop from line)

pub word_stops : (line : List ℕ) (from at : ℕ) → from < at → at < length line → get_or line at 0 ≡ 32 → words_from (slice_range line from at) (drop at line) ≡ slice_range line from at ∷ words (drop at line)
unfolding words
word_stops line from at o l e =
    let w = slice_range line from at in
    ap (words_from w) (drop_more line at 0 l)
    ∙ simp (is_space (get_or line at 0) e) (closed_some w (words_from [] (drop (at + 1) line)) (some_bytes line from at o (omega arith)))
    ∙ ap (λ (ws : List (List ℕ)). w ∷ ws) (words_space line at l e)

pub word_ends : (line : List ℕ) (from at : ℕ) → from < at → at ≡ length line → words_from (slice_range line from at) (drop at line) ≡ slice_range line from at ∷ words (drop at line)
unfolding words
word_ends line from at o e =
    let w = slice_range line from at in
    let none : drop at line ≡ [] = drop_all at line (omega arith) in
    ap (words_from w) none ∙ closed_some w [] (some_bytes line from at o (omega arith)) ∙ ap (λ (v : List ℕ). w ∷ words_from [] v) (sym none)

pub ruleset word_bytes = (word_begins, word_more, word_stops, word_ends)

-- no words behind the end
pub words_end : (line : List ℕ) (at : ℕ) → at ≡ length line → words (drop at line) ≡ []
unfolding words
words_end line at e = ap (words_from []) (drop_all at line (omega arith))

pub words_start : (line : List ℕ) → words (drop 0 line) ≡ words line
words_start line = refl

-- the nth word is the first one behind n words
pub arg_next : (ws : List (List ℕ)) (n : ℕ) (w : List ℕ) (more : List (List ℕ)) → drop n ws ≡ w ∷ more → arg ws n ≡ w
arg_next [] zero w more e = cc
arg_next [] (suc n) w more e = cc
arg_next (v ∷ ws) zero w more e = let head : List (List ℕ) → List ℕ = λ xs. arg xs 0 in ap head e
arg_next (v ∷ ws) (suc n) w more e = arg_next ws n w more e

pub arg_none : (ws : List (List ℕ)) (n : ℕ) → drop n ws ≡ [] → arg ws n ≡ []
arg_none [] zero e = refl
arg_none [] (suc n) e = refl
arg_none (v ∷ ws) zero e = cc
arg_none (v ∷ ws) (suc n) e = arg_none ws n e

pub drop_next : (ws : List (List ℕ)) (n : ℕ) (w : List ℕ) (more : List (List ℕ)) → drop n ws ≡ w ∷ more → drop (n + 1) ws ≡ more
drop_next ws n w more e = sym (drop-drop 1 n ws) ∙ ap (drop 1) e

pub drop_beyond : (ws : List (List ℕ)) (n m : ℕ) → drop n ws ≡ [] → n ≤ m → drop m ws ≡ []
drop_beyond ws n m e l =
    let some : length ws ≤ n = omega (arith, ap length e, length-drop n ws) in
    drop_all m ws (omega arith)

pub ruleset word_steps = (words_space, words_end, words_start, arg_next, arg_none, drop_next, drop_beyond)
