-- What the programs of the item that a call spells do.
use Rattle.std.proofs.Common.{◌≡◌, ◌≢◌, ℕ, ◌+◌, ◌-◌, ◌%◌, ◌^◌, ◌<◌, ◌≤◌, Bool, true, false, length, refl, sym, ap, ◌∙◌, subst, arith, min}
use Rattle.std.specs.Prelude.{slice_index, nat_eq, ◌||◌}
use Rattle.std.proofs.lemmas.Bool.Decides.{nat_tests}
use Rattle.mc_model.specs.Call.{Call}
use Rattle.mc_model.specs.Items.{thirty_days, expiry_of}
use Rattle.mc_model.specs.Packed.{words_for}
use Rattle.sei_stmt.specs.Runs.{Given, RunState}
use Rattle.sei_stmt.specs.Programs.{Ends, IsParsed}
use Rattle.sei_stmt.specs.Touch.{Touch}
use Rattle.tab_find.specs.Calls.{IsCall, mark}
use Rattle.tab_find.specs.Inputs.{flags_index, negative_index, exptime_index, block_length_index, block_words_index, block_index}
use Rattle.tab_find.specs.Registers.{r_zero, r_moment, r_one, r_word, r_index, r_limit, r_flags, r_expiry, r_value_length, r_value_words}
use Rattle.tab_find.specs.StorePrograms.{load_call, expiry_program}
use Rattle.tab_find.proofs.MachineLaws.{word_is}

-- the index of an input word, and what a call spells of an item
abbrev pub loader : Touch
loader = record { regs = λ r. (nat_eq r r_index || nat_eq r r_flags) || (nat_eq r r_value_length || nat_eq r r_value_words); words = false; out = false; stage = false }

-- after the call's item was loaded, but for its expiry
pub record CallLoaded (c : Call) (bound : ℕ) (t : RunState) : Type 0 where
  pub steps : t.steps ≤ bound
  pub flags : t.regs r_flags ≡ c.flags
  pub value_length : t.regs r_value_length ≡ length c.block
  pub value_words : t.regs r_value_words ≡ words_for (length c.block)

pub load_call_ends : (e : Given) (s : RunState) (c : Call) (bound : ℕ) → IsCall e.input c → IsParsed s.stage → s.steps + 6 ≤ bound → Ends e load_call s (CallLoaded c bound)
load_call_ends e s c bound call parsed steps =
    let room = call.block.room in (
      parsed,
      slice_index e.input flags_index,
      word_is e.input flags_index flags_index refl (omega (arith, room)),
      (
        parsed,
        slice_index e.input block_length_index,
        word_is e.input block_length_index block_length_index refl (omega (arith, room)),
        (
          parsed,
          slice_index e.input block_words_index,
          word_is e.input block_words_index block_words_index refl (omega (arith, room)),
          record { steps = omega (arith, steps); flags = call.flags; value_length = call.block.block_length; value_words = call.block.block_words },
        ),
      ),
    )

-- a word, the index of an input word, the longest exptime, and the expiry
abbrev pub dater : Touch
dater = record { regs = λ r. (nat_eq r r_word || nat_eq r r_index) || (nat_eq r r_limit || nat_eq r r_expiry); words = false; out = false; stage = false }

never : (m : ℕ) (n : Bool) (x : ℕ) → x ≡ 0 → x ≡ expiry_of m n x
never m n x z = grind (arith, nat_tests, z)

at_once : (m : ℕ) (x : ℕ) → x ≢ 0 → 1 ≡ expiry_of m true x
at_once m x z = grind (arith, nat_tests, z)

itself : (m : ℕ) (x : ℕ) → thirty_days < x → x ≡ expiry_of m false x
itself m x lt = grind (arith, nat_tests, lt)

counted : (m x v : ℕ) → x ≢ 0 → x ≤ thirty_days → v ≡ min (m + x) (2 ^ 64 - 1) → v ≡ expiry_of m false x
counted m x v z le is = grind (arith, nat_tests, z, le, is)

is_negative : (n : Bool) → mark n ≡ 1 → n ≡ true
is_negative true e = refl
is_negative false e = absurd (omega (arith, e))

not_negative : (n : Bool) → mark n ≢ 1 → n ≡ false
not_negative true e = absurd (e refl)
not_negative false e = refl

-- after it
pub record Dated (at bound : ℕ) (t : RunState) : Type 0 where
  pub steps : t.steps ≤ bound
  pub expiry : t.regs r_expiry ≡ at

-- a sum that wraps is less than the moment, and stands for the last number
wraps : (m x : ℕ) → m < 2 ^ 64 → x ≤ thirty_days → (m + x) % 2 ^ 64 < m → 2 ^ 64 - 1 ≡ min (m + x) (2 ^ 64 - 1)
wraps m x lm lx lt = omega arith

stays : (m x : ℕ) → m < 2 ^ 64 → x ≤ thirty_days → m ≤ (m + x) % 2 ^ 64 → (m + x) % 2 ^ 64 ≡ min (m + x) (2 ^ 64 - 1)
stays m x lm lx le = omega arith

pub expiry_ends : (e : Given) (s : RunState) (n : Bool) (m x bound : ℕ) → IsParsed s.stage → s.regs r_zero ≡ 0 → s.regs r_moment ≡ m → s.regs r_one ≡ 1 → block_index ≤ length e.input →
    slice_index e.input negative_index ≡ mark n → slice_index e.input exptime_index ≡ x → m < 2 ^ 64 → s.steps + 20 ≤ bound → Ends e expiry_program s (Dated (expiry_of m n x) bound)
expiry_ends e s n m x bound parsed none moment one room is_mark is_x small steps =
    let x' = slice_index e.input exptime_index in
    let m' = s.regs r_moment in
    let known = λ (v : ℕ) (positive : slice_index e.input negative_index ≢ s.regs r_one) (is : v ≡ expiry_of m false x). subst (λ b. v ≡ expiry_of m b x) (sym (not_negative n (λ z. positive (is_mark ∙ z ∙ sym one)))) is in (
      parsed,
      x',
      word_is e.input exptime_index exptime_index refl (omega (arith, room)),
      (
        λ zero_. record { steps = omega (arith, steps); expiry = is_x ∙ never m n x (omega (arith, zero_, none, is_x)) },
        λ some. (
          parsed,
          slice_index e.input negative_index,
          word_is e.input negative_index negative_index refl (omega (arith, room)),
          (
            λ negative. record { steps = omega (arith, steps); expiry = one ∙ subst (λ b. 1 ≡ expiry_of m b x) (sym (is_negative n (sym is_mark ∙ negative ∙ one))) (at_once m x (λ z. some (is_x ∙ z ∙ sym none))) },
            λ positive. (
              λ long. record { steps = omega (arith, steps); expiry = known x' positive (is_x ∙ itself m x (omega (arith, long, is_x))) },
              λ short.
                  let le : x ≤ thirty_days = omega (arith, short, is_x) in
                  let sum : (m' + x') % 2 ^ 64 ≡ (m + x) % 2 ^ 64 = ap (λ a. (a + x') % 2 ^ 64) moment ∙ ap (λ a. (m + a) % 2 ^ 64) is_x in (
                    (m + x) % 2 ^ 64,
                    sum,
                    (
                      λ wrapped. record { steps = omega (arith, steps); expiry = known (2 ^ 64 - 1) positive (counted m x (2 ^ 64 - 1) (λ z. some (is_x ∙ z ∙ sym none)) le (wraps m x small le (omega (arith, wrapped, moment)))) },
                      λ right. record { steps = omega (arith, steps); expiry = known ((m + x) % 2 ^ 64) positive (counted m x ((m + x) % 2 ^ 64) (λ z. some (is_x ∙ z ∙ sym none)) le (stays m x small le (omega (arith, right, moment)))) },
                    ),
                  ),
            ),
          ),
        ),
      ),
    )
