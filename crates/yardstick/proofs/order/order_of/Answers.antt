use Rattle.std.proofs.Common.{◌≡◌, ◌∙◌, ℕ, ◌≤◌, ◌<◌, ◌-◌, ◌^◌, List, [], ◌∷◌, length, get_or, map, Some, sym, ap, subst, string_bytes, arith}
use Rattle.mc_model.specs.Numbers.{number_upto}
use Rattle.yardstick.specs.Orders.{Spells, IsNumber}
use Rattle.yardstick.proofs.order.order_of.Goals as goal

-- a list of eight is its items
eight : {A : Type 0} (xs : List A) (a b c d e f g h : A) → 8 ≤ length xs → length xs < 9 →
    a ≡ get_or xs 0 a → b ≡ get_or xs 1 b → c ≡ get_or xs 2 c → d ≡ get_or xs 3 d → e ≡ get_or xs 4 e → f ≡ get_or xs 5 f → g ≡ get_or xs 6 g → h ≡ get_or xs 7 h →
    xs ≡ a ∷ b ∷ c ∷ d ∷ e ∷ f ∷ g ∷ h ∷ []
eight [] a b c d e f g h few many = absurd (omega (arith, few))
eight (a0 ∷ []) a b c d e f g h few many = absurd (omega (arith, few))
eight (a0 ∷ a1 ∷ []) a b c d e f g h few many = absurd (omega (arith, few))
eight (a0 ∷ a1 ∷ a2 ∷ []) a b c d e f g h few many = absurd (omega (arith, few))
eight (a0 ∷ a1 ∷ a2 ∷ a3 ∷ []) a b c d e f g h few many = absurd (omega (arith, few))
eight (a0 ∷ a1 ∷ a2 ∷ a3 ∷ a4 ∷ []) a b c d e f g h few many = absurd (omega (arith, few))
eight (a0 ∷ a1 ∷ a2 ∷ a3 ∷ a4 ∷ a5 ∷ []) a b c d e f g h few many = absurd (omega (arith, few))
eight (a0 ∷ a1 ∷ a2 ∷ a3 ∷ a4 ∷ a5 ∷ a6 ∷ []) a b c d e f g h few many = absurd (omega (arith, few))
eight (a0 ∷ a1 ∷ a2 ∷ a3 ∷ a4 ∷ a5 ∷ a6 ∷ a7 ∷ []) a b c d e f g h few many = λ p q r s t u v w. cc
eight (a0 ∷ a1 ∷ a2 ∷ a3 ∷ a4 ∷ a5 ∷ a6 ∷ a7 ∷ a8 ∷ xs) a b c d e f g h few many = absurd (omega (arith, many))

first_three : (a b c x y z : List ℕ) (rest : List (List ℕ)) → a ≡ x → b ≡ y → c ≡ z → a ∷ b ∷ c ∷ rest ≡ x ∷ y ∷ z ∷ rest
first_three a b c x y z rest p q r = cc

read : (word text : List ℕ) (n : ℕ) → text ≡ word → IsNumber text n → IsNumber word n
read word text n e is = subst (λ (w : List ℕ). number_upto (2 ^ 64 - 1) w ≡ Some n) e is

pub returns-in_ok-number-in-len8-3-clause-spelled : goal.returns-in_ok-number-in-len8-3-clause-spelled
returns-in_ok-number-in-len8-3-clause-spelled c = record {
  calls = string_bytes c.calls-item.result;
  slots = string_bytes c.slots-item.result;
  value_words = string_bytes c.value_words-item.result;
  key = string_bytes c.key-item.result;
  value = string_bytes c.value-item.result;
  are = ap (map string_bytes) (eight c.args.words.now c.core-item.result c.way-item.result c.command-item.result c.calls-item.result c.slots-item.result c.value_words-item.result c.key-item.result c.value-item.result
      c.in-len8.len_at_least c.in-len8.len_below c.core-item.is c.way-item.is c.command-item.is c.calls-item.is c.slots-item.is c.value_words-item.is c.key-item.is c.value-item.is)
      ∙ first_three _ _ _ _ _ _ _ (sym c.as_str.ensures.value ∙ c.in_ok-core_kind-in-len8.ensures) (sym c.as_str-in-len8.ensures.value ∙ c.in_ok-way_of-in-len8.ensures) (sym c.as_str-in-len8-2.ensures.value ∙ c.in_ok-command_of-in-len8.ensures);
  calls_are = read _ _ _ c.as_str-in-len8-3.ensures.value c.in_ok-number-in-len8.ensures.read;
  slots_are = read _ _ _ c.as_str-in-len8-4.ensures.value c.in_ok-geometry-in-len8.ensures.slots;
  value_words_are = read _ _ _ c.as_str-in-len8-5.ensures.value c.in_ok-geometry-in-len8.ensures.value_words;
  key_is = read _ _ _ c.as_str-in-len8-6.ensures.value c.in_ok-number-in-len8-2.ensures.read;
  value_is = read _ _ _ c.as_str-in-len8-7.ensures.value c.in_ok-number-in-len8-3.ensures.read;
  buckets = c.in_ok-geometry-in-len8.ensures.buckets;
}
