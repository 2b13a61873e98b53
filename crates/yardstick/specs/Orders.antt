-- How the words of a command line spell an order.
use Rattle.std.specs.Prelude.{◌≡◌, ℕ, ◌-◌, ◌^◌, List, [], ◌∷◌, Some, map, codes}
use Rattle.mc_model.specs.Numbers.{number_upto}
use Rattle.yardstick.specs.declared.order.Command.{Command}
use Rattle.yardstick.specs.declared.order.Command.TheVariants.{Set, Get, Miss}
use Rattle.yardstick.specs.declared.order.CoreKind.{CoreKind}
use Rattle.yardstick.specs.declared.order.CoreKind.TheVariants.{Plain, Script}
use Rattle.yardstick.specs.declared.order.Order.{Order}
use Rattle.yardstick.specs.declared.order.Way.{Way}
use Rattle.yardstick.specs.declared.order.Way.TheVariants.{Step, Run}

abbrev pub core_word : CoreKind → List ℕ
core_word Plain = codes "plain"
core_word Script = codes "script"

abbrev pub way_word : Way → List ℕ
way_word Step = codes "step"
way_word Run = codes "run"

abbrev pub command_word : Command → List ℕ
command_word Set = codes "set"
command_word Get = codes "get"
command_word Miss = codes "miss"

-- decimal digits that spell a number of 64 bits
abbrev pub IsNumber : List ℕ → ℕ → Type 0
IsNumber word n = number_upto (2 ^ 64 - 1) word ≡ Some n

-- the words are those of the core, the way and the command, and then the numbers in their order; there is one bucket
pub record Spells (words : List (List ℕ)) (o : Order) : Type 0 where
  pub calls : List ℕ
  pub slots : List ℕ
  pub value_words : List ℕ
  pub key : List ℕ
  pub value : List ℕ
  pub are : words ≡ core_word o.core ∷ way_word o.way ∷ command_word o.command ∷ calls ∷ slots ∷ value_words ∷ key ∷ value ∷ []
  pub calls_are : IsNumber calls o.calls
  pub slots_are : IsNumber slots o.geometry.slots
  pub value_words_are : IsNumber value_words o.geometry.value_words
  pub key_is : IsNumber key o.key
  pub value_is : IsNumber value o.value
  pub buckets : o.geometry.buckets ≡ 1
