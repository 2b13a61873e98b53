-- What must hold before a program copies input words into the words of a bucket, and what holds after it.
use Rattle.std.specs.Prelude.{◌≡◌, ◌⊎◌, ℕ, ◌+◌, ◌*◌, ◌^◌, ◌<◌, ◌≤◌, List, length, slice_index}
use Rattle.mc_model.specs.declared.geometry.Geometry.{Geometry}
use Rattle.mc_model.specs.Bucket.{Item}
use Rattle.mc_model.specs.Packed.{AreBytes, words_for, pack}
use Rattle.mc_model.specs.Server.{IsValid}
use Rattle.sei_words.specs.Layout.{value_offset, slot_at, word_count}
use Rattle.sei_words.specs.Stored.{StoredAt}
use Rattle.sei_words.specs.Changes.{ValueStored}
use Rattle.sei_stmt.specs.Runs.{Given, RunState}
use Rattle.sei_stmt.specs.Programs.{IsParsed}
use Rattle.tab_find.specs.Registers.{r_zero, r_one, r_place, r_flags, r_expiry, r_value_length, r_value_words}

-- A run of words.

-- the first n of these words are there from a on, and all other words are as in ws
pub record IsCopied (vs ws : List ℕ) (a n : ℕ) (t : List ℕ) : Type 0 where
  pub size : length t ≡ length ws
  pub there : (j : ℕ) → j < n → slice_index t (a + j) ≡ slice_index vs j
  pub off : (b : ℕ) → (b < a) ⊎ (a + n ≤ b) → slice_index t b ≡ slice_index ws b

-- after the copy of a run of input words to the words from a on
pub record Copied (vs ws : List ℕ) (a bound most : ℕ) (t : RunState) : Type 0 where
  pub steps : t.steps ≤ bound
  pub stores : t.stores ≤ most
  pub floor : t.floor ≤ a + length vs
  pub copied : IsCopied vs ws a (length vs) t.words

-- what must hold before the copy: words of the input from `index` on, room for them, and the contents of its registers
pub record CanCopy (input : List ℕ) (index : ℕ) (vs ws : List ℕ) (a : ℕ) (words : List ℕ) (stage floor r2 r12 r14 r_end : ℕ) : Type 0 where
  pub some : 1 ≤ length vs
  pub same : words ≡ ws
  pub parsed : IsParsed stage
  pub low : floor ≤ a
  pub one : r2 ≡ 1
  pub address : r12 ≡ a
  pub begins : r14 ≡ index
  pub ends : r_end ≡ index + length vs
  pub room : a + length vs ≤ length ws
  pub small : length ws < 2 ^ 32
  pub few : index + length vs < 2 ^ 64
  pub there : index + length vs ≤ length input
  pub stored : StoredAt input index vs

-- The value of a slot.

-- the most statements that it makes, and the most stores, for n words
abbrev pub store_steps : ℕ → ℕ
store_steps n = 5 * n + 6

abbrev pub store_stores : ℕ → ℕ
store_stores n = n

-- what must hold before it: the slot's place, and the words of the value among the input words from `index` on
pub record CanStoreValue (g : Geometry) (input : List ℕ) (index i : ℕ) (vs words : List ℕ) (stage floor r0 r2 r10 r22 : ℕ) : Type 0 where
  pub valid : IsValid g
  pub within : i < g.slots
  pub size : length words ≡ word_count g
  pub parsed : IsParsed stage
  pub low : floor ≤ slot_at g i + value_offset
  pub none : r0 ≡ 0
  pub one : r2 ≡ 1
  pub place : r10 ≡ slot_at g i
  pub count : r22 ≡ length vs
  pub fits : length vs ≤ g.value_words
  pub few : index < 2 ^ 32
  pub there : index + length vs ≤ length input
  pub stored : StoredAt input index vs

abbrev pub CanStoreIn : Geometry → Given → ℕ → ℕ → List ℕ → RunState → Type 0
CanStoreIn g e index i vs s = CanStoreValue g e.input index i vs s.words s.stage s.floor (s.regs r_zero) (s.regs r_one) (s.regs r_place) (s.regs r_value_words)

-- after it: the value of slot i was stored, within these limits
pub record HasStored (g : Geometry) (m : ℕ) (ws : List ℕ) (i : ℕ) (vs : List ℕ) (bound most : ℕ) (t : RunState) : Type 0 where
  pub steps : t.steps ≤ bound
  pub stores : t.stores ≤ most
  pub value : ValueStored g m ws t.words i vs

-- The item that is to be stored.

-- the item x is in the registers and among the input words from `index` on, but for its unique
pub record Loaded (input : List ℕ) (index w : ℕ) (g : Geometry) (x : Item) (r18 r19 r21 r22 : ℕ) : Type 0 where
  pub flags : r18 ≡ x.flags
  pub expiry : r19 ≡ x.expiry
  pub value_length : r21 ≡ length x.value
  pub value_words : r22 ≡ words_for (length x.value)
  pub bytes : AreBytes x.value
  pub fits : words_for (length x.value) ≤ g.value_words
  pub few : words_for (length x.value) ≤ w
  pub stored : StoredAt input index (pack x.value)
  pub room : index + words_for (length x.value) ≤ length input
  pub near : index < 2 ^ 32

abbrev pub HasLoaded : List ℕ → ℕ → ℕ → Geometry → Item → RunState → Type 0
HasLoaded input index w g x s = Loaded input index w g x (s.regs r_flags) (s.regs r_expiry) (s.regs r_value_length) (s.regs r_value_words)
