-- The rooms and the budget of a pass, each formula once.
use Rattle.std.specs.Prelude.{◌≡◌, ◌≤◌, ℕ, ◌+◌, ◌*◌}
use Rattle.mc_model.specs.declared.geometry.Geometry.{Geometry}
use Rattle.sei_words.specs.Free.{is_free}
use Rattle.sei_stmt.specs.Passes.{Rooms, Space}
use Rattle.sei_pass.specs.declared.spaces.PassSpace.{PassSpace}

-- how many input words stand before those of a block: 14 fields, and a key of 32 words
abbrev pub words_before_block : ℕ
words_before_block = 46

-- What a pass has for calls whose values and blocks have at most n words.

-- the input words, with those of a block
abbrev pub input_for : ℕ → ℕ
input_for n = words_before_block + n

-- the output words: two items of 8 fields at most, a key of 32 words, and a value
abbrev pub output_for : ℕ → ℕ
output_for n = 48 + n

-- the output bytes: a value of 8 bytes a word, its key, and 70 bytes more
abbrev pub bytes_for : ℕ → ℕ
bytes_for n = 8 * n + 320

-- the changes in a log: the bucket's own words and those of an item, the mark of each slot, and a value
abbrev pub log_for : Geometry → ℕ → ℕ
log_for g n = 48 + g.slots + n

-- the statements of a pass
abbrev pub budget_for : Geometry → ℕ → ℕ
budget_for g n = 2000 + 400 * g.slots + 100 * n

-- all of it, as the code keeps it, which makes it once
abbrev pub pass_space_for : Geometry → ℕ → PassSpace
pass_space_for g n = record {
  geometry = g;
  words = n;
  input = input_for n;
  output = output_for n;
  bytes = bytes_for n;
  log = log_for g n;
  budget = budget_for g n;
}

-- What it has for every call of a geometry.

abbrev pub input_room : Geometry → ℕ
input_room g = input_for g.value_words

abbrev pub output_room : Geometry → ℕ
output_room g = output_for g.value_words

abbrev pub bytes_room : Geometry → ℕ
bytes_room g = bytes_for g.value_words

abbrev pub log_room : Geometry → ℕ
log_room g = log_for g g.value_words

abbrev pub budget_of : Geometry → ℕ
budget_of g = budget_for g g.value_words

abbrev pub pass_space : Geometry → PassSpace
pass_space g = pass_space_for g g.value_words

abbrev pub rooms_of : Geometry → Rooms
rooms_of g = record { input = input_room g; output = output_room g; bytes = bytes_room g; log = log_room g }

abbrev pub space_of : Geometry → Space
space_of g = record { rooms = rooms_of g; budget = budget_of g; slots = g.slots; is_free = is_free g }

-- the space that a kept one stands for
abbrev pub space_in : PassSpace → Space
space_in s = record {
  rooms = record { input = s.input; output = s.output; bytes = s.bytes; log = s.log };
  budget = s.budget;
  slots = s.geometry.slots;
  is_free = is_free s.geometry;
}

-- its rooms and its budget are those of its geometry and its number of words
pub record IsSpaceOf (s : PassSpace) : Type 0 where
  pub words : s.words ≤ s.geometry.value_words
  pub input : s.input ≡ input_for s.words
  pub output : s.output ≡ output_for s.words
  pub bytes : s.bytes ≡ bytes_for s.words
  pub log : s.log ≡ log_for s.geometry s.words
  pub budget : s.budget ≡ budget_for s.geometry s.words
