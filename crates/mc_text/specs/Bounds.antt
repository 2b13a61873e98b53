-- How long a line, a key and a block may be.
use Rattle.std.specs.Prelude.{ℕ}

-- with its LF
abbrev pub longest_line : ℕ
longest_line = 65536

abbrev pub longest_key : ℕ
longest_key = 250

-- without its CR LF
abbrev pub longest_block : ℕ
longest_block = 1048576
