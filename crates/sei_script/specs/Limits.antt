-- The limits of a script.
use Rattle.std.specs.Prelude.{ℕ}

-- the most bytes that it may have
abbrev pub script_limit : ℕ
script_limit = 16777216

-- the most connections that it may open
abbrev pub most_connections : ℕ
most_connections = 1
