-- The requests that are measured.
use Rattle.std.specs.Prelude.{ℕ, List, ◌++◌, replicate, codes}
use Rattle.std.specs.Fmt.{decimal}
use Rattle.yardstick.specs.declared.order.Command.{Command}
use Rattle.yardstick.specs.declared.order.Command.TheVariants.{Set, Get, Miss}

-- a set of a key of this many letters `k` to a value of this many letters `v`
abbrev pub set_text : ℕ → ℕ → List ℕ
set_text key value = codes "set " ++ replicate key 107 ++ (codes " 0 0 " ++ decimal value ++ codes "\r\n") ++ replicate value 118 ++ codes "\r\n"

-- a get of a key that repeats this letter
abbrev pub get_text : ℕ → ℕ → List ℕ
get_text letter key = codes "get " ++ replicate key letter ++ codes "\r\n"

-- that of a command: a key that is not there has the letter `m`
abbrev pub request_text : Command → ℕ → ℕ → List ℕ
request_text Set key value = set_text key value
request_text Get key value = get_text 107 key
request_text Miss key value = get_text 109 key
