-- Replies that are no fixed text (protocol.txt, "Retrieval command").
use Rattle.std.specs.Prelude.{ℕ, Bool, List, [], ◌++◌, length, codes, if◌then◌else◌}
use Rattle.std.specs.Fmt.{decimal}
use Rattle.mc_model.specs.Texts.{line}
use Rattle.mc_model.specs.Bucket.{Item}

-- what follows the reply to a request's last key
abbrev pub end_text : Bool → List ℕ
end_text last = if last then line (codes "END") else []

abbrev pub unique_text : Bool → ℕ → List ℕ
unique_text with_unique unique = if with_unique then codes " " ++ decimal unique else []

-- VALUE, the key, the flags and the length of the value, perhaps the cas unique, and on the next line the value
abbrev pub value_text : Bool → List ℕ → Item → List ℕ
value_text with_unique key x =
    line (codes "VALUE " ++ key ++ codes " " ++ decimal x.flags ++ codes " " ++ decimal (length x.value) ++ unique_text with_unique x.unique)
    ++ line x.value
