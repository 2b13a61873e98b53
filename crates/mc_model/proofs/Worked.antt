-- Worked replies of one bucket: each is computed.
use Rattle.std.proofs.Common.{◌≡◌, ℕ, true, false, List, [], ◌∷◌, ◌++◌, refl}
use Rattle.std.specs.Prelude.{codes}
use Rattle.std.specs.Fmt.{digits}
use Rattle.mc_model.specs.declared.call.Verb.{Verb}
use Rattle.mc_model.specs.declared.call.Verb.TheVariants.{Set, Add, Replace, Append, Prepend, Cas, Get, Gets, Gat, Gats, Touch, Delete, Incr, Decr, Flush, Fixed}
use Rattle.mc_model.specs.declared.call.Room.{Room}
use Rattle.mc_model.specs.Texts.{text_line, line}
use Rattle.mc_model.specs.Bucket.{Bucket, empty_bucket}
use Rattle.mc_model.specs.Call.{Call, blank}
use Rattle.mc_model.specs.Answer.{answer}

-- the replies to calls, each at its moment
abbrev replies : Room → Bucket → List (ℕ × Call) → List (List ℕ)
replies r b [] = []
replies r b (c ∷ cs) = let a = answer r b c.0 c.1 in a.1 ∷ replies r a.0 cs

-- a room of so many slots, and of values of 24 bytes
abbrev room : ℕ → Room
room n = record { slots = n; value_bytes = 24 }

abbrev at_key : Verb → List ℕ → Call
at_key verb key = record (blank verb) { key = key }

abbrev set : List ℕ → List ℕ → Call
set key block = record (at_key Set key) { block = block }

abbrev timed : ℕ → Call → Call
timed exptime c = record c { exptime = exptime }

abbrev lines : List (List ℕ) → List (List ℕ)
lines [] = []
lines (x ∷ xs) = line x ∷ lines xs

incr_wraps_and_decr_stops_at_0 : replies (room 1) empty_bucket (
    (0, set (codes "n") (codes "18446744073709551615")) ∷ (0, record (at_key Incr (codes "n")) { value = 1 })
    ∷ (0, set (codes "n") (codes "5")) ∷ (0, record (at_key Decr (codes "n")) { value = 9 })
    ∷ (0, set (codes "n") (codes "12x")) ∷ (0, record (at_key Incr (codes "n")) { value = 1 })
    ∷ (0, set (codes "n") (codes "18446744073709551616")) ∷ (0, record (at_key Incr (codes "n")) { value = 1 }) ∷ [])
    ≡ lines (codes "STORED" ∷ codes "0" ∷ codes "STORED" ∷ codes "0"
    ∷ codes "STORED" ∷ codes "CLIENT_ERROR cannot increment or decrement non-numeric value"
    ∷ codes "STORED" ∷ codes "CLIENT_ERROR cannot increment or decrement non-numeric value" ∷ [])
unfolding answer text_line digits
incr_wraps_and_decr_stops_at_0 = refl

abbrev a_x : List ℕ
a_x = line (codes "VALUE a 0 1") ++ line (codes "x")

-- up to 2,592,000 an exptime counts from the moment, above it is the second itself, a negative one is past, and the moment never goes back
thirty_days_are_relative : replies (room 3) empty_bucket (
    (1000, timed 2592000 (set (codes "a") (codes "x"))) ∷ (1000, timed 2592001 (set (codes "b") (codes "y")))
    ∷ (1000, record (timed 1 (set (codes "c") (codes "z"))) { negative = true }) ∷ (1000, at_key Get (codes "c"))
    ∷ (2592001, record (at_key Get (codes "a")) { last = false }) ∷ (2592001, at_key Get (codes "b"))
    ∷ (2593000, at_key Get (codes "a")) ∷ (5, at_key Get (codes "a")) ∷ [])
    ≡ line (codes "STORED") ∷ line (codes "STORED") ∷ line (codes "STORED") ∷ line (codes "END")
    ∷ a_x ∷ line (codes "END") ∷ line (codes "END") ∷ line (codes "END") ∷ []
unfolding answer text_line digits
thirty_days_are_relative = refl

expired_item_makes_room : replies (room 1) empty_bucket (
    (100, timed 10 (set (codes "a") (codes "x"))) ∷ (100, set (codes "b") (codes "y")) ∷ (109, set (codes "b") (codes "y"))
    ∷ (109, set (codes "a") (codes "z")) ∷ (109, timed 10 (set (codes "a") (codes "x"))) ∷ (119, set (codes "b") (codes "y")) ∷ [])
    ≡ lines (codes "STORED" ∷ codes "SERVER_ERROR out of memory storing object" ∷ codes "SERVER_ERROR out of memory storing object"
    ∷ codes "STORED" ∷ codes "STORED" ∷ codes "STORED" ∷ [])
unfolding answer text_line digits
expired_item_makes_room = refl

-- touch draws no cas unique, and a refused cas changes nothing
cas_compares_the_unique : replies (room 1) empty_bucket (
    (0, set (codes "a") (codes "x")) ∷ (0, at_key Gets (codes "a")) ∷ (0, at_key Touch (codes "a"))
    ∷ (0, record (set (codes "a") (codes "y")) { verb = Cas; unique = 1 }) ∷ (0, record (set (codes "a") (codes "z")) { verb = Cas; unique = 1 })
    ∷ (0, record (set (codes "q") (codes "z")) { verb = Cas; unique = 1 }) ∷ (0, at_key Gets (codes "a")) ∷ [])
    ≡ line (codes "STORED") ∷ (line (codes "VALUE a 0 1 1") ++ line (codes "x") ++ line (codes "END")) ∷ line (codes "TOUCHED") ∷ line (codes "STORED")
    ∷ line (codes "EXISTS") ∷ line (codes "NOT_FOUND") ∷ (line (codes "VALUE a 0 1 2") ++ line (codes "y") ++ line (codes "END")) ∷ []
unfolding answer text_line digits
cas_compares_the_unique = refl

-- append and prepend keep the item's flags, and refuse 25 bytes where 24 are the limit
joined_values_have_a_limit : replies (room 1) empty_bucket (
    (0, record (set (codes "a") (codes "12345678")) { flags = 7 })
    ∷ (0, record (at_key Append (codes "a")) { flags = 1; block = codes "90abcdefghij" })
    ∷ (0, record (at_key Prepend (codes "a")) { block = codes "wxyz" })
    ∷ (0, record (at_key Append (codes "a")) { block = codes "!" })
    ∷ (0, record (at_key Append (codes "b")) { block = codes "!" }) ∷ (0, at_key Gets (codes "a")) ∷ [])
    ≡ line (codes "STORED") ∷ line (codes "STORED") ∷ line (codes "STORED") ∷ line (codes "SERVER_ERROR object too large for cache")
    ∷ line (codes "NOT_STORED") ∷ (line (codes "VALUE a 7 24 3") ++ line (codes "wxyz1234567890abcdefghij") ++ line (codes "END")) ∷ []
unfolding answer text_line digits
joined_values_have_a_limit = refl

-- gat and gats show the item and set its expiry, and keep its cas unique
gat_shows_and_touches : replies (room 1) empty_bucket (
    (100, set (codes "a") (codes "x")) ∷ (100, timed 10 (at_key Gat (codes "a"))) ∷ (109, timed 20 (at_key Gats (codes "a")))
    ∷ (128, at_key Gets (codes "a")) ∷ (129, at_key Gat (codes "a")) ∷ (129, at_key Gats (codes "a")) ∷ [])
    ≡ line (codes "STORED") ∷ (a_x ++ line (codes "END")) ∷ (line (codes "VALUE a 0 1 1") ++ line (codes "x") ++ line (codes "END"))
    ∷ (line (codes "VALUE a 0 1 1") ++ line (codes "x") ++ line (codes "END")) ∷ line (codes "END") ∷ line (codes "END") ∷ []
unfolding answer text_line digits
gat_shows_and_touches = refl

absent_key_has_nothing_to_change : replies (room 1) empty_bucket (
    (0, record (set (codes "a") (codes "x")) { verb = Replace }) ∷ (0, record (at_key Prepend (codes "a")) { block = codes "x" })
    ∷ (0, record (at_key Incr (codes "a")) { value = 1 }) ∷ (0, record (at_key Decr (codes "a")) { value = 1 })
    ∷ (0, set (codes "a") (codes "x")) ∷ (0, record (set (codes "a") (codes "y")) { verb = Replace }) ∷ (0, at_key Get (codes "a")) ∷ [])
    ≡ line (codes "NOT_STORED") ∷ line (codes "NOT_STORED") ∷ line (codes "NOT_FOUND") ∷ line (codes "NOT_FOUND")
    ∷ line (codes "STORED") ∷ line (codes "STORED") ∷ (line (codes "VALUE a 0 1") ++ line (codes "y") ++ line (codes "END")) ∷ []
unfolding answer text_line digits
absent_key_has_nothing_to_change = refl

-- a value of 20 digits is counted, leading zeros among them, and one of 21 is not
twenty_digits_are_counted : replies (room 1) empty_bucket (
    (0, set (codes "n") (codes "00000000000000000009")) ∷ (0, record (at_key Incr (codes "n")) { value = 1 })
    ∷ (0, set (codes "n") (codes "00000000000000000010")) ∷ (0, record (at_key Decr (codes "n")) { value = 1 }) ∷ (0, at_key Get (codes "n"))
    ∷ (0, set (codes "n") (codes "000000000000000000009")) ∷ (0, record (at_key Incr (codes "n")) { value = 1 }) ∷ [])
    ≡ line (codes "STORED") ∷ line (codes "10") ∷ line (codes "STORED") ∷ line (codes "9") ∷ (line (codes "VALUE n 0 1") ++ line (codes "9") ++ line (codes "END"))
    ∷ line (codes "STORED") ∷ line (codes "CLIENT_ERROR cannot increment or decrement non-numeric value") ∷ []
unfolding answer text_line digits
twenty_digits_are_counted = refl

flush_empties_the_bucket : replies (room 2) empty_bucket (
    (0, set (codes "a") (codes "x")) ∷ (0, record (at_key Add (codes "a")) { block = codes "y" })
    ∷ (0, record (blank Flush) { last = false }) ∷ (0, at_key Get (codes "a")) ∷ (0, blank Flush) ∷ [])
    ≡ line (codes "STORED") ∷ line (codes "NOT_STORED") ∷ [] ∷ line (codes "END") ∷ line (codes "OK") ∷ []
unfolding answer text_line digits
flush_empties_the_bucket = refl

-- a call marked noreply does its work, and its reply is empty
noreply_is_silent : replies (room 2) empty_bucket (
    (0, record (set (codes "a") (codes "x")) { noreply = true }) ∷ (0, at_key Get (codes "a"))
    ∷ (0, record (at_key Delete (codes "a")) { noreply = true }) ∷ (0, at_key Delete (codes "a")) ∷ [])
    ≡ [] ∷ (a_x ++ line (codes "END")) ∷ [] ∷ line (codes "NOT_FOUND") ∷ []
unfolding answer text_line digits
noreply_is_silent = refl

silent_cas_stores : replies (room 1) empty_bucket (
    (0, set (codes "a") (codes "x")) ∷ (0, record (set (codes "a") (codes "y")) { verb = Cas; unique = 1; noreply = true })
    ∷ (0, record (set (codes "a") (codes "z")) { verb = Cas; unique = 1; noreply = true }) ∷ (0, at_key Gets (codes "a")) ∷ [])
    ≡ line (codes "STORED") ∷ [] ∷ [] ∷ (line (codes "VALUE a 0 1 2") ++ line (codes "y") ++ line (codes "END")) ∷ []
unfolding answer text_line digits
silent_cas_stores = refl

version_is_told : replies (room 1) empty_bucket ((0, record (blank Fixed) { text = 9 }) ∷ []) ≡ lines (codes "VERSION 1.0.0-sei" ∷ [])
unfolding answer text_line
version_is_told = refl
