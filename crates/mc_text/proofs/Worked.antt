-- Lines and texts, computed.
use Rattle.std.proofs.Common.{◌≡◌, ℕ, true, false, List, [], ◌∷◌, ◌++◌, refl, Some, None}
use Rattle.std.specs.Prelude.{codes, replicate}
use Rattle.mc_model.specs.declared.call.Verb.TheVariants.{Set, Add, Replace, Cas, Get, Gets, Gat, Gats, Touch, Delete, Flush}
use Rattle.mc_model.specs.Call.{blank}
use Rattle.mc_model.specs.Texts.{line, text_line}
use Rattle.mc_text.specs.declared.limits.Limits.{Limits}
use Rattle.mc_model.specs.Texts.{okay_text, error_text, version_text, bad_line_format_text, bad_data_chunk_text, line_too_long_text, object_too_large_text}
use Rattle.mc_text.specs.Commands.{command_of}
use Rattle.mc_text.specs.Words.{words}
use Rattle.mc_text.specs.Fields.{item_of}
use Rattle.mc_text.specs.Meaning.{Quit, One, Each, Everywhere, calls_of}
use Rattle.mc_text.specs.Lines.{Ends, Wants, fixed, refused, words_say, storage, check_and_set, retrieval, get_and_touch, touch, deletion, flush, version, verbosity, quit}
use Rattle.mc_text.specs.Spells.{line_says, finished, too_long}
use Rattle.mc_text.specs.Front.{front}
use Rattle.mc_text.specs.Stream.{requests, rest_of, own_requests}

-- the texts by their numbers

okay_is : text_line okay_text ≡ line (codes "OK")
unfolding text_line
okay_is = refl

error_is : text_line error_text ≡ line (codes "ERROR")
unfolding text_line
error_is = refl

version_text_is : text_line version_text ≡ line (codes "VERSION 1.0.0-sei")
unfolding text_line
version_text_is = refl

bad_line_format_is : text_line bad_line_format_text ≡ line (codes "CLIENT_ERROR bad command line format")
unfolding text_line
bad_line_format_is = refl

bad_data_chunk_is : text_line bad_data_chunk_text ≡ line (codes "CLIENT_ERROR bad data chunk")
unfolding text_line
bad_data_chunk_is = refl

line_too_long_is : text_line line_too_long_text ≡ line (codes "CLIENT_ERROR line too long")
unfolding text_line
line_too_long_is = refl

object_too_large_is : text_line object_too_large_text ≡ line (codes "SERVER_ERROR object too large for cache")
unfolding text_line
object_too_large_is = refl

-- lines

abbrev key : List (List ℕ)
key = codes "a" ∷ []

set_line : line_says (codes "set a 5 -1 2 noreply") ≡ Wants (record (blank Set) { flags = 5; negative = true; exptime = 1; noreply = true }) key 2
unfolding line_says words words_say command_of storage item_of
set_line = refl

spaces : line_says (codes "  set  a 5 0007 2 ") ≡ Wants (record (blank Set) { flags = 5; exptime = 7 }) key 2
unfolding line_says words words_say command_of storage item_of
spaces = refl

minus_zero : line_says (codes "set a 0 -0 2") ≡ Wants (blank Set) key 2
unfolding line_says words words_say command_of storage item_of
minus_zero = refl

ended_cr : line_says (codes "get a b" ++ 13 ∷ []) ≡ Ends (Each (blank Get) (codes "a" ∷ codes "b" ∷ []))
unfolding line_says words words_say command_of retrieval
ended_cr = refl

a_deletion : line_says (codes "delete a") ≡ Ends (Each (blank Delete) key)
unfolding line_says words words_say command_of deletion
a_deletion = refl

deletion_with_zero : line_says (codes "delete a 0") ≡ Ends (Each (blank Delete) key)
unfolding line_says words words_say command_of deletion
deletion_with_zero = refl

silent_deletion : line_says (codes "delete a noreply") ≡ Ends (Each (record (blank Delete) { noreply = true }) key)
unfolding line_says words words_say command_of deletion
silent_deletion = refl

silent_deletion_with_zero : line_says (codes "delete a 0 noreply") ≡ Ends (Each (record (blank Delete) { noreply = true }) key)
unfolding line_says words words_say command_of deletion
silent_deletion_with_zero = refl

-- whose key is `noreply`
deletion_of_noreply : line_says (codes "delete noreply") ≡ Ends (Each (blank Delete) (codes "noreply" ∷ []))
unfolding line_says words words_say command_of deletion
deletion_of_noreply = refl

an_add : line_says (codes "add a 5 1 2") ≡ Wants (record (blank Add) { flags = 5; exptime = 1 }) key 2
unfolding line_says words words_say command_of storage item_of
an_add = refl

a_replace : line_says (codes "replace a 0 0 2 noreply") ≡ Wants (record (blank Replace) { noreply = true }) key 2
unfolding line_says words words_say command_of storage item_of
a_replace = refl

a_cas : line_says (codes "cas a 5 -1 2 18446744073709551615 noreply") ≡ Wants (record (blank Cas) { flags = 5; negative = true; exptime = 1; unique = 18446744073709551615; noreply = true }) key 2
unfolding line_says words words_say command_of check_and_set item_of
a_cas = refl

a_gets : line_says (codes "gets a b") ≡ Ends (Each (blank Gets) (codes "a" ∷ codes "b" ∷ []))
unfolding line_says words words_say command_of retrieval
a_gets = refl

a_gat : line_says (codes "gat -3 a b") ≡ Ends (Each (record (blank Gat) { negative = true; exptime = 3 }) (codes "a" ∷ codes "b" ∷ []))
unfolding line_says words words_say command_of get_and_touch
a_gat = refl

a_gats : line_says (codes "gats 60 a") ≡ Ends (Each (record (blank Gats) { exptime = 60 }) key)
unfolding line_says words words_say command_of get_and_touch
a_gats = refl

a_touch : line_says (codes "touch a 60 noreply") ≡ Ends (Each (record (blank Touch) { exptime = 60; noreply = true }) key)
unfolding line_says words words_say command_of touch
a_touch = refl

a_flush : line_says (codes "flush_all") ≡ Ends (Everywhere (blank Flush))
unfolding line_says words words_say command_of flush
a_flush = refl

silent_flush_with_zero : line_says (codes "flush_all 0 noreply") ≡ Ends (Everywhere (record (blank Flush) { noreply = true }))
unfolding line_says words words_say command_of flush
silent_flush_with_zero = refl

-- one call for each bucket, and the last one is marked
flush_calls : calls_of 3 (Everywhere (blank Flush)) ≡ record { bucket = 0; call = record (blank Flush) { last = false } } ∷ record { bucket = 1; call = record (blank Flush) { last = false } } ∷ record { bucket = 2; call = blank Flush } ∷ []
unfolding calls_of
flush_calls = refl

the_version : line_says (codes "version") ≡ Ends (One (fixed version_text false) false)
unfolding line_says words words_say command_of version
the_version = refl

a_verbosity : line_says (codes "verbosity 4294967295 noreply") ≡ Ends (One (fixed okay_text true) false)
unfolding line_says words words_say command_of verbosity
a_verbosity = refl

a_quit : line_says (codes "quit") ≡ Ends Quit
unfolding line_says words words_say command_of quit
a_quit = refl

-- no word, or an unknown first word

no_word : line_says (codes "  ") ≡ refused error_text
unfolding line_says words words_say command_of
no_word = refl

unknown_word : line_says (codes "SET a 0 0 1") ≡ refused error_text
unfolding line_says words words_say command_of
unknown_word = refl

-- a number of words that the command does not have, before a bad key

few_words : line_says (codes "get") ≡ refused error_text
unfolding line_says words words_say command_of retrieval
few_words = refl

other_word : line_says (codes "set a 4294967296 0 2 norepl") ≡ refused error_text
unfolding line_says words words_say command_of storage item_of
other_word = refl

deletion_words : line_says (codes "delete a 0 0") ≡ refused error_text
unfolding line_says words words_say command_of deletion
deletion_words = refl

flush_words : line_says (codes "flush_all 0 0") ≡ refused error_text
unfolding line_says words words_say command_of flush
flush_words = refl

-- no key, before a bad exptime
gat_words : line_says (codes "gat x") ≡ refused error_text
unfolding line_says words words_say command_of get_and_touch
gat_words = refl

touch_words : line_says (codes "touch a 0 0") ≡ refused error_text
unfolding line_says words words_say command_of touch
touch_words = refl

-- no unique
cas_words : line_says (codes "cas a 0 0 2 noreply") ≡ refused bad_line_format_text
unfolding line_says words words_say command_of check_and_set item_of
cas_words = refl

version_words : line_says (codes "version 1") ≡ refused error_text
unfolding line_says words words_say command_of version
version_words = refl

quit_words : line_says (codes "quit now") ≡ refused error_text
unfolding line_says words words_say command_of quit
quit_words = refl

-- a key or a number out of its form, before the size

big_flags : line_says (codes "set a 4294967296 0 1048577") ≡ refused bad_line_format_text
unfolding line_says words words_say command_of storage item_of
big_flags = refl

long_key : line_says (codes "get a " ++ replicate 251 97) ≡ refused bad_line_format_text
unfolding line_says words words_say command_of retrieval
long_key = refl

big_unique : line_says (codes "cas a 0 0 1048577 18446744073709551616 noreply") ≡ refused bad_line_format_text
unfolding line_says words words_say command_of check_and_set item_of
big_unique = refl

no_exptime : line_says (codes "touch a -x noreply") ≡ refused bad_line_format_text
unfolding line_says words words_say command_of touch
no_exptime = refl

other_flush : line_says (codes "flush_all 00") ≡ refused bad_line_format_text
unfolding line_says words words_say command_of flush
other_flush = refl

two_zeros : line_says (codes "delete a 00") ≡ refused bad_line_format_text
unfolding line_says words words_say command_of deletion
two_zeros = refl

other_zero : line_says (codes "delete a 1 noreply") ≡ refused bad_line_format_text
unfolding line_says words words_say command_of deletion
other_zero = refl

no_number : line_says (codes "verbosity x") ≡ refused bad_line_format_text
unfolding line_says words words_say command_of verbosity
no_number = refl

-- a block that nobody could keep

over_megabyte : line_says (codes "set a 0 0 1048577 noreply") ≡ Ends (One (fixed object_too_large_text false) true)
unfolding line_says words words_say command_of storage item_of
over_megabyte = refl

over_megabyte_with_unique : line_says (codes "cas a 0 0 1048577 7 noreply") ≡ Ends (One (fixed object_too_large_text false) true)
unfolding line_says words words_say command_of check_and_set item_of
over_megabyte_with_unique = refl

-- texts

abbrev limits : Limits
limits = record { buckets = 1; value_bytes = 2 }

abbrev crlf : List ℕ
crlf = 13 ∷ 10 ∷ []

-- a bad block before a value over the limit, an empty line, and less than a whole request
abbrev stream : List ℕ
stream = codes "set a 0 0 3 noreply" ++ crlf ++ codes "abcde" ++ crlf ++ codes "set a 0 0 3" ++ crlf ++ codes "abc" ++ crlf ++ codes "set a 0 0 2" ++ crlf ++ codes "xy" ++ crlf ++ codes "ge"

stream_is : requests limits stream ≡ One (fixed bad_data_chunk_text true) false ∷ One (fixed error_text false) false ∷ One (fixed object_too_large_text false) false ∷ Each (record (blank Set) { block = codes "xy" }) key ∷ []
unfolding requests front finished line_says words words_say command_of storage item_of
stream_is = refl

rest_is : rest_of limits stream ≡ codes "ge"
unfolding rest_of front finished line_says words words_say command_of storage item_of
rest_is = refl

-- nothing behind `quit` is a connection's own
quit_ends : own_requests limits (codes "quit" ++ crlf ++ codes "version" ++ crlf) ≡ Quit ∷ []
unfolding requests front line_says words words_say command_of quit version
quit_ends = refl

-- nor behind a closing refusal
closing_ends : own_requests limits (codes "set a 0 0 1048577" ++ crlf ++ codes "version" ++ crlf) ≡ One (fixed object_too_large_text false) true ∷ []
unfolding requests front line_says words words_say command_of storage version item_of
closing_ends = refl

long : front limits (replicate 65536 97) ≡ Some (65536, too_long)
unfolding front
long = refl

not_so_long : front limits (replicate 65535 97) ≡ None
unfolding front
not_so_long = refl
