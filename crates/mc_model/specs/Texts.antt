-- The lines of replies, and the fixed texts by number (protocol.txt, "Error strings" and the replies of each command).
use Rattle.std.specs.Prelude.{ℕ, List, [], ◌∷◌, ◌++◌, codes, slice_index_or}

-- each line of a reply ends with CR LF
abbrev pub line : List ℕ → List ℕ
line text = text ++ 13 ∷ 10 ∷ []

abbrev pub texts : List (List ℕ)
texts =
    codes "STORED" ∷ codes "NOT_STORED" ∷ codes "EXISTS" ∷ codes "NOT_FOUND"
    ∷ codes "DELETED" ∷ codes "TOUCHED" ∷ codes "OK" ∷ codes "END"
    ∷ codes "ERROR" ∷ codes "VERSION 1.0.0-sei"
    ∷ codes "CLIENT_ERROR bad command line format"
    ∷ codes "CLIENT_ERROR bad data chunk"
    ∷ codes "CLIENT_ERROR invalid numeric delta argument"
    ∷ codes "CLIENT_ERROR cannot increment or decrement non-numeric value"
    ∷ codes "CLIENT_ERROR line too long"
    ∷ codes "SERVER_ERROR object too large for cache"
    ∷ codes "SERVER_ERROR out of memory storing object" ∷ []

-- the numbers of the texts, in the order of the list
abbrev pub stored_text : ℕ
stored_text = 0

abbrev pub not_stored_text : ℕ
not_stored_text = 1

abbrev pub exists_text : ℕ
exists_text = 2

abbrev pub not_found_text : ℕ
not_found_text = 3

abbrev pub deleted_text : ℕ
deleted_text = 4

abbrev pub touched_text : ℕ
touched_text = 5

abbrev pub okay_text : ℕ
okay_text = 6

abbrev pub end_text_number : ℕ
end_text_number = 7

abbrev pub error_text : ℕ
error_text = 8

abbrev pub version_text : ℕ
version_text = 9

abbrev pub bad_line_format_text : ℕ
bad_line_format_text = 10

abbrev pub bad_data_chunk_text : ℕ
bad_data_chunk_text = 11

abbrev pub bad_delta_text : ℕ
bad_delta_text = 12

abbrev pub not_a_number_text : ℕ
not_a_number_text = 13

abbrev pub line_too_long_text : ℕ
line_too_long_text = 14

abbrev pub object_too_large_text : ℕ
object_too_large_text = 15

abbrev pub out_of_memory_text : ℕ
out_of_memory_text = 16

-- how many texts there are
abbrev pub text_count : ℕ
text_count = 17

-- the line of a text
unfoldable pub text_line : ℕ → List ℕ
text_line n = line (slice_index_or texts n [])
