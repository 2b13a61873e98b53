-- What the words of a line ask for. Nested tests are the refusals in their order.
use Rattle.std.specs.Prelude.{ℕ, ◌+◌, ◌-◌, ◌^◌, Bool, true, false, ◌&&◌, ◌||◌, ◌==◌, nat_le, nat_lt, List, Option, Some, None, length, take, drop, codes, if◌then◌else◌}
use Rattle.std.specs.List.{list_all}
use Rattle.std.specs.Str.{bytes_eq}
use Rattle.mc_model.specs.declared.call.Verb.{Verb}
use Rattle.mc_model.specs.declared.call.Verb.TheVariants.{Flush, Fixed}
use Rattle.mc_model.specs.Call.{Call, blank}
use Rattle.mc_model.specs.Numbers.{number_upto}
use Rattle.mc_text.specs.Bounds.{longest_block}
use Rattle.mc_model.specs.Texts.{okay_text, error_text, version_text, bad_line_format_text, object_too_large_text}
use Rattle.mc_text.specs.Words.{arg}
use Rattle.mc_text.specs.declared.commands.Command.{Command}
use Rattle.mc_text.specs.declared.commands.Form.{Form}
use Rattle.mc_text.specs.declared.commands.Form.TheVariants as forms
use Rattle.mc_text.specs.declared.fields.Item.{Item}
use Rattle.mc_text.specs.Fields.{is_key, exptime_of, item_of, is_noreply, has_words}
use Rattle.mc_text.specs.Commands.{command_of}
use Rattle.mc_text.specs.Meaning.{Meaning, Quit, One, Each, Everywhere}

-- the request ends with the line, or its call at these keys has a block of this many bytes
pub data LineMeaning : Type 0 where
  Ends : (request : Meaning) → LineMeaning
  Wants : (call : Call) (keys : List (List ℕ)) (bytes : ℕ) → LineMeaning

-- a call that is answered by a text
abbrev pub fixed : ℕ → Bool → Call
fixed text noreply = record (blank Fixed) { text = text; noreply = noreply }

-- the request ends with the line, and this text answers it
abbrev pub refused : ℕ → LineMeaning
refused text = Ends (One (fixed text false) false)

-- a refusal, unless the test is passed
abbrev pub having : Bool → ℕ → LineMeaning → LineMeaning
having good text meaning = if good then meaning else refused text

-- a field, or a refusal if it does not have its form
abbrev pub field : {A : Type 0} → ℕ → Option A → (A → LineMeaning) → LineMeaning
field text None f = refused text
field text (Some x) f = f x

-- the count words from first on
abbrev pub some_words : List (List ℕ) → ℕ → ℕ → List (List ℕ)
some_words ws first count = take count (drop first ws)

-- a block longer than `longest_block` is not read
abbrev pub block_for : Call → List (List ℕ) → ℕ → LineMeaning
block_for c keys bytes = if nat_le bytes longest_block then Wants c keys bytes else Ends (One (fixed object_too_large_text false) true)

-- a call that offers an item
abbrev pub item_call : Verb → Item → Bool → Call
item_call verb i noreply = record (blank verb) { flags = i.flags; negative = i.negative; exptime = i.exptime; noreply = noreply }

-- <command> <key> <flags> <exptime> <bytes> [noreply]
unfoldable pub storage : Verb → List (List ℕ) → LineMeaning
storage verb ws =
    having (has_words ws 5) error_text (field bad_line_format_text (item_of (arg ws 1) (arg ws 2) (arg ws 3) (arg ws 4)) (λ i.
    block_for (item_call verb i (nat_lt 5 (length ws))) (some_words ws 1 1) i.bytes))

-- <command> <key> <flags> <exptime> <bytes> <unique> [noreply]
unfoldable pub check_and_set : Verb → List (List ℕ) → LineMeaning
check_and_set verb ws =
    having (has_words ws 6) error_text (field bad_line_format_text (item_of (arg ws 1) (arg ws 2) (arg ws 3) (arg ws 4)) (λ i.
    field bad_line_format_text (number_upto (2 ^ 64 - 1) (arg ws 5)) (λ unique.
    block_for (record (item_call verb i (nat_lt 6 (length ws))) { unique = unique }) (some_words ws 1 1) i.bytes)))

-- <command> <key>+
unfoldable pub retrieval : Verb → List (List ℕ) → LineMeaning
retrieval verb ws =
    having (nat_lt 1 (length ws)) error_text (having (list_all is_key (drop 1 ws)) bad_line_format_text (
    Ends (Each (blank verb) (some_words ws 1 (length ws - 1)))))

-- <command> <exptime> <key>+
unfoldable pub get_and_touch : Verb → List (List ℕ) → LineMeaning
get_and_touch verb ws =
    having (nat_lt 2 (length ws)) error_text (having (list_all is_key (drop 2 ws)) bad_line_format_text (
    field bad_line_format_text (exptime_of (arg ws 1)) (λ e.
    Ends (Each (record (blank verb) { negative = e.0; exptime = e.1 }) (some_words ws 2 (length ws - 2))))))

-- <command> <key> <exptime> [noreply]
unfoldable pub touch : Verb → List (List ℕ) → LineMeaning
touch verb ws =
    having (has_words ws 3) error_text (having (is_key (arg ws 1)) bad_line_format_text (
    field bad_line_format_text (exptime_of (arg ws 2)) (λ e.
    Ends (Each (record (blank verb) { negative = e.0; exptime = e.1; noreply = nat_lt 3 (length ws) }) (some_words ws 1 1)))))

abbrev pub is_zero : List ℕ → Bool
is_zero w = bytes_eq w (codes "0")

-- n words, and up to two more, the second of which is `noreply`
abbrev pub has_zero_words : List (List ℕ) → ℕ → Bool
has_zero_words ws n = (length ws == n) || (length ws == n + 1) || ((length ws == n + 2) && is_noreply (arg ws (n + 1)))

-- no word after n, or `0` first, or `noreply` alone
abbrev pub is_zero_or_noreply : List (List ℕ) → ℕ → Bool
is_zero_or_noreply ws n = (length ws == n) || is_zero (arg ws n) || ((length ws == n + 1) && is_noreply (arg ws n))

-- one of the two words after n is `noreply`
abbrev pub asks_noreply : List (List ℕ) → ℕ → Bool
asks_noreply ws n = is_noreply (arg ws n) || is_noreply (arg ws (n + 1))

-- <command> <key> [0] [noreply]
unfoldable pub deletion : Verb → List (List ℕ) → LineMeaning
deletion verb ws =
    having (has_zero_words ws 2) error_text (having (is_zero_or_noreply ws 2) bad_line_format_text (having (is_key (arg ws 1)) bad_line_format_text (
    Ends (Each (record (blank verb) { noreply = asks_noreply ws 2 }) (some_words ws 1 1)))))

-- flush_all [0] [noreply]
unfoldable pub flush : List (List ℕ) → LineMeaning
flush ws =
    having (has_zero_words ws 1) error_text (having (is_zero_or_noreply ws 1) bad_line_format_text (
    Ends (Everywhere (record (blank Flush) { noreply = asks_noreply ws 1 }))))

-- version
unfoldable pub version : List (List ℕ) → LineMeaning
version ws = having (length ws == 1) error_text (Ends (One (fixed version_text false) false))

-- verbosity <n> [noreply]
unfoldable pub verbosity : List (List ℕ) → LineMeaning
verbosity ws = having (has_words ws 2) error_text (field bad_line_format_text (number_upto (2 ^ 32 - 1) (arg ws 1)) (λ n. Ends (One (fixed okay_text (nat_lt 2 (length ws))) false)))

-- quit
unfoldable pub quit : List (List ℕ) → LineMeaning
quit ws = having (length ws == 1) error_text (Ends Quit)

abbrev pub by_form : Form → Verb → List (List ℕ) → LineMeaning
by_form forms.Storage verb ws = storage verb ws
by_form forms.CheckAndSet verb ws = check_and_set verb ws
by_form forms.Retrieval verb ws = retrieval verb ws
by_form forms.GetAndTouch verb ws = get_and_touch verb ws
by_form forms.Touch verb ws = touch verb ws
by_form forms.Deletion verb ws = deletion verb ws
by_form forms.Flush verb ws = flush ws
by_form forms.Version verb ws = version ws
by_form forms.Verbosity verb ws = verbosity ws
by_form forms.Quit verb ws = quit ws

abbrev pub by_command : Option Command → List (List ℕ) → LineMeaning
by_command None ws = refused error_text
by_command (Some c) ws = by_form c.form c.verb ws

-- by the first word; no word is no command
unfoldable pub words_say : List (List ℕ) → LineMeaning
words_say ws = by_command (command_of (arg ws 0)) ws
