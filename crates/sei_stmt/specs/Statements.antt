-- What each statement does: the questions that it asks a core, in order, and what it does with the answers.
-- A number that is read, from a register, a word, the clock, the search for a slot or a note, is a Value. A number that is written,
-- to a register, to a word of the bucket or as an output word, is a Written. Of the input words of Parse and of the output bytes of
-- Render the first one alone is. A Test is asked by the jumps with a condition, by Store, by Alloc in the second pass, and three
-- times by Parse. Whether there is such a statement, address, room or budget, and whether a note reads, asks nothing.
use Rattle.std.specs.Prelude.{ℕ, ◌+◌, ◌-◌, ◌%◌, ◌^◌, Bool, false, ◌==◌, nat_lt, nat_le, List, [], ◌∷◌, ◌++◌, length, Option, Some, None, is_some, slice_get, if◌then◌else◌}
use Rattle.sei_code.specs.Codes.{message_code}
use Rattle.sei_code.specs.Coded.{sealed, read_of}
use Rattle.sei_code.specs.Kept.{has_room}
use Rattle.sei_code.specs.declared.coded.Coded.{Coded}
use Rattle.sei_log.specs.Changes.{change_of}
use Rattle.sei_fault.specs.declared.cause.AbortCause.TheVariants.{Code, Range, Table, Budget, LogFull, OutFull, Output, Bucket, Notes}
use Rattle.sei_fault.specs.Tree.{Tree}
use Rattle.sei_fault.specs.Tree.Tree.{Ask}
use Rattle.sei_fault.specs.Question.Question.{Value, Written, Test}
use Rattle.sei_stmt.specs.declared.stmt.Stmt.{Stmt}
use Rattle.sei_stmt.specs.declared.stmt.Stmt.TheVariants.{Const, Move, Add, Sub, Input, Load, Store, Emit, Jump, JumpEq, JumpLt, Now, Alloc, Parse, Render, Halt}
use Rattle.sei_stmt.specs.Handling.{Parsed, parsed_words}
use Rattle.sei_stmt.specs.Machine.{Machine, Setting, After, register, with_input, emitted, with_bytes, with_code, one_made, stored, note_time, note_slot, ends, assign}
use Rattle.sei_stmt.specs.Machine.Outcome.{Next, Halted, Bad}
use Rattle.sei_stmt.specs.Slots.{lowest_free, is_admissible}
use Rattle.sei_stmt.specs.Table.{target}

-- registers

abbrev pub const_tree : ℕ → Machine → ℕ → ℕ → Tree After
const_tree i m to number = assign i m to number

abbrev pub move_tree : ℕ → Machine → ℕ → ℕ → Tree After
move_tree i m to from = Ask (Value (register m from)) (λ v. assign i m to v)

abbrev pub add_tree : ℕ → Machine → ℕ → ℕ → ℕ → Tree After
add_tree i m to left right =
    Ask (Value (register m left)) (λ a. Ask (Value (register m right)) (λ b. assign i m to ((a + b) % 2 ^ 64)))

abbrev pub sub_tree : ℕ → Machine → ℕ → ℕ → ℕ → Tree After
sub_tree i m to left right =
    Ask (Value (register m left)) (λ a. Ask (Value (register m right)) (λ b. assign i m to ((a + 2 ^ 64 - b) % 2 ^ 64)))

-- input words and words of the bucket: a word that is not there is out of range

abbrev pub read_word : ℕ → Machine → ℕ → ℕ → Option ℕ → Tree After
read_word i m to a None = ends m (Bad (Range a))
read_word i m to a (Some word) = Ask (Value word) (λ v. assign i m to v)

abbrev pub input_tree : ℕ → Machine → ℕ → ℕ → Tree After
input_tree i m to index = Ask (Value (register m index)) (λ a. read_word i m to a (slice_get m.input.items a))

abbrev pub load_tree : ℕ → Machine → ℕ → ℕ → Tree After
load_tree i m to address = Ask (Value (register m address)) (λ a. read_word i m to a (slice_get m.words a))

-- the old value is logged, and then the new one is written, if the log has room
abbrev pub store_if : Bool → ℕ → Machine → ℕ → ℕ → ℕ → Tree After
store_if room i m a was v =
    if room
    then Ask (Written v) (λ w. ends (stored m a (change_of a was v) w) (Next (i + 1)))
    else ends m (Bad LogFull)

-- what would change nothing is not stored, and not logged
abbrev pub same_if : Bool → ℕ → Machine → ℕ → ℕ → ℕ → Tree After
same_if same i m a was v = if same then ends m (Next (i + 1)) else store_if (has_room m.log) i m a was v

abbrev pub store_word : ℕ → Machine → ℕ → ℕ → Option ℕ → Tree After
store_word i m from a None = ends m (Bad (Range a))
store_word i m from a (Some word) =
    Ask (Value (register m from)) (λ v. Ask (Value word) (λ was. Ask (Test (was == v)) (λ same. same_if same i m a was v)))

abbrev pub store_tree : ℕ → Machine → ℕ → ℕ → Tree After
store_tree i m address from = Ask (Value (register m address)) (λ a. store_word i m from a (slice_get m.words a))

-- output words

abbrev pub emit_if : Bool → ℕ → Machine → ℕ → Tree After
emit_if room i m from =
    if room
    then Ask (Value (register m from)) (λ v. Ask (Written v) (λ w. ends (emitted m w) (Next (i + 1))))
    else ends m (Bad OutFull)

abbrev pub emit_tree : ℕ → Machine → ℕ → Tree After
emit_tree i m from = emit_if (has_room m.output) i m from

-- jumps

abbrev pub go_if : Bool → ℕ → Machine → ℕ → Tree After
go_if goes i m to = ends m (Next (if goes then to else i + 1))

abbrev pub equal_tree : ℕ → Machine → ℕ → ℕ → ℕ → Tree After
equal_tree i m left right to =
    Ask (Value (register m left)) (λ a. Ask (Value (register m right)) (λ b. Ask (Test (a == b)) (λ goes. go_if goes i m to)))

abbrev pub less_tree : ℕ → Machine → ℕ → ℕ → ℕ → Tree After
less_tree i m left right to =
    Ask (Value (register m left)) (λ a. Ask (Value (register m right)) (λ b. Ask (Test (nat_lt a b)) (λ goes. go_if goes i m to)))

-- the time: the first pass asks the clock and notes its answer, the second reads the note

abbrev pub noted_value : ℕ → Machine → ℕ → Option ℕ → Tree After
noted_value i m to None = ends m (Bad Code)
noted_value i m to (Some n) = Ask (Value n) (λ v. assign i m to v)

abbrev pub noted_now : ℕ → Machine → ℕ → Option Coded → Tree After
noted_now i m to None = ends m (Bad Notes)
noted_now i m to (Some note) = noted_value i m to (read_of note)

abbrev pub told_now : ℕ → Machine → ℕ → ℕ → Tree After
told_now i m to now = Ask (Value now) (λ v. assign i (note_time m (sealed now)) to v)

abbrev pub now_by : Bool → Setting → ℕ → Machine → ℕ → Tree After
now_by reading g i m to = if reading then noted_now i m to m.notes.now else told_now i m to g.now

abbrev pub now_tree : Setting → ℕ → Machine → ℕ → Tree After
now_tree g i m to = now_by g.reading g i m to

-- a free slot: the first pass takes the lowest one and notes it, the second tests that the noted one may answer

abbrev pub lowest_slot : ℕ → Machine → ℕ → ℕ → Tree After
lowest_slot i m to slot = Ask (Value slot) (λ v. assign i (note_slot m (sealed slot)) to v)

abbrev pub fit_if : Bool → ℕ → Machine → ℕ → ℕ → Tree After
fit_if fit i m to slot = if fit then Ask (Value slot) (λ v. assign i m to v) else ends m (Bad Notes)

abbrev pub noted_slot_value : Setting → ℕ → Machine → ℕ → ℕ → Option ℕ → Tree After
noted_slot_value g i m to moment None = ends m (Bad Code)
noted_slot_value g i m to moment (Some slot) = Ask (Test (is_admissible g m.words moment slot)) (λ fit. fit_if fit i m to slot)

abbrev pub noted_slot : Setting → ℕ → Machine → ℕ → ℕ → Option Coded → Tree After
noted_slot g i m to moment None = ends m (Bad Notes)
noted_slot g i m to moment (Some note) = noted_slot_value g i m to moment (read_of note)

abbrev pub alloc_by : Bool → Setting → ℕ → Machine → ℕ → ℕ → Tree After
alloc_by reading g i m to moment =
    if reading then noted_slot g i m to moment m.notes.slot else lowest_slot i m to (lowest_free g m.words moment)

abbrev pub alloc_tree : Setting → ℕ → Machine → ℕ → ℕ → Tree After
alloc_tree g i m to moment = Ask (Value (register m moment)) (λ t. alloc_by g.reading g i m to t)

-- the input: its code is tested, and after that test its call fills the input words. Then it is tested that there is
-- such a call, and that its bucket is lent. Last the first input word is stored through the core

-- a bucket is lent, and is the call's
abbrev pub is_lent : Option ℕ → Option Parsed → Bool
is_lent None call = false
is_lent (Some bucket) None = false
is_lent (Some bucket) (Some call) = bucket == call.bucket

-- the input words are there; the first of them, if there is one, is stored again
abbrev pub parse_first : ℕ → Machine → List ℕ → Tree After
parse_first i m [] = ends m (Next (i + 1))
parse_first i m (word ∷ words) = Ask (Written word) (λ w. ends (with_input m (w ∷ words)) (Next (i + 1)))

abbrev pub bucket_if : Bool → ℕ → Machine → Tree After
bucket_if lent i m = if lent then parse_first i m m.input.items else ends m (Bad Bucket)

abbrev pub parse_bucket : Setting → ℕ → Machine → Tree After
parse_bucket g i m = Ask (Test (is_lent g.lent g.parsed)) (λ lent. bucket_if lent i m)

abbrev pub call_if : Bool → Setting → ℕ → Machine → Tree After
call_if there g i m = if there then parse_bucket g i m else ends m (Bad Code)

abbrev pub parse_call : Setting → ℕ → Machine → Tree After
parse_call g i m = Ask (Test (is_some g.parsed)) (λ there. call_if there g i m)

abbrev pub intact_if : Bool → Setting → ℕ → Machine → Tree After
intact_if intact g i m = if intact then parse_call g i (with_input m (parsed_words g.parsed)) else ends m (Bad Code)

abbrev pub parse_tree : Setting → ℕ → Machine → Tree After
parse_tree g i m = Ask (Test g.intact) (λ intact. intact_if intact g i m)

-- the output bytes: each output word is read, and the bytes are made of what was read

abbrev pub store_bytes : ℕ → Machine → List ℕ → Tree After
store_bytes i m [] = ends (with_bytes m []) (Next (i + 1))
store_bytes i m (byte ∷ bytes) = Ask (Written byte) (λ w. ends (with_bytes m (w % 2 ^ 8 ∷ bytes)) (Next (i + 1)))

abbrev pub render_if : Bool → Setting → ℕ → Machine → List ℕ → Tree After
render_if fits g i m bytes =
    if fits
    then store_bytes i (with_code m (message_code g.answer bytes)) bytes
    else ends (with_bytes m []) (Bad OutFull)

abbrev pub render_bytes : Setting → ℕ → Machine → Option (List ℕ) → Tree After
render_bytes g i m None = ends (with_bytes m []) (Bad Output)
render_bytes g i m (Some bytes) = render_if (nat_le (length bytes) m.bytes.room) g i m bytes

-- read are the words that were read so far
abbrev pub render_words : Setting → ℕ → Machine → List ℕ → List ℕ → Tree After
render_words g i m read [] = render_bytes g i m (g.rendered read)
render_words g i m read (word ∷ words) = Ask (Value word) (λ v. render_words g i m (read ++ v ∷ []) words)

abbrev pub render_tree : Setting → ℕ → Machine → Tree After
render_tree g i m = render_words g i m [] m.output.items

-- statement i of the table
abbrev pub statement_tree : Setting → ℕ → Machine → Stmt → Tree After
statement_tree g i m (Const to number) = const_tree i m to number
statement_tree g i m (Move to from) = move_tree i m to from
statement_tree g i m (Add to left right) = add_tree i m to left right
statement_tree g i m (Sub to left right) = sub_tree i m to left right
statement_tree g i m (Input to index) = input_tree i m to index
statement_tree g i m (Load to address) = load_tree i m to address
statement_tree g i m (Store address from) = store_tree i m address from
statement_tree g i m (Emit from) = emit_tree i m from
statement_tree g i m (Jump offset) = ends m (Next (target i offset))
statement_tree g i m (JumpEq left right offset) = equal_tree i m left right (target i offset)
statement_tree g i m (JumpLt left right offset) = less_tree i m left right (target i offset)
statement_tree g i m (Now to) = now_tree g i m to
statement_tree g i m (Alloc to moment) = alloc_tree g i m to moment
statement_tree g i m Parse = parse_tree g i m
statement_tree g i m Render = render_tree g i m
statement_tree g i m Halt = ends m Halted

-- each statement that is made is counted, and the one that would exceed the budget is not made
abbrev pub count_if : Bool → Setting → ℕ → Machine → Stmt → Tree After
count_if enough g i m s = if enough then statement_tree g i (one_made m) s else ends m (Bad Budget)

abbrev pub counted_tree : Setting → ℕ → Machine → Stmt → Tree After
counted_tree g i m s = count_if (nat_lt m.made g.budget) g i m s

abbrev pub found_tree : Setting → ℕ → Machine → Option Stmt → Tree After
found_tree g i m None = ends m (Bad (Table i))
found_tree g i m (Some s) = counted_tree g i m s

-- one step of a pass at this index
abbrev pub step_tree : Setting → ℕ → Machine → Tree After
step_tree g i m = found_tree g i m (slice_get g.statements i)
