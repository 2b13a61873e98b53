-- The act of each step outside the two passes.
use Rattle.std.specs.Prelude.{◌≡◌, ℕ, ◌+◌, ◌-◌, ◌%◌, ◌^◌, Bool, ◌==◌, nat_lt, List, [], ◌∷◌, length, max, Option, Some, None, slice_get, if◌then◌else◌}
use Rattle.std.specs.declared.result.Result.{Result}
use Rattle.std.specs.declared.result.Result.TheVariants.{Ok, Err}
use Rattle.sei_code.specs.declared.modes.Mode.TheVariants.{Plain as PlainMode}
use Rattle.sei_code.specs.Kept.{emptied}
use Rattle.mc_model.specs.declared.geometry.Geometry.{Geometry}
use Rattle.sei_fault.specs.declared.cause.AbortCause.{AbortCause}
use Rattle.sei_fault.specs.declared.cause.AbortCause.TheVariants.{Range, Differs, Reply as Replies, Wire as Wires}
use Rattle.sei_fault.specs.declared.place.Phase.{Phase}
use Rattle.sei_fault.specs.declared.place.Phase.TheVariants.{Guard, Take, First, Restore, Second, Compare, Verify, Enter, Give, Send, Done}
use Rattle.sei_fault.specs.declared.place.Place.{Place}
use Rattle.sei_fault.specs.Question.Question.{Value, Written, Test}
use Rattle.sei_fault.specs.Tree.{Tree, bound}
use Rattle.sei_fault.specs.Tree.Tree.{Ask}
use Rattle.sei_stmt.specs.Handling.{refilled}
use Rattle.sei_pass.specs.declared.given.Sealed.{Sealed}
use Rattle.sei_pass.specs.Setting.{is_intact}
use Rattle.sei_restore.specs.Undoing.{Undone, undo_at}
use Rattle.sei_compare.specs.Comparing.{entry_tree, codes_tree, word_at, wire_of, wire_tree}
use Rattle.sei_traverse.specs.declared.turned.Want.{Want}
use Rattle.sei_traverse.specs.declared.turned.Want.TheVariants.{Nothing, Take as WantTake, Enter as WantEnter, Give as WantGive, Send as WantSend}
use Rattle.sei_traverse.specs.declared.workspace.Ending.TheVariants.{Leads, Refuses, Aborts}
use Rattle.sei_traverse.specs.declared.workspace.Workspace.{Workspace}
use Rattle.sei_traverse.specs.Acts.{Acted, ends, at, next_phase, closing_then, closes}
use Rattle.sei_traverse.specs.Given.{Given, has_sealed_call, bucket_of_call}

-- Guard: the input is the sealed one, and one whole request with the sealed call; otherwise it is refused

abbrev pub guard_call : Given → Workspace → List ℕ → Tree Acted
guard_call g w words =
    Ask (Test (has_sealed_call g w.sealed)) (λ yes. if yes then closes Guard w words Nothing (at Take 0) else ends w words Refuses)

abbrev pub guard_tree : Given → Workspace → List ℕ → Tree Acted
guard_tree g w words = Ask (Test (is_intact w.sealed g.input)) (λ yes. if yes then guard_call g w words else ends w words Refuses)

-- Take: the call's bucket is stored as the wanted one, and then that one is wanted

abbrev pub store_wanted : Given → Workspace → List ℕ → Tree Acted
store_wanted g w words =
    Ask (Value (bucket_of_call g w.sealed)) (λ b. Ask (Written b) (λ wanted. ends (record w { wanted = wanted }) words (Leads (at Take 1))))

abbrev pub take_wanted : Geometry → List ℕ → Workspace → Tree Acted
take_wanted g words w =
    if nat_lt w.wanted g.buckets
    then ends (record w { want = WantTake w.wanted }) words (Leads (at First 0))
    else ends w words (Aborts (Range w.wanted))

abbrev pub take_closing : Geometry → Workspace → List ℕ → Tree Acted
take_closing g w words = closing_then Take w words (take_wanted g words)

abbrev pub take_tree : Given → ℕ → Workspace → List ℕ → Tree Acted
take_tree g index w words = if index == 0 then store_wanted g w words else take_closing g.space.geometry w words

-- Restore: the changes of the first log are undone, the last one first

abbrev pub undone_as : Workspace → List ℕ → ℕ → Option AbortCause → Tree Acted
undone_as w words index None = ends w words (Leads (at Restore (index + 1)))
undone_as w words index (Some cause) = ends w words (Aborts cause)

abbrev pub undone_to : Workspace → ℕ → Undone → Tree Acted
undone_to w index u = undone_as w u.words index u.cause

abbrev pub undo_tree : ℕ → Workspace → List ℕ → Tree Acted
undo_tree index w words = bound (undo_at words (slice_get w.first_log.items (length w.first_log.items - 1 - index))) (undone_to w index)

abbrev pub restore_tree : ℕ → Workspace → List ℕ → Tree Acted
restore_tree index w words =
    if nat_lt index (length w.first_log.items)
    then undo_tree index w words
    else closes Restore w words Nothing (at Second 0)

-- Compare: the entries of both logs, one by one, and then the outputs

-- how many entries the longer log has
abbrev pub compared : Workspace → ℕ
compared w = max (length w.first_log.items) (length w.second_log.items)

abbrev pub entries_to : Workspace → List ℕ → ℕ → Bool → Tree Acted
entries_to w words index same = if same then ends w words (Leads (at Compare (index + 1))) else ends w words (Aborts (Differs index))

abbrev pub outputs_to : Workspace → List ℕ → Bool → Tree Acted
outputs_to w words same = if same then closes Compare w words Nothing (at Verify 0) else ends w words (Aborts Replies)

abbrev pub entries_tree : ℕ → Workspace → List ℕ → Tree Acted
entries_tree index w words = bound (entry_tree w.first_log.items w.second_log.items index) (entries_to w words index)

abbrev pub outputs_tree : Workspace → List ℕ → Tree Acted
outputs_tree w words = bound (codes_tree w.first.code w.first.bytes.items w.second.code w.second.bytes.items) (outputs_to w words)

abbrev pub compare_tree : ℕ → Workspace → List ℕ → Tree Acted
compare_tree index w words = if nat_lt index (compared w) then entries_tree index w words else outputs_tree w words

-- Verify: each changed word is read back, then the copy for the wire is made anew, and tested

abbrev pub word_to : Workspace → List ℕ → ℕ → Result Bool AbortCause → Tree Acted
word_to w words index (Ok same) = if same then ends w words (Leads (at Verify (index + 1))) else ends w words (Aborts (Differs index))
word_to w words index (Err cause) = ends w words (Aborts cause)

-- the reply: the output bytes of the second pass
abbrev pub reply_of : Workspace → List ℕ
reply_of w = w.second.bytes.items

-- what goes out for a reply to this sealed call: each connection is a plain one
abbrev pub wire_for : Sealed → List ℕ → List ℕ
wire_for sealed reply = wire_of PlainMode sealed.answer reply

-- the copy for the wire is what goes out for this reply
abbrev pub IsCopy : Workspace → List ℕ → Type 0
IsCopy w reply = w.wire.items ≡ wire_for w.sealed reply

-- the copy is what goes out for the reply, its first byte the low eight bits of what the core stores; if that is empty, so is the copy
abbrev pub copy_bytes : Workspace → List ℕ → ℕ → List ℕ → Tree Acted
copy_bytes w words index [] = ends (record w { wire = emptied w.wire }) words (Leads (at Verify (index + 1)))
copy_bytes w words index (byte ∷ bytes) =
    Ask (Written byte) (λ b. ends (record w { wire = refilled w.wire (b % 2 ^ 8 ∷ bytes) }) words (Leads (at Verify (index + 1))))

abbrev pub wire_to : Workspace → List ℕ → Bool → Tree Acted
wire_to w words same = if same then closes Verify w words Nothing (at Enter 0) else ends w words (Aborts Wires)

abbrev pub copy_tree : ℕ → Workspace → List ℕ → Tree Acted
copy_tree index w words = copy_bytes w words index (wire_for w.sealed (reply_of w))

abbrev pub copy_test : Workspace → List ℕ → Tree Acted
copy_test w words = bound (wire_tree PlainMode w.sealed.answer w.first.code w.first.bytes.items w.wire.items) (wire_to w words)

abbrev pub verify_copy : ℕ → Workspace → List ℕ → Tree Acted
verify_copy index w words = if index == length w.second_log.items then copy_tree index w words else copy_test w words

abbrev pub read_back : ℕ → Workspace → List ℕ → Tree Acted
read_back index w words = bound (word_at words (slice_get w.second_log.items index)) (word_to w words index)

abbrev pub verify_tree : ℕ → Workspace → List ℕ → Tree Acted
verify_tree index w words = if nat_lt index (length w.second_log.items) then read_back index w words else verify_copy index w words

-- Enter, Give, Send and Done are only closed, each with its want

-- a reply that is empty is not sent
abbrev pub send_want : List ℕ → Want
send_want [] = Nothing
send_want (byte ∷ bytes) = WantSend

-- what is wanted where a phase is closed
abbrev pub closing_want : Workspace → Phase → Want
closing_want w Take = WantTake w.wanted
closing_want w Enter = WantEnter
closing_want w Give = WantGive
closing_want w Send = send_want (reply_of w)
closing_want w phase = Nothing

-- where that leads: to the next phase, and from Done to the end
abbrev pub closing_place : Phase → Place
closing_place Done = at Done 1
closing_place phase = at (next_phase phase) 0

abbrev pub closing_tree : Phase → Workspace → List ℕ → Tree Acted
closing_tree phase w words = closes phase w words (closing_want w phase) (closing_place phase)
