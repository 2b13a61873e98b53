use Rattle.std.proofs.Common.{◌≡◌, ℕ, ◌+◌, ◌≤◌, List, Bool, length, ap, ◌∙◌, arith}
use Rattle.std.specs.Prelude.{nat_le}
use Rattle.std.specs.Bool.{OnTrue}
use Rattle.sei_code.specs.Kept.{Kept, emptied, extended}
use Rattle.mc_model.specs.Packed.{pack}
use Rattle.mc_model.specs.Call.{Call}
use Rattle.mc_model.specs.Views.{call_of}
use Rattle.mc_model.proofs.PublicPacking.{length_pack}
use Rattle.sei_stmt.specs.Handling.{refilled}
use Rattle.sei_hand.specs.InputWords.{field_words, filled_up, key_words, filled_input}
use Rattle.sei_pass.specs.Spaces.{input_for}
use Rattle.sei_hand.proofs.FillLaws.{goes_in, filled_in, room_left}
use Rattle.sei_hand.proofs.InputLaws.{length_filled_up}
use Rattle.sei_hand.proofs.fill.fill.Goals as goal

key_filled : (key : List ℕ) → length key ≤ 250 → length (filled_up key_words (pack key)) ≡ 32
key_filled key k = length_filled_up 32 (pack key) (omega (arith, length_pack key))

-- the fields go into the emptied list
fields_in : (k cleared one : Kept ℕ) (n : ℕ) (c : Call) (ws : List ℕ) (b : Bool) → input_for n ≤ k.room → cleared ≡ emptied k → ws ≡ field_words c →
    b ≡ nat_le (length cleared.items + length ws) cleared.room → OnTrue b (one ≡ extended cleared ws) → one ≡ extended cleared (field_words c)
fields_in k cleared one n c ws b room e same answer done =
    let size : length ws ≡ 14 = ap (λ (xs : List ℕ). length xs) same in
    let none : length cleared.items ≡ 0 = ap (λ (l : Kept ℕ). length l.items) e in
    let left : cleared.room ≡ k.room = ap (λ (l : Kept ℕ). l.room) e in
    goes_in cleared one ws b (length ws) (omega arith) answer done ∙ ap (λ xs. extended cleared xs) same

room_behind : (k cleared one two : Kept ℕ) (n : ℕ) (c : Call) → input_for n ≤ k.room → length c.key ≤ 250 → cleared ≡ emptied k →
    one ≡ extended cleared (field_words c) → two ≡ extended one (filled_up key_words (pack c.key)) → length two.items + n ≤ two.room
room_behind k cleared one two n c room key e f h =
    room_left k cleared one two (field_words c) (filled_up key_words (pack c.key)) n e f h (omega (arith, key_filled c.key key))

all_in : (k cleared one two three : Kept ℕ) (n : ℕ) (c : Call) → cleared ≡ emptied k → one ≡ extended cleared (field_words c) →
    two ≡ extended one (filled_up key_words (pack c.key)) → three ≡ extended two (filled_up n (pack c.block)) → three ≡ refilled k (filled_input n c)
unfolding filled_input
all_in k cleared one two three n c e f h i =
    filled_in k cleared one two three (field_words c) (filled_up key_words (pack c.key)) (filled_up n (pack c.block)) e f h i

pub push_filled_up-requires-2-clause-room : goal.push_filled_up-requires-2-clause-room
push_filled_up-requires-2-clause-room c =
    let call = call_of c.args.input.now c.args.call.now in
    let n = c.args.words in
    let fields = fields_in c.args.into.now c.clear.new.self c.extend_from_slice.new.self n call c.field_words.result c.extend_from_slice.result c.requires.room c.clear.ensures c.field_words.ensures c.extend_from_slice.ensures.answer c.extend_from_slice.ensures.done in
    room_behind c.args.into.now c.clear.new.self c.extend_from_slice.new.self c.push_filled_up.new.into n call c.requires.room c.requires.key c.clear.ensures fields c.push_filled_up.ensures

pub returns : goal.returns
returns c =
    let call = call_of c.args.input.now c.args.call.now in
    let n = c.args.words in
    let fields = fields_in c.args.into.now c.clear.new.self c.extend_from_slice.new.self n call c.field_words.result c.extend_from_slice.result c.requires.room c.clear.ensures c.field_words.ensures c.extend_from_slice.ensures.answer c.extend_from_slice.ensures.done in
    all_in c.args.into.now c.clear.new.self c.extend_from_slice.new.self c.push_filled_up.new.into c.push_filled_up-2.new.into n call c.clear.ensures fields c.push_filled_up.ensures c.push_filled_up-2.ensures
