-- The input words of a call that was read are those of the call.
use Rattle.std.proofs.Common.{◌≡◌, ◌≢◌, ℕ, ◌+◌, ◌-◌, ◌<◌, ◌≤◌, inl, inr, List, [], ◌++◌, length, refl, ap, ◌∙◌, arith}
use Rattle.std.specs.Prelude.{slice_index, replicate}
use Rattle.std.proofs.lemmas.List.{get_or_append_left, get_or-append-add}
use Rattle.mc_model.specs.declared.geometry.Geometry.{Geometry}
use Rattle.mc_model.specs.declared.call.Verb.{Verb}
use Rattle.mc_model.specs.declared.call.Verb.TheVariants.{Flush, Fixed}
use Rattle.mc_model.specs.Call.{Call, Placed}
use Rattle.mc_model.specs.Packed.{pack}
use Rattle.mc_model.proofs.PublicPacking.{length_pack}
use Rattle.mc_text.specs.Commands.{IsReadVerb}
use Rattle.mc_text.specs.Fits.{HasNoKey, HasKey, HasBytes}
use Rattle.mc_text.proofs.PublicCommands.{read_has_key}
use Rattle.sei_code.specs.Codes.{fnv64}
use Rattle.tab_find.specs.Calls.{IsCall}
use Rattle.sei_hand.specs.InputWords.{field_words, filled_up, key_words, hash_word, input_words, filled_input}
use Rattle.sei_hand.specs.ReadCall.{IsReadCall}
use Rattle.sei_hand.proofs.InputLaws.{length_filled_up, length_input_words}

-- a field
at_field : (g : Geometry) (c : Call) (k : ℕ) → k < 14 → slice_index (input_words g c) k ≡ slice_index (field_words c) k
unfolding filled_input
at_field g c k lt = get_or_append_left (field_words c) (filled_up key_words (pack c.key) ++ filled_up g.value_words (pack c.block)) 0 k lt

-- a word of the key
at_key : (g : Geometry) (c : Call) (j : ℕ) → j < length (pack c.key) → length (pack c.key) ≤ 32 → slice_index (input_words g c) (14 + j) ≡ slice_index (pack c.key) j
unfolding filled_input
at_key g c j lt few =
    let key = pack c.key in
    let within : j < length (filled_up key_words key) = omega (arith, length_filled_up key_words key few, lt, few) in
    get_or-append-add (field_words c) (filled_up key_words key ++ filled_up g.value_words (pack c.block)) j 0
    ∙ get_or_append_left (filled_up key_words key) (filled_up g.value_words (pack c.block)) 0 j within
    ∙ get_or_append_left key (replicate (key_words - length key) 0) 0 j lt

-- a word of the block
at_block : (g : Geometry) (c : Call) (j : ℕ) → j < length (pack c.block) → length (pack c.key) ≤ 32 → slice_index (input_words g c) (46 + j) ≡ slice_index (pack c.block) j
unfolding filled_input
at_block g c j lt few =
    let key = filled_up key_words (pack c.key) in
    let block = pack c.block in
    let place : 46 + j ≡ 14 + (length key + j) = omega (arith, length_filled_up key_words (pack c.key) few) in
    ap (slice_index (field_words c ++ key ++ filled_up g.value_words block)) place
    ∙ get_or-append-add (field_words c) (key ++ filled_up g.value_words block) (length key + j) 0
    ∙ get_or-append-add key (filled_up g.value_words block) j 0
    ∙ get_or_append_left block (replicate (g.value_words - length block) 0) 0 j lt

-- a command on a key has the key's hash
own_hash : (v : Verb) (key : List ℕ) → HasKey v → hash_word v key ≡ fnv64 key
own_hash Flush key keyed = absurd keyed
own_hash Fixed key keyed = absurd keyed
own_hash v key keyed = refl

hash_is : (v : Verb) (key : List ℕ) → IsReadVerb v → (HasNoKey v → key ≡ []) → key ≢ [] → hash_word v key ≡ fnv64 key
hash_is v key read none some = elim (read_has_key v read) [
  | inl keyed ↦ own_hash v key keyed
  | inr text ↦ absurd (some (none text))
]

pub is_call : (g : Geometry) (p : Placed) → IsReadCall g p → HasBytes p → IsCall (input_words g p.call) p.call
is_call g p r b =
    let c = p.call in
    let input = input_words g c in
    let long = length_input_words g c r.key r.block in
    let few : length (pack c.key) ≤ 32 = omega (arith, length_pack c.key, r.key) in
    record {
      verb = at_field g c 0 (omega arith);
      key = λ some. record {
        room = omega (arith, long);
        key_length = at_field g c 1 (omega arith);
        hash = at_field g c 2 (omega arith) ∙ hash_is c.verb c.key r.fields.verb r.no_key some;
        key_words = at_field g c 12 (omega arith);
        bytes = b.key;
        fits = omega (arith, r.key);
        words = λ j lt. at_key g c j lt few;
      };
      block = record {
        room = omega (arith, long, r.block);
        block_length = at_field g c 8 (omega arith);
        block_words = at_field g c 13 (omega arith);
        bytes = b.block;
        words = λ j lt. at_block g c j lt few;
      };
      flags = at_field g c 3 (omega arith);
      negative = at_field g c 4 (omega arith);
      exptime = at_field g c 5 (omega arith);
      unique = at_field g c 6 (omega arith);
      value = at_field g c 7 (omega arith);
      last = at_field g c 9 (omega arith);
      noreply = at_field g c 10 (omega arith);
      text = at_field g c 11 (omega arith);
    }
