-- What holds of each call of a request, and of its text.
use Rattle.std.specs.Prelude.{true, ◌≡◌, ℕ, ◌<◌, ◌≤◌, ◌^◌, List, [], length, slice_range, IsTrue, ⊤}
use Rattle.sei_code.specs.Codes.{fnv64}
use Rattle.mc_model.specs.declared.call.Verb.{Verb}
use Rattle.mc_model.specs.declared.call.Verb.TheVariants.{Flush, Fixed}
use Rattle.mc_model.specs.declared.call.CallSpan.{CallSpan}
use Rattle.mc_model.specs.Call.{Call, Placed, IsPlaced}
use Rattle.mc_model.specs.Packed.{AreBytes}
use Rattle.mc_text.specs.declared.commands.Form.{Form}
use Rattle.mc_text.specs.Commands.{has_keys, IsReadVerb}
use Rattle.mc_text.specs.declared.limits.Limits.{Limits}
use Rattle.mc_model.specs.Texts.{text_count}
use Rattle.mc_text.specs.Fields.{is_key}

-- a command on one key
abbrev pub HasKey : Verb → Type 0
HasKey Flush = ⊥
HasKey Fixed = ⊥
HasKey verb = ⊤

-- a command on no key
abbrev pub HasNoKey : Verb → Type 0
HasNoKey Flush = ⊤
HasNoKey Fixed = ⊤
HasNoKey verb = ⊥

-- a command whose lines have keys is one on a key
abbrev pub KeyIfForm : Form → Verb → Type 0
KeyIfForm form verb = has_keys form ≡ true → HasKey verb

-- a call at a key has the key's hash
abbrev pub HasOwnHash : List ℕ → CallSpan → Type 0
HasOwnHash bytes c = HasKey c.verb → c.hash ≡ fnv64 (slice_range bytes c.key.from c.key.to)

-- the command of a call, and the fields that a request gives it
pub record HasReadFields (c : Call) : Type 0 where
  pub verb : IsReadVerb c.verb
  pub flags : c.flags < 2 ^ 32
  pub exptime : c.exptime < 2 ^ 63
  pub unique : c.unique < 2 ^ 64
  pub value : c.value < 2 ^ 64

-- its key and its block are bytes
pub record HasBytes (p : Placed) : Type 0 where
  pub key : AreBytes p.call.key
  pub block : AreBytes p.call.block

-- a call stands at its own bucket, a key has its form, a block is within the limit, a call on no key has neither
pub record IsFit (l : Limits) (p : Placed) : Type 0 where
  pub placed : IsPlaced l.buckets p
  pub bucket : p.bucket < l.buckets
  pub key : HasKey p.call.verb → IsTrue (is_key p.call.key)
  pub block : length p.call.block ≤ l.value_bytes
  pub text : p.call.text < text_count
  pub fields : HasReadFields p.call
  pub no_key : HasNoKey p.call.verb → p.call.key ≡ []
  pub no_block : HasNoKey p.call.verb → p.call.block ≡ []
