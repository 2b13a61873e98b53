-- What the places of a call mean in the text that it was read from.
use Rattle.std.specs.Prelude.{ℕ, ◌<◌, ◌≤◌, List, length, slice_range}
use Rattle.mc_model.specs.declared.call.CallSpan.{CallSpan}
use Rattle.mc_model.specs.Call.{Call, Placed}
use Rattle.mc_model.specs.Texts.{text_count}

-- a call with this key and block
abbrev pub call_with : List ℕ → List ℕ → CallSpan → Call
call_with key block c = record {
  verb = c.verb;
  key = key;
  flags = c.flags;
  negative = c.negative;
  exptime = c.exptime;
  unique = c.unique;
  value = c.value;
  block = block;
  last = c.last;
  noreply = c.noreply;
  text = c.text;
}

abbrev pub call_of : List ℕ → CallSpan → Call
call_of input c = call_with (slice_range input c.key.from c.key.to) (slice_range input c.block.from c.block.to) c

-- its places are within the text, and the number of its text is one of the table
pub record IsSpanOf (input : List ℕ) (c : CallSpan) : Type 0 where
  pub key_order : c.key.from ≤ c.key.to
  pub key_end : c.key.to ≤ length input
  pub block_order : c.block.from ≤ c.block.to
  pub block_end : c.block.to ≤ length input
  pub text : c.text < text_count

-- a call of the code, at its bucket
abbrev pub placed_of : List ℕ → CallSpan → Placed
placed_of input c = record { bucket = c.bucket; call = call_of input c }
