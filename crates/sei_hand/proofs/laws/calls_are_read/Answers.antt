use Rattle.std.proofs.Common.{ap, arith}
use Rattle.std.specs.Option.{option_map}
use Rattle.sei_pass.specs.Spaces.{input_room}
use Rattle.sei_hand.specs.Requests.{parsed_of}
use Rattle.sei_hand.proofs.RequestLaws.{found_bytes}
use Rattle.sei_hand.proofs.InputLaws.{length_input_words}
use Rattle.sei_hand.proofs.RequestLaws.{found_call}
use Rattle.sei_hand.proofs.ReadLaws.{comes_from, words_fit}
use Rattle.sei_hand.proofs.laws.calls_are_read.Goals as goal

pub returns : goal.returns
returns c = record {
  call = λ g bytes nth p v e. found_call g bytes nth p v.some_buckets e;
  bytes = found_bytes;
  parsed = λ g bytes nth p e. ap (option_map (parsed_of g)) e;
  from = λ g bytes nth x v e. comes_from g bytes nth x v.some_buckets e;
  room = λ g bytes nth v. words_fit g bytes nth (input_room g) v.some_buckets (omega arith);
  words = λ g p read. length_input_words g p.call read.key read.block;
}
