-- What a source and a sink over a reader and a writer of std pass on.
use Rattle.std.specs.Prelude.{◌≡◌, ℕ, List, ◌++◌, take}
use Rattle.std.specs.Io.KnownBytes.{Keeps, Appends, Consumes, IsAtEnd}
use Rattle.std.specs.declared.option.Option.{Option}
use Rattle.sei_outside.specs.declared.source.Read.{Read}
use Rattle.sei_outside.specs.declared.source.Read.TheVariants.{Took, End, Failed}
use Rattle.sei_outside.specs.declared.sink.Wrote.{Wrote}
use Rattle.sei_outside.specs.declared.sink.Wrote.TheVariants as wrote
use Rattle.sei_outside.specs.declared.std_edge.StdSource.{StdSource}
use Rattle.sei_outside.specs.declared.std_edge.StdSink.{StdSink}

abbrev pub reader_of : {R : Type 0} → StdSource R → R
reader_of source = source.inner

abbrev pub read_faults : {R : Type 0} → StdSource R → ℕ
read_faults source = source.faults

abbrev pub writer_of : {W : Type 0} → StdSink W → W
writer_of sink = sink.inner

abbrev pub write_faults : {W : Type 0} → StdSink W → ℕ
write_faults sink = sink.faults

-- a read passes on the reader's bytes, its end and its error, if the reader knows its bytes
abbrev pub HandsOn : Option (List ℕ) → Option (List ℕ) → List ℕ → Read → Type 0
HandsOn old new into (Took n) = Consumes old new (take n into)
HandsOn old new into End = IsAtEnd old
HandsOn old new into Failed = Keeps old new

-- the writer took a first part of the bytes, each once, if it knows its bytes
pub record HandedPart (old new : Option (List ℕ)) (bytes : List ℕ) : Type 0 where
  pub part : List ℕ
  pub rest : List ℕ
  pub split : part ++ rest ≡ bytes
  pub now : Appends old new part

-- a write that answers `All` passes all the bytes to the writer, and one that fails a first part of them, if the writer
-- knows its bytes
abbrev pub HandsTo : Option (List ℕ) → Option (List ℕ) → List ℕ → Wrote → Type 0
HandsTo old new bytes wrote.All = Appends old new bytes
HandsTo old new bytes wrote.Failed = HandedPart old new bytes
