use Rattle.std.proofs.Common.{◌≡◌, ℕ, length, drop}
use Rattle.std.specs.Prelude.{[]}
use Rattle.sei_fault.specs.Tree.{Runs}
use Rattle.sei_stmt.specs.Machine.{Machine, Setting, After}
use Rattle.sei_stmt.specs.Statements.{render_words}
use Rattle.sei_pass.proofs.output.read_words.Given as goal

-- whatever finishes the words that are left, finishes all of them
abbrev pub invariant-loop-word : goal.invariant-loop-word
invariant-loop-word g l = record {
  long : length l.into.items ≡ l.word-index;
  room : l.into.room ≡ l.fn.into.room;
  read : (s : Setting) (i : ℕ) (m : Machine) (t : _) (x : After) →
      Runs g.K.Core.gives (render_words s i m l.into.items (drop l.word-index l.words.items)) l.core t x →
      Runs g.K.Core.gives (render_words s i m [] l.words.items) l.fn.core t x;
}
