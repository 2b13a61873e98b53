-- When a handler is sound: each honest run of its table, in the first pass and in the second, ends well.
use Rattle.std.specs.Prelude.{◌≡◌, ℕ, ◌+◌, ◌^◌, ◌<◌, ◌≤◌, true, List, [], ◌∷◌, Some, All, slice_get}
use Rattle.sei_code.specs.Codes.{message_code}
use Rattle.sei_log.specs.declared.log.Change.{Change}
use Rattle.sei_log.specs.declared.notes.Notes as noting
use Rattle.sei_fault.specs.declared.cause.AbortCause.TheVariants.{Notes}
use Rattle.sei_stmt.specs.declared.stmt.Stmt.TheVariants.{Parse}
use Rattle.sei_stmt.specs.Handling.{Behavior, Parsed}
use Rattle.sei_stmt.specs.Machine.{Machine, Setting}
use Rattle.sei_stmt.specs.Machine.Outcome.{Bad}
use Rattle.sei_stmt.specs.Honest.{after, HonestRun}
use Rattle.sei_stmt.specs.Order.{stage_after, finished}
use Rattle.sei_stmt.specs.Passes.{Space, beginning, IsPassOf, IsServed, IsTold}

-- the addresses rise strictly, from this one on
abbrev pub RisesFrom : ℕ → List Change → Type 0
RisesFrom lo [] = Unit {0}
RisesFrom lo (c ∷ cs) = (lo ≤ c.address) × RisesFrom (c.address + 1) cs

-- the run halts within its budget, made its statements in their order, and changed words in rising order. It left words
-- that hold what they should, and the reply with its code
pub record EndsWell (g : Setting) (Held : List ℕ → Type 0) (reply : List ℕ) (start end : Machine) (steps : ℕ) : Type 0 where
  pub run : HonestRun g start end steps
  pub within : steps < g.budget
  pub ordered : stage_after g start steps ≡ Some finished
  pub rising : RisesFrom 0 end.log.items
  pub held : Held end.words
  pub replied : end.bytes.items ≡ reply
  pub coded : end.code ≡ Some (message_code g.answer reply)

-- it ends well; or it is a second pass, and its noted slot may not be the answer, which is the only other end
pub data Serves (g : Setting) (Held : List ℕ → Type 0) (reply : List ℕ) (start : Machine) : Type 0 where
  Well : (end : Machine) (steps : ℕ) → EndsWell g Held reply start end steps → Serves g Held reply start
  Unfit : g.reading ≡ true → (m : Machine) (n : ℕ) → after g start n ≡ record { machine = m; outcome = Bad Notes } → Serves g Held reply start

-- A handler is sound for the space of each call, an input and a number, and for two relations of words to a B. On words
-- of the first one (Before) a run for B starts. Each pass of a call in its space then leads to words that stand for
-- what the answer makes of B (Stands), with the answer's reply.
pub record IsSound {B : Type 0} (h : Behavior) (space : List ℕ → ℕ → Space)
    (Before Stands : List ℕ → B → Type 0) (answer : List ℕ → ℕ → B → ℕ → B × List ℕ) : Type 0 where
  pub serves : (input : List ℕ) → All (λ b. b < 256) input → (nth : ℕ) (p : Parsed) → h.parsed input nth ≡ Some p →
      (g : Setting) → IsPassOf h.statements h.rendered (space input nth) g → IsServed g p →
      (words : List ℕ) (b : B) → Before words b → (now : ℕ) → now < 2 ^ 64 → (notes : noting.Notes) → IsTold g now notes →
      Serves g (λ ws. Stands ws (answer input nth b now).0) (answer input nth b now).1 (beginning (space input nth).rooms words notes)

-- a handler is sound for this many buckets too. Its table parses first. Its calls of each input are those with a number
-- below their count, each for a bucket that is there
pub record IsSoundHandler {B : Type 0} (h : Behavior)
    (space : List ℕ → ℕ → Space) (buckets : ℕ) (Before Stands : List ℕ → B → Type 0) (answer : List ℕ → ℕ → B → ℕ → B × List ℕ) : Type 0 where
  pub sound : IsSound h space Before Stands answer
  pub parses : slice_get h.statements 0 ≡ Some Parse
  pub counted : (input : List ℕ) (nth count : ℕ) → h.calls input ≡ Some count → nth < count → (p : Parsed) × (h.parsed input nth ≡ Some p)
  pub found : (input : List ℕ) (nth : ℕ) (p : Parsed) → h.parsed input nth ≡ Some p → (count : ℕ) × (h.calls input ≡ Some count) × (nth < count)
  pub there : (input : List ℕ) (nth : ℕ) (p : Parsed) → h.parsed input nth ≡ Some p → p.bucket < buckets
