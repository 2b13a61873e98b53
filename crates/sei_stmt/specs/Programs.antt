-- Programs with structure, the statements that they stand for, and which facts hold before and after them.
use Rattle.std.specs.Prelude.{Bool, true, false, ◌&&◌, ◌≡◌, ◌≢◌, ◌⊎◌, ℕ, zero, suc, ◌+◌, ◌-◌, ◌%◌, ◌^◌, ◌<◌, ◌≤◌, List, [], ◌∷◌, ◌++◌, length, take, drop, Some, slice_get, ℤ, pos, negsuc}
use Rattle.std.specs.List.{list_all}
use Rattle.sei_stmt.specs.Table.{is_register, registers_fit}
use Rattle.sei_stmt.specs.declared.stmt.Stmt.{Stmt}
use Rattle.sei_stmt.specs.declared.stmt.Stmt.TheVariants.{Const, Move, Add, Sub, Input, Load, Store, Emit, Jump, JumpEq, JumpLt, Now, Alloc, Parse, Render, Halt}
use Rattle.sei_stmt.specs.Order.{unparsed, parsed, timed, is_parsed, is_open, may_render}
use Rattle.sei_stmt.specs.Runs.{Given, RunState, tick, write, store, emit, parse, take_time, take_slot, render, Ended, Unfit, exec}

pub data Prog : Type 0 where
  -- statements without jumps
  Block : (stmts : List Stmt) → Prog
  Seq : (first : Prog) (then : Prog) → Prog
  -- by what two registers hold
  IfEq : (left right : ℕ) (yes_part : Prog) (no_part : Prog) → Prog
  IfLt : (left right : ℕ) (yes_part : Prog) (no_part : Prog) → Prog
  -- the body, and again while left is less than right
  RepeatLt : (left right : ℕ) (body : Prog) → Prog

-- a jump over this many statements, if there are any
abbrev pub hop : ℕ → List Stmt
hop zero = []
hop (suc n) = Jump (pos (suc n)) ∷ []

-- a choice: the jump over the second side, the second side, and the first side
abbrev pub choice : (ℤ → Stmt) → List Stmt → List Stmt → List Stmt
choice test yes_code no_code = test (pos (length no_code)) ∷ (no_code ++ yes_code)

-- a loop: the body, and the test, which jumps back to the body
abbrev pub looped : (left right : ℕ) → List Stmt → List Stmt
looped l r body = body ++ JumpLt l r (negsuc (length body)) ∷ []

-- the statements of a program after which the run goes on at the k-th statement after their end. The second
-- side of a choice ends in one jump, over the first side and those k, and in none if there is nothing to
-- jump over
abbrev pub code : Prog → ℕ → List Stmt
code (Block stmts) k = stmts ++ hop k
code (Seq p q) k = code p 0 ++ code q k
code (IfEq l r p q) k = let yes_code = code p k in choice (JumpEq l r) yes_code (code q (length yes_code + k))
code (IfLt l r p q) k = let yes_code = code p k in choice (JumpLt l r) yes_code (code q (length yes_code + k))
code (RepeatLt l r b) k = looped l r (code b 0) ++ hop k

-- the statements of a program
abbrev pub flatten : Prog → List Stmt
flatten p = code p 0

-- the table of a program
abbrev pub table_of : Prog → List Stmt
table_of p = flatten p ++ Halt ∷ []

-- a statement of a block is no jump and no Halt, and its registers are there
abbrev pub is_plain : Stmt → Bool
is_plain (Jump o) = false
is_plain (JumpEq l r o) = false
is_plain (JumpLt l r o) = false
is_plain Halt = false
is_plain s = registers_fit s

-- each block of the program has such statements alone, and its tests name registers. It is `refl` at a program
-- that is written out
abbrev pub is_straight : Prog → Bool
is_straight (Block stmts) = list_all is_plain stmts
is_straight (Seq p q) = is_straight p && is_straight q
is_straight (IfEq l r p q) = (is_register l && is_register r) && (is_straight p && is_straight q)
is_straight (IfLt l r p q) = (is_register l && is_register r) && (is_straight p && is_straight q)
is_straight (RepeatLt l r b) = (is_register l && is_register r) && is_straight b

-- the word at this place
abbrev pub HasWord : List ℕ → ℕ → ℕ → Type 0
HasWord words a v = slice_get words a ≡ Some v

-- The stages in which input words are read, output words made, and output bytes made. Each is `refl` at a numeral, and
-- `ap is_open h` if h says which stage it is.

abbrev pub IsParsed : ℕ → Type 0
IsParsed stage = is_parsed stage ≡ true

abbrev pub IsOpen : ℕ → Type 0
IsOpen stage = is_open stage ≡ true

abbrev pub MayRender : ℕ → Type 0
MayRender stage = may_render stage ≡ true

-- a fact about the state after a program
abbrev pub Post : Type 1
Post = RunState → Type 0

-- what must hold before one statement for Q to hold after it:
-- - the stage,
-- - the value that it computes or reads, which the proof names,
-- - the room,
-- - Q of the next state.
-- The addresses of stores rise. Jumps and Halt are in no block
abbrev pub Before : Given → Stmt → RunState → Post → Type 0
Before e (Const to n) s Q = Q (write s to n)
Before e (Move to from) s Q = Q (write s to (s.regs from))
Before e (Add to l r) s Q = (v : ℕ) × ((s.regs l + s.regs r) % 2 ^ 64 ≡ v) × Q (write s to v)
Before e (Sub to l r) s Q = (v : ℕ) × ((s.regs l + 2 ^ 64 - s.regs r) % 2 ^ 64 ≡ v) × Q (write s to v)
Before e (Input to i) s Q = IsParsed s.stage × (v : ℕ) × HasWord e.input (s.regs i) v × Q (write s to v)
Before e (Load to a) s Q = (v : ℕ) × HasWord s.words (s.regs a) v × Q (write s to v)
Before e (Store a from) s Q =
    (s.regs a < length s.words) × (s.floor ≤ s.regs a) × (s.stores < e.log_room) × Q (store s (s.regs a) (s.regs from))
Before e (Emit from) s Q = IsOpen s.stage × (s.emitted < e.out_room) × Q (emit s (s.regs from))
Before e (Jump o) s Q = ⊥
Before e (JumpEq l r o) s Q = ⊥
Before e (JumpLt l r o) s Q = ⊥
Before e (Now to) s Q = (s.stage ≡ parsed) × Q (take_time s to e.now)
Before e (Alloc to m) s Q =
    (s.stage ≡ timed) × (s.steps < e.budget) × (e.is_fit s.words (s.regs m) (e.slot s.words (s.regs m)) ≡ true → Q (take_slot s to (e.slot s.words (s.regs m))))
Before e Parse s Q = (s.stage ≡ unparsed) × Q (parse s)
Before e Render s Q =
    MayRender s.stage × (bytes : List ℕ) × (e.rendered s.out ≡ Some bytes) × (length bytes ≤ e.byte_room) × Q (render s bytes)
Before e Halt s Q = ⊥

abbrev pub BeforeAll : Given → List Stmt → RunState → Post → Type 0
BeforeAll e [] s Q = Q s
BeforeAll e (x ∷ xs) s Q = Before e x s (λ t. BeforeAll e xs t Q)

-- at most n turns of a loop, from its test on
abbrev pub Turns : ℕ → (left right : ℕ) → (RunState → Post → Type 0) → RunState → Post → Type 0
Turns zero l r body s Q = (s.regs r ≤ s.regs l) × Q (tick s)
Turns (suc n) l r body s Q = (s.regs l < s.regs r → body (tick s) (λ t. Turns n l r body t Q)) × (s.regs r ≤ s.regs l → Q (tick s))

-- the program, from s, ends in a state that meets Q, or in an Alloc whose answer is not fit
abbrev pub Ends : Given → Prog → RunState → Post → Type 0
Ends e (Block stmts) s Q = BeforeAll e stmts s Q
Ends e (Seq p q) s Q = Ends e p s (λ t. Ends e q t Q)
Ends e (IfEq l r p q) s Q = (s.regs l ≡ s.regs r → Ends e p (tick s) Q) × (s.regs l ≢ s.regs r → Ends e q (tick s) (λ t. Q (tick t)))
Ends e (IfLt l r p q) s Q = (s.regs l < s.regs r → Ends e p (tick s) Q) × (s.regs r ≤ s.regs l → Ends e q (tick s) (λ t. Q (tick t)))
Ends e (RepeatLt l r b) s Q = (n : ℕ) × Ends e b s (λ t. Turns n l r (Ends e b) t Q)

-- the state with another count of statements
abbrev pub at_steps : RunState → ℕ → RunState
at_steps s n = record s { steps = n }

-- The table, run from its first statement, comes to its Halt in a state that meets Q, or to an Alloc whose
-- answer is not fit. The run makes n statements, with Halt. Q is over statements counted at most, since a
-- program counts each jump that a choice may have: the run ends in t but for their count, which is exact
abbrev pub Halts : Given → List Stmt → RunState → Post → Type 0
Halts e table s Q =
    ((n : ℕ) × (t : RunState) × (n + s.steps ≤ suc t.steps) × (exec e table n 0 s ≡ Ended (at_steps t (n + s.steps))) × Q t) ⊎ ((n : ℕ) × (u : RunState) × (u.steps < e.budget) × (exec e table n 0 s ≡ Unfit u))

-- One of 2 ^ depth programs, by what register v holds: lo for the first, and the empty program for a number
-- that has none. A number past all of these chooses as the last of them does. Register t gets the numbers that
-- are compared
abbrev pub halves : (depth v t lo : ℕ) → List Prog → Prog
halves zero v t lo [] = Block []
halves zero v t lo (p ∷ ps) = p
halves (suc d) v t lo ps =
    Seq (Block (Const t (lo + 2 ^ d) ∷ [])) (IfLt v t (halves d v t lo (take (2 ^ d) ps)) (halves d v t (lo + 2 ^ d) (drop (2 ^ d) ps)))
