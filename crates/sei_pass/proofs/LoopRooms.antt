-- What the loop over the steps of a pass keeps, whatever the answers are.
use Rattle.std.proofs.Common.{◌≡◌, ◌∙◌, ℕ, ◌+◌, ◌<◌, ◌≤◌, Bool, true, false, List, None, refl, sym, subst, arith}
use Rattle.std.specs.Prelude.{if◌then◌else◌}
use Rattle.sei_code.specs.Kept.{Kept}
use Rattle.sei_fault.specs.Question.{Question, Answer}
use Rattle.sei_fault.specs.Tree.{Tree, bound, Always}
use Rattle.sei_fault.specs.Tree.Tree.{Done, Ask}
use Rattle.sei_fault.specs.declared.place.Act.{Act}
use Rattle.sei_fault.specs.declared.place.Phase.{Phase}
use Rattle.sei_fault.specs.declared.place.Times.{Times}
use Rattle.sei_fault.specs.declared.place.Times.TheVariants.{Once, Skip, Twice}
use Rattle.sei_fault.proofs.PublicChains.{chain_keeps}
use Rattle.sei_fault.proofs.Public.{always}
use Rattle.sei_log.specs.declared.log.Change.{Change}
use Rattle.sei_log.specs.declared.notes.Notes.{Notes}
use Rattle.sei_stmt.specs.declared.stmt.Stmt.{Stmt}
use Rattle.sei_stmt.specs.Handling.{parsed_words}
use Rattle.sei_stmt.specs.Machine.{Machine, Setting, Outcome, After, one_made}
use Rattle.sei_stmt.specs.Machine.Outcome.{Next, Halted, Bad}
use Rattle.sei_stmt.specs.Statements.{statement_tree}
use Rattle.sei_pass.specs.declared.loops.Asked.{Asked}
use Rattle.sei_pass.specs.declared.loops.Asked.TheVariants as asked
use Rattle.sei_pass.specs.declared.loops.Exit.{Exit}
use Rattle.sei_pass.specs.declared.loops.Exit.TheVariants as exit
use Rattle.sei_pass.specs.Acts.{act_of}
use Rattle.sei_pass.specs.Arms.{Arm, is_looped, asked_of, arm_of, arm_as, arm_at, arm_tree}
use Rattle.sei_pass.specs.Loop.{Here, Asks, Leads, Leaves, Led, LeadsOrLeaves, RunsLoop}
use Rattle.sei_pass.specs.Loop.Led.{On, Out}
use Rattle.sei_pass.specs.Setting.{bare}
use Rattle.sei_pass.specs.State.{PassState, IsPass}
use Rattle.sei_pass.specs.Steps.{machine_of}
use Rattle.sei_pass.proofs.RoomLaws.{Keeps, keeps}

-- the loop looks at no more of a setting than this, and at no notes
abbrev pub plain : List Stmt → ℕ → Setting
plain statements budget = record bare { statements = statements; budget = budget }

abbrev pub no_notes : Notes
no_notes = record { now = None; slot = None }

-- the pass that has got so far
abbrev pub with_machine : PassState → Machine → PassState
with_machine p y = record p { registers = y.registers; input = y.input; output = y.output; bytes = y.bytes; code = y.code; made = y.made }

-- what an arm keeps, by how its statement ended: one that was made is counted, and of another nothing was done
abbrev ArmKept : List ℕ → Machine → Machine → Asked → Type 0
ArmKept given m y (asked.Next index) = Keeps given (one_made m) y
ArmKept given m y asked.Halted = Keeps given (one_made m) y
ArmKept given m y (asked.Bad cause) = Keeps given (one_made m) y
ArmKept given m y (asked.Struck act times) = y ≡ m
ArmKept given m y asked.Alone = y ≡ m

kept_of : (given : List ℕ) (m y : Machine) (o : Outcome) → Keeps given (one_made m) y → ArmKept given m y (asked_of o)
kept_of given m y (Next index) k = k
kept_of given m y Halted k = k
kept_of given m y (Bad cause) k = k

bound_kept : (given : List ℕ) (m : Machine) (t : Tree After) → Always (λ (x : After). Keeps given (one_made m) x.machine) t → Always (λ (x : Arm). ArmKept given m x.machine x.asked) (bound t arm_of)
bound_kept given m (Done r) k = kept_of given m r.machine r.outcome k
bound_kept given m (Ask q f) k = λ a. bound_kept given m (f a) (k a)

as_kept : (given : List ℕ) (m : Machine) (t : Tree After) (act : Act) (times : Times) → Always (λ (x : After). Keeps given (one_made m) x.machine) t → Always (λ (x : Arm). ArmKept given m x.machine x.asked) (arm_as t m act times)
as_kept given m t act Once k = bound_kept given m t k
as_kept given m t act Skip k = refl
as_kept given m t act Twice k = refl

if_kept : (looped : Bool) (g : Setting) (phase : Phase) (index : ℕ) (m : Machine) (s : Stmt) (act : Act) →
    Always (λ (x : Arm). ArmKept (parsed_words g.parsed) m x.machine x.asked) (if looped then arm_at g phase index m s act else Done (record { machine = m; asked = asked.Alone }))
if_kept true g phase index m s act = λ times. as_kept (parsed_words g.parsed) m (statement_tree g index (one_made m) s) act times (keeps g index (one_made m) s)
if_kept false g phase index m s act = refl

asks_keep : {S : Type 0} (gives : S → (q : Question) → Answer q → S → Type 0) (g : Setting) (phase : Phase) (x : Here S) (end : Asked) (m : Machine) (core : S) →
    Asks gives g phase x end m core → ArmKept (parsed_words g.parsed) x.machine m end
asks_keep gives g phase x end m core a =
    always gives (λ (y : Arm). ArmKept (parsed_words g.parsed) x.machine y.machine y.asked) (arm_tree g phase x.index x.machine a.statement) x.core core (record { machine = m; asked = end })
    (if_kept (is_looped a.statement) g phase x.index x.machine a.statement (act_of x.machine.registers a.statement)) a.runs

-- what many steps keep: the rooms, and the bound on the number of statements
pub record Stays (g : Setting) (m y : Machine) : Type 0 where
  pub keeps : Keeps (parsed_words g.parsed) m (record y { made = m.made })
  pub made : m.made ≤ g.budget → y.made ≤ g.budget

stays : (g : Setting) (m : Machine) → Stays g m m
stays g m = record {
  keeps = record {
    registers = refl;
    input = refl;
    output = refl;
    bytes = refl;
    log = refl;
    made = refl;
    fits = λ f. f;
    log_fits = λ f. f;
    bytes_fit = λ f. f;
    input_fits = λ few f. f;
  };
  made = λ h. h;
}

one_more : (g : Setting) (m y z : Machine) → Stays g m y → y.made < g.budget → Keeps (parsed_words g.parsed) (one_made y) z → Stays g m z
one_more g m y z s b k = record {
  keeps = record {
    registers = k.registers ∙ s.keeps.registers;
    input = k.input ∙ s.keeps.input;
    output = k.output ∙ s.keeps.output;
    bytes = k.bytes ∙ s.keeps.bytes;
    log = k.log ∙ s.keeps.log;
    made = refl;
    fits = λ f. k.fits (s.keeps.fits f);
    log_fits = λ f. k.log_fits (s.keeps.log_fits f);
    bytes_fit = λ f. k.bytes_fit (s.keeps.bytes_fit f);
    input_fits = λ few f. k.input_fits (omega (arith, few, s.keeps.input)) (s.keeps.input_fits few f);
  };
  made = λ h. omega (arith, k.made, b);
}

same : (g : Setting) (m y z : Machine) → Stays g m y → z ≡ y → Stays g m z
same g m y z s e = subst (λ (n : Machine). Stays g m n) (sym e) s

pub leads_count : {S : Type 0} (gives : S → (q : Question) → Answer q → S → Type 0) (g : Setting) (phase : Phase) (x y : Here S) → Leads gives g phase x y → y.machine.made ≡ x.machine.made + 1
leads_count gives g phase x y l = let k = asks_keep gives g phase x (asked.Next l.to) y.machine l.then l.asks in k.made

leads_stay : {S : Type 0} (gives : S → (q : Question) → Answer q → S → Type 0) (g : Setting) (phase : Phase) (m : Machine) (x y : Here S) → Leads gives g phase x y → Stays g m x.machine → Stays g m y.machine
leads_stay gives g phase m x y l s = one_more g m x.machine y.machine s l.asks.room (asks_keep gives g phase x (asked.Next l.to) y.machine l.then l.asks)

leaves_stay : {S : Type 0} (gives : S → (q : Question) → Answer q → S → Type 0) (g : Setting) (phase : Phase) (m : Machine) (x : Here S) (e : Exit) (y : Machine) (core : S) →
    Leaves gives g phase x e y core → Stays g m x.machine → Stays g m y
leaves_stay gives g phase m x (exit.At p) y core (to, made, a, h) s = one_more g m x.machine y s a.room (asks_keep gives g phase x (asked.Next to) y made a)
leaves_stay gives g phase m x exit.Halted y core a s = one_more g m x.machine y s a.room (asks_keep gives g phase x asked.Halted y core a)
leaves_stay gives g phase m x (exit.Bad cause) y core a s = one_more g m x.machine y s a.room (asks_keep gives g phase x (asked.Bad cause) y core a)
leaves_stay gives g phase m x (exit.Struck act times) y core a s = same g m x.machine y s (asks_keep gives g phase x (asked.Struck act times) y core a)
leaves_stay gives g phase m x exit.Alone y core (e, f) s = same g m x.machine y s e

-- where one step led
pub led_stays : {S : Type 0} (gives : S → (q : Question) → Answer q → S → Type 0) (g : Setting) (phase : Phase) (x : Here S) (led : Led) (y : Machine) (core : S) → LeadsOrLeaves gives g phase x led y core → Stays g x.machine y
led_stays gives g phase x (On index) y core l = leads_stay gives g phase x.machine x (record { machine = y; index = index; core = core }) l (stays g x.machine)
led_stays gives g phase x (Out e) y core l = leaves_stay gives g phase x.machine x e y core l (stays g x.machine)

pub loop_stays : {S : Type 0} (gives : S → (q : Question) → Answer q → S → Type 0) (g : Setting) (phase : Phase) (before index : ℕ) (x : Here S) (e : Exit) (y : Machine) (core : S) →
    RunsLoop gives g phase before index x e y core → Stays g x.machine y
loop_stays gives g phase before index x e y core r =
    let z : Here _ = record { machine = r.machine; index = index; core = r.then } in
    leaves_stay gives g phase x.machine z e y core r.leaves
    (chain_keeps (Leads gives g phase) (λ (h : Here _). Stays g x.machine h.machine) before x z (leads_stay gives g phase x.machine) r.chain (stays g x.machine))

-- a pass is one still
pub still_pass : (p : PassState) (statements : List Stmt) (words : List ℕ) (log : Kept Change) (notes : Notes) (y : Machine) → IsPass p → Stays (plain statements p.space.budget) (machine_of p words log notes) y → IsPass (with_machine p y)
still_pass p statements words log notes y h s = record {
  valid = h.valid;
  space = h.space;
  registers = s.keeps.registers ∙ h.registers;
  input = s.keeps.input ∙ h.input;
  output = s.keeps.output ∙ h.output;
  bytes = s.keeps.bytes ∙ h.bytes;
  made = s.made h.made;
  fits = s.keeps.fits h.fits;
  bytes_fit = s.keeps.bytes_fit h.bytes_fit;
  input_fits = s.keeps.input_fits (omega arith) h.input_fits;
}
