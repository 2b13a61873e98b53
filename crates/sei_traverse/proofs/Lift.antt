-- The steps that a loop over the steps of a pass made, and what is done after it, are steps of the traversal.
use Rattle.std.proofs.Common.{◌≡◌, ℕ, zero, suc, ◌+◌, ◌-◌, ◌^◌, ◌≤◌, ◌<◌, Bool, true, false, List, length, Option, Some, refl, sym, ap, ◌∙◌, subst, arith}
use Rattle.std.specs.Prelude.{slice_get, min, if◌then◌else◌}
use Rattle.std.specs.Option.{option_map}
use Rattle.sei_code.specs.Kept.{Kept}
use Rattle.sei_fault.specs.Chain.{Chain}
use Rattle.sei_fault.specs.Counts.{Counts, Answered}
use Rattle.sei_fault.specs.declared.place.Act.{Act}
use Rattle.sei_fault.specs.declared.place.Phase.{Phase}
use Rattle.sei_fault.specs.declared.place.Phase.TheVariants.{First, Restore, Second, Compare}
use Rattle.sei_fault.specs.declared.place.Times.{Times}
use Rattle.sei_fault.specs.declared.place.Times.TheVariants.{Once, Skip, Twice}
use Rattle.sei_fault.specs.Question.{Question, Answer, honestly_to}
use Rattle.sei_fault.specs.Tree.{Tree, Runs, bound}
use Rattle.sei_fault.specs.Tree.Tree.{Done as Ended, Ask}
use Rattle.sei_fault.proofs.Public.{runs_bound, always}
use Rattle.sei_log.specs.declared.log.Change.{Change}
use Rattle.sei_log.specs.declared.notes.Notes.{Notes}
use Rattle.sei_stmt.specs.declared.stmt.Stmt.{Stmt}
use Rattle.sei_stmt.specs.Machine.{Machine, Setting, Outcome, one_made, at_outcome}
use Rattle.sei_stmt.specs.Machine.Outcome.{Next, Halted as Halts, Bad as Aborting}
use Rattle.sei_stmt.specs.Statements.{statement_tree, step_tree}
use Rattle.sei_words.specs.LentBucket.{words_of, bucket_of, place_of}
use Rattle.sei_words.specs.Words.{BucketWords}
use Rattle.sei_pass.specs.declared.given.Which.{Which}
use Rattle.sei_pass.specs.declared.given.Which.TheVariants.{Making, Reading}
use Rattle.sei_pass.specs.declared.loops.Asked.{Asked}
use Rattle.sei_pass.specs.declared.loops.Asked.TheVariants as asked
use Rattle.sei_pass.specs.declared.loops.Exit.{Exit}
use Rattle.sei_pass.specs.declared.loops.Exit.TheVariants.{At, Halted, Bad, Struck, Alone}
use Rattle.sei_pass.specs.declared.spaces.PassSpace.{PassSpace}
use Rattle.sei_pass.specs.Acts.{act_of}
use Rattle.sei_pass.specs.Arms.{Arm, arm_at, arm_as, arm_of, asked_of, is_looped}
use Rattle.sei_pass.specs.Loop.{Here, Asks, Leads as LeadsOn, Leaves, RunsLoop}
use Rattle.sei_pass.specs.State.{PassState}
use Rattle.sei_pass.specs.Steps.{IsAnswer, machine_of}
use Rattle.sei_pass.proofs.Public.{some_answer, made_one, is_below}
use Rattle.sei_traverse.specs.declared.turned.State.{State}
use Rattle.sei_traverse.specs.declared.turned.State.TheVariants.{Went}
use Rattle.sei_traverse.specs.declared.turned.Turned.{Turned}
use Rattle.sei_traverse.specs.declared.turned.Want.{Want}
use Rattle.sei_traverse.specs.declared.turned.Want.TheVariants.{Nothing}
use Rattle.sei_traverse.specs.declared.workspace.Ending.TheVariants.{Leads, Aborts}
use Rattle.sei_traverse.specs.declared.workspace.Workspace.{Workspace}
use Rattle.sei_traverse.specs.Acts.{acted, at, closes}
use Rattle.sei_traverse.specs.PassActs.{pass_phase, pass_in, log_in, machine_in, with_machine, pass_to}
use Rattle.sei_traverse.specs.Running.{On, on, Quiet, RunsOn, rest, begun_at, left_at}
use Rattle.sei_traverse.specs.Given.{Given, given_of, setting_in}
use Rattle.sei_stmt.specs.Handling.{Behavior}
use Rattle.sei_traverse.specs.State.{IsTraversal}
use Rattle.sei_traverse.specs.Step.{StepResult, step_result, act_tree, site_of, arrival, goes, goes_on, once, step_as, step_at, traversal_step, TimedTwice}
use Rattle.sei_traverse.specs.Workspaces.{FitsIn}
use Rattle.sei_traverse.proofs.Making.{makes_one}
use Rattle.sei_traverse.proofs.PassLaws.{pass_again}
use Rattle.sei_traverse.proofs.PublicLentBuckets.{left_in, left_place, left_bucket, left_words, left_is}
use Rattle.sei_traverse.proofs.PublicWorkspaceKept.{KeepsWorkspace, step_kept}
use Rattle.sei_traverse.proofs.StepResultLaws.{same_bucket}

-- what is done in two pieces, one after the other
bound_runs : {S A B : Type 0} (gives : S → (q : Question) → Answer q → S → Type 0) (t : Tree A) (f : A → Tree B) (c d : S) (y : B) →
    Runs gives (bound t f) c d y → (m : S) × (x : A) × Runs gives t c m x × Runs gives (f x) m d y
bound_runs gives (Ended r) f c d y h = (c, r, (refl, refl), h)
bound_runs gives (Ask q k) f c d y (a, n, g, r) = let i = bound_runs gives (k a) f n d y r in (i.0, i.1, (a, n, g, i.2), i.3)

-- The workspace of a pass.

-- its pass stands at this index with this machine
abbrev pub workspace_at : Which → Workspace → Want → ℕ → Machine → Workspace
workspace_at which w want i m = record (with_machine which w m) { place = at (pass_phase which) i; want = want }

site_at : (which : Which) (s : Behavior) (w : Workspace) (i : ℕ) (m : Machine) → site_of s (workspace_at which w Nothing i m) ≡ option_map (act_of m.registers) (slice_get s.statements i)
site_at Making s w i m = refl
site_at Reading s w i m = refl

sealed_at : (which : Which) (w : Workspace) (want : Want) (i : ℕ) (m : Machine) → w.sealed ≡ (workspace_at which w want i m).sealed
sealed_at Making w want i m = refl
sealed_at Reading w want i m = refl

workspace_begins : (which : Which) (w : Workspace) (words : List ℕ) → w.place.phase ≡ pass_phase which → workspace_at which w w.want w.place.index (machine_in which w words) ≡ w
workspace_begins Making w words e = ap (λ (p : Phase). let v : Workspace = record w { place = at p w.place.index } in v) (sym e)
workspace_begins Reading w words e = ap (λ (p : Phase). let v : Workspace = record w { place = at p w.place.index } in v) (sym e)

-- the workspace whose pass stands at this index, and is this one with this log
abbrev pub workspace_with : Which → Workspace → ℕ → PassState → Kept Change → Workspace
workspace_with Making w i q log = record w { place = at First i; want = Nothing; first = q; first_log = log }
workspace_with Reading w i q log = record w { place = at Second i; want = Nothing; second = q; second_log = log }

-- it is known by its machine
workspace_again : (which : Which) (w : Workspace) (i : ℕ) (q : PassState) (words : List ℕ) (log : Kept Change) → q.space ≡ (pass_in which w).space → workspace_with which w i q log ≡ workspace_at which w Nothing i (machine_of q words log w.notes)
workspace_again Making w i q words log e = ap (λ (p : PassState). workspace_with Making w i p log) (sym (pass_again w.first q words log w.notes e))
workspace_again Reading w i q words log e = ap (λ (p : PassState). workspace_with Reading w i p log) (sym (pass_again w.second q words log w.notes e))

-- the workspace that the loop left in the midst of a step, at whose place it stands
abbrev pub workspace_left : Which → Workspace → PassState → Kept Change → Workspace
workspace_left Making w q log = record w { want = Nothing; first = q; first_log = log }
workspace_left Reading w q log = record w { want = Nothing; second = q; second_log = log }

workspace_is_left : (which : Which) (w : Workspace) (q : PassState) (log : Kept Change) → w.place.phase ≡ pass_phase which → workspace_left which w q log ≡ workspace_with which w w.place.index q log
workspace_is_left Making w q log e = ap (λ (p : Phase). let v : Workspace = record w { place = at p w.place.index; want = Nothing; first = q; first_log = log } in v) e
workspace_is_left Reading w q log e = ap (λ (p : Phase). let v : Workspace = record w { place = at p w.place.index; want = Nothing; second = q; second_log = log } in v) e

-- a place of the pass is not the end
arrival_in : (which : Which) (i done : ℕ) → Went ≡ arrival (pass_phase which) (at (pass_phase which) i) done
arrival_in Making i done = refl
arrival_in Reading i done = refl

-- A statement of the loop, and what is left of its step.

-- what is left of a step after its statement
abbrev left_asked : Given → ℕ → ℕ → Which → Workspace → ℕ → Machine → Asked → Tree StepResult
left_asked g now later which w i m (asked.Next to) = goes (workspace_at which w Nothing i m) m.words (at (pass_phase which) to)
left_asked g now later which w i m asked.Halted = rest Halted g now later (workspace_at which w Nothing i m) m.words
left_asked g now later which w i m (asked.Bad cause) = rest (Bad cause) g now later (workspace_at which w Nothing i m) m.words
left_asked g now later which w i m (asked.Struck act times) = rest (Struck act times) g now later (workspace_at which w Nothing i m) m.words
left_asked g now later which w i m asked.Alone = rest Alone g now later (workspace_at which w Nothing i m) m.words

module _ {S : Type 0} (gives : S → (q : Question) → Answer q → S → Type 0) (g : Given) (now later : ℕ) where
  once_pass : (which : Which) (w : Workspace) (i : ℕ) (m n : Machine) (o : Outcome) (u d e : S) (z : StepResult) → Runs gives (step_tree (setting_in g which w.sealed now) i m) u d (at_outcome n o) →
      Runs gives (left_asked g now later which w i n (asked_of o)) d e z → Runs gives (once g now (workspace_at which w Nothing i m) m.words) u e z
  once_pass Making w i m n (Next to) u d e z r k =
      let from = workspace_at Making w Nothing i m in
      let end = acted (workspace_at Making w Nothing i n) n.words (Leads (at First to)) in
      runs_bound gives (act_tree g now from m.words) goes_on u d e end z
      (runs_bound gives (step_tree (setting_in g Making w.sealed now) i m) (pass_to Making from) u d d (at_outcome n (Next to)) end r (refl, refl)) k
  once_pass Making w i m n Halts u d e z r k =
      let from = workspace_at Making w Nothing i m in
      let h = bound_runs gives (closes First (workspace_at Making w Nothing i n) n.words Nothing (at Restore 0)) goes_on d e z k in
      runs_bound gives (act_tree g now from m.words) goes_on u h.0 e h.1 z
      (runs_bound gives (step_tree (setting_in g Making w.sealed now) i m) (pass_to Making from) u d h.0 (at_outcome n Halts) h.1 r h.2) h.3
  once_pass Making w i m n (Aborting cause) u d e z r k =
      let from = workspace_at Making w Nothing i m in
      let end = acted (workspace_at Making w Nothing i n) n.words (Aborts cause) in
      runs_bound gives (act_tree g now from m.words) goes_on u d e end z
      (runs_bound gives (step_tree (setting_in g Making w.sealed now) i m) (pass_to Making from) u d d (at_outcome n (Aborting cause)) end r (refl, refl)) k
  once_pass Reading w i m n (Next to) u d e z r k =
      let from = workspace_at Reading w Nothing i m in
      let end = acted (workspace_at Reading w Nothing i n) n.words (Leads (at Second to)) in
      runs_bound gives (act_tree g now from m.words) goes_on u d e end z
      (runs_bound gives (step_tree (setting_in g Reading w.sealed now) i m) (pass_to Reading from) u d d (at_outcome n (Next to)) end r (refl, refl)) k
  once_pass Reading w i m n Halts u d e z r k =
      let from = workspace_at Reading w Nothing i m in
      let h = bound_runs gives (closes Second (workspace_at Reading w Nothing i n) n.words Nothing (at Compare 0)) goes_on d e z k in
      runs_bound gives (act_tree g now from m.words) goes_on u h.0 e h.1 z
      (runs_bound gives (step_tree (setting_in g Reading w.sealed now) i m) (pass_to Reading from) u d h.0 (at_outcome n Halts) h.1 r h.2) h.3
  once_pass Reading w i m n (Aborting cause) u d e z r k =
      let from = workspace_at Reading w Nothing i m in
      let end = acted (workspace_at Reading w Nothing i n) n.words (Aborts cause) in
      runs_bound gives (act_tree g now from m.words) goes_on u d e end z
      (runs_bound gives (step_tree (setting_in g Reading w.sealed now) i m) (pass_to Reading from) u d d (at_outcome n (Aborting cause)) end r (refl, refl)) k

  module _ (which : Which) (w : Workspace) where
    abbrev setting : Setting
    setting = setting_in g which w.sealed now

    as_pass : (i : ℕ) (m : Machine) (s : Stmt) (act : Act) (t : Times) (u d e : S) (x : Arm) (z : StepResult) → slice_get g.behavior.statements i ≡ Some s → m.made < g.space.budget →
        Runs gives (arm_as (statement_tree setting i (one_made m) s) m act t) u d x →
        Runs gives (left_asked g now later which w i x.machine x.asked) d e z → Runs gives (step_as g now later (workspace_at which w Nothing i m) m.words act t) u e z
    as_pass i m s act Once u d e x z f b r k =
        let y = bound_runs gives (statement_tree setting i (one_made m) s) arm_of u d x r in
        once_pass which w i m y.1.machine y.1.outcome u y.0 e z (made_one gives setting i m u y.0 s y.1 (sym f) (is_below m.made g.space.budget b) y.2)
        (subst (λ (c : S). Runs gives (left_asked g now later which w i y.1.machine (asked_of y.1.outcome)) c e z) y.3.1
        (subst (λ (a : Arm). Runs gives (left_asked g now later which w i a.machine a.asked) d e z) y.3.0 k))
    as_pass i m s act Skip u d e x z f b (r, v) k =
        subst (λ (c : S). Runs gives (step_as g now later (workspace_at which w Nothing i m) m.words act Skip) c e z) v
        (subst (λ (a : Arm). Runs gives (left_asked g now later which w i a.machine a.asked) d e z) r k)
    as_pass i m s act Twice u d e x z f b (r, v) k =
        subst (λ (c : S). Runs gives (step_as g now later (workspace_at which w Nothing i m) m.words act Twice) c e z) v
        (subst (λ (a : Arm). Runs gives (left_asked g now later which w i a.machine a.asked) d e z) r k)

    -- a statement that the loop does not make is not asked for
    arm_is : (b : Bool) (t : Tree Arm) (m : Machine) (c d : S) (x : Arm) → (x.asked ≡ asked.Alone → ⊥) →
        Runs gives (if b then t else Ended (record { machine = m; asked = asked.Alone })) c d x → Runs gives t c d x
    arm_is true t m c d x n r = r
    arm_is false t m c d x n (r, s) = absurd (n (ap (λ (y : Arm). y.asked) r))

    -- what was asked for in the loop, and what was left of it, is a step
    asked_pass : (want : Want) (x : Here S) (a : Asked) (m : Machine) (d e : S) (z : StepResult) → Asks gives setting (pass_phase which) x a m d → (a ≡ asked.Alone → ⊥) →
        Runs gives (left_asked g now later which w x.index m a) d e z → Runs gives (traversal_step g now later (workspace_at which w want x.index x.machine) x.machine.words) x.core e z
    asked_pass want x a m d e z asks never k =
        let s = asks.statement in
        let act = act_of x.machine.registers s in
        let r = arm_is (is_looped s) (arm_at setting (pass_phase which) x.index x.machine s act) x.machine x.core d (record { machine = m; asked = a }) never asks.runs in
        subst (λ (o : Option Act). Runs gives (step_at o g now later (workspace_at which w Nothing x.index x.machine) x.machine.words) x.core e z)
        (sym (site_at which g.behavior w x.index x.machine ∙ ap (option_map (act_of x.machine.registers)) asks.stands))
        (r.0, r.1, r.2, as_pass x.index x.machine s act r.0 r.1 d e (record { machine = m; asked = a }) z asks.stands asks.room r.3 k)

    -- a whole step of the loop
    leads_in_step : (want : Want) (x y : Here S) → LeadsOn gives setting (pass_phase which) x y →
        Runs gives (traversal_step g now later (workspace_at which w want x.index x.machine) x.machine.words) x.core y.core (step_result (workspace_at which w Nothing y.index y.machine) y.machine.words Went)
    leads_in_step want x y l =
        let to = workspace_at which w Nothing y.index y.machine in
        asked_pass want x (asked.Next l.to) y.machine l.then y.core (step_result to y.machine.words Went) l.asks (λ e. cc)
        (at (pass_phase which) y.index, y.core, l.goes, (ap (λ (s : State). step_result to y.machine.words s) (arrival_in which y.index to.gate.done), refl))

    -- whatever finishes what the loop left of a step, finishes the step
    leaves_step : (want : Want) (x : Here S) (exit : Exit) (m : Machine) (d e : S) (z : StepResult) → Leaves gives setting (pass_phase which) x exit m d →
        Runs gives (rest exit g now later (workspace_at which w Nothing x.index m) m.words) d e z → Runs gives (traversal_step g now later (workspace_at which w want x.index x.machine) x.machine.words) x.core e z
    leaves_step want x (At p) m d e z (to, c, asks, h) k = asked_pass want x (asked.Next to) m c e z asks (λ e. cc) (p, d, h, k)
    leaves_step want x Halted m d e z asks k = asked_pass want x asked.Halted m d e z asks (λ e. cc) k
    leaves_step want x (Bad cause) m d e z asks k = asked_pass want x (asked.Bad cause) m d e z asks (λ e. cc) k
    leaves_step want x (Struck act times) m d e z asks k = asked_pass want x (asked.Struck act times) m d e z asks (λ e. cc) k
    leaves_step want x Alone m d e z (f, h) k =
        subst (λ (c : S). Runs gives (traversal_step g now later (workspace_at which w want x.index x.machine) x.machine.words) c e z) h
        (subst (λ (n : Machine). Runs gives (traversal_step g now later (workspace_at which w want x.index n) n.words) d e z) f k)

-- One step as the loop makes it, and what is done after it, as the code has them.

module _ {S : Type 0} (gives : S → (q : Question) → Answer q → S → Type 0) (told : Option ℕ) (behavior : Behavior) (input : List ℕ) (space : PassSpace) (lent_bucket mid : Option BucketWords) (which : Which) (w : Workspace)
    (q : PassState) (log : Kept Change) (stands : w.place.phase ≡ pass_phase which) (same : q.space ≡ (pass_in which w).space) (here : (pass_in which w).space ≡ space) where
  abbrev given_now : Given
  given_now = given_of behavior input space (bucket_of lent_bucket)

  abbrev begin : S → Notes → Here S
  begin c notes = record { machine = machine_of (pass_in which w) (words_of lent_bucket) (log_in which w) notes; index = w.place.index; core = c }

  abbrev Turns : S → S → StepResult → Type 0
  Turns c f z = TimedTwice gives told (λ a b. traversal_step given_now a b w (words_of lent_bucket)) c f z

  begins : (c f : S) (z : StepResult) (a b : ℕ) → Runs gives (traversal_step given_now a b (workspace_at which w w.want w.place.index (machine_in which w (words_of lent_bucket))) (words_of lent_bucket)) c f z → Runs gives (traversal_step given_now a b w (words_of lent_bucket)) c f z
  begins c f z a b r = subst (λ (v : Workspace). Runs gives (traversal_step given_now a b v (words_of lent_bucket)) c f z) (workspace_begins which w (words_of lent_bucket) stands) r

  -- it led on in the pass
  pub step_leads : (c d : S) (to : ℕ) →
      ((g : Setting) (notes : Notes) → g.statements ≡ behavior.statements → g.budget ≡ (pass_in which w).space.budget →
      LeadsOn gives g (pass_phase which) (begin c notes) (record { machine = machine_of q (words_of mid) log notes; index = to; core = d })) →
      Turns c d (step_result (workspace_with which w to q log) (words_of mid) Went)
  step_leads c d to led =
      let a = some_answer told in
      let x = begin c w.notes in
      let y : Here S = record { machine = machine_of q (words_of mid) log w.notes; index = to; core = d } in
      let leads = led (setting_in given_now which w.sealed a.0) w.notes refl (ap (λ (k : PassSpace). k.budget) (sym here)) in
      record {
        now = a.0;
        later = a.0;
        answer = a.1;
        answer_later = a.1;
        runs =
            subst (λ (v : Workspace). Runs gives (traversal_step given_now a.0 a.0 w (words_of lent_bucket)) c d (step_result v (words_of mid) Went)) (sym (workspace_again which w to q (words_of mid) log same))
            (begins c d (step_result (workspace_at which w Nothing to y.machine) (words_of mid) Went) a.0 a.0 (leads_in_step gives given_now a.0 a.0 which w w.want x y leads));
      }

  -- it led out of the loop, and what was left of it is done
  pub step_leaves : (c d f : S) (exit : Exit) (z : StepResult) → place_of mid ≡ place_of lent_bucket →
      ((g : Setting) (notes : Notes) → g.statements ≡ behavior.statements → g.budget ≡ (pass_in which w).space.budget →
      Leaves gives g (pass_phase which) (begin c notes) exit (machine_of q (words_of mid) log notes) d) →
      TimedTwice gives told (λ a b. rest exit (given_of behavior input space (bucket_of mid)) a b (workspace_left which w q log) (words_of mid)) d f z →
      Turns c f z
  step_leaves c d f exit z placed left r =
      let lent = subst (λ (k : Option ℕ). TimedTwice gives told (λ a b. rest exit (given_of behavior input space k) a b (workspace_left which w q log) (words_of mid)) d f z) (same_bucket mid lent_bucket placed) r in
      let on_machine = subst (λ (v : Workspace). TimedTwice gives told (λ a b. rest exit given_now a b v (words_of mid)) d f z) (workspace_is_left which w q log stands ∙ workspace_again which w w.place.index q (words_of mid) log same) lent in
      let leaves = left (setting_in given_now which w.sealed on_machine.now) w.notes refl (ap (λ (k : PassSpace). k.budget) (sym here)) in
      record {
        now = on_machine.now;
        later = on_machine.later;
        answer = on_machine.answer;
        answer_later = on_machine.answer_later;
        runs =
            begins c f z on_machine.now on_machine.later (leaves_step gives given_now on_machine.now on_machine.later which w w.want (begin c w.notes) exit (machine_of q (words_of mid) log w.notes) d f z leaves on_machine.runs);
      }

-- The loop, and what is done after it.

module _ {S : Type 0} (gives : S → (q : Question) → Answer q → S → Type 0) (counts : S → Counts)
    (law : (s : S) (q : Question) (a : Answer q) (t : S) → gives s q a t → Answered (a ≡ honestly_to q) (counts s) (counts t)) (told : Option ℕ) (behavior : Behavior) (input : List ℕ)
    (space : PassSpace) (lent_bucket : Option BucketWords) (which : Which) (w : Workspace) (steps : ℕ) (fits : FitsIn space (behavior.parsed input) w.sealed) where
  abbrev given : Given
  given = given_of behavior input space (bucket_of lent_bucket)

  -- the want before n steps
  abbrev want_at : ℕ → Want
  want_at zero = w.want
  want_at (suc n) = Nothing

  -- after n steps of the loop
  abbrev on_at : ℕ → Here S → On S
  on_at n x = on (record { workspace = workspace_at which w (want_at n) x.index x.machine; space = space; steps = min (steps + n) (2 ^ 64 - 1); running = true }) (left_in lent_bucket x.machine.words) x.core

  abbrev Keeps : Workspace → List ℕ → StepResult → Type 0
  Keeps v words z = KeepsWorkspace space (behavior.parsed input) v words z.workspace z.words

  -- what is lent to the step, and what of it is left
  turns_from : (v : Workspace) (words : List ℕ) (c d : S) (z : StepResult) → length words ≡ length (words_of lent_bucket) → TimedTwice gives told (λ a b. traversal_step given a b v words) c d z →
      TimedTwice gives told (λ a b. traversal_step (given_of behavior input space (bucket_of (left_in lent_bucket words))) a b v (words_of (left_in lent_bucket words))) c d z
  turns_from v words c d z e r =
      subst (λ (k : Option ℕ). TimedTwice gives told (λ a b. traversal_step (given_of behavior input space k) a b v (words_of (left_in lent_bucket words))) c d z) (sym (left_bucket lent_bucket words))
      (subst (λ (ws : List ℕ). TimedTwice gives told (λ a b. traversal_step given a b v ws) c d z) (sym (left_words lent_bucket words e)) r)

  -- as many words as were lent are left
  turns_long : (v : Workspace) (words : List ℕ) (c d : S) (z : StepResult) → length words ≡ length (words_of lent_bucket) → TimedTwice gives told (λ a b. traversal_step given a b v words) c d z → length z.words ≡ length (words_of lent_bucket)
  turns_long v words c d z e r =
      (always gives (Keeps v words) (traversal_step given r.now r.later v words) c d z (step_kept space (behavior.parsed input) v words given refl refl r.now r.later) r.runs).long ∙ e

  record Stands (n : ℕ) (start x : Here S) : Type 0 where
    chain : Chain (Quiet gives counts told behavior input) n (on_at 0 start) (on_at n x)
    rooms : IsTraversal (on_at n x).traversal
    long : length x.machine.words ≡ length (words_of lent_bucket)

  fits_at : (n : ℕ) (x : Here S) → FitsIn space (behavior.parsed input) (workspace_at which w (want_at n) x.index x.machine).sealed
  fits_at n x = subst (λ s. FitsIn space (behavior.parsed input) s) (sealed_at which w (want_at n) x.index x.machine) fits

  module _ (now : ℕ) (answer : IsAnswer told now) where
    -- a whole step of the loop is a quiet one
    leads_quiet : (n : ℕ) (start x y : Here S) → Stands n start x → LeadsOn gives (setting_in given which w.sealed now) (pass_phase which) x y → Stands (suc n) start y
    leads_quiet n start x y s l =
        let from = workspace_at which w (want_at n) x.index x.machine in
        let to = workspace_at which w Nothing y.index y.machine in
        let bare : TimedTwice gives told (λ a b. traversal_step given a b from x.machine.words) x.core y.core (step_result to y.machine.words Went) =
        record { now = now; later = now; answer = answer; answer_later = answer; runs = leads_in_step gives given now now which w (want_at n) x y l } in
        let long = turns_long from x.machine.words x.core y.core (step_result to y.machine.words Went) s.long bare in
        let turned = turns_from from x.machine.words x.core y.core (step_result to (words_of (left_in lent_bucket y.machine.words)) Went) s.long
        (subst (λ (ws : List ℕ). TimedTwice gives told (λ a b. traversal_step given a b from x.machine.words) x.core y.core (step_result to ws Went)) (sym (left_words lent_bucket y.machine.words long)) bare) in
        let makes = makes_one gives counts law told behavior input (on_at n x) (on_at (suc n) y) (record { want = Nothing; state = Went }) turned refl (left_place lent_bucket y.machine.words ∙ sym (left_place lent_bucket x.machine.words))
        refl (omega arith) refl s.rooms (fits_at n x) in
        record { chain = (on_at n x, s.chain, makes); rooms = makes.rooms; long = long }

    stands_on : (n : ℕ) (start x : Here S) → Stands 0 start start → Chain (LeadsOn gives (setting_in given which w.sealed now) (pass_phase which)) n start x → Stands n start x
    stands_on zero start x s e = subst (λ (y : Here S). Stands 0 start y) (sym e) s
    stands_on (suc n) start x s (y, c, l) = leads_quiet n start y x (stands_on n start y s c) l

  -- the loop begins at the traversal that was given
  begins_at : (c : S) → w.place.phase ≡ pass_phase which → steps ≤ 2 ^ 64 - 1 →
      on_at 0 (record { machine = machine_in which w (words_of lent_bucket); index = w.place.index; core = c }) ≡ on (begun_at w space steps) lent_bucket c
  begins_at c e small =
      ap (λ (v : Workspace). on (record { workspace = v; space = space; steps = min (steps + 0) (2 ^ 64 - 1); running = true }) (left_in lent_bucket (machine_in which w (words_of lent_bucket)).words) c) (workspace_begins which w (words_of lent_bucket) e)
      ∙ ap (λ (n : ℕ). on (record { workspace = w; space = space; steps = n; running = true }) (left_in lent_bucket (machine_in which w (words_of lent_bucket)).words) c) (let k : min (steps + 0) (2 ^ 64 - 1) ≡ steps = omega (arith, small) in k)
      ∙ ap (λ (l : Option BucketWords). on (record { workspace = w; space = space; steps = steps; running = true }) l c) (left_is lent_bucket lent_bucket refl)

  -- so it and what is done after it are a run
  pub runs_on : (c d f : S) (n i : ℕ) (exit : Exit) (m : Machine) (u : Workspace) (left : Option BucketWords) (t : Turned) → w.place.phase ≡ pass_phase which → steps ≤ 2 ^ 64 - 1 →
      IsTraversal (begun_at w space steps) → place_of left ≡ place_of lent_bucket → t.want ≡ u.want →
      (r : TimedTwice gives told (λ a b. rest exit given a b (workspace_at which w Nothing i m) m.words) d f (step_result u (words_of left) t.state)) →
      RunsLoop gives (setting_in given which w.sealed r.now) (pass_phase which) n i (record { machine = machine_in which w (words_of lent_bucket); index = w.place.index; core = c }) exit m d →
      RunsOn gives counts told behavior input n (on (begun_at w space steps) lent_bucket c)
      (on (left_at u space steps (record { before = n; turned = t })) left f) t
  runs_on c d f n i exit m u left t e small is same wanted r l =
      let start : Here S = record { machine = machine_in which w (words_of lent_bucket); index = w.place.index; core = c } in
      let begins = begins_at c e small in
      let end : Here S = record { machine = l.machine; index = i; core = l.then } in
      let first : Stands 0 start start = record { chain = refl; rooms = subst (λ (x : On S). IsTraversal x.traversal) (sym begins) is; long = refl } in
      let stands = stands_on r.now r.answer n start end first l.chain in
      let from = workspace_at which w (want_at n) i l.machine in
      let bare : TimedTwice gives told (λ a b. traversal_step given a b from l.machine.words) l.then f (step_result u (words_of left) t.state) =
      record { now = r.now; later = r.later; answer = r.answer; answer_later = r.answer_later; runs = leaves_step gives given r.now r.later which w (want_at n) end exit m d f (step_result u (words_of left) t.state) l.leaves r.runs } in
      subst (λ (x : On S). RunsOn gives counts told behavior input n x (on (left_at u space steps (record { before = n; turned = t })) left f) t) begins (record {
        last = on_at n end;
        chain = stands.chain;
        makes = makes_one gives counts law told behavior input (on_at n end) (on (left_at u space steps (record { before = n; turned = t })) left f) t
            (turns_from from l.machine.words l.then f (step_result u (words_of left) t.state) stands.long bare) wanted (same ∙ sym (left_place lent_bucket l.machine.words)) refl (omega arith) refl stands.rooms (fits_at n end);
      })

  -- the same, as the code has it
  pub run_pass : (c d f : S) (n i : ℕ) (exit : Exit) (q : PassState) (log : Kept Change) (mid : Option BucketWords) (u : Workspace) (left : Option BucketWords) (t : Turned) → w.place.phase ≡ pass_phase which → steps < 2 ^ 64 →
      IsTraversal (begun_at w space steps) → q.space ≡ (pass_in which w).space → (pass_in which w).space ≡ space → place_of mid ≡ place_of lent_bucket → place_of left ≡ place_of mid → t.want ≡ u.want →
      ((g : Setting) (notes : Notes) → g.statements ≡ behavior.statements → g.budget ≡ (pass_in which w).space.budget →
      RunsLoop gives g (pass_phase which) n i (record { machine = machine_of (pass_in which w) (words_of lent_bucket) (log_in which w) notes; index = w.place.index; core = c }) exit (machine_of q (words_of mid) log notes) d) →
      TimedTwice gives told (λ a b. rest exit (given_of behavior input space (bucket_of mid)) a b (workspace_with which w i q log) (words_of mid)) d f (step_result u (words_of left) t.state) →
      RunsOn gives counts told behavior input n (on (begun_at w space steps) lent_bucket c) (on (left_at u space steps (record { before = n; turned = t })) left f) t
  run_pass c d f n i exit q log mid u left t e small is same here placed last wanted ran r =
      let z = step_result u (words_of left) t.state in
      let lent = subst (λ (k : Option ℕ). TimedTwice gives told (λ a b. rest exit (given_of behavior input space k) a b (workspace_with which w i q log) (words_of mid)) d f z) (same_bucket mid lent_bucket placed) r in
      let on_machine = subst (λ (v : Workspace). TimedTwice gives told (λ a b. rest exit given a b v (words_of mid)) d f z) (workspace_again which w i q (words_of mid) log same) lent in
      runs_on c d f n i exit (machine_of q (words_of mid) log w.notes) u left t e (omega (arith, small)) is (last ∙ placed) wanted on_machine
      (ran (setting_in given which w.sealed on_machine.now) w.notes refl (ap (λ (k : PassSpace). k.budget) (sym here)))

-- the same of other names for where it begins and ends
pub run_counted : {S : Type 0} (gives : S → (q : Question) → Answer q → S → Type 0) (counts : S → Counts) (told : Option ℕ) (behavior : Behavior) (input : List ℕ) (n : ℕ) (x y z u : On S) (t : Turned) →
    x ≡ y → z ≡ u → RunsOn gives counts told behavior input n x z t → RunsOn gives counts told behavior input n y u t
run_counted {S} gives counts told behavior input n x y z u t e f r =
    subst (λ (a : On S). RunsOn gives counts told behavior input n a u t) e (subst (λ (b : On S). RunsOn gives counts told behavior input n x b t) f r)
