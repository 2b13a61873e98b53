-- All steps of the traversal of a call under a planned fault.
use Rattle.std.proofs.Common.{◌≡◌, ℕ, zero, suc, ◌+◌, ◌^◌, ◌<◌, ◌≤◌, List, length, Option, Some, None, refl, sym, ap, ◌∙◌, subst, arith}
use Rattle.mc_model.specs.declared.geometry.Geometry.{Geometry}
use Rattle.mc_model.specs.Call.{Placed}
use Rattle.mc_model.specs.Packed.{AreBytes}
use Rattle.mc_model.specs.Server.{IsValid, Server}
use Rattle.sei_fault.specs.declared.plan.Planned.{Planned}
use Rattle.sei_fault.specs.Script.{ScriptState, script_answer, script_next, script_counts}
use Rattle.sei_fault.specs.Scripted.{scripted}
use Rattle.sei_words.specs.LentBucket.{words_of, bucket_of}
use Rattle.sei_words.specs.Words.{BucketWords}
use Rattle.sei_pass.specs.declared.given.Sealed.{Sealed}
use Rattle.sei_stmt.specs.Handling.{Parsed, parsed_words}
use Rattle.sei_pass.specs.Setting.{sealed_call}
use Rattle.sei_pass.specs.Spaces.{input_room, pass_space}
use Rattle.sei_pass.specs.State.{IsPass, new_pass}
use Rattle.sei_traverse.specs.declared.turned.State.{State}
use Rattle.sei_traverse.specs.declared.turned.State.TheVariants.{Went, Finished, Refused, Aborted}
use Rattle.sei_traverse.specs.declared.turned.Want.{Want}
use Rattle.sei_traverse.specs.declared.turned.Want.TheVariants.{Nothing, Take, Enter, Give, Send}
use Rattle.sei_traverse.specs.Bounds.{most_steps, StepsWithin, StepsAfter}
use Rattle.sei_traverse.specs.Given.{given_of}
use Rattle.sei_traverse.specs.State.{IsTraversal, begun_workspace, one_more}
use Rattle.sei_traverse.specs.Step.{StepResult, traversal_step}
use Rattle.sei_traverse.specs.Workspaces.{IsWorkspace, FitsIn}
use Rattle.sei_traverse.proofs.Public.{invariant_begin, steps_bounded, begun_within}
use Rattle.sei_hand.specs.Requests.{parsed_of, parsed_call}
use Rattle.sei_hand.proofs.PublicHands.{length_input_words}
use Rattle.sei_main.specs.Course.{Course, lent_in, course_on, course_if, course_from, course_begun, course_of, served_behind}
use Rattle.sei_hand.specs.HandsBehavior.{hands_behavior}
use Rattle.sei_main.specs.Tables.{AreServer}
use Rattle.sei_main.proofs.CourseShape.{Shape, shape_on, tables, context_at}
use Rattle.sei_main.proofs.CourseShape.Shape.{Before}
use Rattle.sei_main.proofs.CourseStep.{traversal, none_asked, kept, course_step, kept, stays_within}
use Rattle.sei_main.proofs.HandsTrusted.{IsSealedCall}
use Rattle.sei_main.proofs.ScriptedRuns.{one_falls, unplanned, unplanned_stays}
use Rattle.sei_main.proofs.TableLaws.{IsGood}
use Rattle.sei_main.proofs.Turns.{ended_stays}

one_more_is : (n : ℕ) → suc n < 2 ^ 64 → one_more n ≡ suc n
one_more_is n small = omega (arith, small)

-- Without a plan.

module _ (g : Geometry) (text : List ℕ) (now : ℕ) where
  unplanned_on : (c : Course) (asked : ℕ) → c.core ≡ unplanned asked → (n : ℕ) × ((course_on g text now c).core ≡ unplanned n)
  unfolding course_on
  unplanned_on c asked e =
      let tree = traversal_step (given_of (hands_behavior g) text (pass_space g) (bucket_of (lent_in c.buckets c.lent))) now now c.workspace (words_of (lent_in c.buckets c.lent)) in
      let rest = unplanned_stays tree asked in
      (rest.0, ap (λ (s : ScriptState). (scripted script_answer script_next tree s).1) e ∙ rest.1)

  -- the core never has one
  pub unplanned_from : (m : ℕ) (c : Course) (asked : ℕ) → c.core ≡ unplanned asked → (n : ℕ) × ((course_from g text now m c).core ≡ unplanned n)
  unplanned_from zero c asked e = (asked, e)
  unplanned_from (suc m) c asked e = by_state (λ d a h. unplanned_from m d a h) c.served.state
    where
      by_state : ((d : Course) (a : ℕ) → d.core ≡ unplanned a → (n : ℕ) × ((course_from g text now m d).core ≡ unplanned n)) → (state : State) → (n : ℕ) × ((course_from g text now m (course_if g text now state c)).core ≡ unplanned n)
      by_state rest Went = let one = unplanned_on c asked e in rest (course_on g text now c) one.0 one.1
      by_state rest Finished = rest c asked e
      by_state rest Refused = rest c asked e
      by_state rest (Aborted abort) = rest c asked e

-- a workspace that begins is laid out
begun_pass : (g : Geometry) → IsValid g → IsPass (new_pass (pass_space g))
begun_pass g valid = record {
  valid = valid;
  space = record { words = omega arith; input = refl; output = refl; bytes = refl; log = refl; budget = refl };
  registers = refl;
  input = refl;
  output = refl;
  bytes = refl;
  made = omega arith;
  fits = omega arith;
  bytes_fit = omega arith;
  input_fits = omega arith;
}

begun_laid_out : (g : Geometry) (sealed : Sealed) → IsValid g → IsWorkspace (begun_workspace (pass_space g) sealed)
begun_laid_out g sealed valid = record {
  first = begun_pass g valid;
  second = begun_pass g valid;
  same = refl;
  first_log = omega arith;
  second_log = omega arith;
  first_room = refl;
  second_room = refl;
  wire_room = refl;
  wire_fits = omega arith;
}

module _ (g : Geometry) (text : List ℕ) (now : ℕ) (buckets : List BucketWords) (s : Server) (sealed : Sealed) (p : Placed)
    (valid : IsValid g) (bytes : AreBytes text) (small : now < 2 ^ 64) (good : IsGood g p) (is_call : IsSealedCall g text sealed p) (are : AreServer (tables g text now buckets s sealed p) s) where
  -- what is known of a course behind so many steps
  pub record OnCourse (c : Course) (steps : ℕ) : Type 0 where
    pub shape : Shape g text now buckets s sealed p c steps
    pub of_sealed : c.workspace.sealed ≡ sealed
    pub rooms : IsTraversal (traversal g c.workspace steps)
    pub within : StepsAfter (traversal g c.workspace steps) none_asked (script_counts c.core) c.served.state

  sealed_on : (c : Course) → c.workspace.sealed ≡ sealed → (course_on g text now c).workspace.sealed ≡ sealed
  unfolding course_on
  sealed_on c h = (kept g text now c.workspace (lent_in c.buckets c.lent) c.core).sealed ∙ h

  -- the input words of the sealed call go in
  fits_in : (o : Option Parsed) → ((x : Parsed) → o ≡ Some x → parsed_of g p ≡ x) → length (parsed_words o) ≤ input_room g
  fits_in None is = omega arith
  fits_in (Some x) is = subst (λ (y : Parsed). length y.words ≤ input_room g) (is x refl) (omega (arith, length_input_words g p.call good.read.key good.read.block))

  rooms_on : (c : Course) (steps more : ℕ) → c.workspace.sealed ≡ sealed → IsTraversal (traversal g c.workspace steps) → IsTraversal (traversal g (course_on g text now c).workspace more)
  unfolding course_on
  rooms_on c steps more same is =
      let k = kept g text now c.workspace (lent_in c.buckets c.lent) c.core in
      record {
        workspace = k.workspace is.workspace is.space (subst (FitsIn (pass_space g) (parsed_call g text)) (sym same) (fits_in (sealed_call (parsed_call g text) sealed.nth) is_call));
        space = k.space ∙ is.space;
      }

  within_on : (c : Course) (steps : ℕ) → IsTraversal (traversal g c.workspace steps) → StepsWithin (traversal g c.workspace steps) none_asked (script_counts c.core) →
      StepsAfter (traversal g (course_on g text now c).workspace (one_more steps)) none_asked (script_counts (course_on g text now c).core) (course_on g text now c).served.state
  unfolding course_on
  within_on c steps is within = by (course_step g text now c.workspace (lent_in c.buckets c.lent) c.core) (course_step g text now c.workspace (lent_in c.buckets c.lent) c.core).0.workspace.want
      (stays_within g text now c.workspace (lent_in c.buckets c.lent) c.core none_asked steps is within)
    where
      by : (x : StepResult × ScriptState) (want : Want) → StepsAfter (traversal g x.0.workspace (one_more steps)) none_asked (script_counts x.1) x.0.state →
          StepsAfter (traversal g x.0.workspace (one_more steps)) none_asked (script_counts x.1) (served_behind want x.0.workspace c.served x.0.state).state
      by x Nothing h = h
      by x (Take b) h = h
      by x Enter h = h
      by x Give h = h
      by x Send h = h

  on_course : (c : Course) (steps : ℕ) → suc steps < 2 ^ 64 → c.served.state ≡ Went → OnCourse c steps → OnCourse (course_on g text now c) (suc steps)
  on_course c steps few went h = subst (OnCourse (course_on g text now c)) (one_more_is steps few) (record {
    shape = shape_on g text now buckets s sealed p valid bytes small good is_call are c steps went h.shape;
    of_sealed = sealed_on c h.of_sealed;
    rooms = rooms_on c steps (one_more steps) h.of_sealed h.rooms;
    within = within_on c steps h.rooms (subst (StepsAfter (traversal g c.workspace steps) none_asked (script_counts c.core)) went h.within);
  })

  -- behind m steps more: where it still goes on, so many were made
  record Behind (m : ℕ) (c : Course) (steps : ℕ) : Type 0 where
    made : ℕ
    on : OnCourse (course_from g text now m c) made
    all : (course_from g text now m c).served.state ≡ Went → made ≡ steps + m

  -- one of them
  one_on : (m : ℕ) (c : Course) (steps : ℕ) → steps + suc m < 2 ^ 64 → OnCourse c steps → ((d : Course) (n : ℕ) → n + m < 2 ^ 64 → OnCourse d n → Behind m d n) → Behind (suc m) c steps
  one_on m c steps few h rest = by_state c.served.state refl
    where
      ended : (c.served.state ≡ Went → ⊥) → Behind (suc m) c steps
      ended not = record {
        made = steps;
        on = subst (λ (d : Course). OnCourse d steps) (sym (ended_stays g text now (suc m) c not)) h;
        all = λ went. absurd (not (sym (ap (λ (d : Course). d.served.state) (ended_stays g text now (suc m) c not)) ∙ went));
      }

      goes : c.served.state ≡ Went → Behind (suc m) c steps
      goes went =
          let b = rest (course_on g text now c) (suc steps) (omega (arith, few)) (on_course c steps (omega (arith, few)) went h) in
          let same : course_from g text now m (course_on g text now c) ≡ course_from g text now (suc m) c = ap (λ (o : State). course_from g text now m (course_if g text now o c)) (sym went) in
          record {
            made = b.made;
            on = subst (λ (d : Course). OnCourse d b.made) same b.on;
            all = λ more. let so : b.made ≡ suc steps + m = b.all (ap (λ (d : Course). d.served.state) same ∙ more) in omega (arith, so);
          }

      by_state : (state : State) → c.served.state ≡ state → Behind (suc m) c steps
      by_state Went e = goes e
      by_state Finished e = ended (λ went. let clash : ⊥ = cc in clash)
      by_state Refused e = ended (λ went. let clash : ⊥ = cc in clash)
      by_state (Aborted abort) e = ended (λ went. let clash : ⊥ = cc in clash)

  all_on : (m : ℕ) (c : Course) (steps : ℕ) → steps + m < 2 ^ 64 → OnCourse c steps → Behind m c steps
  all_on zero c steps few h = record { made = steps; on = h; all = λ went. omega arith }
  all_on (suc m) c steps few h = one_on m c steps few h (λ d n less on. all_on m d n less on)

  begins : (plan : Option Planned) → OnCourse (course_begun g buckets sealed plan) 0
  begins plan = record {
    shape = Before (record {
      gate = omega arith;
      untouched = record { lent = refl; same = refl; entered = refl; message = refl };
      lends = λ went right. refl;
      known = λ k lt. invariant_begin (context_at g text now buckets s sealed p k) none_asked;
    });
    of_sealed = refl;
    rooms = record { workspace = begun_laid_out g sealed valid; space = refl };
    within = begun_within (pass_space g) sealed none_asked;
  }

  few_steps : 0 + (most_steps (pass_space g) + 1) < 2 ^ 64
  few_steps = omega (arith, valid.few_slots, valid.few_words)

  whole : (plan : Option Planned) → Behind (most_steps (pass_space g) + 1) (course_begun g buckets sealed plan) 0
  whole plan = all_on (most_steps (pass_space g) + 1) (course_begun g buckets sealed plan) 0 few_steps (begins plan)

  -- it is known of the whole course
  pub whole_course : (plan : Option Planned) → (made : ℕ) × OnCourse (course_of g text now buckets sealed plan) made
  whole_course plan = ((whole plan).made, (whole plan).on)

  -- it ends
  pub course_ends : (plan : Option Planned) → (course_of g text now buckets sealed plan).served.state ≡ Went → ⊥
  course_ends plan went =
      let b = whole plan in
      let c : Course = course_of g text now buckets sealed plan in
      let within : StepsWithin (traversal g c.workspace b.made) none_asked (script_counts c.core) = subst (StepsAfter (traversal g c.workspace b.made) none_asked (script_counts c.core)) went b.on.within in
      let bound : b.made ≤ most_steps (pass_space g) = steps_bounded (traversal g c.workspace b.made) none_asked (script_counts c.core) b.on.rooms within (omega (arith, one_falls c.core.stage)) in
      omega (arith, bound, b.all went)
