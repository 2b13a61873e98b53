-- Where the traversal of a call under a planned fault stands, and what its caller did for it so far.
use Rattle.std.proofs.Common.{◌≡◌, ◌⊎◌, inl, inr, ℕ, ◌+◌, ◌^◌, ◌<◌, ◌≤◌, List, [], ◌∷◌, length, Option, Some, None, refl, sym, ap, ◌∙◌, subst, arith}
use Rattle.std.specs.Prelude.{slice_get, slice_set, unwrap_or}
use Rattle.std.specs.Option.{option_and_then}
use Rattle.std.proofs.lemmas.Bool.{cases_eq, eq-eqb}
use Rattle.std.proofs.lemmas.List.{length-set, get_or-set_same, set-set, set-get_or}
use Rattle.std.proofs.lemmas.Option.{slice_get-get_or}
use Rattle.mc_model.specs.declared.geometry.Geometry.{Geometry}
use Rattle.mc_model.specs.Answer.{answer}
use Rattle.mc_model.specs.Bucket.{Bucket}
use Rattle.mc_model.specs.Call.{Placed}
use Rattle.mc_model.specs.Packed.{AreBytes}
use Rattle.mc_model.specs.Server.{IsValid, Server, room_of, bucket_at}
use Rattle.sei_code.specs.Coded.{sealed as seal, read_of, complement}
use Rattle.sei_code.specs.declared.coded.Coded.{Coded}
use Rattle.sei_fault.specs.Counts.{Counts}
use Rattle.sei_fault.specs.declared.place.Phase.{Phase}
use Rattle.sei_fault.specs.declared.place.Phase.TheVariants.{Guard, Take, First, Restore, Second, Compare, Verify, Enter, Give, Send, Done as Last}
use Rattle.sei_fault.specs.Phases.{phase_number}
use Rattle.sei_fault.specs.Script.{ScriptState, script_counts, fallen}
use Rattle.sei_words.specs.Words.{BucketWords, fresh_words}
use Rattle.sei_pass.specs.declared.given.Sealed.{Sealed}
use Rattle.sei_pass.specs.State.{PassState}
use Rattle.sei_hand.specs.Served.{Stands}
use Rattle.sei_traverse.specs.declared.turned.State.{State}
use Rattle.sei_traverse.specs.declared.turned.State.TheVariants.{Went, Finished, Refused, Aborted}
use Rattle.sei_traverse.specs.declared.turned.Want.{Want}
use Rattle.sei_traverse.specs.declared.turned.Want.TheVariants.{Nothing, Take as WantTake, Enter as WantEnter, Give as WantGive, Send as WantSend}
use Rattle.sei_traverse.specs.declared.workspace.Workspace.{Workspace}
use Rattle.sei_traverse.specs.CallContext.{CallContext}
use Rattle.sei_traverse.specs.FaultInvariant.{FaultInvariant, FaultInvariantAfter, IsRight, LendsWanted, LendsOn, Wanted, WantsBucket, ClosesOnce, IsAborted, Isolates}
use Rattle.sei_traverse.specs.FaultInvariant.ClosesOnce.{Stays, Closes, Lacks}
use Rattle.sei_traverse.specs.Phases.{reply_of, send_want, closing_want}
use Rattle.sei_traverse.specs.State.{TraversalState, one_more}
use Rattle.sei_traverse.specs.Step.{StepResult}
use Rattle.sei_traverse.specs.Struck.{IsHonestResult, HasCopyOfSome}
use Rattle.sei_traverse.specs.Trusted.{IsTrusted}
use Rattle.sei_traverse.proofs.Public.{invariant_lent, invariant_given}
use Rattle.sei_main.specs.declared.world.service.Entered.{Entered}
use Rattle.sei_main.specs.Course.{Course, lent_in, put_back, lent_behind, entered_by, served_behind, course_on}
use Rattle.sei_main.specs.CallContexts.{context_for}
use Rattle.sei_main.specs.Tables.{Tables, bucket_words, AreServer, IsBucketImage}
use Rattle.sei_main.proofs.CourseAnswers.{IsAnswer, is_answer}
use Rattle.sei_main.proofs.CourseStep.{traversal, none_asked, course_step, isolates}
use Rattle.sei_main.proofs.HandsTrusted.{IsSealedCall, hands_are_trusted}
use Rattle.sei_main.proofs.TableLaws.{IsGood}

-- what is known behind a step stays known where the words that were taken are lent, and where they are given back

after_lent : (e : CallContext) (t : TraversalState) (begin now : Counts) → IsTrusted e → t.workspace.gate.done ≡ 2 → (state : State) → FaultInvariantAfter e t None begin now state → FaultInvariantAfter e t (Some e.taken) begin now state
after_lent e t begin now trusted gate Went h = invariant_lent e t begin now trusted gate h
after_lent e t begin now trusted gate Finished h = h
after_lent e t begin now trusted gate Refused h = h
after_lent e t begin now trusted gate (Aborted abort) h = h

after_given : (e : CallContext) (t : TraversalState) (words : List ℕ) (begin now : Counts) → t.workspace.gate.done ≡ 9 → (state : State) → FaultInvariantAfter e t (Some words) begin now state → FaultInvariantAfter e t None begin now state
after_given e t words begin now gate Went h = invariant_given e t words begin now gate h
after_given e t words begin now gate Finished h = h
after_given e t words begin now gate Refused h = h
after_given e t words begin now gate (Aborted abort) h = h

-- it aborts only where a strike fell
aborted_struck : (e : CallContext) (t : TraversalState) (lent : Option (List ℕ)) (begin now : Counts) (state : State) → IsAborted state → FaultInvariantAfter e t lent begin now state → begin.struck < now.struck
aborted_struck e t lent begin now Went is h = absurd is
aborted_struck e t lent begin now Finished is h = absurd is
aborted_struck e t lent begin now Refused is h = absurd is
aborted_struck e t lent begin now (Aborted abort) is h = h

read_seal : (v : ℕ) → read_of (seal v) ≡ Some v
read_seal v = simp (eq-eqb (complement v) (complement v) refl)

-- the entry, by the noted time
entry_is : (now : ℕ) (w : Workspace) (reply : List ℕ) → w.notes.now ≡ Some (seal now) → reply_of w ≡ reply → entered_by w ≡ record { now = now; reply = reply }
entry_is now w reply noted is =
    ap (λ (o : Option Coded). record { now = unwrap_or (option_and_then read_of o) 0; reply = reply_of w }) noted
    ∙ ap (λ (o : Option ℕ). record { now = unwrap_or o 0; reply = reply_of w }) (read_seal now)
    ∙ ap (λ (r : List ℕ). record { now = now; reply = r }) is

module _ (g : Geometry) (text : List ℕ) (now : ℕ) (buckets : List BucketWords) (s : Server) (sealed : Sealed) (p : Placed) where
  abbrev pub tables : Tables
  tables = record { geometry = g; buckets = buckets }

  -- the call context of the call, where this bucket was taken
  abbrev pub context_at : ℕ → CallContext
  context_at k = context_for g text sealed p (bucket_words tables k).words now

  -- what the plain server answers
  abbrev pub next_bucket : Bucket
  next_bucket = (answer (room_of g) (bucket_at s p.bucket) now p.call).0

  abbrev pub reply_now : List ℕ
  reply_now = (answer (room_of g) (bucket_at s p.bucket) now p.call).1

  abbrev pub entry_now : Entered
  entry_now = record { now = now; reply = reply_now }

  abbrev pub Known : Course → ℕ → ℕ → Option (List ℕ) → Type 0
  Known c steps k lent = FaultInvariantAfter (context_at k) (traversal g c.workspace steps) lent none_asked (script_counts c.core) c.served.state

  abbrev pub LendsWhile : Course → Option BucketWords → Type 0
  LendsWhile c lent_bucket = c.served.state ≡ Went → LendsWanted c.workspace lent_bucket

  -- nothing was done for it
  pub record IsUntouched (c : Course) : Type 0 where
    pub lent : c.lent ≡ None
    pub same : c.buckets ≡ buckets
    pub entered : c.served.entered ≡ None
    pub message : c.served.message ≡ []

  -- Take was not wanted: so much is known whichever bucket will be
  pub record IsBefore (c : Course) (steps : ℕ) : Type 0 where
    pub gate : c.workspace.gate.done ≤ 1
    pub untouched : IsUntouched c
    pub lends : LendsWhile c None
    pub known : (k : ℕ) → k < g.buckets → Known c steps k None

  -- the bucket that a struck traversal wants is not there
  pub record IsLacking (c : Course) : Type 0 where
    pub untouched : IsUntouched c
    pub aborted : IsAborted c.served.state
    pub struck : 0 < fallen c.core.stage

  -- a bucket is lent
  pub record IsLent (c : Course) (steps k : ℕ) (w : BucketWords) : Type 0 where
    pub inside : k < g.buckets
    pub lent : c.lent ≡ Some k
    pub bucket : w.bucket ≡ k
    pub laid_out : w.geometry ≡ g
    pub set : c.buckets ≡ slice_set buckets k w
    pub message : c.served.message ≡ []
    pub lends : LendsWhile c (Some w)
    pub known : Known c steps k (Some w.words)

  -- the call is entered
  pub record IsEntered (c : Course) : Type 0 where
    pub entered : c.served.entered ≡ Some entry_now
    pub replies : c.served.state ≡ Went → IsRight c.workspace → reply_of c.workspace ≡ reply_now

  -- its bucket is given back
  pub record IsGiven (c : Course) (steps k : ℕ) (w : BucketWords) : Type 0 where
    pub gate : 9 ≤ c.workspace.gate.done
    pub inside : k < g.buckets
    pub mine : k ≡ p.bucket
    pub lent : c.lent ≡ None
    pub bucket : w.bucket ≡ k
    pub laid_out : w.geometry ≡ g
    pub set : c.buckets ≡ slice_set buckets k w
    pub stands : Stands g w.words next_bucket
    pub entered : IsEntered c
    pub unsent : c.workspace.gate.done ≤ 9 → c.served.message ≡ []
    pub sent : 10 ≤ c.workspace.gate.done → c.served.message ≡ reply_now
    pub lends : LendsWhile c None
    pub known : Known c steps k None

  pub data Shape (c : Course) (steps : ℕ) : Type 0 where
    Before : IsBefore c steps → Shape c steps
    Lacking : IsLacking c → Shape c steps
    Lent : (k : ℕ) (w : BucketWords) → 2 ≤ c.workspace.gate.done → c.workspace.gate.done ≤ 7 → IsLent c steps k w → c.served.entered ≡ None → Shape c steps
    Entry : (k : ℕ) (w : BucketWords) → c.workspace.gate.done ≡ 8 → k ≡ p.bucket → IsLent c steps k w → IsEntered c → Shape c steps
    Given : (k : ℕ) (w : BucketWords) → IsGiven c steps k w → Shape c steps

  -- the course behind a step on this lent bucket that turns out so and wants this
  abbrev behind : Course → Option BucketWords → StepResult × ScriptState → Want → Course
  behind c lent_bucket x want = record {
    workspace = x.0.workspace;
    buckets = put_back c.buckets c.lent lent_bucket x.0.words;
    lent = lent_behind want c.lent;
    core = x.1;
    served = served_behind want x.0.workspace c.served x.0.state;
  }

  on_is : (c : Course) (lent_bucket : Option BucketWords) → lent_in c.buckets c.lent ≡ lent_bucket →
      course_on g text now c ≡ behind c lent_bucket (course_step g text now c.workspace lent_bucket c.core) (course_step g text now c.workspace lent_bucket c.core).0.workspace.want
  unfolding course_on
  on_is c lent_bucket e =
      ap (λ (l : Option BucketWords). behind c l (course_step g text now c.workspace l c.core) (course_step g text now c.workspace l c.core).0.workspace.want) e

  module _ (valid : IsValid g) (bytes : AreBytes text) (small : now < 2 ^ 64) (good : IsGood g p) (is_call : IsSealedCall g text sealed p) (are : AreServer tables s) where
    trusted : (k : ℕ) → k < g.buckets → IsTrusted (context_at k)
    trusted k lt = hands_are_trusted g valid text bytes sealed p is_call (bucket_words tables k).words (bucket_at s k) (are.each k lt).stands now small

    -- the answer, from the bucket that is the call's
    answers : (k : ℕ) → k < g.buckets → k ≡ p.bucket → (w : Workspace) (words : List ℕ) (asked : ℕ) → IsHonestResult (context_at k) w words asked → IsAnswer g now p (bucket_at s p.bucket) words w
    answers k lt mine w words asked a =
        subst (λ (b : ℕ). IsAnswer g now p (bucket_at s b) words w) mine
        (is_answer g valid text now small sealed p good (bucket_words tables k).words (bucket_at s k) (are.each k lt).stands w words asked a)

    some_bucket : 0 < g.buckets
    some_bucket = omega (arith, valid.some_buckets)

    module _ (c : Course) (steps : ℕ) (went : c.served.state ≡ Went) where
      -- the facts of a course that goes on
      facts : (k : ℕ) (lent : Option (List ℕ)) → Known c steps k lent → FaultInvariant (context_at k) (traversal g c.workspace steps) lent none_asked (script_counts c.core)
      facts k lent known = subst (λ (state : State). FaultInvariantAfter (context_at k) (traversal g c.workspace steps) lent none_asked (script_counts c.core) state) went known

      -- Before Take.
      module _ (b : IsBefore c steps) where
        abbrev x : StepResult × ScriptState
        x = course_step g text now c.workspace None c.core

        abbrev next : Want → Course
        next want = behind c None x want

        iso : (k : ℕ) → k < g.buckets → Isolates (context_at k) (traversal g c.workspace steps) (traversal g x.0.workspace (one_more steps)) None None none_asked (script_counts x.1) x.0.workspace.want x.0.state
        iso k lt = isolates g text now c.workspace None c.core (context_at k) steps (trusted k lt) refl refl refl (b.lends went) (facts k None (b.known k lt))

        put : put_back c.buckets c.lent None x.0.words ≡ buckets
        put = ap (λ (o : Option ℕ). put_back c.buckets o None x.0.words) b.untouched.lent ∙ b.untouched.same

        before_nothing : (want : Want) → want ≡ Nothing → x.0.workspace.gate.done ≤ 1 → (x.0.state ≡ Went → LendsOn x.0.workspace None want) → Shape (next want) (one_more steps)
        before_nothing want is gate lends =
            subst (λ (v : Want). (x.0.state ≡ Went → LendsOn x.0.workspace None v) → Shape (next v) (one_more steps)) (sym is) by_nothing lends
          where
            by_nothing : (x.0.state ≡ Went → LendsWanted x.0.workspace None) → Shape (next Nothing) (one_more steps)
            by_nothing lends = Before (record {
              gate = gate;
              untouched = record { lent = b.untouched.lent; same = put; entered = b.untouched.entered; message = b.untouched.message };
              lends = lends;
              known = λ k lt. (iso k lt).goes;
            })

        lacking : (want : Want) → want ≡ Nothing → IsAborted x.0.state → Shape (next want) (one_more steps)
        lacking want is ended = subst (λ (v : Want). Shape (next v) (one_more steps)) (sym is) by_nothing
          where
            by_nothing : Shape (next Nothing) (one_more steps)
            by_nothing = Lacking (record {
              untouched = record { lent = b.untouched.lent; same = put; entered = b.untouched.entered; message = b.untouched.message };
              aborted = ended;
              struck = aborted_struck (context_at 0) (traversal g x.0.workspace (one_more steps)) None none_asked (script_counts x.1) x.0.state ended (iso 0 some_bucket).goes;
            })

        -- Take is wanted
        takes : (k : ℕ) → k < g.buckets → x.0.workspace.gate.done ≡ 2 → (x.0.state ≡ Went → LendsOn x.0.workspace None (WantTake k)) → Shape (next (WantTake k)) (one_more steps)
        takes k lt gate lends =
            let w : BucketWords = bucket_words tables k in
            let of : IsBucketImage g s k w = are.each k lt in
            Lent k w (omega (arith, gate)) (omega (arith, gate))
            (record {
              inside = lt;
              lent = refl;
              bucket = of.bucket;
              laid_out = of.geometry;
              set = put ∙ sym (set-get_or buckets k (fresh_words g k));
              message = b.untouched.message;
              lends = λ h. lends h w of.bucket;
              known = after_lent (context_at k) (traversal g x.0.workspace (one_more steps)) none_asked (script_counts x.1) (trusted k lt) gate x.0.state (iso k lt).goes;
            })
            b.untouched.entered

        takes_so : (want : Want) → want ≡ WantTake x.0.workspace.wanted → x.0.workspace.gate.done ≡ 2 → (asked : ℕ) → Wanted (context_at 0) x.0.workspace None asked want → (x.0.state ≡ Went → LendsOn x.0.workspace None want) → Shape (next want) (one_more steps)
        takes_so want is gate asked wanted lends =
            let here : Wanted (context_at 0) x.0.workspace None asked (WantTake x.0.workspace.wanted) = subst (Wanted (context_at 0) x.0.workspace None asked) is wanted in
            subst (λ (v : Want). (x.0.state ≡ Went → LendsOn x.0.workspace None v) → Shape (next v) (one_more steps)) (sym is) (takes x.0.workspace.wanted here.1 gate) lends

        before_closes : (phase : Phase) → c.workspace.gate.done ≡ phase_number phase → x.0.workspace.gate.done ≡ c.workspace.gate.done + 1 → x.0.workspace.want ≡ closing_want x.0.workspace phase → Shape (next x.0.workspace.want) (one_more steps)
        before_closes Guard is gate want = before_nothing x.0.workspace.want want (omega (arith, is, gate)) (iso 0 some_bucket).lends
        before_closes Take is gate want = takes_so x.0.workspace.want want (omega (arith, is, gate)) (iso 0 some_bucket).wants.asked (iso 0 some_bucket).wants.wanted (iso 0 some_bucket).lends
        before_closes First is gate want = absurd (omega (arith, is, b.gate))
        before_closes Restore is gate want = absurd (omega (arith, is, b.gate))
        before_closes Second is gate want = absurd (omega (arith, is, b.gate))
        before_closes Compare is gate want = absurd (omega (arith, is, b.gate))
        before_closes Verify is gate want = absurd (omega (arith, is, b.gate))
        before_closes Enter is gate want = absurd (omega (arith, is, b.gate))
        before_closes Give is gate want = absurd (omega (arith, is, b.gate))
        before_closes Send is gate want = absurd (omega (arith, is, b.gate))
        before_closes Last is gate want = absurd (omega (arith, is, b.gate))

        before_once : ClosesOnce (context_at 0) c.workspace x.0.workspace (IsAborted x.0.state) → Shape (next x.0.workspace.want) (one_more steps)
        before_once (Stays gate none) = before_nothing x.0.workspace.want none (omega (arith, gate, b.gate)) (iso 0 some_bucket).lends
        before_once (Closes phase at is gate want) = before_closes phase is gate want
        before_once (Lacks is gate none lacks ended) = lacking x.0.workspace.want none ended

        before_on : Shape (course_on g text now c) (one_more steps)
        before_on = subst (λ (d : Course). Shape d (one_more steps)) (sym (on_is c None (ap (lent_in c.buckets) b.untouched.lent))) (before_once (iso 0 some_bucket).once)

      -- While a bucket is lent.
      module _ (k : ℕ) (w : BucketWords) (l : IsLent c steps k w) where
        abbrev y : StepResult × ScriptState
        y = course_step g text now c.workspace (Some w) c.core

        abbrev left : BucketWords
        left = record w { words = y.0.words }

        abbrev onward : Want → Course
        onward want = behind c (Some w) y want

        still_is : Isolates (context_at k) (traversal g c.workspace steps) (traversal g y.0.workspace (one_more steps)) (Some w) (Some left) none_asked (script_counts y.1) y.0.workspace.want y.0.state
        still_is = isolates g text now c.workspace (Some w) c.core (context_at k) steps (trusted k l.inside) refl refl refl (l.lends went) (facts k (Some w.words) l.known)

        here : k < length buckets
        here = omega (arith, l.inside, are.tables)

        lent_bucket_is : lent_in c.buckets c.lent ≡ Some w
        lent_bucket_is =
            ap (lent_in c.buckets) l.lent ∙ ap (λ (b : List BucketWords). slice_get b k) l.set
            ∙ slice_get-get_or (slice_set buckets k w) k w (omega (arith, here, length-set buckets k w))
            ∙ ap (λ (b : BucketWords). let o : Option BucketWords = Some b in o) (get_or-set_same buckets k w w here)

        put_left : put_back c.buckets c.lent (Some w) y.0.words ≡ slice_set buckets k left
        put_left =
            ap (λ (o : Option ℕ). put_back c.buckets o (Some w) y.0.words) l.lent
            ∙ ap (λ (b : List BucketWords). slice_set b k left) l.set
            ∙ set-set buckets k w left

        lent_nothing : (y.0.state ≡ Went → LendsWanted y.0.workspace (Some left)) → IsLent (onward Nothing) (one_more steps) k left
        lent_nothing lends = record { inside = l.inside; lent = l.lent; bucket = l.bucket; laid_out = l.laid_out; set = put_left; message = l.message; lends = lends; known = still_is.goes }

        lent_enter : (y.0.state ≡ Went → LendsWanted y.0.workspace (Some left)) → IsLent (onward WantEnter) (one_more steps) k left
        lent_enter lends = record { inside = l.inside; lent = l.lent; bucket = l.bucket; laid_out = l.laid_out; set = put_left; message = l.message; lends = lends; known = still_is.goes }

        -- the words are those of the answer
        module _ (low : 2 ≤ c.workspace.gate.done) (high : c.workspace.gate.done ≤ 7) (unentered : c.served.entered ≡ None) where
          lent_stays : (want : Want) → want ≡ Nothing → 2 ≤ y.0.workspace.gate.done → y.0.workspace.gate.done ≤ 7 → (y.0.state ≡ Went → LendsOn y.0.workspace (Some left) want) → Shape (onward want) (one_more steps)
          lent_stays want is over under lends =
              subst (λ (v : Want). (y.0.state ≡ Went → LendsOn y.0.workspace (Some left) v) → Shape (onward v) (one_more steps)) (sym is) (λ h. Lent k left over under (lent_nothing h) unentered) lends

          enters : y.0.workspace.gate.done ≡ 8 → (asked : ℕ) → Wanted (context_at k) y.0.workspace (Some left.words) asked WantEnter → WantsBucket (context_at k) (Some left) WantEnter → (y.0.state ≡ Went → LendsWanted y.0.workspace (Some left)) →
              Shape (onward WantEnter) (one_more steps)
          enters gate asked wanted bucket lends =
              let mine : k ≡ p.bucket = sym l.bucket ∙ bucket in
              let a = answers k l.inside mine y.0.workspace y.0.words asked wanted in
              Entry k left gate mine (lent_enter lends) (record {
                entered = ap (λ (e : Entered). let o : Option Entered = Some e in o) (entry_is now y.0.workspace reply_now a.noted a.reply);
                replies = λ h right. a.reply;
              })

          enters_so : (want : Want) → want ≡ WantEnter → y.0.workspace.gate.done ≡ 8 → (asked : ℕ) → Wanted (context_at k) y.0.workspace (Some left.words) asked want → WantsBucket (context_at k) (Some left) want → (y.0.state ≡ Went → LendsOn y.0.workspace (Some left) want) →
              Shape (onward want) (one_more steps)
          enters_so want is gate asked =
              subst (λ (v : Want). Wanted (context_at k) y.0.workspace (Some left.words) asked v → WantsBucket (context_at k) (Some left) v → (y.0.state ≡ Went → LendsOn y.0.workspace (Some left) v) → Shape (onward v) (one_more steps)) (sym is)
              (enters gate asked)

          lent_closes : (phase : Phase) → c.workspace.gate.done ≡ phase_number phase → y.0.workspace.gate.done ≡ c.workspace.gate.done + 1 → y.0.workspace.want ≡ closing_want y.0.workspace phase → Shape (onward y.0.workspace.want) (one_more steps)
          lent_closes Guard is gate want = absurd (omega (arith, is, low))
          lent_closes Take is gate want = absurd (omega (arith, is, low))
          lent_closes First is gate want = lent_stays y.0.workspace.want want (omega (arith, is, gate)) (omega (arith, is, gate)) still_is.lends
          lent_closes Restore is gate want = lent_stays y.0.workspace.want want (omega (arith, is, gate)) (omega (arith, is, gate)) still_is.lends
          lent_closes Second is gate want = lent_stays y.0.workspace.want want (omega (arith, is, gate)) (omega (arith, is, gate)) still_is.lends
          lent_closes Compare is gate want = lent_stays y.0.workspace.want want (omega (arith, is, gate)) (omega (arith, is, gate)) still_is.lends
          lent_closes Verify is gate want = lent_stays y.0.workspace.want want (omega (arith, is, gate)) (omega (arith, is, gate)) still_is.lends
          lent_closes Enter is gate want = enters_so y.0.workspace.want want (omega (arith, is, gate)) still_is.wants.asked still_is.wants.wanted still_is.wants.bucket still_is.lends
          lent_closes Give is gate want = absurd (omega (arith, is, high))
          lent_closes Send is gate want = absurd (omega (arith, is, high))
          lent_closes Last is gate want = absurd (omega (arith, is, high))

          lent_once : ClosesOnce (context_at k) c.workspace y.0.workspace (IsAborted y.0.state) → Shape (onward y.0.workspace.want) (one_more steps)
          lent_once (Stays gate none) = lent_stays y.0.workspace.want none (omega (arith, gate, low)) (omega (arith, gate, high)) still_is.lends
          lent_once (Closes phase at is gate want) = lent_closes phase is gate want
          lent_once (Lacks is gate none lacks ended) = absurd (omega (arith, is, low))

          lent_on : Shape (course_on g text now c) (one_more steps)
          lent_on = subst (λ (d : Course). Shape d (one_more steps)) (sym (on_is c (Some w) lent_bucket_is)) (lent_once still_is.once)

        -- the call is entered, and its bucket is lent yet
        module _ (gate_is : c.workspace.gate.done ≡ 8) (mine : k ≡ p.bucket) (i : IsEntered c) where
          replies_on : y.0.state ≡ Went → IsRight y.0.workspace → reply_of y.0.workspace ≡ reply_now
          replies_on went_on right = by_right (cases_eq c.workspace.gate.done (phase_number c.workspace.place.phase))
            where
              by_right : (c.workspace.gate.done ≡ phase_number c.workspace.place.phase) ⊎ (c.workspace.gate.done ≡ phase_number c.workspace.place.phase → ⊥) → reply_of y.0.workspace ≡ reply_now
              by_right (inl was) = ap (λ (x : PassState). x.bytes.items) (still_is.still (omega (arith, gate_is)) was).0.second ∙ i.replies went was
              by_right (inr wrong) = absurd (still_is.lost wrong went_on right)

          entry_stays : (want : Want) → want ≡ Nothing → y.0.workspace.gate.done ≡ 8 → (y.0.state ≡ Went → LendsOn y.0.workspace (Some left) want) → Shape (onward want) (one_more steps)
          entry_stays want is gate lends =
              subst (λ (v : Want). (y.0.state ≡ Went → LendsOn y.0.workspace (Some left) v) → Shape (onward v) (one_more steps)) (sym is)
              (λ h. Entry k left gate mine (lent_nothing h) (record { entered = i.entered; replies = replies_on })) lends

          gives_back : y.0.workspace.gate.done ≡ 9 → (asked : ℕ) → Wanted (context_at k) y.0.workspace (Some left.words) asked WantGive → (y.0.state ≡ Went → LendsWanted y.0.workspace None) → Shape (onward WantGive) (one_more steps)
          gives_back gate asked wanted lends =
              let a = answers k l.inside mine y.0.workspace y.0.words asked wanted in
              Given k left (record {
                gate = omega (arith, gate);
                inside = l.inside;
                mine = mine;
                lent = refl;
                bucket = l.bucket;
                laid_out = l.laid_out;
                set = put_left;
                stands = a.stands;
                entered = record { entered = i.entered; replies = λ h right. a.reply };
                unsent = λ h. l.message;
                sent = λ h. absurd (omega (arith, gate, h));
                lends = lends;
                known = after_given (context_at k) (traversal g y.0.workspace (one_more steps)) y.0.words none_asked (script_counts y.1) gate y.0.state still_is.goes;
              })

          gives_so : (want : Want) → want ≡ WantGive → y.0.workspace.gate.done ≡ 9 → (asked : ℕ) → Wanted (context_at k) y.0.workspace (Some left.words) asked want → (y.0.state ≡ Went → LendsOn y.0.workspace (Some left) want) → Shape (onward want) (one_more steps)
          gives_so want is gate asked =
              subst (λ (v : Want). Wanted (context_at k) y.0.workspace (Some left.words) asked v → (y.0.state ≡ Went → LendsOn y.0.workspace (Some left) v) → Shape (onward v) (one_more steps)) (sym is) (gives_back gate asked)

          entry_closes : (phase : Phase) → c.workspace.gate.done ≡ phase_number phase → y.0.workspace.gate.done ≡ c.workspace.gate.done + 1 → y.0.workspace.want ≡ closing_want y.0.workspace phase → Shape (onward y.0.workspace.want) (one_more steps)
          entry_closes Guard is gate want = absurd (omega (arith, is, gate_is))
          entry_closes Take is gate want = absurd (omega (arith, is, gate_is))
          entry_closes First is gate want = absurd (omega (arith, is, gate_is))
          entry_closes Restore is gate want = absurd (omega (arith, is, gate_is))
          entry_closes Second is gate want = absurd (omega (arith, is, gate_is))
          entry_closes Compare is gate want = absurd (omega (arith, is, gate_is))
          entry_closes Verify is gate want = absurd (omega (arith, is, gate_is))
          entry_closes Enter is gate want = absurd (omega (arith, is, gate_is))
          entry_closes Give is gate want = gives_so y.0.workspace.want want (omega (arith, is, gate)) still_is.wants.asked still_is.wants.wanted still_is.lends
          entry_closes Send is gate want = absurd (omega (arith, is, gate_is))
          entry_closes Last is gate want = absurd (omega (arith, is, gate_is))

          entry_once : ClosesOnce (context_at k) c.workspace y.0.workspace (IsAborted y.0.state) → Shape (onward y.0.workspace.want) (one_more steps)
          entry_once (Stays gate none) = entry_stays y.0.workspace.want none (omega (arith, gate, gate_is)) still_is.lends
          entry_once (Closes phase at is gate want) = entry_closes phase is gate want
          entry_once (Lacks is gate none lacks ended) = absurd (omega (arith, is, gate_is))

          entry_on : Shape (course_on g text now c) (one_more steps)
          entry_on = subst (λ (d : Course). Shape d (one_more steps)) (sym (on_is c (Some w) lent_bucket_is)) (entry_once still_is.once)

      -- Behind Give.
      module _ (k : ℕ) (w : BucketWords) (v : IsGiven c steps k w) where
        abbrev z : StepResult × ScriptState
        z = course_step g text now c.workspace None c.core

        abbrev further : Want → Course
        further want = behind c None z want

        given_is : Isolates (context_at k) (traversal g c.workspace steps) (traversal g z.0.workspace (one_more steps)) None None none_asked (script_counts z.1) z.0.workspace.want z.0.state
        given_is = isolates g text now c.workspace None c.core (context_at k) steps (trusted k v.inside) refl refl refl (v.lends went) (facts k None v.known)

        put_none : put_back c.buckets c.lent None z.0.words ≡ slice_set buckets k w
        put_none = ap (λ (o : Option ℕ). put_back c.buckets o None z.0.words) v.lent ∙ v.set

        replies_still : IsRight c.workspace → reply_of z.0.workspace ≡ reply_now
        replies_still was = ap (λ (x : PassState). x.bytes.items) (given_is.still (omega (arith, v.gate)) was).0.second ∙ v.entered.replies went was

        replies_then : z.0.state ≡ Went → IsRight z.0.workspace → reply_of z.0.workspace ≡ reply_now
        replies_then went_on right = by_right (cases_eq c.workspace.gate.done (phase_number c.workspace.place.phase))
          where
            by_right : (c.workspace.gate.done ≡ phase_number c.workspace.place.phase) ⊎ (c.workspace.gate.done ≡ phase_number c.workspace.place.phase → ⊥) → reply_of z.0.workspace ≡ reply_now
            by_right (inl was) = replies_still was
            by_right (inr wrong) = absurd (given_is.lost wrong went_on right)

        given_nothing : (want : Want) → want ≡ Nothing → 9 ≤ z.0.workspace.gate.done → (z.0.workspace.gate.done ≤ 9 → c.served.message ≡ []) → (10 ≤ z.0.workspace.gate.done → c.served.message ≡ reply_now) → (z.0.state ≡ Went → LendsOn z.0.workspace None want) →
            Shape (further want) (one_more steps)
        given_nothing want is gate unsent sent lends =
            subst (λ (a : Want). (z.0.state ≡ Went → LendsOn z.0.workspace None a) → Shape (further a) (one_more steps)) (sym is) by_nothing lends
          where
            by_nothing : (z.0.state ≡ Went → LendsWanted z.0.workspace None) → Shape (further Nothing) (one_more steps)
            by_nothing lends = Given k w (record {
              gate = gate;
              inside = v.inside;
              mine = v.mine;
              lent = v.lent;
              bucket = v.bucket;
              laid_out = v.laid_out;
              set = put_none;
              stands = v.stands;
              entered = record { entered = v.entered.entered; replies = replies_then };
              unsent = unsent;
              sent = sent;
              lends = lends;
              known = given_is.goes;
            })

        sends : z.0.workspace.gate.done ≡ 10 → reply_of z.0.workspace ≡ reply_now → (asked : ℕ) → HasCopyOfSome (context_at k) z.0.workspace asked → (z.0.state ≡ Went → LendsWanted z.0.workspace None) → Shape (further WantSend) (one_more steps)
        sends gate reply asked struck lends = Given k w (record {
          gate = omega (arith, gate);
          inside = v.inside;
          mine = v.mine;
          lent = v.lent;
          bucket = v.bucket;
          laid_out = v.laid_out;
          set = put_none;
          stands = v.stands;
          entered = record { entered = v.entered.entered; replies = replies_then };
          unsent = λ h. absurd (omega (arith, gate, h));
          sent = λ h. struck.answered.wire ∙ reply;
          lends = lends;
          known = given_is.goes;
        })

        -- an empty reply is not sent
        sends_so : (bytes : List ℕ) → reply_of z.0.workspace ≡ bytes → bytes ≡ reply_now → (want : Want) → want ≡ send_want bytes → z.0.workspace.gate.done ≡ 10 → c.workspace.gate.done ≡ 9 → (asked : ℕ) → Wanted (context_at k) z.0.workspace None asked want →
            (z.0.state ≡ Went → LendsOn z.0.workspace None want) → Shape (further want) (one_more steps)
        sends_so [] is reply want e gate was asked wanted lends =
            given_nothing want e (omega (arith, gate)) (λ h. absurd (omega (arith, gate, h))) (λ h. v.unsent (omega (arith, was)) ∙ reply) lends
        sends_so (byte ∷ bytes) is reply want e gate was asked wanted lends =
            subst (λ (a : Want). Wanted (context_at k) z.0.workspace None asked a → (z.0.state ≡ Went → LendsOn z.0.workspace None a) → Shape (further a) (one_more steps)) (sym e)
            (λ h on. sends gate (is ∙ reply) asked h.0 on) wanted lends

        given_closes : (phase : Phase) → c.workspace.place.phase ≡ phase → c.workspace.gate.done ≡ phase_number phase → z.0.workspace.gate.done ≡ c.workspace.gate.done + 1 → z.0.workspace.want ≡ closing_want z.0.workspace phase → Shape (further z.0.workspace.want) (one_more steps)
        given_closes Guard at is gate want = absurd (omega (arith, is, v.gate))
        given_closes Take at is gate want = absurd (omega (arith, is, v.gate))
        given_closes First at is gate want = absurd (omega (arith, is, v.gate))
        given_closes Restore at is gate want = absurd (omega (arith, is, v.gate))
        given_closes Second at is gate want = absurd (omega (arith, is, v.gate))
        given_closes Compare at is gate want = absurd (omega (arith, is, v.gate))
        given_closes Verify at is gate want = absurd (omega (arith, is, v.gate))
        given_closes Enter at is gate want = absurd (omega (arith, is, v.gate))
        given_closes Give at is gate want = absurd (omega (arith, is, v.gate))
        given_closes Send at is gate want =
            let right : IsRight c.workspace = is ∙ ap phase_number (sym at) in
            sends_so (reply_of z.0.workspace) refl (replies_still right) z.0.workspace.want want (omega (arith, is, gate)) is given_is.wants.asked given_is.wants.wanted given_is.lends
        given_closes Last at is gate want =
            given_nothing z.0.workspace.want want (omega (arith, is, gate)) (λ h. absurd (omega (arith, is, gate, h))) (λ h. v.sent (omega (arith, is))) given_is.lends

        given_once : ClosesOnce (context_at k) c.workspace z.0.workspace (IsAborted z.0.state) → Shape (further z.0.workspace.want) (one_more steps)
        given_once (Stays gate none) =
            given_nothing z.0.workspace.want none (omega (arith, gate, v.gate)) (λ h. v.unsent (omega (arith, gate, h))) (λ h. v.sent (omega (arith, gate, h))) given_is.lends
        given_once (Closes phase at is gate want) = given_closes phase at is gate want
        given_once (Lacks is gate none lacks ended) = absurd (omega (arith, is, v.gate))

        given_on : Shape (course_on g text now c) (one_more steps)
        given_on = subst (λ (d : Course). Shape d (one_more steps)) (sym (on_is c None (ap (lent_in c.buckets) v.lent))) (given_once given_is.once)

      -- a course that was lacking its bucket has aborted
      never_lacking : (state : State) → state ≡ Went → IsAborted state → ⊥
      never_lacking Went e h = h
      never_lacking Finished e h = h
      never_lacking Refused e h = h
      never_lacking (Aborted abort) e h = cc

      -- one step more
      pub shape_on : Shape c steps → Shape (course_on g text now c) (one_more steps)
      shape_on (Before b) = before_on b
      shape_on (Lacking b) = absurd (never_lacking c.served.state went b.aborted)
      shape_on (Lent k w low high l e) = lent_on k w l low high e
      shape_on (Entry k w gate mine l i) = entry_on k w l gate mine i
      shape_on (Given k w v) = given_on k w v
