-- What each step keeps, and what a run of many. A step leads from x to y; a run leads from x over `last` to z, by its last step.
use Rattle.std.specs.Prelude.{◌≡◌, ℕ, ◌+◌, ◌≤◌, List, [], ◌∷◌, ◌++◌, Option, Some, None, replicate}
use Rattle.sei_fault.specs.Counts.{Counts}
use Rattle.sei_fault.specs.Question.{Question, Answer}
use Rattle.sei_fault.specs.declared.place.Phase.TheVariants.{Guard}
use Rattle.sei_stmt.specs.Handling.{Behavior}
use Rattle.sei_words.specs.Words.{BucketWords}
use Rattle.sei_traverse.specs.declared.turned.State.{State}
use Rattle.sei_traverse.specs.declared.turned.State.TheVariants.{Went, Refused}
use Rattle.sei_traverse.specs.declared.turned.Turned.{Turned}
use Rattle.sei_traverse.specs.declared.turned.Want.{Want}
use Rattle.sei_traverse.specs.declared.turned.Want.TheVariants.{Nothing}
use Rattle.sei_traverse.specs.Bounds.{StepsWithin, StepsAfter}
use Rattle.sei_traverse.specs.CallContext.{CallContext, IsFitContext}
use Rattle.sei_traverse.specs.FaultInvariant.{FaultInvariant, LendsWanted, Isolates}
use Rattle.sei_traverse.specs.Given.{given_of}
use Rattle.sei_traverse.specs.Noting.{NotesTime}
use Rattle.sei_traverse.specs.OnWay.{lent_words, Lends, TellsAs, OnWay, StaysOnWay, IsUnfit}
use Rattle.sei_traverse.specs.Running.{On, StepsTo, RunsOn}
use Rattle.sei_traverse.specs.State.{TraversalState}
use Rattle.sei_traverse.specs.Trusted.{IsTrusted}
use Rattle.sei_traverse.specs.Wanting.{StepsFrom, Steps, LendsNext}

-- with one strike at most, the number of steps stays bounded
abbrev pub KeepsBound : {S : Type 0} → (S → Counts) → On S → On S → Turned → Type 0
KeepsBound counts x y t = (begin : Counts) → StepsWithin x.traversal begin (counts x.core) → StepsAfter y.traversal begin (counts y.core) t.state

-- if the core tells how many strikes can still fall, it still does, and each strike is one less
abbrev pub KeepsRoom : {S : Type 0} → (S → Counts) → On S → On S → Type 0
KeepsRoom counts x y = (r : ℕ) → (counts x.core).room ≡ Some r → (s : ℕ) × ((counts y.core).room ≡ Some s) × ((counts y.core).struck + s ≡ (counts x.core).struck + r)

-- nothing new is noted of the time, or the clock's answer
abbrev pub KeepsTime : {S : Type 0} → Option ℕ → On S → On S → Type 0
KeepsTime told x y = NotesTime told x.traversal.workspace.notes.now y.traversal.workspace.notes.now

-- if x is on its way, the step from `last` stays on it
abbrev pub LastOnWay : {S : Type 0} → (S → Counts) → Option ℕ → Behavior → List ℕ → On S → On S → On S → Turned → Type 0
LastOnWay counts told behavior input x last z t =
    (e : CallContext) (begin : Counts) → IsFitContext e → TellsAs e.clock told → e.behavior ≡ behavior → e.input ≡ input →
    Lends e x.traversal.workspace.place.phase x.lent → OnWay e x.traversal (lent_words x.lent) begin (counts x.core) →
    StaysOnWay e last.traversal z.traversal (lent_words z.lent) begin (counts z.core) t.want t.state

-- if x is on its way, so is y
abbrev pub KeepsOnWay : {S : Type 0} → (S → Counts) → Option ℕ → Behavior → List ℕ → On S → On S → Turned → Type 0
KeepsOnWay counts told behavior input x y t = LastOnWay counts told behavior input x x y t

-- if one strike at most has struck x, and at most one has fallen in the end, this holds for the call context and the counts
abbrev pub IfIsolated : {S : Type 0} → (S → Counts) → Option ℕ → Behavior → List ℕ → On S → On S → (CallContext → Counts → Type 0) → Type 0
IfIsolated counts told behavior input x z Holds =
    (e : CallContext) (begin : Counts) → IsTrusted e → TellsAs e.clock told → e.behavior ≡ behavior → e.input ≡ input →
    LendsWanted x.traversal.workspace x.lent → FaultInvariant e x.traversal (lent_words x.lent) begin (counts x.core) → (counts z.core).struck ≤ begin.struck + 1 → Holds e begin

-- and the step from `last` is isolated
abbrev pub LastIsolated : {S : Type 0} → (S → Counts) → Option ℕ → Behavior → List ℕ → On S → On S → On S → Turned → Type 0
LastIsolated counts told behavior input x last z t = IfIsolated counts told behavior input x z (λ e begin.
    Isolates e last.traversal z.traversal last.lent z.lent begin (counts z.core) t.want t.state)

-- if one strike at most has struck x, the step to y is isolated
abbrev pub KeepsIsolated : {S : Type 0} → (S → Counts) → Option ℕ → Behavior → List ℕ → On S → On S → Turned → Type 0
KeepsIsolated counts told behavior input x y t = LastIsolated counts told behavior input x x y t

-- if it is the traversal's steps that come to x, they go on by the n that want nothing, and the last one
abbrev pub KeepsSteps : {S : Type 0} → (S → Counts) → Option ℕ → Behavior → List ℕ → ℕ → On S → On S → Turned → Type 0
KeepsSteps counts told behavior input n x z t = IfIsolated counts told behavior input x z (λ e begin.
    (wants : List Want) (left : Option BucketWords) → Steps e begin wants x.traversal left Went → Steps e begin ((wants ++ replicate n Nothing) ++ t.want ∷ []) z.traversal z.lent t.state)

-- the same of steps from any traversal on that are each lent what is left, if x is lent what those up to it left
abbrev pub KeepsLending : {S : Type 0} → (S → Counts) → Option ℕ → Behavior → List ℕ → ℕ → On S → On S → Turned → Type 0
KeepsLending counts told behavior input n x z t = IfIsolated counts told behavior input x z (λ e begin.
    (from : TraversalState) (lent : Option BucketWords) (wants : List Want) (left : Option BucketWords) →
    StepsFrom LendsNext e begin from lent wants x.traversal left Went → LendsNext x.traversal.workspace.want left x.lent →
    StepsFrom LendsNext e begin from lent ((wants ++ replicate n Nothing) ++ t.want ∷ []) z.traversal z.lent t.state)

-- without a strike on the way, from Guard an input that does not pass its tests is refused
abbrev pub RefusesUnfit : {S : Type 0} → (S → Counts) → Behavior → List ℕ → On S → On S → Turned → Type 0
RefusesUnfit counts behavior input x y t =
    IsUnfit (given_of behavior input x.traversal.space None) x.traversal.workspace → (counts y.core).struck ≡ (counts x.core).struck → t.state ≡ Refused

-- a step that is refused is one at Guard, whatever the core answers and however often it strikes
abbrev pub RefusedAtGuard : {S : Type 0} → On S → Turned → Type 0
RefusedAtGuard x t = t.state ≡ Refused → x.traversal.workspace.place.phase ≡ Guard

-- how a step of the definition turned out that came to y
abbrev pub turned_at : {S : Type 0} → On S → State → Turned
turned_at y state = record { want = y.traversal.workspace.want; state = state }

-- this holds of each step of the definition, whatever is told, the handler does and the input is
abbrev pub OfEachStep : {S : Type 0} → (S → (q : Question) → Answer q → S → Type 0) → (Option ℕ → Behavior → List ℕ → On S → On S → Turned → Type 0) → Type 0
OfEachStep {S} gives Holds =
    (told : Option ℕ) (behavior : Behavior) (input : List ℕ) (x y : On S) (state : State) → StepsTo gives told behavior input x y state → Holds told behavior input x y (turned_at y state)

-- this holds of each run, of its number of steps before the last, and of x, `last` and z
abbrev pub OfEachRun : {S : Type 0} → (S → (q : Question) → Answer q → S → Type 0) → (S → Counts) →
    (Option ℕ → Behavior → List ℕ → ℕ → On S → On S → On S → Turned → Type 0) → Type 0
OfEachRun {S} gives counts Holds =
    (told : Option ℕ) (behavior : Behavior) (input : List ℕ) (n : ℕ) (x z : On S) (t : Turned) (r : RunsOn gives counts told behavior input n x z t) → Holds told behavior input n x r.last z t

-- this holds of where each run begins and ends
abbrev pub EachRunKeeps : {S : Type 0} → (S → (q : Question) → Answer q → S → Type 0) → (S → Counts) → (On S → On S → Type 0) → Type 0
EachRunKeeps gives counts Holds = OfEachRun gives counts (λ told behavior input n x last z t. Holds x z)
