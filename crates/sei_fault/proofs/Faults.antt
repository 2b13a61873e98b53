-- A planned fault strikes only where its answer is another than the honest one.
use Rattle.std.proofs.Common.{◌≡◌, ℕ, Bool, true, false, Some, None, ap, sym, ◌∙◌, refl, arith, eq-eqb, ◌<◌}
use Rattle.std.specs.Prelude.{not, ◌&&◌, ◌==◌, if◌then◌else◌, Option, is_some, unwrap_or}
use lib.Bits.{bit_xor, xor_self, xor_assoc, xor_comm, xor_zero_r}
use Rattle.sei_fault.specs.declared.place.Place.{Place}
use Rattle.sei_fault.specs.declared.plan.Kind.{Kind}
use Rattle.sei_fault.specs.declared.plan.Kind.TheVariants.{Read, Write, Skip, Repeat, Jump, Flip}
use Rattle.sei_fault.specs.declared.script.Stage.{Stage}
use Rattle.sei_fault.specs.declared.script.Stage.TheVariants.{Armed}
use Rattle.sei_fault.specs.declared.plan.Planned.{Planned}
use Rattle.sei_fault.specs.declared.plan.StepCounts.{StepCounts}
use Rattle.sei_fault.specs.Phases.{phase_number}
use Rattle.sei_fault.specs.Plans.{same_place, fault}
use Rattle.sei_fault.specs.Question.{Question, Answer, honestly_to}
use Rattle.sei_fault.specs.Question.Question.{Value, Written, Test, Often, Goes}
use Rattle.sei_fault.specs.Script.{ScriptState, stage_at, altered_in, altered, stage_after, script_answer, script_next, script_counts, fallen}
use Rattle.sei_fault.specs.ScriptLaw.{same_fallen}

-- where there is something, the test was answered so
chosen : {A : Type 0} (b : Bool) (x a : A) → (if b then Some x else None) ≡ Some a → (b ≡ true) × (x ≡ a)
chosen true x a e = (refl, cc)
chosen false x a e = let z : ⊥ = cc in absurd z

unless : {A : Type 0} (b : Bool) (x a : A) → (if b then None else Some x) ≡ Some a → (b ≡ false) × (x ≡ a)
unless true x a e = let z : ⊥ = cc in absurd z
unless false x a e = (refl, cc)

xor_twice : (a b : ℕ) → bit_xor a (bit_xor a b) ≡ b
xor_twice a b = sym (xor_assoc a a b) ∙ ap (λ n. bit_xor n b) (xor_self a) ∙ xor_comm 0 b ∙ xor_zero_r b

-- only a mask of 0 alters nothing
no_mask : (h mask : ℕ) → bit_xor h mask ≡ h → mask ≡ 0
no_mask h mask e = sym (xor_twice h mask) ∙ ap (bit_xor h) e ∙ xor_self h

and_false : (b : Bool) → (b && false) ≡ true → ⊥
and_false true e = cc
and_false false e = cc

read_alters : (reads nth mask h a : ℕ) → (if reads == nth && not (mask == 0) then Some (bit_xor h mask) else None) ≡ Some a → a ≡ h → ⊥
read_alters reads nth mask h a e f =
    let c = chosen _ (bit_xor h mask) a e in
    and_false (reads == nth) (ap (λ m. reads == nth && not (m == 0)) (sym (no_mask h mask (c.1 ∙ f))) ∙ c.0)

write_alters : (mask h a : ℕ) → (if mask == 0 then None else Some (bit_xor h mask)) ≡ Some a → a ≡ h → ⊥
write_alters mask h a e f =
    let c = unless _ (bit_xor h mask) a e in
    let z : true ≡ false = ap (λ m. m == 0) (sym (no_mask h mask (c.1 ∙ f))) ∙ c.0 in cc

-- a place is the same as itself
same_itself : (p : Place) → same_place p p ≡ true
same_itself p =
    ap (λ b. b && p.index == p.index) (eq-eqb (phase_number p.phase) _ refl) ∙ eq-eqb p.index _ refl

jump_alters : (to h a : Place) → (if same_place to h then None else Some to) ≡ Some a → a ≡ h → ⊥
jump_alters to h a e f =
    let c = unless _ to a e in
    let z : true ≡ false = sym (same_itself to) ∙ ap (λ p. same_place to p) (c.1 ∙ f) ∙ c.0 in cc

flip_alters : (h : Bool) → not h ≡ h → ⊥
flip_alters true e = cc
flip_alters false e = cc

-- of each kind of fault, and each question
pub fault_alters : (kind : Kind) (so_far : StepCounts) (q : Question) (a : Answer q) → fault kind so_far q ≡ Some a → a ≡ honestly_to q → ⊥
fault_alters (Read nth mask) so_far (Value h) a e f = read_alters so_far.value nth mask h a e f
fault_alters (Write mask) so_far (Written h) a e f = write_alters mask h a e f
fault_alters Flip so_far (Test h) a e f = let g : not h ≡ a = cc in flip_alters h (g ∙ f)
fault_alters Skip so_far (Often site) a e f = let z : ⊥ = cc in absurd z
fault_alters Repeat so_far (Often site) a e f = let z : ⊥ = cc in absurd z
fault_alters (Jump to) so_far (Goes h) a e f = jump_alters to h a e f
fault_alters kind so_far q a e f = let z : ⊥ = cc in absurd z

-- a plan that is not armed alters nothing
armed_alters : (plan : Option Planned) (stage : Stage) (q : Question) (a : Answer q) → altered_in plan stage q ≡ Some a → a ≡ honestly_to q → ⊥
armed_alters (Some p) (Armed so_far) q a e f = fault_alters p.kind so_far q a e f
armed_alters plan stage q a e f = let z : ⊥ = cc in absurd z

-- and so of the core: what it counts as a strike is no honest answer
pub strike_alters : (s : ScriptState) (q : Question) (a : Answer q) → altered s q ≡ Some a → a ≡ honestly_to q → ⊥
strike_alters s q a e f = armed_alters s.plan (stage_at s.plan s.stage q) q a e f

-- where the count of strikes rises, the answer was altered
counted_by : (s : ScriptState) (q : Question) (o : Option (Answer q)) → altered s q ≡ o → fallen s.stage < fallen (stage_after (stage_at s.plan s.stage q) (is_some o) q) →
    unwrap_or o (honestly_to q) ≡ honestly_to q → ⊥
counted_by s q None e h f = omega (arith, h, same_fallen s.plan s.stage q)
counted_by s q (Some a) e h f = strike_alters s q a e f

pub counted_alters : (s : ScriptState) (q : Question) → (script_counts s).struck < (script_counts (script_next s q)).struck → script_answer s q ≡ honestly_to q → ⊥
counted_alters s q h f = counted_by s q (altered s q) refl h f
