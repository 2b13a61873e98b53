-- A run with one strike, by its parts, and what is counted in it.
use Rattle.std.proofs.Common.{◌≡◌, ℕ, ◌+◌, ◌-◌, ◌^◌, ◌<◌, ◌≤◌, inl, inr, ap, subst, sym, ◌∙◌, arith, refl}
use Rattle.sei_fault.specs.Counts.{Counts, Answered, counted}
use Rattle.sei_fault.specs.Counts.Answered.{Honest, Struck}
use Rattle.sei_fault.specs.Question.{Question, Answer, honestly_to}
use Rattle.sei_fault.specs.StruckRuns.{StrikesHere, StruckRun}
use Rattle.sei_fault.specs.Tree.{Tree, Runs, any_core, honest, bound, Always}
use Rattle.sei_fault.specs.Tree.Tree.{Done, Ask}
use Rattle.sei_fault.specs.Weights.{weight, weighed}
use Rattle.sei_fault.proofs.Bound.{honest_bound, weighed_bound, weight_least}
use Rattle.sei_fault.proofs.Runs.{always_honest}

-- what always holds, holds of its end
pub always_struck : {R : Type 0} (P : R → Type 0) (t : Tree R) (x : R) (n : ℕ) → Always P t → StruckRun t x n → P x
always_struck P (Done r) x n p s = absurd s
always_struck P (Ask q k) x n p (inl h) = subst P (sym h.end) (always_honest P (k h.answer) (p h.answer))
always_struck P (Ask q k) x n p (inr (m, e, s)) = always_struck P (k (honestly_to q)) x m (p (honestly_to q)) s

-- a run that ends without a strike is the honest one, and as many questions were counted as its own weigh, or more; or one
-- strike fell, or more
pub data Counted {R : Type 0} (t : Tree R) (x : R) (c d : Counts) : Type 0 where
  Clean : x ≡ honest t → d.struck ≡ c.struck → (d.asked < 2 ^ 128 - 1 → c.asked + weighed t ≤ d.asked) → Counted t x c d
  Once : (n : ℕ) → StruckRun t x n → d.struck ≡ c.struck + 1 → (d.asked < 2 ^ 128 - 1 → c.asked + n ≤ d.asked) → Counted t x c d
  More : c.struck + 2 ≤ d.struck → Counted t x c d

asked_on : (q : Question) (c m d n : ℕ) → m ≡ counted c → (d < 2 ^ 128 - 1 → m + n ≤ d) → d < 2 ^ 128 - 1 → c + (weight q + n) ≤ d
asked_on q c m d n e f h = omega (arith, f h, weight_least q)

module _ {R : Type 0} (q : _) (k : Answer q → Tree R) (x : R) (c m d : Counts) where
  honestly : m.struck ≡ c.struck → m.asked ≡ counted c.asked → Counted (k (honestly_to q)) x m d → Counted (Ask q k) x c d
  honestly e a (Clean p s r) = Clean p (s ∙ e) (asked_on q _ _ _ _ a r)
  honestly e a (Once n s p r) = Once (weight q + n) (inr (n, refl, s)) (omega arith) (asked_on q _ _ _ _ a r)
  honestly e a (More p) = More (omega arith)

  struck : (a : Answer q) → m.struck ≡ c.struck + 1 → m.asked ≡ counted c.asked → Counted (k a) x m d → Counted (Ask q k) x c d
  struck a e f (Clean p s r) = Once (weight q + weighed (k a)) (inl (record { answer = a; end = p; asked = refl })) (omega arith) (asked_on q _ _ _ _ f r)
  struck a e f (Once n s p r) = More (omega arith)
  struck a e f (More p) = More (omega arith)

  answered : (a : Answer q) → Answered (a ≡ honestly_to q) c m → Counted (k a) x m d → Counted (Ask q k) x c d
  answered a (Honest e f) s =
      honestly (ap (λ (y : Counts). y.struck) f) (ap (λ (y : Counts). y.asked) f) (subst (λ (b : Answer q). Counted (k b) x m d) e s)
  answered a (Struck f e l) s = struck a e f s

pub count : {R : Type 0} (t : Tree R) (c d : Counts) (x : R) → Runs any_core t c d x → Counted t x c d
count (Done r) c d x (e, f) = Clean e (ap (λ (y : Counts). y.struck) f) (λ h. omega (arith, ap (λ (y : Counts). y.asked) f))
count (Ask q k) c d x (a, m, g, r) = answered q k x c m d a g (count (k a) m d x r)

-- one strike in a piece of work that has another behind it falls in the one or in the other
pub data StruckBound {A B : Type 0} (t : Tree A) (f : A → Tree B) (y : B) (n : ℕ) : Type 0 where
  Before : (x : A) (m : ℕ) → StruckRun t x m → y ≡ honest (f x) → n ≡ m + weighed (f x) → StruckBound t f y n
  Behind : (m : ℕ) → StruckRun (f (honest t)) y m → n ≡ weighed t + m → StruckBound t f y n

module _ {A B : Type 0} (q : _) (k : Answer q → Tree A) (f : A → Tree B) (y : B) where
  later : (n m : ℕ) → n ≡ weight q + m → StruckBound (k (honestly_to q)) f y m → StruckBound (Ask q k) f y n
  later n m e (Before x p s h r) = Before x (weight q + p) (inr (p, refl, s)) h (omega (arith, e, r))
  later n m e (Behind p s r) = Behind p s (omega (arith, e, r))

  here : (n : ℕ) → StrikesHere q (λ a. bound (k a) f) y n → StruckBound (Ask q k) f y n
  here n h = Before (honest (k h.answer)) (weight q + weighed (k h.answer)) (inl (record { answer = h.answer; end = refl; asked = refl }))
      (h.end ∙ honest_bound (k h.answer) f) (omega (arith, h.asked, weighed_bound (k h.answer) f))

pub struck_bound : {A B : Type 0} (t : Tree A) (f : A → Tree B) (y : B) (n : ℕ) → StruckRun (bound t f) y n → StruckBound t f y n
struck_bound (Done r) f y n s = Behind n s (omega arith)
struck_bound (Ask q k) f y n (inl h) = here q k f y n h
struck_bound (Ask q k) f y n (inr (m, e, s)) = later q k f y n m e (struck_bound (k (honestly_to q)) f y m s)
