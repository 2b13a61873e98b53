-- How many questions were asked in a run, how many strikes fell, and where it ends.
use Rattle.std.proofs.Common.{◌≡◌, ℕ, ◌+◌, ◌-◌, ◌^◌, ◌<◌, ◌≤◌, ◌⊎◌, inl, inr, Some, None, ap, subst, ◌∙◌, arith, refl}
use Rattle.std.specs.declared.option.Option.{Option}
use Rattle.sei_fault.specs.Counts.{Counts, Answered, Lowered, counted}
use Rattle.sei_fault.specs.Counts.Answered.{Honest, Struck}
use Rattle.sei_fault.specs.Question.{Question, Answer, honestly_to}
use Rattle.sei_fault.specs.Strikes.{OneStrike, Split}
use Rattle.sei_fault.specs.Strikes.Split.{Clean, Once, More}
use Rattle.sei_fault.specs.Tree.{Tree, Runs, any_core, honest, questions}
use Rattle.sei_fault.specs.Tree.Tree.{Done, Ask}
use Rattle.sei_fault.proofs.Runs.{counted_runs}

asked_on : (c m d n : ℕ) → m ≡ counted c → (d < 2 ^ 128 - 1 → d ≡ m + n) → d < 2 ^ 128 - 1 → d ≡ c + (1 + n)
asked_on c m d n e f h = omega (arith, f h)

split_honest : {R A : Type 0} (k : A → Tree R) (h : A) (x : R) (c m d : Counts) → m.struck ≡ c.struck → m.asked ≡ counted c.asked →
    Split x (honest (k h)) (OneStrike (k h) x) (questions (k h)) m d →
    Split x (honest (k h)) (((a : A) × (x ≡ honest (k a))) ⊎ OneStrike (k h) x) (1 + questions (k h)) c d
split_honest k h x c m d e a (Clean p q r) = Clean p (q ∙ e) (asked_on _ _ _ _ a r)
split_honest k h x c m d e a (Once p q) = Once (inr p) (omega arith)
split_honest k h x c m d e a (More p) = More (omega arith)

split_struck : {R A : Type 0} (k : A → Tree R) (h a : A) (x : R) (c m d : Counts) → m.struck ≡ c.struck + 1 →
    Split x (honest (k a)) (OneStrike (k a) x) (questions (k a)) m d →
    Split x (honest (k h)) (((b : A) × (x ≡ honest (k b))) ⊎ OneStrike (k h) x) (1 + questions (k h)) c d
split_struck k h a x c m d e (Clean p q r) = Once (inl (a, p)) (q ∙ e)
split_struck k h a x c m d e (Once p q) = More (omega arith)
split_struck k h a x c m d e (More p) = More (omega arith)

split_ask : {R A : Type 0} (k : A → Tree R) (h a : A) (x : R) (c m d : Counts) → Answered (a ≡ h) c m →
    Split x (honest (k a)) (OneStrike (k a) x) (questions (k a)) m d →
    Split x (honest (k h)) (((b : A) × (x ≡ honest (k b))) ⊎ OneStrike (k h) x) (1 + questions (k h)) c d
split_ask {R} {A} k h a x c m d (Honest e f) s =
    split_honest k h x c m d (ap (λ (y : Counts). y.struck) f) (ap (λ (y : Counts). y.asked) f)
    (subst (λ (b : A). Split x (honest (k b)) (OneStrike (k b) x) (questions (k b)) m d) e s)
split_ask k h a x c m d (Struck f e l) s = split_struck k h a x c m d e s

-- a run has no strike and is the honest run, or has one strike, or has more
pub split : {R : Type 0} (t : Tree R) (c d : Counts) (x : R) → Runs any_core t c d x → Split x (honest t) (OneStrike t x) (questions t) c d
split (Done r) c d x (e, f) = Clean e (ap (λ (y : Counts). y.struck) f) (λ h. omega (arith, ap (λ (y : Counts). y.asked) f))
split (Ask q k) c d x (a, m, g, r) = split_ask k (honestly_to q) a x c m d g (split (k a) m d x r)

grows_ask : (c m d : Counts) (P : Type 0) → Answered P c m → (d.asked < 2 ^ 128 - 1 → m.asked ≤ d.asked) → d.asked < 2 ^ 128 - 1 → c.asked < d.asked
grows_ask c m d P (Honest e f) g h = omega (arith, ap (λ (y : Counts). y.asked) f, g h)
grows_ask c m d P (Struck a e l) g h = omega (arith, a, g h)

-- the count of questions did not fall, where it ends below its last value, whatever the answers are
pub grows : {R : Type 0} (t : Tree R) (c d : Counts) (x : R) → Runs any_core t c d x → d.asked < 2 ^ 128 - 1 → c.asked ≤ d.asked
grows (Done r) c d x (e, f) h = omega (arith, ap (λ (y : Counts). y.asked) f)
grows (Ask q k) c d x (a, m, g, r) h = omega (arith, grows_ask c m d _ g (grows (k a) m d x r) h)

never_falls_ask : {P : Type 0} (c d : Counts) → Answered P c d → c.struck ≤ d.struck
never_falls_ask c d (Honest e f) = omega (arith, ap (λ (y : Counts). y.struck) f)
never_falls_ask c d (Struck a e l) = omega arith

-- nor does the count of strikes
pub never_falls : {R : Type 0} (t : Tree R) (c d : Counts) (x : R) → Runs any_core t c d x → c.struck ≤ d.struck
never_falls (Done r) c d x (e, f) = omega (arith, ap (λ (y : Counts). y.struck) f)
never_falls (Ask q k) c d x (a, m, g, r) = omega (arith, never_falls_ask c m g, never_falls (k a) m d x r)

-- a told room that was lowered is told, and less by one
lowered_room : (r : ℕ) (after : Option ℕ) → Lowered (Some r) after → (s : ℕ) × (after ≡ Some s) × (r ≡ s + 1)
lowered_room r None l = absurd l
lowered_room r (Some s) l = (s, refl, l)

room_left_ask : {P : Type 0} (c m d : Counts) (r : ℕ) → Answered P c m → c.room ≡ Some r →
    ((s : ℕ) → m.room ≡ Some s → (n : ℕ) × (d.room ≡ Some n) × (d.struck + n ≡ m.struck + s)) → (n : ℕ) × (d.room ≡ Some n) × (d.struck + n ≡ c.struck + r)
room_left_ask c m d r (Honest e f) told rest =
    let s = rest r (ap (λ (y : Counts). y.room) f ∙ told) in
    (s.0, s.1, s.2 ∙ ap (λ (y : Counts). y.struck + r) f)
room_left_ask c m d r (Struck a e l) told rest =
    let s = lowered_room r m.room (subst (λ (o : Option ℕ). Lowered o m.room) told l) in
    let n = rest s.0 s.1 in
    (n.0, n.1, omega (arith, n.2, s.2, e))

-- a told room stays told, and is less by one with each strike
pub room_left : {R : Type 0} (t : Tree R) (c d : Counts) (x : R) (r : ℕ) → Runs any_core t c d x → c.room ≡ Some r →
    (s : ℕ) × (d.room ≡ Some s) × (d.struck + s ≡ c.struck + r)
room_left (Done r) c d x n (e, f) told = (n, ap (λ (y : Counts). y.room) f ∙ told, ap (λ (y : Counts). y.struck + n) f)
room_left (Ask q k) c d x n (a, m, g, r) told = room_left_ask c m d n g told (λ s h. room_left (k a) m d x s r h)

-- the same of a core that keeps the law of `Core`
pub core_room_left : {S R : Type 0} (gives : S → (q : Question) → Answer q → S → Type 0) (counts : S → Counts) →
    ((s : S) (q : Question) (a : Answer q) (t : S) → gives s q a t → Answered (a ≡ honestly_to q) (counts s) (counts t)) →
    (t : Tree R) (c d : S) (x : R) (r : ℕ) → Runs gives t c d x → (counts c).room ≡ Some r →
    (s : ℕ) × ((counts d).room ≡ Some s) × ((counts d).struck + s ≡ (counts c).struck + r)
core_room_left gives counts law t c d x r run told = room_left t (counts c) (counts d) x r (counted_runs gives counts law t c d x run) told
