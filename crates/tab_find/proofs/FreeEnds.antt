-- What the statements for a free slot do.
use Rattle.std.proofs.Common.{◌≡◌, ℕ, zero, suc, ◌+◌, ◌-◌, ◌*◌, ◌%◌, ◌^◌, ◌<◌, ◌≤◌, inl, inr, List, [], ◌∷◌, refl, sym, ap, ◌∙◌, subst, arith}
use Rattle.std.specs.Prelude.{true, false, nat_eq, ◌||◌}
use Rattle.mc_model.specs.declared.geometry.Geometry.{Geometry}
use Rattle.mc_model.specs.Server.{IsValid}
use Rattle.sei_words.specs.Layout.{width, slot_at}
use Rattle.sei_words.proofs.PublicLayout.{slot_first, slot_next, slot_within, few_words}
use Rattle.sei_stmt.specs.Order.{timed}
use Rattle.sei_stmt.specs.Runs.{Given, RunState, tick, take_slot}
use Rattle.sei_stmt.specs.Programs.{Ends, Block}
use Rattle.sei_stmt.specs.declared.stmt.Stmt.TheVariants.{Add, Sub}
use Rattle.sei_stmt.specs.Touch.{Touch}
use Rattle.sei_stmt.proofs.Public.{then_so, repeat}
use Rattle.tab_find.specs.Answers.{HasConstants}
use Rattle.tab_find.specs.FindPrograms.{address_program, free_program}
use Rattle.tab_find.specs.Fit.{IsAnswer, FitIsAnswer}
use Rattle.tab_find.specs.Found.{SlotGiven, Offered}
use Rattle.tab_find.specs.Registers.{r_zero, r_moment, r_one, r_width, r_place, r_slot}
use Rattle.tab_find.proofs.MachineLaws.{sum_is}

-- the place and the slot
abbrev placing : Touch
placing = record { regs = λ r. nat_eq r r_place || nat_eq r r_slot; words = false; out = false; stage = false }

-- the place, the slot, and the stage
abbrev pub freer : Touch
freer = record { regs = λ r. nat_eq r r_place || nat_eq r r_slot; words = false; out = false; stage = true }

-- a number that is counted down
one_less : (x y n : ℕ) → x ≡ suc n → y ≡ 1 → n < 2 ^ 64 → (x + 2 ^ 64 - y) % 2 ^ 64 ≡ n
one_less x y n is one few = omega arith

module _ (g : Geometry) (e : Given) (n : ℕ) (v : IsValid g) (le : n ≤ g.slots) where
  -- so many slots are left to pass
  record Placing (bound left : ℕ) (t : RunState) : Type 0 where
    steps : t.steps + 3 * left ≤ bound
    left_is : t.regs r_slot ≡ left
    passed : ℕ
    all : passed + left ≡ n
    place : t.regs r_place ≡ slot_at g passed

  record Placed (bound : ℕ) (t : RunState) : Type 0 where
    steps : t.steps ≤ bound
    begins : t.regs r_place ≡ slot_at g n

  turn_ends : (t : RunState) (bound left passed : ℕ) → t.regs r_one ≡ 1 → t.regs r_width ≡ width g → t.regs r_slot ≡ suc left → passed + suc left ≡ n → t.regs r_place ≡ slot_at g passed → t.steps + 2 + 3 * left ≤ bound → Ends e (Block (Add r_place r_place r_width ∷ Sub r_slot r_slot r_one ∷ [])) t (Placing bound left)
  turn_ends t bound left passed one wide is all place steps =
      let lt : passed < g.slots = omega (arith, all, le) in
      let on = slot_next g passed in (
        slot_at g (passed + 1),
        sum_is _ _ _ (omega (arith, place, wide, on)) (omega (arith, on, slot_within g passed lt, few_words g v)),
        (
          left,
          one_less (t.regs r_slot) (t.regs r_one) left is one (omega (arith, all, le, v.few_slots)),
          record { steps = omega (arith, steps); left_is = refl; passed = passed + 1; all = omega (arith, all); place = refl },
        ),
      )

  address_ends : (s : RunState) (bound : ℕ) → s.regs r_zero ≡ 0 → s.regs r_one ≡ 1 → s.regs r_width ≡ width g → s.regs r_slot ≡ n → s.steps + 3 * n + 5 ≤ bound → Ends e address_program s (Placed bound)
  address_ends s bound zero_is one wide slot steps = (
    λ none. record { steps = omega (arith, steps); begins = sym (slot_first g) ∙ ap (slot_at g) (omega (arith, none, slot, zero_is)) },
    λ some.
        let more : n ≡ suc (n - 1) = omega (arith, some, slot, zero_is) in
        repeat e placing r_zero r_slot (Block (Add r_place r_place r_width ∷ Sub r_slot r_slot r_one ∷ [])) _ (Placing (s.steps + 3 * n + 2)) (λ t. Placed bound (tick t)) refl
        (λ k t f p h. next k t (f.regs r_one refl ∙ one) (f.regs r_width refl ∙ wide) p (omega (arith, h, f.regs r_zero refl, zero_is)))
        (λ k t f p ge. record { steps = omega (arith, p.steps, steps); begins = p.place ∙ ap (slot_at g) (omega (arith, p.all, p.left_is, ge, f.regs r_zero refl, zero_is)) })
        (n - 1)
        (turn_ends _ (s.steps + 3 * n + 2) (n - 1) 0 one wide (slot ∙ more) (omega (arith, more)) (sym (slot_first g)) (omega (arith, more))),
  )
    where
      next : (k : ℕ) (t : RunState) → t.regs r_one ≡ 1 → t.regs r_width ≡ width g → Placing (s.steps + 3 * n + 2) k t → 0 < t.regs r_slot → (j : ℕ) × (suc j ≡ k) × Ends e (Block (Add r_place r_place r_width ∷ Sub r_slot r_slot r_one ∷ [])) (tick t) (Placing (s.steps + 3 * n + 2) j)
      next zero t one wide p h = absurd (omega (arith, p.left_is, h))
      next (suc j) t one wide p h = (j, refl, turn_ends (tick t) (s.steps + 3 * n + 2) j p.passed one wide p.left_is p.all p.place (omega (arith, p.steps)))

answer_within : (g : Geometry) (ws : List ℕ) (m slot : ℕ) → IsAnswer g ws m slot → slot ≤ g.slots
answer_within g ws m slot (inl one) = omega (arith, one.0)
answer_within g ws m slot (inr none) = omega (arith, none.0)

-- what an answer says of the place at which its slot begins
given : (g : Geometry) (ws : List ℕ) (m slot place : ℕ) → place ≡ slot_at g slot → IsAnswer g ws m slot → SlotGiven g ws m place
given g ws m slot place begins (inl one) = inl (record { slot = slot; within = one.0; begins = begins; free = one.1 })
given g ws m slot place begins (inr none) = inr (record { full = none.1; ends = begins ∙ ap (slot_at g) none.0 })

pub free_ends : (g : Geometry) (e : Given) (ws : List ℕ) (m : ℕ) → IsValid g → FitIsAnswer g e → (s : RunState) (bound : ℕ) → s.stage ≡ timed → s.words ≡ ws → HasConstants g m s → s.steps + 3 * g.slots + 10 ≤ bound → bound ≤ e.budget → Ends e free_program s (Offered g ws m bound)
free_ends g e ws m v fit s bound stage same c steps few = (
  stage,
  omega (arith, steps, few),
  λ right.
      let slot = e.slot s.words (s.regs r_moment) in
      let is : IsAnswer g ws m slot = subst (λ l. IsAnswer g l m slot) same (subst (λ n. IsAnswer g s.words n slot) c.moment (fit s.words (s.regs r_moment) slot right)) in
      let within = answer_within g ws m slot is in
      then_so e placing address_program (take_slot s r_slot slot) (Placed g e slot v within bound) (Offered g ws m bound) refl
      (λ t f p. record { steps = p.steps; stage = f.stage refl; answer = given g ws m slot (t.regs r_place) p.begins is })
      (address_ends g e slot v within (take_slot s r_slot slot) bound c.none c.one c.wide refl (omega (arith, steps, within))),
)
