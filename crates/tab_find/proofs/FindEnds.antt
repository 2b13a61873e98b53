-- What the find does.
use Rattle.std.proofs.Common.{◌≡◌, ℕ, zero, suc, ◌+◌, ◌-◌, ◌*◌, ◌<◌, ◌≤◌, ◌⊎◌, inl, inr, List, [], ◌∷◌, length, refl, sym, ap, ◌∙◌, arith, below_more}
use Rattle.sei_code.specs.Codes.{fnv64}
use Rattle.mc_model.specs.declared.geometry.Geometry.{Geometry}
use Rattle.mc_model.specs.Packed.{words_for}
use Rattle.std.proofs.lemmas.Bool.{cases_lt}
use Rattle.sei_words.specs.Layout.{slot_at, word_count, first_slot}
use Rattle.sei_words.proofs.PublicLayout.{slot_first, slot_next, slot_within, width_is, few_words}
use Rattle.sei_stmt.specs.Runs.{Given, RunState, tick, write}
use Rattle.sei_stmt.specs.Programs.{Block, RepeatLt, Ends, IsParsed}
use Rattle.sei_stmt.specs.declared.stmt.Stmt.TheVariants.{Add}
use Rattle.sei_stmt.specs.Touch.{Framed}
use Rattle.sei_stmt.proofs.Public.{repeat, seq}
use Rattle.tab_find.specs.Answers.{HasConstants}
use Rattle.tab_find.specs.FindPrograms.{look, find_turn, find_program}
use Rattle.tab_find.specs.Found.{HasKeyLoaded}
use Rattle.tab_find.specs.Inputs.{key_length_index, hash_index, key_words_index}
use Rattle.tab_find.specs.Registers.{r_one, r_width, r_place, r_base}
use Rattle.tab_find.proofs.MachineLaws.{sum_is}
use Rattle.tab_find.proofs.SlotReads.{word_stands}
use Rattle.tab_find.proofs.Ready.{Seeks, IsReady, ready_framed, looking, looking_low, walking, walking_low}
use Rattle.tab_find.proofs.Look.{Fits, Seen, Looked, look_ends}

-- Slots are left exactly as long as the next one begins before the end of all.

slot_below : (g : Geometry) (i : ℕ) → i ≤ g.slots → slot_at g i < word_count g → i < g.slots
slot_below g i le lt = elim (cases_lt i g.slots) [
  | inl h ↦ h
  | inr ge ↦ (let same : i ≡ g.slots = omega arith in absurd (omega (arith, lt, ap (slot_at g) same)))
]

slot_last : (g : Geometry) (i : ℕ) → i ≤ g.slots → word_count g ≤ slot_at g i → g.slots ≤ i
slot_last g i le ge = elim (cases_lt i g.slots) [
  | inl h ↦ absurd (omega (arith, ge, slot_within g i h, width_is g))
  | inr h ↦ h
]

module _ (g : Geometry) (e : Given) (ws : List ℕ) (m : ℕ) (key : List ℕ) (seeks : Seeks g e ws m key) where
  -- no slot below i fits
  abbrev pub NoneBelow : ℕ → Type 0
  NoneBelow i = (k : ℕ) → k < i → Fits g ws m key k → ⊥

  -- a slot fits, and begins at this place
  pub record Hit (place : ℕ) : Type 0 where
    pub slot : ℕ
    pub within : slot < g.slots
    pub begins : place ≡ slot_at g slot
    pub fits : Fits g ws m key slot

  -- the slots before the one at the base do not fit
  record Searching (n : ℕ) (t : RunState) : Type 0 where
    looked : ℕ
    left : g.slots ≤ looked + n
    within : looked ≤ g.slots
    base : t.regs r_base ≡ slot_at g looked
    place : t.regs r_place ≡ word_count g
    none : NoneBelow looked

  -- the slot before the one at the base fits
  record Stopped (t : RunState) : Type 0 where
    hit : Hit (t.regs r_place)
    over : t.regs r_place ≤ t.regs r_base

  record Turned (bound n : ℕ) (t : RunState) : Type 0 where
    steps : t.steps + 300 * n ≤ bound
    state : Searching n t ⊎ Stopped t

  pub record Found (bound : ℕ) (t : RunState) : Type 0 where
    pub steps : t.steps ≤ bound
    pub loaded : HasKeyLoaded key t
    pub result : Hit (t.regs r_place) ⊎ ((t.regs r_place ≡ word_count g) × NoneBelow g.slots)

  -- one slot
  turn_ends : (t : RunState) (bound n i : ℕ) → IsReady g ws m key t → i < g.slots → g.slots ≤ i + suc n → t.regs r_base ≡ slot_at g i → t.regs r_place ≡ word_count g → NoneBelow i → t.steps + 280 + 300 * n ≤ bound → Ends e find_turn t (Turned bound n)
  turn_ends t bound n i r lt left base place none steps =
      seq e looking look (Block (Add r_base r_base r_width ∷ [])) t (Looked g e ws m key seeks i lt (t.steps + 274)) (Turned bound n) refl
      (look_ends g e ws m key seeks i lt t (t.steps + 274) r base place (omega arith))
      (λ u f l.
      let ru = ready_framed looking g ws m key t u refl refl looking_low f r in (
        slot_at g (i + 1),
        sum_is _ _ _ (omega (arith, f.regs r_base refl, base, ru.constants.wide, slot_next g i)) (omega (arith, slot_next g i, slot_within g i lt, few_words g seeks.valid)),
        by_found u l.steps l.found,
      ))
    where
      by_found : (u : RunState) → u.steps ≤ t.steps + 274 → Seen g e ws m key seeks i lt (u.regs r_place) → Turned bound n (write u r_base (slot_at g (i + 1)))
      by_found u few (inl h) = record { steps = omega (arith, few, steps); state = inr (record { hit = record { slot = i; within = lt; begins = h.0; fits = h.1 }; over = omega (arith, h.0, slot_next g i) }) }
      by_found u few (inr h) = record { steps = omega (arith, few, steps); state = inl (record { looked = i + 1; left = omega (arith, left); within = omega (arith, lt); base = refl; place = h.0; none = below_more (λ k. Fits g ws m key k → ⊥) i none h.1 }) }

  module _ (s : RunState) (bound limit : ℕ) (r : IsReady g ws m key s) (more : bound + 1 ≤ limit) where
    next : (n : ℕ) (t : RunState) → Framed walking s t → Turned bound n t → t.regs r_base < t.regs r_place → (k : ℕ) × (suc k ≡ n) × Ends e find_turn (tick t) (Turned bound k)
    next n t f it h = by_state n it.steps it.state
      where
        rt : IsReady g ws m key t
        rt = ready_framed walking g ws m key s t refl refl walking_low f r

        by_state : (n : ℕ) → t.steps + 300 * n ≤ bound → (Searching n t ⊎ Stopped t) → (k : ℕ) × (suc k ≡ n) × Ends e find_turn (tick t) (Turned bound k)
        by_state n steps (inr d) = absurd (omega (arith, d.over, h))
        by_state zero steps (inl go) =
            let lt = slot_below g go.looked go.within (omega (arith, h, go.base, go.place)) in absurd (omega (arith, go.left, lt))
        by_state (suc k) steps (inl go) =
            let lt = slot_below g go.looked go.within (omega (arith, h, go.base, go.place)) in
            (k, refl, turn_ends (tick t) bound k go.looked rt lt go.left go.base go.place go.none (omega (arith, steps)))

    done : (n : ℕ) (t : RunState) → Framed walking s t → Turned bound n t → t.regs r_place ≤ t.regs r_base → Found limit (tick t)
    done n t f it le =
        let rt = ready_framed walking g ws m key s t refl refl walking_low f r in
        elim it.state [
          | inl go ↦ (let all = slot_last g go.looked go.within (omega (arith, le, go.base, go.place)) in
              record { steps = omega (arith, it.steps, more); loaded = rt.loaded; result = inr (go.place, λ k h. go.none k (omega (arith, h, all))) })
          | inr d ↦ record { steps = omega (arith, it.steps, more); loaded = rt.loaded; result = inl d.hit }
        ]

  -- the walk through the slots, from the first on
  walk_ends : (s : RunState) (bound : ℕ) → IsReady g ws m key s → s.regs r_base ≡ first_slot → s.regs r_place ≡ word_count g → s.steps + 300 * g.slots + 1 ≤ bound → Ends e (RepeatLt r_base r_place find_turn) s (Found bound)
  walk_ends s bound r base place steps =
      let most = s.steps + 300 * g.slots in
      repeat e walking r_base r_place find_turn s (Turned most) (Found bound) refl (next s most bound r steps) (done s most bound r steps) (g.slots - 1)
      (turn_ends s most (g.slots - 1) 0 r (omega (arith, seeks.valid.some_slots)) (omega arith) (base ∙ sym (slot_first g)) place (λ k h. absurd (omega (arith, h))) (omega (arith, seeks.valid.some_slots)))

  -- the whole find
  pub find_ends : (s : RunState) (bound : ℕ) → IsParsed s.stage → s.words ≡ ws → HasConstants g m s → s.steps + 300 * g.slots + 20 ≤ bound → Ends e find_program s (Found bound)
  find_ends s bound parsed same constants steps =
      let call = seeks.call in (
        parsed,
        length key,
        word_stands e.input (s.regs r_one) key_length_index (length key) constants.one (omega (arith, call.room)) call.key_length,
        (
          parsed,
          fnv64 key,
          word_stands e.input hash_index hash_index (fnv64 key) refl (omega (arith, call.room)) call.hash,
          (
            parsed,
            words_for (length key),
            word_stands e.input key_words_index key_words_index (words_for (length key)) refl (omega (arith, call.room)) call.key_words,
            walk_ends _ bound (record { same = same; parsed = parsed; constants = constants; loaded = record { key_length = refl; hash = refl; key_words = refl } }) refl constants.ends (omega (arith, steps)),
          ),
        ),
      )
