-- What runs of stores and the copy of a run of input words do.
use Rattle.std.proofs.Common.{◌≡◌, ◌≢◌, ℕ, zero, suc, ◌+◌, ◌-◌, ◌*◌, ◌<◌, ◌≤◌, ◌⊎◌, inl, inr, List, [], ◌∷◌, length, refl, sym, ap, ◌∙◌, subst, arith, below_more, get_or-set_other, get_or-set_same}
use Rattle.std.specs.Prelude.{slice_set, slice_index, true, false, nat_eq, ◌||◌}
use Rattle.std.proofs.Math.ListN.{length-set}
use Rattle.sei_words.specs.Stored.{StoredAt}
use Rattle.sei_stmt.specs.Order.{is_parsed}
use Rattle.sei_stmt.specs.Runs.{Given, RunState, tick}
use Rattle.sei_stmt.specs.Programs.{Block, Ends, IsParsed, HasWord}
use Rattle.sei_stmt.specs.Touch.{Touch, Framed}
use Rattle.sei_stmt.proofs.Public.{repeat}
use Rattle.tab_find.specs.Copies.{IsCopied, Copied, CanCopy}
use Rattle.tab_find.specs.Registers.{r_one, r_address, r_word, r_index}
use Rattle.tab_find.specs.StorePrograms.{copy_turn, copy_run}
use Rattle.tab_find.proofs.MachineLaws.{sum_is, word_is}

-- these words written from an address on
abbrev pub put_all : List ℕ → ℕ → List ℕ → List ℕ
put_all ws a [] = ws
put_all ws a (v ∷ vs) = put_all (slice_set ws a v) (a + 1) vs

pub put_all_size : (vs ws : List ℕ) (a : ℕ) → length (put_all ws a vs) ≡ length ws
put_all_size [] ws a = refl
put_all_size (v ∷ vs) ws a = put_all_size vs (slice_set ws a v) (a + 1) ∙ length-set ws a v

pub put_all_off : (vs ws : List ℕ) (a b : ℕ) → (b < a) ⊎ (a + length vs ≤ b) → slice_index (put_all ws a vs) b ≡ slice_index ws b
put_all_off [] ws a b h = refl
put_all_off (v ∷ vs) ws a b h =
    let ne : b ≢ a = omega (arith, h) in
    put_all_off vs (slice_set ws a v) (a + 1) b (elim h [ inl lt ↦ inl (omega (arith, lt)) | inr le ↦ inr (omega (arith, le)) ]) ∙ get_or-set_other ws a b v 0 ne

pub put_all_stored : (vs ws : List ℕ) (a : ℕ) → a + length vs ≤ length ws → StoredAt (put_all ws a vs) a vs
put_all_stored [] ws a h j lt = absurd (omega (arith, lt))
put_all_stored (v ∷ vs) ws a h zero lt =
    subst (λ n. slice_index (put_all (slice_set ws a v) (a + 1) vs) n ≡ v) (omega arith)
    (put_all_off vs (slice_set ws a v) (a + 1) a (inl (omega arith)) ∙ get_or-set_same ws a v 0 (omega (arith, h)))
put_all_stored (v ∷ vs) ws a h (suc j) lt =
    subst (λ n. slice_index (put_all (slice_set ws a v) (a + 1) vs) n ≡ slice_index vs j) (omega arith)
    (put_all_stored vs (slice_set ws a v) (a + 1) (omega (arith, h, length-set ws a v)) j (omega (arith, lt)))

-- an address, a word, the index of an input word, and words
abbrev pub copier : Touch
copier = record { regs = λ r. nat_eq r r_address || (nat_eq r r_word || nat_eq r r_index); words = true; out = false; stage = false }

copied_more : (vs ws t : List ℕ) (a n : ℕ) → a + n < length ws → IsCopied vs ws a n t → IsCopied vs ws a (n + 1) (slice_set t (a + n) (slice_index vs n))
copied_more vs ws t a n h c =
    record {
      size = length-set t (a + n) _ ∙ c.size;
      there = below_more (λ j. slice_index (slice_set t (a + n) (slice_index vs n)) (a + j) ≡ slice_index vs j) n
          (λ j lt. let ne : a + j ≢ a + n = omega (arith, lt) in get_or-set_other t (a + n) (a + j) _ 0 ne ∙ c.there j lt)
          (get_or-set_same t (a + n) _ 0 (omega (arith, h, c.size)));
      off = λ b out. let ne : b ≢ a + n = omega (arith, out) in get_or-set_other t (a + n) b _ 0 ne ∙ c.off b (elim out [ inl lt ↦ inl lt | inr le ↦ inr (omega (arith, le)) ]);
    }

module _ (e : Given) (limit index : ℕ) (vs ws : List ℕ) (a bound most : ℕ) where
  -- after a turn: so many words were copied, and as many as `more` are left
  record Copying (more : ℕ) (t : RunState) : Type 0 where
    done : ℕ
    left : done + more ≡ length vs
    steps : t.steps + 5 * more + 1 ≤ bound
    stores : t.stores + more ≤ most
    floor : t.floor ≤ a + done
    address : t.regs r_address ≡ a + done
    index_is : t.regs r_index ≡ index + done
    copied : IsCopied vs ws a done t.words

  module _ (s : RunState) (can : CanCopy e.input index vs ws a s.words s.stage s.floor (s.regs r_one) (s.regs r_address) (s.regs r_index) (s.regs limit)) (logs : most ≤ e.log_room) where
    turn : (u : RunState) (j more : ℕ) → j + suc more ≡ length vs → IsParsed u.stage → u.regs r_one ≡ 1 → u.regs r_address ≡ a + j → u.regs r_index ≡ index + j → u.floor ≤ a + j → u.stores + suc more ≤ most → u.steps + 5 + 5 * more ≤ bound →
        IsCopied vs ws a j u.words → Ends e (Block copy_turn) u (Copying more)
    turn u j more left parsed one address index_is floor stores steps c =
        let x = slice_index vs j in
        let lt : j < length vs = omega (arith, left) in
        let read : HasWord e.input (u.regs r_index) x = subst (HasWord e.input (u.regs r_index)) (can.stored j lt) (word_is e.input (u.regs r_index) (index + j) index_is (omega (arith, lt, can.there))) in
        let stored : slice_set u.words (a + j) x ≡ slice_set u.words (u.regs r_address) x = ap (λ b. slice_set u.words b x) (sym address) in
        let inside : a + j < length ws = omega (arith, lt, can.room) in (
          parsed,
          x,
          read,
          (
            omega (arith, address, c.size, inside),
            omega (arith, address, floor),
            omega (arith, stores, logs),
            (
              a + (j + 1),
              sum_is _ _ _ (omega (arith, address, one)) (omega (arith, lt, can.room, can.small)),
              (
                index + (j + 1),
                sum_is _ _ _ (omega (arith, index_is, one)) (omega (arith, lt, can.few)),
                record {
                  done = j + 1;
                  left = omega (arith, left);
                  steps = omega (arith, steps);
                  stores = omega (arith, stores);
                  floor = omega (arith, address);
                  address = refl;
                  index_is = refl;
                  copied = subst (IsCopied vs ws a (j + 1)) stored (copied_more vs ws u.words a j inside c);
                },
              ),
            ),
          ),
        )

    next : copier.regs limit ≡ false → (more : ℕ) (t : RunState) → Framed copier s t → Copying more t → t.regs r_index < t.regs limit → (k : ℕ) × (suc k ≡ more) × Ends e (Block copy_turn) (tick t) (Copying k)
    next apart zero t f c h = absurd (omega (arith, c.left, c.index_is, h, f.regs limit apart, can.ends))
    next apart (suc k) t f c h =
        (k, refl, turn (tick t) c.done k c.left (ap is_parsed (f.stage refl) ∙ can.parsed) (f.regs r_one refl ∙ can.one) c.address c.index_is c.floor c.stores (omega (arith, c.steps)) c.copied)

    first : s.stores + length vs ≤ most → s.steps + 5 * length vs ≤ bound → (more : ℕ) → suc more ≡ length vs → Ends e (Block copy_turn) s (Copying more)
    first stores steps more left =
        turn s 0 more (omega (arith, left)) can.parsed can.one (omega (arith, can.address)) (omega (arith, can.begins)) (omega (arith, can.low)) (omega (arith, stores, left)) (omega (arith, steps, left))
        (record { size = ap length can.same; there = λ k h. absurd (omega (arith, h)); off = λ b h. ap (λ l. slice_index l b) can.same })

    -- the register of the end is none that the copy writes
    pub copy_run_ends : copier.regs limit ≡ false → s.stores + length vs ≤ most → s.steps + 5 * length vs ≤ bound → Ends e (copy_run limit) s (Copied vs ws a bound most)
    copy_run_ends apart stores steps =
        let left : suc (length vs - 1) ≡ length vs = omega (arith, can.some) in
        repeat e copier r_index limit (Block copy_turn) s Copying (Copied vs ws a bound most) refl (next apart)
        (λ more t f c le.
        let all : c.done ≡ length vs = omega (arith, c.left, c.index_is, le, f.regs limit apart, can.ends) in
        record { steps = omega (arith, c.steps); stores = omega (arith, c.stores); floor = omega (arith, c.floor, all); copied = subst (λ n. IsCopied vs ws a n t.words) all c.copied })
        (length vs - 1) (first stores steps (length vs - 1) left)
