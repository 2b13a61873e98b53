-- What the find's programs stand on, and the registers that they write.
use Rattle.std.proofs.Common.{◌≡◌, ℕ, ◌+◌, ◌<◌, ◌≤◌, ◌-◌, ◌^◌, List, length, ap, ◌∙◌, arith}
use Rattle.std.specs.Prelude.{false, nat_eq, nat_lt, ◌&&◌, ◌||◌}
use Rattle.std.proofs.lemmas.Bool.Decides.{nat_tests}
use Rattle.mc_model.specs.declared.geometry.Geometry.{Geometry}
use Rattle.mc_model.specs.Server.{IsValid}
use Rattle.sei_words.specs.Layout.{word_count, field, expiry_offset}
use Rattle.sei_words.specs.Free.{IsTaken}
use Rattle.sei_stmt.specs.Order.{is_parsed}
use Rattle.sei_stmt.specs.Runs.{Given, RunState}
use Rattle.sei_stmt.specs.Programs.{IsParsed}
use Rattle.sei_stmt.specs.Touch.{Touch, Framed}
use Rattle.tab_find.specs.Answers.{Constants}
use Rattle.tab_find.specs.Calls.{HasKey}
use Rattle.tab_find.specs.Found.{KeyLoaded}
use Rattle.tab_find.specs.Registers.{r_zero, r_moment, r_one, r_expiry_offset, r_width, r_end, r_key_length, r_hash, r_key_words, r_place, r_address, r_passed}

-- What stays through a find: words of a bucket at this moment, and the input words of this key. The expiry of a taken slot is a
-- number of 64 bits.
pub record Seeks (g : Geometry) (e : Given) (ws : List ℕ) (m : ℕ) (key : List ℕ) : Type 0 where
  pub valid : IsValid g
  pub size : length ws ≡ word_count g
  pub moment : m < 2 ^ 64
  pub expiry : (i : ℕ) → i < g.slots → IsTaken g ws m i → field g ws i expiry_offset < 2 ^ 64
  pub call : HasKey e.input key
  pub some : 1 ≤ length key

-- the words, the stage, the constants and the call's key
pub record Ready (g : Geometry) (ws : List ℕ) (m : ℕ) (key words : List ℕ) (stage r0 r1 r2 r3 r4 r5 r6 r7 r8 : ℕ) : Type 0 where
  pub same : words ≡ ws
  pub parsed : IsParsed stage
  pub constants : Constants g m r0 r1 r2 r3 r4 r5
  pub loaded : KeyLoaded key r6 r7 r8

-- the same of a state. A write of any other register leaves this very type
abbrev pub IsReady : Geometry → List ℕ → ℕ → List ℕ → RunState → Type 0
IsReady g ws m key s =
    Ready g ws m key s.words s.stage (s.regs r_zero) (s.regs r_moment) (s.regs r_one) (s.regs r_expiry_offset) (s.regs r_width) (s.regs r_end) (s.regs r_key_length) (s.regs r_hash) (s.regs r_key_words)

-- the place and registers 12 to 17 alone, which the look at a slot writes
abbrev pub looking : Touch
looking = record { regs = λ r. nat_eq r r_place || (nat_lt (r_address - 1) r && nat_lt r (r_passed + 1)); words = false; out = false; stage = false }

-- registers 10 to 17 alone, which the walk through the slots writes
abbrev pub walking : Touch
walking = record { regs = λ r. nat_lt (r_place - 1) r && nat_lt r (r_passed + 1); words = false; out = false; stage = false }

-- registers 6 to 17 alone, which the find writes
abbrev pub finding : Touch
finding = record { regs = λ r. nat_lt r_end r && nat_lt r (r_passed + 1); words = false; out = false; stage = false }

pub looking_low : (r : ℕ) → r < r_place → looking.regs r ≡ false
looking_low r h = grind (arith, nat_tests)

pub walking_low : (r : ℕ) → r < r_place → walking.regs r ≡ false
walking_low r h = grind (arith, nat_tests)

-- after a program that writes no register below the place, and nothing else
pub ready_framed : (w : Touch) (g : Geometry) (ws : List ℕ) (m : ℕ) (key : List ℕ) (s t : RunState) → w.words ≡ false → w.stage ≡ false → ((r : ℕ) → r < r_place → w.regs r ≡ false) → Framed w s t → IsReady g ws m key s → IsReady g ws m key t
ready_framed w g ws m key s t dry still low f r =
    let k = λ (n : ℕ) (lt : n < r_place). f.regs n (low n lt) in
    let c = r.constants in
    let l = r.loaded in
    record {
      same = f.words dry ∙ r.same;
      parsed = ap is_parsed (f.stage still) ∙ r.parsed;
      constants = record {
        none = k r_zero (omega arith) ∙ c.none;
        moment = k r_moment (omega arith) ∙ c.moment;
        one = k r_one (omega arith) ∙ c.one;
        to_expiry = k r_expiry_offset (omega arith) ∙ c.to_expiry;
        wide = k r_width (omega arith) ∙ c.wide;
        ends = k r_end (omega arith) ∙ c.ends;
      };
      loaded = record {
        key_length = k r_key_length (omega arith) ∙ l.key_length;
        hash = k r_hash (omega arith) ∙ l.hash;
        key_words = k r_key_words (omega arith) ∙ l.key_words;
      };
    }
