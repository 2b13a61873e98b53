-- The state in which a command begins, and the state in which it ends.
use Rattle.std.specs.Prelude.{◌≡◌, ℕ, ◌+◌, ◌*◌, ◌^◌, ◌<◌, ◌≤◌, All, List, [], length, Some, if◌then◌else◌}
use Rattle.mc_model.specs.declared.geometry.Geometry.{Geometry}
use Rattle.mc_model.specs.declared.call.Verb.{Verb}
use Rattle.mc_model.specs.Answer.{bucket_after, outcome_in}
use Rattle.mc_model.specs.Bucket.{Item, Bucket, lookup, purged}
use Rattle.mc_model.specs.Call.{Call}
use Rattle.mc_model.specs.Outcome.{Outcome}
use Rattle.mc_model.specs.Packed.{AreBytes, words_for}
use Rattle.mc_model.specs.Server.{IsValid, room_of}
use Rattle.mc_model.specs.Texts.{text_count}
use Rattle.mc_render.specs.Rendering.{rendered}
use Rattle.sei_words.specs.Layout.{width, word_count, expiry_offset}
use Rattle.sei_words.specs.Stands.{StandsFor}
use Rattle.sei_stmt.specs.Order.{timed}
use Rattle.sei_stmt.specs.Runs.{Given, RunState}
use Rattle.sei_stmt.specs.Programs.{Prog, Ends, MayRender}
use Rattle.tab_find.specs.Calls.{IsCall, mark}
use Rattle.tab_find.specs.Fit.{FitIsAnswer}
use Rattle.tab_find.specs.Registers.{r_zero, r_moment, r_one, r_expiry_offset, r_width, r_end, r_noreply}

-- numbers of 64 bits

pub record HasNumbersOf64 (x : Item) : Type 0 where
  pub flags : x.flags < 2 ^ 64
  pub expiry : x.expiry < 2 ^ 64
  pub unique : x.unique < 2 ^ 64

pub record IsBounded (b : Bucket) : Type 0 where
  pub moment : b.moment < 2 ^ 64
  pub counter : b.counter < 2 ^ 64
  pub items : All (λ e. HasNumbersOf64 e.1) b.items

-- a call as a request of a geometry asks it
pub record IsAsked (g : Geometry) (c : Call) : Type 0 where
  pub key_bytes : AreBytes c.key
  pub key_short : length c.key ≤ 250
  pub block_bytes : AreBytes c.block
  pub block_short : length c.block ≤ 8 * g.value_words
  pub flags : c.flags < 2 ^ 64
  pub exptime : c.exptime < 2 ^ 64
  pub text : c.text < text_count

-- What does not change while a command runs: a valid geometry, words that stand for a bucket, the input words of a
-- call, and rooms. The rooms are for a value of w words, and the call's block and its key's item have at most w.
pub record CanAnswer (g : Geometry) (e : Given) (ws : List ℕ) (b : Bucket) (c : Call) (w : ℕ) : Type 0 where
  pub valid : IsValid g
  pub stands : StandsFor g ws b
  pub bounded : IsBounded b
  pub asked : IsAsked g c
  pub call : IsCall e.input c
  pub fit : FitIsAnswer g e
  pub few : 3 ≤ w
  pub block : words_for (length c.block) ≤ w
  pub value : (x : Item) → lookup c.key b.items ≡ Some x → words_for (length x.value) ≤ w
  pub out_room : 48 + w ≤ e.out_room
  pub log_room : 48 + g.slots + w ≤ e.log_room

-- the registers of the constants
pub record Constants (g : Geometry) (m : ℕ) (r0 r1 r2 r3 r4 r5 : ℕ) : Type 0 where
  pub none : r0 ≡ 0
  pub moment : r1 ≡ m
  pub one : r2 ≡ 1
  pub to_expiry : r3 ≡ expiry_offset
  pub wide : r4 ≡ width g
  pub ends : r5 ≡ word_count g

abbrev pub HasConstants : Geometry → ℕ → RunState → Type 0
HasConstants g m s = Constants g m (s.regs r_zero) (s.regs r_moment) (s.regs r_one) (s.regs r_expiry_offset) (s.regs r_width) (s.regs r_end)

-- after the moment and the call's marks: word 0 alone may have been stored, and there is no output
pub record Begun (g : Geometry) (ws : List ℕ) (b : Bucket) (c : Call) (words : List ℕ) (stage floor stores emitted : ℕ) (out : List ℕ) (r0 r1 r2 r3 r4 r5 r26 : ℕ) : Type 0 where
  pub same : words ≡ ws
  pub time : stage ≡ timed
  pub low : floor ≤ 1
  pub few : stores ≤ 1
  pub silent : emitted ≡ 0
  pub empty : out ≡ []
  pub constants : Constants g b.moment r0 r1 r2 r3 r4 r5
  pub noreply : r26 ≡ mark c.noreply

-- the same of a state. A tick, and a write of any other register, do not change this type
abbrev pub HasBegun : Geometry → List ℕ → Bucket → Call → RunState → Type 0
HasBegun g ws b c s =
    Begun g ws b c s.words s.stage s.floor s.stores s.emitted s.out (s.regs r_zero) (s.regs r_moment) (s.regs r_one) (s.regs r_expiry_offset) (s.regs r_width) (s.regs r_end) (s.regs r_noreply)

-- what the call does in a bucket as it is when the call arrives, and its reply
abbrev pub outcome_at : Geometry → Bucket → Call → Outcome
outcome_at g b c = outcome_in (room_of g) b c

abbrev pub reply_at : Geometry → Bucket → Call → List ℕ
reply_at g b c = if c.noreply then [] else (outcome_at g b c).reply

-- the output words render to this reply, which fits
pub record Renders (g : Geometry) (w : ℕ) (out reply : List ℕ) : Type 0 where
  pub is : rendered (8 * g.value_words) out ≡ Some reply
  pub short : length reply ≤ 8 * w + 320

-- the output is the reply, and nothing else happened: the words, the stage and the constants are as they were
pub record Replied (g : Geometry) (b : Bucket) (c : Call) (w bound : ℕ) (t : RunState) : Type 0 where
  pub steps : t.steps ≤ bound
  pub reply : Renders g w t.out (reply_at g b c)

-- after a command's program: the words stand for what the call leaves, and the output words render to its reply
pub record Answered (g : Geometry) (b : Bucket) (c : Call) (w bound : ℕ) (t : RunState) : Type 0 where
  pub steps : t.steps ≤ bound
  pub stage : MayRender t.stage
  pub stands : StandsFor g t.words (purged (bucket_after c.key (outcome_at g b c).change b))
  pub reply : Renders g w t.out (reply_at g b c)

-- from where the command begins, the program answers the call
abbrev pub AnswersCall : Geometry → Given → List ℕ → Bucket → Call → ℕ → Prog → Type 0
AnswersCall g e ws b c w p = (s : RunState) (bound : ℕ) → HasBegun g ws b c s → s.steps + 310 * g.slots + 20 * w + 600 ≤ bound → bound ≤ e.budget → Ends e p s (Answered g b c w bound)

-- the program answers each of these calls
abbrev pub AnswersCalls : (Call → Type 0) → Prog → Type 0
AnswersCalls These p = (g : Geometry) (e : Given) (ws : List ℕ) (b : Bucket) (c : Call) (w : ℕ) → CanAnswer g e ws b c w → These c → AnswersCall g e ws b c w p

-- calls of a command at a key
abbrev pub AtKey : Verb → Call → Type 0
AtKey v c = (c.verb ≡ v) × (1 ≤ length c.key)
