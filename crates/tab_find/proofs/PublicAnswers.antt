-- What commands answer: which output words render to which reply, and what a reply and a change come to.
use Rattle.std.proofs.Common.{◌≡◌, ◌≢◌, ℕ, zero, suc, ◌+◌, ◌*◌, ◌<◌, ◌≤◌, ◌^◌, Bool, true, false, inl, inr, List, [], ◌∷◌, ◌++◌, length, Option, Some, None, refl, sym, ap, ◌∙◌, subst, arith, length-append, append_assoc, append-nil}
use Rattle.std.specs.Prelude.{nat_le, ◌==◌, slice_index, if◌then◌else◌, slice_index_or, codes}
use Rattle.std.specs.List.{list_all}
use Rattle.std.specs.Option.{option_map}
use Rattle.std.specs.Fmt.{decimal}
use Rattle.std.proofs.lemmas.Fmt.{length-decimal-le}
use Rattle.std.proofs.lemmas.Bool.{and_parts, leb-true}
use Rattle.mc_model.specs.declared.geometry.Geometry.{Geometry}
use Rattle.mc_model.specs.declared.call.Verb.{Verb}
use Rattle.mc_model.specs.declared.outcome.Change.{Change}
use Rattle.mc_model.specs.declared.outcome.Change.TheVariants.{Keep}
use Rattle.mc_model.specs.Answer.{bucket_after, seen_in}
use Rattle.mc_model.specs.Bucket.{Item, Bucket, lookup, purged}
use Rattle.mc_model.specs.Call.{Call}
use Rattle.mc_model.specs.Outcome.{outcome_of}
use Rattle.mc_model.specs.Packed.{AreBytes, pack}
use Rattle.mc_model.specs.Replies.{value_text, end_text, unique_text}
use Rattle.mc_model.specs.Server.{IsValid, room_of}
use Rattle.mc_model.specs.Texts.{texts, text_line, line, text_count, end_text_number}
use Rattle.mc_render.specs.Outputs.{text_kind, value_kind}
use Rattle.mc_render.specs.Rendering.{rendered}
use Rattle.mc_render.proofs.PublicRendered.{rendered_nil, rendered_text, rendered_value}
use Rattle.sei_words.specs.Stands.{StandsFor}
use Rattle.sei_words.proofs.PublicChanges.{kept}
use Rattle.sei_words.proofs.PublicLayout.{slot_within, width_is}
use Rattle.sei_stmt.specs.Order.{is_open, may_render}
use Rattle.sei_stmt.specs.Runs.{Given, RunState, tick}
use Rattle.sei_stmt.specs.Programs.{Prog, IfLt, HasWord, Ends, IsOpen, MayRender, Post}
use Rattle.sei_stmt.specs.Touch.{Touch, anything, within, Framed}
use Rattle.sei_stmt.proofs.Public.{then_so, any_program}
use Rattle.tab_find.specs.Answers.{HasConstants, HasBegun, outcome_at, reply_at, Renders, Replied, Answered}
use Rattle.tab_find.specs.Calls.{IsCall, mark}
use Rattle.tab_find.specs.Inputs.{key_index}
use Rattle.tab_find.specs.Found.{IsPresent, KeyFound, Changed}
use Rattle.tab_find.specs.Registers.{r_zero, r_moment, r_one, r_expiry_offset, r_width, r_end, r_place, r_noreply}
use Rattle.tab_find.specs.ShowPrograms.{say, if_wanted, answer_text}
use Rattle.tab_find.proofs.MachineLaws.{word_is}
use Rattle.tab_find.proofs.PublicFinding.{finding}
use Rattle.tab_find.proofs.PublicShowing.{Made, say_ends, if_wanted_ends}

-- the outcome of a call, by its command and what its key has
pub outcome_row : (g : Geometry) (b : Bucket) (c : Call) (v : Verb) (o : Option Item) → c.verb ≡ v → lookup c.key b.items ≡ o → outcome_at g b c ≡ outcome_of (seen_in (room_of g) b) c v o
outcome_row g b c v o is_verb is_item =
    let s = seen_in (room_of g) b in
    ap (λ w. outcome_of s c w (lookup c.key b.items)) is_verb ∙ ap (outcome_of s c v) is_item

-- What output words render to.

pub renders_nothing : (g : Geometry) (w : ℕ) → Renders g w [] []
renders_nothing g w = record { is = rendered_nil (8 * g.value_words); short = omega arith }

abbrev is_short : List ℕ → Bool
is_short text = nat_le (length text) 100

-- text n, or the one after as many of them
short_from : (n : ℕ) (all : List (List ℕ)) → n < length all → list_all is_short all ≡ true → length (slice_index_or all n []) ≤ 100
short_from n [] lt h = absurd (omega (arith, lt))
short_from zero (text ∷ all) lt h = leb-true _ _ (and_parts (is_short text) (list_all is_short all) h).0
short_from (suc n) (text ∷ all) lt h = short_from n all (omega (arith, lt)) (and_parts (is_short text) (list_all is_short all) h).1

text_short : (n : ℕ) → n < text_count → length (text_line n) ≤ 102
unfolding text_line
text_short n lt =
    let text = slice_index_or texts n [] in
    let short : length text ≤ 100 = short_from n texts lt refl in
    omega (arith, length-append text (13 ∷ 10 ∷ []), short)

abbrev pub text_words : ℕ → List ℕ
text_words n = text_kind ∷ n ∷ []

text_renders : (limit n : ℕ) → n < text_count → rendered limit (text_words n) ≡ Some (text_line n)
text_renders limit n lt =
    rendered_text limit n [] lt ∙ ap (option_map (λ bs. text_line n ++ bs)) (rendered_nil limit) ∙ ap (λ bs. Some bs) (append-nil (text_line n))

pub renders_text : (g : Geometry) (w n : ℕ) → n < text_count → Renders g w (text_words n) (text_line n)
renders_text g w n lt = record { is = text_renders (8 * g.value_words) n lt; short = omega (arith, text_short n lt) }

-- a text after the last call of a request
abbrev pub last_words : ℕ → Bool → List ℕ
last_words n last = if last then text_words n else []

abbrev pub end_words : Bool → List ℕ
end_words = last_words end_text_number

-- it renders to that text's line
pub renders_last : (g : Geometry) (w n : ℕ) (last : Bool) → n < text_count → Renders g w (last_words n last) (if last then text_line n else [])
renders_last g w n true lt = renders_text g w n lt
renders_last g w n false lt = renders_nothing g w

end_line : text_line end_text_number ≡ line (codes "END")
unfolding text_line
end_line = refl

rendered_end : (limit : ℕ) (last : Bool) → rendered limit (end_words last) ≡ Some (end_text last)
rendered_end limit true = text_renders limit end_text_number (omega arith) ∙ ap (λ bs. Some bs) end_line
rendered_end limit false = rendered_nil limit

end_short : (last : Bool) → length (end_text last) ≤ 5
end_short true = omega arith
end_short false = omega arith

pub renders_end : (g : Geometry) (w : ℕ) (last : Bool) → Renders g w (end_words last) (end_text last)
renders_end g w last = record { is = rendered_end (8 * g.value_words) last; short = omega (arith, end_short last) }

-- an item, with its cas unique or without it
abbrev pub item_words : Bool → List ℕ → Item → List ℕ
item_words shown key x = value_kind ∷ mark shown ∷ length key ∷ x.flags ∷ length x.value ∷ x.unique ∷ (pack key ++ pack x.value)

mark_is : (shown : Bool) → (mark shown == 1) ≡ shown
mark_is true = refl
mark_is false = refl

mark_small : (shown : Bool) → mark shown ≤ 1
mark_small true = omega arith
mark_small false = omega arith

unique_short : (shown : Bool) (unique : ℕ) → unique < 2 ^ 64 → length (unique_text shown unique) ≤ 21
unique_short true unique small = omega (arith, length-append (codes " ") (decimal unique), length-decimal-le 20 unique (omega arith) (omega (arith, small)) small)
unique_short false unique small = omega arith

-- it can be shown
pub record CanShow (g : Geometry) (w : ℕ) (key : List ℕ) (x : Item) : Type 0 where
  pub key_bytes : AreBytes key
  pub some_key : 1 ≤ length key
  pub short_key : length key ≤ 250
  pub bytes : AreBytes x.value
  pub fits : length x.value ≤ 8 * g.value_words
  pub short : length x.value ≤ 8 * w
  pub flags : x.flags < 2 ^ 64
  pub unique : x.unique < 2 ^ 64

text_length : (shown : Bool) (key : List ℕ) (x : Item) → length (value_text shown key x) ≡ 12 + length key + length (decimal x.flags) + length (decimal (length x.value)) + length (unique_text shown x.unique) + length x.value
text_length shown key x = grind (arith, length-append)

pub renders_item : (g : Geometry) (w : ℕ) (shown : Bool) (key : List ℕ) (x : Item) (last : Bool) → IsValid g → CanShow g w key x → Renders g w (item_words shown key x ++ end_words last) (value_text shown key x ++ end_text last)
renders_item g w shown key x last valid h =
    let limit = 8 * g.value_words in
    let digits : length x.value < 2 ^ 64 = omega (arith, h.fits, valid.few_words) in
    record {
      is = ap (λ ws. rendered limit (value_kind ∷ mark shown ∷ length key ∷ x.flags ∷ length x.value ∷ x.unique ∷ ws)) (append_assoc (pack key) (pack x.value) (end_words last))
          ∙ rendered_value limit (mark shown) key x (end_words last) (mark_small shown) h.key_bytes h.some_key h.short_key h.bytes h.fits
          ∙ ap (λ q. option_map (λ bs. value_text q key x ++ bs) (rendered limit (end_words last))) (mark_is shown)
          ∙ ap (option_map (λ bs. value_text shown key x ++ bs)) (rendered_end limit last);
      short = omega (
        arith,
        length-append (value_text shown key x) (end_text last),
        text_length shown key x,
        unique_short shown x.unique h.unique,
        end_short last,
        h.short,
        h.short_key,
        length-decimal-le 20 x.flags (omega arith) (omega (arith, h.flags)) h.flags,
        length-decimal-le 5 (length x.value) (omega arith) (omega (arith, h.fits, valid.few_words)) digits,
      );
    }

-- What a command has said.

-- nothing yet, and the reply may be said
pub record CanReply (c : Call) (at emitted : ℕ) (out : List ℕ) (r0 r26 : ℕ) : Type 0 where
  pub stage : IsOpen at
  pub silent : emitted ≡ 0
  pub empty : out ≡ []
  pub none : r0 ≡ 0
  pub noreply : r26 ≡ mark c.noreply

abbrev pub MayReply : Call → RunState → Type 0
MayReply c s = CanReply c s.stage s.emitted s.out (s.regs r_zero) (s.regs r_noreply)

pub begun_replies : (g : Geometry) (ws : List ℕ) (b : Bucket) (c : Call) (s : RunState) → HasBegun g ws b c s → MayReply c s
begun_replies g ws b c s h = record { stage = ap is_open h.time; silent = h.silent; empty = h.empty; none = h.constants.none; noreply = h.noreply }

-- these output words render to the reply
pub record Says (g : Geometry) (w : ℕ) (reply : List ℕ) (bound : ℕ) (t : RunState) : Type 0 where
  pub steps : t.steps ≤ bound
  pub renders : Renders g w t.out reply

-- a program that says the reply, if one is wanted
pub reply_ends : (g : Geometry) (e : Given) (b : Bucket) (c : Call) (w : ℕ) (reply : List ℕ) (p : Prog) (s : RunState) (bound : ℕ) → (outcome_at g b c).reply ≡ reply → MayReply c s → s.steps + 2 ≤ bound →
    (c.noreply ≡ false → Ends e p (tick s) (Says g w reply bound)) → Ends e (if_wanted p) s (Replied g b c w bound)
reply_ends g e b c w reply p s bound is m steps said =
    if_wanted_ends e p s (Replied g b c w bound) c.noreply m.noreply m.none
    (λ loud. then_so e anything p (tick s) (Says g w reply bound) (Replied g b c w bound) (any_program p)
    (λ t f d. record { steps = d.steps; reply = subst (Renders g w t.out) (sym (ap (λ q. if q then [] else (outcome_at g b c).reply) loud ∙ is)) d.renders })
    (said loud))
    (λ quiet. record {
      steps = omega (arith, steps);
      reply = subst (λ out. Renders g w out (reply_at g b c)) (sym m.empty) (subst (Renders g w []) (sym (ap (λ q. if q then [] else (outcome_at g b c).reply) quiet)) (renders_nothing g w));
    })

-- a text
pub text_replies : (g : Geometry) (e : Given) (b : Bucket) (c : Call) (w n : ℕ) (s : RunState) (bound : ℕ) → n < text_count → (outcome_at g b c).reply ≡ text_line n → MayReply c s → 2 ≤ e.out_room → s.steps + 4 ≤ bound →
    Ends e (answer_text n) s (Replied g b c w bound)
text_replies g e b c w n s bound known is m room steps =
    reply_ends g e b c w (text_line n) (say n) s bound is m (omega (arith, steps)) (λ loud.
    then_so e anything (say n) (tick s) (Made (text_words n) bound 2) (Says g w (text_line n) bound) (any_program (say n))
    (λ t f d. record { steps = d.steps; renders = subst (λ out. Renders g w out (text_line n)) (sym d.made) (renders_text g w n known) })
    (say_ends e (tick s) [] n bound 2 m.none (record { stage = m.stage; made = m.empty; few = omega (arith, m.silent); fits = room }) (omega (arith, steps))))

-- What a command comes to.

-- the reply was said, and the program of the change follows
pub answered : (g : Geometry) (e : Given) (b : Bucket) (c : Call) (w : ℕ) (u : Touch) (p : Prog) (d : Change) (s : RunState) (low bound most : ℕ) → within u p ≡ true → u.out ≡ false → u.stage ≡ false →
    (outcome_at g b c).change ≡ d → MayRender s.stage → Replied g b c w low s → Ends e p s (Changed g c.key d b bound most) → Ends e p s (Answered g b c w bound)
answered g e b c w u p d s low bound most ok silent still is stage said changed =
    then_so e u p s (Changed g c.key d b bound most) (Answered g b c w bound) ok
    (λ t f x. record {
      steps = x.steps;
      stage = ap may_render (f.stage still) ∙ stage;
      stands = subst (λ o. StandsFor g t.words (purged (bucket_after c.key o b))) (sym is) x.stands;
      reply = subst (λ out. Renders g w out (reply_at g b c)) (sym (f.out silent)) said.reply;
    })
    changed

-- the reply was said, and nothing changes
pub only_answered : (g : Geometry) (e : Given) (ws : List ℕ) (b : Bucket) (c : Call) (w : ℕ) (u : Touch) (p : Prog) (s : RunState) (bound : ℕ) → within u p ≡ true → u.words ≡ false → u.stage ≡ false →
    StandsFor g ws b → s.words ≡ ws → (outcome_at g b c).change ≡ Keep → MayRender s.stage → Ends e p s (Replied g b c w bound) → Ends e p s (Answered g b c w bound)
only_answered g e ws b c w u p s bound ok dry still stands same is stage said =
    then_so e u p s (Replied g b c w bound) (Answered g b c w bound) ok
    (λ t f d. record {
      steps = d.steps;
      stage = ap may_render (f.stage still) ∙ stage;
      stands = subst (λ o. StandsFor g t.words (purged (bucket_after c.key o b))) (sym is) (subst (λ l. StandsFor g l (purged (bucket_after c.key Keep b))) (sym (f.words dry ∙ same)) (kept g ws b c.key stands));
      reply = d.reply;
    })
    said

-- Where a command begins, after a program that keeps it.

pub record KeepsConstants (u : Touch) : Type 0 where
  pub none : u.regs r_zero ≡ false
  pub moment : u.regs r_moment ≡ false
  pub one : u.regs r_one ≡ false
  pub to_expiry : u.regs r_expiry_offset ≡ false
  pub wide : u.regs r_width ≡ false
  pub ends : u.regs r_end ≡ false

pub record KeepsBegun (u : Touch) : Type 0 where
  pub words : u.words ≡ false
  pub out : u.out ≡ false
  pub stage : u.stage ≡ false
  pub constants : KeepsConstants u
  pub noreply : u.regs r_noreply ≡ false

pub constants_framed : (u : Touch) (g : Geometry) (m : ℕ) (s t : RunState) → KeepsConstants u → Framed u s t → HasConstants g m s → HasConstants g m t
constants_framed u g m s t k f h =
    record {
      none = f.regs r_zero k.none ∙ h.none;
      moment = f.regs r_moment k.moment ∙ h.moment;
      one = f.regs r_one k.one ∙ h.one;
      to_expiry = f.regs r_expiry_offset k.to_expiry ∙ h.to_expiry;
      wide = f.regs r_width k.wide ∙ h.wide;
      ends = f.regs r_end k.ends ∙ h.ends;
    }

pub begun_framed : (u : Touch) (g : Geometry) (ws : List ℕ) (b : Bucket) (c : Call) (s t : RunState) → KeepsBegun u → Framed u s t → HasBegun g ws b c s → HasBegun g ws b c t
begun_framed u g ws b c s t k f h =
    record {
      same = f.words k.words ∙ h.same;
      time = f.stage k.stage ∙ h.time;
      low = omega (arith, f.still k.words, h.low);
      few = omega (arith, f.stores k.words, h.few);
      silent = f.emitted k.out ∙ h.silent;
      empty = f.out k.out ∙ h.empty;
      constants = constants_framed u g b.moment s t k.constants f h.constants;
      noreply = f.regs r_noreply k.noreply ∙ h.noreply;
    }

-- The words are as they were, but for the moment, and the reply may be rendered.

pub record IsStill (g : Geometry) (ws : List ℕ) (b : Bucket) (s : RunState) : Type 0 where
  pub same : s.words ≡ ws
  pub constants : HasConstants g b.moment s
  pub low : s.floor ≤ 1
  pub few : s.stores ≤ 1
  pub may : MayRender s.stage

pub begun_still : (g : Geometry) (ws : List ℕ) (b : Bucket) (c : Call) (s : RunState) → HasBegun g ws b c s → IsStill g ws b s
begun_still g ws b c s h = record { same = h.same; constants = h.constants; low = h.low; few = h.few; may = ap may_render h.time }

pub still_framed : (u : Touch) (g : Geometry) (ws : List ℕ) (b : Bucket) (s t : RunState) → KeepsConstants u → u.words ≡ false → u.stage ≡ false → Framed u s t → IsStill g ws b s → IsStill g ws b t
still_framed u g ws b s t k dry still f q =
    record {
      same = f.words dry ∙ q.same;
      constants = constants_framed u g b.moment s t k f q.constants;
      low = omega (arith, f.still dry, q.low);
      few = omega (arith, f.stores dry, q.few);
      may = ap may_render (f.stage still) ∙ q.may;
    }

-- the find does
pub find_keeps : KeepsBegun finding
find_keeps = record { words = refl; out = refl; stage = refl; constants = record { none = refl; moment = refl; one = refl; to_expiry = refl; wide = refl; ends = refl }; noreply = refl }

-- one more statement, which is the jump over the other side
pub answered_tick : (g : Geometry) (b : Bucket) (c : Call) (w low bound : ℕ) (t : RunState) → low + 1 ≤ bound → Answered g b c w low t → Answered g b c w bound (tick t)
answered_tick g b c w low bound t le a = record { steps = omega (arith, a.steps, le); stage = a.stage; stands = a.stands; reply = a.reply }

pub some_key : (key : List ℕ) → 1 ≤ length key → key ≢ []
some_key key long e = omega (arith, long, ap length e)

-- a word of the call that is no word of its key or block
pub input_word : (input : List ℕ) (c : Call) (i v : ℕ) → IsCall input c → i < key_index → slice_index input i ≡ v → HasWord input i v
input_word input c i v call lt is = subst (HasWord input i) is (word_is input i i refl (omega (arith, call.block.room, lt)))

-- the choice by whether the key has an item
pub by_key_ends : (g : Geometry) (e : Given) (ws : List ℕ) (b : Bucket) (key : List ℕ) (p q : Prog) (s : RunState) (Q : Post) → KeyFound g ws b key (s.regs r_place) → HasConstants g b.moment s →
    ((x : Item) → IsPresent g ws b key x (s.regs r_place) → Ends e p (tick s) Q) → (lookup key b.items ≡ None → Ends e q (tick s) (λ t. Q (tick t))) → Ends e (IfLt r_place r_end p q) s Q
by_key_ends g e ws b key p q s Q (inl found) h present absent =
    let x = found.1 in (
      λ lt. present found.0 x,
      λ le. absurd (omega (arith, le, x.begins, h.ends, slot_within g x.slot x.within, width_is g)),
    )
by_key_ends g e ws b key p q s Q (inr gone) h present absent = (
  λ lt. absurd (omega (arith, lt, gone.ends, h.ends)),
  λ le. absent gone.item,
)
