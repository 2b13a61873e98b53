-- What the commands answer that store the item which they spell.
use Rattle.std.proofs.Common.{◌≡◌, ℕ, ◌+◌, ◌-◌, ◌*◌, ◌<◌, ◌≤◌, Bool, inl, inr, List, length, Some, None, refl, sym, ap, ◌∙◌, subst, arith}
use Rattle.std.specs.Prelude.{false, true, codes, nat_lt, if◌then◌else◌}
use Rattle.std.proofs.lemmas.Bool.{lt-ltb, le-ltb, eq-eqb, ne_eqb}
use Rattle.mc_model.specs.declared.geometry.Geometry.{Geometry}
use Rattle.mc_model.specs.declared.call.Verb.{Verb}
use Rattle.mc_model.specs.declared.call.Verb.TheVariants.{Set, Add, Replace, Cas}
use Rattle.mc_model.specs.declared.outcome.Change.TheVariants.{Keep, Draw, Make}
use Rattle.mc_model.specs.declared.outcome.Seen.{Seen}
use Rattle.mc_model.specs.Answer.{seen_in}
use Rattle.mc_model.specs.Bucket.{Item, Bucket, lookup}
use Rattle.mc_model.specs.Call.{Call}
use Rattle.mc_model.specs.Items.{item_of_call}
use Rattle.mc_model.specs.Outcome.{Outcome, reply_only, storing, adding, comparing, outcome_of}
use Rattle.mc_model.specs.Server.{room_of}
use Rattle.mc_model.specs.Texts.{line, text_line, text_count, stored_text, not_stored_text, exists_text, not_found_text, out_of_memory_text}
use Rattle.sei_words.specs.Free.{IsFull}
use Rattle.sei_words.proofs.PublicChanges.{not_full, full}
use Rattle.sei_words.proofs.PublicLayout.{slot_within, width_is}
use Rattle.sei_words.proofs.PublicSlots.{free_not_taken}
use Rattle.sei_stmt.specs.Order.{is_open, is_parsed, may_render}
use Rattle.sei_stmt.specs.Runs.{Given, RunState, tick}
use Rattle.sei_stmt.specs.Programs.{Prog, Seq, IfEq, IfLt, Ends, MayRender}
use Rattle.sei_stmt.specs.Touch.{Touch, anything, Framed}
use Rattle.sei_stmt.proofs.Public.{seq, then_so, any_program, may_render_open, open_is_parsed}
use Rattle.tab_find.specs.Answers.{CanAnswer, HasConstants, HasBegun, outcome_at, Replied, Answered, AnswersCall, AnswersCalls, AtKey}
use Rattle.tab_find.specs.Found.{IsPresent, IsGiven, KeyFound, HasKeyLoaded, Sought, Offered}
use Rattle.tab_find.specs.Inputs.{block_index}
use Rattle.tab_find.specs.FindPrograms.{find_program, free_program}
use Rattle.tab_find.specs.Registers.{r_place, r_end, r_word, r_other, r_key_length, r_hash, r_key_words, r_flags, r_expiry, r_value_length, r_value_words, r_noreply}
use Rattle.tab_find.specs.ShowPrograms.{load_uniques, answer_text}
use Rattle.tab_find.specs.StorePrograms.{load_call, expiry_program, keep_program, draw_program, make_program}
use Rattle.tab_find.proofs.PublicAnswers.{outcome_row, MayReply, begun_replies, text_replies, answered, KeepsConstants, KeepsBegun, IsStill, begun_still, still_framed, constants_framed, begun_framed, find_keeps, answered_tick, some_key, by_key_ends}
use Rattle.tab_find.proofs.PublicShowing.{sayer, uniques_loader, UniquesLoaded, load_uniques_ends}
use Rattle.tab_find.proofs.PublicFinding.{finding, find_stands, freer, free_ends}
use Rattle.tab_find.proofs.PublicStoring.{storer, loader, CallLoaded, load_call_ends, dater, Dated, expiry_ends, HasLoaded, keep_ends, draw_ends, make_ends}
use Rattle.tab_store.specs.declared.commands.Part.{Part}
use Rattle.tab_store.specs.declared.commands.Part.TheVariants as part
use Rattle.tab_store.specs.Programs.{refuse, store_present, store_absent, compare_present, store_by, at_present, at_absent, part_program, verb_of, IsCallOf}

-- What each program keeps.

load_keeps : KeepsBegun loader
load_keeps = record { words = refl; out = refl; stage = refl; constants = record { none = refl; moment = refl; one = refl; to_expiry = refl; wide = refl; ends = refl }; noreply = refl }

date_keeps : KeepsBegun dater
date_keeps = record { words = refl; out = refl; stage = refl; constants = record { none = refl; moment = refl; one = refl; to_expiry = refl; wide = refl; ends = refl }; noreply = refl }

say_keeps : KeepsConstants sayer
say_keeps = record { none = refl; moment = refl; one = refl; to_expiry = refl; wide = refl; ends = refl }

free_keeps : KeepsConstants freer
free_keeps = record { none = refl; moment = refl; one = refl; to_expiry = refl; wide = refl; ends = refl }

-- the registers of the call's key
pub record KeepsKey (u : Touch) : Type 0 where
  key_length : u.regs r_key_length ≡ false
  hash : u.regs r_hash ≡ false
  key_words : u.regs r_key_words ≡ false

key_framed : (u : Touch) (key : List ℕ) (s t : RunState) → KeepsKey u → Framed u s t → HasKeyLoaded key s → HasKeyLoaded key t
key_framed u key s t k f h =
    record {
      key_length = f.regs r_key_length k.key_length ∙ h.key_length;
      hash = f.regs r_hash k.hash ∙ h.hash;
      key_words = f.regs r_key_words k.key_words ∙ h.key_words;
    }

-- the registers of the item that is to be stored
pub record KeepsItem (u : Touch) : Type 0 where
  flags : u.regs r_flags ≡ false
  expiry : u.regs r_expiry ≡ false
  value_length : u.regs r_value_length ≡ false
  value_words : u.regs r_value_words ≡ false

item_framed : (u : Touch) (input : List ℕ) (index w : ℕ) (g : Geometry) (x : Item) (s t : RunState) → KeepsItem u → Framed u s t → HasLoaded input index w g x s → HasLoaded input index w g x t
item_framed u input index w g x s t k f h =
    record {
      flags = f.regs r_flags k.flags ∙ h.flags;
      expiry = f.regs r_expiry k.expiry ∙ h.expiry;
      value_length = f.regs r_value_length k.value_length ∙ h.value_length;
      value_words = f.regs r_value_words k.value_words ∙ h.value_words;
      bytes = h.bytes;
      fits = h.fits;
      few = h.few;
      stored = h.stored;
      room = h.room;
      near = h.near;
    }

load_keeps_key : KeepsKey loader
load_keeps_key = record { key_length = refl; hash = refl; key_words = refl }

date_keeps_key : KeepsKey dater
date_keeps_key = record { key_length = refl; hash = refl; key_words = refl }

say_keeps_key : KeepsKey sayer
say_keeps_key = record { key_length = refl; hash = refl; key_words = refl }

free_keeps_key : KeepsKey freer
free_keeps_key = record { key_length = refl; hash = refl; key_words = refl }

say_keeps_item : KeepsItem sayer
say_keeps_item = record { flags = refl; expiry = refl; value_length = refl; value_words = refl }

free_keeps_item : KeepsItem freer
free_keeps_item = record { flags = refl; expiry = refl; value_length = refl; value_words = refl }

uniques_keep : KeepsBegun uniques_loader
uniques_keep = record { words = refl; out = refl; stage = refl; constants = record { none = refl; moment = refl; one = refl; to_expiry = refl; wide = refl; ends = refl }; noreply = refl }

uniques_keep_item : KeepsItem uniques_loader
uniques_keep_item = record { flags = refl; expiry = refl; value_length = refl; value_words = refl }

stored_line : line (codes "STORED") ≡ text_line stored_text
unfolding text_line
stored_line = refl

not_stored_line : line (codes "NOT_STORED") ≡ text_line not_stored_text
unfolding text_line
not_stored_line = refl

exists_line : line (codes "EXISTS") ≡ text_line exists_text
unfolding text_line
exists_line = refl

not_found_line : line (codes "NOT_FOUND") ≡ text_line not_found_text
unfolding text_line
not_found_line = refl

out_of_memory_line : line (codes "SERVER_ERROR out of memory storing object") ≡ text_line out_of_memory_text
unfolding text_line
out_of_memory_line = refl

module _ (g : Geometry) (e : Given) (ws : List ℕ) (b : Bucket) (c : Call) (w : ℕ) (can : CanAnswer g e ws b c w) where
  -- the item that the call spells
  abbrev item : Item
  item = item_of_call (seen_in (room_of g) b) c

  abbrev IsLoaded : RunState → Type 0
  IsLoaded s = HasLoaded e.input block_index w g item s

  abbrev made : Outcome
  made = record { change = Make item; reply = line (codes "STORED") }

  abbrev refused : Outcome
  refused = reply_only (line (codes "SERVER_ERROR out of memory storing object"))

  -- after a text was said the words are as they were
  said_still : (s t : RunState) → Framed sayer s t → IsStill g ws b s → IsStill g ws b t
  said_still s t f q = still_framed sayer g ws b s t say_keeps refl refl f q

  may_read : (n : ℕ) → MayRender n → is_parsed n ≡ true
  may_read n h = open_is_parsed n (may_render_open n h)

  -- what the key has seen of the bucket
  abbrev seen : Seen
  seen = seen_in (room_of g) b

  -- a text is the answer, and nothing changes
  refuse_ends : (s : RunState) (n bound : ℕ) → n < text_count → outcome_at g b c ≡ reply_only (text_line n) → IsStill g ws b s → MayReply c s → s.steps + 5 ≤ bound → Ends e (refuse n) s (Answered g b c w bound)
  refuse_ends s n bound known row q m steps =
      let low = s.steps + 5 in
      seq e sayer (answer_text n) keep_program s (Replied g b c w low) (Answered g b c w bound) refl
      (text_replies g e b c w n s low known (ap (λ (o : Outcome). o.reply) row) m (omega (arith, can.out_room)) (omega arith))
      (λ t f d.
      let k = said_still s t f q in
      answered g e b c w storer keep_program Keep t low bound t.stores refl refl refl (ap (λ (o : Outcome). o.change) row) k.may d
      (keep_ends g e ws b c.key can.stands t bound t.stores k.same (omega arith) (omega (arith, d.steps, steps))))

  -- the item of the key is replaced
  replaced_ends : (s : RunState) (old : Item) (bound : ℕ) → outcome_at g b c ≡ storing seen c → IsStill g ws b s → MayReply c s → IsLoaded s → IsPresent g ws b c.key old (s.regs r_place) → s.steps + 5 * w + 40 ≤ bound → Ends e store_present s (Answered g b c w bound)
  replaced_ends s old bound row q m loaded p steps =
      let low = s.steps + 5 in
      seq e sayer (answer_text stored_text) (draw_program block_index) s (Replied g b c w low) (Answered g b c w bound) refl
      (text_replies g e b c w stored_text s low (omega arith) (ap (λ (o : Outcome). o.reply) row ∙ stored_line) m (omega (arith, can.out_room)) (omega arith))
      (λ t f d.
      let k = said_still s t f q in
      let there : IsPresent g ws b c.key old (t.regs r_place) = subst (IsPresent g ws b c.key old) (sym (f.regs r_place refl)) p in
      answered g e b c w storer (draw_program block_index) (Draw item) t low bound (6 + w) refl refl refl (ap (λ (o : Outcome). o.change) row) k.may d
      (draw_ends g e ws b c.key old item block_index w can.valid can.stands t bound (6 + w) there (item_framed sayer e.input block_index w g item s t say_keeps_item f loaded) refl
      (may_read t.stage k.may) k.same k.constants k.low (omega (arith, k.few)) (omega (arith, can.log_room)) (omega (arith, d.steps, steps))))

  -- a new item is made in a free slot
  given_ends : (s : RunState) (bound : ℕ) → outcome_at g b c ≡ adding seen c → 1 ≤ length c.key → IsStill g ws b s → MayReply c s → HasKeyLoaded c.key s → IsLoaded s → lookup c.key b.items ≡ None → IsGiven g ws b.moment (s.regs r_place) → s.steps + 5 * w + 210 ≤ bound →
      Ends e (Seq (answer_text stored_text) (make_program block_index)) s (Answered g b c w bound)
  given_ends s bound is some q m keyed loaded gone given steps =
      let low = s.steps + 5 in
      let few : nat_lt (length b.items) g.slots ≡ true = lt-ltb _ _ (not_full g ws b can.stands given.slot given.within (free_not_taken g ws b.moment given.slot given.free)) in
      let row : outcome_at g b c ≡ made = is ∙ ap (λ t. if t then made else refused) few in
      seq e sayer (answer_text stored_text) (make_program block_index) s (Replied g b c w low) (Answered g b c w bound) refl
      (text_replies g e b c w stored_text s low (omega arith) (ap (λ (o : Outcome). o.reply) row ∙ stored_line) m (omega (arith, can.out_room)) (omega arith))
      (λ t f d.
      let k = said_still s t f q in
      let there : IsGiven g ws b.moment (t.regs r_place) = subst (IsGiven g ws b.moment) (sym (f.regs r_place refl)) given in
      answered g e b c w storer (make_program block_index) (Make item) t low bound (41 + w) refl refl refl (ap (λ (o : Outcome). o.change) row) k.may d
      (make_ends g e ws b c.key item block_index w can.valid can.stands (can.call.key (some_key c.key some)) some gone t bound (41 + w) there
      (key_framed sayer c.key s t say_keeps_key f keyed) (item_framed sayer e.input block_index w g item s t say_keeps_item f loaded) refl
      (may_read t.stage k.may) k.same k.constants k.low (omega (arith, k.few)) (omega (arith, can.log_room, can.valid.some_slots)) (omega (arith, d.steps, steps))))

  -- no slot is free
  full_row : outcome_at g b c ≡ adding seen c → IsFull g ws b.moment → outcome_at g b c ≡ reply_only (text_line out_of_memory_text)
  full_row is all =
      let many : nat_lt (length b.items) g.slots ≡ false = le-ltb _ _ (omega (arith, full g ws b can.stands all)) in
      is ∙ ap (λ t. if t then made else refused) many ∙ ap reply_only out_of_memory_line

  -- Either side of a command, from the item that is loaded to its end.

  -- a program for a key that has an item
  abbrev EndsPresent : Prog → Type 0
  EndsPresent p = (s : RunState) (old : Item) (bound : ℕ) → HasBegun g ws b c s → IsLoaded s → IsPresent g ws b c.key old (s.regs r_place) → s.steps + 5 * w + 60 ≤ bound → Ends e p s (Answered g b c w bound)

  -- a program for a key that has none
  abbrev EndsAbsent : Prog → Type 0
  EndsAbsent p = (s : RunState) (bound : ℕ) → HasBegun g ws b c s → HasKeyLoaded c.key s → IsLoaded s → lookup c.key b.items ≡ None → s.steps + 3 * g.slots + 5 * w + 230 ≤ bound → bound ≤ e.budget → Ends e p s (Answered g b c w bound)

  -- what the call comes to, if the key has an item, or none
  abbrev IfPresent : (Item → Outcome) → Type 0
  IfPresent o = (old : Item) → lookup c.key b.items ≡ Some old → outcome_at g b c ≡ o old

  abbrev IfAbsent : Outcome → Type 0
  IfAbsent o = lookup c.key b.items ≡ None → outcome_at g b c ≡ o

  present_refuses : (n : ℕ) → n < text_count → IfPresent (λ old. reply_only (text_line n)) → EndsPresent (refuse n)
  present_refuses n known row s old bound h loaded p steps = refuse_ends s n bound known (row old p.item) (begun_still g ws b c s h) (begun_replies g ws b c s h) (omega (arith, steps))

  absent_refuses : (n : ℕ) → n < text_count → IfAbsent (reply_only (text_line n)) → EndsAbsent (refuse n)
  absent_refuses n known row s bound h keyed loaded gone steps within = refuse_ends s n bound known (row gone) (begun_still g ws b c s h) (begun_replies g ws b c s h) (omega (arith, steps))

  present_stores : IfPresent (λ old. storing seen c) → EndsPresent store_present
  present_stores row s old bound h loaded p steps = replaced_ends s old bound (row old p.item) (begun_still g ws b c s h) (begun_replies g ws b c s h) loaded p (omega (arith, steps))

  present_compares : IfPresent (λ old. comparing seen c old) → EndsPresent compare_present
  present_compares row s old bound h loaded p steps =
      let low = s.steps + 5 in
      let o = λ (same : Bool). if same then storing seen c else reply_only (line (codes "EXISTS")) in
      seq e uniques_loader load_uniques (IfEq r_word r_other store_present (refuse exists_text)) s (UniquesLoaded g e ws b c.key old can.valid can.stands c low) (Answered g b c w bound) refl
      (load_uniques_ends g e ws b c.key old can.valid can.stands s c low p can.call (ap is_parsed h.time) h.same (omega arith))
      (λ t f d.
      let ht = begun_framed uniques_loader g ws b c s t uniques_keep f h in (
        λ is. replaced_ends (tick t) old bound (row old p.item ∙ ap o (eq-eqb old.unique c.unique (sym d.of_item ∙ is ∙ d.of_call))) (begun_still g ws b c (tick t) ht) (begun_replies g ws b c (tick t) ht)
            (item_framed uniques_loader e.input block_index w g item s t uniques_keep_item f loaded) (subst (IsPresent g ws b c.key old) (sym (f.regs r_place refl)) p) (omega (arith, d.steps, steps)),
        λ ne. then_so e anything (refuse exists_text) (tick t) (Answered g b c w (bound - 1)) (λ u. Answered g b c w bound (tick u)) refl
            (λ u fu a. answered_tick g b c w (bound - 1) bound u (omega (arith, steps)) a)
            (refuse_ends (tick t) exists_text (bound - 1) (omega arith) (row old p.item ∙ ap o (ne_eqb old.unique c.unique (λ is. ne (d.of_item ∙ is ∙ sym d.of_call))) ∙ ap reply_only exists_line) (begun_still g ws b c (tick t) ht) (begun_replies g ws b c (tick t) ht) (omega (arith, d.steps, steps))),
      ))

  absent_stores : 1 ≤ length c.key → IfAbsent (adding seen c) → EndsAbsent store_absent
  absent_stores some row s bound h keyed loaded gone steps within =
      let low = s.steps + 3 * g.slots + 10 in
      let yes_part = Seq (answer_text stored_text) (make_program block_index) in
      let no_part = refuse out_of_memory_text in
      seq e freer free_program (IfLt r_place r_end yes_part no_part) s (Offered g ws b.moment low) (Answered g b c w bound) refl
      (free_ends g e ws b.moment can.valid can.fit s low h.time h.same h.constants (omega arith) (omega (arith, steps, within)))
      (λ t f d.
      let constants = constants_framed freer g b.moment s t free_keeps f h.constants in
      let q : IsStill g ws b (tick t) = record {
        same = f.words refl ∙ h.same;
        constants = constants;
        low = omega (arith, f.still refl, h.low);
        few = omega (arith, f.stores refl, h.few);
        may = ap may_render d.stage;
      } in
      let m : MayReply c (tick t) = record { stage = ap is_open d.stage; silent = f.emitted refl ∙ h.silent; empty = f.out refl ∙ h.empty; none = constants.none; noreply = f.regs r_noreply refl ∙ h.noreply } in
      let keyed' = key_framed freer c.key s t free_keeps_key f keyed in
      let loaded' = item_framed freer e.input block_index w g item s t free_keeps_item f loaded in
      elim d.answer [
        | inl given ↦ (
          λ lt. given_ends (tick t) bound (row gone) some q m keyed' loaded' gone given (omega (arith, d.steps, steps)),
          λ le. absurd (omega (arith, le, given.begins, constants.ends, slot_within g given.slot given.within, width_is g)),
        )
        | inr none ↦ (
          λ lt. absurd (omega (arith, lt, none.ends, constants.ends)),
          λ le. then_so e anything no_part (tick t) (Answered g b c w (bound - 1)) (λ u. Answered g b c w bound (tick u)) refl
              (λ u fu a. answered_tick g b c w (bound - 1) bound u (omega (arith, steps)) a)
              (refuse_ends (tick t) out_of_memory_text (bound - 1) (omega arith) (full_row (row gone) none.full) q m (omega (arith, d.steps, steps))),
        )
      ])

  -- the item stands in the registers
  is_loaded : (s t : RunState) (low high : ℕ) → CallLoaded c low s → Framed dater s t → Dated item.expiry high t → IsLoaded t
  is_loaded s t low high h f d =
      record {
        flags = f.regs r_flags refl ∙ h.flags;
        expiry = d.expiry;
        value_length = f.regs r_value_length refl ∙ h.value_length;
        value_words = f.regs r_value_words refl ∙ h.value_words;
        bytes = can.asked.block_bytes;
        fits = omega (arith, can.asked.block_short);
        few = can.block;
        stored = can.call.block.words;
        room = can.call.block.room;
        near = omega arith;
      }

  -- after the find
  found_ends : (p q : Prog) (s : RunState) (bound : ℕ) → EndsPresent p → EndsAbsent q → HasBegun g ws b c s → HasKeyLoaded c.key s → KeyFound g ws b c.key (s.regs r_place) → s.steps + 3 * g.slots + 5 * w + 270 ≤ bound → bound ≤ e.budget →
      Ends e (Seq load_call (Seq expiry_program (IfLt r_place r_end p q))) s (Answered g b c w bound)
  found_ends p q s bound present absent h keyed found steps within =
      let Q = Answered g b c w bound in
      let by_key = IfLt r_place r_end p q in
      let n = s.steps + 6 in
      seq e loader load_call (Seq expiry_program by_key) s (CallLoaded c n) Q refl
      (load_call_ends e s c n can.call (ap is_parsed h.time) (omega arith))
      (λ t f d.
      let ht = begun_framed loader g ws b c s t load_keeps f h in
      seq e dater expiry_program by_key t (Dated item.expiry (n + 20)) Q refl
      (expiry_ends e t c.negative b.moment c.exptime (n + 20) (ap is_parsed ht.time) ht.constants.none ht.constants.moment ht.constants.one (omega (arith, can.call.block.room)) can.call.negative can.call.exptime can.bounded.moment (omega (arith, d.steps)))
      (λ u fu du.
      let hu = begun_framed dater g ws b c t u date_keeps fu ht in
      let keyed' = key_framed dater c.key t u date_keeps_key fu (key_framed loader c.key s t load_keeps_key f keyed) in
      let loaded = is_loaded t u n (n + 20) d fu du in
      let found' : KeyFound g ws b c.key (u.regs r_place) = subst (KeyFound g ws b c.key) (sym (fu.regs r_place refl ∙ f.regs r_place refl)) found in
      by_key_ends g e ws b c.key p q u Q found' hu.constants
      (λ old there. present (tick u) old bound hu loaded there (omega (arith, du.steps, steps)))
      (λ gone. then_so e anything q (tick u) (Answered g b c w (bound - 1)) (λ v. Answered g b c w bound (tick v)) (any_program q)
      (λ v fv a. answered_tick g b c w (bound - 1) bound v (omega (arith, steps)) a)
      (absent (tick u) (bound - 1) hu keyed' loaded gone (omega (arith, du.steps, steps)) (omega (arith, within))))))

  store_by_answers : (p q : Prog) → 1 ≤ length c.key → EndsPresent p → EndsAbsent q → AnswersCall g e ws b c w (store_by p q)
  store_by_answers p q some present absent s bound h steps within =
      let low = s.steps + 300 * g.slots + 20 in
      seq e finding find_program (Seq load_call (Seq expiry_program (IfLt r_place r_end p q))) s (Sought g ws b c.key low) (Answered g b c w bound) refl
      (find_stands g e ws b c.key can.valid can.stands can.bounded (can.call.key (some_key c.key some)) some s low (ap is_parsed h.time) h.same h.constants (omega arith))
      (λ t f d. found_ends p q t bound present absent (begun_framed finding g ws b c s t find_keeps f h) d.loaded d.result (omega (arith, d.steps, steps)) within)

  -- what each command comes to, by its row of the model
  row_present : (v : Verb) → c.verb ≡ v → IfPresent (λ old. outcome_of seen c v (Some old))
  row_present v is old there = outcome_row g b c v (Some old) is there

  row_absent : (v : Verb) → c.verb ≡ v → IfAbsent (outcome_of seen c v None)
  row_absent v is gone = outcome_row g b c v None is gone

  ends_present : (which : Part) → c.verb ≡ verb_of which → EndsPresent (at_present which)
  ends_present part.Set is = present_stores (row_present Set is)
  ends_present part.Add is = present_refuses not_stored_text (omega arith) (λ old there. row_present Add is old there ∙ ap reply_only not_stored_line)
  ends_present part.Replace is = present_stores (row_present Replace is)
  ends_present part.Cas is = present_compares (row_present Cas is)

  ends_absent : (which : Part) → 1 ≤ length c.key → c.verb ≡ verb_of which → EndsAbsent (at_absent which)
  ends_absent part.Set some is = absent_stores some (row_absent Set is)
  ends_absent part.Add some is = absent_stores some (row_absent Add is)
  ends_absent part.Replace some is = absent_refuses not_stored_text (omega arith) (λ gone. row_absent Replace is gone ∙ ap reply_only not_stored_line)
  ends_absent part.Cas some is = absent_refuses not_found_text (omega arith) (λ gone. row_absent Cas is gone ∙ ap reply_only not_found_line)

-- each part answers its calls
pub parts_answer : (which : Part) → AnswersCalls (IsCallOf which) (part_program which)
parts_answer which g e ws b c w can of =
    store_by_answers g e ws b c w can (at_present which) (at_absent which) of.1 (ends_present g e ws b c w can which of.0) (ends_absent g e ws b c w can which of.1 of.0)
