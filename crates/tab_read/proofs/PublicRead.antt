-- What the commands that read or remove an item answer, and the fixed texts.
use Rattle.std.proofs.Common.{◌≡◌, ℕ, ◌+◌, ◌*◌, ◌<◌, ◌≤◌, Bool, List, [], ◌∷◌, ◌++◌, length, Some, None, refl, sym, ap, ◌∙◌, subst, arith}
use Rattle.std.specs.Prelude.{false, true, codes, nat_eq, ◌||◌, if◌then◌else◌}
use Rattle.mc_model.specs.declared.geometry.Geometry.{Geometry}
use Rattle.mc_model.specs.declared.call.Verb.{Verb}
use Rattle.mc_model.specs.declared.call.Verb.TheVariants as verb
use Rattle.mc_model.specs.declared.call.Verb.TheVariants.{Get, Gets, Gat, Gats, Delete, Flush, Fixed}
use Rattle.mc_model.specs.declared.outcome.Change.TheVariants.{Keep, Put, Remove, Clear}
use Rattle.mc_model.specs.Answer.{seen_in}
use Rattle.mc_model.specs.Bucket.{Item, Bucket, lookup}
use Rattle.mc_model.specs.Call.{Call}
use Rattle.mc_model.specs.Items.{item_with_expiry}
use Rattle.mc_model.specs.Outcome.{Outcome, reply_only, outcome_of}
use Rattle.mc_model.specs.Packed.{words_for}
use Rattle.mc_model.specs.Replies.{value_text, end_text}
use Rattle.mc_model.specs.Server.{room_of}
use Rattle.mc_model.specs.Texts.{line, text_line, text_count, deleted_text, touched_text, okay_text, not_found_text, end_text_number}
use Rattle.mc_model.proofs.PublicPacking.{length_pack}
use Rattle.mc_render.specs.Outputs.{text_kind}
use Rattle.sei_stmt.specs.declared.stmt.Stmt.TheVariants.{Const, Input, Emit}
use Rattle.sei_stmt.specs.Order.{is_open, is_parsed, may_render}
use Rattle.sei_stmt.specs.Runs.{Given, RunState, tick}
use Rattle.sei_stmt.specs.Programs.{Prog, Block, Seq, IfLt, Ends}
use Rattle.sei_stmt.specs.Touch.{Touch}
use Rattle.sei_stmt.proofs.Public.{seq, then_so, may_render_open, open_is_parsed}
use Rattle.tab_find.specs.Answers.{CanAnswer, HasBegun, outcome_at, reply_at, Renders, Replied, Answered, AnswersCall, AnswersCalls, AtKey}
use Rattle.tab_find.specs.Found.{IsPresent, HasKeyLoaded, Sought}
use Rattle.tab_find.specs.Inputs.{text_index}
use Rattle.tab_find.specs.FindPrograms.{find_program}
use Rattle.tab_find.specs.Registers.{r_zero, r_one, r_place, r_end, r_address, r_index, r_number}
use Rattle.tab_find.specs.ShowPrograms.{if_wanted, answer_text}
use Rattle.tab_find.specs.StorePrograms.{expiry_program, keep_program, put_expiry_program, remove_program, clear_program}
use Rattle.tab_find.proofs.PublicAnswers.{outcome_row, renders_item, renders_last, renders_text, item_words, last_words, end_words, text_words, CanShow, begun_replies, Says, reply_ends, text_replies, answered, only_answered, KeepsConstants, IsStill, begun_still, still_framed, begun_framed, find_keeps, answered_tick, some_key, by_key_ends, input_word}
use Rattle.tab_find.proofs.PublicShowing.{Made, sayer}
use Rattle.tab_find.proofs.PublicFinding.{finding, find_stands, item_numbered}
use Rattle.tab_find.proofs.PublicStoring.{storer, dater, Dated, expiry_ends, keep_ends, put_expiry_ends, remove_ends, clear_ends}
use Rattle.tab_read.specs.declared.commands.Part.{Part}
use Rattle.tab_read.specs.declared.commands.Part.TheVariants as part
use Rattle.tab_read.specs.Programs.{expire, show_item, say_last, show_end, read_by, change_by, flush_program, fixed_program, part_program, IsCallOf}
use Rattle.tab_read.proofs.ShowEnds.{shower, show_item_ends, say_last_ends}

deleted_line : line (codes "DELETED") ≡ text_line deleted_text
unfolding text_line
deleted_line = refl

not_found_line : line (codes "NOT_FOUND") ≡ text_line not_found_text
unfolding text_line
not_found_line = refl

touched_line : line (codes "TOUCHED") ≡ text_line touched_text
unfolding text_line
touched_line = refl

end_line : line (codes "END") ≡ text_line end_text_number
unfolding text_line
end_line = refl

end_is : (last : Bool) → end_text last ≡ (if last then text_line end_text_number else [])
end_is true = end_line
end_is false = refl

okay_line : line (codes "OK") ≡ text_line okay_text
unfolding text_line
okay_line = refl

okay_is : (last : Bool) → (if last then line (codes "OK") else []) ≡ (if last then text_line okay_text else [])
okay_is true = okay_line
okay_is false = refl

-- What each program keeps.

say_keeps : KeepsConstants sayer
say_keeps = record { none = refl; moment = refl; one = refl; to_expiry = refl; wide = refl; ends = refl }

show_keeps : KeepsConstants shower
show_keeps = record { none = refl; moment = refl; one = refl; to_expiry = refl; wide = refl; ends = refl }

date_keeps : KeepsConstants dater
date_keeps = record { none = refl; moment = refl; one = refl; to_expiry = refl; wide = refl; ends = refl }

text_said : (out : List ℕ) (kind n : ℕ) → out ≡ [] → kind ≡ text_kind → (out ++ kind ∷ []) ++ n ∷ [] ≡ text_words n
text_said out kind n empty is = rw (empty, is) refl

-- words alone
abbrev remover : Touch
remover = record { regs = λ r. false; words = true; out = false; stage = false }

-- an address, and words
abbrev expirer : Touch
expirer = record { regs = λ r. nat_eq r r_address; words = true; out = false; stage = false }

-- the number of a text, and output words
abbrev teller : Touch
teller = record { regs = λ r. nat_eq r r_index || nat_eq r r_number; words = false; out = true; stage = false }

-- no register, no word, no output
abbrev nothing : Touch
nothing = record { regs = λ r. false; words = false; out = false; stage = false }

module _ (g : Geometry) (e : Given) (ws : List ℕ) (b : Bucket) (c : Call) (w : ℕ) (can : CanAnswer g e ws b c w) where
  -- the find, and then what follows by what the key has
  by_key : (p q : Prog) (s : RunState) (more bound : ℕ) → 1 ≤ length c.key → HasBegun g ws b c s → s.steps + 300 * g.slots + 21 + more ≤ bound →
      ((t : RunState) (x : Item) → t.steps + more ≤ bound → HasBegun g ws b c t → HasKeyLoaded c.key t → IsPresent g ws b c.key x (t.regs r_place) → Ends e p t (Answered g b c w bound)) →
      ((t : RunState) → t.steps + more ≤ bound → HasBegun g ws b c t → lookup c.key b.items ≡ None → Ends e q t (λ u. Answered g b c w bound (tick u))) →
      Ends e (Seq find_program (IfLt r_place r_end p q)) s (Answered g b c w bound)
  by_key p q s more bound some h steps present absent =
      let low = s.steps + 300 * g.slots + 20 in
      seq e finding find_program (IfLt r_place r_end p q) s (Sought g ws b c.key low) (Answered g b c w bound) refl
      (find_stands g e ws b c.key can.valid can.stands can.bounded (can.call.key (some_key c.key some)) some s low (ap is_parsed h.time) h.same h.constants (omega arith))
      (λ t f d.
      let begun = begun_framed finding g ws b c s t find_keeps f h in
      by_key_ends g e ws b c.key p q t (Answered g b c w bound) d.result begun.constants
      (λ x there. present (tick t) x (omega (arith, d.steps, steps)) begun d.loaded there)
      (λ gone. absent (tick t) (omega (arith, d.steps, steps)) begun gone))

  -- The change after the reply.

  -- a program that changes the item of the key, or leaves it
  abbrev EndsChange : Prog → Type 0
  EndsChange p = (s : RunState) (x : Item) (low bound : ℕ) → IsStill g ws b s → IsPresent g ws b c.key x (s.regs r_place) → Replied g b c w low s → low + 30 ≤ bound → Ends e p s (Answered g b c w bound)

  -- what the call comes to, if the key has an item, or none
  abbrev IfPresent : (Item → Outcome) → Type 0
  IfPresent o = (x : Item) → lookup c.key b.items ≡ Some x → outcome_at g b c ≡ o x

  abbrev IfAbsent : Outcome → Type 0
  IfAbsent o = lookup c.key b.items ≡ None → outcome_at g b c ≡ o

  row_present : (v : Verb) → c.verb ≡ v → IfPresent (λ x. outcome_of (seen_in (room_of g) b) c v (Some x))
  row_present v is x there = outcome_row g b c v (Some x) is there

  row_absent : (v : Verb) → c.verb ≡ v → IfAbsent (outcome_of (seen_in (room_of g) b) c v None)
  row_absent v is gone = outcome_row g b c v None is gone

  keeps : (o : Item → Outcome) → IfPresent o → ((x : Item) → (o x).change ≡ Keep) → EndsChange keep_program
  keeps o row is s x low bound q p r steps =
      answered g e b c w nothing keep_program Keep s low bound s.stores refl refl refl (ap (λ (y : Outcome). y.change) (row x p.item) ∙ is x) q.may r
      (keep_ends g e ws b c.key can.stands s bound s.stores q.same (omega arith) (omega (arith, r.steps, steps)))

  removes : (o : Item → Outcome) → IfPresent o → ((x : Item) → (o x).change ≡ Remove) → EndsChange remove_program
  removes o row is s x low bound q p r steps =
      answered g e b c w remover remove_program Remove s low bound 2 refl refl refl (ap (λ (y : Outcome). y.change) (row x p.item) ∙ is x) q.may r
      (remove_ends g e ws b c.key x can.stands s bound 2 p q.same q.constants q.low (omega (arith, q.few)) (omega (arith, can.log_room)) (omega (arith, r.steps, steps)))

  expires : (o : Item → Outcome) → IfPresent o → ((x : Item) → (o x).change ≡ Put (item_with_expiry (seen_in (room_of g) b) c x)) → EndsChange expire
  expires o row is s x low bound q p r steps =
      let y = item_with_expiry (seen_in (room_of g) b) c x in
      seq e dater expiry_program put_expiry_program s (Dated y.expiry (low + 20)) (Answered g b c w bound) refl
      (expiry_ends e s c.negative b.moment c.exptime (low + 20) (open_is_parsed s.stage (may_render_open s.stage q.may)) q.constants.none q.constants.moment q.constants.one (omega (arith, can.call.block.room)) can.call.negative can.call.exptime can.bounded.moment (omega (arith, r.steps)))
      (λ t f d.
      let k = still_framed dater g ws b s t date_keeps refl refl f q in
      let there : IsPresent g ws b c.key x (t.regs r_place) = subst (IsPresent g ws b c.key x) (sym (f.regs r_place refl)) p in
      let said : Replied g b c w (low + 20) t = record { steps = d.steps; reply = subst (λ out. Renders g w out (reply_at g b c)) (sym (f.out refl)) r.reply } in
      answered g e b c w expirer put_expiry_program (Put y) t (low + 20) bound 2 refl refl refl (ap (λ (z : Outcome). z.change) (row x p.item) ∙ is x) k.may said
      (put_expiry_ends g e ws b c.key x y.expiry can.valid can.stands t bound 2 there d.expiry k.same k.constants k.low (omega (arith, k.few)) (omega (arith, can.log_room)) (omega (arith, d.steps, steps))))

  -- The item of the key, and perhaps the end.

  can_show : (x : Item) (place : ℕ) → 1 ≤ length c.key → IsPresent g ws b c.key x place → CanShow g w c.key x
  can_show x place some p =
      let small = item_numbered b c.key x can.bounded p.item in
      record {
        key_bytes = p.reads.key_bytes;
        some_key = some;
        short_key = can.asked.key_short;
        bytes = p.reads.value_bytes;
        fits = omega (arith, p.reads.value.fits, length_pack x.value);
        short = omega (arith, can.value x p.item);
        flags = small.flags;
        unique = small.unique;
      }

  item_said : (shown : Bool) (s : RunState) (x : Item) (bound : ℕ) → (outcome_at g b c).reply ≡ value_text shown c.key x ++ end_text c.last → 1 ≤ length c.key → HasBegun g ws b c s → HasKeyLoaded c.key s → IsPresent g ws b c.key x (s.regs r_place) → s.steps + 5 * w + 200 ≤ bound →
      Ends e (if_wanted (Seq (show_item shown) show_end)) s (Replied g b c w bound)
  item_said shown s x bound row some h loaded p steps =
      let reply = value_text shown c.key x ++ end_text c.last in
      let words = item_words shown c.key x in
      let few : words_for (length x.value) ≤ w = can.value x p.item in
      let short : words_for (length c.key) ≤ 32 = omega (arith, can.asked.key_short) in
      reply_ends g e b c w reply (Seq (show_item shown) show_end) s bound row (begun_replies g ws b c s h) (omega (arith, steps))
      (λ loud. seq e shower (show_item shown) show_end (tick s) (Made words (s.steps + 5 * w + 160) (38 + w)) (Says g w reply bound) refl
      (show_item_ends g e ws b c.key x shown can.valid can.stands some (tick s) (s.steps + 5 * w + 160) (38 + w) p loaded h.constants h.same
      (record { stage = ap is_open h.time; made = h.empty; few = omega (arith, h.silent, few, short); fits = omega (arith, can.out_room) }) (omega (arith, few, short)))
      (λ t f d. then_so e shower show_end t (Made (words ++ end_words c.last) bound (40 + w)) (Says g w reply bound) refl
      (λ u fu du. record { steps = du.steps; renders = subst (λ out. Renders g w out reply) (sym du.made) (renders_item g w shown c.key x c.last can.valid (can_show x (s.regs r_place) some p)) })
      (say_last_ends e c t end_text_number c.last words bound (40 + w) can.call refl (f.regs r_zero refl ∙ h.constants.none) (f.regs r_one refl ∙ h.constants.one)
      (record { stage = ap is_open (f.stage refl ∙ h.time); made = d.made; few = omega (arith, d.emitted); fits = omega (arith, can.out_room) }) (omega (arith, d.steps, steps)))))

  -- a text alone, after the last call of the request
  last_said : (s : RunState) (n bound : ℕ) → n < text_count → (outcome_at g b c).reply ≡ (if c.last then text_line n else []) → HasBegun g ws b c s → s.steps + 10 ≤ bound → Ends e (if_wanted (say_last n)) s (Replied g b c w bound)
  last_said s n bound known row h steps =
      let reply = if c.last then text_line n else [] in
      reply_ends g e b c w reply (say_last n) s bound row (begun_replies g ws b c s h) (omega (arith, steps))
      (λ loud. then_so e shower (say_last n) (tick s) (Made (last_words n c.last) bound 2) (Says g w reply bound) refl
      (λ t f d. record { steps = d.steps; renders = subst (λ out. Renders g w out reply) (sym d.made) (renders_last g w n c.last known) })
      (say_last_ends e c (tick s) n c.last [] bound 2 can.call refl h.constants.none h.constants.one
      (record { stage = ap is_open h.time; made = h.empty; few = omega (arith, h.silent); fits = omega (arith, can.out_room) }) (omega (arith, steps))))

  -- The commands.

  read_answers : (shown : Bool) (p : Prog) → 1 ≤ length c.key → ((x : Item) → lookup c.key b.items ≡ Some x → (outcome_at g b c).reply ≡ value_text shown c.key x ++ end_text c.last) → IfAbsent (reply_only (end_text c.last)) → EndsChange p →
      AnswersCall g e ws b c w (read_by shown p)
  read_answers shown p some present absent change s bound h steps within =
      by_key (Seq (if_wanted (Seq (show_item shown) show_end)) p) (if_wanted show_end) s (5 * w + 240) bound some h (omega (arith, steps))
      (λ t x left ht loaded there.
      let low = t.steps + 5 * w + 200 in
      seq e shower (if_wanted (Seq (show_item shown) show_end)) p t (Replied g b c w low) (Answered g b c w bound) refl
      (item_said shown t x low (present x there.item) some ht loaded there (omega arith))
      (λ u f d. change u x low bound (still_framed shower g ws b t u show_keeps refl refl f (begun_still g ws b c t ht)) (subst (IsPresent g ws b c.key x) (sym (f.regs r_place refl)) there) d (omega (arith, left))))
      (λ t left ht gone.
      let low = t.steps + 10 in
      then_so e shower (if_wanted show_end) t (Answered g b c w low) (λ u. Answered g b c w bound (tick u)) refl
      (λ u f a. answered_tick g b c w low bound u (omega (arith, left)) a)
      (only_answered g e ws b c w shower (if_wanted show_end) t low refl refl refl can.stands ht.same (ap (λ (o : Outcome). o.change) (absent gone)) (ap may_render ht.time)
      (last_said t end_text_number low (omega arith) (ap (λ (o : Outcome). o.reply) (absent gone) ∙ end_is c.last) ht (omega arith))))

  change_answers : (n : ℕ) (p : Prog) → n < text_count → 1 ≤ length c.key → ((x : Item) → lookup c.key b.items ≡ Some x → (outcome_at g b c).reply ≡ text_line n) → IfAbsent (reply_only (text_line not_found_text)) → EndsChange p →
      AnswersCall g e ws b c w (change_by n p)
  change_answers n p known some present absent change s bound h steps within =
      by_key (Seq (answer_text n) p) (answer_text not_found_text) s 50 bound some h (omega (arith, steps))
      (λ t x left ht loaded there.
      let low = t.steps + 10 in
      seq e sayer (answer_text n) p t (Replied g b c w low) (Answered g b c w bound) refl
      (text_replies g e b c w n t low known (present x there.item) (begun_replies g ws b c t ht) (omega (arith, can.out_room)) (omega arith))
      (λ u f d. change u x low bound (still_framed sayer g ws b t u say_keeps refl refl f (begun_still g ws b c t ht)) (subst (IsPresent g ws b c.key x) (sym (f.regs r_place refl)) there) d (omega (arith, left))))
      (λ t left ht gone.
      let low = t.steps + 10 in
      then_so e sayer (answer_text not_found_text) t (Answered g b c w low) (λ u. Answered g b c w bound (tick u)) refl
      (λ u f a. answered_tick g b c w low bound u (omega (arith, left)) a)
      (only_answered g e ws b c w sayer (answer_text not_found_text) t low refl refl refl can.stands ht.same (ap (λ (o : Outcome). o.change) (absent gone)) (ap may_render ht.time)
      (text_replies g e b c w not_found_text t low (omega arith) (ap (λ (o : Outcome). o.reply) (absent gone)) (begun_replies g ws b c t ht) (omega (arith, can.out_room)) (omega arith))))

  -- the replies of the rows
  shows : (shown : Bool) (o : Item → Outcome) → IfPresent o → ((x : Item) → (o x).reply ≡ value_text shown c.key x ++ end_text c.last) → (x : Item) → lookup c.key b.items ≡ Some x → (outcome_at g b c).reply ≡ value_text shown c.key x ++ end_text c.last
  shows shown o row is x there = ap (λ (y : Outcome). y.reply) (row x there) ∙ is x

  says : (n : ℕ) (o : Item → Outcome) → IfPresent o → ((x : Item) → (o x).reply ≡ text_line n) → (x : Item) → lookup c.key b.items ≡ Some x → (outcome_at g b c).reply ≡ text_line n
  says n o row is x there = ap (λ (y : Outcome). y.reply) (row x there) ∙ is x

  flush_answers : c.verb ≡ Flush → AnswersCall g e ws b c w flush_program
  flush_answers verb s bound h steps within =
      let low = s.steps + 10 in
      let row = outcome_row g b c Flush (lookup c.key b.items) verb refl in
      seq e shower (if_wanted (say_last okay_text)) clear_program s (Replied g b c w low) (Answered g b c w bound) refl
      (last_said s okay_text low (omega arith) (ap (λ (o : Outcome). o.reply) row ∙ okay_is c.last) h (omega arith))
      (λ t f d.
      let k = still_framed shower g ws b s t show_keeps refl refl f (begun_still g ws b c s h) in
      answered g e b c w storer clear_program Clear t low bound (1 + g.slots) refl refl refl (ap (λ (o : Outcome). o.change) row) k.may d
      (clear_ends g e ws b c.key can.valid can.stands t bound (1 + g.slots) k.same k.constants k.low (omega (arith, k.few)) (omega (arith, can.log_room)) (omega (arith, d.steps, steps))))

  -- a fixed text

  fixed_answers : c.verb ≡ Fixed → AnswersCall g e ws b c w fixed_program
  fixed_answers verb s bound h steps within =
      let row = outcome_row g b c Fixed (lookup c.key b.items) verb refl in
      let said = Block (Const r_index text_index ∷ Input r_number r_index ∷ Emit r_zero ∷ Emit r_number ∷ []) in
      only_answered g e ws b c w teller fixed_program s bound refl refl refl can.stands h.same (ap (λ (o : Outcome). o.change) row) (ap may_render h.time)
      (reply_ends g e b c w (text_line c.text) said s bound (ap (λ (o : Outcome). o.reply) row) (begun_replies g ws b c s h) (omega (arith, steps))
      (λ loud. (
        ap is_parsed h.time,
        c.text,
        input_word e.input c text_index c.text can.call (omega arith) can.call.text,
        (
          ap is_open h.time,
          omega (arith, h.silent, can.out_room),
          (
            ap is_open h.time,
            omega (arith, h.silent, can.out_room),
            record {
              steps = omega (arith, steps);
              renders = subst (λ out. Renders g w out (text_line c.text)) (sym (text_said s.out (s.regs r_zero) c.text h.empty h.constants.none)) (renders_text g w c.text can.asked.text);
            },
          ),
        ),
      )))

module _ (g : Geometry) (e : Given) (ws : List ℕ) (b : Bucket) (c : Call) (w : ℕ) (can : CanAnswer g e ws b c w) where
  abbrev of_verb : Verb → Item → Outcome
  of_verb v x = outcome_of (seen_in (room_of g) b) c v (Some x)

  -- a command that shows the item of its key
  reads : (v : Verb) (shown : Bool) (p : Prog) → AtKey v c → ((x : Item) → (of_verb v x).reply ≡ value_text shown c.key x ++ end_text c.last) → outcome_of (seen_in (room_of g) b) c v None ≡ reply_only (end_text c.last) → EndsChange g e ws b c w can p →
      AnswersCall g e ws b c w (read_by shown p)
  reads v shown p (is, some) says_so ends_so change =
      read_answers g e ws b c w can shown p some (shows g e ws b c w can shown (of_verb v) (row_present g e ws b c w can v is) says_so) (λ gone. row_absent g e ws b c w can v is gone ∙ ends_so) change

  -- a command that changes it, and says so
  changes : (v : Verb) (n : ℕ) (p : Prog) → n < text_count → AtKey v c → ((x : Item) → (of_verb v x).reply ≡ text_line n) → outcome_of (seen_in (room_of g) b) c v None ≡ reply_only (line (codes "NOT_FOUND")) → EndsChange g e ws b c w can p →
      AnswersCall g e ws b c w (change_by n p)
  changes v n p known (is, some) says_so ends_so change =
      change_answers g e ws b c w can n p known some (says g e ws b c w can n (of_verb v) (row_present g e ws b c w can v is) says_so) (λ gone. row_absent g e ws b c w can v is gone ∙ ends_so ∙ ap reply_only not_found_line) change

-- each part answers its calls
pub parts_answer : (which : Part) → AnswersCalls (IsCallOf which) (part_program which)
parts_answer part.Get g e ws b c w can of = reads g e ws b c w can Get false keep_program of (λ x. refl) refl (keeps g e ws b c w can (of_verb g e ws b c w can Get) (row_present g e ws b c w can Get of.0) (λ x. refl))
parts_answer part.Gets g e ws b c w can of = reads g e ws b c w can Gets true keep_program of (λ x. refl) refl (keeps g e ws b c w can (of_verb g e ws b c w can Gets) (row_present g e ws b c w can Gets of.0) (λ x. refl))
parts_answer part.Gat g e ws b c w can of = reads g e ws b c w can Gat false expire of (λ x. refl) refl (expires g e ws b c w can (of_verb g e ws b c w can Gat) (row_present g e ws b c w can Gat of.0) (λ x. refl))
parts_answer part.Gats g e ws b c w can of = reads g e ws b c w can Gats true expire of (λ x. refl) refl (expires g e ws b c w can (of_verb g e ws b c w can Gats) (row_present g e ws b c w can Gats of.0) (λ x. refl))
parts_answer part.Touch g e ws b c w can of = changes g e ws b c w can verb.Touch touched_text expire (omega arith) of (λ x. touched_line) refl (expires g e ws b c w can (of_verb g e ws b c w can verb.Touch) (row_present g e ws b c w can verb.Touch of.0) (λ x. refl))
parts_answer part.Delete g e ws b c w can of = changes g e ws b c w can Delete deleted_text remove_program (omega arith) of (λ x. deleted_line) refl (removes g e ws b c w can (of_verb g e ws b c w can Delete) (row_present g e ws b c w can Delete of.0) (λ x. refl))
parts_answer part.Flush g e ws b c w can of = flush_answers g e ws b c w can of
parts_answer part.Fixed g e ws b c w can of = fixed_answers g e ws b c w can of
