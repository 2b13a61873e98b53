-- The acts of Restore, Compare and Verify without a strike.
use Rattle.std.proofs.Common.{◌≡◌, ◌⊎◌, inl, inr, ℕ, suc, ◌+◌, ◌*◌, ◌-◌, ◌%◌, ◌^◌, ◌<◌, ◌≤◌, Bool, true, List, [], ◌∷◌, length, get_or, Option, Some, None, ap, sym, ◌∙◌, arith, refl, subst}
use Rattle.std.specs.Prelude.{if◌then◌else◌, max, slice_get}
use Rattle.std.specs.declared.result.Result.{Result}
use Rattle.std.specs.declared.result.Result.TheVariants.{Ok}
use Rattle.std.proofs.lemmas.Bool.{cases_lt}
use Rattle.std.proofs.lemmas.Option.{same_Some, slice_get-get_or}
use Rattle.sei_code.specs.declared.modes.Mode.TheVariants.{Plain as PlainMode}
use Rattle.sei_code.specs.Codes.{message_code}
use Rattle.sei_code.specs.Kept.{Kept, empty_kept}
use Rattle.sei_log.specs.Changes.{change_of}
use Rattle.sei_log.specs.declared.log.Change.{Change}
use Rattle.sei_log.specs.declared.notes.Notes.{Notes}
use Rattle.sei_gate.specs.Closing.{risen}
use Rattle.sei_fault.specs.declared.cause.AbortCause.{AbortCause}
use Rattle.sei_fault.specs.declared.place.Act.{Act}
use Rattle.sei_fault.specs.declared.place.Act.TheVariants.{Plain}
use Rattle.sei_fault.specs.declared.place.Phase.TheVariants.{Restore, Second, Compare, Verify, Enter}
use Rattle.sei_fault.specs.Phases.{phase_number}
use Rattle.sei_fault.specs.Tree.{Tree, honest, bound}
use Rattle.sei_fault.proofs.Public.{honest_bound}
use Rattle.sei_stmt.specs.Machine.{Machine, After}
use Rattle.sei_stmt.specs.Handling.{refilled}
use Rattle.sei_stmt.specs.Sound.{RisesFrom}
use Rattle.sei_pass.specs.State.{PassState, new_pass}
use Rattle.sei_restore.specs.Undoing.{LeadsTo, Undone, undo_at, restored}
use Rattle.sei_restore.proofs.Public.{restores}
use Rattle.sei_compare.specs.Comparing.{same_change, entry_tree, word_at, word_outcome, same_reply, codes_tree, is_message, wire_tree}
use Rattle.sei_compare.proofs.Public.{same_change-same, word_at-honest, word_outcome-same, same_reply-same, is_message-same}
use Rattle.sei_pass.specs.declared.given.Sealed.{Sealed}
use Rattle.sei_traverse.specs.declared.turned.Want.TheVariants.{Nothing}
use Rattle.sei_traverse.specs.declared.workspace.Ending.TheVariants.{Leads}
use Rattle.sei_traverse.specs.declared.workspace.Workspace.{Workspace}
use Rattle.sei_traverse.specs.Acts.{Acted, acted, at, closes}
use Rattle.sei_traverse.specs.Comes.{at_time}
use Rattle.sei_traverse.specs.CallContext.{CallContext, given_in, first_setting, first_start, Whole}
use Rattle.sei_traverse.specs.PassActs.{pass_of}
use Rattle.sei_traverse.specs.Phases.{undone_to, restore_tree, compared, entries_to, outputs_to, compare_tree, word_to, copy_bytes, wire_to, verify_copy, verify_tree}
use Rattle.sei_traverse.specs.Step.{plain_below}
use Rattle.sei_traverse.specs.Unstruck.{IsOf, before_restore, before_compare, before_verify, first_questions, InRestore, InBoth, InCompare, InVerify}
use Rattle.sei_traverse.proofs.Closes.{closed, closes_in_step}
use Rattle.sei_traverse.proofs.Branches.{below, not_below, same, other}
use Rattle.sei_traverse.proofs.GoesOn.{GoesOn}
use Rattle.sei_traverse.proofs.LogLaws.{leads, undo_step, verify_word, FirstFits, first_fits}

-- Parts of each act.

-- the workspace with these passes, logs and notes
abbrev parts : Workspace → PassState → Kept Change → Notes → PassState → Kept Change → Workspace
parts w first first_log notes second second_log = record w { first = first; first_log = first_log; notes = notes; second = second; second_log = second_log }

-- a workspace is known by its passes, logs and notes
is_parts : (w : Workspace) (first : PassState) (first_log : Kept Change) (notes : Notes) (second : PassState) (second_log : Kept Change) →
    w.first ≡ first → w.first_log ≡ first_log → w.notes ≡ notes → w.second ≡ second → w.second_log ≡ second_log → parts w first first_log notes second second_log ≡ w
is_parts w first first_log notes second second_log a b c d f =
    sym (ap (λ (x : PassState). parts w x w.first_log w.notes w.second w.second_log) a
    ∙ ap (λ (x : Kept Change). parts w first x w.notes w.second w.second_log) b
    ∙ ap (λ (x : Notes). parts w first first_log x w.second w.second_log) c
    ∙ ap (λ (x : PassState). parts w first first_log notes x w.second_log) d
    ∙ ap (λ (x : Kept Change). parts w first first_log notes second x) f)

site_below : (n i : ℕ) → i < n → plain_below n i ≡ Some Plain
site_below n i h = ap (λ (b : Bool). let o : Option Act = if b then Some Plain else None in o) (below i n h)

no_more : (n : ℕ) → 0 ≤ n
no_more n = omega arith

-- the log of the whole first pass leads from the words that were taken to those at its end
whole_leads : (e : CallContext) (time made : ℕ) (end : Machine) → Whole e time made end → LeadsTo e.taken end.log.items end.words
whole_leads e time made end whole =
    subst (λ (x : After). LeadsTo e.taken x.machine.log.items x.machine.words) whole.run.halts (leads (at_time (first_setting e) time) (first_start e) refl made)

-- and its first byte is below 256
whole_fits : (e : CallContext) (time made : ℕ) (end : Machine) → Whole e time made end → FirstFits end.bytes.items
whole_fits e time made end whole =
    subst (λ (x : After). FirstFits x.machine.bytes.items) whole.run.halts (first_fits (at_time (first_setting e) time) (first_start e) refl made)

-- Restore.

-- the workspace behind a first pass that ended with this machine
abbrev in_restore : CallContext → Workspace → Machine → Workspace
in_restore e w end = parts w (pass_of (new_pass e.space) end) end.log end.notes (new_pass e.space) (empty_kept Change e.space.log)

module _ (w : Workspace) (words : List ℕ) (index : ℕ) where
  abbrev undoing : List Change → Bool → Tree Acted
  undoing log more =
      if more then bound (undo_at words (slice_get log (length log - 1 - index))) (undone_to w index) else closes Restore w words Nothing (at Second 0)

  undo_acts : (u : Undone) → index < length w.first_log.items → honest (undo_at words (slice_get w.first_log.items (length w.first_log.items - 1 - index))) ≡ u →
      honest (restore_tree index w words) ≡ honest (undone_to w index u)
  undo_acts u h e =
      ap (λ (b : Bool). honest (undoing w.first_log.items b)) (below index (length w.first_log.items) h)
      ∙ honest_bound (undo_at words (slice_get w.first_log.items (length w.first_log.items - 1 - index))) (undone_to w index)
      ∙ ap (λ (u : Undone). honest (undone_to w index u)) e

  undo_closes : length w.first_log.items ≤ index → w.gate.done ≡ phase_number Restore → honest (restore_tree index w words) ≡ acted (closed w) words (Leads (at Second 0))
  undo_closes h e =
      ap (λ (b : Bool). honest (undoing w.first_log.items b)) (not_below index (length w.first_log.items) h) ∙ closes_in_step Restore w words (at Second 0) e

module _ (e : CallContext) (now : ℕ) (w : Workspace) (steps asked time made : ℕ) (end : Machine) (want : w.want ≡ Nothing) (whole : Whole e time made end) where
  undoes_one : IsOf e w Restore → w.place.index < length end.log.items → steps ≤ before_restore made + w.place.index → first_questions e time made ≤ asked →
      GoesOn e (given_in e) now Restore (in_restore e w end) (restored end.log.items end.words w.place.index) Some steps asked
  undoes_one is h number questions =
      let next : suc w.place.index ≡ w.place.index + 1 = omega arith in
      record {
        act = Plain;
        site = site_below (length end.log.items + 1) w.place.index (omega (arith, h));
        workspace = in_restore e w end;
        left = restored end.log.items end.words (suc w.place.index);
        to = at Restore (w.place.index + 1);
        next = tt;
        acts = undo_acts (in_restore e w end) (restored end.log.items end.words w.place.index) w.place.index _ h
            (undo_step e.taken end.log.items end.words w.place.index (whole_leads e time made end whole) h);
        want = want;
        more = 0;
        asks = no_more _;
        clean = record {
          is = record { sealed = is.sealed; gate = is.gate };
          time = time;
          made = made;
          end = end;
          whole = whole;
          first = record { first = refl; first_log = refl; notes = refl };
          second = record { second = refl; second_log = refl };
          index = omega (arith, h);
          words = ap (λ (n : ℕ). Some (restored end.log.items end.words n)) next;
          number = omega (arith, number);
          questions = omega (arith, questions);
        };
      }

  undoes_last : IsOf e w Restore → w.place.index ≡ length end.log.items → steps ≤ before_restore made + w.place.index → first_questions e time made ≤ asked →
      GoesOn e (given_in e) now Restore (in_restore e w end) (restored end.log.items end.words w.place.index) Some steps asked
  undoes_last is h number questions =
      let words : List ℕ = restored end.log.items end.words w.place.index in
      let back : words ≡ e.taken =
      ap (λ (n : ℕ). restored end.log.items end.words n) h ∙ restores e.taken end.log.items end.words (whole_leads e time made end whole) in
      record {
        act = Plain;
        site = site_below (length end.log.items + 1) w.place.index (omega (arith, h));
        workspace = closed (in_restore e w end);
        left = words;
        to = at Second 0;
        next = tt;
        acts = undo_closes (in_restore e w end) words w.place.index (omega (arith, h)) is.gate;
        want = refl;
        more = 0;
        asks = no_more _;
        clean = record {
          is = record { sealed = is.sealed; gate = ap (λ (n : ℕ). risen n) is.gate };
          time = time;
          made = made;
          end = end;
          whole = whole;
          first = record { first = refl; first_log = refl; notes = refl };
          space = refl;
          words = e.taken;
          lent_are = ap (λ (l : List ℕ). Some l) back;
          n = 0;
          within = no_more made;
          comes = refl;
          number = omega (arith, number, h);
          questions = omega (arith, questions);
        };
      }

-- each change is undone, and behind the last one the words that were taken are back
pub restore_on : (e : CallContext) (now : ℕ) (w : Workspace) (words : List ℕ) (steps asked : ℕ) → w.want ≡ Nothing → InRestore e w (Some words) steps asked →
    GoesOn e (given_in e) now Restore w words Some steps asked
restore_on e now w words steps asked want i =
    let end : Machine = i.end in
    let are : words ≡ restored end.log.items end.words w.place.index = same_Some words _ i.words in
    let known : in_restore e w end ≡ w = is_parts w _ _ _ _ _ i.first.first i.first.first_log i.first.notes i.second.second i.second.second_log in
    subst (λ (v : Workspace). GoesOn e (given_in e) now Restore v words Some steps asked) known
    (subst (λ (l : List ℕ). GoesOn e (given_in e) now Restore (in_restore e w end) l Some steps asked) (sym are) (by_order (cases_lt w.place.index (length end.log.items))))
  where
    by_order : (w.place.index < length i.end.log.items) ⊎ (length i.end.log.items ≤ w.place.index) →
        GoesOn e (given_in e) now Restore (in_restore e w i.end) (restored i.end.log.items i.end.words w.place.index) Some steps asked
    by_order (inl h) = undoes_one e now w steps asked i.time i.made i.end want i.whole i.is h i.number i.questions
    by_order (inr h) = undoes_last e now w steps asked i.time i.made i.end want i.whole i.is (omega (arith, h, i.index)) i.number i.questions

-- Compare.

-- the workspace behind both passes, which ended with this machine
abbrev in_both : CallContext → Workspace → Machine → Workspace
in_both e w end = parts w (pass_of (new_pass e.space) end) end.log end.notes (pass_of (new_pass e.space) end) end.log

is_both : (e : CallContext) (w : Workspace) (lent : Option (List ℕ)) (time made : ℕ) (end : Machine) (asked : ℕ) → InBoth e w lent time made end asked → in_both e w end ≡ w
is_both e w lent time made end asked b = is_parts w _ _ _ _ _ b.first.first b.first.first_log b.first.notes b.second.second b.second.second_log

-- what is shown of that workspace with the words at the end is shown of a workspace that stands there
from_both : (e : CallContext) (w : Workspace) (words : List ℕ) (time made : ℕ) (end : Machine) (asked : ℕ) (P : Workspace → List ℕ → Type 0) → InBoth e w (Some words) time made end asked →
    P (in_both e w end) end.words → P w words
from_both e w words time made end asked P b p =
    subst (λ (v : Workspace). P v words) (is_both e w (Some words) time made end asked b)
    (subst (λ (l : List ℕ). P (in_both e w end) l) (sym (same_Some words end.words b.words)) p)

-- both passes stand as they did behind an act that keeps them and the words
still_both : (e : CallContext) (w : Workspace) (time made : ℕ) (end : Machine) (asked : ℕ) → Whole e time made end → 2 * first_questions e time made ≤ asked →
    InBoth e (in_both e w end) (Some end.words) time made end (asked + 0)
still_both e w time made end asked whole questions = record {
  whole = whole;
  first = record { first = refl; first_log = refl; notes = refl };
  second = record { second = refl; second_log = refl };
  words = refl;
  questions = omega (arith, questions);
}

module _ (w : Workspace) (words : List ℕ) (index : ℕ) where
  abbrev comparing : Bool → Tree Acted
  comparing more =
      if more
      then bound (entry_tree w.first_log.items w.second_log.items index) (entries_to w words index)
      else bound (codes_tree w.first.code w.first.bytes.items w.second.code w.second.bytes.items) (outputs_to w words)

  entry_acts : index < compared w → same_change (slice_get w.first_log.items index) (slice_get w.second_log.items index) ≡ true →
      honest (compare_tree index w words) ≡ acted w words (Leads (at Compare (index + 1)))
  entry_acts h e = ap (λ (b : Bool). honest (comparing b)) (below index (compared w) h) ∙ ap (λ (b : Bool). honest (entries_to w words index b)) e

  outputs_close : compared w ≤ index → same_reply w.first.code w.first.bytes.items w.second.code w.second.bytes.items ≡ true → w.gate.done ≡ phase_number Compare →
      honest (compare_tree index w words) ≡ acted (closed w) words (Leads (at Verify 0))
  outputs_close h e gate =
      ap (λ (b : Bool). honest (comparing b)) (not_below index (compared w) h)
      ∙ ap (λ (b : Bool). honest (outputs_to w words b)) e
      ∙ closes_in_step Compare w words (at Verify 0) gate

no_change : Change
no_change = change_of 0 0 0

-- each entry of a log is itself
entry_same : (log : List Change) (i : ℕ) → i < length log → same_change (slice_get log i) (slice_get log i) ≡ true
entry_same log i h = ap (λ (o : Option Change). same_change o o) (slice_get-get_or log i no_change h) ∙ same_change-same (get_or log i no_change)

-- a reply with a code is itself
reply_same : (code : Option ℕ) (n : ℕ) (bytes : List ℕ) → code ≡ Some n → same_reply code bytes code bytes ≡ true
reply_same code n bytes e = ap (λ (o : Option ℕ). same_reply o bytes o bytes) e ∙ same_reply-same n bytes

max_same : (n : ℕ) → max n n ≡ n
max_same n = omega arith

module _ (e : CallContext) (now : ℕ) (w : Workspace) (steps asked time made : ℕ) (end : Machine) (want : w.want ≡ Nothing) (whole : Whole e time made end) (questions : 2 * first_questions e time made ≤ asked) where
  compares_one : IsOf e w Compare → w.place.index < length end.log.items → steps ≤ before_compare made (length end.log.items) + w.place.index →
      GoesOn e (given_in e) now Compare (in_both e w end) end.words Some steps asked
  compares_one is h number =
      let longer : max (length end.log.items) (length end.log.items) ≡ length end.log.items = max_same (length end.log.items) in
      record {
        act = Plain;
        site = site_below (compared (in_both e w end) + 1) w.place.index (omega (arith, h, longer));
        workspace = in_both e w end;
        left = end.words;
        to = at Compare (w.place.index + 1);
        next = tt;
        acts = entry_acts (in_both e w end) end.words w.place.index (omega (arith, h, longer)) (entry_same end.log.items w.place.index h);
        want = want;
        more = 0;
        asks = no_more _;
        clean = record {
          is = record { sealed = is.sealed; gate = is.gate };
          time = time;
          made = made;
          end = end;
          both = still_both e (record w { place = at Compare (w.place.index + 1) }) time made end asked whole questions;
          index = omega (arith, h);
          number = omega (arith, number);
        };
      }

  compares_last : IsOf e w Compare → w.place.index ≡ length end.log.items → steps ≤ before_compare made (length end.log.items) + w.place.index →
      GoesOn e (given_in e) now Compare (in_both e w end) end.words Some steps asked
  compares_last is h number =
      let longer : max (length end.log.items) (length end.log.items) ≡ length end.log.items = max_same (length end.log.items) in
      record {
        act = Plain;
        site = site_below (compared (in_both e w end) + 1) w.place.index (omega (arith, h, longer));
        workspace = closed (in_both e w end);
        left = end.words;
        to = at Verify 0;
        next = tt;
        acts = outputs_close (in_both e w end) end.words w.place.index (omega (arith, h, longer)) (reply_same end.code _ end.bytes.items whole.coded) is.gate;
        want = refl;
        more = 0;
        asks = no_more _;
        clean = record {
          is = record { sealed = is.sealed; gate = ap (λ (n : ℕ). risen n) is.gate };
          time = time;
          made = made;
          end = end;
          both = still_both e (record (closed w) { place = at Verify 0 }) time made end asked whole questions;
          index = no_more _;
          copy = λ never. absurd (omega (arith, never));
          number = omega (arith, number, h);
        };
      }

-- each entry is compared, and then the outputs are
pub compare_on : (e : CallContext) (now : ℕ) (w : Workspace) (words : List ℕ) (steps asked : ℕ) → w.want ≡ Nothing → InCompare e w (Some words) steps asked →
    GoesOn e (given_in e) now Compare w words Some steps asked
compare_on e now w words steps asked want i =
    from_both e w words i.time i.made i.end asked (λ (v : Workspace) (l : List ℕ). GoesOn e (given_in e) now Compare v l Some steps asked) i.both
    (by_order (cases_lt w.place.index (length i.end.log.items)))
  where
    by_order : (w.place.index < length i.end.log.items) ⊎ (length i.end.log.items ≤ w.place.index) →
        GoesOn e (given_in e) now Compare (in_both e w i.end) i.end.words Some steps asked
    by_order (inl h) = compares_one e now w steps asked i.time i.made i.end want i.both.whole i.both.questions i.is h i.number
    by_order (inr h) = compares_last e now w steps asked i.time i.made i.end want i.both.whole i.both.questions i.is (omega (arith, h, i.index)) i.number

-- Verify.

-- the workspace with these bytes as the copy for the wire
abbrev copied : Workspace → List ℕ → Workspace
copied w bytes = record w { wire = refilled w.wire bytes }

-- bytes whose first one is below 256 are copied as they are
copies : (w : Workspace) (words : List ℕ) (index : ℕ) (bytes : List ℕ) → FirstFits bytes → honest (copy_bytes w words index bytes) ≡ acted (copied w bytes) words (Leads (at Verify (index + 1)))
copies w words index [] fits = refl
copies w words index (byte ∷ bytes) fits =
    let small : byte % 2 ^ 8 ≡ byte = omega (arith, fits) in
    ap (λ (b : ℕ). acted (copied w (b ∷ bytes)) words (Leads (at Verify (index + 1)))) small

module _ (w : Workspace) (words : List ℕ) (index : ℕ) where
  abbrev verifying : Bool → Tree Acted
  verifying more =
      if more then bound (word_at words (slice_get w.second_log.items index)) (word_to w words index) else verify_copy index w words

  abbrev behind : Bool → Tree Acted
  behind first =
      if first
      then copy_bytes w words index w.second.bytes.items
      else bound (wire_tree PlainMode w.sealed.answer w.first.code w.first.bytes.items w.wire.items) (wire_to w words)

  word_acts : index < length w.second_log.items → word_outcome words (slice_get w.second_log.items index) ≡ Ok true →
      honest (verify_tree index w words) ≡ acted w words (Leads (at Verify (index + 1)))
  word_acts h e =
      ap (λ (b : Bool). honest (verifying b)) (below index (length w.second_log.items) h)
      ∙ honest_bound (word_at words (slice_get w.second_log.items index)) (word_to w words index)
      ∙ ap (λ (r : Result Bool AbortCause). honest (word_to w words index r)) (word_at-honest words (slice_get w.second_log.items index) ∙ e)

  verify_past : length w.second_log.items ≤ index → honest (verify_tree index w words) ≡ honest (verify_copy index w words)
  verify_past h = ap (λ (b : Bool). honest (verifying b)) (not_below index (length w.second_log.items) h)

  copy_acts : index ≡ length w.second_log.items → FirstFits w.second.bytes.items →
      honest (verify_tree index w words) ≡ acted (copied w w.second.bytes.items) words (Leads (at Verify (index + 1)))
  copy_acts h fits =
      verify_past (omega (arith, h)) ∙ ap (λ (b : Bool). honest (behind b)) (same index (length w.second_log.items) h) ∙ copies w words index w.second.bytes.items fits

  wire_closes : length w.second_log.items < index → is_message PlainMode w.sealed.answer w.first.code w.first.bytes.items w.wire.items ≡ true → w.gate.done ≡ phase_number Verify →
      honest (verify_tree index w words) ≡ acted (closed w) words (Leads (at Enter 0))
  wire_closes h e gate =
      verify_past (omega (arith, h))
      ∙ ap (λ (b : Bool). honest (behind b)) (other index (length w.second_log.items) (λ is. omega (arith, h, is)))
      ∙ ap (λ (b : Bool). honest (wire_to w words b)) e
      ∙ closes_in_step Verify w words (at Enter 0) gate

-- where the addresses of a log rise, the word that an entry made stands there
word_same : (before : List ℕ) (log : List Change) (words : List ℕ) (i : ℕ) → LeadsTo before log words → RisesFrom 0 log → i < length log → word_outcome words (slice_get log i) ≡ Ok true
word_same before log words i leads rises h =
    let c : Change = get_or log i no_change in
    let here : slice_get log i ≡ Some c = slice_get-get_or log i no_change h in
    let stands = verify_word before log words 0 i c leads rises here in
    ap (λ (o : Option Change). word_outcome words o) here ∙ word_outcome-same words c stands.0

-- a copy of the bytes is the message that their code is for
message_same : (n m : ℕ) (code : Option ℕ) (bytes wire : List ℕ) → n ≡ m → code ≡ Some (message_code m bytes) → wire ≡ bytes → is_message PlainMode n code bytes wire ≡ true
message_same n m code bytes wire number coded copy =
    ap (λ (k : ℕ). is_message PlainMode k code bytes wire) number
    ∙ ap (λ (o : Option ℕ). is_message PlainMode m o bytes wire) coded
    ∙ ap (λ (l : List ℕ). is_message PlainMode m (Some (message_code m bytes)) bytes l) copy
    ∙ is_message-same m bytes

module _ (e : CallContext) (now : ℕ) (w : Workspace) (steps asked time made : ℕ) (end : Machine) (want : w.want ≡ Nothing) (whole : Whole e time made end) (questions : 2 * first_questions e time made ≤ asked) where
  verifies_one : IsOf e w Verify → w.place.index < length end.log.items → steps ≤ before_verify made (length end.log.items) + w.place.index →
      GoesOn e (given_in e) now Verify (in_both e w end) end.words Some steps asked
  verifies_one is h number = record {
    act = Plain;
    site = site_below (length end.log.items + 2) w.place.index (omega (arith, h));
    workspace = in_both e w end;
    left = end.words;
    to = at Verify (w.place.index + 1);
    next = tt;
    acts = word_acts (in_both e w end) end.words w.place.index h (word_same e.taken end.log.items end.words w.place.index (whole_leads e time made end whole) whole.rising h);
    want = want;
    more = 0;
    asks = no_more _;
    clean = record {
      is = record { sealed = is.sealed; gate = is.gate };
      time = time;
      made = made;
      end = end;
      both = still_both e (record w { place = at Verify (w.place.index + 1) }) time made end asked whole questions;
      index = omega (arith, h);
      copy = λ never. absurd (omega (arith, h, never));
      number = omega (arith, number);
    };
  }

  makes_copy : IsOf e w Verify → w.place.index ≡ length end.log.items → steps ≤ before_verify made (length end.log.items) + w.place.index →
      GoesOn e (given_in e) now Verify (in_both e w end) end.words Some steps asked
  makes_copy is h number = record {
    act = Plain;
    site = site_below (length end.log.items + 2) w.place.index (omega (arith, h));
    workspace = copied (in_both e w end) end.bytes.items;
    left = end.words;
    to = at Verify (w.place.index + 1);
    next = tt;
    acts = copy_acts (in_both e w end) end.words w.place.index h (whole_fits e time made end whole);
    want = want;
    more = 0;
    asks = no_more _;
    clean = record {
      is = record { sealed = is.sealed; gate = is.gate };
      time = time;
      made = made;
      end = end;
      both = still_both e (record (copied w end.bytes.items) { place = at Verify (w.place.index + 1) }) time made end asked whole questions;
      index = omega (arith, h);
      copy = λ at. refl;
      number = omega (arith, number);
    };
  }

  verifies_last : IsOf e w Verify → w.place.index ≡ length end.log.items + 1 → w.wire.items ≡ end.bytes.items → steps ≤ before_verify made (length end.log.items) + w.place.index →
      GoesOn e (given_in e) now Verify (in_both e w end) end.words Some steps asked
  verifies_last is h copy number = record {
    act = Plain;
    site = site_below (length end.log.items + 2) w.place.index (omega (arith, h));
    workspace = closed (in_both e w end);
    left = end.words;
    to = at Enter 0;
    next = tt;
    acts = wire_closes (in_both e w end) end.words w.place.index (omega (arith, h))
        (message_same w.sealed.answer e.sealed.answer end.code end.bytes.items w.wire.items (ap (λ (s : Sealed). s.answer) is.sealed) whole.coded copy) is.gate;
    want = refl;
    more = 0;
    asks = no_more _;
    clean = record {
      is = record { sealed = is.sealed; gate = ap (λ (n : ℕ). risen n) is.gate };
      time = time;
      made = made;
      end = end;
      both = still_both e (record (closed w) { place = at Enter 0 }) time made end asked whole questions;
      index = refl;
      copy = copy;
      number = omega (arith, number, h);
    };
  }

-- each changed word is read back, then the copy for the wire is made, and it is tested last
pub verify_on : (e : CallContext) (now : ℕ) (w : Workspace) (words : List ℕ) (steps asked : ℕ) → w.want ≡ Nothing → InVerify e w (Some words) steps asked →
    GoesOn e (given_in e) now Verify w words Some steps asked
verify_on e now w words steps asked want i =
    from_both e w words i.time i.made i.end asked (λ (v : Workspace) (l : List ℕ). GoesOn e (given_in e) now Verify v l Some steps asked) i.both
    (by_order (cases_lt w.place.index (length i.end.log.items)))
  where
    behind_words : length i.end.log.items ≤ w.place.index → (w.place.index < length i.end.log.items + 1) ⊎ (length i.end.log.items + 1 ≤ w.place.index) →
        GoesOn e (given_in e) now Verify (in_both e w i.end) i.end.words Some steps asked
    behind_words le (inl h) = makes_copy e now w steps asked i.time i.made i.end want i.both.whole i.both.questions i.is (omega (arith, le, h)) i.number
    behind_words le (inr h) =
        let last : w.place.index ≡ length i.end.log.items + 1 = omega (arith, h, i.index) in
        verifies_last e now w steps asked i.time i.made i.end want i.both.whole i.both.questions i.is last (i.copy last) i.number

    by_order : (w.place.index < length i.end.log.items) ⊎ (length i.end.log.items ≤ w.place.index) →
        GoesOn e (given_in e) now Verify (in_both e w i.end) i.end.words Some steps asked
    by_order (inl h) = verifies_one e now w steps asked i.time i.made i.end want i.both.whole i.both.questions i.is h i.number
    by_order (inr h) = behind_words h (cases_lt w.place.index (length i.end.log.items + 1))
