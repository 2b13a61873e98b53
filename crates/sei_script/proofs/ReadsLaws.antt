-- The reader's definition of a script is the one that is said apart from it.
use Rattle.std.proofs.Common.{◌≡◌, ◌≢◌, ℕ, ◌+◌, ◌<◌, ◌≤◌, Bool, true, false, List, [], ◌∷◌, ◌++◌, length, Option, Some, None, refl, ap, sym, ◌∙◌, subst, arith, append-nil}
use Rattle.std.specs.Prelude.{if◌then◌else◌, nat_lt, IsSome}
use Rattle.std.specs.Str.Lines.{strip_carriage_return}
use Rattle.std.proofs.lemmas.Bool.Decides.{nat_tests}
use Rattle.mc_model.specs.declared.geometry.Geometry.{Geometry}
use Rattle.sei_script.specs.Causes.{IsSaidOnce}
use Rattle.sei_script.specs.Context.{context_of}
use Rattle.sei_script.specs.Faults.{once}
use Rattle.sei_script.specs.Lines.{lines_in}
use Rattle.sei_script.specs.Reading.{Reads, Fails, whole, ends_at, goes_on, reading_from, reading_of}
use Rattle.sei_script.specs.Reads.{ReadsLines, End, Skip, Add, ReadsAll, FailsAt, Refused, Unfinished, Missing, ReadsText, FailsText, Larger, AtLine}
use Rattle.sei_script.specs.Says.{line_says}
use Rattle.sei_script.specs.declared.line.ScriptLine.{ScriptLine}
use Rattle.sei_script.specs.declared.line.Why.{Why}
use Rattle.sei_script.specs.declared.line.Why.TheVariants.{UnfinishedLine, GeometryMissing, TooBig}
use Rattle.sei_script.specs.declared.line.Said.{Said}
use Rattle.sei_script.specs.declared.line.Said.TheVariants.{Nothing, Line, Wrong}
use Rattle.sei_script.proofs.SpellingLaws.{line_told, line_only}

-- what a line says after a script
abbrev says : List ScriptLine → List ℕ → Said
says script text = once script (line_says (context_of script) text)

-- one line on, by what it says
on : (script : List ScriptLine) (n : ℕ) (text : List ℕ) (more : List (List ℕ)) (rest : List ℕ) (said : Said) → says script text ≡ said
    → reading_from script n (text ∷ more) rest ≡ goes_on script n said (λ s. reading_from s (n + 1) more rest)
on script n text more rest said e = ap (λ (x : Said). goes_on script n x (λ s. reading_from s (n + 1) more rest)) e

numbered : (read : List ScriptLine) (m n : ℕ) (more : List (List ℕ)) (rest : List ℕ) → m ≡ n → reading_from read m more rest ≡ reading_from read n more rest
numbered read m n more rest e = ap (λ (k : ℕ). reading_from read k more rest) e

-- lines that read lead from one script to the other
leads : (script : List ScriptLine) (n : ℕ) (front more : List (List ℕ)) (rest : List ℕ) (read : List ScriptLine) → ReadsLines script front read
    → reading_from script n (front ++ more) rest ≡ reading_from read (n + length front) more rest
leads script n front more rest read (End e f) =
    ap (λ (ts : List (List ℕ)). reading_from script n (ts ++ more) rest) e ∙ ap (λ (s : List ScriptLine). reading_from s n more rest) f
    ∙ numbered read n (n + length front) more rest (omega (arith, ap length e))
leads script n front more rest read (Skip text later e h r) =
    ap (λ (ts : List (List ℕ)). reading_from script n (ts ++ more) rest) e
    ∙ on script n text (later ++ more) rest Nothing (line_told script text Nothing h)
    ∙ leads script (n + 1) later more rest read r
    ∙ numbered read (n + 1 + length later) (n + length front) more rest (omega (arith, ap length e))
leads script n front more rest read (Add text later line e h r) =
    ap (λ (ts : List (List ℕ)). reading_from script n (ts ++ more) rest) e
    ∙ on script n text (later ++ more) rest (Line line) (line_told script text (Line line) h)
    ∙ leads (script ++ line ∷ []) (n + 1) later more rest read r
    ∙ numbered read (n + 1 + length later) (n + length front) more rest (omega (arith, ap length e))

leads_all : (n : ℕ) (texts : List (List ℕ)) (rest : List ℕ) (read : List ScriptLine) → ReadsLines [] texts read → reading_from [] n texts rest ≡ ends_at read (n + length texts) rest
leads_all n texts rest read h = ap (λ (ts : List (List ℕ)). reading_from [] n ts rest) (sym (append-nil texts)) ∙ leads [] n texts [] rest read h

-- from what is said of a text to what the reader says

whole_some : (script : List ScriptLine) (n : ℕ) (g : Option Geometry) → IsSome g → whole script n g ≡ Reads script
whole_some script n None h = let none : false ≡ true = h in cc
whole_some script n (Some g) h = refl

all_read : (texts : List (List ℕ)) (rest : List ℕ) (script : List ScriptLine) → ReadsAll texts rest script → reading_from [] 1 texts rest ≡ Reads script
all_read texts rest script h =
    leads_all 1 texts rest script h.lines ∙ ap (ends_at script (1 + length texts)) h.ended ∙ whole_some script (1 + length texts) (context_of script).geometry h.geometry

some_rest : (script : List ScriptLine) (n : ℕ) (rest : List ℕ) → rest ≢ [] → ends_at script n rest ≡ Fails n UnfinishedLine
some_rest script n [] h = absurd (h refl)
some_rest script n (b ∷ rest) h = refl

failed_at : (texts : List (List ℕ)) (rest : List ℕ) (number : ℕ) (why : Why) → FailsAt texts rest number why → reading_from [] 1 texts rest ≡ Fails number why
failed_at texts rest number why (Refused front later text script e h s k) =
    ap (λ (ts : List (List ℕ)). reading_from [] 1 ts rest) e ∙ leads [] 1 front (text ∷ later) rest script h
    ∙ on script (1 + length front) text later rest (Wrong why) (line_told script text (Wrong why) s) ∙ ap (λ (n : ℕ). Fails n why) (sym k)
failed_at texts rest number why (Unfinished script h r w k) =
    leads_all 1 texts rest script h ∙ some_rest script (1 + length texts) rest r ∙ ap (λ (n : ℕ). Fails n UnfinishedLine) (sym k) ∙ ap (Fails number) (sym w)
failed_at texts rest number why (Missing script h r g w k) =
    leads_all 1 texts rest script h ∙ ap (ends_at script (1 + length texts)) r ∙ ap (whole script (1 + length texts)) g ∙ ap (λ (n : ℕ). Fails n GeometryMissing) (sym k) ∙ ap (Fails number) (sym w)

-- and back: lines lead somewhere, or one is refused

-- where these lines lead after a script: they read, or one of them is refused
data Leads (script : List ScriptLine) (texts : List (List ℕ)) : Type 0 where
  ToEnd : (read : List ScriptLine) → ReadsLines script texts read → Leads script texts
  ToRefusal : (front later : List (List ℕ)) (text : List ℕ) (read : List ScriptLine) (why : Why) → texts ≡ front ++ text ∷ later → ReadsLines script front read
      → IsSaidOnce read (strip_carriage_return text) (Wrong why) → Leads script texts

after_skip : (script : List ScriptLine) (text : List ℕ) (texts : List (List ℕ)) → says script text ≡ Nothing → Leads script texts → Leads script (text ∷ texts)
after_skip script text texts e (ToEnd read h) = ToEnd read (Skip text texts refl (line_only script text Nothing e) h)
after_skip script text texts e (ToRefusal front later t read why f h s) =
    ToRefusal (text ∷ front) later t read why (ap (λ (ts : List (List ℕ)). text ∷ ts) f) (Skip text front refl (line_only script text Nothing e) h) s

after_line : (script : List ScriptLine) (text : List ℕ) (texts : List (List ℕ)) (line : ScriptLine) → says script text ≡ Line line
    → Leads (script ++ line ∷ []) texts → Leads script (text ∷ texts)
after_line script text texts line e (ToEnd read h) = ToEnd read (Add text texts line refl (line_only script text (Line line) e) h)
after_line script text texts line e (ToRefusal front later t read why f h s) =
    ToRefusal (text ∷ front) later t read why (ap (λ (ts : List (List ℕ)). text ∷ ts) f) (Add text front line refl (line_only script text (Line line) e) h) s

after_text : (script : List ScriptLine) (text : List ℕ) (texts : List (List ℕ)) (said : Said) → says script text ≡ said
    → ((s : List ScriptLine) → Leads s texts) → Leads script (text ∷ texts)
after_text script text texts Nothing e later = after_skip script text texts e (later script)
after_text script text texts (Line line) e later = after_line script text texts line e (later (script ++ line ∷ []))
after_text script text texts (Wrong why) e later = ToRefusal [] texts text script why refl (End refl refl) (line_only script text (Wrong why) e)

somewhere : (script : List ScriptLine) (texts : List (List ℕ)) → Leads script texts
somewhere script [] = ToEnd script (End refl refl)
somewhere script (text ∷ texts) = after_text script text texts (says script text) refl (λ s. somewhere s texts)

-- a text reads, or fails
data Account (texts : List (List ℕ)) (rest : List ℕ) : Type 0 where
  Good : (script : List ScriptLine) → ReadsAll texts rest script → Account texts rest
  Failed : (number : ℕ) (why : Why) → FailsAt texts rest number why → Account texts rest

end_by : (texts : List (List ℕ)) (rest : List ℕ) (script : List ScriptLine) (g : Option Geometry) → ReadsLines [] texts script → (context_of script).geometry ≡ g → Account texts rest
end_by texts (b ∷ rest) script g h e = Failed (1 + length texts) UnfinishedLine (Unfinished script h (λ f. cc) refl refl)
end_by texts [] script None h e = Failed (1 + length texts) GeometryMissing (Missing script h refl e refl refl)
end_by texts [] script (Some g) h e = Good script (record { lines = h; ended = refl; geometry = subst (λ (o : Option Geometry). IsSome o) (sym e) refl })

account : (texts : List (List ℕ)) (rest : List ℕ) → Account texts rest
account texts rest = elim (somewhere [] texts) [
  | ToEnd script h ↦ end_by texts rest script (context_of script).geometry h refl
  | ToRefusal front later text script why e h s ↦ Failed (1 + length front) why (Refused front later text script e h s refl)
]

lines_read : (texts : List (List ℕ)) (rest : List ℕ) (script : List ScriptLine) → reading_from [] 1 texts rest ≡ Reads script → ReadsAll texts rest script
lines_read texts rest script e = elim (account texts rest) [
  | Good other h ↦ let both : Reads other ≡ Reads script = sym (all_read texts rest other h) ∙ e in let same : other ≡ script = cc in subst (ReadsAll texts rest) same h
  | Failed number why h ↦ let both : Fails number why ≡ Reads script = sym (failed_at texts rest number why h) ∙ e in cc
]

lines_fail : (texts : List (List ℕ)) (rest : List ℕ) (number : ℕ) (why : Why) → reading_from [] 1 texts rest ≡ Fails number why → FailsAt texts rest number why
lines_fail texts rest number why e = elim (account texts rest) [
  | Good script h ↦ let both : Reads script ≡ Fails number why = sym (all_read texts rest script h) ∙ e in cc
  | Failed n w h ↦
      let both : Fails n w ≡ Fails number why = sym (failed_at texts rest n w h) ∙ e in
      let one : n ≡ number = cc in
      let two : w ≡ why = cc in
      subst (FailsAt texts rest number) two (subst (λ (k : ℕ). FailsAt texts rest k w) one h)
]

-- whole texts

small_reading : (limit : ℕ) (bytes : List ℕ) → length bytes ≤ limit → reading_of limit bytes ≡ reading_from [] 1 (lines_in bytes).0 (lines_in bytes).1
small_reading limit bytes h = ap (λ (t : Bool). if t then Fails 0 TooBig else reading_from [] 1 (lines_in bytes).0 (lines_in bytes).1) {x = nat_lt limit (length bytes)} {y = false} (grind (arith, nat_tests))

large_reading : (limit : ℕ) (bytes : List ℕ) → limit < length bytes → reading_of limit bytes ≡ Fails 0 TooBig
large_reading limit bytes h = ap (λ (t : Bool). if t then Fails 0 TooBig else reading_from [] 1 (lines_in bytes).0 (lines_in bytes).1) {x = nat_lt limit (length bytes)} {y = true} (grind (arith, nat_tests))

pub text_reads : (limit : ℕ) (bytes : List ℕ) (script : List ScriptLine) → ReadsText limit bytes script → reading_of limit bytes ≡ Reads script
text_reads limit bytes script h = small_reading limit bytes h.size ∙ all_read _ _ script h.reads

pub text_fails : (limit : ℕ) (bytes : List ℕ) (number : ℕ) (why : Why) → FailsText limit bytes number why → reading_of limit bytes ≡ Fails number why
text_fails limit bytes number why (Larger h n w) = large_reading limit bytes h ∙ ap (λ (k : ℕ). Fails k TooBig) (sym n) ∙ ap (Fails number) (sym w)
text_fails limit bytes number why (AtLine h f) = small_reading limit bytes h ∙ failed_at _ _ number why f

reads_by : (limit : ℕ) (bytes : List ℕ) (script : List ScriptLine) (large : Bool) → nat_lt limit (length bytes) ≡ large → reading_of limit bytes ≡ Reads script → ReadsText limit bytes script
reads_by limit bytes script true p e = let both : Fails 0 TooBig ≡ Reads script = sym (large_reading limit bytes (grind (arith, nat_tests))) ∙ e in cc
reads_by limit bytes script false p e =
    let small : length bytes ≤ limit = grind (arith, nat_tests) in
    record { size = small; reads = lines_read _ _ script (sym (small_reading limit bytes small) ∙ e) }

pub reads_text : (limit : ℕ) (bytes : List ℕ) (script : List ScriptLine) → reading_of limit bytes ≡ Reads script → ReadsText limit bytes script
reads_text limit bytes script e = reads_by limit bytes script (nat_lt limit (length bytes)) refl e

fails_by : (limit : ℕ) (bytes : List ℕ) (number : ℕ) (why : Why) (large : Bool) → nat_lt limit (length bytes) ≡ large → reading_of limit bytes ≡ Fails number why → FailsText limit bytes number why
fails_by limit bytes number why true p e =
    let more : limit < length bytes = grind (arith, nat_tests) in
    let both : Fails 0 TooBig ≡ Fails number why = sym (large_reading limit bytes more) ∙ e in
    let one : 0 ≡ number = cc in
    let two : TooBig ≡ why = cc in
    Larger more (sym one) (sym two)
fails_by limit bytes number why false p e =
    let small : length bytes ≤ limit = grind (arith, nat_tests) in
    AtLine small (lines_fail _ _ number why (sym (small_reading limit bytes small) ∙ e))

pub fails_text : (limit : ℕ) (bytes : List ℕ) (number : ℕ) (why : Why) → reading_of limit bytes ≡ Fails number why → FailsText limit bytes number why
fails_text limit bytes number why e = fails_by limit bytes number why (nat_lt limit (length bytes)) refl e
