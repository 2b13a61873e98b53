-- A text spells one line at most: the line is found again from its words.
use Rattle.std.proofs.Common.{◌≡◌, ℕ, ◌<◌, ◌^◌, true, List, ◌∷◌, ◌++◌, Option, Some, None, refl, ap, sym, ◌∙◌, append-nil}
use Rattle.std.specs.Prelude.{if◌then◌else◌, codes, All}
use Rattle.std.specs.Fmt.{decimal}
use Rattle.std.specs.Str.{bytes_eq}
use Rattle.mc_model.specs.declared.geometry.Geometry.{Geometry}
use Rattle.sei_code.specs.declared.modes.Mode.TheVariants.{Plain, Coded}
use Rattle.sei_fault.specs.declared.plan.Planned.{Planned}
use Rattle.sei_script.specs.Escapes.{unescaped}
use Rattle.sei_script.specs.Hexadecimal.{unhexed}
use Rattle.sei_script.specs.Lines.{word_of, behind_word, first_number, first_exact, last_exact}
use Rattle.sei_script.specs.Plans.{plan_of}
use Rattle.sei_script.specs.Spelling.{numeral, hex_text, plan_text, IsSelect, IsKind, SpellsLine}
use Rattle.sei_script.specs.Unescapes.{Unescapes}
use Rattle.sei_script.specs.declared.line.ScriptLine.{ScriptLine}
use Rattle.sei_script.specs.declared.line.ScriptLine.TheVariants.{Geometry as GeometryLine, Open, Say, Hex, Drain, Clock, Fault}
use Rattle.sei_script.proofs.HexLaws.{unhexed-hex_text}
use Rattle.sei_script.proofs.PlanLaws.{plan_read}
use Rattle.sei_script.proofs.UnescapeLaws.{stands_unescaped}
use Rattle.sei_script.proofs.WordLaws.{tail, is_word, word_front, word_behind, first_spelled, exact_spelled, last_spelled}

abbrev and_then : {A : Type 0} → Option A → (A → Option ScriptLine) → Option ScriptLine
and_then None f = None
and_then (Some a) f = f a

-- the line of a kind, by its rest

abbrev geometry_in : Option (List ℕ) → Option ScriptLine
geometry_in rest =
    and_then (first_number rest) (λ b. and_then (first_number b.rest) (λ s. and_then (first_number s.rest) (λ w. Some (GeometryLine (record { buckets = b.number; slots = s.number; value_words = w.number })))))

abbrev open_in : Option (List ℕ) → Option ScriptLine
open_in rest = and_then (first_number rest) (λ c. Some (Open c.number Plain))

abbrev say_in : Option (List ℕ) → Option ScriptLine
say_in rest = and_then (first_number rest) (λ c. and_then c.rest (λ text. and_then (unescaped text) (λ bytes. Some (Say c.number bytes))))

abbrev hex_in : Option (List ℕ) → Option ScriptLine
hex_in rest = and_then (first_number rest) (λ c. and_then c.rest (λ text. and_then (unhexed text) (λ bytes. Some (Hex c.number bytes))))

abbrev clock_in : Option (List ℕ) → Option ScriptLine
clock_in rest = and_then (last_exact rest) (λ now. Some (Clock now))

abbrev fault_in : Option (List ℕ) → Option ScriptLine
fault_in rest = and_then (first_number rest) (λ c. and_then (first_exact c.rest) (λ t. and_then (plan_of t.rest) (λ plan. Some (Fault c.number t.number plan))))

abbrev line_in : List ℕ → Option (List ℕ) → Option ScriptLine
line_in kind rest =
    if bytes_eq kind (codes "geometry") then geometry_in rest
    else (if bytes_eq kind (codes "open") then open_in rest
    else (if bytes_eq kind (codes "say") then say_in rest
    else (if bytes_eq kind (codes "hex") then hex_in rest
    else (if bytes_eq kind (codes "drain") then Some Drain
    else (if bytes_eq kind (codes "clock") then clock_in rest
    else fault_in rest)))))

-- the line of a text
abbrev found : List ℕ → Option ScriptLine
found text = line_in (word_of text) (behind_word text)

found_at : (kind : List ℕ) (t : Option (List ℕ)) → is_word kind ≡ true → found (kind ++ tail t) ≡ line_in kind t
found_at kind t h = ap (λ (w : List ℕ). line_in w (behind_word (kind ++ tail t))) (word_front kind t h) ∙ ap (line_in kind) (word_behind kind t h)

geometry_found : (g : Geometry) → geometry_in (Some (numeral g.buckets ++ tail (Some (numeral g.slots ++ tail (Some (numeral g.value_words ++ tail None)))))) ≡ Some (GeometryLine g)
geometry_found g =
    rw (first_spelled g.buckets (Some (numeral g.slots ++ tail (Some (numeral g.value_words ++ tail None)))), first_spelled g.slots (Some (numeral g.value_words ++ tail None)), first_spelled g.value_words None) refl

open_found : (c : ℕ) → open_in (Some (numeral c ++ tail (Some (codes "plain")))) ≡ Some (Open c Plain)
open_found c = rw (first_spelled c (Some (codes "plain"))) refl

say_found : (c : ℕ) (text bytes : List ℕ) → Unescapes text bytes → say_in (Some (numeral c ++ tail (Some text))) ≡ Some (Say c bytes)
say_found c text bytes h = rw (first_spelled c (Some text), stands_unescaped text bytes h) refl

hex_found : (c : ℕ) (bytes : List ℕ) → All (λ b. b < 256) bytes → hex_in (Some (numeral c ++ tail (Some (hex_text bytes)))) ≡ Some (Hex c bytes)
hex_found c bytes h = rw (first_spelled c (Some (hex_text bytes)), unhexed-hex_text bytes h) refl

clock_found : (now : ℕ) → now < 2 ^ 64 → clock_in (Some (decimal now)) ≡ Some (Clock now)
clock_found now h = rw (last_spelled now h) refl

fault_found : (c t : ℕ) (plan : Planned) → t < 2 ^ 64 → IsSelect plan.select → IsKind plan.kind
    → fault_in (Some (numeral c ++ tail (Some (decimal t ++ tail (Some (plan_text plan)))))) ≡ Some (Fault c t plan)
fault_found c t plan h s k = rw (first_spelled c (Some (decimal t ++ tail (Some (plan_text plan)))), exact_spelled t (Some (plan_text plan)) h, plan_read plan s k) refl

spelled_found : (text : List ℕ) (s : ScriptLine) → SpellsLine text s → found text ≡ Some s
spelled_found text (GeometryLine g) h =
    let t : Option (List ℕ) = Some (numeral g.buckets ++ tail (Some (numeral g.slots ++ tail (Some (numeral g.value_words ++ tail None))))) in
    let is : text ≡ codes "geometry" ++ tail t = h ∙ ap (λ (w : List ℕ). codes "geometry" ++ 32 ∷ (numeral g.buckets ++ 32 ∷ (numeral g.slots ++ 32 ∷ w))) (sym (append-nil (numeral g.value_words))) in
    ap found is ∙ found_at (codes "geometry") t refl ∙ geometry_found g
spelled_found text (Open c Coded) h = absurd h
spelled_found text (Open c Plain) h = ap found h ∙ found_at (codes "open") (Some (numeral c ++ tail (Some (codes "plain")))) refl ∙ open_found c
spelled_found text (Say c bytes) h = ap found h.spelled ∙ found_at (codes "say") (Some (numeral c ++ tail (Some h.escaped))) refl ∙ say_found c h.escaped bytes h.stands
spelled_found text (Hex c bytes) h = ap found h.spelled ∙ found_at (codes "hex") (Some (numeral c ++ tail (Some (hex_text bytes)))) refl ∙ hex_found c bytes h.small
spelled_found text Drain h = ap found h
spelled_found text (Clock now) h = ap found h.spelled ∙ found_at (codes "clock") (Some (decimal now)) refl ∙ clock_found now h.small
spelled_found text (Fault c t plan) h =
    ap found h.spelled ∙ found_at (codes "fault") (Some (numeral c ++ tail (Some (decimal t ++ tail (Some (plan_text plan)))))) refl ∙ fault_found c t plan h.number h.select h.kind

pub one_line : (text : List ℕ) (s t : ScriptLine) → SpellsLine text s → SpellsLine text t → s ≡ t
one_line text s t h k = let same : Some s ≡ Some t = sym (spelled_found text s h) ∙ spelled_found text t k in cc
