-- The meaning of a line that the code has parsed.
use Rattle.std.specs.Prelude.{◌≡◌, ℕ, ◌+◌, ◌≤◌, ◌<◌, length, true, false, List, [], ⊤}
use Rattle.mc_model.specs.declared.call.Verb.{Verb}
use Rattle.mc_model.specs.declared.call.Verb.TheVariants as verbs
use Rattle.mc_model.specs.declared.call.CallSpan.{CallSpan}
use Rattle.mc_model.specs.declared.call.Span.{Span}
use Rattle.mc_model.specs.Call.{Call}
use Rattle.mc_model.specs.Views.{call_with}
use Rattle.mc_text.specs.declared.parsed.Kind.{Kind}
use Rattle.mc_text.specs.declared.parsed.Kind.TheVariants as kinds
use Rattle.mc_text.specs.declared.parsed.Template.{Template}
use Rattle.mc_text.specs.declared.parsed.ParsedLine.{ParsedLine}
use Rattle.mc_text.specs.declared.parsed.ParsedLine.TheVariants as lines
use Rattle.mc_model.specs.Texts.{text_count}
use Rattle.mc_text.specs.Meaning.{Meaning, Quit, One, Each, Everywhere}
use Rattle.mc_text.specs.Lines.{LineMeaning, Ends, Wants, some_words}
use Rattle.mc_text.specs.Fits.{HasKey}

abbrev pub no_span : Span
no_span = record { from = 0; to = 0 }

abbrev pub blank_span : Verb → CallSpan
blank_span verb = record { verb = verb; key = no_span; hash = 0; bucket = 0; flags = 0; negative = false; exptime = 0; unique = 0; value = 0; block = no_span; last = true; noreply = false; text = 0 }

abbrev pub by_kind : Kind → Call → List (List ℕ) → Meaning
by_kind kinds.Quit c keys = Quit
by_kind (kinds.One closing) c keys = One c closing
by_kind kinds.Each c keys = Each c keys
by_kind kinds.Everywhere c keys = Everywhere c

-- a request with this block, its keys among these words
abbrev pub meaning_of : List ℕ → List (List ℕ) → Template → Meaning
meaning_of block ws t = by_kind t.kind (call_with [] block t.call) (some_words ws t.first t.count)

abbrev pub line_meaning_of : List (List ℕ) → ParsedLine → LineMeaning
line_meaning_of ws (lines.Ends t) = Ends (meaning_of [] ws t)
line_meaning_of ws (lines.Wants t n) = Wants (call_with [] [] t.call) (some_words ws t.first t.count) n

abbrev pub HasVerbOf : Kind → Verb → Type 0
HasVerbOf kinds.Quit verb = ⊤
HasVerbOf (kinds.One closing) verb = verb ≡ verbs.Fixed
HasVerbOf kinds.Each verb = HasKey verb
HasVerbOf kinds.Everywhere verb = verb ≡ verbs.Flush

-- its keys are among these words, its command is one of its kind, and its text is one of the table
pub record IsTemplateOf (ws : List (List ℕ)) (t : Template) : Type 0 where
  pub keys : t.first + t.count ≤ length ws
  pub verb : HasVerbOf t.kind t.call.verb
  pub text : t.call.text < text_count

abbrev pub IsParsedOf : List (List ℕ) → ParsedLine → Type 0
IsParsedOf ws (lines.Ends t) = IsTemplateOf ws t
IsParsedOf ws (lines.Wants t n) = IsTemplateOf ws t × (t.kind ≡ kinds.Each)
