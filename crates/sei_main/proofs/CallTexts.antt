-- The lines of an answered call.
use Rattle.std.proofs.Common.{◌≡◌, ℕ, Bool, true, false, List, [], ◌∷◌, ◌++◌, refl, ap, ◌∙◌, Option, Some, None}
use Rattle.std.specs.Io.KnownBytes.{append_known}
use Rattle.std.proofs.lemmas.List.{append-nil}
use Rattle.sei_outside.specs.Bytes.{WrotePart}
use Rattle.sei_outside.proofs.Public.{wrote_both, wrote_last, wrote_part}
use Rattle.mc_model.specs.Call.{Placed}
use Rattle.sei_traverse.specs.declared.turned.State.{State}
use Rattle.sei_traverse.specs.declared.turned.State.TheVariants.{Went, Finished, Refused, Aborted}
use Rattle.sei_main.specs.declared.world.service.Entered.{Entered}
use Rattle.sei_main.specs.declared.world.service.Served.{Served}
use Rattle.sei_main.specs.State.{closed_events}
use Rattle.sei_main.specs.Serving.{entered_events, sent_events, ended_events, served_events, closing_events}
use Rattle.sei_script.specs.ReportLines.{history_text, message_text, closing_line_text, closed_text, refused_text}
use Rattle.sei_main.specs.Report.{events_text, entered_text, ended_text, served_text}
use Rattle.sei_main.proofs.Written.{events_append}

entered_line : (h : Bool) (c n : ℕ) (p : Placed) (o : Option Entered) → events_text h (entered_events c n p o) ≡ entered_text h c n p.bucket o
entered_line h c n p None = refl
entered_line h c n p (Some e) = append-nil (history_text h c n p.bucket e.now e.reply)

sent_line : (h : Bool) (c : ℕ) (message : List ℕ) → events_text h (sent_events c message) ≡ message_text c message
sent_line h c [] = refl
sent_line h c (b ∷ bs) = append-nil _

ended_line : (h : Bool) (c n : ℕ) (state : State) (strikes : ℕ) → events_text h (ended_events c n state strikes) ≡ ended_text c n state
ended_line h c n Went strikes = refl
ended_line h c n Finished strikes = refl
ended_line h c n Refused strikes = append-nil (refused_text c)
ended_line h c n (Aborted abort) strikes = append-nil _

-- what is written of a call are the lines of its events
pub served_line : (h : Bool) (c n : ℕ) (p : Placed) (s : Served) (strikes : ℕ) → events_text h (served_events c n p s strikes) ≡ served_text h c n p.bucket s
served_line h c n p s strikes =
    events_append h (entered_events c n p s.entered) (sent_events c s.message ++ ended_events c n s.state strikes)
    ∙ ap (λ (t : List ℕ). t ++ events_text h (sent_events c s.message ++ ended_events c n s.state strikes)) (entered_line h c n p s.entered)
    ∙ ap (λ (t : List ℕ). entered_text h c n p.bucket s.entered ++ t)
    (events_append h (sent_events c s.message) (ended_events c n s.state strikes)
    ∙ ap (λ (t : List ℕ). t ++ events_text h (ended_events c n s.state strikes)) (sent_line h c s.message)
    ∙ ap (λ (t : List ℕ). message_text c s.message ++ t) (ended_line h c n s.state strikes))

closed_line : (h : Bool) (c : ℕ) (closes : Bool) → events_text h (closed_events c closes) ≡ closing_line_text c closes
closed_line h c true = append-nil (closed_text c)
closed_line h c false = refl

-- a part of three texts, where the first one, or two, are written
pub second_part : (old mid now : Option (List ℕ)) (x y z : List ℕ) → mid ≡ append_known old x → WrotePart mid now y → WrotePart old now (x ++ (y ++ z))
second_part old mid now x y z p w = wrote_part old mid now x y z p w

pub third_part : (old mid more now : Option (List ℕ)) (x y z : List ℕ) → mid ≡ append_known old x → more ≡ append_known mid y → WrotePart more now z → WrotePart old now (x ++ (y ++ z))
third_part old mid more now x y z p q w = wrote_last old mid now x (y ++ z) p (wrote_last mid more now y z q w)

pub third_all : (old mid more now : Option (List ℕ)) (x y z : List ℕ) → mid ≡ append_known old x → more ≡ append_known mid y → now ≡ append_known more z → now ≡ append_known old (x ++ (y ++ z))
third_all old mid more now x y z p q r = wrote_both old mid now x (y ++ z) p (wrote_both mid more now y z q r)

-- behind a request that finished, the line of its closing is written, and behind another one none

pub finished_text : (h : Bool) (events : List _) (state : State) (c : ℕ) (closes : Bool) → state ≡ Finished →
    events_text h (events ++ closing_events state c closes) ≡ events_text h events ++ closing_line_text c closes
finished_text h events state c closes e =
    ap (λ (s : State). events_text h (events ++ closing_events s c closes)) e
    ∙ events_append h events (closed_events c closes)
    ∙ ap (λ (t : List ℕ). events_text h events ++ t) (closed_line h c closes)
