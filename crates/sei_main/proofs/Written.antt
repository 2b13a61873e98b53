-- Events of which some were written already.
use Rattle.std.proofs.Common.{◌≡◌, ℕ, Bool, List, [], ◌++◌, refl, sym, ap, ◌∙◌, Option}
use Rattle.std.specs.Io.KnownBytes.{append_known}
use Rattle.std.proofs.lemmas.List.{append_assoc, append-nil}
use Rattle.std.proofs.lemmas.List.Concat.{flat_map-append}
use Rattle.sei_outside.specs.Bytes.{WrotePart}
use Rattle.sei_outside.proofs.Public.{append_known_none, wrote_both, wrote_part_of}
use Rattle.sei_main.specs.Events.{Event}
use Rattle.sei_main.specs.Report.{events_text, text_of}

-- some events were written, and `rest` behind them makes `whole`
pub record Written (history : Bool) (old now : Option (List ℕ)) (rest whole : List Event) : Type 0 where
  pub events : List Event
  pub wrote : now ≡ append_known old (events_text history events)
  pub splits : whole ≡ events ++ rest

pub events_append : (h : Bool) (xs ys : List Event) → events_text h (xs ++ ys) ≡ events_text h xs ++ events_text h ys
events_append h xs ys = flat_map-append (text_of h) xs ys

pub written_start : (h : Bool) (old : Option (List ℕ)) (whole : List Event) → Written h old old whole whole
written_start h old whole = record { events = []; wrote = sym (append_known_none old); splits = refl }

-- the next events are written
pub written_more : (h : Bool) (old mid now : Option (List ℕ)) (next rest whole : List Event) → Written h old mid (next ++ rest) whole
    → now ≡ append_known mid (events_text h next) → Written h old now rest whole
written_more h old mid now next rest whole w e = record {
  events = w.events ++ next;
  wrote = wrote_both old mid now (events_text h w.events) (events_text h next) w.wrote e ∙ ap (append_known old) (sym (events_append h w.events next));
  splits = w.splits ∙ sym (append_assoc w.events next rest);
}

-- a part of the next events is written
pub written_part : (h : Bool) (old mid now : Option (List ℕ)) (next rest whole : List Event) → Written h old mid (next ++ rest) whole
    → WrotePart mid now (events_text h next) → WrotePart old now (events_text h whole)
written_part h old mid now next rest whole w p =
    wrote_part_of old mid now (events_text h w.events) (events_text h next) (events_text h rest) (events_text h whole)
    (ap (events_text h) w.splits ∙ events_append h w.events (next ++ rest) ∙ ap (λ (t : List ℕ). events_text h w.events ++ t) (events_append h next rest))
    w.wrote p

-- nothing is left to write
pub written_all : (h : Bool) (old now : Option (List ℕ)) (whole : List Event) → Written h old now [] whole → now ≡ append_known old (events_text h whole)
written_all h old now whole w = w.wrote ∙ ap (λ (es : List Event). append_known old (events_text h es)) (sym (w.splits ∙ append-nil w.events))

-- the rest is these events
pub written_same : (h : Bool) (old now : Option (List ℕ)) (rest other whole : List Event) → rest ≡ other → Written h old now rest whole → Written h old now other whole
written_same h old now rest other whole e w = record { events = w.events; wrote = w.wrote; splits = w.splits ∙ ap (λ (es : List Event). w.events ++ es) e }
