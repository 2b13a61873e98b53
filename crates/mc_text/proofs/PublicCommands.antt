-- The laws of the list of commands, each by one walk over it.
use Rattle.std.proofs.Common.{◌≡◌, ℕ, zero, suc, Bool, true, false, cond, List, [], ◌∷◌, ◌++◌, refl, sym, ap, ◌∙◌, ◌⊎◌, inl, inr, subst, Some}
use Rattle.std.specs.Prelude.{slice_get, map, not, ◌&&◌, ◌||◌, ⊤}
use Rattle.std.specs.List.{list_all}
use Rattle.std.specs.Str.{bytes_eq}
use Rattle.mc_model.specs.declared.call.Verb.{Verb}
use Rattle.mc_model.specs.declared.call.Verb.TheVariants as verbs
use Rattle.mc_model.specs.Call.{verb_number}
use Rattle.mc_text.specs.declared.commands.Command.{Command}
use Rattle.mc_text.specs.Commands.{Row, commands, command_in, command_of, has_keys, key_verbs, read_verbs, read_numbers, IsReadVerb}
use Rattle.mc_text.specs.Fits.{HasKey, HasNoKey}

-- what a test says of each row it says of the command that is found
row_is : (p : Command → Bool) (w : List ℕ) (c : Command) (rows : List Row) → list_all (λ r. p r.command) rows ≡ true → command_in w rows ≡ Some c → p c ≡ true
row_is p w c [] all is = cc
row_is p w c (r ∷ rows) all is = by_word (bytes_eq w r.word) (p r.command) refl all is (row_is p w c rows)
  where
    by_word : (here good : Bool) → p r.command ≡ good → (good && list_all (λ r. p r.command) rows) ≡ true → cond here (Some r.command) (command_in w rows) ≡ Some c
        → (list_all (λ r. p r.command) rows ≡ true → command_in w rows ≡ Some c → p c ≡ true) → p c ≡ true
    by_word true true e all is later = let same : r.command ≡ c = cc in ap p (sym same) ∙ e
    by_word false true e all is later = later all is
    by_word here false e all is later = cc

pub command_is : (p : Command → Bool) (w : List ℕ) (c : Command) → list_all (λ r. p r.command) commands ≡ true → command_of w ≡ Some c → p c ≡ true
unfolding command_of
command_is p w c all is = row_is p w c commands all is

-- a command on one key, as a test
pub has_key : Verb → Bool
has_key verbs.Flush = false
has_key verbs.Fixed = false
has_key verb = true

pub has_key_is : (verb : Verb) → has_key verb ≡ true → HasKey verb
unfolding has_key
has_key_is verbs.Flush e = cc
has_key_is verbs.Fixed e = cc
has_key_is verb e = tt

-- a row with keys has a command on one key
abbrev key_if_form : Command → Bool
key_if_form c = not (has_keys c.form) || has_key c.verb

pub form_has_key : (w : List ℕ) (c : Command) → command_of w ≡ Some c → has_keys c.form ≡ true → HasKey c.verb
unfolding has_key
form_has_key w c is keys = has_key_is c.verb (second (has_keys c.form) (has_key c.verb) keys (command_is key_if_form w c refl is))
  where
    second : (a b : Bool) → a ≡ true → (not a || b) ≡ true → b ≡ true
    second true b e f = f
    second false b e f = cc

-- The commands of the calls of requests.

row_verb : (w : List ℕ) (c : Command) (more : List Verb) (rows : List Row) → command_in w rows ≡ Some c → has_keys c.form ≡ true → (i : ℕ) × (slice_get (key_verbs rows ++ more) i ≡ Some c.verb)
row_verb w c more [] is keys = cc
row_verb w c more (r ∷ rows) is keys = by_word (bytes_eq w r.word) (has_keys r.command.form) refl is (row_verb w c more rows)
  where
    same_form : r.command ≡ c → has_keys r.command.form ≡ true
    same_form e = ap (λ (x : Command). has_keys x.form) e ∙ keys

    by_word : (here own : Bool) → has_keys r.command.form ≡ own → cond here (Some r.command) (command_in w rows) ≡ Some c → (command_in w rows ≡ Some c → has_keys c.form ≡ true → (i : ℕ) × (slice_get (key_verbs rows ++ more) i ≡ Some c.verb))
        → (i : ℕ) × (slice_get (cond own (r.command.verb ∷ key_verbs rows) (key_verbs rows) ++ more) i ≡ Some c.verb)
    by_word true true e is later = let same : r.command ≡ c = cc in (0, ap (λ (x : Command). Some x.verb) same)
    by_word true false e is later = let same : r.command ≡ c = cc in let own : has_keys r.command.form ≡ true = same_form same in cc
    by_word false true e is later = let o = later is keys in (suc o.0, o.1)
    by_word false false e is later = later is keys

pub form_is_read : (w : List ℕ) (c : Command) → command_of w ≡ Some c → has_keys c.form ≡ true → IsReadVerb c.verb
unfolding command_of
form_is_read w c is keys = let o = row_verb w c (verbs.Flush ∷ verbs.Fixed ∷ []) commands is keys in record { place = o.0; there = o.1 }

there_after : (vs ws : List Verb) (j : ℕ) (v : Verb) → slice_get ws j ≡ Some v → (i : ℕ) × (slice_get (vs ++ ws) i ≡ Some v)
there_after [] ws j v is = (j, is)
there_after (x ∷ vs) ws j v is = let o = there_after vs ws j v is in (suc o.0, o.1)

pub flush_is_read : IsReadVerb verbs.Flush
flush_is_read = let o = there_after (key_verbs commands) (verbs.Flush ∷ verbs.Fixed ∷ []) 0 verbs.Flush refl in record { place = o.0; there = o.1 }

pub text_is_read : IsReadVerb verbs.Fixed
text_is_read = let o = there_after (key_verbs commands) (verbs.Flush ∷ verbs.Fixed ∷ []) 1 verbs.Fixed refl in record { place = o.0; there = o.1 }

-- a fact holds of each command of the list
abbrev pub OfEach : (Verb → Type 0) → List Verb → Type 0
OfEach P [] = ⊤
OfEach P (v ∷ vs) = P v × OfEach P vs

each_there : (P : Verb → Type 0) (vs : List Verb) (i : ℕ) (v : Verb) → OfEach P vs → slice_get vs i ≡ Some v → P v
each_there P [] i v all is = cc
each_there P (x ∷ vs) zero v all is = let same : x ≡ v = cc in subst P same all.0
each_there P (x ∷ vs) (suc i) v all is = each_there P vs i v all.1 is

pub read_verb_is : (P : Verb → Type 0) (v : Verb) → OfEach P read_verbs → IsReadVerb v → P v
read_verb_is P v all is = each_there P read_verbs is.place v all is.there

-- each has its number at its place
number_at : (vs : List Verb) (i : ℕ) (v : Verb) → slice_get vs i ≡ Some v → slice_get (map verb_number vs) i ≡ Some (verb_number v)
number_at [] i v is = cc
number_at (x ∷ vs) zero v is = let same : x ≡ v = cc in ap (λ (w : Verb). Some (verb_number w)) same
number_at (x ∷ vs) (suc i) v is = number_at vs i v is

pub read_number_is : (v : Verb) (r : IsReadVerb v) → slice_get read_numbers r.place ≡ Some (verb_number v)
read_number_is v r = number_at read_verbs r.place v r.there

-- each is on one key, or on none
pub read_has_key : (v : Verb) → IsReadVerb v → HasKey v ⊎ HasNoKey v
read_has_key verbs.Flush r = inr tt
read_has_key verbs.Fixed r = inr tt
read_has_key v r = inl tt
