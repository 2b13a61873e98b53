-- Each form of line says what the protocol gives it, and each fault its refusal.
use Rattle.std.proofs.Common.{◌≡◌, ◌≢◌, ℕ, zero, suc, ◌+◌, ◌<◌, ◌≤◌, ◌-◌, ◌^◌, ◌⊎◌, inl, inr, Bool, true, false, cond, List, [], ◌∷◌, ◌++◌, length, take, refl, sym, ap, ◌∙◌, arith, Option, Some, None}
use Rattle.std.specs.Prelude.{◌==◌, ◌&&◌, ◌||◌, nat_le, nat_lt, All, codes}
use Rattle.std.specs.List.{list_all}
use Rattle.std.specs.Str.{bytes_eq}
use Rattle.std.proofs.lemmas.Bool.Decides.{nat_tests}
use Rattle.std.proofs.lemmas.Slice.Eq.{bytes_eq-Decides}
use Rattle.std.proofs.lemmas.List.{take_all, append-nil}
use Rattle.std.proofs.Math.ListN.{length-take}
use Rattle.std.proofs.lemmas.List.Elements.{All-head, All-tail}
use Rattle.mc_model.specs.declared.call.Verb.{Verb}
use Rattle.mc_model.specs.declared.call.Verb.TheVariants.{Flush}
use Rattle.mc_model.specs.Call.{Call, blank}
use Rattle.mc_model.specs.Numbers.{number_upto}
use Rattle.mc_model.specs.Texts.{okay_text, error_text, version_text, bad_line_format_text, bad_data_chunk_text, object_too_large_text}
use Rattle.mc_text.specs.Bounds.{longest_line, longest_block}
use Rattle.mc_text.specs.declared.limits.Limits.{Limits}
use Rattle.mc_text.specs.declared.commands.Form.{Form}
use Rattle.mc_text.specs.declared.commands.Form.TheVariants as forms
use Rattle.mc_text.specs.declared.fields.Item.{Item}
use Rattle.mc_text.specs.Words.{arg}
use Rattle.mc_text.specs.Fields.{is_key, exptime_of, item_with, item_of, is_noreply, has_words}
use Rattle.mc_text.specs.Commands.{Row, command_in, command_of, commands}
use Rattle.mc_text.specs.Meaning.{Quit, One, Each, Everywhere}
use Rattle.mc_text.specs.Lines.{Ends, Wants, fixed, refused, item_call, by_form, by_command, words_say, storage, check_and_set, retrieval, get_and_touch, touch, deletion, flush, version, verbosity, quit}
use Rattle.mc_text.specs.Spells.{Spells, TooLong, lf, crlf, line_says, too_long, finished}
use Rattle.mc_text.specs.Forms.{words_of, IsKeyWord, NotKeyWord, AreKeyWords, NotAllKeyWords, IsSmallNumber, NotSmallNumber, NotUnique, IsExptime, NotExptime, optional, noreply_word, HasCommand}
use Rattle.mc_text.specs.Forms.{ItemWords, storage_words, IsStorageLine, HasItem, HasBadField, BadKey, BadFlags, BadExptime, BadBytes, storage_meaning, too_large_line, CasWords, cas_words, IsCasLine, CasItem, HasCasItem, cas_meaning}
use Rattle.mc_text.specs.Forms.{IsGetLine, GatWords, IsGatLine, gat_meaning, TouchWords, touch_words, IsTouchLine, touch_call, touch_meaning}
use Rattle.mc_text.specs.Forms.{ZeroWords, zero_words, HasZero, NoWord, Zero, HasOtherWord, DeleteWords, delete_words, IsDeleteLine, delete_meaning, plain_call, IsFlushLine, VerbosityWords, verbosity_words, IsVerbosityLine, BeginsWith, IsUnknown}

-- a line is what its words say
by_words : (line : List ℕ) (ws : List (List ℕ)) → words_of line ≡ ws → line_says line ≡ words_say ws
unfolding line_says
by_words line ws e = ap words_say e

test_false : (a b : List ℕ) → a ≢ b → bytes_eq a b ≡ false
test_false a b n = by_test (bytes_eq a b) refl
  where
    by_test : (t : Bool) → bytes_eq a b ≡ t → t ≡ false
    by_test false e = refl
    by_test true e = absurd (n ((bytes_eq-Decides a b).0 e))

-- no word, and an unknown one

pub no_word_says : (line : List ℕ) → words_of line ≡ [] → line_says line ≡ refused error_text
unfolding words_say command_of
no_word_says line e = by_words line [] e ∙ refl

none_in : (w : List ℕ) (rows : List Row) → All (λ row. w ≢ row.word) rows → command_in w rows ≡ None
none_in w [] h = refl
none_in w (r ∷ rows) h = simp (test_false w r.word (All-head (λ row. w ≢ row.word) r rows h)) (none_in w rows (All-tail (λ row. w ≢ row.word) r rows h))

pub unknown_says : (line w : List ℕ) (ws : List (List ℕ)) → BeginsWith line w ws → IsUnknown w → line_says line ≡ refused error_text
unfolding words_say command_of
unknown_says line w ws e n = by_words line (w ∷ ws) e ∙ ap (λ o. by_command o (w ∷ ws)) (none_in w commands n)

too_many : (n k : ℕ) → k < n → (n == k) ≡ false
too_many n k h = grind (arith, nat_tests)

-- a line of a command says what the command's form does
command_says : (line : List ℕ) (form : Form) (verb : Verb) (ws : List (List ℕ)) → HasCommand line form verb ws → (word : List ℕ) × (line_says line ≡ by_form form verb (word ∷ ws))
unfolding words_say
command_says line form verb ws h = (h.0, by_words line (h.0 ∷ ws) h.2 ∙ ap (λ o. by_command o (h.0 ∷ ws)) h.1)

-- words other than n and perhaps `noreply`

abbrev OtherWords : ℕ → List (List ℕ) → Type 0
OtherWords n ws = (vs : List (List ℕ)) (b : Bool) → length vs ≡ n → ws ≢ vs ++ noreply_word b

last_word : (ws : List (List ℕ)) (n : ℕ) (x : List ℕ) → length ws ≡ suc n → arg ws n ≡ x → ws ≡ take n ws ++ x ∷ []
last_word [] n x l e = absurd (omega arith)
last_word (w ∷ []) zero x l e = ap (λ (y : List ℕ). y ∷ []) e
last_word (w ∷ (v ∷ ws)) zero x l e = absurd (omega arith)
last_word (w ∷ ws) (suc n) x l e = ap (λ (ys : List (List ℕ)). w ∷ ys) (last_word ws n x (omega arith) e)

other_words : (word : List ℕ) (ws : List (List ℕ)) (n : ℕ) → OtherWords n ws → has_words (word ∷ ws) (suc n) ≡ false
other_words word ws n h = by_tests (length (word ∷ ws) == suc n) (length (word ∷ ws) == suc n + 1) (is_noreply (arg ws n)) refl refl refl
  where
    is_length : (m : ℕ) → (length (word ∷ ws) == suc m) ≡ true → length ws ≡ m
    is_length m e = grind (arith, nat_tests)

    by_tests : (a b c : Bool) → (length (word ∷ ws) == suc n) ≡ a → (length (word ∷ ws) == suc n + 1) ≡ b → is_noreply (arg ws n) ≡ c → (a || (b && c)) ≡ false
    by_tests true b c e f g = absurd (h ws false (is_length n e) (sym (append-nil ws)))
    by_tests false true true e f g =
        let long : length ws ≡ suc n = is_length (suc n) (ap (λ m. length (word ∷ ws) == m) (omega arith) ∙ f) in
        absurd (h (take n ws) true (omega (arith, length-take n ws)) (last_word ws n (codes "noreply") long ((bytes_eq-Decides (arg ws n) (codes "noreply")).0 g)))
    by_tests false true false e f g = refl
    by_tests false false c e f g = refl

-- items

data AnyBad (k : Bool) (f : Option ℕ) (e : Option (Bool × ℕ)) (n : Option ℕ) : Type 0 where
  OfKey : k ≡ false → AnyBad k f e n
  OfFlags : f ≡ None → AnyBad k f e n
  OfExptime : e ≡ None → AnyBad k f e n
  OfBytes : n ≡ None → AnyBad k f e n

bad_fields : (k : Bool) (f : Option ℕ) (e : Option (Bool × ℕ)) (n : Option ℕ) → AnyBad k f e n → cond k (item_with f e n) None ≡ None
bad_fields false f e n h = refl
bad_fields true None e n h = refl
bad_fields true (Some x) None n h = refl
bad_fields true (Some x) (Some y) None h = refl
bad_fields true (Some x) (Some y) (Some z) h = elim h [ OfKey q ↦ cc | OfFlags q ↦ cc | OfExptime q ↦ cc | OfBytes q ↦ cc ]

any_bad : (w : ItemWords) → HasBadField w → AnyBad (is_key w.key) (number_upto (2 ^ 32 - 1) w.flags) (exptime_of w.exptime) (number_upto (2 ^ 32 - 1) w.bytes)
any_bad w (BadKey e) = OfKey e
any_bad w (BadFlags e) = OfFlags e
any_bad w (BadExptime e) = OfExptime e
any_bad w (BadBytes e) = OfBytes e

no_item : (w : ItemWords) → HasBadField w → item_of w.key w.flags w.exptime w.bytes ≡ None
unfolding item_of
no_item w h = bad_fields _ _ _ _ (any_bad w h)

item_is : (w : ItemWords) (i : Item) → HasItem w i → item_of w.key w.flags w.exptime w.bytes ≡ Some i
unfolding item_of
item_is w i h = simp (h.key, h.flags, h.exptime, h.bytes)

small_size : (n : ℕ) → n ≤ longest_block → nat_le n longest_block ≡ true
small_size n h = grind (arith, nat_tests)

large_size : (n : ℕ) → longest_block < n → nat_le n longest_block ≡ false
large_size n h = grind (arith, nat_tests)

-- set, add, replace

storage_with : (word : List ℕ) (verb : Verb) (w : ItemWords) (i : Item) (b small : Bool) → item_of w.key w.flags w.exptime w.bytes ≡ Some i → nat_le i.bytes longest_block ≡ small
    → storage verb (word ∷ w.key ∷ w.flags ∷ w.exptime ∷ w.bytes ∷ noreply_word b) ≡ cond small (Wants (item_call verb i b) (w.key ∷ []) i.bytes) too_large_line
unfolding storage
storage_with word verb w i true small h t = simp (h, t)
storage_with word verb w i false small h t = simp (h, t)

pub storage_is : (line : List ℕ) (verb : Verb) (w : ItemWords) (i : Item) → IsStorageLine line verb w → HasItem w i → i.bytes ≤ longest_block → line_says line ≡ storage_meaning verb w i
storage_is line verb w i e h le = let c = command_says line forms.Storage verb (storage_words w) e in c.1 ∙ storage_with c.0 verb w i w.noreply true (item_is w i h) (small_size i.bytes le)

pub storage_too_large : (line : List ℕ) (verb : Verb) (w : ItemWords) (i : Item) → IsStorageLine line verb w → HasItem w i → longest_block < i.bytes → line_says line ≡ too_large_line
storage_too_large line verb w i e h lt = let c = command_says line forms.Storage verb (storage_words w) e in c.1 ∙ storage_with c.0 verb w i w.noreply false (item_is w i h) (large_size i.bytes lt)

storage_refused : (word : List ℕ) (verb : Verb) (w : ItemWords) (b : Bool) → item_of w.key w.flags w.exptime w.bytes ≡ None
    → storage verb (word ∷ w.key ∷ w.flags ∷ w.exptime ∷ w.bytes ∷ noreply_word b) ≡ refused bad_line_format_text
unfolding storage
storage_refused word verb w true h = simp h
storage_refused word verb w false h = simp h

pub storage_bad_field : (line : List ℕ) (verb : Verb) (w : ItemWords) → IsStorageLine line verb w → HasBadField w → line_says line ≡ refused bad_line_format_text
storage_bad_field line verb w e h = let c = command_says line forms.Storage verb (storage_words w) e in c.1 ∙ storage_refused c.0 verb w w.noreply (no_item w h)

pub storage_bad_words : (line : List ℕ) (verb : Verb) (ws : List (List ℕ)) → HasCommand line forms.Storage verb ws → ((w : ItemWords) → ws ≢ storage_words w) → line_says line ≡ refused error_text
unfolding storage
storage_bad_words line verb ws e n = let c = command_says line forms.Storage verb ws e in c.1 ∙ simp (other_words c.0 ws 4 others)
  where
    others : OtherWords 4 ws
    others [] b l q = absurd (omega arith)
    others (k ∷ []) b l q = absurd (omega arith)
    others (k ∷ (f ∷ [])) b l q = absurd (omega arith)
    others (k ∷ (f ∷ (x ∷ []))) b l q = absurd (omega arith)
    others (k ∷ (f ∷ (x ∷ (s ∷ [])))) b l q = n (record { key = k; flags = f; exptime = x; bytes = s; noreply = b }) q
    others (k ∷ (f ∷ (x ∷ (s ∷ (r ∷ more))))) b l q = absurd (omega arith)

-- cas

cas_with : (word : List ℕ) (verb : Verb) (w : ItemWords) (u : List ℕ) (i : Item) (n : ℕ) (b small : Bool)
    → item_of w.key w.flags w.exptime w.bytes ≡ Some i → number_upto (2 ^ 64 - 1) u ≡ Some n → nat_le i.bytes longest_block ≡ small
    → check_and_set verb (word ∷ w.key ∷ w.flags ∷ w.exptime ∷ w.bytes ∷ u ∷ noreply_word b) ≡ cond small (Wants (record (item_call verb i b) { unique = n }) (w.key ∷ []) i.bytes) too_large_line
unfolding check_and_set
cas_with word verb w u i n true small h k t = simp (h, k, t)
cas_with word verb w u i n false small h k t = simp (h, k, t)

pub cas_is : (line : List ℕ) (verb : Verb) (w : CasWords) (v : CasItem) → IsCasLine line verb w → HasCasItem w v → v.item.bytes ≤ longest_block → line_says line ≡ cas_meaning verb w v
cas_is line verb w v e h le =
    let c = command_says line forms.CheckAndSet verb (cas_words w) e in
    c.1 ∙ cas_with c.0 verb w.item w.unique v.item v.unique w.item.noreply true (item_is w.item v.item h.0) h.1 (small_size v.item.bytes le)

pub cas_too_large : (line : List ℕ) (verb : Verb) (w : CasWords) (v : CasItem) → IsCasLine line verb w → HasCasItem w v → longest_block < v.item.bytes → line_says line ≡ too_large_line
cas_too_large line verb w v e h lt =
    let c = command_says line forms.CheckAndSet verb (cas_words w) e in
    c.1 ∙ cas_with c.0 verb w.item w.unique v.item v.unique w.item.noreply false (item_is w.item v.item h.0) h.1 (large_size v.item.bytes lt)

cas_refused : (word : List ℕ) (verb : Verb) (w : ItemWords) (u : List ℕ) (o : Option Item) (b : Bool)
    → item_of w.key w.flags w.exptime w.bytes ≡ o → (o ≡ None) ⊎ (number_upto (2 ^ 64 - 1) u ≡ None)
    → check_and_set verb (word ∷ w.key ∷ w.flags ∷ w.exptime ∷ w.bytes ∷ u ∷ noreply_word b) ≡ refused bad_line_format_text
unfolding check_and_set
cas_refused word verb w u None true e h = simp e
cas_refused word verb w u None false e h = simp e
cas_refused word verb w u (Some i) b e (inl h) = cc
cas_refused word verb w u (Some i) true e (inr h) = simp (e, h)
cas_refused word verb w u (Some i) false e (inr h) = simp (e, h)

pub cas_bad_field : (line : List ℕ) (verb : Verb) (w : CasWords) → IsCasLine line verb w → HasBadField w.item → line_says line ≡ refused bad_line_format_text
cas_bad_field line verb w e h = let c = command_says line forms.CheckAndSet verb (cas_words w) e in c.1 ∙ cas_refused c.0 verb w.item w.unique _ w.item.noreply refl (inl (no_item w.item h))

pub cas_bad_unique : (line : List ℕ) (verb : Verb) (w : CasWords) → IsCasLine line verb w → NotUnique w.unique → line_says line ≡ refused bad_line_format_text
cas_bad_unique line verb w e h = let c = command_says line forms.CheckAndSet verb (cas_words w) e in c.1 ∙ cas_refused c.0 verb w.item w.unique _ w.item.noreply refl (inr h)

pub cas_bad_words : (line : List ℕ) (verb : Verb) (ws : List (List ℕ)) → HasCommand line forms.CheckAndSet verb ws → ((w : CasWords) → ws ≢ cas_words w) → line_says line ≡ refused error_text
unfolding check_and_set
cas_bad_words line verb ws e n = let c = command_says line forms.CheckAndSet verb ws e in c.1 ∙ simp (other_words c.0 ws 5 others)
  where
    others : OtherWords 5 ws
    others [] b l q = absurd (omega arith)
    others (k ∷ []) b l q = absurd (omega arith)
    others (k ∷ (f ∷ [])) b l q = absurd (omega arith)
    others (k ∷ (f ∷ (x ∷ []))) b l q = absurd (omega arith)
    others (k ∷ (f ∷ (x ∷ (s ∷ [])))) b l q = absurd (omega arith)
    others (k ∷ (f ∷ (x ∷ (s ∷ (u ∷ []))))) b l q = n (record { item = record { key = k; flags = f; exptime = x; bytes = s; noreply = b }; unique = u }) q
    others (k ∷ (f ∷ (x ∷ (s ∷ (u ∷ (r ∷ more)))))) b l q = absurd (omega arith)

-- get, gets

pub get_bad_words : (line : List ℕ) (verb : Verb) → IsGetLine line verb [] → line_says line ≡ refused error_text
unfolding retrieval
get_bad_words line verb e = let c = command_says line forms.Retrieval verb [] e in c.1 ∙ refl

some_keys : (word : List ℕ) (keys : List (List ℕ)) → 0 < length keys → nat_lt 1 (length (word ∷ keys)) ≡ true
some_keys word keys h = grind (arith, nat_tests)

all_of : (w : List ℕ) (keys : List (List ℕ)) → take (length (w ∷ keys) - 1) keys ≡ keys
all_of w keys = take_all (length (w ∷ keys) - 1) keys (omega arith)

-- words that are not all keys are some words
bad_is_some : (keys : List (List ℕ)) → NotAllKeyWords keys → 0 < length keys
bad_is_some [] h = cc
bad_is_some (k ∷ ks) h = omega arith

pub get_is : (line : List ℕ) (verb : Verb) (keys : List (List ℕ)) → IsGetLine line verb keys → AreKeyWords keys → line_says line ≡ Ends (Each (blank verb) keys)
unfolding retrieval
get_is line verb keys e h = let c = command_says line forms.Retrieval verb keys e in c.1 ∙ simp (some_keys c.0 keys h.0, h.1, all_of c.0 keys)

pub get_bad_key : (line : List ℕ) (verb : Verb) (keys : List (List ℕ)) → IsGetLine line verb keys → NotAllKeyWords keys → line_says line ≡ refused bad_line_format_text
unfolding retrieval
get_bad_key line verb keys e h = let c = command_says line forms.Retrieval verb keys e in c.1 ∙ simp (some_keys c.0 keys (bad_is_some keys h), h)

-- gat, gats

more_keys : (word e : List ℕ) (keys : List (List ℕ)) → 0 < length keys → nat_lt 2 (length (word ∷ e ∷ keys)) ≡ true
more_keys word e keys h = grind (arith, nat_tests)

all_after : (word e : List ℕ) (keys : List (List ℕ)) → take (length (word ∷ e ∷ keys) - 2) keys ≡ keys
all_after word e keys = take_all (length (word ∷ e ∷ keys) - 2) keys (omega arith)

few_words : (word : List ℕ) (ws : List (List ℕ)) → length ws < 2 → nat_lt 2 (length (word ∷ ws)) ≡ false
few_words word ws h = grind (arith, nat_tests)

pub gat_bad_words : (line : List ℕ) (verb : Verb) (ws : List (List ℕ)) → HasCommand line forms.GetAndTouch verb ws → length ws < 2 → line_says line ≡ refused error_text
unfolding get_and_touch
gat_bad_words line verb ws e h = let c = command_says line forms.GetAndTouch verb ws e in c.1 ∙ simp (few_words c.0 ws h)

pub gat_is : (line : List ℕ) (verb : Verb) (w : GatWords) (e : Bool × ℕ) → IsGatLine line verb w → AreKeyWords w.keys → IsExptime w.exptime e → line_says line ≡ gat_meaning verb w e
unfolding get_and_touch
gat_is line verb w x e h t =
    let c = command_says line forms.GetAndTouch verb (w.exptime ∷ w.keys) e in
    c.1 ∙ simp (more_keys c.0 w.exptime w.keys h.0, h.1, t, all_after c.0 w.exptime w.keys)

gat_refused : (word : List ℕ) (verb : Verb) (x : List ℕ) (keys : List (List ℕ)) (good : Bool) → 0 < length keys → list_all is_key keys ≡ good → (good ≡ false) ⊎ (exptime_of x ≡ None)
    → get_and_touch verb (word ∷ x ∷ keys) ≡ refused bad_line_format_text
unfolding get_and_touch
gat_refused word verb x keys false h e t = simp (more_keys word x keys h, e)
gat_refused word verb x keys true h e (inl t) = cc
gat_refused word verb x keys true h e (inr t) = simp (more_keys word x keys h, e, t)

pub gat_bad_key : (line : List ℕ) (verb : Verb) (w : GatWords) → IsGatLine line verb w → NotAllKeyWords w.keys → line_says line ≡ refused bad_line_format_text
gat_bad_key line verb w e h =
    let c = command_says line forms.GetAndTouch verb (w.exptime ∷ w.keys) e in
    c.1 ∙ gat_refused c.0 verb w.exptime w.keys false (bad_is_some w.keys h) h (inl refl)

pub gat_bad_exptime : (line : List ℕ) (verb : Verb) (w : GatWords) → IsGatLine line verb w → 0 < length w.keys → NotExptime w.exptime → line_says line ≡ refused bad_line_format_text
gat_bad_exptime line verb w e h t =
    let c = command_says line forms.GetAndTouch verb (w.exptime ∷ w.keys) e in
    c.1 ∙ gat_refused c.0 verb w.exptime w.keys (list_all is_key w.keys) h refl (inr t)

-- touch

touch_with : (word : List ℕ) (verb : Verb) (k x : List ℕ) (e : Bool × ℕ) (b : Bool) → is_key k ≡ true → exptime_of x ≡ Some e
    → touch verb (word ∷ k ∷ x ∷ noreply_word b) ≡ Ends (Each (touch_call verb e b) (k ∷ []))
unfolding touch
touch_with word verb k x e true h t = simp (h, t)
touch_with word verb k x e false h t = simp (h, t)

touch_refused : (word : List ℕ) (verb : Verb) (k x : List ℕ) (b good : Bool) → is_key k ≡ good → (good ≡ false) ⊎ (exptime_of x ≡ None)
    → touch verb (word ∷ k ∷ x ∷ noreply_word b) ≡ refused bad_line_format_text
unfolding touch
touch_refused word verb k x true false e h = simp e
touch_refused word verb k x false false e h = simp e
touch_refused word verb k x b true e (inl h) = cc
touch_refused word verb k x true true e (inr h) = simp (e, h)
touch_refused word verb k x false true e (inr h) = simp (e, h)

pub touch_is : (line : List ℕ) (verb : Verb) (w : TouchWords) (e : Bool × ℕ) → IsTouchLine line verb w → IsKeyWord w.key → IsExptime w.exptime e → line_says line ≡ touch_meaning verb w e
touch_is line verb w x e h t = let c = command_says line forms.Touch verb (touch_words w) e in c.1 ∙ touch_with c.0 verb w.key w.exptime x w.noreply h t

pub touch_bad_key : (line : List ℕ) (verb : Verb) (w : TouchWords) → IsTouchLine line verb w → NotKeyWord w.key → line_says line ≡ refused bad_line_format_text
touch_bad_key line verb w e h = let c = command_says line forms.Touch verb (touch_words w) e in c.1 ∙ touch_refused c.0 verb w.key w.exptime w.noreply _ refl (inl h)

pub touch_bad_exptime : (line : List ℕ) (verb : Verb) (w : TouchWords) → IsTouchLine line verb w → NotExptime w.exptime → line_says line ≡ refused bad_line_format_text
touch_bad_exptime line verb w e h = let c = command_says line forms.Touch verb (touch_words w) e in c.1 ∙ touch_refused c.0 verb w.key w.exptime w.noreply _ refl (inr h)

pub touch_bad_words : (line : List ℕ) (verb : Verb) (ws : List (List ℕ)) → HasCommand line forms.Touch verb ws → ((w : TouchWords) → ws ≢ touch_words w) → line_says line ≡ refused error_text
unfolding touch
touch_bad_words line verb ws e n = let c = command_says line forms.Touch verb ws e in c.1 ∙ simp (other_words c.0 ws 2 others)
  where
    others : OtherWords 2 ws
    others [] b l q = absurd (omega arith)
    others (k ∷ []) b l q = absurd (omega arith)
    others (k ∷ (x ∷ [])) b l q = n (record { key = k; exptime = x; noreply = b }) q
    others (k ∷ (x ∷ (r ∷ more))) b l q = absurd (omega arith)

-- delete

zero_word : (w : ZeroWords) → HasZero w → (w.middle ≡ None) ⊎ (w.middle ≡ Some (codes "0"))
zero_word w (NoWord e) = inl e
zero_word w (Zero e) = inr e

delete_with : (word : List ℕ) (verb : Verb) (k : List ℕ) (m : Option (List ℕ)) (b good : Bool) → (m ≡ None) ⊎ (m ≡ Some (codes "0")) → is_key k ≡ good
    → deletion verb (word ∷ k ∷ (optional m ++ noreply_word b)) ≡ cond good (Ends (Each (plain_call verb b) (k ∷ []))) (refused bad_line_format_text)
unfolding deletion
delete_with word verb k m true good (inl e) h = rw e (simp h)
delete_with word verb k m false good (inl e) h = rw e (simp h)
delete_with word verb k m true good (inr e) h = rw e (simp h)
delete_with word verb k m false good (inr e) h = rw e (simp h)

pub delete_is : (line : List ℕ) (verb : Verb) (w : DeleteWords) → IsDeleteLine line verb w → HasZero w.zero → IsKeyWord w.key → line_says line ≡ delete_meaning verb w
delete_is line verb w e z h =
    let c = command_says line forms.Deletion verb (delete_words w) e in
    c.1 ∙ delete_with c.0 verb w.key w.zero.middle w.zero.noreply true (zero_word w.zero z) h

pub delete_bad_key : (line : List ℕ) (verb : Verb) (w : DeleteWords) → IsDeleteLine line verb w → HasZero w.zero → NotKeyWord w.key → line_says line ≡ refused bad_line_format_text
delete_bad_key line verb w e z h =
    let c = command_says line forms.Deletion verb (delete_words w) e in
    c.1 ∙ delete_with c.0 verb w.key w.zero.middle w.zero.noreply false (zero_word w.zero z) h

delete_other : (word : List ℕ) (verb : Verb) (k x : List ℕ) (b : Bool) → x ≢ codes "0" → (b ≡ false → x ≢ codes "noreply")
    → deletion verb (word ∷ k ∷ (optional (Some x) ++ noreply_word b)) ≡ refused bad_line_format_text
unfolding deletion
delete_other word verb k x true z n = simp (test_false x (codes "0") z)
delete_other word verb k x false z n = simp (test_false x (codes "0") z, test_false x (codes "noreply") (n refl))

pub delete_other_word : (line : List ℕ) (verb : Verb) (w : DeleteWords) → IsDeleteLine line verb w → HasOtherWord w.zero → line_says line ≡ refused bad_line_format_text
delete_other_word line verb w e o =
    let c = command_says line forms.Deletion verb (delete_words w) e in
    c.1 ∙ ap (λ (m : Option (List ℕ)). deletion verb (c.0 ∷ w.key ∷ (optional m ++ noreply_word w.zero.noreply))) o.there
    ∙ delete_other c.0 verb w.key o.word w.zero.noreply o.no_zero o.no_noreply

pub delete_bad_words : (line : List ℕ) (verb : Verb) (ws : List (List ℕ)) → HasCommand line forms.Deletion verb ws → ((w : DeleteWords) → ws ≢ delete_words w) → line_says line ≡ refused error_text
unfolding deletion
delete_bad_words line verb ws e n = let c = command_says line forms.Deletion verb ws e in c.1 ∙ by_count c.0 ws n
  where
    last_word : (word k x r : List ℕ) (t : Bool) → ((w : DeleteWords) → k ∷ x ∷ r ∷ [] ≢ delete_words w) → is_noreply r ≡ t → deletion verb (word ∷ k ∷ x ∷ r ∷ []) ≡ refused error_text
    last_word word k x r true n t = absurd (n (record { key = k; zero = record { middle = Some x; noreply = true } }) (ap (λ (z : List ℕ). k ∷ x ∷ z ∷ []) ((bytes_eq-Decides r (codes "noreply")).0 t)))
    last_word word k x r false n t = simp t

    by_count : (word : List ℕ) (ws : List (List ℕ)) → ((w : DeleteWords) → ws ≢ delete_words w) → deletion verb (word ∷ ws) ≡ refused error_text
    by_count word [] n = refl
    by_count word (k ∷ []) n = absurd (n (record { key = k; zero = record { middle = None; noreply = false } }) refl)
    by_count word (k ∷ (x ∷ [])) n = absurd (n (record { key = k; zero = record { middle = Some x; noreply = false } }) refl)
    by_count word (k ∷ (x ∷ (r ∷ []))) n = last_word word k x r (is_noreply r) n refl
    by_count word (k ∷ (x ∷ (r ∷ (q ∷ more)))) n = let m : ℕ = length (word ∷ k ∷ x ∷ r ∷ q ∷ more) in simp (too_many m 2 (omega arith), too_many m 3 (omega arith), too_many m 4 (omega arith))

-- flush_all

flush_says : (ws : List (List ℕ)) → words_say (codes "flush_all" ∷ ws) ≡ flush (codes "flush_all" ∷ ws)
unfolding words_say command_of
flush_says ws = refl

flush_with : (m : Option (List ℕ)) (b : Bool) → (m ≡ None) ⊎ (m ≡ Some (codes "0")) → flush (codes "flush_all" ∷ (optional m ++ noreply_word b)) ≡ Ends (Everywhere (plain_call Flush b))
unfolding flush
flush_with m true (inl e) = rw e refl
flush_with m false (inl e) = rw e refl
flush_with m true (inr e) = rw e refl
flush_with m false (inr e) = rw e refl

pub flush_is : (line : List ℕ) (w : ZeroWords) → IsFlushLine line w → HasZero w → line_says line ≡ Ends (Everywhere (plain_call Flush w.noreply))
flush_is line w e z = by_words line (codes "flush_all" ∷ zero_words w) e ∙ flush_says _ ∙ flush_with w.middle w.noreply (zero_word w z)

flush_other : (x : List ℕ) (b : Bool) → x ≢ codes "0" → (b ≡ false → x ≢ codes "noreply") → flush (codes "flush_all" ∷ (optional (Some x) ++ noreply_word b)) ≡ refused bad_line_format_text
unfolding flush
flush_other x true z n = simp (test_false x (codes "0") z)
flush_other x false z n = simp (test_false x (codes "0") z, test_false x (codes "noreply") (n refl))

pub flush_other_word : (line : List ℕ) (w : ZeroWords) → IsFlushLine line w → HasOtherWord w → line_says line ≡ refused bad_line_format_text
flush_other_word line w e o =
    by_words line (codes "flush_all" ∷ zero_words w) e ∙ flush_says _
    ∙ ap (λ (m : Option (List ℕ)). flush (codes "flush_all" ∷ (optional m ++ noreply_word w.noreply))) o.there
    ∙ flush_other o.word w.noreply o.no_zero o.no_noreply

pub flush_bad_words : (line : List ℕ) (ws : List (List ℕ)) → BeginsWith line (codes "flush_all") ws → ((w : ZeroWords) → ws ≢ zero_words w) → line_says line ≡ refused error_text
unfolding flush
flush_bad_words line ws e n = by_words line (codes "flush_all" ∷ ws) e ∙ flush_says ws ∙ by_count ws n
  where
    last_word : (x r : List ℕ) (t : Bool) → ((w : ZeroWords) → x ∷ r ∷ [] ≢ zero_words w) → is_noreply r ≡ t → flush (codes "flush_all" ∷ x ∷ r ∷ []) ≡ refused error_text
    last_word x r true n t = absurd (n (record { middle = Some x; noreply = true }) (ap (λ (z : List ℕ). x ∷ z ∷ []) ((bytes_eq-Decides r (codes "noreply")).0 t)))
    last_word x r false n t = simp t

    by_count : (ws : List (List ℕ)) → ((w : ZeroWords) → ws ≢ zero_words w) → flush (codes "flush_all" ∷ ws) ≡ refused error_text
    by_count [] n = absurd (n (record { middle = None; noreply = false }) refl)
    by_count (x ∷ []) n = absurd (n (record { middle = Some x; noreply = false }) refl)
    by_count (x ∷ (r ∷ [])) n = last_word x r (is_noreply r) n refl
    by_count (x ∷ (r ∷ (q ∷ more))) n = let m : ℕ = length (codes "flush_all" ∷ x ∷ r ∷ q ∷ more) in simp (too_many m 1 (omega arith), too_many m 2 (omega arith), too_many m 3 (omega arith))

-- version, verbosity, quit

pub version_is : (line : List ℕ) → BeginsWith line (codes "version") [] → line_says line ≡ Ends (One (fixed version_text false) false)
unfolding words_say command_of version
version_is line e = by_words line (codes "version" ∷ []) e ∙ refl

pub version_bad_words : (line w : List ℕ) (ws : List (List ℕ)) → BeginsWith line (codes "version") (w ∷ ws) → line_says line ≡ refused error_text
unfolding words_say command_of version
version_bad_words line w ws e = by_words line (codes "version" ∷ w ∷ ws) e ∙ simp (too_many (length (codes "version" ∷ w ∷ ws)) 1 (omega arith))

pub quit_is : (line : List ℕ) → BeginsWith line (codes "quit") [] → line_says line ≡ Ends Quit
unfolding words_say command_of quit
quit_is line e = by_words line (codes "quit" ∷ []) e ∙ refl

pub quit_bad_words : (line w : List ℕ) (ws : List (List ℕ)) → BeginsWith line (codes "quit") (w ∷ ws) → line_says line ≡ refused error_text
unfolding words_say command_of quit
quit_bad_words line w ws e = by_words line (codes "quit" ∷ w ∷ ws) e ∙ simp (too_many (length (codes "quit" ∷ w ∷ ws)) 1 (omega arith))

verbosity_says : (ws : List (List ℕ)) → words_say (codes "verbosity" ∷ ws) ≡ verbosity (codes "verbosity" ∷ ws)
unfolding words_say command_of
verbosity_says ws = refl

verbosity_with : (n : List ℕ) (b : Bool) (level : ℕ) → IsSmallNumber n level → verbosity (codes "verbosity" ∷ n ∷ noreply_word b) ≡ Ends (One (fixed okay_text b) false)
unfolding verbosity
verbosity_with n true level h = simp h
verbosity_with n false level h = simp h

verbosity_refused : (n : List ℕ) (b : Bool) → NotSmallNumber n → verbosity (codes "verbosity" ∷ n ∷ noreply_word b) ≡ refused bad_line_format_text
unfolding verbosity
verbosity_refused n true h = simp h
verbosity_refused n false h = simp h

pub verbosity_is : (line : List ℕ) (w : VerbosityWords) (level : ℕ) → IsVerbosityLine line w → IsSmallNumber w.level level → line_says line ≡ Ends (One (fixed okay_text w.noreply) false)
verbosity_is line w level e h = by_words line (codes "verbosity" ∷ verbosity_words w) e ∙ verbosity_says _ ∙ verbosity_with w.level w.noreply level h

pub verbosity_bad_number : (line : List ℕ) (w : VerbosityWords) → IsVerbosityLine line w → NotSmallNumber w.level → line_says line ≡ refused bad_line_format_text
verbosity_bad_number line w e h = by_words line (codes "verbosity" ∷ verbosity_words w) e ∙ verbosity_says _ ∙ verbosity_refused w.level w.noreply h

pub verbosity_bad_words : (line : List ℕ) (ws : List (List ℕ)) → BeginsWith line (codes "verbosity") ws → ((w : VerbosityWords) → ws ≢ verbosity_words w) → line_says line ≡ refused error_text
unfolding verbosity
verbosity_bad_words line ws e n = by_words line (codes "verbosity" ∷ ws) e ∙ verbosity_says ws ∙ simp (other_words (codes "verbosity") ws 1 others)
  where
    others : OtherWords 1 ws
    others [] b l q = absurd (omega arith)
    others (v ∷ []) b l q = n (record { level = v; noreply = b }) q
    others (v ∷ (r ∷ more)) b l q = absurd (omega arith)

-- blocks

pub long_line : (l : Limits) (text : List ℕ) → length text ≡ longest_line → lf text ≡ None → Spells l text too_long
long_line l text e n = TooLong e n refl

pub bad_chunk : (l : Limits) (c : Call) (keys : List (List ℕ)) (block ending : List ℕ) → ending ≢ crlf → finished l c keys block ending ≡ One (fixed bad_data_chunk_text c.noreply) false
unfolding finished
bad_chunk l c keys block ending n = simp (test_false ending crlf n)

too_large_test : (n limit : ℕ) → limit < n → nat_le n limit ≡ false
too_large_test n limit h = grind (arith, nat_tests)

within_test : (n limit : ℕ) → n ≤ limit → nat_le n limit ≡ true
within_test n limit h = grind (arith, nat_tests)

pub too_large : (l : Limits) (c : Call) (keys : List (List ℕ)) (block : List ℕ) → l.value_bytes < length block → finished l c keys block crlf ≡ One (fixed object_too_large_text c.noreply) false
unfolding finished
too_large l c keys block h = simp (too_large_test (length block) l.value_bytes h)

pub whole_block : (l : Limits) (c : Call) (keys : List (List ℕ)) (block : List ℕ) → length block ≤ l.value_bytes → finished l c keys block crlf ≡ Each (record c { block = block }) keys
unfolding finished
whole_block l c keys block h = simp (within_test (length block) l.value_bytes h)
