-- What holds of each call of a request that is spelled.
use Rattle.std.proofs.Common.{◌≡◌, ℕ, zero, suc, ◌+◌, ◌-◌, ◌≤◌, ◌<◌, ◌^◌, Bool, true, false, cond, List, [], ◌∷◌, length, take, drop, refl, sym, ap, subst, arith, lit<, Option, Some, None}
use Rattle.std.specs.Prelude.{All, ⊤, ◌&&◌, ◌||◌, ◌==◌, nat_le, nat_lt}
use Rattle.std.specs.List.{list_all, flat_map}
use Rattle.std.specs.Str.{bytes_eq}
use Rattle.std.proofs.lemmas.Bool.Decides.{nat_tests}
use Rattle.std.proofs.lemmas.List.Elements.{All-nil, All-cons, All-append}
use Rattle.std.proofs.Math.Nat.{mod-lt}
use Rattle.sei_code.specs.Codes.{fnv64}
use Rattle.std.proofs.Math.ListN.{length-take, length-drop}
use Rattle.mc_model.specs.declared.call.Verb.{Verb}
use Rattle.mc_model.specs.declared.call.Verb.TheVariants as verbs
use Rattle.mc_model.specs.Call.{Call, blank, bucket_of_key, IsBucketOf}
use Rattle.mc_model.specs.Numbers.{number_upto}
use Rattle.mc_text.specs.declared.limits.Limits.{Limits}
use Rattle.mc_text.specs.declared.commands.Command.{Command}
use Rattle.mc_text.specs.declared.commands.Form.{Form}
use Rattle.mc_text.specs.declared.commands.Form.TheVariants as forms
use Rattle.mc_model.specs.Texts.{okay_text, error_text, version_text, bad_line_format_text, bad_data_chunk_text, line_too_long_text, object_too_large_text, text_count}
use Rattle.mc_text.specs.Words.{words, without_cr, arg}
use Rattle.mc_text.specs.Bounds.{longest_block}
use Rattle.mc_text.specs.declared.fields.Item.{Item}
use Rattle.mc_text.specs.Fields.{is_key, exptime_of, item_with, item_of, has_words}
use Rattle.mc_text.specs.Commands.{command_of, has_keys, IsReadVerb}
use Rattle.mc_text.specs.Meaning.{Meaning, Quit, One, Each, Everywhere, key_calls, bucket_calls, calls_of, is_closing, ends_connection}
use Rattle.mc_text.specs.Lines.{LineMeaning, Ends, Wants, fixed, having, field, some_words, block_for, item_call, has_zero_words, is_zero_or_noreply, asks_noreply, storage, check_and_set, retrieval, get_and_touch, touch, deletion, flush, version, verbosity, quit, by_form, by_command, words_say}
use Rattle.mc_text.specs.Spells.{Spells, TooLong, OneLine, WithBlock, line_says, settled, finished}
use Rattle.mc_text.specs.Stream.{Takes, requests, rest_of, up_to_end, own_calls}
use Rattle.mc_text.specs.Fits.{HasKey, HasNoKey, HasReadFields, IsFit}
use Rattle.mc_text.proofs.StreamLaws.{is_split}
use Rattle.mc_model.proofs.Public.{number_within}
use Rattle.mc_text.proofs.NumberLaws.{exptime_within}
use Rattle.mc_text.proofs.PublicCommands.{form_has_key, form_is_read, flush_is_read, text_is_read}
use Rattle.mc_text.proofs.CallLaws.{length-bucket_calls}

-- a call at a key stands at the bucket of its key
pub placed_at_key : (buckets : ℕ) (verb : Verb) (key : List ℕ) (b : ℕ) → HasKey verb → b ≡ bucket_of_key buckets key → IsBucketOf buckets verb key b
placed_at_key buckets verbs.Set key b h e = e
placed_at_key buckets verbs.Add key b h e = e
placed_at_key buckets verbs.Replace key b h e = e
placed_at_key buckets verbs.Append key b h e = e
placed_at_key buckets verbs.Prepend key b h e = e
placed_at_key buckets verbs.Cas key b h e = e
placed_at_key buckets verbs.Get key b h e = e
placed_at_key buckets verbs.Gets key b h e = e
placed_at_key buckets verbs.Gat key b h e = e
placed_at_key buckets verbs.Gats key b h e = e
placed_at_key buckets verbs.Touch key b h e = e
placed_at_key buckets verbs.Delete key b h e = e
placed_at_key buckets verbs.Incr key b h e = e
placed_at_key buckets verbs.Decr key b h e = e
placed_at_key buckets verbs.Flush key b h e = absurd h
placed_at_key buckets verbs.Fixed key b h e = absurd h

-- a text stands at the first bucket
pub placed_at_first : (buckets : ℕ) (verb : Verb) (key : List ℕ) → verb ≡ verbs.Fixed → IsBucketOf buckets verb key 0
placed_at_first buckets verb key v = let P : Verb → Type 0 = λ w. IsBucketOf buckets w key 0 in subst P (sym v) refl

-- a call on one bucket stands at any
placed_anywhere : (buckets : ℕ) (verb : Verb) (key : List ℕ) (b : ℕ) → verb ≡ verbs.Flush → b < buckets → IsBucketOf buckets verb key b
placed_anywhere buckets verb key b v h = let P : Verb → Type 0 = λ w. IsBucketOf buckets w key b in subst P (sym v) h

-- a command on no key is not one on a key
pub no_key : (verb : Verb) → HasNoKey verb → HasKey verb → ⊥
no_key verbs.Flush v h = h
no_key verbs.Fixed v h = h
no_key verb v h = v

has_no_key : (verb w : Verb) → verb ≡ w → HasNoKey w → HasNoKey verb
has_no_key verb w v h = subst HasNoKey (sym v) h

-- a call of a command on no key has neither key nor block
pub record IsKeyless (command : Verb) (c : Call) : Type 0 where
  pub verb : c.verb ≡ command
  pub key : c.key ≡ []
  pub block : c.block ≡ []
  pub fields : HasReadFields c
  pub text : c.text < text_count

-- a call at keys, whatever its block is
pub record IsKeyCall (c : Call) : Type 0 where
  pub key : HasKey c.verb
  pub fields : HasReadFields c
  pub text : c.text < text_count

-- some keys, each of its form
abbrev pub AreKeys : List (List ℕ) → Type 0
AreKeys keys = (0 < length keys) × (list_all is_key keys ≡ true)

-- they are words of the line
abbrev pub AreWords : List (List ℕ) → List (List ℕ) → Type 0
AreWords ws keys = (first : ℕ) × (count : ℕ) × (keys ≡ some_words ws first count)

-- of a request, before its calls are placed
abbrev Fits : Limits → Meaning → Type 0
Fits l Quit = ⊤
Fits l (One c closing) = IsKeyless verbs.Fixed c
Fits l (Each c keys) = IsKeyCall c × AreKeys keys × (length c.block ≤ l.value_bytes)
Fits l (Everywhere c) = IsKeyless verbs.Flush c

-- of a line with these words
abbrev pub LineFits : List (List ℕ) → LineMeaning → Type 0
LineFits ws (Ends Quit) = ⊤
LineFits ws (Ends (One c closing)) = IsKeyless verbs.Fixed c
LineFits ws (Ends (Each c keys)) = IsKeyCall c × AreKeys keys × AreWords ws keys × (c.block ≡ [])
LineFits ws (Ends (Everywhere c)) = IsKeyless verbs.Flush c
LineFits ws (Wants c keys n) = IsKeyCall c × AreKeys keys × AreWords ws keys

text_fits : (ws : List (List ℕ)) (text : ℕ) (noreply closing : Bool) → text < text_count → LineFits ws (Ends (One (fixed text noreply) closing))
text_fits ws text noreply closing h =
    record {
      verb = refl;
      key = refl;
      block = refl;
      fields = record { verb = text_is_read; flags = lit< tt; exptime = lit< tt; unique = lit< tt; value = lit< tt };
      text = h;
    }

having_fits : (ws : List (List ℕ)) (good : Bool) (text : ℕ) (s : LineMeaning) → text < text_count → (good ≡ true → LineFits ws s) → LineFits ws (having good text s)
having_fits ws true text s h f = f refl
having_fits ws false text s h f = text_fits ws text false false h

field_fits : {A : Type 0} (ws : List (List ℕ)) (text : ℕ) (o : Option A) (f : A → LineMeaning) → text < text_count → ((x : A) → o ≡ Some x → LineFits ws (f x)) → LineFits ws (field text o f)
field_fits ws text None f h g = text_fits ws text false false h
field_fits ws text (Some x) f h g = g x refl

block_fits : (ws : List (List ℕ)) (c : Call) (keys : List (List ℕ)) (bytes : ℕ) → IsKeyCall c → AreKeys keys → AreWords ws keys → LineFits ws (block_for c keys bytes)
block_fits ws c keys bytes k e from = by_size (nat_le bytes longest_block)
  where
    by_size : (b : Bool) → LineFits ws (cond b (Wants c keys bytes) (Ends (One (fixed object_too_large_text false) true)))
    by_size true = (k, e, from)
    by_size false = text_fits ws object_too_large_text false true (lit< tt)

-- the one key of a line
one_key : (ws : List (List ℕ)) → is_key (arg ws 1) ≡ true → AreKeys (some_words ws 1 1)
one_key [] e = cc
one_key (a ∷ []) e = cc
one_key (a ∷ (b ∷ [])) e = (lit< tt, simp e)
one_key (a ∷ (b ∷ (c ∷ ws))) e = (lit< tt, simp e)

above : (m n : ℕ) → nat_lt m n ≡ true → m < n
above m n e = grind (arith, nat_tests)

both : (a b : Bool) → (a && b) ≡ true → (a ≡ true) × (b ≡ true)
both true true e = (refl, refl)
both true false e = cc
both false b e = cc

all-take : (n : ℕ) (ws : List (List ℕ)) → list_all is_key ws ≡ true → list_all is_key (take n ws) ≡ true
all-take zero [] e = refl
all-take zero (w ∷ ws) e = refl
all-take (suc n) [] e = refl
all-take (suc n) (w ∷ ws) e = let h = both (is_key w) (list_all is_key ws) e in simp (h.0, all-take n ws h.1)

-- a command whose lines have keys
record IsKeyVerb (verb : Verb) : Type 0 where
  key : HasKey verb
  read : IsReadVerb verb

-- an item of a line is within its limits
record IsWithin (i : Item) : Type 0 where
  flags : i.flags < 2 ^ 32
  exptime : i.exptime < 2 ^ 63

item_within : (key flags exptime bytes : List ℕ) (i : Item) → item_of key flags exptime bytes ≡ Some i → (is_key key ≡ true) × IsWithin i
unfolding item_of
item_within key flags exptime bytes i is =
    by_fields (is_key key) (number_upto (2 ^ 32 - 1) flags) (exptime_of exptime) (number_upto (2 ^ 32 - 1) bytes) refl
    (λ n e. let low : n ≤ 2 ^ 32 - 1 = number_within (2 ^ 32 - 1) flags n e in omega arith)
    (λ x e. let soon : x.1 ≤ 2 ^ 63 - 1 = exptime_within exptime x e in omega arith)
    is
  where
    by_fields : (k : Bool) (f : Option ℕ) (e : Option (Bool × ℕ)) (b : Option ℕ) → is_key key ≡ k
        → ((n : ℕ) → f ≡ Some n → n < 2 ^ 32) → ((x : Bool × ℕ) → e ≡ Some x → x.1 < 2 ^ 63) → cond k (item_with f e b) None ≡ Some i → (is_key key ≡ true) × IsWithin i
    by_fields false f e b k low soon is = cc
    by_fields true None e b k low soon is = cc
    by_fields true (Some x) None b k low soon is = cc
    by_fields true (Some x) (Some y) None k low soon is = cc
    by_fields true (Some x) (Some y) (Some z) k low soon is =
        let same : record { flags = x; negative = y.0; exptime = y.1; bytes = z } ≡ i = cc in
        (k, subst IsWithin same (record { flags = low x refl; exptime = soon y refl }))

-- a call that offers one
item_fits : (verb : Verb) (i : Item) (noreply : Bool) (unique : ℕ) → IsKeyVerb verb → IsWithin i → unique < 2 ^ 64 → IsKeyCall (record (item_call verb i noreply) { unique = unique })
item_fits verb i noreply unique h w u = record { key = h.key; fields = record { verb = h.read; flags = w.flags; exptime = w.exptime; unique = u; value = lit< tt }; text = lit< tt }

storage_fits : (verb : Verb) (ws : List (List ℕ)) → IsKeyVerb verb → LineFits ws (storage verb ws)
unfolding storage
storage_fits verb ws h =
    having_fits ws (has_words ws 5) error_text _ (lit< tt) (λ w.
    field_fits ws bad_line_format_text (item_of (arg ws 1) (arg ws 2) (arg ws 3) (arg ws 4)) _ (lit< tt) (λ i is.
    let within = item_within (arg ws 1) (arg ws 2) (arg ws 3) (arg ws 4) i is in
    block_fits ws (item_call verb i (nat_lt 5 (length ws))) (some_words ws 1 1) i.bytes (item_fits verb i (nat_lt 5 (length ws)) 0 h within.1 (lit< tt)) (one_key ws within.0) (1, 1, refl)))

check_and_set_fits : (verb : Verb) (ws : List (List ℕ)) → IsKeyVerb verb → LineFits ws (check_and_set verb ws)
unfolding check_and_set
check_and_set_fits verb ws h =
    having_fits ws (has_words ws 6) error_text _ (lit< tt) (λ w.
    field_fits ws bad_line_format_text (item_of (arg ws 1) (arg ws 2) (arg ws 3) (arg ws 4)) _ (lit< tt) (λ i is.
    field_fits ws bad_line_format_text (number_upto (2 ^ 64 - 1) (arg ws 5)) _ (lit< tt) (λ unique small.
    let within = item_within (arg ws 1) (arg ws 2) (arg ws 3) (arg ws 4) i is in
    let low : unique ≤ 2 ^ 64 - 1 = number_within (2 ^ 64 - 1) (arg ws 5) unique small in
    block_fits ws (record (item_call verb i (nat_lt 6 (length ws))) { unique = unique }) (some_words ws 1 1) i.bytes
    (item_fits verb i (nat_lt 6 (length ws)) unique h within.1 (omega arith)) (one_key ws within.0) (1, 1, refl))))

-- a call with an exptime
timed_fits : (verb : Verb) (negative : Bool) (seconds : ℕ) (noreply : Bool) → IsKeyVerb verb → seconds < 2 ^ 63 → IsKeyCall (record (blank verb) { negative = negative; exptime = seconds; noreply = noreply })
timed_fits verb negative seconds noreply h soon = record { key = h.key; fields = record { verb = h.read; flags = lit< tt; exptime = soon; unique = lit< tt; value = lit< tt }; text = lit< tt }

-- a call with no field of its own
blank_fits : (verb : Verb) (noreply : Bool) → IsKeyVerb verb → IsKeyCall (record (blank verb) { noreply = noreply })
blank_fits verb noreply h = timed_fits verb false 0 noreply h (lit< tt)

some_left : (ws : List (List ℕ)) (first : ℕ) → first < length ws → 0 < length (take (length ws - first) (drop first ws))
some_left ws first more = omega (arith, length-take (length ws - first) (drop first ws), length-drop first ws)

-- the keys from a word on
keys_after : (ws : List (List ℕ)) (first : ℕ) → nat_lt first (length ws) ≡ true → list_all is_key (drop first ws) ≡ true → AreKeys (some_words ws first (length ws - first))
keys_after ws first w k = (some_left ws first (above first (length ws) w), all-take (length ws - first) (drop first ws) k)

retrieval_fits : (verb : Verb) (ws : List (List ℕ)) → IsKeyVerb verb → LineFits ws (retrieval verb ws)
unfolding retrieval
retrieval_fits verb ws h =
    having_fits ws (nat_lt 1 (length ws)) error_text _ (lit< tt) (λ w.
    having_fits ws (list_all is_key (drop 1 ws)) bad_line_format_text (Ends (Each (blank verb) (some_words ws 1 (length ws - 1)))) (lit< tt) (λ k.
    (blank_fits verb false h, keys_after ws 1 w k, (1, length ws - 1, refl), refl)))

get_and_touch_fits : (verb : Verb) (ws : List (List ℕ)) → IsKeyVerb verb → LineFits ws (get_and_touch verb ws)
unfolding get_and_touch
get_and_touch_fits verb ws h =
    having_fits ws (nat_lt 2 (length ws)) error_text _ (lit< tt) (λ w.
    having_fits ws (list_all is_key (drop 2 ws)) bad_line_format_text _ (lit< tt) (λ k.
    field_fits ws bad_line_format_text (exptime_of (arg ws 1)) (λ e. Ends (Each (record (blank verb) { negative = e.0; exptime = e.1 }) (some_words ws 2 (length ws - 2)))) (lit< tt) (λ e short.
    let soon : e.1 ≤ 2 ^ 63 - 1 = exptime_within (arg ws 1) e short in
    (timed_fits verb e.0 e.1 false h (omega arith), keys_after ws 2 w k, (2, length ws - 2, refl), refl))))

touch_fits : (verb : Verb) (ws : List (List ℕ)) → IsKeyVerb verb → LineFits ws (touch verb ws)
unfolding touch
touch_fits verb ws h =
    having_fits ws (has_words ws 3) error_text _ (lit< tt) (λ w.
    having_fits ws (is_key (arg ws 1)) bad_line_format_text _ (lit< tt) (λ k.
    field_fits ws bad_line_format_text (exptime_of (arg ws 2)) (λ e. Ends (Each (record (blank verb) { negative = e.0; exptime = e.1; noreply = nat_lt 3 (length ws) }) (some_words ws 1 1))) (lit< tt) (λ e short.
    let soon : e.1 ≤ 2 ^ 63 - 1 = exptime_within (arg ws 2) e short in
    (timed_fits verb e.0 e.1 (nat_lt 3 (length ws)) h (omega arith), one_key ws k, (1, 1, refl), refl))))

deletion_fits : (verb : Verb) (ws : List (List ℕ)) → IsKeyVerb verb → LineFits ws (deletion verb ws)
unfolding deletion
deletion_fits verb ws h =
    having_fits ws (has_zero_words ws 2) error_text _ (lit< tt) (λ w.
    having_fits ws (is_zero_or_noreply ws 2) bad_line_format_text _ (lit< tt) (λ z.
    having_fits ws (is_key (arg ws 1)) bad_line_format_text (Ends (Each (record (blank verb) { noreply = asks_noreply ws 2 }) (some_words ws 1 1))) (lit< tt) (λ k.
    (blank_fits verb (asks_noreply ws 2) h, one_key ws k, (1, 1, refl), refl))))

flush_fits : (ws : List (List ℕ)) → LineFits ws (flush ws)
unfolding flush
flush_fits ws =
    having_fits ws (has_zero_words ws 1) error_text _ (lit< tt) (λ w.
    having_fits ws (is_zero_or_noreply ws 1) bad_line_format_text (Ends (Everywhere (record (blank verbs.Flush) { noreply = asks_noreply ws 1 }))) (lit< tt) (λ z.
    record {
      verb = refl;
      key = refl;
      block = refl;
      fields = record { verb = flush_is_read; flags = lit< tt; exptime = lit< tt; unique = lit< tt; value = lit< tt };
      text = lit< tt;
    }))

version_fits : (ws : List (List ℕ)) → LineFits ws (version ws)
unfolding version
version_fits ws = having_fits ws (length ws == 1) error_text (Ends (One (fixed version_text false) false)) (lit< tt) (λ w. text_fits ws version_text false false (lit< tt))

verbosity_fits : (ws : List (List ℕ)) → LineFits ws (verbosity ws)
unfolding verbosity
verbosity_fits ws =
    having_fits ws (has_words ws 2) error_text _ (lit< tt) (λ w.
    field_fits ws bad_line_format_text (number_upto (2 ^ 32 - 1) (arg ws 1)) (λ n. Ends (One (fixed okay_text (nat_lt 2 (length ws))) false)) (lit< tt) (λ n small.
    text_fits ws okay_text (nat_lt 2 (length ws)) false (lit< tt)))

quit_fits : (ws : List (List ℕ)) → LineFits ws (quit ws)
unfolding quit
quit_fits ws = having_fits ws (length ws == 1) error_text (Ends Quit) (lit< tt) (λ w. tt)

form_fits : (form : Form) (verb : Verb) (ws : List (List ℕ)) → (has_keys form ≡ true → IsKeyVerb verb) → LineFits ws (by_form form verb ws)
form_fits forms.Storage verb ws h = storage_fits verb ws (h refl)
form_fits forms.Retrieval verb ws h = retrieval_fits verb ws (h refl)
form_fits forms.CheckAndSet verb ws h = check_and_set_fits verb ws (h refl)
form_fits forms.GetAndTouch verb ws h = get_and_touch_fits verb ws (h refl)
form_fits forms.Touch verb ws h = touch_fits verb ws (h refl)
form_fits forms.Deletion verb ws h = deletion_fits verb ws (h refl)
form_fits forms.Flush verb ws h = flush_fits ws
form_fits forms.Version verb ws h = version_fits ws
form_fits forms.Verbosity verb ws h = verbosity_fits ws
form_fits forms.Quit verb ws h = quit_fits ws

pub line_fits : (line : List ℕ) → LineFits (words (without_cr line)) (line_says line)
unfolding line_says words_say
line_fits line = by_row (command_of (arg (words (without_cr line)) 0)) refl
  where
    by_row : (o : Option Command) → command_of (arg (words (without_cr line)) 0) ≡ o → LineFits (words (without_cr line)) (by_command o (words (without_cr line)))
    by_row None e = text_fits (words (without_cr line)) error_text false false (lit< tt)
    by_row (Some c) e = form_fits c.form c.verb (words (without_cr line)) (λ k. record { key = form_has_key (arg (words (without_cr line)) 0) c e k; read = form_is_read (arg (words (without_cr line)) 0) c e k })

-- a line that is a whole request
ended_fits : (l : Limits) (ws : List (List ℕ)) (m : Meaning) → LineFits ws (Ends m) → Fits l m
ended_fits l ws Quit f = tt
ended_fits l ws (One c closing) f = f
ended_fits l ws (Each c keys) f = (f.0, f.1, rw f.3 (omega arith))
ended_fits l ws (Everywhere c) f = f

-- or one whose block follows
block_is_fit : (l : Limits) (ws : List (List ℕ)) (c : Call) (keys : List (List ℕ)) (block ending : List ℕ) → LineFits ws (Wants c keys (length block)) → Fits l (finished l c keys block ending)
unfolding finished
block_is_fit l ws c keys block ending f = by_tests (bytes_eq ending (13 ∷ 10 ∷ [])) (nat_le (length block) l.value_bytes) refl
  where
    within : nat_le (length block) l.value_bytes ≡ true → length block ≤ l.value_bytes
    within e = grind (arith, nat_tests)

    by_tests : (good small : Bool) → nat_le (length block) l.value_bytes ≡ small → Fits l (settled c keys block (cond good (cond small None (Some object_too_large_text)) (Some bad_data_chunk_text)))
    by_tests true true e = (let r = f.0.fields in record { key = f.0.key; fields = record { verb = r.verb; flags = r.flags; exptime = r.exptime; unique = r.unique; value = r.value }; text = f.0.text }, f.1, within e)
    by_tests true false e = text_fits ws object_too_large_text c.noreply false (lit< tt)
    by_tests false small e = text_fits ws bad_data_chunk_text c.noreply false (lit< tt)

spelled_fits : (l : Limits) (text : List ℕ) (m : Meaning) → Spells l text m → Fits l m
spelled_fits l text m (TooLong long none is) = subst (Fits l) (sym is) (text_fits [] line_too_long_text false true (lit< tt))
spelled_fits l text m (OneLine line is t e) = ended_fits l (words (without_cr line)) m (subst (LineFits (words (without_cr line))) e (line_fits line))
spelled_fits l text m (WithBlock line block ending c keys is t e two result) =
    subst (Fits l) (sym result) (block_is_fit l (words (without_cr line)) c keys block ending (subst (LineFits (words (without_cr line))) e (line_fits line)))

keys_fit : (l : Limits) (c : Call) (keys : List (List ℕ)) → 0 < l.buckets → IsKeyCall c → list_all is_key keys ≡ true → length c.block ≤ l.value_bytes → All (IsFit l) (key_calls l.buckets c keys)
keys_fit l c [] some is keys block = All-nil (IsFit l)
keys_fit l c (k ∷ ks) some is keys block =
    let each = both (is_key k) (list_all is_key ks) keys in
    let r = is.fields in
    All-cons (IsFit l) _ _
    (record {
      placed = placed_at_key l.buckets c.verb k (bucket_of_key l.buckets k) is.key refl;
      bucket = mod-lt (fnv64 k) some;
      key = λ h. each.0;
      block = block;
      text = is.text;
      fields = record { verb = r.verb; flags = r.flags; exptime = r.exptime; unique = r.unique; value = r.value };
      no_key = λ v. absurd (no_key c.verb v is.key);
      no_block = λ v. absurd (no_key c.verb v is.key);
    })
    (keys_fit l c ks some is each.1 block)

buckets_fit : (l : Limits) (c : Call) (b n : ℕ) → b + n ≤ l.buckets → IsKeyless verbs.Flush c → All (IsFit l) (bucket_calls c b n)
buckets_fit l c b zero le f = All-nil (IsFit l)
buckets_fit l c b (suc n) le f =
    let r = f.fields in
    All-cons (IsFit l) _ _
    (record {
      placed = placed_anywhere l.buckets c.verb c.key b f.verb (omega arith);
      bucket = omega arith;
      key = λ h. absurd (no_key c.verb (has_no_key c.verb verbs.Flush f.verb tt) h);
      block = rw f.block (omega arith);
      text = f.text;
      fields = record { verb = r.verb; flags = r.flags; exptime = r.exptime; unique = r.unique; value = r.value };
      no_key = λ v. f.key;
      no_block = λ v. f.block;
    })
    (buckets_fit l c (b + 1) n (omega arith) f)

meaning_fits : (l : Limits) (m : Meaning) → 0 < l.buckets → Fits l m → All (IsFit l) (calls_of l.buckets m)
unfolding calls_of
meaning_fits l Quit some f = All-nil (IsFit l)
meaning_fits l (One c closing) some f =
    All-cons (IsFit l) (record { bucket = 0; call = c }) []
    (record {
      placed = placed_at_first l.buckets c.verb c.key f.verb;
      bucket = some;
      key = λ h. absurd (no_key c.verb (has_no_key c.verb verbs.Fixed f.verb tt) h);
      block = rw f.block (omega arith);
      text = f.text;
      fields = f.fields;
      no_key = λ v. f.key;
      no_block = λ v. f.block;
    })
    (All-nil (IsFit l))
meaning_fits l (Each c keys) some f = keys_fit l c keys some f.0 f.1.1 f.2
meaning_fits l (Everywhere c) some f = buckets_fit l c 0 l.buckets (omega arith) f

-- each call of a request that is spelled
pub calls_fit : (l : Limits) (text : List ℕ) (m : Meaning) → 0 < l.buckets → Spells l text m → All (IsFit l) (calls_of l.buckets m)
calls_fit l text m some s = meaning_fits l m some (spelled_fits l text m s)

-- and each own call of a connection
pub own_calls_fit : (l : Limits) (bytes : List ℕ) → 0 < l.buckets → All (IsFit l) (own_calls l bytes)
own_calls_fit l bytes some = taken_fit bytes (requests l bytes) (rest_of l bytes) (is_split l bytes).0
  where
    by_end : (b : Bool) (ms : List Meaning) → All (IsFit l) (flat_map (calls_of l.buckets) (up_to_end ms)) → All (IsFit l) (flat_map (calls_of l.buckets) (cond b [] (up_to_end ms)))
    by_end true ms f = All-nil (IsFit l)
    by_end false ms f = f

    taken_fit : (bytes : List ℕ) (ms : List Meaning) (rest : List ℕ) → Takes l bytes ms rest → All (IsFit l) (flat_map (calls_of l.buckets) (up_to_end ms))
    taken_fit bytes [] rest t = All-nil (IsFit l)
    taken_fit bytes (m ∷ ms) rest t =
        All-append (IsFit l) (calls_of l.buckets m) (flat_map (calls_of l.buckets) (cond (ends_connection m) [] (up_to_end ms)))
        (calls_fit l t.0 m some t.2) (by_end (ends_connection m) ms (taken_fit t.1 ms rest t.4))

-- a request ends the connection where it has no call or is closing
pub ends_where : (l : Limits) (text : List ℕ) (m : Meaning) → 0 < l.buckets → Spells l text m → ends_connection m ≡ ((length (calls_of l.buckets m) == 0) || is_closing m)
unfolding calls_of
ends_where l text m buckets s = by_meaning m (spelled_fits l text m s)
  where
    some : (n : ℕ) → (suc n == 0) ≡ false
    some n = grind (arith, nat_tests)

    not_none : (n : ℕ) → 0 < n → (n == 0) ≡ false
    not_none n h = grind (arith, nat_tests)

    by_meaning : (m : Meaning) → Fits l m → ends_connection m ≡ ((length (calls_of l.buckets m) == 0) || is_closing m)
    by_meaning Quit f = refl
    by_meaning (One c closing) f = refl
    by_meaning (Each c []) f = absurd (omega (arith, f.1.0))
    by_meaning (Each c (k ∷ ks)) f = ap (λ (b : Bool). b || false) (sym (some (length (key_calls l.buckets c ks))))
    by_meaning (Everywhere c) f = let none : (length (bucket_calls c 0 l.buckets) == 0) ≡ false = not_none (length (bucket_calls c 0 l.buckets)) (omega (arith, length-bucket_calls c 0 l.buckets)) in ap (λ (b : Bool). b || false) (sym none)
