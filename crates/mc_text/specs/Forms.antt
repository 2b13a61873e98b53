-- The forms of lines and of their fields, in the protocol's words.
-- They tell `Lines.antt` a second time, without nested tests: the law `lines_mean` says that both say the same.
use Rattle.std.specs.Prelude.{◌≡◌, ◌≢◌, ℕ, ◌<◌, ◌-◌, ◌^◌, Bool, true, false, List, [], ◌∷◌, ◌++◌, Option, Some, None, All, length, codes}
use Rattle.std.specs.List.{list_all}
use Rattle.mc_model.specs.declared.call.Verb.{Verb}
use Rattle.mc_model.specs.Call.{Call, blank}
use Rattle.mc_model.specs.Numbers.{number_upto}
use Rattle.mc_model.specs.Texts.{object_too_large_text}
use Rattle.mc_text.specs.Words.{words, without_cr}
use Rattle.mc_text.specs.declared.commands.Form.{Form}
use Rattle.mc_text.specs.declared.commands.Form.TheVariants as forms
use Rattle.mc_text.specs.declared.fields.Item.{Item}
use Rattle.mc_text.specs.Fields.{is_key, exptime_of}
use Rattle.mc_text.specs.Commands.{commands, command_of}
use Rattle.mc_text.specs.Meaning.{One, Each}
use Rattle.mc_text.specs.Lines.{LineMeaning, Ends, Wants, fixed, item_call}

-- the words of a line, without a CR at its end
abbrev pub words_of : List ℕ → List (List ℕ)
words_of line = words (without_cr line)

abbrev pub IsKeyWord : List ℕ → Type 0
IsKeyWord w = is_key w ≡ true

abbrev pub NotKeyWord : List ℕ → Type 0
NotKeyWord w = is_key w ≡ false

-- one key or more
abbrev pub AreKeyWords : List (List ℕ) → Type 0
AreKeyWords ws = (0 < length ws) × (list_all is_key ws ≡ true)

abbrev pub NotAllKeyWords : List (List ℕ) → Type 0
NotAllKeyWords ws = list_all is_key ws ≡ false

-- flags, the size of a block, or a verbosity
abbrev pub IsSmallNumber : List ℕ → ℕ → Type 0
IsSmallNumber w n = number_upto (2 ^ 32 - 1) w ≡ Some n

abbrev pub NotSmallNumber : List ℕ → Type 0
NotSmallNumber w = number_upto (2 ^ 32 - 1) w ≡ None

-- the unique number of a cas
abbrev pub IsUnique : List ℕ → ℕ → Type 0
IsUnique w n = number_upto (2 ^ 64 - 1) w ≡ Some n

abbrev pub NotUnique : List ℕ → Type 0
NotUnique w = number_upto (2 ^ 64 - 1) w ≡ None

-- whether it is negative, and its number
abbrev pub IsExptime : List ℕ → Bool × ℕ → Type 0
IsExptime w e = exptime_of w ≡ Some e

abbrev pub NotExptime : List ℕ → Type 0
NotExptime w = exptime_of w ≡ None

-- perhaps a word
abbrev pub optional : Option (List ℕ) → List (List ℕ)
optional None = []
optional (Some w) = w ∷ []

-- perhaps the word `noreply`
abbrev pub noreply_word : Bool → List (List ℕ)
noreply_word true = codes "noreply" ∷ []
noreply_word false = []

-- a command whose lines have this form and whose calls are of this verb, and the words after it
abbrev pub HasCommand : List ℕ → Form → Verb → List (List ℕ) → Type 0
HasCommand line form verb ws = (word : List ℕ) × (command_of word ≡ Some (record { form = form; verb = verb })) × (words_of line ≡ word ∷ ws)

-- set, add, replace: <key> <flags> <exptime> <bytes> [noreply]
pub record ItemWords : Type 0 where
  pub key : List ℕ
  pub flags : List ℕ
  pub exptime : List ℕ
  pub bytes : List ℕ
  pub noreply : Bool

abbrev pub storage_words : ItemWords → List (List ℕ)
storage_words w = w.key ∷ w.flags ∷ w.exptime ∷ w.bytes ∷ noreply_word w.noreply

abbrev pub IsStorageLine : List ℕ → Verb → ItemWords → Type 0
IsStorageLine line verb w = HasCommand line forms.Storage verb (storage_words w)

-- each of its fields has its form, and the item is this one
pub record HasItem (w : ItemWords) (i : Item) : Type 0 where
  pub key : IsKeyWord w.key
  pub flags : IsSmallNumber w.flags i.flags
  pub exptime : IsExptime w.exptime (i.negative, i.exptime)
  pub bytes : IsSmallNumber w.bytes i.bytes

-- one of its fields has not its form
pub data HasBadField (w : ItemWords) : Type 0 where
  BadKey : NotKeyWord w.key → HasBadField w
  BadFlags : NotSmallNumber w.flags → HasBadField w
  BadExptime : NotExptime w.exptime → HasBadField w
  BadBytes : NotSmallNumber w.bytes → HasBadField w

-- a line whose block is not read, since nobody could keep it
abbrev pub too_large_line : LineMeaning
too_large_line = Ends (One (fixed object_too_large_text false) true)

-- it asks for this call, with the block that follows
abbrev pub storage_meaning : Verb → ItemWords → Item → LineMeaning
storage_meaning verb w i = Wants (item_call verb i w.noreply) (w.key ∷ []) i.bytes

-- cas: <key> <flags> <exptime> <bytes> <unique> [noreply]
pub record CasWords : Type 0 where
  pub item : ItemWords
  pub unique : List ℕ

abbrev pub cas_words : CasWords → List (List ℕ)
cas_words w = w.item.key ∷ w.item.flags ∷ w.item.exptime ∷ w.item.bytes ∷ w.unique ∷ noreply_word w.item.noreply

abbrev pub IsCasLine : List ℕ → Verb → CasWords → Type 0
IsCasLine line verb w = HasCommand line forms.CheckAndSet verb (cas_words w)

-- its item, and its unique
pub record CasItem : Type 0 where
  pub item : Item
  pub unique : ℕ

abbrev pub HasCasItem : CasWords → CasItem → Type 0
HasCasItem w v = HasItem w.item v.item × IsUnique w.unique v.unique

-- it asks for this call, with the block that follows
abbrev pub cas_meaning : Verb → CasWords → CasItem → LineMeaning
cas_meaning verb w v = Wants (record (item_call verb v.item w.item.noreply) { unique = v.unique }) (w.item.key ∷ []) v.item.bytes

-- get, gets: <key>+
abbrev pub IsGetLine : List ℕ → Verb → List (List ℕ) → Type 0
IsGetLine line verb keys = HasCommand line forms.Retrieval verb keys

-- gat, gats: <exptime> <key>+
pub record GatWords : Type 0 where
  pub exptime : List ℕ
  pub keys : List (List ℕ)

abbrev pub IsGatLine : List ℕ → Verb → GatWords → Type 0
IsGatLine line verb w = HasCommand line forms.GetAndTouch verb (w.exptime ∷ w.keys)

-- a call with an exptime
abbrev pub touch_call : Verb → Bool × ℕ → Bool → Call
touch_call verb e noreply = record (blank verb) { negative = e.0; exptime = e.1; noreply = noreply }

abbrev pub gat_meaning : Verb → GatWords → Bool × ℕ → LineMeaning
gat_meaning verb w e = Ends (Each (touch_call verb e false) w.keys)

-- touch: <key> <exptime> [noreply]
pub record TouchWords : Type 0 where
  pub key : List ℕ
  pub exptime : List ℕ
  pub noreply : Bool

abbrev pub touch_words : TouchWords → List (List ℕ)
touch_words w = w.key ∷ w.exptime ∷ noreply_word w.noreply

abbrev pub IsTouchLine : List ℕ → Verb → TouchWords → Type 0
IsTouchLine line verb w = HasCommand line forms.Touch verb (touch_words w)

abbrev pub touch_meaning : Verb → TouchWords → Bool × ℕ → LineMeaning
touch_meaning verb w e = Ends (Each (touch_call verb e w.noreply) (w.key ∷ []))

-- [0] [noreply], or another word in the place of the `0`
pub record ZeroWords : Type 0 where
  pub middle : Option (List ℕ)
  pub noreply : Bool

abbrev pub zero_words : ZeroWords → List (List ℕ)
zero_words w = optional w.middle ++ noreply_word w.noreply

-- the `0` or nothing
pub data HasZero (w : ZeroWords) : Type 0 where
  NoWord : w.middle ≡ None → HasZero w
  Zero : w.middle ≡ Some (codes "0") → HasZero w

-- neither the `0` nor a `noreply` at the end
pub record HasOtherWord (w : ZeroWords) : Type 0 where
  pub word : List ℕ
  pub there : w.middle ≡ Some word
  pub no_zero : word ≢ codes "0"
  pub no_noreply : w.noreply ≡ false → word ≢ codes "noreply"

-- delete: <key> [0] [noreply]
pub record DeleteWords : Type 0 where
  pub key : List ℕ
  pub zero : ZeroWords

abbrev pub delete_words : DeleteWords → List (List ℕ)
delete_words w = w.key ∷ zero_words w.zero

abbrev pub IsDeleteLine : List ℕ → Verb → DeleteWords → Type 0
IsDeleteLine line verb w = HasCommand line forms.Deletion verb (delete_words w)

-- a call whose fields are none but the mark of silence
abbrev pub plain_call : Verb → Bool → Call
plain_call verb noreply = record (blank verb) { noreply = noreply }

abbrev pub delete_meaning : Verb → DeleteWords → LineMeaning
delete_meaning verb w = Ends (Each (plain_call verb w.zero.noreply) (w.key ∷ []))

-- flush_all [0] [noreply]
abbrev pub IsFlushLine : List ℕ → ZeroWords → Type 0
IsFlushLine line w = words_of line ≡ codes "flush_all" ∷ zero_words w

-- verbosity <n> [noreply]
pub record VerbosityWords : Type 0 where
  pub level : List ℕ
  pub noreply : Bool

abbrev pub verbosity_words : VerbosityWords → List (List ℕ)
verbosity_words w = w.level ∷ noreply_word w.noreply

abbrev pub IsVerbosityLine : List ℕ → VerbosityWords → Type 0
IsVerbosityLine line w = words_of line ≡ codes "verbosity" ∷ verbosity_words w

-- this line begins with a command's word, and these words follow
abbrev pub BeginsWith : List ℕ → List ℕ → List (List ℕ) → Type 0
BeginsWith line command ws = words_of line ≡ command ∷ ws

-- no command has this word
abbrev pub IsUnknown : List ℕ → Type 0
IsUnknown w = All (λ row. w ≢ row.word) commands
