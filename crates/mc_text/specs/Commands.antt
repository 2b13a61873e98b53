-- The commands that requests may ask for, in one list.
use Rattle.std.specs.Prelude.{◌≡◌, ℕ, Bool, true, false, List, [], ◌∷◌, ◌++◌, Option, Some, None, codes, slice_get, map, if◌then◌else◌}
use Rattle.std.specs.Str.{bytes_eq}
use Rattle.mc_model.specs.declared.call.Verb.{Verb}
use Rattle.mc_model.specs.declared.call.Verb.TheVariants.{Set, Add, Replace, Cas, Get, Gets, Gat, Gats, Touch, Delete, Flush, Fixed}
use Rattle.mc_model.specs.Call.{verb_number}
use Rattle.mc_text.specs.declared.commands.Command.{Command}
use Rattle.mc_text.specs.declared.commands.Form.{Form}
use Rattle.mc_text.specs.declared.commands.Form.TheVariants as forms

-- a command word, and what its lines are
pub record Row : Type 0 where
  pub word : List ℕ
  pub command : Command

abbrev pub row : List ℕ → Form → Verb → Row
row word form verb = record { word = word; command = record { form = form; verb = verb } }

-- a command is one row. Rows with keys are in the order of their commands' numbers
abbrev pub commands : List Row
commands =
    row (codes "set") forms.Storage Set
    ∷ row (codes "add") forms.Storage Add
    ∷ row (codes "replace") forms.Storage Replace
    ∷ row (codes "cas") forms.CheckAndSet Cas
    ∷ row (codes "get") forms.Retrieval Get
    ∷ row (codes "gets") forms.Retrieval Gets
    ∷ row (codes "gat") forms.GetAndTouch Gat
    ∷ row (codes "gats") forms.GetAndTouch Gats
    ∷ row (codes "touch") forms.Touch Touch
    ∷ row (codes "delete") forms.Deletion Delete
    ∷ row (codes "flush_all") forms.Flush Flush
    ∷ row (codes "version") forms.Version Fixed
    ∷ row (codes "verbosity") forms.Verbosity Fixed
    ∷ row (codes "quit") forms.Quit Fixed
    ∷ []

abbrev pub command_in : List ℕ → List Row → Option Command
command_in w [] = None
command_in w (r ∷ rows) = if bytes_eq w r.word then Some r.command else command_in w rows

-- the command with this word
unfoldable pub command_of : List ℕ → Option Command
command_of w = command_in w commands

-- lines of this form have keys, and a call of their row's command at each
abbrev pub has_keys : Form → Bool
has_keys forms.Storage = true
has_keys forms.CheckAndSet = true
has_keys forms.Retrieval = true
has_keys forms.GetAndTouch = true
has_keys forms.Touch = true
has_keys forms.Deletion = true
has_keys forms.Flush = false
has_keys forms.Version = false
has_keys forms.Verbosity = false
has_keys forms.Quit = false

-- the commands of the rows with keys
abbrev pub key_verbs : List Row → List Verb
key_verbs [] = []
key_verbs (r ∷ rows) = if has_keys r.command.form then r.command.verb ∷ key_verbs rows else key_verbs rows

-- the commands of the calls of requests: those at keys, the one at buckets, and the fixed text
abbrev pub read_verbs : List Verb
read_verbs = key_verbs commands ++ Flush ∷ Fixed ∷ []

-- their numbers, in the same order
abbrev pub read_numbers : List ℕ
read_numbers = map verb_number read_verbs

-- the command is one of them
pub record IsReadVerb (verb : Verb) : Type 0 where
  pub place : ℕ
  pub there : slice_get read_verbs place ≡ Some verb
