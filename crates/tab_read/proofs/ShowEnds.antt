-- What the programs that show an item and the end of a reply do.
use Rattle.std.proofs.Common.{◌≡◌, ℕ, ◌+◌, ◌*◌, ◌≤◌, Bool, true, false, List, [], ◌∷◌, ◌++◌, length, refl, sym, ap, ◌∙◌, subst, arith, append-nil}
use Rattle.std.specs.Prelude.{nat_eq, ◌||◌}
use Rattle.mc_model.specs.declared.geometry.Geometry.{Geometry}
use Rattle.mc_model.specs.Bucket.{Item, Bucket}
use Rattle.mc_model.specs.Call.{Call}
use Rattle.mc_model.specs.Packed.{words_for, pack}
use Rattle.mc_model.specs.Server.{IsValid}
use Rattle.mc_model.proofs.PublicPacking.{length_pack}
use Rattle.sei_words.specs.Stands.{StandsFor}
use Rattle.sei_stmt.specs.Order.{is_open}
use Rattle.sei_stmt.specs.Runs.{Given, RunState, tick}
use Rattle.sei_stmt.specs.Programs.{Seq, Ends}
use Rattle.sei_stmt.specs.Touch.{Touch}
use Rattle.sei_stmt.proofs.Public.{seq, open_is_parsed}
use Rattle.tab_find.specs.Answers.{HasConstants}
use Rattle.tab_find.specs.Calls.{IsCall, mark}
use Rattle.tab_find.specs.Found.{IsPresent, HasKeyLoaded}
use Rattle.tab_find.specs.Inputs.{last_index}
use Rattle.tab_find.specs.Registers.{r_zero, r_one, r_key_length, r_hash, r_key_words, r_place, r_address, r_flags, r_unique, r_value_length, r_last, r_limit}
use Rattle.tab_find.specs.ShowPrograms.{Out, read_run, load_item, read_value}
use Rattle.tab_find.proofs.PublicAnswers.{item_words, last_words, constants_framed, input_word}
use Rattle.tab_find.proofs.PublicStoring.{value_registers}
use Rattle.tab_find.proofs.PublicShowing.{Made, MayTell, IsRun, ItemLoaded, item_loader, runner, load_item_ends, read_run_ends, read_item_ends, read_steps, say_ends}
use Rattle.tab_read.specs.Programs.{unique_mark, show_fields, show_item, say_last}

-- the registers of a value, the mark of the last key, and output words
abbrev pub shower : Touch
shower = record { regs = λ r. value_registers r || nat_eq r r_last; words = false; out = true; stage = false }

six_words : (out : List ℕ) (a b c d f h a' b' c' d' f' h' : ℕ) → out ≡ [] → a ≡ a' → b ≡ b' → c ≡ c' → d ≡ d' → f ≡ f' → h ≡ h' →
    (((((out ++ a ∷ []) ++ b ∷ []) ++ c ∷ []) ++ d ∷ []) ++ f ∷ []) ++ h ∷ [] ≡ a' ∷ b' ∷ c' ∷ d' ∷ f' ∷ h' ∷ []
six_words out a b c d f h a' b' c' d' f' h' eo ea eb ec ed ef eh = rw (eo, ea, eb, ec, ed, ef, eh) refl

-- the mark whether the cas unique is shown
marked : (shown : Bool) (g : Geometry) (m : ℕ) (s : RunState) → HasConstants g m s → s.regs (unique_mark shown) ≡ mark shown
marked true g m s h = h.one
marked false g m s h = h.none

module _ (g : Geometry) (e : Given) (ws : List ℕ) (b : Bucket) (key : List ℕ) (x : Item) (shown : Bool) (valid : IsValid g) (stands : StandsFor g ws b) (some : 1 ≤ length key) where
  -- the key's words, and then the value's
  words_shown : (s : RunState) (said : List ℕ) (bound most : ℕ) → IsPresent g ws b key x (s.regs r_place) → HasConstants g b.moment s → s.words ≡ ws → s.regs r_value_length ≡ length x.value →
      IsRun ws (pack key) (s.regs r_address) (s.regs r_limit) → MayTell Out e said (words_for (length key) + words_for (length x.value)) most s →
      s.steps + 4 * words_for (length key) + read_steps (words_for (length x.value)) ≤ bound →
      Ends e (Seq (read_run Out) (read_value Out)) s (Made ((said ++ pack key) ++ pack x.value) bound most)
  words_shown s said bound most p constants same long run m steps =
      let count = length_pack key in
      let low = s.steps + 4 * words_for (length key) in
      let few = s.emitted + words_for (length key) in
      seq e (runner Out) (read_run Out) (read_value Out) s (Made (said ++ pack key) low few) (Made ((said ++ pack key) ++ pack x.value) bound most) refl
      (read_run_ends Out e ws (pack key) said s low few run same constants.one (record { stage = m.stage; made = m.made; few = omega (arith, count); fits = omega (arith, m.few, m.fits) }) (omega (arith, count)))
      (λ t f d. read_item_ends g e ws b key x valid stands Out (said ++ pack key) t bound most (subst (IsPresent g ws b key x) (sym (f.regs r_place refl)) p)
      (constants_framed (runner Out) g b.moment s t (record { none = refl; moment = refl; one = refl; to_expiry = refl; wide = refl; ends = refl }) f constants) (f.words refl ∙ same) (f.regs r_value_length refl ∙ long)
      (record { stage = ap is_open (f.stage refl) ∙ m.stage; made = d.made; few = omega (arith, d.emitted, m.few); fits = m.fits }) (omega (arith, d.steps, steps)))

  -- the fields before them
  fields_shown : (s : RunState) (low bound most : ℕ) → IsPresent g ws b key x (s.regs r_place) → HasKeyLoaded key s → HasConstants g b.moment s → s.words ≡ ws → ItemLoaded g e ws b key x valid stands low s →
      MayTell Out e [] (6 + words_for (length key) + words_for (length x.value)) most s → s.steps + 6 + 4 * words_for (length key) + read_steps (words_for (length x.value)) ≤ bound →
      Ends e (Seq (show_fields shown) (Seq (read_run Out) (read_value Out))) s (Made (item_words shown key x) bound most)
  fields_shown s low bound most p loaded constants same item m steps =
      let head = 1 ∷ mark shown ∷ length key ∷ x.flags ∷ length x.value ∷ x.unique ∷ [] in (
        m.stage,
        omega (arith, m.few, m.fits),
        (
          m.stage,
          omega (arith, m.few, m.fits),
          (
            m.stage,
            omega (arith, m.few, m.fits),
            (
              m.stage,
              omega (arith, m.few, m.fits),
              (
                m.stage,
                omega (arith, m.few, m.fits),
                (
                  m.stage,
                  omega (arith, m.few, m.fits),
                  words_shown _ head bound most p constants same item.value_length item.key_words
                      (record {
                        stage = m.stage;
                        made = six_words s.out (s.regs r_one) (s.regs (unique_mark shown)) (s.regs r_key_length) (s.regs r_flags) (s.regs r_value_length) (s.regs r_unique) 1 (mark shown) (length key) x.flags (length x.value) x.unique m.made constants.one (marked shown g b.moment s constants) loaded.key_length item.flags item.value_length item.unique;
                        few = omega (arith, m.few);
                        fits = m.fits;
                      }) (omega (arith, steps)),
                ),
              ),
            ),
          ),
        ),
      )

  -- the whole item
  pub show_item_ends : (s : RunState) (bound most : ℕ) → IsPresent g ws b key x (s.regs r_place) → HasKeyLoaded key s → HasConstants g b.moment s → s.words ≡ ws →
      MayTell Out e [] (6 + words_for (length key) + words_for (length x.value)) most s → s.steps + 16 + 4 * words_for (length key) + read_steps (words_for (length x.value)) ≤ bound → Ends e (show_item shown) s (Made (item_words shown key x) bound most)
  show_item_ends s bound most p loaded constants same m steps =
      seq e item_loader load_item (Seq (show_fields shown) (Seq (read_run Out) (read_value Out))) s (ItemLoaded g e ws b key x valid stands (s.steps + 10)) (Made (item_words shown key x) bound most) refl
      (load_item_ends g e ws b key x valid stands s (s.steps + 10) p some loaded constants same (omega arith))
      (λ t f d. fields_shown t (s.steps + 10) bound most (subst (IsPresent g ws b key x) (sym (f.regs r_place refl)) p)
      (record { key_length = f.regs r_key_length refl ∙ loaded.key_length; hash = f.regs r_hash refl ∙ loaded.hash; key_words = f.regs r_key_words refl ∙ loaded.key_words })
      (constants_framed item_loader g b.moment s t (record { none = refl; moment = refl; one = refl; to_expiry = refl; wide = refl; ends = refl }) f constants) (f.words refl ∙ same) d
      (record { stage = ap is_open (f.stage refl) ∙ m.stage; made = f.out refl ∙ m.made; few = omega (arith, f.emitted refl, m.few); fits = m.fits }) (omega (arith, d.steps, steps)))

-- a text, after the last call of the request
pub say_last_ends : (e : Given) (c : Call) (s : RunState) (n : ℕ) (last : Bool) (said : List ℕ) (bound most : ℕ) → IsCall e.input c → c.last ≡ last → s.regs r_zero ≡ 0 → s.regs r_one ≡ 1 → MayTell Out e said 2 most s → s.steps + 6 ≤ bound →
    Ends e (say_last n) s (Made (said ++ last_words n last) bound most)
say_last_ends e c s n true said bound most call is none one m steps = (
  open_is_parsed s.stage m.stage,
  1,
  input_word e.input c last_index 1 call (omega arith) (call.last ∙ ap mark is),
  (
    λ h. say_ends e (tick _) said n bound most none m (omega (arith, steps)),
    λ h. absurd (h (sym one)),
  ),
)
say_last_ends e c s n false said bound most call is none one m steps = (
  open_is_parsed s.stage m.stage,
  0,
  input_word e.input c last_index 0 call (omega arith) (call.last ∙ ap mark is),
  (
    λ h. absurd (omega (arith, h, one)),
    λ h. record { steps = omega (arith, steps); emitted = omega (arith, m.few); made = m.made ∙ sym (append-nil said) },
  ),
)
