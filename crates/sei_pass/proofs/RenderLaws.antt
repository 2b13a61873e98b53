-- Output words that are read one by one, and the bytes that are made of them.
use Rattle.std.proofs.Common.{◌≡◌, ℕ, ◌+◌, ◌<◌, Bool, true, false, List, [], ◌∷◌, ◌++◌, length, drop, get_or, Option, Some, None, sym, subst}
use Rattle.std.specs.Prelude.{nat_le, if◌then◌else◌}
use Rattle.std.proofs.lemmas.List.{drop_more}
use Rattle.sei_code.specs.Codes.{message_code}
use Rattle.sei_code.specs.declared.modes.Rendered.TheVariants.{Done, Full}
use Rattle.sei_fault.specs.Question.{Question, Answer}
use Rattle.sei_fault.specs.Question.Question.{Value}
use Rattle.sei_fault.specs.Tree.{Runs}
use Rattle.sei_stmt.specs.Handling.{rendered_as, rendered_bytes}
use Rattle.sei_stmt.specs.Machine.{Machine, Setting, After, with_bytes, with_code}
use Rattle.sei_stmt.specs.Statements.{render_words, render_bytes, render_if, store_bytes}

-- one word more is read
pub read_one : {S : Type 0} (gives : S → (q : Question) → Answer q → S → Type 0) (g : Setting) (i : ℕ) (m : Machine) (read items : List ℕ) (k v : ℕ) (a b c : S) (x : After) →
    k < length items → gives a (Value (get_or items k 0)) v b →
    Runs gives (render_words g i m (read ++ v ∷ []) (drop (k + 1) items)) b c x → Runs gives (render_words g i m read (drop k items)) a c x
read_one gives g i m read items k v a b c x l h r =
    subst (λ rest. Runs gives (render_words g i m read rest) a c x) (sym (drop_more items k 0 l)) (v, b, h, r)

-- the first byte is stored into bytes that are there already
same_bytes : {S : Type 0} (gives : S → (q : Question) → Answer q → S → Type 0) (i : ℕ) (m : Machine) (bytes : List ℕ) (s t : S) (x : After) →
    Runs gives (store_bytes i (with_bytes m bytes) bytes) s t x → Runs gives (store_bytes i m bytes) s t x
same_bytes gives i m [] s t x r = r
same_bytes gives i m (b ∷ bs) s t x r = r

done_if : {S : Type 0} (gives : S → (q : Question) → Answer q → S → Type 0) (g : Setting) (i : ℕ) (m : Machine) (bytes : List ℕ) (fits : Bool) (s t : S) (x : After) →
    Done ≡ (if fits then Done else Full) →
    Runs gives (store_bytes i (with_bytes (with_code m (message_code g.answer (if fits then bytes else []))) (if fits then bytes else [])) (if fits then bytes else [])) s t x →
    Runs gives (render_if fits g i m bytes) s t x
done_if gives g i m bytes true s t x e r = same_bytes gives i (with_code m (message_code g.answer bytes)) bytes s t x r
done_if gives g i m bytes false s t x e r = absurd cc

-- the bytes were made
pub done_runs : {S : Type 0} (gives : S → (q : Question) → Answer q → S → Type 0) (g : Setting) (i : ℕ) (m : Machine) (made : Option (List ℕ)) (s t : S) (x : After) →
    Done ≡ rendered_as made m.bytes.room →
    Runs gives (store_bytes i (with_bytes (with_code m (message_code g.answer (rendered_bytes made m.bytes.room))) (rendered_bytes made m.bytes.room)) (rendered_bytes made m.bytes.room)) s t x →
    Runs gives (render_bytes g i m made) s t x
done_runs gives g i m None s t x e r = absurd cc
done_runs gives g i m (Some bytes) s t x e r = done_if gives g i m bytes (nat_le (length bytes) m.bytes.room) s t x e r
