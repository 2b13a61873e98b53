-- When what is compared is equal.
use Rattle.std.specs.Prelude.{◌≡◌, ℕ, Bool, true, false, ◌==◌, ◌&&◌, List, Option, Some, None, slice_get}
use Rattle.std.proofs.Common.{ap, sym, ◌∙◌, refl}
use Rattle.std.specs.Str.{bytes_eq}
use Rattle.std.proofs.lemmas.Bool.Decides.{Decides-eqb}
use Rattle.std.proofs.lemmas.Slice.Eq.{bytes_eq-Decides}
use Rattle.std.specs.declared.result.Result.{Result}
use Rattle.std.specs.declared.result.Result.TheVariants.{Ok}
use Rattle.sei_code.specs.Codes.{message_code}
use Rattle.sei_code.specs.declared.modes.Mode.{Mode}
use Rattle.sei_code.specs.declared.modes.Mode.TheVariants.{Plain}
use Rattle.sei_fault.specs.declared.cause.AbortCause.{AbortCause}
use Rattle.sei_fault.specs.Tree.{honest}
use Rattle.sei_log.specs.Changes.{change_of}
use Rattle.sei_log.specs.declared.log.Change.{Change}
use Rattle.sei_compare.specs.Comparing.{same_change, word_read, word_at, word_is, word_outcome, same_code, same_reply, wire_of, is_message}

and_parts : (a b : Bool) → (a && b) ≡ true → (a ≡ true) × (b ≡ true)
and_parts true b e = (refl, e)
and_parts false b e = cc

both : (a b : Bool) → a ≡ true → b ≡ true → (a && b) ≡ true
both true b e f = f
both false b e f = e

same_number : (x : ℕ) → (x == x) ≡ true
same_number x = (Decides-eqb x x).1 refl

same_bytes : (xs : List ℕ) → bytes_eq xs xs ≡ true
same_bytes xs = (bytes_eq-Decides xs xs).1 refl

-- changes with equal fields are equal
same_fields : (a b : Change) → a.address ≡ b.address → a.was ≡ b.was → a.becomes ≡ b.becomes → a ≡ b
same_fields a b e f g =
    ap (λ (n : ℕ). change_of n a.was a.becomes) e ∙ ap (λ (n : ℕ). change_of b.address n a.becomes) f ∙ ap (λ (n : ℕ). change_of b.address b.was n) g

-- what is tested to be the same change is there on both sides, and is one change
pub same_change-one : (a b : Option Change) → same_change a b ≡ true → (c : Change) × (a ≡ Some c) × (b ≡ Some c)
same_change-one None b e = cc
same_change-one (Some a) None e = cc
same_change-one (Some a) (Some b) e =
    let first = and_parts (a.address == b.address && a.was == b.was) (a.becomes == b.becomes) e in
    let more = and_parts (a.address == b.address) (a.was == b.was) first.0 in
    let address : a.address ≡ b.address = (Decides-eqb a.address b.address).0 more.0 in
    let was : a.was ≡ b.was = (Decides-eqb a.was b.was).0 more.1 in
    let becomes : a.becomes ≡ b.becomes = (Decides-eqb a.becomes b.becomes).0 first.1 in
    let same : b ≡ a = sym (same_fields a b address was becomes) in
    (a, refl, ap (λ (c : Change). let o : Option Change = Some c in o) same)

-- a change is tested to be itself
pub same_change-same : (c : Change) → same_change (Some c) (Some c) ≡ true
same_change-same c =
    both (c.address == c.address && c.was == c.was) (c.becomes == c.becomes)
    (both (c.address == c.address) (c.was == c.was) (same_number c.address) (same_number c.was))
    (same_number c.becomes)

read_honest : (c : Change) (o : Option ℕ) → honest (word_read c o) ≡ word_is c o
read_honest c None = refl
read_honest c (Some word) = refl

-- what comes of a word is what its honest run ends with
pub word_at-honest : (words : List ℕ) (o : Option Change) → honest (word_at words o) ≡ word_outcome words o
word_at-honest words None = refl
word_at-honest words (Some c) = read_honest c (slice_get words c.address)

read_new : (c : Change) (o : Option ℕ) → word_is c o ≡ Ok true → o ≡ Some c.becomes
read_new c None e = cc
read_new c (Some word) e =
    let same : (word == c.becomes) ≡ true = cc in
    ap (λ (w : ℕ). let o : Option ℕ = Some w in o) ((Decides-eqb word c.becomes).0 same)

-- where it comes out true without a strike, the new word stands at the address
pub word_outcome-new : (words : List ℕ) (c : Change) → word_outcome words (Some c) ≡ Ok true → slice_get words c.address ≡ Some c.becomes
word_outcome-new words c e = read_new c (slice_get words c.address) e

-- where the new word stands at the address, it comes out true
pub word_outcome-same : (words : List ℕ) (c : Change) → slice_get words c.address ≡ Some c.becomes → word_outcome words (Some c) ≡ Ok true
word_outcome-same words c e = ap (word_is c) e ∙ ap (λ (b : Bool). let r : Result Bool AbortCause = Ok b in r) (same_number c.becomes)

-- what is tested to be the same code is there on both sides, and is one code
same_code-one : (a b : Option ℕ) → same_code a b ≡ true → (c : ℕ) × (a ≡ Some c) × (b ≡ Some c)
same_code-one None b e = cc
same_code-one (Some a) None e = cc
same_code-one (Some a) (Some b) e =
    let same : b ≡ a = sym ((Decides-eqb a b).0 e) in
    (a, refl, ap (λ (c : ℕ). let o : Option ℕ = Some c in o) same)

-- what is tested to be the same reply has one code, which is there on both sides, and the same bytes
pub same_reply-one : (one : Option ℕ) (first : List ℕ) (two : Option ℕ) (second : List ℕ) → same_reply one first two second ≡ true →
    (c : ℕ) × (one ≡ Some c) × (two ≡ Some c) × (first ≡ second)
same_reply-one one first two second e =
    let parts = and_parts (same_code one two) (bytes_eq first second) e in
    let code = same_code-one one two parts.0 in
    (code.0, code.1, code.2, (bytes_eq-Decides first second).0 parts.1)

-- a reply with a code is tested to be itself
pub same_reply-same : (c : ℕ) (xs : List ℕ) → same_reply (Some c) xs (Some c) xs ≡ true
same_reply-same c xs = both (c == c) (bytes_eq xs xs) (same_number c) (same_bytes xs)

-- what is tested to be the message has its code, and the bytes are what goes out for those of the pass
pub is_message-one : (mode : Mode) (n : ℕ) (code : Option ℕ) (first bytes : List ℕ) → is_message mode n code first bytes ≡ true →
    (code ≡ Some (message_code n bytes)) × (bytes ≡ wire_of mode n first)
is_message-one mode n code first bytes e =
    let parts = and_parts (same_code code (Some (message_code n bytes))) (bytes_eq bytes (wire_of mode n first)) e in
    let one = same_code-one code (Some (message_code n bytes)) parts.0 in
    (one.1 ∙ sym one.2, (bytes_eq-Decides bytes (wire_of mode n first)).0 parts.1)

-- bytes with their own code are tested to be the message, in plain mode
pub is_message-same : (n : ℕ) (xs : List ℕ) → is_message Plain n (Some (message_code n xs)) xs xs ≡ true
is_message-same n xs = both (message_code n xs == message_code n xs) (bytes_eq xs xs) (same_number (message_code n xs)) (same_bytes xs)
