-- One altered byte changes the code. The prime is odd, so it has an inverse modulo 2 ^ 64, and a step of the fold is one to one in the state and in the byte.
use Rattle.std.proofs.Common.{◌≡◌, ◌≢◌, ℕ, zero, suc, ◌*◌, ◌%◌, ◌^◌, ◌<◌, List, [], ◌∷◌, ◌++◌, length, get_or, sym, ap, ◌∙◌, arith}
use Rattle.std.proofs.lemmas.Grind.{fold-append, same_number_lists}
use Rattle.std.proofs.lemmas.Nat.{mul-mod_first, mul-mod_second, xor_lt}
use Rattle.std.proofs.Math.Nat.{mul_assoc}
use lib.Bits.{bit_xor, xor_self, xor_assoc, xor_comm, xor_zero_r}
use Rattle.sei_code.specs.Codes.{offset_basis, prime, fnv_byte, fnv_from, fnv64, message_code, DifferAt}
use Rattle.std.specs.Int.{w64, to_be_bytes}

-- the bytes of one list and then those of another
pub fnv_from_append : (state : ℕ) (xs ys : List ℕ) → fnv_from state (xs ++ ys) ≡ fnv_from (fnv_from state xs) ys
fnv_from_append state xs ys = fold-append fnv_byte state xs ys

-- the inverse of the prime modulo 2 ^ 64
abbrev inverse_prime : ℕ
inverse_prime = 14886173955864302971

small : (x : ℕ) → x < 2 ^ 64 → x % 2 ^ 64 ≡ x
small x fits = omega arith

-- back from the product
product_undone : (x : ℕ) → x < 2 ^ 64 → (((x * prime) % 2 ^ 64) * inverse_prime) % 2 ^ 64 ≡ x
product_undone x fits =
    mul-mod_first (x * prime) inverse_prime (2 ^ 64)
    ∙ ap (λ n. n % 2 ^ 64) (mul_assoc x prime inverse_prime)
    ∙ sym (mul-mod_second x (prime * inverse_prime) (2 ^ 64))
    ∙ small (x * 1) (omega arith)
    ∙ omega arith

product_one : (x y : ℕ) → x < 2 ^ 64 → y < 2 ^ 64 → (x * prime) % 2 ^ 64 ≡ (y * prime) % 2 ^ 64 → x ≡ y
product_one x y x_fits y_fits same =
    sym (product_undone x x_fits) ∙ ap (λ n. (n * inverse_prime) % 2 ^ 64) same ∙ product_undone y y_fits

xor_twice : (a b : ℕ) → bit_xor a (bit_xor a b) ≡ b
xor_twice a b = sym (xor_assoc a a b) ∙ ap (λ n. bit_xor n b) (xor_self a) ∙ xor_comm 0 b ∙ xor_zero_r b

xor_one : (a b c : ℕ) → bit_xor a b ≡ bit_xor a c → b ≡ c
xor_one a b c same = sym (xor_twice a b) ∙ ap (bit_xor a) same ∙ xor_twice a c

fnv_byte_lt : (state b : ℕ) → fnv_byte state b < 2 ^ 64
fnv_byte_lt state b = omega arith

fnv_from_lt : (state : ℕ) (xs : List ℕ) → state < 2 ^ 64 → fnv_from state xs < 2 ^ 64
fnv_from_lt state [] fits = fits
fnv_from_lt state (x ∷ xs) fits = fnv_from_lt (fnv_byte state x) xs (fnv_byte_lt state x)

-- one byte from two states
one_state : (s t b : ℕ) → s < 2 ^ 64 → t < 2 ^ 64 → b < 256 → fnv_byte s b ≡ fnv_byte t b → s ≡ t
one_state s t b s_fits t_fits is_byte same =
    let fits : b < 2 ^ 64 = omega arith in
    xor_one b s t (xor_comm b s ∙ product_one (bit_xor s b) (bit_xor t b) (xor_lt 64 s b s_fits fits) (xor_lt 64 t b t_fits fits) same ∙ xor_comm t b)

-- two bytes from one state
one_byte : (s b c : ℕ) → s < 2 ^ 64 → b < 256 → c < 256 → fnv_byte s b ≡ fnv_byte s c → b ≡ c
one_byte s b c s_fits b_is_byte c_is_byte same =
    let b_fits : b < 2 ^ 64 = omega arith in
    let c_fits : c < 2 ^ 64 = omega arith in
    xor_one s b c (product_one (bit_xor s b) (bit_xor s c) (xor_lt 64 s b s_fits b_fits) (xor_lt 64 s c s_fits c_fits) same)

abbrev pub IsBytes : List ℕ → Type 0
IsBytes xs = (k : ℕ) → get_or xs k 0 < 256

-- the same bytes from two states
one_start : (s t : ℕ) (xs : List ℕ) → s < 2 ^ 64 → t < 2 ^ 64 → IsBytes xs → fnv_from s xs ≡ fnv_from t xs → s ≡ t
one_start s t [] s_fits t_fits bytes same = same
one_start s t (x ∷ xs) s_fits t_fits bytes same =
    one_state s t x s_fits t_fits (bytes 0) (one_start (fnv_byte s x) (fnv_byte t x) xs (fnv_byte_lt s x) (fnv_byte_lt t x) (λ k. bytes (suc k)) same)

-- two lists that differ in one byte, from one state
from_apart : (state : ℕ) (xs ys : List ℕ) (at : ℕ) → state < 2 ^ 64 → IsBytes xs → IsBytes ys → DifferAt xs ys at → fnv_from state xs ≢ fnv_from state ys
from_apart state [] ys at fits x_bytes y_bytes differ same = absurd (omega (arith, differ.within))
from_apart state (x ∷ xs) [] at fits x_bytes y_bytes differ same = absurd (omega (arith, differ.long))
from_apart state (x ∷ xs) (y ∷ ys) zero fits x_bytes y_bytes differ same =
    let rest : xs ≡ ys = same_number_lists xs ys (omega (arith, differ.long)) (λ k _. differ.elsewhere (suc k) (omega arith)) in
    let same_rest : fnv_from (fnv_byte state x) ys ≡ fnv_from (fnv_byte state y) ys = ap (fnv_from (fnv_byte state x)) (sym rest) ∙ same in
    let same_step : fnv_byte state x ≡ fnv_byte state y = one_start (fnv_byte state x) (fnv_byte state y) ys (fnv_byte_lt state x) (fnv_byte_lt state y) (λ k. y_bytes (suc k)) same_rest in
    differ.there (one_byte state x y fits (x_bytes 0) (y_bytes 0) same_step)
from_apart state (x ∷ xs) (y ∷ ys) (suc at) fits x_bytes y_bytes differ same =
    let head : x ≡ y = differ.elsewhere 0 (omega arith) in
    let rest : DifferAt xs ys at = record {
      long = omega (arith, differ.long);
      within = omega (arith, differ.within);
      there = differ.there;
      elsewhere = λ k other. differ.elsewhere (suc k) (omega arith);
    } in
    from_apart (fnv_byte state x) xs ys at (fnv_byte_lt state x) (λ k. x_bytes (suc k)) (λ k. y_bytes (suc k)) rest (same ∙ ap (λ b. fnv_from (fnv_byte state b) ys) (sym head))

pub plain_apart : (xs ys : List ℕ) (at : ℕ) → IsBytes xs → IsBytes ys → DifferAt xs ys at → fnv64 xs ≢ fnv64 ys
unfolding fnv64
plain_apart xs ys at x_bytes y_bytes differ = from_apart offset_basis xs ys at (omega arith) x_bytes y_bytes differ

-- the header is the same, since the lengths are
pub coded_apart : (n : ℕ) (xs ys : List ℕ) (at : ℕ) → IsBytes xs → IsBytes ys → DifferAt xs ys at → message_code n xs ≢ message_code n ys
unfolding fnv64 message_code
coded_apart n xs ys at x_bytes y_bytes differ same =
    let header : ℕ → List ℕ = λ long. to_be_bytes w64 n ++ to_be_bytes w64 long in
    let start = fnv_from offset_basis (header (length xs)) in
    let same_header = ap (λ long. fnv_from offset_basis (header long ++ ys)) (sym differ.long) in
    from_apart start xs ys at (fnv_from_lt offset_basis (header (length xs)) (omega arith)) x_bytes y_bytes differ
    (sym (fnv_from_append offset_basis (header (length xs)) xs) ∙ same ∙ same_header ∙ fnv_from_append offset_basis (header (length xs)) ys)
