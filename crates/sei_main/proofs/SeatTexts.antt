-- The last lines, connection by connection.
use Rattle.std.proofs.Common.{◌≡◌, suc, ◌+◌, ◌<◌, ◌≤◌, ℕ, List, [], ◌∷◌, ◌++◌, length, take, drop, get_or, ap, sym, ◌∙◌, arith}
use Rattle.std.proofs.lemmas.List.{append_assoc, append-nil, take-append-drop, drop_more, take_more, take_all, length-take-le}
use Rattle.sei_main.specs.Seats.{Seat}
use Rattle.sei_main.specs.Report.{seats_text, seat_text}

seats_append : (c : ℕ) (xs ys : List Seat) → seats_text c (xs ++ ys) ≡ seats_text c xs ++ seats_text (c + length xs) ys
seats_append c [] ys = let k : c ≡ c + 0 = omega arith in ap (λ (n : ℕ). seats_text n ys) k
seats_append c (x ∷ xs) ys =
    let k : c + 1 + length xs ≡ c + suc (length xs) = omega arith in
    ap (λ (t : List ℕ). seat_text c x ++ t) (seats_append (c + 1) xs ys ∙ ap (λ (n : ℕ). seats_text (c + 1) xs ++ seats_text n ys) k)
    ∙ sym (append_assoc (seat_text c x) (seats_text (c + 1) xs) (seats_text (c + suc (length xs)) ys))

front : (seats ys : List Seat) (i : ℕ) → i ≤ length seats → seats_text 0 (take i seats ++ ys) ≡ seats_text 0 (take i seats) ++ seats_text i ys
front seats ys i l =
    let k : 0 + length (take i seats) ≡ i = omega (arith, length-take-le i seats l) in
    seats_append 0 (take i seats) ys ∙ ap (λ (n : ℕ). seats_text 0 (take i seats) ++ seats_text n ys) k

pub seats_split : (seats : List Seat) (i : ℕ) (seat : Seat) → i < length seats → seat ≡ get_or seats i seat
    → seats_text 0 seats ≡ seats_text 0 (take i seats) ++ (seat_text i seat ++ seats_text (i + 1) (drop (i + 1) seats))
seats_split seats i seat l e =
    sym (ap (seats_text 0) (take-append-drop i seats)) ∙ front seats (drop i seats) i (omega (arith, l))
    ∙ ap (λ (ys : List Seat). seats_text 0 (take i seats) ++ seats_text i ys) (drop_more seats i seat l ∙ ap (λ (x : Seat). x ∷ drop (i + 1) seats) (sym e))

pub seats_more : (seats : List Seat) (i : ℕ) (seat : Seat) → i < length seats → seat ≡ get_or seats i seat
    → seats_text 0 (take (i + 1) seats) ≡ seats_text 0 (take i seats) ++ seat_text i seat
seats_more seats i seat l e =
    ap (seats_text 0) (take_more seats i seat l ∙ ap (λ (x : Seat). take i seats ++ x ∷ []) (sym e)) ∙ front seats (seat ∷ []) i (omega (arith, l))
    ∙ ap (λ (t : List ℕ). seats_text 0 (take i seats) ++ t) (append-nil (seat_text i seat))

pub seats_all : (seats : List Seat) (i : ℕ) → length seats ≤ i → seats_text 0 (take i seats) ≡ seats_text 0 seats
seats_all seats i l = ap (seats_text 0) (take_all i seats l)

-- with what stands behind the last lines
pub seats_split_then : (seats : List Seat) (i : ℕ) (seat : Seat) (last : List ℕ) → i < length seats → seat ≡ get_or seats i seat
    → seats_text 0 seats ++ last ≡ seats_text 0 (take i seats) ++ (seat_text i seat ++ (seats_text (i + 1) (drop (i + 1) seats) ++ last))
seats_split_then seats i seat last l e =
    ap (λ (t : List ℕ). t ++ last) (seats_split seats i seat l e)
    ∙ append_assoc (seats_text 0 (take i seats)) (seat_text i seat ++ seats_text (i + 1) (drop (i + 1) seats)) last
    ∙ ap (λ (t : List ℕ). seats_text 0 (take i seats) ++ t) (append_assoc (seat_text i seat) (seats_text (i + 1) (drop (i + 1) seats)) last)
