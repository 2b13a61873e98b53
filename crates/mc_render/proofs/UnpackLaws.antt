-- Bytes that were packed are read back.
use Rattle.std.proofs.Common.{◌≡◌, ℕ, ◌≤◌, List, ◌++◌, length, drop, Some, refl, subst, arith}
use Rattle.std.proofs.lemmas.Bool.{le-leb}
use Rattle.std.proofs.lemmas.List.{length-append}
use Rattle.std.proofs.Math.Seq.{drop-append_seam}
use Rattle.mc_model.specs.Packed.{AreBytes, words_for, pack}
use Rattle.mc_model.proofs.Public.{length_pack, unpack_before}
use Rattle.mc_render.specs.Outputs.{first_bytes}

-- packed bytes are read, whatever stands behind them
pub packed_first : (xs rest : List ℕ) → AreBytes xs → first_bytes (length xs) (pack xs ++ rest) ≡ Some (xs, rest)
packed_first xs rest h =
    let enough : words_for (length xs) ≤ length (pack xs ++ rest) = omega (arith, length-append (pack xs) rest, length_pack xs) in
    let behind : drop (words_for (length xs)) (pack xs ++ rest) ≡ rest = subst (λ n. drop n (pack xs ++ rest) ≡ rest) (length_pack xs) (drop-append_seam (pack xs) rest) in
    rw (le-leb _ _ enough, unpack_before xs rest h, behind) refl
