use Rattle.std.proofs.Common.{◌≡◌, ◌+◌, ◌*◌, ◌≤◌, [], ◌∷◌, ◌++◌, length, drop, arith}
use Rattle.sei_script.specs.Hexadecimal.{unhexed}
use Rattle.sei_script.proofs.HexLaws.{pair_more}
use Rattle.sei_script.proofs.hexadecimal.unhex.Goals as goal

pub loop-rest-preserved : goal.loop-rest-preserved
loop-rest-preserved c =
    let l = c.loop-rest in
    let high = c.in-Some.high in
    let low = c.in-Some-hex_value.low in
    let items : c.push.new.self.items ≡ l.bytes.items ++ (16 * high + low) ∷ [] = c.in_ok-push.ensures.items in
    let rest : c.behind_pair-rest.result.now ≡ drop 2 l.rest.now = c.behind_pair-rest.ensures in
    let few : 2 ≤ length l.rest.now = omega arith in
    rw (items, rest) (pair_more l.bytes.items l.rest.now high low (unhexed c.args.text.now) few c.in-Some.ensures.value c.in-Some-hex_value.ensures.value l.invariant)
