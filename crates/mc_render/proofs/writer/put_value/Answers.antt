use Rattle.std.proofs.Common.{◌≡◌, ap, subst}
use Rattle.mc_render.specs.Puts.{Puts}
use Rattle.mc_render.specs.Shown.{Shown}
use Rattle.mc_render.specs.Outputs.{value_head}
use Rattle.mc_render.proofs.PutsLaws.{puts_then, two_lines}
use Rattle.mc_render.proofs.writer.put_value.Goals as goal

pub returns : goal.returns
returns c =
    let same : c.shown.inside.value ≡ c.args.shown.now.item.value = ap (λ (s : Shown). s.item.value) c.shown.view_is in
    subst (λ text. Puts c.args.into.now c.put-2.new.into text c.put-2.result) (two_lines (value_head c.args.shown.now) c.shown.inside.value c.args.shown.now.item.value same)
    (puts_then _ _ _ _ _ _ _ (puts_then _ _ _ _ _ _ _ (puts_then _ _ _ _ _ _ _ c.in_ok-put_head.ensures c.in_ok-put.ensures) c.in_ok-put_packed.ensures) c.put-2.ensures)
