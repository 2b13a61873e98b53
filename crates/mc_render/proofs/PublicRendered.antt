-- What output words render to.
pub use Rattle.mc_render.proofs.RenderedLaws.{rendered_nil}
pub use Rattle.mc_render.proofs.OutputLaws.{rendered_text, rendered_number, rendered_value}
