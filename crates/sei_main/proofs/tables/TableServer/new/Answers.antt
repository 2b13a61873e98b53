use Rattle.std.proofs.Common.{sym, subst}
use Rattle.std.specs.Prelude.{List, All}
use Rattle.sei_words.specs.Words.{BucketWords}
use Rattle.sei_main.specs.Tables.{IsOfGeometry}
use Rattle.sei_main.proofs.TableLaws.{fresh_laid_out}
use Rattle.sei_main.proofs.tables.TableServer.new.Goals as goal

pub invariant_of-result : goal.invariant_of-result
invariant_of-result c =
    let g = c.args.geometry in (
      c.in-Ok.ensures.made,
      record {
        space = c.in_ok-new.ensures.space;
        valid = c.requires;
        laid_out = subst (λ (bs : List BucketWords). All (IsOfGeometry g) bs) (sym c.in_ok-fresh_buckets.ensures) (fresh_laid_out g);
      },
    )
