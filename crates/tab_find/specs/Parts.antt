-- The program of each part.
use Rattle.mc_model.specs.declared.geometry.Geometry.{Geometry}
use Rattle.sei_stmt.specs.Programs.{Prog}
use Rattle.tab_find.specs.declared.fragments.Part.{Part}
use Rattle.tab_find.specs.declared.fragments.Part.TheVariants.{Moment, Find, Free, CopyKey, CopyValue}
use Rattle.tab_find.specs.Inputs.{block_index}
use Rattle.tab_find.specs.Registers.{r_limit}
use Rattle.tab_find.specs.FindPrograms.{moment_program, find_program, free_program}
use Rattle.tab_find.specs.StorePrograms.{copy_run, store_value}

abbrev pub part_program : Geometry → Part → Prog
part_program g Moment = moment_program g
part_program g Find = find_program
part_program g Free = free_program
part_program g CopyKey = copy_run r_limit
part_program g CopyValue = store_value block_index
