-- A path as far as it is read.
use Rattle.std.specs.Prelude.{cond, Option, None, Some}
use Rattle.lang_base.specs.declared.region.Rpl.{Rpl}
use Rattle.decl_resolve.specs.declared.paths.Reading.{Reading}

-- the path so far, where all its names are known
abbrev pub meant : Reading → Option Rpl
meant reading = cond reading.known (Some reading.rpl) None
