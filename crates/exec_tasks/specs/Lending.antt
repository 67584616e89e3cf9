-- What a cell ends as, where a `&mut` to its value is returned.
use Rattle.std.specs.Prelude.{Option, Some}
use Rattle.std.specs.Borrow.{Lends, Fml, RattleType, MutBor}
use Rattle.std.specs.contracts.option.Option.{the_row as option_row}
use Rattle.exec_tasks.specs.contracts.kept.Kept.{the_row as kept_row}

-- once the borrow r ends, the cell has the last value written through r
abbrev pub LendsValue : (X : RattleType) → MutBor (Option X.Denot) → MutBor X.Denot → Fml
LendsValue X cell r = Lends (option_row (kept_row X)) X cell r Some
