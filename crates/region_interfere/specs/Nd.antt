-- What is declared atomic, as plain data.
use Rattle.std.specs.Prelude.{Option, option_map}
use Rattle.lang_base.specs.Branches.{Atomic}
use Rattle.region_interfere.specs.declared.atomic.Atomic as code

abbrev pub plain_atomic : code.Atomic → Atomic
plain_atomic atomic = record { names = atomic.names.now; params = atomic.params.now }

-- None for a deterministic construct
abbrev pub plain_nd : Option code.Atomic → Option Atomic
plain_nd nd = option_map plain_atomic nd
