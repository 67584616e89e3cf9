-- What the small programs ask and how they come out, by computing it.
use Rattle.std.proofs.Common.{refl}
use Rattle.std.specs.Fmt.{digits}
use Rattle.lang_meaning.specs.Asking.{ask, meaning, most_ticks}
use Rattle.lang_meaning.specs.Laws.{PrintsSum, RestsOnce, BeginsEach, BranchesInOrder, CountsFromFive, ReadsWritten, RunsLoops}
use Rattle.lang_meaning.specs.Elision.{ran_through, elided}

pub prints_sum_asks : PrintsSum
unfolding ask meaning
prints_sum_asks = record { prints = refl; ends = refl; is_over = refl }

pub counts_asks : RestsOnce
unfolding ask meaning most_ticks
counts_asks = record { rests = refl; ends = refl }

pub branches_ask : BeginsEach
unfolding ask meaning
branches_ask = record { first = refl; second = refl; joins = refl; ends = refl }

pub branches_in_order : BranchesInOrder
unfolding elided ran_through meaning digits
branches_in_order = record { traps = refl; prints = refl; suffices = refl; steps = refl; cells = refl; trap_too = refl }

pub counts_from_five : CountsFromFive
unfolding elided ran_through meaning digits
counts_from_five = record { two = refl; zero = refl; negative = refl }

pub reads_written : ReadsWritten
unfolding elided ran_through meaning
reads_written = record { three = refl; too_short = refl }

pub runs_loops : RunsLoops
unfolding elided ran_through meaning
runs_loops = record { counts = refl; first_trap = refl; endless = refl }
