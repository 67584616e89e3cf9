-- What small programs ask, and how they come out in sequence, as their texts say.
use Rattle.std.specs.Prelude.{◌≡◌, ℕ, pos, negsuc, codes, [], ◌∷◌}
use Rattle.lang_base.specs.declared.value.Trap.TheVariants.{Divide, Index}
use Rattle.lang_base.specs.declared.outcome.Limits.{Limits}
use Rattle.lang_typed.specs.Samples.{here, program_of}
use Rattle.std.specs.Fmt.{signed_decimal}
use Rattle.lang_meaning.specs.Values.{Int}
use Rattle.lang_meaning.specs.Actions.{Went, Joined, Returned, Trapped, Do, Rest, Print, Begin, Join, End, Next, Over}
use Rattle.lang_meaning.specs.Counts.{line}
use Rattle.lang_meaning.specs.Elision.{elided}
use Rattle.lang_meaning.specs.Outcomes.{Came, Limited}
use Rattle.lang_meaning.specs.Samples.{asks, prints_sum, counts, one_and_two, divides, prints_from_five, fills_and_reads, traps_twice, endless}

-- it prints 3 in decimal, then ends with 7, and then it is over
pub record PrintsSum : Type 0 where
  pub prints : asks 2 prints_sum [] ≡ Next 0 (Do (Print (line (signed_decimal (pos 3)))))
  pub ends : asks 2 prints_sum (Went ∷ []) ≡ Next 0 (End (Returned (Int (pos 7))))
  pub is_over : asks 2 prints_sum (Went ∷ Went ∷ []) ≡ Over

-- a loop of 5000 ticks rests once, after 4096 of them, and then ends after the others
pub record RestsOnce : Type 0 where
  pub rests : asks 3 counts [] ≡ Next 4096 (Do Rest)
  pub ends : asks 3 counts (Went ∷ []) ≡ Next 904 (End (Returned (Int (pos 5000))))

-- after the fork of two branches each is begun, then they are joined
pub record BeginsEach : Type 0 where
  pub first : asks 2 one_and_two (Went ∷ []) ≡ Next 0 (Begin 0)
  pub second : asks 2 one_and_two (Went ∷ Went ∷ []) ≡ Next 0 (Begin 1)
  pub joins : asks 2 one_and_two (Went ∷ Went ∷ Went ∷ []) ≡ Next 0 Join
  pub ends : asks 2 one_and_two (Joined [] ∷ Went ∷ Went ∷ Went ∷ []) ≡ Next 0 (End (Returned (Int (pos 0))))

abbrev pub roomy : Limits
roomy = record { steps = 10000; cells = 100 }

abbrev pub limits : ℕ → ℕ → Limits
limits steps cells = record { steps = steps; cells = cells }

-- the first branch traps, and the second counts but prints nothing; or both print, in order; and one step or one cell less is
-- too little
pub record BranchesInOrder : Type 0 where
  pub traps : elided divides (pos 0) roomy ≡ Came (Trapped Divide here) [] 6 3
  pub prints : elided divides (pos 1) roomy ≡ Came (Returned (Int (pos 0))) (codes "1\n2\n") 7 5
  pub suffices : elided divides (pos 1) (limits 7 5) ≡ Came (Returned (Int (pos 0))) (codes "1\n2\n") 7 5
  pub steps : elided divides (pos 1) (limits 6 5) ≡ Limited 6 5
  pub cells : elided divides (pos 1) (limits 7 4) ≡ Limited 7 4
  -- a trap comes to nothing where what follows it is over a limit
  pub trap_too : elided divides (pos 0) (limits 5 3) ≡ Limited 5 3

-- a loop of branches, which makes none where its count isn't positive
pub record CountsFromFive : Type 0 where
  pub two : elided prints_from_five (pos 2) roomy ≡ Came (Returned (Int (pos 9))) (codes "5\n6\n") 7 5
  pub zero : elided prints_from_five (pos 0) roomy ≡ Came (Returned (Int (pos 9))) [] 3 1
  pub negative : elided prints_from_five (negsuc 3) roomy ≡ Came (Returned (Int (pos 9))) [] 3 1

-- what branches write is read after them; out of bounds it traps
pub record ReadsWritten : Type 0 where
  pub three : elided fills_and_reads (pos 3) roomy ≡ Came (Returned (Int (pos 2))) [] 11 5
  pub too_short : elided fills_and_reads (pos 2) roomy ≡ Came (Trapped Index here) [] 9 4

-- 5000 ticks cost 5000 steps; of two traps the first in order counts, however long its branch takes; and a loop without an end
-- is over the limit
pub record RunsLoops : Type 0 where
  pub counts : elided (program_of [] [] 3 counts) (pos 0) roomy ≡ Came (Returned (Int (pos 5000))) [] 5001 1
  pub first_trap : elided traps_twice (pos 0) roomy ≡ Came (Trapped Index here) [] 1007 5
  pub endless : elided endless (pos 0) (limits 500 100) ≡ Limited 500 100
