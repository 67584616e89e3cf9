-- A bit that is set.
use Rattle.std.proofs.Common.{arith, ◌<◌, ◌-◌, ◌*◌, ◌^◌, ◌%◌, ap, sym, subst, ◌∙◌}
use Rattle.std.specs.Prelude.{bit_or}
use Rattle.std.proofs.lemmas.Nat.{or_lt}
use Rattle.std.specs.Int.{bit_at}
use Rattle.exec_world.specs.Words.{InWord}
use Rattle.exec_world.proofs.Bits.{set_there, set_other, not_zero}
use Rattle.exec_world.proofs.word.with_place.Goals as goal

pub returns-clause-there : goal.returns-clause-there
returns-clause-there c = subst (λ b. InWord (bit_or c.args.word b) c.args.place) (sym c.bit.ensures) (set_there c.args.word c.args.place c.requires)

pub returns-clause-others : goal.returns-clause-others
returns-clause-others c = λ k lt apart.
    ap (λ b. bit_at (bit_or c.args.word b) (63 - k)) c.bit.ensures ∙ set_other c.args.word c.args.place k c.requires lt apart

pub returns-clause-word : goal.returns-clause-word
returns-clause-word c = (
  not_zero (bit_or c.args.word c.bit.result) c.args.place (returns-clause-there c),
  subst (λ b. bit_or c.args.word b < 2 ^ 64) (sym c.bit.ensures)
      (or_lt 64 c.args.word (1 * 2 ^ (63 - c.args.place) % 2 ^ 64) c.ranges.word.fits (omega arith)),
)
