-- A bit that is cleared.
use Rattle.std.proofs.Common.{◌-◌, ap, sym, subst, ◌∙◌}
use Rattle.std.specs.Prelude.{bit_and}
use Rattle.std.specs.Int.{bit_at, bit_not, w64}
use Rattle.exec_world.specs.Words.{InWord}
use Rattle.exec_world.proofs.Bits.{clear_there, clear_other}
use Rattle.exec_world.proofs.word.without_place.Goals as goal

pub returns-clause-gone : goal.returns-clause-gone
returns-clause-gone c =
    subst (λ b. InWord (bit_and c.args.word (bit_not w64 b)) c.args.place → ⊥) (sym c.bit.ensures) (clear_there c.args.word c.args.place c.requires)

pub returns-clause-others : goal.returns-clause-others
returns-clause-others c = λ k lt apart.
    ap (λ b. bit_at (bit_and c.args.word (bit_not w64 b)) (63 - k)) c.bit.ensures ∙ clear_other c.args.word c.args.place k c.requires lt apart
