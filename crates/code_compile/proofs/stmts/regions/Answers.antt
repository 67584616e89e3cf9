use Rattle.std.proofs.Common.{◌∙◌, ap, sym, map}
use Rattle.std.proofs.lemmas.List.{drop_all}
use Rattle.code_scheme.specs.Scheme.{regions_piece}
use Rattle.code_compile.specs.Emitted.{emitted_of, after}
use Rattle.code_compile.proofs.Operands.{next_at}
use Rattle.code_compile.proofs.Statements.{one_region, no_region}
use Rattle.code_compile.proofs.stmts.regions.Goals as goal

pub loop-region-preserved : goal.loop-region-preserved
loop-region-preserved c =
    one_region (emitted_of c.loop-region.out) (emitted_of c.line.new.self) c.args.place _ _ _ (next_at _ c.loop-region.region-index _ c.loop-region-test.true) c.in_ok-line.ensures
    ∙ c.loop-region.invariant

pub returns : goal.returns
returns c =
    record {
      is = sym (no_region (emitted_of c.loop-region.out) c.args.place _ (drop_all c.loop-region.region-index _ c.loop-region-test.false)) ∙ c.loop-region.invariant
          ∙ ap (λ xs. after (emitted_of c.args.out.now) (λ k p. regions_piece c.args.place (map (λ r. r.number) xs))) c.as_slice-region-items.ensures;
    }
