use Rattle.std.proofs.Common.{◌∙◌, None, ap, map, subst, arith}
use Rattle.std.proofs.lemmas.List.{length-map}
use Rattle.decl_headers.specs.Finding.{FindsRegions}
use Rattle.decl_headers.specs.Numbering.{with_all_params}
use Rattle.decl_headers.proofs.Gathered.{params_gathered}
use Rattle.decl_headers.proofs.header.Headers.of_rows.Goals as goal

pub invariant_of-result : goal.invariant_of-result
invariant_of-result c = (
  record {
    classes_found = c.requires.found;
    params_found = λ owner name. c.in_ok-params.ensures owner name ∙ ap (λ rows. with_all_params 0 rows owner name None) c.as_slice.ensures ∙ params_gathered c.args.rows owner name (let l = c.requires.forest.counted in omega (arith, length-map c.args.rows (λ row. row.parent)));
    regions_found = subst (λ rows. FindsRegions rows c.in_ok-region_numbers.region_numbers) c.as_slice-2.ensures c.in_ok-region_numbers.ensures;
    marked = c.in_ok-atomic.ensures ∙ ap (map (λ row. row.is_atomic)) c.as_slice-3.ensures;
  },
  c.requires.forest,
)
