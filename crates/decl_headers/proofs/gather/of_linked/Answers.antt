use Rattle.std.proofs.Common.{◌≡◌, ℕ, List, Option, length, replicate, slice_index_or, codes, sym, ap, subst, ◌∙◌}
use Rattle.decl_headers.specs.declared.header.Header.{Header}
use Rattle.decl_headers.specs.declared.header.RegionRow.{RegionRow}
use Rattle.decl_headers.specs.First.{parents_in}
use Rattle.decl_headers.specs.Gathered.{header_rows, all_regions, name_number}
use Rattle.decl_headers.specs.Headers.{PlainHeaders, class_in}
use Rattle.decl_headers.specs.Numbering.{counted_way, counted_rows}
use Rattle.decl_headers.specs.Way.{IsCounted, IsForest, way_of}
use Rattle.decl_headers.proofs.Gathered.{parents_gathered, counted_found}
use Rattle.decl_headers.proofs.Second.{parents_counted, sound_from}
use Rattle.decl_headers.proofs.gather.of_linked.Goals as goal

pub of_rows-requires-clause-forest : goal.of_rows-requires-clause-forest
of_rows-requires-clause-forest c =
    let classes = c.args.program.now.classes in
    let above : c.as_slice-3.result.now ≡ parents_in classes = c.as_slice-3.ensures ∙ c.requires.parents in
    let fields : ℕ → ℕ = λ at. slice_index_or (counted_way classes (parents_in classes) (replicate (length classes) 0) c.as_slice-4.result.now) at 0 in
    let same : c.in_ok-rows.rows ≡ header_rows (parents_in classes) fields 0 classes =
    c.in_ok-rows.ensures
    ∙ ap (λ cs. counted_rows cs c.as_slice-3.result.now c.as_slice-4.result.now) c.as_slice-classes.ensures
    ∙ ap (λ ps. counted_rows classes ps c.as_slice-4.result.now) above in
    subst IsForest (sym (parents_gathered classes c.in_ok-rows.rows fields same)) (sound_from classes c.requires.counted c.requires.first)

pub of_rows-requires-clause-found : goal.of_rows-requires-clause-found
of_rows-requires-clause-found c = λ name.
    let made = c.in_ok-rows.ensures in
    let classes = c.args.program.now.classes in
    c.requires.named name
    ∙ counted_found classes c.as_slice-3.result.now c.as_slice-4.result.now name
    ∙ ap (λ cs. class_in (counted_rows cs c.as_slice-3.result.now c.as_slice-4.result.now) name) (sym c.as_slice-classes.ensures)
    ∙ ap (λ rows. class_in rows name) (sym made)

pub returns-clause-made : goal.returns-clause-made
returns-clause-made c =
    let classes = c.args.program.now.classes in
    let parents = parents_in classes in
    let made : List Header → List RegionRow → Option ℕ → PlainHeaders = λ rows regions main. record { rows = rows; regions = regions; main = main } in
    let above : c.as_slice-3.result.now ≡ parents = c.as_slice-3.ensures ∙ c.requires.parents in
    let along : c.as_slice.result.now ≡ parents = c.as_slice.ensures ∙ c.requires.parents in
    let steps : c.as_slice-4.result.now ≡ way_of parents =
    c.as_slice-4.ensures ∙ c.in_ok-steps.ensures (subst IsCounted (sym along) (parents_counted classes c.requires.counted)) ∙ ap way_of along in
    let rows : c.in_ok-rows.rows ≡ counted_rows classes parents (way_of parents) =
    c.in_ok-rows.ensures
    ∙ ap (λ cs. counted_rows cs c.as_slice-3.result.now c.as_slice-4.result.now) c.as_slice-classes.ensures
    ∙ ap (λ ps. counted_rows classes ps c.as_slice-4.result.now) above
    ∙ ap (counted_rows classes parents) steps in
    let regions : c.in_ok-regions.regions ≡ all_regions 0 classes = c.in_ok-regions.ensures ∙ ap (all_regions 0) c.as_slice-classes.ensures in
    let main : c.name_of-main_name.result ≡ name_number c.args.program.now.names (codes "Main") =
    c.name_of-main_name.ensures ∙ ap (λ names. name_number names c.as_slice-6.result.now) c.as_slice-5.ensures ∙ ap (name_number c.args.program.now.names) c.as_slice-6.ensures in
    c.in_ok-of_rows.ensures
    ∙ ap (λ rs. made rs c.in_ok-regions.regions c.name_of-main_name.result) rows
    ∙ ap (λ gs. made (counted_rows classes parents (way_of parents)) gs c.name_of-main_name.result) regions
    ∙ ap (made (counted_rows classes parents (way_of parents)) (all_regions 0 classes)) main
