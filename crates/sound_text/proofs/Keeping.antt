-- What the parts of a text that passes give of its typed program.
use Rattle.std.proofs.Common.{◌≤◌, ◌<◌, length, sym, subst, arith}
use Rattle.decl_headers.proofs.Shaped.{counted_when_named}
use Rattle.syntax_tree.specs.Size.{program_size}
use Rattle.syntax_tree.proofs.Sizes.{classes_counted}
use Rattle.syntax_tokens.proofs.Spans.{cuts-stand}
use Rattle.syntax_grammar.proofs.Promised.{named_in, sized_in}
use Rattle.sound_bodies.specs.Laws.{AcceptedIsWellTyped}
use Rattle.sound_text.specs.Laws.{AcceptedIsWidthBounded}
use Rattle.sound_lemmas.specs.Accepted.{SmallHasRows}
use Rattle.sound_lemmas.specs.Accepted.{IsAccepted as Passes}
use Rattle.syntax_grammar.specs.Texts.{TextsAreWritten}
use Rattle.lang_typed.specs.Laws.{WellTypedIsResolved}
use Rattle.lang_typed.specs.WellTyped.{WellTyped}
use Rattle.syntax_tree.specs.Nd.{program_uses_nd}
use Rattle.body_assembly.specs.Assembled.{program_of}
use Rattle.tool_front.specs.Judging.{Judged}
use Rattle.tool_front.proofs.Judged.{parts}
use Rattle.sound_text.specs.Laws.{Keeps, PassedKeeps}

pub passed_keeps : AcceptedIsWellTyped → WellTypedIsResolved → TextsAreWritten → AcceptedIsWidthBounded → SmallHasRows → PassedKeeps
passed_keeps well_typed resolved written narrow has_rows text place typed short passed =
    let program = passed.has_program.program in
    let accepted = parts (λ (j : Judged). j.typed) program typed passed.has_program.accepted in
    let derived = passed.has_program.derived in
    let sized : program_size program ≤ length text = sized_in (cuts-stand text passed.tokens passed.end passed.cut) derived in
    let small : program_size program ≤ 1048576 = omega (arith, sized, short) in
    let few : length program.classes < 4294967295 = omega (arith, small, classes_counted program) in
    let passes : Passes program accepted.table accepted.bodies = record {
      rows = has_rows program accepted.table (counted_when_named program few (named_in derived)) accepted.has_table (omega (arith, small));
      checked = accepted.checked;
    } in
    let made = program_of accepted.table program.names (program_uses_nd program) accepted.bodies in
    let well : WellTyped made = well_typed program accepted.table accepted.bodies (written text passed.tokens passed.end program short passed.cut derived) passes in
    let runs = resolved made well in
    subst Keeps (sym accepted.so) (record {
      well_typed = well;
      resolved = runs.0;
      has_main = runs.1;
      narrow = λ code is. narrow program accepted.table accepted.bodies small passes code is;
    })
