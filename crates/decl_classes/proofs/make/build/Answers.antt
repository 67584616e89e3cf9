use Rattle.std.proofs.Common.{◌≡◌, ◌∙◌, ℕ, Bool, List, Option, None, Some, Ok, Err, refl, ap, sym, subst}
use Rattle.lang_base.specs.declared.refusal.Refusal.{Refusal}
use Rattle.lang_base.specs.declared.refusal.Stop.TheVariants as stop
use Rattle.lang_base.specs.Refused.{IfRefused}
use Rattle.lang_base.specs.Types.{Ordered}
use Rattle.syntax_tree.specs.declared.class.Class.{Class}
use Rattle.syntax_tree.specs.declared.class.Program.{Program}
use Rattle.decl_headers.specs.declared.header.Headers.{Headers}
use Rattle.decl_headers.specs.Gathered.{headers_in}
use Rattle.decl_headers.specs.Passes.{first_of}
use Rattle.decl_resolve.proofs.Reported.{passed_on, refused_map}
use Rattle.decl_table.specs.declared.table.Table.{Table}
use Rattle.decl_table.specs.Table.{supers_of}
use Rattle.decl_reach.specs.Edges.{forks_in}
use Rattle.decl_classes.specs.Build.{text_faults, table_faults, check_table}
use Rattle.decl_classes.specs.Tables.{numbered_table, table_of}
use Rattle.decl_classes.proofs.Rising.{ordered_table}
use Rattle.decl_classes.proofs.Tables.{named, refused_by_names, answered}
use Rattle.decl_classes.proofs.make.build.Goals as goal

-- the table with what forks
table_is : (program : Program) (read table : Table) (classes : List Class) (forks : List Bool) → table ≡ record read { forks = forks } → read ≡ numbered_table program → forks ≡ forks_in read classes → classes ≡ program.classes → table ≡ table_of program
table_is program read table classes forks is read_is forks_are classes_are =
    is
    ∙ ap (λ fs. record read { forks = fs }) (forks_are ∙ ap (forks_in read) classes_are)
    ∙ ap (λ (t : Table). record t { forks = forks_in t program.classes }) read_is

whole_is : (program : Program) (table : Table) (names : List (List ℕ)) (found : Option Refusal) → table ≡ table_of program → names ≡ program.names → first_of (table_faults table names) ≡ found → first_of (table_faults (table_of program) program.names) ≡ found
whole_is program table names found is names_are h =
    ap (λ (t : Table). first_of (table_faults t program.names)) (sym is) ∙ ap (λ (ns : List (List ℕ)). first_of (table_faults table ns)) (sym names_are) ∙ h

text_is : (program : Program) (headers : Headers) (found : Option Refusal) → headers ≡ headers_in program → first_of (text_faults headers program.classes) ≡ found → first_of (text_faults (headers_in program) program.classes) ≡ found
text_is program headers found is h = ap (λ (hs : Headers). first_of (text_faults hs program.classes)) (sym is) ∙ h

pub of_signatures-requires-clause-headers : goal.of_signatures-requires-clause-headers
of_signatures-requires-clause-headers c = (named c.args.program.now c.in_ok-headers.headers c.in_ok-headers.ensures.made).2

pub of_signatures-requires-clause-first : goal.of_signatures-requires-clause-first
of_signatures-requires-clause-first c = (named c.args.program.now c.in_ok-headers.headers c.in_ok-headers.ensures.made).0

pub returns-clause-made : goal.returns-clause-made
returns-clause-made c =
    let program = c.args.program.now in
    let read = c.in_ok-read.read in
    let table = c.with_forks-table.result in
    let n = named program c.in_ok-headers.headers c.in_ok-headers.ensures.made in
    let is = table_is program read table c.as_slice.result.now c.in_ok-forks.forks c.with_forks-table.ensures c.in_ok-read.ensures.made c.in_ok-forks.ensures c.as_slice.ensures in
    answered program None None n.0 n.1
    (text_is program c.in_ok-headers.headers None n.2 c.in_ok-read.ensures.free)
    (whole_is program table c.as_slice-2.result.now None is c.as_slice-2.ensures c.in_ok-judge.ensures.judged)
    ∙ ap Ok (sym is)

pub returns-clause-ordered : goal.returns-clause-ordered
returns-clause-ordered c =
    let program = c.args.program.now in
    let is = table_is program c.in_ok-read.read c.with_forks-table.result c.as_slice.result.now c.in_ok-forks.forks c.with_forks-table.ensures c.in_ok-read.ensures.made c.in_ok-forks.ensures c.as_slice.ensures in
    subst (λ (t : Table). Ordered (supers_of t)) (sym is) (ordered_table program c.requires.0)

pub returns-in_err-judge-clause-refused : goal.returns-in_err-judge-clause-refused
returns-in_err-judge-clause-refused c =
    let program = c.args.program.now in
    let table = c.with_forks-table.result in
    let e = c.in_err-judge.field-0.0 in
    let n = named program c.in_ok-headers.headers c.in_ok-headers.ensures.made in
    let is = table_is program c.in_ok-read.read table c.as_slice.result.now c.in_ok-forks.forks c.with_forks-table.ensures c.in_ok-read.ensures.made c.in_ok-forks.ensures c.as_slice.ensures in
    passed_on c.from_residual-in_err-judge.result e (λ s. IfRefused s (λ fault. check_table program ≡ Err fault)) c.from_residual-in_err-judge.ensures.1
    (refused_map e {Q = λ fault. check_table program ≡ Err fault} c.in_err-judge.ensures.refused
    (λ fault here.
    answered program None (Some fault) n.0 n.1
    (text_is program c.in_ok-headers.headers None n.2 c.in_ok-read.ensures.free)
    (whole_is program table c.as_slice-2.result.now (Some fault) is c.as_slice-2.ensures here)))

pub returns-in_err-read-clause-refused : goal.returns-in_err-read-clause-refused
returns-in_err-read-clause-refused c =
    let program = c.args.program.now in
    let e = c.in_err-read.field-0.0 in
    let n = named program c.in_ok-headers.headers c.in_ok-headers.ensures.made in
    passed_on c.from_residual-in_err-read.result e (λ s. IfRefused s (λ fault. check_table program ≡ Err fault)) c.from_residual-in_err-read.ensures.1
    (refused_map e {Q = λ fault. check_table program ≡ Err fault} c.in_err-read.ensures.refused
    (λ fault here. answered program (Some fault) (first_of (table_faults (table_of program) program.names)) n.0 n.1 (text_is program c.in_ok-headers.headers (Some fault) n.2 here) refl))

pub returns-in_err-forks-clause-refused : goal.returns-in_err-forks-clause-refused
returns-in_err-forks-clause-refused c =
    passed_on c.from_residual-in_err-forks.result stop.NoMemory (λ s. IfRefused s (λ fault. check_table c.args.program.now ≡ Err fault)) c.from_residual-in_err-forks.ensures.1 tt

pub returns-in_err-headers-clause-refused : goal.returns-in_err-headers-clause-refused
returns-in_err-headers-clause-refused c =
    let program = c.args.program.now in
    let e = c.in_err-headers.field-0.0 in
    passed_on c.from_residual.result e (λ s. IfRefused s (λ fault. check_table program ≡ Err fault)) c.from_residual.ensures.1
    (refused_map e {Q = λ fault. check_table program ≡ Err fault} c.in_err-headers.ensures.refused (refused_by_names program))
